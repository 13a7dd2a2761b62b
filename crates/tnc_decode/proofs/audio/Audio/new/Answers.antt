use Rattle.tnc_decode.proofs.Common.{[], sym, subst, Rates, AudioForm, File, rates_of, HasTakenAt}
use Rattle.tnc_decode.proofs.AudioLemmas.{new_file}
use Rattle.tnc_decode.proofs.audio.Audio.new.Goals as goal

pub returns-in-Wav : goal.returns-in-Wav
returns-in-Wav c =
    let rates : Rates = rates_of c.args.words.receiving in
    subst (λ (form : AudioForm). HasTakenAt rates form (File c.new_file.result) []) (sym c.in-Wav.is)
    (new_file rates c.new_file.result c.new_file.ensures)
