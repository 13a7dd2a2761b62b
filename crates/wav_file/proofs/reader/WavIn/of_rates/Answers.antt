use Rattle.std.proofs.Common.{List, ℕ, [], subst, sym}
use Rattle.wav_file.specs.declared.part.Part.TheVariants.{Head}
use Rattle.wav_file.specs.Held.{StandsFor}
use Rattle.wav_file.proofs.RestLemmas.{stands_new}
use Rattle.wav_file.proofs.reader.WavIn.of_rates.Goals as goal

pub returns : goal.returns
returns c =
    let P : List ℕ → Type 0 = λ unit. StandsFor c.args.rates
    (record { rates = c.args.rates; position = 0; part = Head; unit = unit }) [] in
    record { stands_for = subst P (sym c.new.ensures) (stands_new c.args.rates) }
