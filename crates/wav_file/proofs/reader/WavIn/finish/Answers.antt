use Rattle.std.proofs.Common.{List, ℕ, ◌≡◌, ◌∙◌, subst}
use Rattle.wav_file.specs.declared.rates.Rates.{Rates}
use Rattle.wav_file.specs.Reading.{verdict_of}
use Rattle.wav_file.specs.Held.{Held, StandsFor}
use Rattle.wav_file.proofs.RestLemmas.{verdict_now}
use Rattle.wav_file.proofs.reader.WavIn.finish.Goals as goal

pub returns : goal.returns
returns c =
    let P : Held → Type 0 = λ held. (rates : Rates) (octets : List ℕ) → StandsFor rates held octets
    → c.verdict.result ≡ verdict_of rates octets in
    subst P c.self.view_is (λ rates octets stands. c.verdict.ensures
    ∙ verdict_now rates _ octets stands c.self.invariant)
