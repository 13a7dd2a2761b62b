use Rattle.std.proofs.Common.{List, ℕ, ◌≡◌, ◌∙◌, subst}
use Rattle.wav_file.specs.declared.rates.Rates.{Rates}
use Rattle.wav_file.specs.Reading.{rate_in}
use Rattle.wav_file.specs.Held.{Held, StandsFor}
use Rattle.wav_file.proofs.RestLemmas.{rate_now}
use Rattle.wav_file.proofs.reader.WavIn.rate.Goals as goal

pub returns : goal.returns
returns c =
    let P : Held → Type 0 = λ held. (rates : Rates) (octets : List ℕ) → StandsFor rates held octets
    → c.rate.result ≡ rate_in rates octets in
    subst P c.self.view_is (λ rates octets stands. c.rate.ensures ∙ rate_now rates _ octets stands c.self.invariant)
