use Rattle.std.proofs.Common.{◌≡◌, ◌∙◌, ◌++◌, ap, subst, sym}
use Rattle.std.specs.Result.{result_err}
use Rattle.wav_file.specs.declared.rates.Rates.{Rates}
use Rattle.wav_file.specs.Reading.{given, samples_in}
use Rattle.wav_file.specs.Held.{Held, answer_of, fault_of_part, made, step_of}
use Rattle.wav_file.proofs.RestLemmas.{given_next, fault_next, fault_again, stands_next}
use Rattle.wav_file.proofs.reader.WavIn.push.Goals as goal

pub returns : goal.returns
returns c =
    let held = c.args.self.now in
    let octet = c.args.octet in
    let next = c.take-sample.new.self in
    let sample = c.take-sample.result in
    let took = c.take-sample.ensures in
    let P : Held → Type 0 = λ h. c.answer.result ≡ answer_of (fault_of_part h.part) sample in
    let Q : Rates → Type 0 = λ rates. made next sample ≡ step_of rates held.position held.part held.unit octet in
    let stepped = λ (rates : Rates) (same : held.rates ≡ rates). subst Q same took.step in
    let told : c.answer.result ≡ answer_of (fault_of_part next.part) sample = subst P c.self.view_is c.answer.ensures in
    record {
      stands_for = λ rates octets stands. stands_next rates held octets octet stands took.fitted next sample
          (stepped rates stands.takes) took.fits took.rates took.place;
      sample = λ rates octets stands. given_next rates held octets octet stands took.fitted next sample
          (stepped rates stands.takes) took.fits ∙ ap (λ answer. samples_in rates octets ++ given answer) (sym told);
      fault = λ rates octets stands. fault_next rates held octets octet stands took.fitted next sample
          (stepped rates stands.takes) took.fits ∙ ap result_err (sym told);
      again = λ rates octets fault stands shown. told
          ∙ fault_again rates held octets octet fault sample next stands took.fitted (stepped rates stands.takes) shown;
    }
