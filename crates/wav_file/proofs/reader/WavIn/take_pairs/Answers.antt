use Rattle.std.proofs.Common.{◌≡◌, ◌++◌, ℕ, List, length, take, refl, subst}
use Rattle.wav_file.specs.declared.rates.Rates.{Rates}
use Rattle.wav_file.specs.Reading.{fault_in, samples_in}
use Rattle.wav_file.specs.Samples.{samples}
use Rattle.wav_file.specs.Held.{Held, StandsFor, pairs_ahead}
use Rattle.wav_file.proofs.PairLemmas.{few, samples_after, fault_after, stands_after}
use Rattle.wav_file.proofs.reader.WavIn.take_pairs.Goals as goal

pub returns : goal.returns
returns c =
    let octets : List ℕ = c.args.octets.now in
    let count : ℕ = c.pairs_ahead-count.result in
    let next : Held = record {
      rates = c.self.inside.rates;
      position = c.saturating_add-self-inside.result;
      part = c.after_pairs-self-inside.result;
      unit = c.self.inside.unit.items;
    } in
    let Told : Held → Type 0 = λ held. (rates : Rates) (before : List ℕ) → StandsFor rates held before
    → StandsFor rates next (before ++ take count octets)
    × (samples_in rates (before ++ take count octets) ≡ samples_in rates before ++ samples (take count octets))
    × (fault_in rates (before ++ take count octets) ≡ fault_in rates before) in
    let told : Told c.args.self.now = subst Told c.self.view_is (λ rates before stands. (
      stands_after rates _ before octets count stands c.self.invariant
          c.pairs_ahead-count.ensures next refl c.after_pairs-self-inside.ensures refl c.saturating_add-self-inside.ensures,
      samples_after rates _ before octets count stands c.self.invariant
          c.pairs_ahead-count.ensures next refl c.after_pairs-self-inside.ensures refl c.saturating_add-self-inside.ensures,
      fault_after rates _ before octets count stands c.self.invariant
          c.pairs_ahead-count.ensures next refl c.after_pairs-self-inside.ensures refl c.saturating_add-self-inside.ensures,
    )) in
    record {
      most = subst (λ held. count ≡ pairs_ahead held.part (length octets)) c.self.view_is c.pairs_ahead-count.ensures;
      count = few c.self.inside.part octets count c.pairs_ahead-count.ensures;
      stands_for = λ rates before stands. (told rates before stands).0;
      samples = λ rates before stands. (told rates before stands).1;
      fault = λ rates before stands. (told rates before stands).2;
    }
