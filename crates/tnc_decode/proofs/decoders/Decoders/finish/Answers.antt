use Rattle.tnc_decode.proofs.Common.{◌≡◌, arith, ◌<◌, ◌+◌, ◌++◌, ◌/◌, ◌^◌, ℤ, List, length, sym, subst, IfOk, IfOk-weaker, StandsFor}
use Rattle.tnc_decode.proofs.Common.{AreMergedBetween, settled, Decoders, Modem, HasDecoded, position_of, settled_count}
use Rattle.tnc_decode.proofs.Common.{AreGivenRest, decimated, settled_by_all}
use Rattle.hf_modem.specs.HeldDecoder.{StandsFor as HfStandsFor}
use Rattle.hf_modem.specs.MergedItems.{AreMergedBetween as AreHfMergedBetween}
use Rattle.sensitive_receiver.specs.HeldDecoder.{StandsFor as SensitiveStandsFor}
use Rattle.sensitive_receiver.specs.MergedItems.{AreMergedBetween as AreSensitiveMergedBetween}
use Rattle.tnc_decode.specs.declared.decoders.Decoders.TheVariants.{Plain, Wide, Sensitive, WideSensitive, ShortWave}
use Rattle.tnc_decode.specs.declared.decoders.Decoders.TheVariants.{SensitiveShortWave, SensitiveFx25}
use Rattle.hf_sensitive.specs.HeldDecoder.{StandsFor as HfSensitiveStandsFor}
use Rattle.hf_sensitive.specs.MergedItems.{AreMergedBetween as AreSensitiveHfBetween, settled as hf_settled}
use Rattle.tnc_decode.proofs.SensitiveHfLemmas.{sensitive_hf_finish}
use Rattle.wide_input.specs.HeldDecoder.{StandsFor as WideStandsFor}
use Rattle.wide_input.specs.HeldSensitive.{StandsFor as WideSensitiveStandsFor}
use Rattle.wide_input.specs.MergedItems.{AreWideRest, settled_ends}
use Rattle.resampler.specs.Filtered.{filtered}
use Rattle.tnc_decode.proofs.ModemLemmas.{plain_finish, short_wave_finish, wide_finish}
use Rattle.tnc_decode.proofs.SensitiveLemmas.{sensitive_finish, wide_sensitive_finish}
use Rattle.fx25_receiver.specs.declared.heard.Heard.{Heard}
use Rattle.fx25_receiver.specs.WithoutBlocks.{candidate_of}
use Rattle.sensitive_blocks.specs.Heard.{AreMerged as AreMergedOfAll}
use Rattle.sensitive_blocks.specs.Held.{StandsFor as BlocksStandFor}
use Rattle.std.specs.Prelude.{map}
use Rattle.tnc_decode.proofs.Fx25Lemmas.{fx25_finish}
use Rattle.tnc_decode.proofs.SensitiveFx25Lemmas.{sensitive_fx25_finish}
use Rattle.tnc_decode.proofs.decoders.Decoders.finish.Goals as goal

pub returns-in-Plain : goal.returns-in-Plain
returns-in-Plain c =
    let decoder = c.in-Plain.decoder in
    let P : Decoders → Type 0 = λ self. position_of self + 15 < 2 ^ 48
    → IfOk c.finish.result (λ items. (modem : Modem) (x : List ℤ) → HasDecoded modem self x
    → AreGivenRest modem (settled_count modem x) x items.items) in
    record {
      rest = subst P (sym c.in-Plain.is) (λ room. IfOk-weaker c.finish.result
          (λ items. (x : List ℤ) → length x < 2 ^ 48 → StandsFor decoder x
          → AreMergedBetween (length x) (length x + 1) x items.items)
          (λ items. (modem : Modem) (x : List ℤ) → HasDecoded modem (Plain decoder) x
          → AreGivenRest modem (settled_count modem x) x items.items)
          (λ items rest. plain_finish decoder items.items (omega arith) rest)
          c.finish.ensures.rest) c.requires.room;
    }

pub returns-in-ShortWave : goal.returns-in-ShortWave
returns-in-ShortWave c =
    let decoder = c.in-ShortWave.decoder in
    let result = c.finish-in-ShortWave.result in
    let P : Decoders → Type 0 = λ self. position_of self + 15 < 2 ^ 48
    → IfOk result (λ items. (modem : Modem) (x : List ℤ) → HasDecoded modem self x
    → AreGivenRest modem (settled_count modem x) x items.items) in
    record {
      rest = subst P (sym c.in-ShortWave.is) (λ room. IfOk-weaker result
          (λ items. (x : List ℤ) → length x < 2 ^ 48 → HfStandsFor decoder x
          → AreHfMergedBetween (length x / 4) (length x / 4 + 1) x items.items)
          (λ items. (modem : Modem) (x : List ℤ) → HasDecoded modem (ShortWave decoder) x
          → AreGivenRest modem (settled_count modem x) x items.items)
          (λ items rest. short_wave_finish decoder items.items (omega arith) rest)
          c.finish-in-ShortWave.ensures.rest) c.requires.room;
    }

pub returns-in-Sensitive : goal.returns-in-Sensitive
returns-in-Sensitive c =
    let decoder = c.in-Sensitive.decoder in
    let result = c.finish-in-Sensitive.result in
    let P : Decoders → Type 0 = λ self. position_of self + 15 < 2 ^ 48 → IfOk result
    (λ items. (modem : Modem) (x : List ℤ) → HasDecoded modem self x
    → AreGivenRest modem (settled_count modem x) x items.items) in
    record {
      rest = subst P (sym c.in-Sensitive.is) (λ room. IfOk-weaker result
          (λ items. (x : List ℤ) → length x < 2 ^ 48 → SensitiveStandsFor decoder x
          → AreSensitiveMergedBetween (settled (length x)) (length x + 1) x items.items)
          (λ items. (modem : Modem) (x : List ℤ) → HasDecoded modem (Sensitive decoder) x
          → AreGivenRest modem (settled_count modem x) x items.items)
          (λ items rest. sensitive_finish decoder items.items (omega arith) rest)
          c.finish-in-Sensitive.ensures.rest) c.requires.room;
    }

pub returns-in-Wide : goal.returns-in-Wide
returns-in-Wide c =
    let decoder = c.in-Wide.decoder in
    let result = c.finish-in-Wide.result in
    let P : Decoders → Type 0 = λ self. IfOk result (λ items. (modem : Modem) (x : List ℤ) → HasDecoded modem self x
    → AreGivenRest modem (settled_count modem x) x items.items) in
    record {
      rest = subst P (sym c.in-Wide.is) (IfOk-weaker result
          (λ items. (x : List ℤ) → WideStandsFor decoder x
          → AreWideRest (settled_ends (length x)) (filtered x) items.items)
          (λ items. (modem : Modem) (x : List ℤ) → HasDecoded modem (Wide decoder) x
          → AreGivenRest modem (settled_count modem x) x items.items)
          (λ items rest. wide_finish decoder items.items rest)
          c.finish-in-Wide.ensures.rest);
    }

pub returns-in-WideSensitive : goal.returns-in-WideSensitive
returns-in-WideSensitive c =
    let decoder = c.in-WideSensitive.decoder in
    let result = c.finish-in-WideSensitive.result in
    let P : Decoders → Type 0 = λ self. IfOk result (λ items. (modem : Modem) (x : List ℤ) → HasDecoded modem self x
    → AreGivenRest modem (settled_count modem x) x items.items) in
    record {
      rest = subst P (sym c.in-WideSensitive.is) (IfOk-weaker result
          (λ items. (x : List ℤ) → WideSensitiveStandsFor decoder x
          → AreSensitiveMergedBetween (settled_by_all (length x)) (length (decimated x) + 1) (decimated x) items.items)
          (λ items. (modem : Modem) (x : List ℤ) → HasDecoded modem (WideSensitive decoder) x
          → AreGivenRest modem (settled_count modem x) x items.items)
          (λ items rest. wide_sensitive_finish decoder items.items rest)
          c.finish-in-WideSensitive.ensures.rest);
    }

pub returns-in-Fx25 : goal.returns-in-Fx25
returns-in-Fx25 c =
    let decoder = c.in-Fx25.decoder in
    let items = c.finish-in-Fx25.result.items in
    let P : Decoders → Type 0 = λ self. (modem : Modem) (x : List ℤ) → HasDecoded modem self x
    → AreGivenRest modem (settled_count modem x) x items in
    record { rest = subst P (sym c.in-Fx25.is) (fx25_finish decoder items c.finish-in-Fx25.ensures) }

pub returns-in-SensitiveShortWave : goal.returns-in-SensitiveShortWave
returns-in-SensitiveShortWave c =
    let decoder = c.in-SensitiveShortWave.decoder in
    let result = c.finish-in-SensitiveShortWave.result in
    let P : Decoders → Type 0 = λ self. position_of self + 15 < 2 ^ 48
    → IfOk result (λ items. (modem : Modem) (x : List ℤ) → HasDecoded modem self x
    → AreGivenRest modem (settled_count modem x) x items.items) in
    record {
      rest = subst P (sym c.in-SensitiveShortWave.is) (λ room. IfOk-weaker result
          (λ items. (x : List ℤ) → length x < 2 ^ 48 → HfSensitiveStandsFor decoder x
          → AreSensitiveHfBetween (hf_settled (length x)) (length x / 4 + 1) x items.items)
          (λ items. (modem : Modem) (x : List ℤ) → HasDecoded modem (SensitiveShortWave decoder) x
          → AreGivenRest modem (settled_count modem x) x items.items)
          (λ items rest. sensitive_hf_finish decoder items.items (omega arith) rest)
          c.finish-in-SensitiveShortWave.ensures.rest) c.requires.room;
    }

pub returns-in-SensitiveFx25 : goal.returns-in-SensitiveFx25
returns-in-SensitiveFx25 c =
    let decoder = c.in-SensitiveFx25.decoder in
    let result = c.finish-in-SensitiveFx25.result in
    let P : Decoders → Type 0 = λ self. IfOk result (λ items. (modem : Modem) (x : List ℤ) → HasDecoded modem self x
    → AreGivenRest modem (settled_count modem x) x items.items) in
    record {
      rest = subst P (sym c.in-SensitiveFx25.is) (IfOk-weaker result
          (λ items. (x : List ℤ) (given : List Heard) → BlocksStandFor decoder x given
          → (heard : List Heard) × AreMergedOfAll x (given ++ heard) × (items.items ≡ map candidate_of heard))
          (λ items. (modem : Modem) (x : List ℤ) → HasDecoded modem (SensitiveFx25 decoder) x
          → AreGivenRest modem (settled_count modem x) x items.items)
          (λ items rest. sensitive_fx25_finish decoder items.items rest)
          c.finish-in-SensitiveFx25.ensures.rest);
    }
