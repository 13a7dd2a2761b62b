use Rattle.tnc_decode.proofs.Common.{◌/◌, ◌++◌, ℤ, List, length, sym, subst, IfOk, IfOk-weaker, StandsFor}
use Rattle.tnc_decode.proofs.Common.{AreMergedBetween, settled, filtered, settled_ends, AreWideMergedBetween, Decoders, Modem}
use Rattle.tnc_decode.proofs.Common.{HasDecoded, settled_count, AreGivenBetween, decimated, settled_by_all}
use Rattle.hf_modem.specs.HeldDecoder.{StandsFor as HfStandsFor}
use Rattle.hf_modem.specs.MergedItems.{AreMergedBetween as AreHfMergedBetween}
use Rattle.sensitive_receiver.specs.HeldDecoder.{StandsFor as SensitiveStandsFor}
use Rattle.sensitive_receiver.specs.MergedItems.{AreMergedBetween as AreSensitiveMergedBetween}
use Rattle.wide_input.specs.HeldDecoder.{StandsFor as WideStandsFor}
use Rattle.wide_input.specs.HeldSensitive.{StandsFor as WideSensitiveStandsFor}
use Rattle.tnc_decode.specs.declared.decoders.Decoders.TheVariants.{Plain, Wide, Sensitive, WideSensitive, ShortWave, Fx25}
use Rattle.tnc_decode.specs.declared.decoders.Decoders.TheVariants.{SensitiveShortWave, SensitiveFx25}
use Rattle.hf_sensitive.specs.HeldDecoder.{StandsFor as HfSensitiveStandsFor}
use Rattle.hf_sensitive.specs.MergedItems.{AreMergedBetween as AreSensitiveHfBetween, settled as hf_settled}
use Rattle.tnc_decode.proofs.SensitiveHfLemmas.{sensitive_hf_block}
use Rattle.tnc_decode.proofs.ModemLemmas.{plain_block, wide_block, short_wave_block}
use Rattle.tnc_decode.proofs.SensitiveLemmas.{sensitive_block, wide_sensitive_block}
use Rattle.std.specs.Prelude.{map}
use Rattle.tnc_decode.proofs.Common.{◌≡◌}
use Rattle.fx25_receiver.specs.declared.heard.Heard.{Heard}
use Rattle.fx25_receiver.specs.Held.{StandsFor as Fx25StandsFor}
use Rattle.sensitive_blocks.specs.Held.{StandsFor as BlocksStandFor}
use Rattle.fx25_receiver.specs.WithoutBlocks.{candidate_of}
use Rattle.tnc_decode.proofs.Fx25Lemmas.{fx25_block}
use Rattle.tnc_decode.proofs.SensitiveFx25Lemmas.{sensitive_fx25_block}
use Rattle.tnc_decode.specs.Held.{TakesAtOnce}
use Rattle.tnc_decode.proofs.BlockLemmas.{few_shared, few_alone}
use Rattle.tnc_decode.proofs.decoders.Decoders.block.Goals as goal

pub returns-in-Plain-clause-given : goal.returns-in-Plain-clause-given
returns-in-Plain-clause-given g c =
    let block : List ℤ = c.args.block.now in
    let old = c.in-Plain.decoder in
    let new = c.block_by.new.self in
    let P : Decoders → Type 0 = λ self. IfOk c.block_by.result (λ items. (modem : Modem) (x : List ℤ)
    → HasDecoded modem self x
    → HasDecoded modem (Plain new) (x ++ block) × AreGivenBetween modem (settled_count modem x)
    (settled_count modem (x ++ block)) (x ++ block) items.items) in
    subst P (sym c.in-Plain.is) (IfOk-weaker c.block_by.result
    (λ items. (x : List ℤ) → StandsFor old x → StandsFor new (x ++ block)
    × AreMergedBetween (length x) (length (x ++ block)) (x ++ block) items.items)
    (λ items. (modem : Modem) (x : List ℤ) → HasDecoded modem (Plain old) x
    → HasDecoded modem (Plain new) (x ++ block) × AreGivenBetween modem (settled_count modem x)
    (settled_count modem (x ++ block)) (x ++ block) items.items)
    (λ items given. plain_block old new block items.items given)
    c.block_by.ensures.given)

pub returns-in-Plain-2-clause-given : goal.returns-in-Plain-2-clause-given
returns-in-Plain-2-clause-given g c =
    let block : List ℤ = c.args.block.now in
    let old = c.in-Plain.decoder in
    let new = c.block.new.self in
    let P : Decoders → Type 0 = λ self. IfOk c.block.result (λ items. (modem : Modem) (x : List ℤ)
    → HasDecoded modem self x
    → HasDecoded modem (Plain new) (x ++ block) × AreGivenBetween modem (settled_count modem x)
    (settled_count modem (x ++ block)) (x ++ block) items.items) in
    subst P (sym c.in-Plain.is) (IfOk-weaker c.block.result
    (λ items. (x : List ℤ) → StandsFor old x → StandsFor new (x ++ block)
    × AreMergedBetween (length x) (length (x ++ block)) (x ++ block) items.items)
    (λ items. (modem : Modem) (x : List ℤ) → HasDecoded modem (Plain old) x
    → HasDecoded modem (Plain new) (x ++ block) × AreGivenBetween modem (settled_count modem x)
    (settled_count modem (x ++ block)) (x ++ block) items.items)
    (λ items given. plain_block old new block items.items given)
    c.block.ensures.given)

pub returns-in-Wide-clause-given : goal.returns-in-Wide-clause-given
returns-in-Wide-clause-given g c =
    let block : List ℤ = c.args.block.now in
    let old = c.in-Wide.decoder in
    let new = c.block_threads.new.self in
    let P : Decoders → Type 0 = λ self. IfOk c.block_threads.result (λ items. (modem : Modem) (x : List ℤ)
    → HasDecoded modem self x
    → HasDecoded modem (Wide new) (x ++ block) × AreGivenBetween modem (settled_count modem x)
    (settled_count modem (x ++ block)) (x ++ block) items.items) in
    subst P (sym c.in-Wide.is) (IfOk-weaker c.block_threads.result
    (λ items. (x : List ℤ) → WideStandsFor old x → WideStandsFor new (x ++ block)
    × AreWideMergedBetween (settled_ends (length x)) (settled_ends (length (x ++ block))) (filtered (x ++ block))
    items.items)
    (λ items. (modem : Modem) (x : List ℤ) → HasDecoded modem (Wide old) x
    → HasDecoded modem (Wide new) (x ++ block) × AreGivenBetween modem (settled_count modem x)
    (settled_count modem (x ++ block)) (x ++ block) items.items)
    (λ items given. wide_block old new block items.items given)
    c.block_threads.ensures.given)

pub returns-in-Wide-2-clause-given : goal.returns-in-Wide-2-clause-given
returns-in-Wide-2-clause-given g c =
    let block : List ℤ = c.args.block.now in
    let old = c.in-Wide.decoder in
    let new = c.block-in-Wide-2.new.self in
    let P : Decoders → Type 0 = λ self. IfOk c.block-in-Wide-2.result (λ items. (modem : Modem) (x : List ℤ)
    → HasDecoded modem self x
    → HasDecoded modem (Wide new) (x ++ block) × AreGivenBetween modem (settled_count modem x)
    (settled_count modem (x ++ block)) (x ++ block) items.items) in
    subst P (sym c.in-Wide.is) (IfOk-weaker c.block-in-Wide-2.result
    (λ items. (x : List ℤ) → WideStandsFor old x → WideStandsFor new (x ++ block)
    × AreWideMergedBetween (settled_ends (length x)) (settled_ends (length (x ++ block))) (filtered (x ++ block))
    items.items)
    (λ items. (modem : Modem) (x : List ℤ) → HasDecoded modem (Wide old) x
    → HasDecoded modem (Wide new) (x ++ block) × AreGivenBetween modem (settled_count modem x)
    (settled_count modem (x ++ block)) (x ++ block) items.items)
    (λ items given. wide_block old new block items.items given)
    c.block-in-Wide-2.ensures.given)

pub returns-in-ShortWave-clause-given : goal.returns-in-ShortWave-clause-given
returns-in-ShortWave-clause-given g c =
    let block : List ℤ = c.args.block.now in
    let old = c.in-ShortWave.decoder in
    let new = c.block-in-ShortWave.new.self in
    let P : Decoders → Type 0 = λ self. IfOk c.block-in-ShortWave.result (λ items. (modem : Modem) (x : List ℤ)
    → HasDecoded modem self x
    → HasDecoded modem (ShortWave new) (x ++ block) × AreGivenBetween modem (settled_count modem x)
    (settled_count modem (x ++ block)) (x ++ block) items.items) in
    subst P (sym c.in-ShortWave.is) (IfOk-weaker c.block-in-ShortWave.result
    (λ items. (x : List ℤ) → HfStandsFor old x → HfStandsFor new (x ++ block)
    × AreHfMergedBetween (length x / 4) (length (x ++ block) / 4) (x ++ block) items.items)
    (λ items. (modem : Modem) (x : List ℤ) → HasDecoded modem (ShortWave old) x
    → HasDecoded modem (ShortWave new) (x ++ block) × AreGivenBetween modem (settled_count modem x)
    (settled_count modem (x ++ block)) (x ++ block) items.items)
    (λ items given. short_wave_block old new block items.items given)
    c.block-in-ShortWave.ensures.given)

pub returns-in-Sensitive-clause-given : goal.returns-in-Sensitive-clause-given
returns-in-Sensitive-clause-given g c =
    let block : List ℤ = c.args.block.now in
    let old = c.in-Sensitive.decoder in
    let new = c.block_by-in-Sensitive.new.self in
    let P : Decoders → Type 0 = λ self. IfOk c.block_by-in-Sensitive.result
    (λ items. (modem : Modem) (x : List ℤ) → HasDecoded modem self x
    → HasDecoded modem (Sensitive new) (x ++ block)
    × AreGivenBetween modem (settled_count modem x) (settled_count modem (x ++ block)) (x ++ block) items.items) in
    subst P (sym c.in-Sensitive.is) (IfOk-weaker c.block_by-in-Sensitive.result
    (λ items. (x : List ℤ) → SensitiveStandsFor old x
    → SensitiveStandsFor new (x ++ block)
    × AreSensitiveMergedBetween (settled (length x)) (settled (length (x ++ block))) (x ++ block) items.items)
    (λ items. (modem : Modem) (x : List ℤ) → HasDecoded modem (Sensitive old) x
    → HasDecoded modem (Sensitive new) (x ++ block)
    × AreGivenBetween modem (settled_count modem x) (settled_count modem (x ++ block)) (x ++ block) items.items)
    (λ items given. sensitive_block old new block items.items given)
    c.block_by-in-Sensitive.ensures.given)

pub returns-in-Sensitive-2-clause-given : goal.returns-in-Sensitive-2-clause-given
returns-in-Sensitive-2-clause-given g c =
    let block : List ℤ = c.args.block.now in
    let old = c.in-Sensitive.decoder in
    let new = c.block-in-Sensitive-2.new.self in
    let P : Decoders → Type 0 = λ self. IfOk c.block-in-Sensitive-2.result
    (λ items. (modem : Modem) (x : List ℤ) → HasDecoded modem self x
    → HasDecoded modem (Sensitive new) (x ++ block)
    × AreGivenBetween modem (settled_count modem x) (settled_count modem (x ++ block)) (x ++ block) items.items) in
    subst P (sym c.in-Sensitive.is) (IfOk-weaker c.block-in-Sensitive-2.result
    (λ items. (x : List ℤ) → SensitiveStandsFor old x
    → SensitiveStandsFor new (x ++ block)
    × AreSensitiveMergedBetween (settled (length x)) (settled (length (x ++ block))) (x ++ block) items.items)
    (λ items. (modem : Modem) (x : List ℤ) → HasDecoded modem (Sensitive old) x
    → HasDecoded modem (Sensitive new) (x ++ block)
    × AreGivenBetween modem (settled_count modem x) (settled_count modem (x ++ block)) (x ++ block) items.items)
    (λ items given. sensitive_block old new block items.items given)
    c.block-in-Sensitive-2.ensures.given)

pub returns-in-WideSensitive-clause-given : goal.returns-in-WideSensitive-clause-given
returns-in-WideSensitive-clause-given g c =
    let block : List ℤ = c.args.block.now in
    let old = c.in-WideSensitive.decoder in
    let new = c.block_threads-in-WideSensitive.new.self in
    let P : Decoders → Type 0 = λ self. IfOk c.block_threads-in-WideSensitive.result
    (λ items. (modem : Modem) (x : List ℤ) → HasDecoded modem self x
    → HasDecoded modem (WideSensitive new) (x ++ block)
    × AreGivenBetween modem (settled_count modem x) (settled_count modem (x ++ block)) (x ++ block) items.items) in
    subst P (sym c.in-WideSensitive.is) (IfOk-weaker c.block_threads-in-WideSensitive.result
    (λ items. (x : List ℤ) → WideSensitiveStandsFor old x
    → WideSensitiveStandsFor new (x ++ block)
    × AreSensitiveMergedBetween (settled_by_all (length x)) (settled_by_all (length (x ++ block)))
    (decimated (x ++ block)) items.items)
    (λ items. (modem : Modem) (x : List ℤ) → HasDecoded modem (WideSensitive old) x
    → HasDecoded modem (WideSensitive new) (x ++ block)
    × AreGivenBetween modem (settled_count modem x) (settled_count modem (x ++ block)) (x ++ block) items.items)
    (λ items given. wide_sensitive_block old new block items.items given)
    c.block_threads-in-WideSensitive.ensures.given)

pub returns-in-WideSensitive-2-clause-given : goal.returns-in-WideSensitive-2-clause-given
returns-in-WideSensitive-2-clause-given g c =
    let block : List ℤ = c.args.block.now in
    let old = c.in-WideSensitive.decoder in
    let new = c.block-in-WideSensitive-2.new.self in
    let P : Decoders → Type 0 = λ self. IfOk c.block-in-WideSensitive-2.result
    (λ items. (modem : Modem) (x : List ℤ) → HasDecoded modem self x
    → HasDecoded modem (WideSensitive new) (x ++ block)
    × AreGivenBetween modem (settled_count modem x) (settled_count modem (x ++ block)) (x ++ block) items.items) in
    subst P (sym c.in-WideSensitive.is) (IfOk-weaker c.block-in-WideSensitive-2.result
    (λ items. (x : List ℤ) → WideSensitiveStandsFor old x
    → WideSensitiveStandsFor new (x ++ block)
    × AreSensitiveMergedBetween (settled_by_all (length x)) (settled_by_all (length (x ++ block)))
    (decimated (x ++ block)) items.items)
    (λ items. (modem : Modem) (x : List ℤ) → HasDecoded modem (WideSensitive old) x
    → HasDecoded modem (WideSensitive new) (x ++ block)
    × AreGivenBetween modem (settled_count modem x) (settled_count modem (x ++ block)) (x ++ block) items.items)
    (λ items given. wide_sensitive_block old new block items.items given)
    c.block-in-WideSensitive-2.ensures.given)

pub returns-in-Fx25-clause-given : goal.returns-in-Fx25-clause-given
returns-in-Fx25-clause-given g c =
    let block : List ℤ = c.args.block.now in
    let old = c.in-Fx25.decoder in
    let new = c.block-in-Fx25.new.self in
    let P : Decoders → Type 0 = λ self. IfOk c.block-in-Fx25.result (λ items. (modem : Modem) (x : List ℤ)
    → HasDecoded modem self x
    → HasDecoded modem (Fx25 new) (x ++ block) × AreGivenBetween modem (settled_count modem x)
    (settled_count modem (x ++ block)) (x ++ block) items.items) in
    subst P (sym c.in-Fx25.is) (IfOk-weaker c.block-in-Fx25.result
    (λ items. (x : List ℤ) (given : List Heard) → Fx25StandsFor old x given
    → (heard : List Heard) × Fx25StandsFor new (x ++ block) (given ++ heard) × (items.items ≡ map candidate_of heard))
    (λ items. (modem : Modem) (x : List ℤ) → HasDecoded modem (Fx25 old) x
    → HasDecoded modem (Fx25 new) (x ++ block) × AreGivenBetween modem (settled_count modem x)
    (settled_count modem (x ++ block)) (x ++ block) items.items)
    (λ items given. fx25_block old new block items.items given)
    c.block-in-Fx25.ensures.given)

pub returns-in-SensitiveShortWave-clause-given : goal.returns-in-SensitiveShortWave-clause-given
returns-in-SensitiveShortWave-clause-given g c =
    let block : List ℤ = c.args.block.now in
    let old = c.in-SensitiveShortWave.decoder in
    let new = c.block-in-SensitiveShortWave.new.self in
    let P : Decoders → Type 0 = λ self. IfOk c.block-in-SensitiveShortWave.result (λ items. (modem : Modem) (x : List ℤ)
    → HasDecoded modem self x
    → HasDecoded modem (SensitiveShortWave new) (x ++ block) × AreGivenBetween modem (settled_count modem x)
    (settled_count modem (x ++ block)) (x ++ block) items.items) in
    subst P (sym c.in-SensitiveShortWave.is) (IfOk-weaker c.block-in-SensitiveShortWave.result
    (λ items. (x : List ℤ) → HfSensitiveStandsFor old x → HfSensitiveStandsFor new (x ++ block)
    × AreSensitiveHfBetween (hf_settled (length x)) (hf_settled (length (x ++ block))) (x ++ block) items.items)
    (λ items. (modem : Modem) (x : List ℤ) → HasDecoded modem (SensitiveShortWave old) x
    → HasDecoded modem (SensitiveShortWave new) (x ++ block) × AreGivenBetween modem (settled_count modem x)
    (settled_count modem (x ++ block)) (x ++ block) items.items)
    (λ items given. sensitive_hf_block old new block items.items given)
    c.block-in-SensitiveShortWave.ensures.given)

pub returns-in-SensitiveFx25-clause-given : goal.returns-in-SensitiveFx25-clause-given
returns-in-SensitiveFx25-clause-given g c =
    let block : List ℤ = c.args.block.now in
    let old = c.in-SensitiveFx25.decoder in
    let new = c.block-in-SensitiveFx25.new.self in
    let P : Decoders → Type 0 = λ self. IfOk c.block-in-SensitiveFx25.result (λ items. (modem : Modem) (x : List ℤ)
    → HasDecoded modem self x
    → HasDecoded modem (SensitiveFx25 new) (x ++ block) × AreGivenBetween modem (settled_count modem x)
    (settled_count modem (x ++ block)) (x ++ block) items.items) in
    subst P (sym c.in-SensitiveFx25.is) (IfOk-weaker c.block-in-SensitiveFx25.result
    (λ items. (x : List ℤ) (given : List Heard) → BlocksStandFor old x given
    → (heard : List Heard) × BlocksStandFor new (x ++ block) (given ++ heard) × (items.items ≡ map candidate_of heard))
    (λ items. (modem : Modem) (x : List ℤ) → HasDecoded modem (SensitiveFx25 old) x
    → HasDecoded modem (SensitiveFx25 new) (x ++ block) × AreGivenBetween modem (settled_count modem x)
    (settled_count modem (x ++ block)) (x ++ block) items.items)
    (λ items given. sensitive_fx25_block old new block items.items given)
    c.block-in-SensitiveFx25.ensures.given)

pub block_threads-requires-clause-few : goal.block_threads-requires-clause-few
block_threads-requires-clause-few g c κs within =
    few_shared c.args.threads (length c.args.block.now)
    (subst (λ d. TakesAtOnce c.args.threads d (length c.args.block.now)) c.in-Wide.is c.requires.few)

pub block-requires-in-Wide-2-clause-few : goal.block-requires-in-Wide-2-clause-few
block-requires-in-Wide-2-clause-few g c =
    few_alone c.args.threads (length c.args.block.now)
    (subst (λ d. TakesAtOnce c.args.threads d (length c.args.block.now)) c.in-Wide.is c.requires.few)
    (c.is_shared-threads.ensures c.if-threads-2.false)

pub block_threads-requires-in-WideSensitive-clause-few : goal.block_threads-requires-in-WideSensitive-clause-few
block_threads-requires-in-WideSensitive-clause-few g c κs within =
    few_shared c.args.threads (length c.args.block.now)
    (subst (λ d. TakesAtOnce c.args.threads d (length c.args.block.now)) c.in-WideSensitive.is c.requires.few)

pub block-requires-in-WideSensitive-2-clause-few : goal.block-requires-in-WideSensitive-2-clause-few
block-requires-in-WideSensitive-2-clause-few g c =
    few_alone c.args.threads (length c.args.block.now)
    (subst (λ d. TakesAtOnce c.args.threads d (length c.args.block.now)) c.in-WideSensitive.is c.requires.few)
    (c.is_shared-threads.ensures c.if-threads-4.false)
