-- What the decoder of all lanes of short wave gives, as what its modem gives.
use Rattle.tnc_decode.proofs.Common.{◌≡◌, ℕ, ◌+◌, ◌/◌, ◌^◌, ◌<◌, ℤ, List, ◌++◌, length, refl, ap, sym, ◌∙◌, arith}
use Rattle.tnc_decode.proofs.Common.{IsNonDecreasingBy, append_cancel_left, Candidate, merged, below, between}
use Rattle.tnc_decode.proofs.Common.{not_below, below_between, below_then_rest, Modem, Plain, Wide, Sensitive, WideSensitive}
use Rattle.tnc_decode.proofs.Common.{ShortWave, SensitiveShortWave, Fx25, SensitiveFx25, HasDecoded, settled_count, AreGivenBetween}
use Rattle.tnc_decode.proofs.Common.{AreGivenRest}
use Rattle.hf_sensitive.specs.HeldDecoder.{HeldDecoder, StandsFor}
use Rattle.hf_sensitive.specs.MergedItems.{AreMerged, AreMergedBetween, settled}
use Rattle.block_receiver.proofs.MergedLemmas.{all_items}
use Rattle.hf_sensitive.specs.Hearing.{all_hf_hearing}
use Rattle.hf_sensitive.proofs.MergedLemmas.{one_list, rising_heard, is_hearing}
use Rattle.tnc_decode.specs.declared.decoders.Decoders.TheVariants.{SensitiveShortWave as SensitiveShortWaveDecoder}
use Rattle.tnc_decode.proofs.ModemLemmas.{from_zero}

-- what ends from a number to the end of the samples is all that does not end below it
rest_from : (x : List ℤ) (items : List Candidate) → (h : AreMergedBetween (settled (length x)) (length x / 4 + 1) x items)
    → items ≡ not_below (settled (length x)) (merged h.candidates)
rest_from x items h =
    let from : ℕ = settled (length x) in
    let m : ℕ = length x / 4 + 1 in
    let zs : List Candidate = merged h.candidates in
    let rises : IsNonDecreasingBy (λ y. y.end) zs = rising_heard x h.candidates h.are in
    let both : AreMerged x (between 0 m zs)
    = all_items all_hf_hearing is_hearing x (between 0 m zs) (record { candidates = h.candidates; are = h.are; is = refl }) in
    let whole : below m zs ≡ zs
    = sym (from_zero m zs) ∙ both.is ∙ ap merged (one_list x both.candidates h.candidates both.are h.are) in
    h.is ∙ append_cancel_left (below from zs) (between from m zs) (not_below from zs)
    (below_between from m zs (omega arith) rises ∙ whole ∙ sym (below_then_rest from zs rises))

pub sensitive_hf_block : (old new : HeldDecoder) (block : List ℤ) (items : List Candidate)
    → ((x : List ℤ) → StandsFor old x
    → StandsFor new (x ++ block)
    × AreMergedBetween (settled (length x)) (settled (length (x ++ block))) (x ++ block) items)
    → (modem : Modem) (x : List ℤ) → HasDecoded modem (SensitiveShortWaveDecoder old) x
    → HasDecoded modem (SensitiveShortWaveDecoder new) (x ++ block)
    × AreGivenBetween modem (settled_count modem x) (settled_count modem (x ++ block)) (x ++ block) items
sensitive_hf_block old new block items given Plain x h = absurd h
sensitive_hf_block old new block items given Wide x h = absurd h
sensitive_hf_block old new block items given Sensitive x h = absurd h
sensitive_hf_block old new block items given WideSensitive x h = absurd h
sensitive_hf_block old new block items given Fx25 x h = absurd h
sensitive_hf_block old new block items given SensitiveFx25 x h = absurd h
sensitive_hf_block old new block items given ShortWave x h = absurd h
sensitive_hf_block old new block items given SensitiveShortWave x h =
    let g = given x h in
    (g.0, record { candidates = g.1.candidates; are = g.1.are; is = g.1.is })

pub sensitive_hf_finish : (old : HeldDecoder) (items : List Candidate) → old.position < 2 ^ 48
    → ((x : List ℤ) → length x < 2 ^ 48 → StandsFor old x
    → AreMergedBetween (settled (length x)) (length x / 4 + 1) x items)
    → (modem : Modem) (x : List ℤ) → HasDecoded modem (SensitiveShortWaveDecoder old) x
    → AreGivenRest modem (settled_count modem x) x items
sensitive_hf_finish old items room rest Plain x h = absurd h
sensitive_hf_finish old items room rest Wide x h = absurd h
sensitive_hf_finish old items room rest Sensitive x h = absurd h
sensitive_hf_finish old items room rest WideSensitive x h = absurd h
sensitive_hf_finish old items room rest Fx25 x h = absurd h
sensitive_hf_finish old items room rest SensitiveFx25 x h = absurd h
sensitive_hf_finish old items room rest ShortWave x h = absurd h
sensitive_hf_finish old items room rest SensitiveShortWave x h =
    let r = rest x (let count = h.count in omega arith) h in
    record { candidates = r.candidates; are = r.are; is = rest_from x items r }
