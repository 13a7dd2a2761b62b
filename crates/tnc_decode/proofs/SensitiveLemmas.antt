-- What the decoder of all lanes gives, as what its modem gives.
use Rattle.tnc_decode.proofs.Common.{◌≡◌, ℕ, ◌+◌, ◌^◌, ◌<◌, ℤ, List, ◌++◌, length, refl, ap, sym, ◌∙◌, arith}
use Rattle.tnc_decode.proofs.Common.{IsNonDecreasingBy, append_cancel_left, Candidate, merged, below, between}
use Rattle.tnc_decode.proofs.Common.{not_below, below_between, below_then_rest, settled, Modem, Plain, Wide, Sensitive}
use Rattle.tnc_decode.proofs.Common.{ShortWave, Fx25, HasDecoded, settled_count, AreGivenBetween, AreGivenRest, ◌≤◌}
use Rattle.tnc_decode.proofs.Common.{SensitiveShortWave, WideSensitive, decimated, settled_by_all, SensitiveFx25}
use Rattle.resampler.proofs.FilterLemmas.{length-decimated}
use Rattle.wide_input.specs.HeldSensitive.{HeldSensitive, StandsFor as WideStandsFor}
use Rattle.tnc_decode.specs.declared.decoders.Decoders.TheVariants.{WideSensitive as WideSensitiveDecoder}
use Rattle.sensitive_receiver.specs.HeldDecoder.{HeldDecoder, StandsFor}
use Rattle.sensitive_receiver.specs.MergedItems.{AreMerged, AreMergedBetween}
use Rattle.block_receiver.proofs.MergedLemmas.{all_items}
use Rattle.sensitive_receiver.specs.AllHearing.{hearing_of_all}
use Rattle.sensitive_receiver.proofs.MergedLemmas.{one_list, rising_heard, is_hearing}
use Rattle.tnc_decode.specs.declared.decoders.Decoders.TheVariants.{Sensitive as SensitiveDecoder}
use Rattle.tnc_decode.proofs.ModemLemmas.{from_zero}

given_sensitive : (from to : ℕ) (x : List ℤ) (items : List Candidate) → AreMergedBetween from to x items
    → AreGivenBetween Sensitive from to x items
given_sensitive from to x items h = record { candidates = h.candidates; are = h.are; is = h.is }

-- what ends from a position to the end of the samples is all that does not end below it
rest_from : (from : ℕ) (x : List ℤ) (items : List Candidate) → from ≤ length x + 1
    → (h : AreMergedBetween from (length x + 1) x items) → items ≡ not_below from (merged h.candidates)
rest_from from x items within h =
    let m : ℕ = length x + 1 in
    let zs : List Candidate = merged h.candidates in
    let rises : IsNonDecreasingBy (λ y. y.end) zs = rising_heard x h.candidates h.are in
    let both : AreMerged x (between 0 m zs)
    = all_items hearing_of_all is_hearing x (between 0 m zs) (record { candidates = h.candidates; are = h.are; is = refl }) in
    let whole : below m zs ≡ zs
    = sym (from_zero m zs) ∙ both.is ∙ ap merged (one_list x both.candidates h.candidates both.are h.are) in
    h.is ∙ append_cancel_left (below from zs) (between from m zs) (not_below from zs)
    (below_between from m zs within rises ∙ whole ∙ sym (below_then_rest from zs rises))

pub sensitive_block : (old new : HeldDecoder) (block : List ℤ) (items : List Candidate)
    → ((x : List ℤ) → StandsFor old x
    → StandsFor new (x ++ block)
    × AreMergedBetween (settled (length x)) (settled (length (x ++ block))) (x ++ block) items)
    → (modem : Modem) (x : List ℤ) → HasDecoded modem (SensitiveDecoder old) x
    → HasDecoded modem (SensitiveDecoder new) (x ++ block)
    × AreGivenBetween modem (settled_count modem x) (settled_count modem (x ++ block)) (x ++ block) items
sensitive_block old new block items given Plain x h = absurd h
sensitive_block old new block items given Wide x h = absurd h
sensitive_block old new block items given WideSensitive x h = absurd h
sensitive_block old new block items given Fx25 x h = absurd h
sensitive_block old new block items given SensitiveFx25 x h = absurd h
sensitive_block old new block items given ShortWave x h = absurd h
sensitive_block old new block items given SensitiveShortWave x h = absurd h
sensitive_block old new block items given Sensitive x h =
    let g = given x h in
    (g.0, given_sensitive (settled (length x)) (settled (length (x ++ block))) (x ++ block) items g.1)

pub sensitive_finish : (old : HeldDecoder) (items : List Candidate) → old.position < 2 ^ 48
    → ((x : List ℤ) → length x < 2 ^ 48 → StandsFor old x
    → AreMergedBetween (settled (length x)) (length x + 1) x items)
    → (modem : Modem) (x : List ℤ) → HasDecoded modem (SensitiveDecoder old) x
    → AreGivenRest modem (settled_count modem x) x items
sensitive_finish old items room rest Plain x h = absurd h
sensitive_finish old items room rest Wide x h = absurd h
sensitive_finish old items room rest WideSensitive x h = absurd h
sensitive_finish old items room rest Fx25 x h = absurd h
sensitive_finish old items room rest SensitiveFx25 x h = absurd h
sensitive_finish old items room rest ShortWave x h = absurd h
sensitive_finish old items room rest SensitiveShortWave x h = absurd h
sensitive_finish old items room rest Sensitive x h =
    let r = rest x (let count = h.count in omega arith) h in
    record { candidates = r.candidates; are = r.are; is = rest_from (settled (length x)) x items (omega arith) r }

-- ---- at 48,000 samples a second

pub wide_sensitive_block : (old new : HeldSensitive) (block : List ℤ) (items : List Candidate)
    → ((x : List ℤ) → WideStandsFor old x
    → WideStandsFor new (x ++ block)
    × AreMergedBetween (settled_by_all (length x)) (settled_by_all (length (x ++ block))) (decimated (x ++ block)) items)
    → (modem : Modem) (x : List ℤ) → HasDecoded modem (WideSensitiveDecoder old) x
    → HasDecoded modem (WideSensitiveDecoder new) (x ++ block)
    × AreGivenBetween modem (settled_count modem x) (settled_count modem (x ++ block)) (x ++ block) items
wide_sensitive_block old new block items given Plain x h = absurd h
wide_sensitive_block old new block items given Wide x h = absurd h
wide_sensitive_block old new block items given Sensitive x h = absurd h
wide_sensitive_block old new block items given ShortWave x h = absurd h
wide_sensitive_block old new block items given SensitiveShortWave x h = absurd h
wide_sensitive_block old new block items given Fx25 x h = absurd h
wide_sensitive_block old new block items given SensitiveFx25 x h = absurd h
wide_sensitive_block old new block items given WideSensitive x h =
    let g = given x h in
    (g.0, record { candidates = g.1.candidates; are = g.1.are; is = g.1.is })

pub wide_sensitive_finish : (old : HeldSensitive) (items : List Candidate)
    → ((x : List ℤ) → WideStandsFor old x
    → AreMergedBetween (settled_by_all (length x)) (length (decimated x) + 1) (decimated x) items)
    → (modem : Modem) (x : List ℤ) → HasDecoded modem (WideSensitiveDecoder old) x
    → AreGivenRest modem (settled_count modem x) x items
wide_sensitive_finish old items rest Plain x h = absurd h
wide_sensitive_finish old items rest Wide x h = absurd h
wide_sensitive_finish old items rest Sensitive x h = absurd h
wide_sensitive_finish old items rest ShortWave x h = absurd h
wide_sensitive_finish old items rest SensitiveShortWave x h = absurd h
wide_sensitive_finish old items rest Fx25 x h = absurd h
wide_sensitive_finish old items rest SensitiveFx25 x h = absurd h
wide_sensitive_finish old items rest WideSensitive x h =
    let r = rest x h in
    let size = length-decimated x in
    record {
      candidates = r.candidates;
      are = r.are;
      is = rest_from (settled_by_all (length x)) (decimated x) items (omega arith) r;
    }
