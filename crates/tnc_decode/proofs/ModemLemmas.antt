-- What every modem has: samples have one list of candidates, and more samples change nothing of what is settled.
use Rattle.tnc_decode.proofs.Common.{◌≡◌, ℕ, ◌+◌, ◌/◌, ◌^◌, ◌<◌, ◌≤◌, ℤ, List, [], ◌++◌, length, refl, ap, sym, ◌∙◌}
use Rattle.tnc_decode.proofs.Common.{arith, length-append, append_assoc, append-nil, IsNonDecreasingBy}
use Rattle.tnc_decode.proofs.Common.{append_cancel_left, Candidate, merged}
use Rattle.tnc_decode.proofs.Common.{below, between, not_below, below_between, below_then_rest, AreMergedBetween}
use Rattle.tnc_decode.proofs.Common.{filtered, settled_ends, AreWideMergedBetween, Modem, Plain, Wide, Sensitive}
use Rattle.tnc_decode.proofs.Common.{WideSensitive, ShortWave, Fx25, decimated, remaining, SensitiveShortWave}
use Rattle.tnc_decode.proofs.Common.{SensitiveFx25}
use Rattle.tnc_decode.proofs.Common.{HasDecoded, AreHeard, settled_count, AreGivenBetween, AreGivenBelow, AreGivenRest}
use Rattle.frame_merge.proofs.Ordering.{rising_ends}
use Rattle.frame_merge.proofs.Merging.{merged-rising, between_all}
use Rattle.slicer_bank.specs.MergedItems.{AreMerged}
use Rattle.slicer_bank.proofs.CandidateLemmas.{candidates_none}
use Rattle.slicer_bank.proofs.MergingLemmas.{is_in_order}
use Rattle.block_receiver.proofs.MergedLemmas.{all_items}
use Rattle.slicer_bank.specs.Hearing.{hearing_of_eight}
use Rattle.slicer_bank.proofs.MergedLemmas.{is_hearing as is_hearing_of_eight, stays as eight_stay}
use Rattle.slicer_bank.proofs.OneList.{one_list}
use Rattle.slicer_bank.proofs.SomeList.{some_list}
use Rattle.hf_modem.specs.MergedItems.{AreMerged as AreHfMerged, AreMergedBetween as AreHfMergedBetween}
use Rattle.hf_modem.proofs.CandidateLemmas.{candidates_none as no_hf}
use Rattle.hf_modem.specs.Hearing.{hf_hearing}
use Rattle.hf_modem.proofs.MergedLemmas.{is_hearing, is_in_order as hf_in_order, stays as hf_stays}
use Rattle.hf_modem.proofs.OneList.{one_list as one_hf}
use Rattle.hf_modem.proofs.SomeList.{some_list as some_hf}
use Rattle.hf_sensitive.proofs.HeardLemmas.{none_heard as no_sensitive_hf}
use Rattle.hf_sensitive.proofs.MergedLemmas.{one_list as one_sensitive_hf, rising_heard as rising_sensitive_hf}
use Rattle.hf_sensitive.proofs.MergedLemmas.{below_still as sensitive_hf_still}
use Rattle.hf_sensitive.proofs.SomeList.{some_list as some_sensitive_hf}
use Rattle.sensitive_receiver.proofs.HeardLemmas.{none_heard as no_sensitive}
use Rattle.sensitive_receiver.proofs.MergedLemmas.{one_list as one_sensitive, rising_heard as rising_sensitive}
use Rattle.sensitive_receiver.proofs.MergedLemmas.{below_still as sensitive_still}
use Rattle.sensitive_receiver.proofs.SomeList.{some_list as some_sensitive}
use Rattle.wide_input.proofs.WideSteps.{no_wide, rising_wide}
use Rattle.wide_input.proofs.WideMerged.{one_wide, some_wide}
use Rattle.wide_input.proofs.FilteredLemmas.{filtered_still}
use Rattle.wide_input.proofs.DecimatedLemmas.{decimated_still}
use Rattle.wide_input.specs.MergedItems.{AreWideRest}
use Rattle.tnc_decode.proofs.BlockItems.{none_with_blocks, one_with_blocks, some_with_blocks, blocks_rise, still_with_blocks}
use Rattle.tnc_decode.proofs.AllItems.{all_rise, none_by_all, one_by_all, some_by_all, still_by_all}
use Rattle.slicer_bank.specs.HeldDecoder.{HeldDecoder, StandsFor as DecoderStandsFor}
use Rattle.hf_modem.specs.HeldDecoder.{HeldDecoder as HeldHf, StandsFor as HfStandsFor}
use Rattle.wide_input.specs.HeldDecoder.{HeldDecoder as HeldWide, StandsFor as WideStandsFor}
use Rattle.tnc_decode.specs.declared.decoders.Decoders.TheVariants.{Plain as PlainDecoder, Wide as WideDecoder}
use Rattle.tnc_decode.specs.declared.decoders.Decoders.TheVariants.{ShortWave as ShortWaveDecoder}

-- ---- case by case

-- no samples have no candidates
pub none_heard : (modem : Modem) → AreHeard modem [] []
none_heard Plain = candidates_none []
none_heard Wide = no_wide
none_heard Sensitive = no_sensitive
none_heard WideSensitive = no_sensitive
none_heard ShortWave = no_hf []
none_heard SensitiveShortWave = no_sensitive_hf
none_heard Fx25 = none_with_blocks
none_heard SensitiveFx25 = none_by_all

pub none_remaining : (modem : Modem) → [] ≡ remaining modem []
none_remaining Plain = refl
none_remaining Wide = refl
none_remaining Sensitive = refl
none_remaining WideSensitive = refl
none_remaining ShortWave = refl
none_remaining SensitiveShortWave = refl
none_remaining Fx25 = refl
none_remaining SensitiveFx25 = refl

pub one_heard : (modem : Modem) (x : List ℤ) (items others : List Candidate) → AreHeard modem x items
    → AreHeard modem x others → items ≡ others
one_heard Plain x items others a b = one_list x items others a b
one_heard Wide x items others a b = one_wide (filtered x) items others a b
one_heard Sensitive x items others a b = one_sensitive x items others a b
one_heard WideSensitive x items others a b = one_sensitive (decimated x) items others a b
one_heard ShortWave x items others a b = one_hf x items others a b
one_heard SensitiveShortWave x items others a b = one_sensitive_hf x items others a b
one_heard Fx25 x items others a b = one_with_blocks x items others a b
one_heard SensitiveFx25 x items others a b = one_by_all x items others a b

pub some_heard : (modem : Modem) (x : List ℤ) → (items : List Candidate) × AreHeard modem x items
some_heard Plain x = some_list x
some_heard Wide x = some_wide (filtered x)
some_heard Sensitive x = some_sensitive x
some_heard WideSensitive x = some_sensitive (decimated x)
some_heard ShortWave x = some_hf x
some_heard SensitiveShortWave x = some_sensitive_hf x
some_heard Fx25 x = some_with_blocks x
some_heard SensitiveFx25 x = some_by_all x

-- what remains does not fall in their ends
pub rising_heard : (modem : Modem) (x : List ℤ) (items : List Candidate) → AreHeard modem x items
    → IsNonDecreasingBy (λ y. y.end) (remaining modem items)
rising_heard Plain x items are = merged-rising (λ y. y.end) [] items (rising_ends items (is_in_order x items are))
rising_heard Wide x items are = rising_wide (filtered x) items are
rising_heard Sensitive x items are = rising_sensitive x items are
rising_heard WideSensitive x items are = rising_sensitive (decimated x) items are
rising_heard ShortWave x items are = merged-rising (λ y. y.end) [] items (rising_ends items (hf_in_order x items are))
rising_heard SensitiveShortWave x items are = rising_sensitive_hf x items are
rising_heard Fx25 x items are = blocks_rise x items are
rising_heard SensitiveFx25 x items are = all_rise x items are

-- more samples settle no less, and no more than they are
pub settled_rises : (modem : Modem) (x y : List ℤ) → (settled_count modem x ≤ settled_count modem (x ++ y))
    × (settled_count modem (x ++ y) ≤ settled_count modem x + length y)
settled_rises Plain x y = (omega (arith, length-append x y), omega (arith, length-append x y))
settled_rises Wide x y = let size = length-append x y in (omega arith, omega arith)
settled_rises Sensitive x y = let size = length-append x y in (omega arith, omega arith)
settled_rises WideSensitive x y = let size = length-append x y in (omega arith, omega arith)
settled_rises ShortWave x y = let size = length-append x y in (omega arith, omega arith)
settled_rises SensitiveShortWave x y = let size = length-append x y in (omega arith, omega arith)
settled_rises Fx25 x y = let size = length-append x y in (omega arith, omega arith)
settled_rises SensitiveFx25 x y = let size = length-append x y in (omega arith, omega arith)

-- if all end at or after 0, the part from 0 is the part below
pub from_zero : (to : ℕ) (items : List Candidate) → between 0 to items ≡ below to items
from_zero to items = between_all 0 to items (λ k d l. omega arith)

pub still_heard : (modem : Modem) (to : ℕ) (x y : List ℤ) (items whole : List Candidate) → to ≤ settled_count modem x
    → AreHeard modem x items → AreHeard modem (x ++ y) whole
    → below to (remaining modem items) ≡ below to (remaining modem whole)
still_heard Plain to x y items whole within are all_are = sym (eight_stay x y items whole to are all_are within)
still_heard Wide to x y items whole within are all_are = sym (filtered_still to x y items whole within are all_are)
still_heard Sensitive to x y items whole within are all_are = sensitive_still x y items whole are all_are to within
still_heard WideSensitive to x y items whole within are all_are =
    decimated_still to x y items whole within are all_are
still_heard ShortWave to x y items whole within are all_are = sym (hf_stays x y items whole to are all_are within)
still_heard SensitiveShortWave to x y items whole within are all_are =
    sensitive_hf_still x y items whole are all_are to within
still_heard Fx25 to x y items whole within are all_are = still_with_blocks to x y items whole within are all_are
still_heard SensitiveFx25 to x y items whole within are all_are = still_by_all to x y items whole within are all_are

-- what a block gives, and what the end gives, as each decoder tells it
pub given_plain : (from to : ℕ) (x : List ℤ) (items : List Candidate) → AreMergedBetween from to x items
    → AreGivenBetween Plain from to x items
given_plain from to x items h = record { candidates = h.candidates; are = h.are; is = h.is }

pub given_wide : (from to : ℕ) (x : List ℤ) (items : List Candidate) → AreWideMergedBetween from to (filtered x) items
    → AreGivenBetween Wide from to x items
given_wide from to x items h = record { candidates = h.candidates; are = h.are; is = h.is }

pub rest_plain : (x : List ℤ) (items : List Candidate) → AreMergedBetween (length x) (length x + 1) x items
    → AreGivenRest Plain (length x) x items
rest_plain x items h =
    let n : ℕ = length x in
    let zs : List Candidate = merged h.candidates in
    let rises : IsNonDecreasingBy (λ y. y.end) zs = rising_heard Plain x h.candidates h.are in
    let both : AreMerged x (between 0 (n + 1) zs) = all_items hearing_of_eight is_hearing_of_eight x (between 0 (n + 1) zs)
    (record { candidates = h.candidates; are = h.are; is = refl }) in
    let whole : below (n + 1) zs ≡ zs
    = sym (from_zero (n + 1) zs) ∙ both.is ∙ ap merged (one_list x both.candidates h.candidates both.are h.are) in
    record {
      candidates = h.candidates;
      are = h.are;
      is = h.is ∙ append_cancel_left (below n zs) (between n (n + 1) zs) (not_below n zs)
          (below_between n (n + 1) zs (omega arith) rises ∙ whole ∙ sym (below_then_rest n zs rises));
    }

-- so each decoder, by its modem
pub plain_block : (old new : HeldDecoder) (block : List ℤ) (items : List Candidate)
    → ((x : List ℤ) → DecoderStandsFor old x → DecoderStandsFor new (x ++ block)
    × AreMergedBetween (length x) (length (x ++ block)) (x ++ block) items)
    → (modem : Modem) (x : List ℤ) → HasDecoded modem (PlainDecoder old) x
    → HasDecoded modem (PlainDecoder new) (x ++ block)
    × AreGivenBetween modem (settled_count modem x) (settled_count modem (x ++ block)) (x ++ block) items
plain_block old new block items given Plain x h = let g = given x h in
    (g.0, given_plain (length x) (length (x ++ block)) (x ++ block) items g.1)
plain_block old new block items given Wide x h = absurd h
plain_block old new block items given Sensitive x h = absurd h
plain_block old new block items given WideSensitive x h = absurd h
plain_block old new block items given Fx25 x h = absurd h
plain_block old new block items given SensitiveFx25 x h = absurd h
plain_block old new block items given ShortWave x h = absurd h
plain_block old new block items given SensitiveShortWave x h = absurd h

pub wide_block : (old new : HeldWide) (block : List ℤ) (items : List Candidate)
    → ((x : List ℤ) → WideStandsFor old x → WideStandsFor new (x ++ block)
    × AreWideMergedBetween (settled_ends (length x)) (settled_ends (length (x ++ block))) (filtered (x ++ block)) items)
    → (modem : Modem) (x : List ℤ) → HasDecoded modem (WideDecoder old) x
    → HasDecoded modem (WideDecoder new) (x ++ block)
    × AreGivenBetween modem (settled_count modem x) (settled_count modem (x ++ block)) (x ++ block) items
wide_block old new block items given Plain x h = absurd h
wide_block old new block items given Sensitive x h = absurd h
wide_block old new block items given WideSensitive x h = absurd h
wide_block old new block items given Fx25 x h = absurd h
wide_block old new block items given SensitiveFx25 x h = absurd h
wide_block old new block items given ShortWave x h = absurd h
wide_block old new block items given SensitiveShortWave x h = absurd h
wide_block old new block items given Wide x h = let g = given x h in
    (g.0, given_wide (settled_ends (length x)) (settled_ends (length (x ++ block))) (x ++ block) items g.1)

pub wide_finish : (old : HeldWide) (items : List Candidate)
    → ((x : List ℤ) → WideStandsFor old x → AreWideRest (settled_ends (length x)) (filtered x) items)
    → (modem : Modem) (x : List ℤ) → HasDecoded modem (WideDecoder old) x
    → AreGivenRest modem (settled_count modem x) x items
wide_finish old items rest Plain x h = absurd h
wide_finish old items rest Sensitive x h = absurd h
wide_finish old items rest WideSensitive x h = absurd h
wide_finish old items rest Fx25 x h = absurd h
wide_finish old items rest SensitiveFx25 x h = absurd h
wide_finish old items rest ShortWave x h = absurd h
wide_finish old items rest SensitiveShortWave x h = absurd h
wide_finish old items rest Wide x h =
    let r = rest x h in record { candidates = r.candidates; are = r.are; is = r.is }

pub plain_finish : (old : HeldDecoder) (items : List Candidate) → old.position < 2 ^ 48
    → ((x : List ℤ) → length x < 2 ^ 48 → DecoderStandsFor old x → AreMergedBetween (length x) (length x + 1) x items)
    → (modem : Modem) (x : List ℤ) → HasDecoded modem (PlainDecoder old) x
    → AreGivenRest modem (settled_count modem x) x items
plain_finish old items room rest Plain x h = rest_plain x items (rest x (let count = h.count in omega arith) h)
plain_finish old items room rest Wide x h = absurd h
plain_finish old items room rest Sensitive x h = absurd h
plain_finish old items room rest WideSensitive x h = absurd h
plain_finish old items room rest Fx25 x h = absurd h
plain_finish old items room rest SensitiveFx25 x h = absurd h
plain_finish old items room rest ShortWave x h = absurd h
plain_finish old items room rest SensitiveShortWave x h = absurd h

pub given_short_wave : (from to : ℕ) (x : List ℤ) (items : List Candidate) → AreHfMergedBetween from to x items
    → AreGivenBetween ShortWave from to x items
given_short_wave from to x items h = record { candidates = h.candidates; are = h.are; is = h.is }

pub rest_short_wave : (x : List ℤ) (items : List Candidate)
    → AreHfMergedBetween (length x / 4) (length x / 4 + 1) x items → AreGivenRest ShortWave (length x / 4) x items
rest_short_wave x items h =
    let n : ℕ = length x / 4 in
    let zs : List Candidate = merged h.candidates in
    let rises : IsNonDecreasingBy (λ y. y.end) zs = rising_heard ShortWave x h.candidates h.are in
    let both : AreHfMerged x (between 0 (n + 1) zs) = all_items hf_hearing is_hearing x (between 0 (n + 1) zs)
    (record { candidates = h.candidates; are = h.are; is = refl }) in
    let whole : below (n + 1) zs ≡ zs
    = sym (from_zero (n + 1) zs) ∙ both.is ∙ ap merged (one_hf x both.candidates h.candidates both.are h.are) in
    record {
      candidates = h.candidates;
      are = h.are;
      is = h.is ∙ append_cancel_left (below n zs) (between n (n + 1) zs) (not_below n zs)
          (below_between n (n + 1) zs (omega arith) rises ∙ whole ∙ sym (below_then_rest n zs rises));
    }

pub short_wave_block : (old new : HeldHf) (block : List ℤ) (items : List Candidate)
    → ((x : List ℤ) → HfStandsFor old x → HfStandsFor new (x ++ block)
    × AreHfMergedBetween (length x / 4) (length (x ++ block) / 4) (x ++ block) items)
    → (modem : Modem) (x : List ℤ) → HasDecoded modem (ShortWaveDecoder old) x
    → HasDecoded modem (ShortWaveDecoder new) (x ++ block)
    × AreGivenBetween modem (settled_count modem x) (settled_count modem (x ++ block)) (x ++ block) items
short_wave_block old new block items given Plain x h = absurd h
short_wave_block old new block items given Wide x h = absurd h
short_wave_block old new block items given Sensitive x h = absurd h
short_wave_block old new block items given WideSensitive x h = absurd h
short_wave_block old new block items given Fx25 x h = absurd h
short_wave_block old new block items given SensitiveShortWave x h = absurd h
short_wave_block old new block items given SensitiveFx25 x h = absurd h
short_wave_block old new block items given ShortWave x h =
    let g = given x h in (g.0, given_short_wave (length x / 4) (length (x ++ block) / 4) (x ++ block) items g.1)

pub short_wave_finish : (old : HeldHf) (items : List Candidate) → old.position < 2 ^ 48
    → ((x : List ℤ) → length x < 2 ^ 48 → HfStandsFor old x
    → AreHfMergedBetween (length x / 4) (length x / 4 + 1) x items)
    → (modem : Modem) (x : List ℤ) → HasDecoded modem (ShortWaveDecoder old) x
    → AreGivenRest modem (settled_count modem x) x items
short_wave_finish old items room rest Plain x h = absurd h
short_wave_finish old items room rest Wide x h = absurd h
short_wave_finish old items room rest Sensitive x h = absurd h
short_wave_finish old items room rest WideSensitive x h = absurd h
short_wave_finish old items room rest Fx25 x h = absurd h
short_wave_finish old items room rest SensitiveShortWave x h = absurd h
short_wave_finish old items room rest SensitiveFx25 x h = absurd h
short_wave_finish old items room rest ShortWave x h =
    rest_short_wave x items (rest x (let count = h.count in omega arith) h)

-- ---- of all

-- what is given of samples, and what a block gives, are what is given of all
pub given_join : (modem : Modem) (x y : List ℤ) (items more : List Candidate)
    → AreGivenBelow modem (settled_count modem x) x items
    → AreGivenBetween modem (settled_count modem x) (settled_count modem (x ++ y)) (x ++ y) more
    → AreGivenBelow modem (settled_count modem (x ++ y)) (x ++ y) (items ++ more)
given_join modem x y items more h k =
    let n : ℕ = settled_count modem x in
    let m : ℕ = settled_count modem (x ++ y) in
    let rises = rising_heard modem (x ++ y) k.candidates k.are in
    record {
      candidates = k.candidates;
      are = k.are;
      is = ap (λ t. t ++ more) (h.is ∙ still_heard modem n x y h.candidates k.candidates (omega arith) h.are k.are)
          ∙ ap (λ t. below n (remaining modem k.candidates) ++ t) k.is
          ∙ below_between n m (remaining modem k.candidates) (settled_rises modem x y).0 rises;
    }

-- what no samples give
pub given_none : (modem : Modem) (x : List ℤ)
    → AreGivenBetween modem (settled_count modem x) (settled_count modem (x ++ [])) (x ++ []) []
given_none modem x =
    let some = some_heard modem (x ++ []) in
    let n : ℕ = settled_count modem (x ++ []) in
    let zs : List Candidate = remaining modem some.0 in
    let rises = rising_heard modem (x ++ []) some.0 some.1 in
    record {
      candidates = some.0;
      are = some.1;
      is = sym (append_cancel_left (below n zs) (between n n zs) []
          (below_between n n zs (omega arith) rises ∙ sym (append-nil (below n zs))))
          ∙ ap (λ k. between k n zs) (ap (settled_count modem) (append-nil x));
    }

-- what two blocks give, one after the other, is what they give as one
pub given_blocks : (modem : Modem) (x y z : List ℤ) (items more : List Candidate)
    → AreGivenBetween modem (settled_count modem x) (settled_count modem (x ++ y)) (x ++ y) items
    → AreGivenBetween modem (settled_count modem (x ++ y)) (settled_count modem ((x ++ y) ++ z)) ((x ++ y) ++ z) more
    → AreGivenBetween modem (settled_count modem x) (settled_count modem ((x ++ y) ++ z)) ((x ++ y) ++ z)
    (items ++ more)
given_blocks modem x y z items more h k =
    let from : ℕ = settled_count modem x in
    let middle : ℕ = settled_count modem (x ++ y) in
    let to : ℕ = settled_count modem ((x ++ y) ++ z) in
    let was : List Candidate = remaining modem h.candidates in
    let now : List Candidate = remaining modem k.candidates in
    let up : from ≤ middle = (settled_rises modem x y).0 in
    let on : middle ≤ to = (settled_rises modem (x ++ y) z).0 in
    let rose = rising_heard modem (x ++ y) h.candidates h.are in
    let rises = rising_heard modem ((x ++ y) ++ z) k.candidates k.are in
    let low : below from was ≡ below from now
    = still_heard modem from (x ++ y) z h.candidates k.candidates up h.are k.are in
    let high : below middle was ≡ below middle now
    = still_heard modem middle (x ++ y) z h.candidates k.candidates (omega arith) h.are k.are in
    let first : between from middle was ≡ between from middle now
    = append_cancel_left (below from now) (between from middle was) (between from middle now)
    (ap (λ t. t ++ between from middle was) (sym low) ∙ below_between from middle was up rose ∙ high
    ∙ sym (below_between from middle now up rises)) in
    record {
      candidates = k.candidates;
      are = k.are;
      is = (λ i. (h.is ∙ first) i ++ k.is i)
          ∙ append_cancel_left (below from now) (between from middle now ++ between middle to now) (between from to now)
          (sym (append_assoc (below from now) (between from middle now) (between middle to now))
          ∙ ap (λ t. t ++ between middle to now) (below_between from middle now up rises)
          ∙ below_between middle to now on rises
          ∙ sym (below_between from to now (omega (arith, up, on)) rises));
    }

-- with the rest they are all
pub given_all : (modem : Modem) (n : ℕ) (x : List ℤ) (items rest : List Candidate) → AreGivenBelow modem n x items
    → (r : AreGivenRest modem n x rest)
    → items ++ rest ≡ remaining modem r.candidates
given_all modem n x items rest h r =
    ap (λ t. t ++ rest) (h.is ∙ ap (λ c. below n (remaining modem c)) (one_heard modem x h.candidates r.candidates h.are r.are))
    ∙ ap (λ t. below n (remaining modem r.candidates) ++ t) r.is
    ∙ below_then_rest n (remaining modem r.candidates) (rising_heard modem x r.candidates r.are)

-- what is given of samples is the first part of what remains of more
pub given_first : (modem : Modem) (x y : List ℤ) (items whole : List Candidate)
    → AreGivenBelow modem (settled_count modem x) x items → AreHeard modem (x ++ y) whole
    → (rest : List Candidate) × (remaining modem whole ≡ items ++ rest)
given_first modem x y items whole h all_are =
    let n : ℕ = settled_count modem x in
    let same : items ≡ below n (remaining modem whole) = h.is ∙ still_heard modem n x y h.candidates whole (omega arith)
    h.are all_are in (
      not_below n (remaining modem whole),
      sym (below_then_rest n (remaining modem whole) (rising_heard modem (x ++ y) whole all_are))
          ∙ ap (λ t. t ++ not_below n (remaining modem whole)) (sym same),
    )

-- and what ends below an earlier position is the first part of it
pub given_early : (modem : Modem) (early : ℕ) (x y : List ℤ) (items whole : List Candidate)
    → early ≤ settled_count modem x
    → AreGivenBelow modem (settled_count modem x) x items → AreHeard modem (x ++ y) whole
    → (more : List Candidate) × (items ≡ below early (remaining modem whole) ++ more)
given_early modem early x y items whole le h all_are =
    let n : ℕ = settled_count modem x in
    let zs : List Candidate = remaining modem whole in (
      between early n zs,
      h.is ∙ still_heard modem n x y h.candidates whole (omega arith) h.are all_are
          ∙ sym (below_between early n zs le (rising_heard modem (x ++ y) whole all_are)),
    )
