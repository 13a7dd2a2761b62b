-- What all lanes are given of samples at 9600 a second as they settle is what is given of all of them.
use Rattle.wide_input.proofs.Common.{◌≡◌, ℕ, ◌+◌, ◌-◌, ◌/◌, ◌<◌, ◌≤◌, ◌^◌, ℤ, List, [], ◌++◌, length, ap, sym, subst, ◌∙◌}
use Rattle.std.proofs.Common.{Bool}
use Rattle.wide_input.proofs.Common.{append-nil, arith, Candidate, merged, below, length-append}
use Rattle.resampler.specs.Filtered.{decimated, decimated_settled}
use Rattle.resampler.specs.Held.{HeldFilter, HasDecimated}
use Rattle.resampler.proofs.FilterLemmas.{decimated_begins, decimated_parts, length-decimated_settled}
use Rattle.sensitive_receiver.specs.Candidates.{AreHeard}
use Rattle.sensitive_receiver.specs.MergedItems.{AreMergedBetween, settled}
use Rattle.sensitive_receiver.specs.HeldDecoder.{HeldDecoder, StandsFor as DecoderStandsFor}
use Rattle.block_receiver.proofs.MergedLemmas.{given_still as still_between, join}
use Rattle.sensitive_receiver.specs.AllHearing.{hearing_of_all}
use Rattle.sensitive_receiver.proofs.MergedLemmas.{below_still, is_hearing}
use Rattle.sensitive_receiver.proofs.SomeList.{some_list}
use Rattle.wide_input.specs.SettledByAll.{settled_by_all}
use Rattle.wide_input.specs.HeldSensitive.{StandsFor}

-- what the samples at 9600 a second settle that are settled themselves
settled_by_all-is : (x : List ℤ) → settled (length (decimated_settled x)) ≡ settled_by_all (length x)
settled_by_all-is x = ap settled (length-decimated_settled x)

-- samples that follow change nothing of what is given below what is settled
given_still : (from to : ℕ) (u v : List ℤ) (items : List Candidate) → from ≤ to → to ≤ settled (length u)
    → AreMergedBetween from to u items → AreMergedBetween from to (u ++ v) items
given_still from to u v items le within h =
    let some = some_list (u ++ v) in
    record {
      candidates = some.0;
      are = some.1;
      is = still_between hearing_of_all is_hearing from to u v items some.0 le within h some.1;
    }

-- so of a block
given_decimated : (x y : List ℤ) (items : List Candidate)
    → AreMergedBetween (settled (length (decimated_settled x))) (settled (length (decimated_settled (x ++ y))))
    (decimated_settled (x ++ y)) items
    → AreMergedBetween (settled_by_all (length x)) (settled_by_all (length (x ++ y))) (decimated (x ++ y)) items
given_decimated x y items h =
    let n : ℕ = settled_by_all (length x) in
    let m : ℕ = settled_by_all (length (x ++ y)) in
    let u : List ℤ = decimated_settled (x ++ y) in
    let to = settled_by_all-is (x ++ y) in
    let rises : n ≤ m = omega (arith, length-append x y) in
    let parts = decimated_parts (x ++ y) in
    subst (λ (w : List ℤ). AreMergedBetween n m w items) (sym parts.1)
    (given_still n m u parts.0 items rises (omega arith)
    (subst (λ (k : ℕ). AreMergedBetween n k u items) to
    (subst (λ (k : ℕ). AreMergedBetween k (settled (length u)) u items) (settled_by_all-is x) h)))

-- what a decoder gives of the samples that a block settles
pub block_decimated : (filter fed : HeldFilter) (decoder new : HeldDecoder) (ended : Bool) (block part : List ℤ)
    (items : List Candidate)
    → ((x : List ℤ) → HasDecimated filter x → HasDecimated fed (x ++ block))
    → ((x : List ℤ) → HasDecimated filter x → decimated_settled (x ++ block) ≡ decimated_settled x ++ part)
    → ((u : List ℤ) → DecoderStandsFor decoder u → DecoderStandsFor new (u ++ part)
    × AreMergedBetween (settled (length u)) (settled (length (u ++ part))) (u ++ part) items)
    → (x : List ℤ) → StandsFor (record { filter = filter; decoder = decoder; ended = ended }) x
    → StandsFor (record { filter = fed; decoder = new; ended = ended }) (x ++ block)
    × AreMergedBetween (settled_by_all (length x)) (settled_by_all (length (x ++ block))) (decimated (x ++ block)) items
block_decimated filter fed decoder new ended block part items stands settles gives x h =
    let whole : decimated_settled x ++ part ≡ decimated_settled (x ++ block) = sym (settles x h.filter) in
    let g = gives (decimated_settled x) h.decoder in (
      record { ended = h.ended; filter = stands x h.filter; decoder = subst (DecoderStandsFor new) whole g.0 },
      given_decimated x block items
          (subst (λ (u : List ℤ). AreMergedBetween (settled (length (decimated_settled x))) (settled (length u)) u items)
          whole g.1),
    )

-- what it gives of the last samples at 9600 a second, and at the end
pub end_decimated : (filter : HeldFilter) (decoder new : HeldDecoder) (ended : Bool) (part : List ℤ) (items rest : List Candidate)
    → length part ≤ 15 → decoder.position + 15 < 2 ^ 48
    → ((x : List ℤ) → HasDecimated filter x → decimated x ≡ decimated_settled x ++ part)
    → ((u : List ℤ) → DecoderStandsFor decoder u → DecoderStandsFor new (u ++ part)
    × AreMergedBetween (settled (length u)) (settled (length (u ++ part))) (u ++ part) items)
    → ((u : List ℤ) → length u < 2 ^ 48 → DecoderStandsFor new u
    → AreMergedBetween (settled (length u)) (length u + 1) u rest)
    → (x : List ℤ) → StandsFor (record { filter = filter; decoder = decoder; ended = ended }) x
    → AreMergedBetween (settled_by_all (length x)) (length (decimated x) + 1) (decimated x) (items ++ rest)
end_decimated filter decoder new ended part items rest few room ends gives last x h =
    let u : List ℤ = decimated_settled x in
    let w : List ℤ = u ++ part in
    let n : ℕ = settled (length u) in
    let m : ℕ = settled (length w) in
    let e : ℕ = length w + 1 in
    let size = length-append u part in
    let count = h.decoder.count in
    let g = gives u h.decoder in
    let after : AreMergedBetween m e w rest = last w (omega arith) g.0 in
    let nothing : w ++ [] ≡ w = append-nil w in
    let joined : AreMergedBetween n e (w ++ []) (items ++ rest)
    = join hearing_of_all is_hearing n m e w [] items rest (omega arith) (omega arith) (omega arith) g.1
    (subst (λ (v : List ℤ). AreMergedBetween m e v rest) (sym nothing) after) in
    let P : ℕ → List ℤ → Type 0 = λ k v. AreMergedBetween k (length v + 1) v (items ++ rest) in
    subst (λ (k : ℕ). P k (decimated x)) (settled_by_all-is x)
    (subst (P n) (sym (ends x h.filter)) (subst (λ (v : List ℤ). AreMergedBetween n e v (items ++ rest)) nothing joined))

-- more samples change nothing of what is merged below the settled ends
pub decimated_still : (to : ℕ) (x y : List ℤ) (items all : List Candidate) → to ≤ settled_by_all (length x)
    → AreHeard (decimated x) items → AreHeard (decimated (x ++ y)) all
    → below to (merged items) ≡ below to (merged all)
decimated_still to x y items all within are whole =
    let u : List ℤ = decimated_settled x in
    let some = some_list u in
    let size = settled_by_all-is x in
    let few : to ≤ settled (length u) = omega arith in
    let here = decimated_parts x in
    let there = decimated_begins x y in
    sym (below_still u here.0 some.0 items some.1 (subst (λ (w : List ℤ). AreHeard w items) here.1 are) to few)
    ∙ below_still u there.0 some.0 all some.1 (subst (λ (w : List ℤ). AreHeard w all) there.1 whole) to few
