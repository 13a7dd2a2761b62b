-- Two frames of one lane do not end with neighbouring bits, so of the last 16 places a lane has one candidate at most.
use Rattle.slicer_bank.proofs.Common.{◌≡◌, ℕ, ◌+◌, ◌-◌, ◌<◌, ◌≤◌, ℤ, Bool, true, false, List, [], ◌∷◌, ◌++◌, length}
use Rattle.slicer_bank.proofs.Common.{get_or, take, map, ap, sym, subst, ◌∙◌, arith, append_assoc, length-append, inl}
use Rattle.slicer_bank.proofs.Common.{inr, nat_le, All, AllPairs, IsDistinct, cases_lt, Decides-eqb, take_more}
use Rattle.slicer_bank.proofs.Common.{get_or_append_left, get_or-append-add, get_or-map, length-map, length_push}
use Rattle.slicer_bank.proofs.Common.{All-filter, All-map, filter_passes, AllPairs-filter, IsDistinct-from_AllPairs}
use Rattle.slicer_bank.proofs.Common.{EndsFrame, frame_bits, flag, bits, Candidate, standing, not_below, IsCandidate}
use Rattle.slicer_bank.proofs.Common.{AreCandidates}
use Rattle.std.proofs.Common.{true≢false}
use Rattle.std.proofs.Math.Dec.{eqb}
use Rattle.std.proofs.lemmas.Bool.{leb-true, eqb-true}
use Rattle.std.proofs.lemmas.List.Elements.{All-contains}
use Rattle.std.proofs.lemmas.Map.Views.{Contains-from_any}
use Rattle.std.proofs.lemmas.Map.Steps.{length-le_from_distinct_below}
use Rattle.slicer_bank.proofs.CandidateLemmas.{end_within}

-- the bits of a frame's end: its flag stands last
flag_last : (b : List Bool) (octets : List ℕ) → EndsFrame b octets → (before : List Bool) × (b ≡ before ++ flag)
flag_last b octets (before, is, frame) = (
  before ++ (flag ++ frame_bits octets),
  is ∙ ap (λ t. before ++ t)
      (sym (append_assoc flag (frame_bits octets) flag)) ∙ sym (append_assoc before (flag ++ frame_bits octets) flag),
)

-- a flag ends in 1 and then 0, so no two end with neighbouring bits
no_neighbours : (b p q : List Bool) (bit : Bool) → b ≡ p ++ flag → b ++ bit ∷ [] ≡ q ++ flag → ⊥
no_neighbours b p q bit one two =
    let len : length b ≡ length p + 8 = ap length one ∙ length-append p flag in
    let more : length b + 1 ≡ length q + 8 = sym (length_push b bit) ∙ ap length two ∙ length-append q flag in
    let place : length p + 7 ≡ length q + 6 = omega arith in
    let zero_there : get_or b (length p + 7) true ≡ false = ap (λ t. get_or t (length p + 7) true) one
    ∙ get_or-append-add p flag 7 true in
    let one_there : get_or b (length q + 6) true ≡ true
    = sym (get_or_append_left b (bit ∷ []) true (length q + 6) (omega arith))
    ∙ ap (λ t. get_or t (length q + 6) true) two ∙ get_or-append-add q flag 6 true in
    true≢false (sym one_there ∙ ap (λ n. get_or b n true) (sym place) ∙ zero_there)

-- two candidates of one lane whose ends lie in 16 places are at one place
one_of_lane : (x : List ℤ) (item later : Candidate) → IsCandidate x item → IsCandidate x later
    → item.offset ≡ later.offset
    → item.end ≤ later.end → later.end ≤ item.end + 15 → item.end ≡ later.end
one_of_lane x item later a b same le near =
    let e = a.ends.end_of in
    let f = b.ends.end_of in
    elim (cases_lt a.index b.index) [
      | inr ge ↦ omega arith
      | inl lt ↦
          let next : b.index ≡ a.index + 1 = omega arith in
          let all : List Bool = bits later.offset x in
          let here : EndsFrame (take (a.index + 1) all) item.octets =
          subst (λ o. EndsFrame (take (a.index + 1) (bits o x)) item.octets) same a.ends.frame in
          let there : EndsFrame (take (a.index + 1 + 1) all) later.octets =
          subst (λ n. EndsFrame (take (n + 1) all) later.octets) next b.ends.frame in
          let within = b.ends.within in
          let longer : take (a.index + 1 + 1) all ≡ take (a.index + 1) all ++ get_or all (a.index + 1) false ∷ [] =
          take_more all (a.index + 1) false (omega arith) in
          let first = flag_last (take (a.index + 1) all) item.octets here in
          let second = flag_last (take (a.index + 1 + 1) all) later.octets there in
          absurd (no_neighbours (take (a.index + 1) all) first.0 second.0 (get_or all (a.index + 1) false) first.1
          (sym longer ∙ second.1))
    ]

-- so what ends in the last 16 places is at most one candidate of each lane
pub few_kept : (x : List ℤ) (items : List Candidate) → AreCandidates x items
    → length (not_below (length x - 15) items) ≤ 8
few_kept x items are =
    let p : Candidate → Bool = λ item. nat_le (length x - 15) item.end in
    let kept : List Candidate = not_below (length x - 15) items in
    let each : All (λ item. IsCandidate x item × (0 < item.end)) kept =
    All-filter p (λ item. IsCandidate x item × (0 < item.end)) items are.each in
    let late : All (λ item. p item ≡ true) kept = filter_passes p items in
    let rises : AllPairs (λ item later. standing item < standing later) kept =
    AllPairs-filter (λ item later. standing item < standing later) p items are.order in
    let offsets : List ℕ = map (λ item. item.offset) kept in
    let some : Candidate = record { end = 0; offset = 0; octets = [] } in
    let count : length offsets ≡ length kept = length-map kept (λ item. item.offset) in
    let distinct : IsDistinct eqb offsets = IsDistinct-from_AllPairs Decides-eqb offsets (λ i j d ij jl same.
    let first = each i some (omega arith) in
    let second = each j some (omega arith) in
    let stands = rises i j some ij (omega arith) in
    let at_i : get_or offsets i d ≡ (get_or kept i some).offset =
    get_or-map (λ item. item.offset) kept i some d (omega arith) in
    let at_j : get_or offsets j d ≡ (get_or kept j some).offset =
    get_or-map (λ item. item.offset) kept j some d (omega arith) in
    let lane : (get_or kept i some).offset ≡ (get_or kept j some).offset = sym at_i ∙ same ∙ at_j in
    let passes = leb-true (length x - 15) (get_or kept i some).end (late i some (omega arith)) in
    let within = end_within x (get_or kept j some) second.0 in
    let place = one_of_lane x (get_or kept i some) (get_or kept j some) first.0 second.0 lane (omega arith)
    (omega arith) in
    omega arith) in
    let small : All (λ offset. offset < 8) offsets = All-map (λ offset. offset < 8) (λ item. item.offset) kept
    (λ k d l. let e = each k d l in e.0.offset) in
    let few : length offsets ≤ 8 = length-le_from_distinct_below offsets 8 distinct
    (λ q found. All-contains (λ offset. offset < 8) offsets q small (Contains-from_any eqb-true q offsets found)) in
    omega arith
