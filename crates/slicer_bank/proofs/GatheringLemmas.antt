-- Eight lanes that are visited one after another; and what they found, put into the order of its ends.
use Rattle.slicer_bank.proofs.Common.{◌≡◌, ◌≢◌, ℕ, zero, suc, ◌+◌, ◌*◌, ◌<◌, ◌≤◌, List, [], ◌∷◌, ◌++◌, length, get_or}
use Rattle.slicer_bank.proofs.Common.{set, take, map, refl, ap, sym, ◌∙◌, arith, subst, inl, inr, get_or-set_same}
use Rattle.slicer_bank.proofs.Common.{get_or-set_other, All, AllPairs, Contains, IsDistinct, flat_map, IsPermutation}
use Rattle.slicer_bank.proofs.Common.{IsNonDecreasingBy, cases_lt, cases_eq, Decides-eqb, get_or-map, get_or_default}
use Rattle.slicer_bank.proofs.Common.{length-map, length-set, take_all, take_more, All-nil, All-append}
use Rattle.slicer_bank.proofs.Common.{Contains-append_left, Contains-append_right, All-permutation}
use Rattle.slicer_bank.proofs.Common.{IsDistinct-from_AllPairs, Candidate, standing}
use Rattle.std.specs.Prelude.{◌==◌}
use Rattle.std.proofs.lemmas.List.{flat_map_more}
use Rattle.std.proofs.lemmas.List.Sorted.{IsPermutation-map}
use Rattle.std.proofs.lemmas.Map.Keys.{IsDistinct-IsPermutation}
use Rattle.std.proofs.lemmas.Map.Made.{AllPairs-from_IsDistinct}
use Rattle.slicer_bank.proofs.CandidateLemmas.{AllPairs-append}

-- ---- the lists of several lanes as one

pub flat_all : {X Y : Type 0} (P : Y → Type 0) (f : X → List Y) (xs : List X)
    → ((k : ℕ) (d : X) → k < length xs → All P (f (get_or xs k d))) → All P (flat_map f xs)
flat_all P f [] h = All-nil P
flat_all P f (x ∷ xs) h = All-append P (f x) (flat_map f xs) (h 0 x (omega arith))
    (flat_all P f xs (λ k d l. h (suc k) d (omega arith)))

pub flat_contains : {X Y : Type 0} (f : X → List Y) (xs : List X) (k : ℕ) (d : X) (y : Y) → k < length xs
    → Contains (f (get_or xs k d)) y → Contains (flat_map f xs) y
flat_contains f [] k d y l c = absurd (omega arith)
flat_contains f (x ∷ xs) zero d y l c = Contains-append_left (f x) (flat_map f xs) y c
flat_contains f (x ∷ xs) (suc k) d y l c = Contains-append_right (f x) (flat_map f xs) y
    (flat_contains f xs k d y (omega arith) c)

-- the list of one lane more
flat_more : {X Y : Type 0} (f : X → List Y) (xs : List X) (n : ℕ) (d : X) → n < length xs
    → flat_map f (take n xs) ++ f (get_or xs n d) ≡ flat_map f (take (n + 1) xs)
flat_more f xs n d l = flat_map_more f [] (take n xs) (get_or xs n d) ∙ ap (flat_map f) (sym (take_more xs n d l))

-- lists of one length with the same elements are one list
pub same_list : (xs ys : List ℕ) → length xs ≡ length ys → ((k : ℕ) → k < length xs → get_or xs k 0 ≡ get_or ys k 0)
    → xs ≡ ys
same_list [] [] l h = refl
same_list [] (y ∷ ys) l h = absurd (omega arith)
same_list (x ∷ xs) [] l h = absurd (omega arith)
same_list (x ∷ xs) (y ∷ ys) l h = ap (λ a. a ∷ xs) (h 0 (omega arith))
    ∙ ap (λ bs. y ∷ bs) (same_list xs ys (omega arith) (λ k m. h (suc k) (omega arith)))

-- one of some elements
pub some_of : {X : Type 0} (xs : List X) → 0 < length xs → X
some_of [] l = absurd (omega arith)
some_of (x ∷ xs) l = x

-- ---- eight lanes, one after another

-- so many of eight lanes were visited, and the others are as they were; `Did` says what was done at each
pub record Visited {X : Type 0} (Did : ℕ → X → X → Type 0) (old now : List X) (n : ℕ) : Type 0 where
  pub eight : length old ≡ 8
  pub size : length now ≡ 8
  pub done : (k : ℕ) (d : X) → k < n → Did k (get_or old k d) (get_or now k d)
  pub rest : (k : ℕ) (d : X) → n ≤ k → k < 8 → get_or now k d ≡ get_or old k d

pub visited_none : {X : Type 0} (Did : ℕ → X → X → Type 0) (lanes : List X) → length lanes ≡ 8
    → Visited Did lanes lanes 0
visited_none Did lanes eight = record {
  eight = eight;
  size = eight;
  done = λ k d l. absurd (omega arith);
  rest = λ k d le l. refl;
}

-- the next lane is as it was
pub visited_here : {X : Type 0} (Did : ℕ → X → X → Type 0) (old now : List X) (n : ℕ) (was d : X)
    → Visited Did old now n → n < 8 → get_or now n was ≡ get_or old n d
visited_here Did old now n was d h l = let size = h.size in get_or_default now n was d (omega arith)
    ∙ h.rest n d (omega arith) l

-- what is so of each lane is so with one of them changed
changed : {X : Type 0} (R : X → X → Type 0) (old now : List X) (n k : ℕ) (lane d : X) → n < length now
    → R (get_or old n d) lane → (k ≢ n → R (get_or old k d) (get_or now k d))
    → R (get_or old k d) (get_or (set now n lane) k d)
changed R old now n k lane d l here other = elim (cases_eq k n) [
  | inl e ↦ subst (λ i. R (get_or old i d) (get_or (set now n lane) i d)) (sym e)
      (subst (R (get_or old n d)) (sym (get_or-set_same now n lane d l)) here)
  | inr ne ↦ subst (R (get_or old k d)) (sym (get_or-set_other now n k lane d ne)) (other ne)
]

pub alike_more : {X : Type 0} (Alike : X → X → Type 0) (Did : ℕ → X → X
    → Type 0) (old now : List X) (n : ℕ) (was lane : X) → Visited Did old now n → n < 8 → Alike (get_or now n was) lane
    → ((k : ℕ) (d : X) → k < 8 → Alike (get_or old k d) (get_or now k d)) → (k : ℕ) (d : X) → k < 8
    → Alike (get_or old k d) (get_or (set now n lane) k d)
alike_more Alike Did old now n was lane h l alike each k d m =
    let size = h.size in
    changed Alike old now n k lane d (omega arith) (subst (λ x. Alike x lane) (visited_here Did old now n was d h l)
    alike) (λ ne. each k d m)

pub visited_more : {X : Type 0} (Did : ℕ → X → X → Type 0) (old now : List X) (n : ℕ) (was lane : X)
    → Visited Did old now n → n < 8 → Did n (get_or now n was) lane → Visited Did old (set now n lane) (n + 1)
visited_more Did old now n was lane h l did =
    let size = h.size in
    record {
      eight = h.eight;
      size = length-set now n lane ∙ size;
      done = λ k d m. elim (cases_eq k n) [
        | inl e ↦
            subst (λ i. Did i (get_or old i d) (get_or (set now n lane) i d)) (sym e)
            (subst (Did n (get_or old n d)) (sym (get_or-set_same now n lane d (omega arith)))
            (subst (λ x. Did n x lane) (visited_here Did old now n was d h l) did))
        | inr ne ↦ subst (Did k (get_or old k d)) (sym (get_or-set_other now n k lane d ne)) (h.done k d (omega arith))
      ];
      rest = λ k d le m. get_or-set_other now n k lane d (λ e. omega arith) ∙ h.rest k d (omega arith) m;
    }

-- what the lanes visited have handed over, one after the other, with what the next one had
pub found_more : {X Y : Type 0} (Did : ℕ → X → X → Type 0) (found_by : X
    → List Y) (old now : List X) (n : ℕ) (was : X) (found after : List Y) → Visited Did old now n → n < 8
    → found ≡ flat_map found_by (take n old) → after ≡ found ++ found_by (get_or now n was)
    → after ≡ flat_map found_by (take (n + 1) old)
found_more Did found_by old now n was found after h l gathered more =
    let eight = h.eight in
    more ∙ ap (λ c. c ++ found_by (get_or now n was)) gathered
    ∙ ap (λ x. flat_map found_by (take n old) ++ found_by x) (visited_here Did old now n was was h l)
    ∙ flat_more found_by old n was (omega arith)

-- all eight were visited
pub all_visited : {X : Type 0} (Did : ℕ → X → X → Type 0) (old now : List X) (n : ℕ) → Visited Did old now n → n ≡ 8
    → take n old ≡ old
all_visited Did old now n h full = let eight = h.eight in take_all n old (omega arith)

-- ---- by the ends

-- what the lane of an offset found ends with its windows, one after the other
pub record IsOfLane (offset : ℕ) (items : List Candidate) : Type 0 where
  pub each : All (λ item. (item.offset ≡ offset) × ((windows : ℕ) × (item.end ≡ offset + 8 * windows))) items
  pub rising : AllPairs (λ item later. item.end < later.end) items

-- so no two of several lanes end together
apart_from : {X : Type 0} (found_by : X → List Candidate) (first : ℕ) (lanes : List X)
    → ((k : ℕ) (d : X) → k < length lanes → IsOfLane (first + k) (found_by (get_or lanes k d)))
    → first + length lanes ≤ 8
    → AllPairs (λ item later. item.end ≢ later.end) (flat_map found_by lanes)
apart_from found_by first [] of_lane le = λ i j d ij jl. absurd (omega arith)
apart_from found_by first (x ∷ lanes) of_lane le =
    let mine = of_lane 0 x (omega arith) in
    let later : All (λ item. (first < item.offset) × (item.offset < 8)
    × ((windows : ℕ) × (item.end ≡ item.offset + 8 * windows))) (flat_map found_by lanes)
    = flat_all (λ item. (first < item.offset) × (item.offset < 8)
    × ((windows : ℕ) × (item.end ≡ item.offset + 8 * windows))) found_by lanes
    (λ k d l i e il. let p = (of_lane (suc k) d (omega arith)).each i e il in let o = p.0 in let ends = p.1.1 in
    (omega arith, omega arith, (p.1.0, omega arith))) in
    AllPairs-append (λ item later. item.end ≢ later.end) (found_by x) (flat_map found_by lanes)
    (λ i j d ij jl e. let lt = mine.rising i j d ij jl in omega arith)
    (apart_from found_by (first + 1) lanes (λ k d l. subst (λ n. IsOfLane n (found_by (get_or lanes k d)))
    (let z : first + suc k ≡ first + 1 + k = omega arith in z) (of_lane (suc k) d (omega arith))) (omega arith))
    (λ i j d il jl e. let a = (mine.each i d il).1.1 in let b = later j d jl in let above = b.0 in let below = b.1 in
    let ends = b.2.1 in omega arith)

-- the ends of candidates that end apart are apart, and the other way round
ends_apart : (xs : List Candidate) → AllPairs (λ x y. x.end ≢ y.end) xs → AllPairs (λ m n. m ≢ n) (map (λ y. y.end) xs)
ends_apart [] h i j d ij jl e = absurd (omega arith)
ends_apart (x ∷ rest) h i j d ij jl e =
    let len = length-map (x ∷ rest) (λ y. y.end) in
    h i j x ij (omega arith)
    (sym (get_or-map (λ y. y.end) (x ∷ rest) i x d (omega arith)) ∙ e
    ∙ get_or-map (λ y. y.end) (x ∷ rest) j x d (omega arith))

apart_ends : (xs : List Candidate) → AllPairs (λ m n. m ≢ n) (map (λ y. y.end) xs) → AllPairs (λ x y. x.end ≢ y.end) xs
apart_ends xs h i j d ij jl e =
    let len = length-map xs (λ y. y.end) in
    h i j 0 ij (omega arith)
    (get_or-map (λ y. y.end) xs i d 0 (omega arith) ∙ e ∙ sym (get_or-map (λ y. y.end) xs j d 0 jl))

-- candidates that end apart do so in any order
apart_moved : (xs ys : List Candidate) → IsPermutation xs ys → AllPairs (λ x y. x.end ≢ y.end) xs
    → AllPairs (λ x y. x.end ≢ y.end) ys
apart_moved xs ys moved h =
    let ends : List Candidate → List ℕ = map (λ y. y.end) in
    let before : IsDistinct (λ m n. m == n) (ends xs) = IsDistinct-from_AllPairs Decides-eqb (ends xs) (ends_apart xs h)
    in
    let after : IsDistinct (λ m n. m == n) (ends ys) = IsDistinct-IsPermutation (λ m n. m == n) equal_flips (ends xs)
    (ends ys) (IsPermutation-map (λ y. y.end) xs ys moved) before in
    apart_ends ys (AllPairs-from_IsDistinct Decides-eqb (ends ys) after)
  where
    equal_flips : (m n : ℕ) → (m == n) ≡ (n == m)
    equal_flips m n = elim (cases_eq m n) [
      | inl same ↦ (ap (λ t. t == n) same ∙ ap (λ t. n == t) (sym same))
      | inr other ↦ grind arith
    ]

-- what eight lanes found, by the ends, stands in order
pub stands_in_order : {X : Type 0} (found_by : X → List Candidate) (lanes : List X) (sorted : List Candidate)
    → length lanes ≡ 8 → ((k : ℕ) (d : X) → k < 8 → IsOfLane k (found_by (get_or lanes k d)))
    → IsPermutation (flat_map found_by lanes) sorted → IsNonDecreasingBy (λ y. y.end) sorted
    → AllPairs (λ item later. standing item < standing later) sorted
stands_in_order found_by lanes sorted eight of_lane moved rises i j d ij jl =
    let apart : (get_or sorted i d).end ≢ (get_or sorted j d).end
    = apart_moved (flat_map found_by lanes) sorted moved
    (apart_from found_by 0 lanes (λ k e l. subst (λ n. IsOfLane n (found_by (get_or lanes k e)))
    (let z : k ≡ 0 + k = omega arith in z) (of_lane k e (omega arith))) (omega arith)) i j d ij jl in
    let small : All (λ item. item.offset < 8) sorted
    = All-permutation (λ item. item.offset < 8) (flat_map found_by lanes) sorted moved
    (flat_all (λ item. item.offset < 8) found_by lanes (λ k e l m f ml. let o =
    ((of_lane k e (omega arith)).each m f ml).0 in omega arith)) in
    let a = small i d (omega arith) in
    let le = rises i j d (omega arith) jl in
    elim (cases_lt (get_or sorted i d).end (get_or sorted j d).end) [
      | inl lt ↦ omega arith
      | inr ge ↦ absurd (apart (omega arith))
    ]
