-- Streams that are visited one after another.
use Rattle.wide_input.proofs.Common.{◌≡◌, ℕ, ◌+◌, ◌/◌, ◌<◌, ◌≤◌, ℤ, List, [], ◌∷◌, ◌++◌, Some, map, take, drop}
use Rattle.wide_input.proofs.Common.{replicate, append-nil, length, get_or, ap, sym, ◌∙◌, arith, subst, inl, inr, All}
use Rattle.wide_input.proofs.Common.{cases_lt, map-append, length-map, take_more, Candidate, in_stream, HeldStream}
use Rattle.wide_input.proofs.Common.{HearsBlock, AreAlike, HasFound, items_of, found_by, brought, IsAbreast, TakesPart}
use Rattle.wide_input.proofs.Common.{KeepsInTime}
use Rattle.std.proofs.Common.{set, get_or-set_same, get_or-set_other}
use Rattle.std.proofs.lemmas.Bool.{cases_eq}
use Rattle.std.proofs.lemmas.List.{get_or_default, length-set, get_or_append_left, length-take-le, get_or-replicate}
use Rattle.std.proofs.lemmas.List.{length-replicate}
use Rattle.std.proofs.Math.Seq.{get_or-append_seam, take-append_seam}
use Rattle.wide_input.specs.Held.{KeepsFit}
use Rattle.wide_input.proofs.WideLemmas.{brought-append}

-- what a stream does in its job
pub record DidHear (block : List ℤ) (was now : HeldStream) : Type 0 where
  pub heard : HearsBlock block was now
  pub fits : KeepsFit now
  pub position : now.bank.position ≤ was.bank.position + length block
  pub part : (from : ℕ) → IsAbreast from was → TakesPart from (length block) now

-- a stream gave what it found: it had not wanted memory
abbrev pub GaveFound : HeldStream → HeldStream → Type 0
GaveFound was now = AreAlike now was × HasFound was

-- so many of the streams were visited, and the others are as they were; `Did` says what was done at each
pub record Visited {X : Type 0} (Did : X → X → Type 0) (old now : List X) (n : ℕ) : Type 0 where
  pub size : length now ≡ length old
  pub done : (k : ℕ) (d : X) → k < n → Did (get_or old k d) (get_or now k d)
  pub rest : (k : ℕ) (d : X) → n ≤ k → get_or now k d ≡ get_or old k d

-- the next stream is as it was
pub visited_here : {X : Type 0} (Did : X → X → Type 0) (old now : List X) (n : ℕ) (was d : X) → Visited Did old now n
    → n < length old → get_or now n was ≡ get_or old n d
visited_here Did old now n was d h l = let size = h.size in get_or_default now n was d (omega arith)
    ∙ h.rest n d (omega arith)

pub visited_more : {X : Type 0} (Did : X → X → Type 0) (old now : List X) (n : ℕ) (was stream : X)
    → Visited Did old now n → n < length old
    → Did (get_or now n was) stream → Visited Did old (set now n stream) (n + 1)
visited_more Did old now n was stream h l did =
    let size = h.size in
    record {
      size = length-set now n stream ∙ size;
      done = λ k d m. elim (cases_eq k n) [
        | inl e ↦
            subst (λ i. Did (get_or old i d) (get_or (set now n stream) i d)) (sym e)
            (subst (Did (get_or old n d)) (sym (get_or-set_same now n stream d (omega arith)))
            (subst (λ x. Did x stream) (visited_here Did old now n was d h l) did))
        | inr ne ↦ subst (Did (get_or old k d)) (sym (get_or-set_other now n k stream d ne)) (h.done k d (omega arith))
      ];
      rest = λ k d le. get_or-set_other now n k stream d (λ e. omega arith) ∙ h.rest k d (omega arith);
    }

-- what is so of each of a list and of one more is so of each with it
pub each_push : {X : Type 0} (P : ℕ → X → Type 0) (xs : List X) (n : ℕ) (x : X) → length xs ≡ n
    → ((k : ℕ) (d : X) → k < n → P k (get_or xs k d)) → P n x
    → (k : ℕ) (d : X) → k < n + 1 → P k (get_or (xs ++ x ∷ []) k d)
each_push P xs n x size each last k d l = elim (cases_lt k n) [
  | inl before ↦ subst (P k) (sym (get_or_append_left xs (x ∷ []) d k (omega arith))) (each k d before)
  | inr here ↦
      let same : k ≡ length xs = omega arith in
      let at : get_or (xs ++ x ∷ []) k d ≡ x = ap (λ i. get_or (xs ++ x ∷ []) i d) same
      ∙ get_or-append_seam xs x [] d in
      subst (P k) (sym at) (subst (λ i. P i x) (let e : n ≡ k = omega arith in e) last)
]

-- what the streams visited have brought, with what the next one found
pub brought-more : (streams : List HeldStream) (n : ℕ) (d : HeldStream) (found : List Candidate) → n < length streams
    → (get_or streams n d).found ≡ Some found
    → brought 0 (map found_by (take n streams)) ++ map (in_stream n) found
    ≡ brought 0 (map found_by (take (n + 1) streams))
brought-more streams n d found l is =
    let before : List (List Candidate) = map found_by (take n streams) in
    let size : length before ≡ n = length-map (take n streams) found_by ∙ length-take-le n streams (omega arith) in
    let at : 0 + length before ≡ n = omega arith in
    let last : map (in_stream n) found ≡ brought (0 + length before) (found_by (get_or streams n d) ∷ [])
    = ap (λ i. map (in_stream i) found) (sym at) ∙ ap (λ f. map (in_stream (0 + length before)) f)
    (sym (ap items_of is)) ∙ sym (append-nil (map (in_stream (0 + length before)) (found_by (get_or streams n d))))
    in
    ap (λ t. brought 0 before ++ t) last
    ∙ sym (ap (λ t. brought 0 (map found_by t)) (take_more streams n d l)
    ∙ ap (brought 0) (map-append found_by (take n streams) (get_or streams n d ∷ []))
    ∙ brought-append 0 before (found_by (get_or streams n d) ∷ []))

-- what was lent comes back as it was left
pub given_back : {X : Type 0} (n : ℕ) (streams before : List X) → n ≡ length streams
    → take n (streams ++ drop (length streams) before) ≡ streams
given_back n streams before full =
    ap (λ m. take m (streams ++ drop (length streams) before)) full
    ∙ take-append_seam streams (drop (length streams) before)

-- each of equal marks is at most a greater one
pub all_marks : (n mark most : ℕ) (marks : List ℕ) → mark ≤ most → marks ≡ replicate n mark → All (λ m. m ≤ most) marks
all_marks n mark most marks le is k d l =
    let size : length marks ≡ n = ap length is ∙ length-replicate n mark in
    let at : get_or marks k d ≡ mark = ap (λ t. get_or t k d) is ∙ get_or-replicate n k mark d (omega arith) in
    omega arith

-- what streams heard in their parts of a block is in time for marks where the least stream stood
pub all_in_time : (position count : ℕ) (marks : List ℕ) (streams : List HeldStream)
    → marks ≡ replicate 40 (position / 5) → All (TakesPart position count) streams
    → All (KeepsInTime marks) streams
all_in_time position count marks streams is part k d l found kept i item il j mark jl =
    let ends = (part k d l).past found kept i item il in
    let least = all_marks 40 (position / 5) (position / 5) marks (omega arith) is j mark jl in
    omega arith
