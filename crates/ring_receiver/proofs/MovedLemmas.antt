-- Candidates moved to where their stretch begins, one after another.
use Rattle.ring_receiver.proofs.Common.{◌≡◌, ℕ, ◌+◌, ◌^◌, ◌<◌, ◌≤◌, List, [], ◌∷◌, ◌++◌, length, map, get_or, ap, sym}
use Rattle.ring_receiver.proofs.Common.{subst, ◌∙◌, arith, append_assoc, length-append, All, append-nil}
use Rattle.ring_receiver.proofs.Common.{nil_from_length, map-append, All-append, All-map, get_or-append_seam, Candidate}
use Rattle.ring_receiver.proofs.Common.{CanBePutFrom, IsAddedFrom, moved}
use Rattle.sensitive_receiver.specs.Found.{HasRoom}

-- so many of the candidates that were heard are moved to their place and added, and so many others are left
pub record HasMoved (to_place : Candidate → Candidate) (before added all items left : List Candidate) (count : ℕ)
    : Type 0 where
  pub is : added ≡ before ++ map to_place items
  pub parts : items ++ left ≡ all
  pub counted : length left ≡ count

pub moved_more : (to_place : Candidate → Candidate) (before added after all items left rest : List Candidate)
    (count less : ℕ) (item : Candidate) → HasMoved to_place before added all items left count → left ≡ item ∷ rest
    → less + 1 ≡ count → after ≡ added ++ to_place item ∷ []
    → HasMoved to_place before after all (items ++ item ∷ []) rest less
moved_more to_place before added after all items left rest count less item h is fewer put = record {
  is = put ∙ ap (λ f. f ++ to_place item ∷ []) h.is ∙ append_assoc before (map to_place items) (to_place item ∷ [])
      ∙ ap (λ m. before ++ m) (sym (map-append to_place items (item ∷ [])));
  parts = append_assoc items (item ∷ []) rest ∙ ap (λ t. items ++ t) (sym is) ∙ h.parts;
  counted = (let c = h.counted in let l : length left ≡ length (item ∷ rest) = ap length is in omega arith);
}

pub moved_all : (to_place : Candidate → Candidate) (before added all items left : List Candidate) (count : ℕ)
    → HasMoved to_place before added all items left count → count ≡ 0 → added ≡ before ++ map to_place all
moved_all to_place before added all items left count h none =
    let empty : left ≡ [] = nil_from_length left (h.counted ∙ none) in
    h.is ∙ ap (λ l. before ++ map to_place l) (sym (append-nil items) ∙ ap (λ t. items ++ t) (sym empty) ∙ h.parts)

-- the next of them is one of all
pub next_is_one : (P : Candidate → Type 0) (to_place : Candidate → Candidate)
    (before added all items left rest : List Candidate) (count : ℕ) (item : Candidate)
    → HasMoved to_place before added all items left count → left ≡ item ∷ rest → All P all → P item
next_is_one P to_place before added all items left rest count item h is each =
    let whole : items ++ item ∷ rest ≡ all = ap (λ t. items ++ t) (sym is) ∙ h.parts in
    let within : length items < length all = (let l : length (items ++ item ∷ rest) ≡ length all = ap length whole in
    let m = length-append items (item ∷ rest) in omega arith) in
    subst P (ap (λ t. get_or t (length items) item) (sym whole) ∙ get_or-append_seam items item rest item)
    (each (length items) item within)

-- what is moved can be put into a merger, and does not end below where it was heard, moved too
pub moved_bounds : (begin low from : ℕ) (before found heard : List Candidate) → begin < 2 ^ 48
    → found ≡ before ++ map (moved begin) heard → All HasRoom heard → from ≤ begin + low → All (IsAddedFrom low) heard
    → All (CanBePutFrom from) before → All (CanBePutFrom from) found
moved_bounds begin low from before found heard small is room under late can =
    let P : Candidate → Type 0 = CanBePutFrom from in
    subst (All P) (sym is) (All-append P before (map (moved begin) heard) can
    (All-map P (moved begin) heard (λ k d l.
    let r = room k d l in
    let end = r.end in
    let ends = (late k d l).end in
    record {
      can = record { lane = r.lane; end = omega arith };
      from = record { lane = (late k d l).lane; end = omega arith };
    })))
