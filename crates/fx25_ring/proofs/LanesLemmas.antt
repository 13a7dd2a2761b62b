-- What the lanes hear of a stretch with one sample more, and what is left when it has ended.
use Rattle.fx25_ring.proofs.Common.{◌≡◌, ℕ, ◌+◌, ◌<◌, ◌≤◌, ◌^◌, ◌↔◌, ◌⊎◌, ⊎_elim, Bool, false, ℤ, List, [], ◌++◌, length, map}
use Rattle.fx25_ring.proofs.Common.{ap, sym, ◌∙◌, arith, inr, map-append, All, true≢false}
use Rattle.fx25_ring.proofs.Common.{Candidate, HeardItem, HeldEight, HeldAll, Lanes, Stretch, with_samples, placed}
use Rattle.fx25_ring.proofs.Common.{AreHeardInOne, AreMergedBy, AreSettledInOne, EightStandFor, AllStandFor, StandForStretch}
use Rattle.fx25_ring.proofs.Common.{AreTogether, Tells, Option, None, Some, is_some, Brings, Finishes}
use Rattle.std.proofs.Common.{IsTrue, length-append}
use Rattle.std.specs.Prelude.{IfSome}
use Rattle.fx25_ring.proofs.HeardLemmas.{all_right, merged_within, tells_settled, tells_within}

-- lanes that have heard nothing
pub tells_none : (eight : HeldEight) (all : Option HeldAll) → EightStandFor eight [] []
    → IfSome all (λ lanes. AllStandFor lanes [] []) → Tells eight all [] []
tells_none eight None h k = h
tells_none eight (Some all) h k = k

-- so many samples were heard
pub tells_count : (eight : HeldEight) (all : Option HeldAll) (x : List ℤ) (own : List HeardItem) → Tells eight all x own
    → IfSome all (λ lanes. lanes.follower.position ≡ eight.position) → length x ≡ eight.position
tells_count eight None x own h together = sym h.taken.count
tells_count eight (Some all) x own h together = sym h.position ∙ together

-- what the lanes gave of a stretch is what is settled of it
pub stands_settled : (lanes : Lanes) (s : Stretch) (own : List Candidate) → StandForStretch lanes s own
    → AreSettledInOne (is_some lanes.all) s own
stands_settled lanes s own h =
    let whole = tells_settled lanes.receiver lanes.all s.samples h.own h.tells in
    (whole.0, whole.1, h.items_are ∙ ap (map (placed s.begin)) whole.2)

-- what ends within samples fits after their begin
fits : (begin count : ℕ) (items : List HeardItem) → All (λ item. item.end ≤ count) items → begin + count < 2 ^ 64
    → All (λ item. begin + item.end < 2 ^ 64) items
fits begin count items within small k d l = let w = within k d l in omega arith

-- more samples, of which these items were told
pub brings : (now after : Lanes) (s : Stretch) (own : List Candidate) (h : StandForStretch now s own)
    (told : List HeardItem) (xs : List ℤ) (before items : List Candidate) → AreTogether now → after.begin ≡ now.begin
    → (now.begin + now.receiver.position) + length xs < 2 ^ 48
    → Tells after.receiver after.all (s.samples ++ xs) (h.own ++ told)
    → (All (λ item. now.begin + item.end < 2 ^ 64) told → items ≡ before ++ map (placed now.begin) told)
    → Brings (StandForStretch after) (with_samples s xs) own before items
brings now after s own h told xs before items together same small tells places =
    let y : List ℤ = s.samples ++ xs in
    let count = tells_count now.receiver now.all s.samples h.own h.tells together.all in
    let size = length-append s.samples xs in
    let few : now.begin + length y < 2 ^ 64 = omega arith in
    let within = all_right (λ item. item.end ≤ length y) h.own told
    (tells_within after.receiver after.all y (h.own ++ told) tells) in
    let joined : own ++ map (placed s.begin) told ≡ map (placed s.begin) (h.own ++ told)
    = ap (λ l. l ++ map (placed s.begin) told) h.items_are ∙ sym (map-append (placed s.begin) h.own told) in
    record {
      more = map (placed s.begin) told;
      holds = record { begin = same ∙ h.begin; own = h.own ++ told; tells = tells; items_are = joined };
      brought = places (fits now.begin (length y) told within few) ∙ ap (λ b. before ++ map (placed b) told) h.begin;
    }

-- the stretch has ended, and these items were left
pub finishes : (now : Lanes) (s : Stretch) (own : List Candidate) (h : StandForStretch now s own)
    (rest : List HeardItem) (before items : List Candidate) → AreTogether now
    → now.begin + now.receiver.position < 2 ^ 48 → AreMergedBy (is_some now.all) s.samples (h.own ++ rest)
    → (All (λ item. now.begin + item.end < 2 ^ 64) rest → items ≡ before ++ map (placed now.begin) rest)
    → Finishes (AreHeardInOne (is_some now.all)) s own before items
finishes now s own h rest before items together small merged places =
    let count = tells_count now.receiver now.all s.samples h.own h.tells together.all in
    let few : now.begin + length s.samples < 2 ^ 64 = omega arith in
    let within = all_right (λ item. item.end ≤ length s.samples) h.own rest
    (merged_within (is_some now.all) s.samples (h.own ++ rest) merged) in
    record {
      more = map (placed s.begin) rest;
      heard = (
        h.own ++ rest,
        merged,
        ap (λ l. l ++ map (placed s.begin) rest) h.items_are ∙ sym (map-append (placed s.begin) h.own rest),
      );
      brought = places (fits now.begin (length s.samples) rest within few)
          ∙ ap (λ b. before ++ map (placed b) rest) h.begin;
    }

-- another station is heard by either of two signs
pub either : (P Q : Type 0) (q : Bool) → (IsTrue false ↔ P) → (IsTrue q ↔ Q) → IsTrue q ↔ (P ⊎ Q)
either P Q q none told = (
  λ e. inr (told.0 e),
  λ h. ⊎_elim (λ (p : P). absurd (true≢false (sym (none.1 p)))) (λ (r : Q). told.1 r) h,
)
