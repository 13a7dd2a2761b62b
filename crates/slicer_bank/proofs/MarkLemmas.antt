-- The marks of lanes set one after another.
use Rattle.slicer_bank.proofs.Common.{◌≡◌, ℕ, ◌+◌, ◌<◌, ◌≤◌, List, length, get_or, set, ap, sym, ◌∙◌, arith, inl, inr}
use Rattle.slicer_bank.proofs.Common.{get_or-set_same, get_or-set_other, cases_eq, length-set, Candidate, Held}
use Rattle.frame_merge.specs.Held.{StandsFor}
use Rattle.slicer_bank.proofs.GatheringLemmas.{same_list}

-- so many of all lanes are marked at their positions
pub record HasMarked (lanes : ℕ) (initial now : Held) (positions : List ℕ) (n : ℕ) : Type 0 where
  pub size : length now.marks ≡ lanes
  pub done : (k : ℕ) → k < n → get_or now.marks k 0 ≡ get_or positions k 0
  pub rest : (k : ℕ) → n ≤ k → get_or now.marks k 0 ≡ get_or initial.marks k 0
  pub stands_for : (puts given : List Candidate) → StandsFor initial puts given → StandsFor now puts given

pub has_marked_more : (lanes : ℕ) (initial was now : Held) (positions : List ℕ) (n position : ℕ)
    → HasMarked lanes initial was positions n → n < lanes → position ≡ get_or positions n 0
    → now.marks ≡ set was.marks n position
    → ((puts given : List Candidate) → StandsFor was puts given → StandsFor now puts given)
    → HasMarked lanes initial now positions (n + 1)
has_marked_more lanes initial was now positions n position h l is marks step =
    let size = h.size in
    record {
      size = ap length marks ∙ length-set was.marks n position ∙ size;
      done = λ k m. ap (λ ms. get_or ms k 0) marks ∙ elim (cases_eq k n) [
        | inl e ↦ ap (λ i. get_or (set was.marks n position) i 0) e
            ∙ get_or-set_same was.marks n position 0 (omega arith) ∙ is ∙ ap (λ i. get_or positions i 0) (sym e)
        | inr ne ↦ get_or-set_other was.marks n k position 0 ne ∙ h.done k (omega arith)
      ];
      rest = λ k le. ap (λ ms. get_or ms k 0) marks ∙ get_or-set_other was.marks n k position 0 (λ e. omega arith)
          ∙ h.rest k (omega arith);
      stands_for = λ puts given s. step puts given (h.stands_for puts given s);
    }

pub all_marked : (lanes : ℕ) (initial now : Held) (positions : List ℕ) (n : ℕ) → HasMarked lanes initial now positions n
    → lanes ≤ n → length positions ≡ lanes → now.marks ≡ positions
all_marked lanes initial now positions n h full many = let size = h.size in
    same_list now.marks positions (omega arith) (λ k l. h.done k (omega arith))
