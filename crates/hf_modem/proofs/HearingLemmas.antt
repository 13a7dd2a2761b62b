-- What the 32 lanes hear in a block, sample by sample.
use Rattle.hf_modem.proofs.Common.{◌≡◌, ℕ, ◌+◌, ◌/◌, ◌%◌, ◌<◌, ◌≤◌, ◌^◌, ℤ, List, [], ◌∷◌, ◌++◌, length, ap, sym, subst}
use Rattle.hf_modem.proofs.Common.{◌∙◌, arith, append-nil, append_assoc, length-append, Option, Some, None, Candidate}
use Rattle.hf_modem.proofs.Common.{AreCandidatesAfter, BankStandsFor, HeldBank, All, All-append, All-nil, end_sample}
use Rattle.hf_modem.proofs.Common.{option_to_list}
use Rattle.std.specs.Prelude.{IfSome}
use Rattle.std.proofs.lemmas.List.Elements.{All-cons}
use Rattle.block_receiver.specs.Hearing.{CanBePutFrom}
use Rattle.hf_modem.proofs.CandidateLemmas.{candidates_none, candidates_join}

-- the bank has taken a part of a block after any samples that it stood for, and these are what it heard in it
pub record HasHeard (initial now : HeldBank) (part : List ℤ) (found : List Candidate) : Type 0 where
  pub samples : (x : List ℤ) → BankStandsFor initial x → BankStandsFor now (x ++ part)
  pub are : (x : List ℤ) → BankStandsFor initial x → AreCandidatesAfter (length x) (x ++ part) found

pub heard_none : (initial : HeldBank) → HasHeard initial initial [] []
heard_none initial = record {
  samples = λ x h. subst (BankStandsFor initial) (sym (append-nil x)) h;
  are = λ x h. subst (λ xs. AreCandidatesAfter (length x) xs []) (sym (append-nil x)) (candidates_none x);
}

pub heard_more : (initial bank next : HeldBank) (part longer : List ℤ) (sample : ℤ) (found more after : List Candidate)
    → HasHeard initial bank part found → longer ≡ part ++ sample ∷ [] → after ≡ found ++ more
    → ((y : List ℤ) → BankStandsFor bank y → BankStandsFor next (y ++ sample ∷ [])
    × AreCandidatesAfter (length y) (y ++ sample ∷ []) more)
    → HasHeard initial next longer after
heard_more initial bank next part longer sample found more after h is found_is step = record {
  samples = λ x b.
      let all : (x ++ part) ++ sample ∷ [] ≡ x ++ longer = append_assoc x part (sample ∷ []) ∙ ap (λ l. x ++ l) (sym is) in
      subst (BankStandsFor next) all (step (x ++ part) (h.samples x b)).0;
  are = λ x b.
      let all : (x ++ part) ++ sample ∷ [] ≡ x ++ longer = append_assoc x part (sample ∷ []) ∙ ap (λ l. x ++ l) (sym is) in
      let size = length-append x part in
      subst (AreCandidatesAfter (length x) (x ++ longer)) (sym found_is)
      (subst (λ xs. AreCandidatesAfter (length x) xs (found ++ more)) all
      (candidates_join (length x) (x ++ part) (sample ∷ []) found more (omega arith) (h.are x b)
      (step (x ++ part) (h.samples x b)).1));
}

-- what was heard can be put, and so can what is heard with a sample
pub bounds_more : (low position : ℕ) (found after : List Candidate) (heard : Option Candidate)
    → after ≡ found ++ option_to_list heard → low ≤ position / 4 → position < 2 ^ 48
    → IfSome heard (λ item. (end_sample item ≡ position + 1) × (item.offset ≡ (position + 1) % 32))
    → All (CanBePutFrom 32 low) found → All (CanBePutFrom 32 low) after
bounds_more low position found after None is le room told all =
    subst (All (CanBePutFrom 32 low)) (sym (is ∙ append-nil found)) all
bounds_more low position found after (Some item) is le room told all =
    let P : Candidate → Type 0 = CanBePutFrom 32 low in
    let at = told.0 in
    let lane = told.1 in
    subst (All P) (sym is) (All-append P found (item ∷ []) all
    (All-cons P item [] (record { can = record { lane = omega arith; end = omega arith }; from = omega arith }) (All-nil P)))
