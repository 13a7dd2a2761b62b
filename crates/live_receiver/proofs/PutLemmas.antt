-- What the lanes of short wave hear with more samples, as it is added to the items.
use Rattle.live_receiver.proofs.Common.{◌≡◌, ℕ, ◌+◌, ◌%◌, ◌<◌, ◌≤◌, ◌^◌, Bool, true, ℤ, List, [], ◌∷◌, ◌++◌}
use Rattle.live_receiver.proofs.Common.{length, map, refl, ap, sym, subst, ◌∙◌, arith, append_assoc, append-nil}
use Rattle.live_receiver.proofs.Common.{map-append, length-append, All, All-append, All-map, All-nil, Candidate}
use Rattle.live_receiver.proofs.Common.{AreCandidatesAfter, CanCome, moved, moved_added, placed, Option, Some, None}
use Rattle.live_receiver.proofs.Common.{IfSome, option_map, option_to_list, end_sample}
use Rattle.std.proofs.lemmas.List.Elements.{All-cons}
use Rattle.hf_modem.specs.Held.{HeldBank, BankStandsFor}
use Rattle.hf_sensitive.specs.Found.{CanBePutFrom, least_end}
use Rattle.hf_modem.proofs.HearingLemmas.{HasHeard, heard_more, heard_none}
use Rattle.live_receiver.proofs.HeardLemmas.{placed_is}
use Rattle.live_receiver.proofs.MergeLemmas.{lanes_at_least}

-- ---- what the 32 lanes hear, sample by sample

-- the bank has taken a part of samples, and what it heard in it was added
pub record HasKept (begin : ℕ) (initial now : HeldBank) (part : List ℤ) (before items : List Candidate) : Type 0 where
  pub position : now.position ≡ initial.position + length part
  pub flags : now.flags ≡ initial.flags
  pub found : List Candidate
  pub added : items ≡ before ++ map (moved begin) found
  pub heard : HasHeard initial now part found
  pub come : (sensitive : Bool) (from : ℕ) → from ≤ begin + initial.position → All (CanCome sensitive from) before
      → All (CanCome sensitive from) items

pub kept_none : (begin : ℕ) (initial : HeldBank) (items : List Candidate) → HasKept begin initial initial [] items items
kept_none begin initial items = record {
  position = omega arith;
  flags = refl;
  found = [];
  added = sym (append-nil items);
  heard = heard_none initial;
  come = λ sensitive from under h. h;
}

-- what ends at a place can come to lanes that are not past it
placed_comes : (sensitive : Bool) (from place : ℕ) (heard : Candidate) → from ≤ place → place < 2 ^ 48
    → CanCome sensitive from (placed place heard)
placed_comes sensitive from place heard under small =
    let least = lanes_at_least sensitive in
    record { lane = omega arith; end = omega arith; late = omega arith }

one_comes : (sensitive : Bool) (from place : ℕ) (heard : Option Candidate) → from ≤ place → place < 2 ^ 48
    → All (CanCome sensitive from) (option_to_list (option_map (placed place) heard))
one_comes sensitive from place None under small = All-nil (CanCome sensitive from)
one_comes sensitive from place (Some heard) under small =
    All-cons (CanCome sensitive from) (placed place heard) [] (placed_comes sensitive from place heard under small)
    (All-nil (CanCome sensitive from))

pub kept_more : (begin : ℕ) (initial bank next : HeldBank) (part longer : List ℤ) (sample : ℤ) (place : ℕ)
    (before items after : List Candidate) (heard : Option Candidate) → HasKept begin initial bank part before items
    → longer ≡ part ++ sample ∷ [] → after ≡ items ++ option_to_list (option_map (placed place) heard)
    → place ≡ begin + (bank.position + 1) → place < 2 ^ 48 → next.position ≡ bank.position + 1
    → next.flags ≡ bank.flags
    → IfSome heard (λ item. (end_sample item ≡ bank.position + 1) × (item.offset ≡ (bank.position + 1) % 32))
    → ((y : List ℤ) → BankStandsFor bank y → BankStandsFor next (y ++ sample ∷ [])
    × AreCandidatesAfter (length y) (y ++ sample ∷ []) (option_to_list heard))
    → HasKept begin initial next longer before after
kept_more begin initial bank next part longer sample place before items after heard h is after_is at small position flags
    told step =
    let more : List Candidate = option_to_list heard in
    let size = length-append part (sample ∷ []) in
    let count : length longer ≡ length (part ++ sample ∷ []) = ap length is in
    let come : (sensitive : Bool) (from : ℕ) → from ≤ begin + initial.position → All (CanCome sensitive from) before
    → All (CanCome sensitive from) after
    = λ sensitive from under all.
    let was = h.position in
    subst (All (CanCome sensitive from)) (sym after_is)
    (All-append (CanCome sensitive from) items (option_to_list (option_map (placed place) heard))
    (h.come sensitive from under all) (one_comes sensitive from place heard (omega arith) small)) in
    record {
      position = (let was = h.position in omega arith);
      flags = flags ∙ h.flags;
      found = h.found ++ more;
      added = after_is
          ∙ ap (λ p. items ++ option_to_list (option_map (placed p) heard)) at
          ∙ ap (λ l. items ++ l) (placed_is begin (bank.position + 1) heard told)
          ∙ ap (λ l. l ++ map (moved begin) more) h.added
          ∙ append_assoc before (map (moved begin) h.found) (map (moved begin) more)
          ∙ ap (λ l. before ++ l) (sym (map-append (moved begin) h.found more));
      heard = heard_more initial bank next part longer sample h.found more (h.found ++ more) h.heard is refl step;
      come = come;
    }

-- ---- what the added lanes hear

-- moved, it can come
pub moved_come : (sensitive : Bool) (begin position from : ℕ) (before items heard : List Candidate) → sensitive ≡ true
    → items ≡ before ++ map (moved_added begin) heard → begin + position < 2 ^ 48 → from ≤ begin + position
    → All (CanBePutFrom (least_end position)) heard → All (CanCome sensitive from) before
    → All (CanCome sensitive from) items
moved_come sensitive begin position from before items heard all is small under can come =
    subst (λ s. All (CanCome s from) before → All (CanCome s from) items) (sym all)
    (λ h. subst (All (CanCome true from)) (sym is) (All-append (CanCome true from) before
    (map (moved_added begin) heard) h
    (All-map (CanCome true from) (moved_added begin) heard (λ k d l.
    let c = can k d l in
    let lane = c.can.lane in
    let end = c.can.end in
    let low = c.from in
    record { lane = omega arith; end = omega arith; late = omega arith })))) come
