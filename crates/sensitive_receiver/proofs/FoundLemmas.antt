-- What the added lanes find, joined.
use Rattle.sensitive_receiver.proofs.Common.{◌≡◌, ◌≢◌, ℕ, ◌+◌, ◌<◌, ◌≤◌, ℤ, List, [], ◌∷◌, ◌++◌, length, get_or, refl}
use Rattle.sensitive_receiver.proofs.Common.{ap, sym, subst, ◌∙◌, arith, append_assoc, inl, inr, ◌⊎◌, All, cases_lt}
use Rattle.sensitive_receiver.proofs.Common.{append-nil, All-nil, All-cons, All-append, Contains-append_left}
use Rattle.sensitive_receiver.proofs.Common.{Contains-append_right, Candidate, standing, EndsFrame, AllPairs-append}
use Rattle.sensitive_receiver.proofs.Common.{delay_of, lane_bits, EndsAtPlace, AddsAt, AddsIn, IsSlowOn, Reach}
use Rattle.sensitive_receiver.proofs.Common.{HasRoomFrom}
use Rattle.sensitive_receiver.specs.Found.{AreAddedWhere, AddsWhere}

abbrev Apart : Candidate → Candidate → Type 0
Apart item later = standing item ≢ standing later

-- a delay is at most two places
pub delay_small : (lane : ℕ) → lane < 26 → delay_of lane ≤ 2
delay_small lane small = grind arith

-- two items of one standing were heard at one place by one lane
pub one_place : (x : List ℤ) (item other : Candidate) (p q : ℕ) → EndsAtPlace x item p → EndsAtPlace x other q
    → standing item ≡ standing other
    → (p ≡ q) × (item.offset ≡ other.offset)
one_place x item other p q a b same =
    let small = a.most in
    let small_other = b.most in
    let end = a.end_of in
    let end_other = b.end_of in
    let lane : item.offset ≡ other.offset = omega arith in
    let delay : delay_of item.offset ≡ delay_of other.offset = ap delay_of lane in
    let d = delay_small item.offset small in
    (omega arith, lane)

-- nothing
pub where_none : (Of : ℕ → ℕ → Type 0) (x : List ℤ)
    → ((item : Candidate) (place : ℕ) → Of place item.offset → EndsAtPlace x item place → ⊥) → AreAddedWhere Of x []
where_none Of x never = record {
  each = All-nil (λ item. (place : ℕ) × Of place item.offset × EndsAtPlace x item place);
  whole = λ item place of ends. absurd (never item place of ends);
  apart = λ i j d ij jl. absurd (omega arith);
}

-- items of two kinds, which are then of a third
pub where_join : (A B C : ℕ → ℕ → Type 0) (x : List ℤ) (items more : List Candidate) → AreAddedWhere A x items
    → AreAddedWhere B x more
    → ((p l : ℕ) → A p l → C p l) → ((p l : ℕ) → B p l → C p l) → ((p l : ℕ) → C p l → A p l ⊎ B p l)
    → ((p l : ℕ) → A p l → B p l → ⊥)
    → AreAddedWhere C x (items ++ more)
where_join A B C x items more a b from_a from_b either never =
    let P : Candidate → Type 0 = λ item. (place : ℕ) × C place item.offset × EndsAtPlace x item place in
    record {
      each = All-append P items more
          (λ k d l. let e = a.each k d l in (e.0, from_a e.0 (get_or items k d).offset e.1, e.2))
          (λ k d l. let e = b.each k d l in (e.0, from_b e.0 (get_or more k d).offset e.1, e.2));
      whole = λ item place of ends. elim (either place item.offset of) [
        | inl in_a ↦ Contains-append_left items more item (a.whole item place in_a ends)
        | inr in_b ↦ Contains-append_right items more item (b.whole item place in_b ends)
      ];
      apart = AllPairs-append Apart items more a.apart b.apart (λ i j d il jl same.
          let e = a.each i d il in
          let f = b.each j d jl in
          let one = one_place x (get_or items i d) (get_or more j d) e.0 f.0 e.2 f.2 same in
          never f.0 (get_or more j d).offset
          (subst (λ p. A p (get_or more j d).offset) one.0 (subst (A e.0) one.1 e.1)) f.1);
    }

-- what is added, and what is added after it
pub adds_join : (A B C : ℕ → ℕ → Type 0) (x : List ℤ) (before middle after : List Candidate)
    → AddsWhere A x before middle → AddsWhere B x middle after
    → ((p l : ℕ) → A p l → C p l) → ((p l : ℕ) → B p l → C p l) → ((p l : ℕ) → C p l → A p l ⊎ B p l)
    → ((p l : ℕ) → A p l → B p l → ⊥)
    → AddsWhere C x before after
adds_join A B C x before middle after a b from_a from_b either never = record {
  heard = a.heard ++ b.heard;
  found = b.found ∙ ap (λ t. t ++ b.heard) a.found ∙ append_assoc before a.heard b.heard;
  are = where_join A B C x a.heard b.heard a.are b.are from_a from_b either never;
}

pub adds_none : (Of : ℕ → ℕ → Type 0) (x : List ℤ) (before : List Candidate)
    → ((item : Candidate) (place : ℕ) → Of place item.offset → EndsAtPlace x item place → ⊥)
    → AddsWhere Of x before before
adds_none Of x before never = record { heard = []; found = sym (append-nil before); are = where_none Of x never }

-- one frame of one lane at one place
pub adds_one : (x : List ℤ) (place lane : ℕ) (before after : List Candidate) (item : Candidate)
    → after ≡ before ++ item ∷ [] → item.offset ≡ lane → EndsAtPlace x item place
    → ((octets : List ℕ) → EndsFrame (lane_bits x lane (place + 1)) octets → item.octets ≡ octets)
    → AddsAt place lane x before after
adds_one x place lane before after item is of ends unique =
    let P : Candidate → Type 0 = λ i. (p : ℕ) × ((p ≡ place) × (i.offset ≡ lane)) × EndsAtPlace x i p in
    record {
      heard = item ∷ [];
      found = is;
      are = record {
        each = All-cons P item [] (place, (refl, of), ends) (All-nil P);
        whole = λ other p which there.
            let frame : EndsFrame (lane_bits x lane (place + 1)) other.octets
            = (λ (f : EndsFrame (lane_bits x other.offset (p + 1)) other.octets).
            subst (λ l. EndsFrame (lane_bits x l (place + 1)) other.octets) which.1
            (subst (λ q. EndsFrame (lane_bits x other.offset (q + 1)) other.octets) which.0 f)) there.frame in
            let octets : item.octets ≡ other.octets = unique other.octets frame in
            let lanes : item.offset ≡ other.offset = of ∙ sym which.1 in
            let here = ends.end_of in
            let there_end = there.end_of in
            let delays : delay_of item.offset ≡ delay_of other.offset = ap delay_of lanes in
            let p_is = which.0 in
            let end : item.end ≡ other.end = omega arith in (
              0,
              (let l : 0 < length (item ∷ []) = omega arith in l),
              (λ i. record { end = end i; offset = lanes i; octets = octets i }),
            );
        apart = λ i j d ij jl. absurd (omega arith);
      };
    }

-- what was found has room to be moved, and so has one item more
pub bounds_more : (low : ℕ) (found after : List Candidate) (item : Candidate) → after ≡ found ++ item ∷ []
    → HasRoomFrom low item → All (HasRoomFrom low) found → All (HasRoomFrom low) after
bounds_more low found after item is can all =
    let P : Candidate → Type 0 = HasRoomFrom low in
    subst (All P) (sym is) (All-append P found (item ∷ []) all (All-cons P item [] can (All-nil P)))

-- what the lanes of a list find at places, and at the places that follow them
pub adds_next_places : (reach : Reach) (from middle to : ℕ) (x : List ℤ) (before found after : List Candidate)
    → from ≤ middle → middle ≤ to
    → AddsIn reach from middle x before found → AddsIn reach middle to x found after
    → AddsIn reach from to x before after
adds_next_places reach from middle to x before found after le le' a b =
    adds_join (λ p l. ((from ≤ p) × (p < middle)) × IsSlowOn reach l)
    (λ p l. ((middle ≤ p) × (p < to)) × IsSlowOn reach l)
    (λ p l. ((from ≤ p) × (p < to)) × IsSlowOn reach l) x before found after a b
    (λ p l h. ((h.0.0, (let high = h.0.1 in omega arith)), h.1))
    (λ p l h. (((let low = h.0.0 in omega arith), h.0.1), h.1))
    (λ p l h. elim (cases_lt p middle) [
      | inl lt ↦ inl ((h.0.0, lt), h.1)
      | inr ge ↦ inr ((ge, h.0.1), h.1)
    ])
    (λ p l h k. let high = h.0.1 in let low = k.0.0 in omega arith)
