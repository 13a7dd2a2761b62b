-- What the added lanes find, joined.
use Rattle.hf_sensitive.proofs.Common.{◌≡◌, ◌≢◌, ℕ, ◌+◌, ◌*◌, ◌<◌, ◌≤◌, ℤ, List, [], ◌∷◌, ◌++◌, length, get_or, refl}
use Rattle.hf_sensitive.proofs.Common.{ap, sym, subst, ◌∙◌, arith, append_assoc, inl, inr, ◌⊎◌, All, cases_lt, suc, zero}
use Rattle.hf_sensitive.proofs.Common.{append-nil, All-nil, All-cons, All-append, Contains-append_left}
use Rattle.hf_sensitive.proofs.Common.{Contains-append_right, Candidate, standing, EndsFrame, AllPairs-append}
use Rattle.hf_sensitive.proofs.Common.{delay_in, delay_of, rhythm_of, lane_bits, EndsAtPlace, IsAmong, AreAddedAmong}
use Rattle.hf_sensitive.proofs.Common.{AddsAmong, CanBePutFrom}

abbrev Apart : Candidate → Candidate → Type 0
Apart item later = standing item ≢ standing later

-- a delay is at most one place
delay_in-small : (rhythm : ℕ) → delay_in rhythm ≤ 1
delay_in-small zero = omega arith
delay_in-small (suc n) = omega arith

pub delay_small : (lane : ℕ) → delay_of lane ≤ 1
delay_small lane = delay_in-small (rhythm_of lane)

-- two items of one standing were heard at one place by one lane
pub one_place : (x : List ℤ) (item other : Candidate) (p q : ℕ) → EndsAtPlace x item p → EndsAtPlace x other q
    → standing item ≡ standing other
    → (p ≡ q) × (item.offset ≡ other.offset)
one_place x item other p q a b same =
    let small = a.most in
    let small_other = b.most in
    let end = a.end_of in
    let end_other = b.end_of in
    let lane : item.offset ≡ other.offset = omega arith in
    let delay : delay_of item.offset ≡ delay_of other.offset = ap delay_of lane in
    let d = delay_small item.offset in
    (omega arith, lane)

-- nothing
pub none_added : (from to low high : ℕ) (x : List ℤ)
    → ((item : Candidate) (place : ℕ) → IsAmong from to low high place item.offset → EndsAtPlace x item place → ⊥)
    → AreAddedAmong from to low high x []
none_added from to low high x never = record {
  each = All-nil (λ item. (place : ℕ) × IsAmong from to low high place item.offset × EndsAtPlace x item place);
  whole = λ item place of ends. absurd (never item place of ends);
  apart = λ i j d ij jl. absurd (omega arith);
}

pub adds_none : (from to low high : ℕ) (x : List ℤ) (before : List Candidate)
    → ((item : Candidate) (place : ℕ) → IsAmong from to low high place item.offset → EndsAtPlace x item place → ⊥)
    → AddsAmong from to low high x before before
adds_none from to low high x before never = record {
  heard = [];
  found = sym (append-nil before);
  are = none_added from to low high x never;
}

-- no places, or no lanes
pub adds_at_no_place : (from low high : ℕ) (x : List ℤ) (before : List Candidate)
    → AddsAmong from from low high x before before
adds_at_no_place from low high x before = adds_none from from low high x before (λ item place of ends.
    let a = of.from_place in let b = of.to_place in omega arith)

pub adds_by_no_lane : (from to low : ℕ) (x : List ℤ) (before : List Candidate)
    → AddsAmong from to low low x before before
adds_by_no_lane from to low x before = adds_none from to low low x before (λ item place of ends.
    let a = of.from_lane in let b = of.to_lane in omega arith)

-- items among some, and items among others, are all of those that are among either
join : (a b c d e f g h i j k l : ℕ) (x : List ℤ) (items more : List Candidate)
    → AreAddedAmong a b c d x items → AreAddedAmong e f g h x more
    → ((p q : ℕ) → IsAmong a b c d p q → IsAmong i j k l p q) → ((p q : ℕ) → IsAmong e f g h p q → IsAmong i j k l p q)
    → ((p q : ℕ) → IsAmong i j k l p q → IsAmong a b c d p q ⊎ IsAmong e f g h p q)
    → ((p q : ℕ) → IsAmong a b c d p q → IsAmong e f g h p q → ⊥)
    → AreAddedAmong i j k l x (items ++ more)
join a b c d e f g h i j k l x items more one two from_one from_two either never =
    let P : Candidate → Type 0 = λ item. (place : ℕ) × IsAmong i j k l place item.offset × EndsAtPlace x item place in
    record {
      each = All-append P items more
          (λ n m s. let t = one.each n m s in (t.0, from_one t.0 (get_or items n m).offset t.1, t.2))
          (λ n m s. let t = two.each n m s in (t.0, from_two t.0 (get_or more n m).offset t.1, t.2));
      whole = λ item place of ends. elim (either place item.offset of) [
        | inl first ↦ Contains-append_left items more item (one.whole item place first ends)
        | inr second ↦ Contains-append_right items more item (two.whole item place second ends)
      ];
      apart = AllPairs-append Apart items more one.apart two.apart (λ n m s nl ml same.
          let t = one.each n s nl in
          let u = two.each m s ml in
          let same_place = one_place x (get_or items n s) (get_or more m s) t.0 u.0 t.2 u.2 same in
          never u.0 (get_or more m s).offset
          (subst (λ p. IsAmong a b c d p (get_or more m s).offset) same_place.0
          (subst (IsAmong a b c d t.0) same_place.1 t.1)) u.1);
    }

-- what lanes add, and what the lanes after them add
pub adds_lanes : (from to low middle high : ℕ) (x : List ℤ) (before found after : List Candidate) → low ≤ middle
    → middle ≤ high → AddsAmong from to low middle x before found → AddsAmong from to middle high x found after
    → AddsAmong from to low high x before after
adds_lanes from to low middle high x before found after le le' a b = record {
  heard = a.heard ++ b.heard;
  found = b.found ∙ ap (λ t. t ++ b.heard) a.found ∙ append_assoc before a.heard b.heard;
  are = join from to low middle from to middle high from to low high x a.heard b.heard a.are b.are
      (λ p q h. record {
        from_place = h.from_place;
        to_place = h.to_place;
        from_lane = h.from_lane;
        to_lane = (let s = h.to_lane in omega arith);
      })
      (λ p q h. record {
        from_place = h.from_place;
        to_place = h.to_place;
        from_lane = (let s = h.from_lane in omega arith);
        to_lane = h.to_lane;
      })
      (λ p q h. elim (cases_lt q middle) [
        | inl lt ↦ inl (record { from_place = h.from_place; to_place = h.to_place; from_lane = h.from_lane; to_lane = lt })
        | inr ge ↦ inr (record { from_place = h.from_place; to_place = h.to_place; from_lane = ge; to_lane = h.to_lane })
      ])
      (λ p q h k. let small = h.to_lane in let large = k.from_lane in omega arith);
}

-- what is found at places, and at the places that follow them
pub adds_places : (from middle to low high : ℕ) (x : List ℤ) (before found after : List Candidate) → from ≤ middle
    → middle ≤ to → AddsAmong from middle low high x before found → AddsAmong middle to low high x found after
    → AddsAmong from to low high x before after
adds_places from middle to low high x before found after le le' a b = record {
  heard = a.heard ++ b.heard;
  found = b.found ∙ ap (λ t. t ++ b.heard) a.found ∙ append_assoc before a.heard b.heard;
  are = join from middle low high middle to low high from to low high x a.heard b.heard a.are b.are
      (λ p q h. record {
        from_place = h.from_place;
        to_place = (let s = h.to_place in omega arith);
        from_lane = h.from_lane;
        to_lane = h.to_lane;
      })
      (λ p q h. record {
        from_place = (let s = h.from_place in omega arith);
        to_place = h.to_place;
        from_lane = h.from_lane;
        to_lane = h.to_lane;
      })
      (λ p q h. elim (cases_lt p middle) [
        | inl lt ↦ inl (record { from_place = h.from_place; to_place = lt; from_lane = h.from_lane; to_lane = h.to_lane })
        | inr ge ↦ inr (record { from_place = ge; to_place = h.to_place; from_lane = h.from_lane; to_lane = h.to_lane })
      ])
      (λ p q h k. let small = h.to_place in let large = k.from_place in omega arith);
}

-- one frame of one lane at one place
pub adds_one : (x : List ℤ) (place lane : ℕ) (before after : List Candidate) (item : Candidate)
    → after ≡ before ++ item ∷ [] → item.offset ≡ lane → EndsAtPlace x item place
    → ((octets : List ℕ) → EndsFrame (lane_bits x lane (place + 1)) octets → item.octets ≡ octets)
    → AddsAmong place (place + 1) lane (lane + 1) x before after
adds_one x place lane before after item is of ends unique =
    let P : Candidate → Type 0 = λ i. (p : ℕ) × IsAmong place (place + 1) lane (lane + 1) p i.offset × EndsAtPlace x i p in
    record {
      heard = item ∷ [];
      found = is;
      are = record {
        each = All-cons P item [] (
          place,
          record {
            from_place = omega arith;
            to_place = omega arith;
            from_lane = omega arith;
            to_lane = omega arith;
          },
          ends,
        ) (All-nil P);
        whole = λ other p which there.
            let low = which.from_lane in let high = which.to_lane in
            let first = which.from_place in let last = which.to_place in
            let lane_is : other.offset ≡ lane = omega arith in
            let p_is : p ≡ place = omega arith in
            let frame : EndsFrame (lane_bits x lane (place + 1)) other.octets
            = subst (λ l. EndsFrame (lane_bits x l (place + 1)) other.octets) lane_is
            (subst (λ q. EndsFrame (lane_bits x other.offset (q + 1)) other.octets) p_is there.frame) in
            let octets : item.octets ≡ other.octets = unique other.octets frame in
            let lanes : item.offset ≡ other.offset = of ∙ sym lane_is in
            let here = ends.end_of in
            let there_end = there.end_of in
            let delays : delay_of item.offset ≡ delay_of other.offset = ap delay_of lanes in
            let end : item.end ≡ other.end = omega arith in (
              0,
              (let l : 0 < length (item ∷ []) = omega arith in l),
              (λ i. record { end = end i; offset = lanes i; octets = octets i }),
            );
        apart = λ i j d ij jl. absurd (omega arith);
      };
    }

-- what was found can be put, and so can one item more
pub bounds_more : (low : ℕ) (found after : List Candidate) (item : Candidate) → after ≡ found ++ item ∷ []
    → CanBePutFrom low item → All (CanBePutFrom low) found → All (CanBePutFrom low) after
bounds_more low found after item is can all =
    let P : Candidate → Type 0 = CanBePutFrom low in
    subst (All P) (sym is) (All-append P found (item ∷ []) all (All-cons P item [] can (All-nil P)))
