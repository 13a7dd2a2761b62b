-- One bit more of a carrier: which flags are in a row, and whether it is held.
use Rattle.hdlc_framer.proofs.Common.{◌≡◌, ◌↔◌, ℕ, zero, suc, ◌+◌, ◌-◌, ◌<◌, ◌≤◌, min, Bool, true, false, cond, eqb}
use Rattle.hdlc_framer.proofs.Common.{List, [], ◌∷◌, ◌++◌, length, take, ap, subst, ◌∙◌, sym, inl, inr, arith}
use Rattle.hdlc_framer.proofs.Common.{append_assoc, length-append, cases_lt, cases_eq, eq-eqb, ne_eqb, false≢true}
use Rattle.hdlc_framer.proofs.Common.{length_push, Event, Flag, Abort, Frame, flag, EndsFlag, EndsAbort, EventAt}
use Rattle.hdlc_framer.proofs.Common.{IsQuiet, IsLost, HoldsCarrier, HeldCarrier, CarrierStandsFor, next_carrier}
use Rattle.std.proofs.Common.{◌||◌, length-take-le, take_all, take-take}
use Rattle.std.specs.Prelude.{◌⊎◌}
use Rattle.std.proofs.Math.Seq.{take-length, take-append-add}
use Rattle.std.proofs.lemmas.List.{take-append-le}
use Rattle.hdlc_framer.specs.declared.event.Event.TheVariants.{None as NoEvent}
use Rattle.hdlc_framer.specs.Carrier.{EndsFlags}
use Rattle.hdlc_framer.specs.HeldCarrier.{IsRow, new_carrier, bit_later, row_with, flag_later}
use Rattle.hdlc_framer.proofs.FrameEnds.{no_flag_on_one, flag_no_abort, frame_flag}

-- ---- flags lie 7 bits apart or more

-- no flag ends inside a flag
inside : (before front : List Bool) → EndsFlag (before ++ (front ++ true ∷ [])) → ⊥
inside before front ends = no_flag_on_one (before ++ front)
    (subst EndsFlag (sym (append_assoc before front (true ∷ []))) ends)

no_flag_inside : (before : List Bool) (m : ℕ) → 2 ≤ m → m ≤ 7 → ¬ EndsFlag (before ++ take m flag)
no_flag_inside before zero least most ends = absurd (omega arith)
no_flag_inside before (suc zero) least most ends = absurd (omega arith)
no_flag_inside before (suc (suc zero)) least most ends = inside before (false ∷ []) ends
no_flag_inside before (suc (suc (suc zero))) least most ends = inside before (false ∷ true ∷ []) ends
no_flag_inside before (suc (suc (suc (suc zero)))) least most ends = inside before (false ∷ true ∷ true ∷ []) ends
no_flag_inside before (suc (suc (suc (suc (suc zero))))) least most ends =
    inside before (false ∷ true ∷ true ∷ true ∷ []) ends
no_flag_inside before (suc (suc (suc (suc (suc (suc zero)))))) least most ends =
    inside before (false ∷ true ∷ true ∷ true ∷ true ∷ []) ends
no_flag_inside before (suc (suc (suc (suc (suc (suc (suc zero))))))) least most ends =
    inside before (false ∷ true ∷ true ∷ true ∷ true ∷ true ∷ []) ends
no_flag_inside before (suc (suc (suc (suc (suc (suc (suc (suc m)))))))) least most ends = absurd (omega arith)

no_flag_near : (bits : List Bool) (j : ℕ) → EndsFlag bits → 1 ≤ j → j ≤ 6 → ¬ EndsFlag (take (length bits - j) bits)
no_flag_near bits j ends least most near =
    let before = ends.0 in
    let size : length bits ≡ length before + 8 = ap length ends.1 ∙ length-append before flag in
    let at : length bits - j ≡ length before + (8 - j) = omega arith in
    let part : take (length bits - j) bits ≡ before ++ take (8 - j) flag =
    ap (λ n. take n bits) at ∙ ap (take (length before + (8 - j))) ends.1 ∙ take-append-add before flag (8 - j) in
    no_flag_inside before (8 - j) (omega arith) (omega arith) (subst EndsFlag part near)

-- the bits but the last few, and but a few more
further : (bits : List Bool) (i j : ℕ) → i ≤ j
    → take (length (take (length bits - i) bits) - (j - i)) (take (length bits - i) bits) ≡ take (length bits - j) bits
further bits i j le =
    let size : length (take (length bits - i) bits) ≡ length bits - i =
    length-take-le (length bits - i) bits (omega arith) in
    let at : length (take (length bits - i) bits) - (j - i) ≡ length bits - j = omega arith in
    ap (λ n. take n (take (length bits - i) bits)) at ∙ take-take (length bits - j) (length bits - i) bits (omega arith)

apart : (bits : List Bool) (i j : ℕ) → i < j → j ≤ i + 6 → EndsFlag (take (length bits - i) bits)
    → ¬ EndsFlag (take (length bits - j) bits)
apart bits i j lt near ends other =
    no_flag_near (take (length bits - i) bits) (j - i) ends (omega arith) (omega arith)
    (subst EndsFlag (sym (further bits i j (omega arith))) other)

-- ---- flags in a row

last_of_row : (n : ℕ) (bits : List Bool) → EndsFlags (suc n) bits → EndsFlag bits
last_of_row zero bits ends = ends
last_of_row (suc n) bits ends = ends.0

one_fewer : (n : ℕ) (bits : List Bool) → EndsFlags (suc (suc n)) bits → EndsFlags (suc n) bits
one_fewer zero bits ends = ends.0
one_fewer (suc n) bits ends = (
  ends.0,
  elim ends.1 [
    | inl shared ↦ inl (one_fewer n (take (length bits - 7) bits) shared)
    | inr apart ↦ inr (one_fewer n (take (length bits - 8) bits) apart)
  ],
)

-- ---- one bit more

module _ (bits : List Bool) (bit : Bool) where
  back : (k : ℕ) → take (length (bits ++ bit ∷ []) - suc k) (bits ++ bit ∷ []) ≡ take (length bits - k) bits
  back k =
      let size = length_push bits bit in
      let at : length (bits ++ bit ∷ []) - suc k ≡ length bits - k = omega arith in
      ap (λ n. take n (bits ++ bit ∷ [])) at ∙ take-append-le (length bits - k) bits (bit ∷ []) (omega arith)

  back_none : take (length (bits ++ bit ∷ []) - 0) (bits ++ bit ∷ []) ≡ bits ++ bit ∷ []
  back_none = take_all (length (bits ++ bit ∷ []) - 0) (bits ++ bit ∷ []) (omega arith)

  -- what holds of the last bit and of so many before it
  quiet_more : (since : ℕ) → ¬ EndsFlag (bits ++ bit ∷ [])
      → ((k : ℕ) → k < since → ¬ EndsFlag (take (length bits - k) bits))
      → (k : ℕ) → k < suc since → ¬ EndsFlag (take (length (bits ++ bit ∷ []) - k) (bits ++ bit ∷ []))
  quiet_more since none quiet zero lt ends = none (subst EndsFlag back_none ends)
  quiet_more since none quiet (suc k) lt ends = quiet k (omega arith) (subst EndsFlag (back k) ends)

  holds_now : (n : ℕ) → EndsFlags n (bits ++ bit ∷ []) → HoldsCarrier n (bits ++ bit ∷ [])
  holds_now n ends = record {
    place = length (bits ++ bit ∷ []);
    within = omega arith;
    found = subst (EndsFlags n) (sym (take-length (bits ++ bit ∷ []))) ends;
    kept = λ later lt le. absurd (omega arith);
  }

  holds_on : (n : ℕ) → HoldsCarrier n bits → ¬ IsLost (bits ++ bit ∷ []) → HoldsCarrier n (bits ++ bit ∷ [])
  holds_on n h held = record {
    place = h.place;
    within = let size = length_push bits bit in let within = h.within in omega arith;
    found = subst (EndsFlags n) (sym (take-append-le h.place bits (bit ∷ []) h.within)) h.found;
    kept = λ later lt le lost. elim (cases_lt (length bits) later) [
      | inl new ↦
          let size = length_push bits bit in
          held (subst IsLost (take_all later (bits ++ bit ∷ []) (omega arith)) lost)
      | inr old ↦ h.kept later lt old (subst IsLost (take-append-le later bits (bit ∷ []) old) lost)
    ];
  }

  held_before : (n : ℕ) → HoldsCarrier n (bits ++ bit ∷ []) → ¬ EndsFlags n (bits ++ bit ∷ [])
      → HoldsCarrier n bits × (IsLost (bits ++ bit ∷ []) → ⊥)
  held_before n h none = elim (cases_lt (length bits) h.place) [
    | inl new ↦
        let size = length_push bits bit in
        absurd (none (subst (EndsFlags n) (take_all h.place (bits ++ bit ∷ []) (omega arith)) h.found))
    | inr old ↦ (
      record {
        place = h.place;
        within = old;
        found = subst (EndsFlags n) (take-append-le h.place bits (bit ∷ []) old) h.found;
        kept = λ later lt le lost.
            let size = length_push bits bit in
            h.kept later lt (omega arith) (subst IsLost (sym (take-append-le later bits (bit ∷ []) le)) lost);
      },
      λ lost.
          let size = length_push bits bit in
          h.kept (length (bits ++ bit ∷ [])) (omega arith) (omega arith)
          (subst IsLost (sym (take-length (bits ++ bit ∷ []))) lost),
    )
  ]

  -- no flag ends with the bit, so no flags in a row do
  no_row : (n : ℕ) → 1 ≤ n → ¬ EndsFlag (bits ++ bit ∷ []) → ¬ EndsFlags n (bits ++ bit ∷ [])
  no_row zero least none ends = omega arith
  no_row (suc n) least none ends = none (last_of_row n (bits ++ bit ∷ []) ends)

-- ---- the row that ends with a flag

-- if the last flag ends 7 or 8 bits before
abbrev Follows : ℕ → Type 0
Follows since = (since ≡ 6) ⊎ (since ≡ 7)

row_following : (c : HeldCarrier) → Follows c.since_flag → row_with c ≡ min (c.in_a_row + 1) c.flags
row_following c (inl six) = ap (λ t. cond (t || eqb c.since_flag 7) (min (c.in_a_row + 1) c.flags) 1)
    (eq-eqb c.since_flag 6 six)
row_following c (inr seven) =
    ap (λ n. cond (eqb n 6 || eqb n 7) (min (c.in_a_row + 1) c.flags) 1) seven

row_alone : (c : HeldCarrier) → (c.since_flag ≡ 6 → ⊥) → (c.since_flag ≡ 7 → ⊥) → row_with c ≡ 1
row_alone c not_six not_seven =
    ap (λ t. cond (t || eqb c.since_flag 7) (min (c.in_a_row + 1) c.flags) 1) (ne_eqb c.since_flag 6 not_six)
    ∙ ap (λ t. cond t (min (c.in_a_row + 1) c.flags) 1) (ne_eqb c.since_flag 7 not_seven)

module _ (bits : List Bool) (bit : Bool) (ends : EndsFlag (bits ++ bit ∷ [])) (since : ℕ)
    (quiet : (k : ℕ) → k < since → ¬ EndsFlag (take (length bits - k) bits)) where
  longer_row : (m : ℕ) → Follows since → EndsFlags (suc m) (take (length bits - since) bits)
      → EndsFlags (suc (suc m)) (bits ++ bit ∷ [])
  longer_row m (inl six) row = (
    ends,
    inl (subst (EndsFlags (suc m)) (sym (back bits bit 6))
        (subst (λ n. EndsFlags (suc m) (take (length bits - n) bits)) six row)),
  )
  longer_row m (inr seven) row = (
    ends,
    inr (subst (EndsFlags (suc m)) (sym (back bits bit 7))
        (subst (λ n. EndsFlags (suc m) (take (length bits - n) bits)) seven row)),
  )

  shorter_row : (m : ℕ) → Follows since → EndsFlag (take (length bits - since) bits)
      → EndsFlags (suc (suc m)) (bits ++ bit ∷ [])
      → EndsFlags (suc m) (take (length bits - since) bits)
  shorter_row m (inl six) last row = elim row.1 [
    | inl at ↦ subst (λ n. EndsFlags (suc m) (take (length bits - n) bits)) (sym six)
        (subst (EndsFlags (suc m)) (back bits bit 6) at)
    | inr at ↦
        let seventh : EndsFlag (take (length bits - 7) bits) =
        last_of_row m _ (subst (EndsFlags (suc m)) (back bits bit 7) at) in
        let sixth : EndsFlag (take (length bits - 6) bits) =
        subst (λ n. EndsFlag (take (length bits - n) bits)) six last in
        absurd (apart bits 6 7 (omega arith) (omega arith) sixth seventh)
  ]
  shorter_row m (inr seven) last row = elim row.1 [
    | inl at ↦
        let sixth : EndsFlag (take (length bits - 6) bits) =
        last_of_row m _ (subst (EndsFlags (suc m)) (back bits bit 6) at) in
        absurd (quiet 6 (omega arith) sixth)
    | inr at ↦ subst (λ n. EndsFlags (suc m) (take (length bits - n) bits)) (sym seven)
        (subst (EndsFlags (suc m)) (back bits bit 7) at)
  ]

  -- a flag that follows none in a row
  no_two : (since < 10000 → EndsFlag (take (length bits - since) bits)) → (since ≡ 6 → ⊥) → (since ≡ 7 → ⊥)
      → ¬ EndsFlags 2 (bits ++ bit ∷ [])
  no_two last not_six not_seven two = elim two.1 [
    | inl at ↦ at_distance 6 (omega arith) (omega arith) (subst EndsFlag (back bits bit 6) at)
    | inr at ↦ at_distance 7 (omega arith) (omega arith) (subst EndsFlag (back bits bit 7) at)
  ]
    where
      at_distance : (k : ℕ) → 6 ≤ k → k ≤ 7 → EndsFlag (take (length bits - k) bits) → ⊥
      at_distance k least most at = elim (cases_lt k since) [
        | inl far ↦ quiet k far at
        | inr near ↦ no_flag_near (bits ++ bit ∷ []) (suc since) ends (omega arith) (omega arith)
            (subst EndsFlag (sym (back bits bit since)) (last (omega arith)))
      ]

  row_grows : (flags row : ℕ) → Follows since → IsRow flags row (take (length bits - since) bits)
      → IsRow flags (min (row + 1) flags) (bits ++ bit ∷ [])
  row_grows flags zero follows h = absurd (let least = h.some_flag in omega arith)
  row_grows flags (suc m) follows h = elim (cases_lt (suc m) flags) [
    | inl lt ↦
        let grown : min (suc m + 1) flags ≡ suc (suc m) = omega arith in
        subst (λ row. IsRow flags row (bits ++ bit ∷ [])) (sym grown) (record {
          some_flag = omega arith;
          most = omega arith;
          ends = longer_row m follows h.ends;
          no_more = λ less two. h.no_more lt (shorter_row (suc m) follows (last_of_row m _ h.ends) two);
        })
    | inr ge ↦
        let most = h.most in
        let grown : min (suc m + 1) flags ≡ suc m = omega arith in
        subst (λ row. IsRow flags row (bits ++ bit ∷ [])) (sym grown) (record {
          some_flag = omega arith;
          most = most;
          ends = one_fewer m (bits ++ bit ∷ []) (longer_row m follows h.ends);
          no_more = λ less two. omega arith;
        })
  ]

row_more : (c : HeldCarrier) (bits : List Bool) (bit : Bool) → CarrierStandsFor c bits → EndsFlag (bits ++ bit ∷ [])
    → IsRow c.flags (row_with c) (bits ++ bit ∷ [])
row_more c bits bit h ends = elim (cases_eq c.since_flag 6) [
  | inl six ↦ following (inl six) (omega arith)
  | inr not_six ↦ elim (cases_eq c.since_flag 7) [
    | inl seven ↦ following (inr seven) (omega arith)
    | inr not_seven ↦ subst (λ row. IsRow c.flags row (bits ++ bit ∷ [])) (sym (row_alone c not_six not_seven))
        (record {
          some_flag = omega arith;
          most = h.asked;
          ends = ends;
          no_more = λ less two. no_two bits bit ends c.since_flag h.quiet
              (λ lt. let row = h.last lt in last_of_any c.in_a_row row.some_flag row.ends) not_six not_seven two;
        })
  ]
]
  where
    following : Follows c.since_flag → c.since_flag < 10000 → IsRow c.flags (row_with c) (bits ++ bit ∷ [])
    following follows lt =
        subst (λ row. IsRow c.flags row (bits ++ bit ∷ [])) (sym (row_following c follows))
        (row_grows bits bit ends c.since_flag h.quiet c.flags c.in_a_row follows (h.last lt))

    last_of_any : (row : ℕ) → 1 ≤ row → EndsFlags row (take (length bits - c.since_flag) bits)
        → EndsFlag (take (length bits - c.since_flag) bits)
    last_of_any zero least row = absurd (omega arith)
    last_of_any (suc m) least row = last_of_row m _ row

-- ---- the event of a bit

-- a bit that ends no flag
quiet_now : (c : HeldCarrier) (bits : List Bool) (bit : Bool) → CarrierStandsFor c bits → ¬ EndsFlag (bits ++ bit ∷ [])
    → (k : ℕ) → k < min (c.since_flag + 1) 10000 → ¬ EndsFlag (take (length (bits ++ bit ∷ []) - k) (bits ++ bit ∷ []))
quiet_now c bits bit h none k lt = quiet_more bits bit c.since_flag none h.quiet k (omega arith)

last_now : (c : HeldCarrier) (bits : List Bool) (bit : Bool) → CarrierStandsFor c bits
    → min (c.since_flag + 1) 10000 < 10000
    → IsRow c.flags c.in_a_row (take (length (bits ++ bit ∷ []) - min (c.since_flag + 1) 10000) (bits ++ bit ∷ []))
last_now c bits bit h lt =
    let at : min (c.since_flag + 1) 10000 ≡ suc c.since_flag = omega arith in
    subst (λ n. IsRow c.flags c.in_a_row (take (length (bits ++ bit ∷ []) - n) (bits ++ bit ∷ []))) (sym at)
    (subst (IsRow c.flags c.in_a_row) (sym (back bits bit c.since_flag)) (h.last (omega arith)))

-- the last flag is not so far back that the line is quiet
not_quiet : (c : HeldCarrier) (bits : List Bool) (bit : Bool) → CarrierStandsFor c bits → c.since_flag + 1 < 10000
    → ¬ IsQuiet (bits ++ bit ∷ [])
not_quiet c bits bit h lt quiet =
    let row = h.last (omega arith) in
    quiet (suc c.since_flag) (omega arith) (subst EndsFlag (sym (back bits bit c.since_flag))
    (by_row c.in_a_row row.some_flag row.ends))
  where
    by_row : (row : ℕ) → 1 ≤ row → EndsFlags row (take (length bits - c.since_flag) bits)
        → EndsFlag (take (length bits - c.since_flag) bits)
    by_row zero least row = absurd (omega arith)
    by_row (suc m) least row = last_of_row m _ row

held_at_none : (c : HeldCarrier) (bits : List Bool) (bit : Bool) → CarrierStandsFor c bits
    → ¬ EndsFlag (bits ++ bit ∷ []) → ¬ EndsAbort (bits ++ bit ∷ [])
    → ((bit_later c).held ≡ true) ↔ HoldsCarrier c.flags (bits ++ bit ∷ [])
held_at_none c bits bit h none no_abort = elim (cases_eq (min (c.since_flag + 1) 10000) 10000) [
  | inl far ↦
      let off : (bit_later c).held ≡ false = ap (λ t. cond t false c.held)
      (eq-eqb (min (c.since_flag + 1) 10000) 10000 far) in
      let lost : IsLost (bits ++ bit ∷ []) = inr (λ k lt. quiet_now c bits bit h none k (omega arith)) in (
        (λ on. absurd (false≢true (sym off ∙ on))),
        (λ held. absurd ((held_before bits bit c.flags held (no_row bits bit c.flags h.asked none)).1 lost)),
      )
  | inr near ↦
      let same : (bit_later c).held ≡ c.held = ap (λ t. cond t false c.held)
      (ne_eqb (min (c.since_flag + 1) 10000) 10000 near) in
      let not_lost : IsLost (bits ++ bit ∷ []) → ⊥ = λ lost. elim lost [
        | inl abort ↦ no_abort abort
        | inr quiet ↦ not_quiet c bits bit h (omega arith) quiet
      ] in (
        (λ on. holds_on bits bit c.flags (h.held.0 (sym same ∙ on)) not_lost),
        (λ held. same ∙ h.held.1 (held_before bits bit c.flags held (no_row bits bit c.flags h.asked none)).0),
      )
]

held_at_flag : (c : HeldCarrier) (bits : List Bool) (bit : Bool) → CarrierStandsFor c bits → EndsFlag (bits ++ bit ∷ [])
    → ((flag_later c).held ≡ true) ↔ HoldsCarrier c.flags (bits ++ bit ∷ [])
held_at_flag c bits bit h ends = elim (cases_eq (row_with c) c.flags) [
  | inl enough ↦ (
    (λ on. holds_now bits bit c.flags (subst (λ n. EndsFlags n (bits ++ bit ∷ [])) enough row.ends)),
    (λ held. ap (λ t. cond t true c.held) (eq-eqb (row_with c) c.flags enough)),
  )
  | inr fewer ↦
      let same : (flag_later c).held ≡ c.held = ap (λ t. cond t true c.held) (ne_eqb (row_with c) c.flags fewer) in
      let most = row.most in (
        (λ on. holds_on bits bit c.flags (h.held.0 (sym same ∙ on)) not_lost),
        (λ held. same ∙ h.held.1 (held_before bits bit c.flags held
            (λ all. row.no_more (omega arith) (as_many c.flags (row_with c) (bits ++ bit ∷ []) (omega arith) all))).0),
      )
]
  where
    row : IsRow c.flags (row_with c) (bits ++ bit ∷ [])
    row = row_more c bits bit h ends

    not_lost : IsLost (bits ++ bit ∷ []) → ⊥
    not_lost lost = elim lost [
      | inl abort ↦ flag_no_abort (bits ++ bit ∷ []) ends abort
      | inr quiet ↦ quiet 0 (omega arith) (subst EndsFlag (sym (back_none bits bit)) ends)
    ]

    -- more flags in a row are as many as one more than fewer
    as_many : (n row : ℕ) (xs : List Bool) → row < n → EndsFlags n xs → EndsFlags (suc row) xs
    as_many zero row xs lt all = absurd (omega arith)
    as_many (suc zero) row xs lt all = let only : row ≡ 0 = omega arith in
        subst (λ n. EndsFlags (suc n) xs) (sym only) all
    as_many (suc (suc n)) row xs lt all = elim (cases_eq row (suc n)) [
      | inl last ↦ subst (λ m. EndsFlags (suc m) xs) (sym last) all
      | inr less ↦ as_many (suc n) row xs (omega arith) (one_fewer n xs all)
    ]

at_flag : (c : HeldCarrier) (bits : List Bool) (bit : Bool) → CarrierStandsFor c bits → EndsFlag (bits ++ bit ∷ [])
    → CarrierStandsFor (flag_later c) (bits ++ bit ∷ [])
at_flag c bits bit h ends = record {
  asked = h.asked;
  quiet = λ k lt. absurd (omega arith);
  last = λ lt. subst (IsRow c.flags (row_with c)) (sym (back_none bits bit)) (row_more c bits bit h ends);
  held = held_at_flag c bits bit h ends;
}

at_abort : (c : HeldCarrier) (bits : List Bool) (bit : Bool) → CarrierStandsFor c bits → EndsAbort (bits ++ bit ∷ [])
    → CarrierStandsFor (next_carrier c Abort) (bits ++ bit ∷ [])
at_abort c bits bit h abort =
    let none : EndsFlag (bits ++ bit ∷ []) → ⊥ = λ ends. flag_no_abort (bits ++ bit ∷ []) ends abort in
    record {
      asked = h.asked;
      quiet = quiet_now c bits bit h none;
      last = last_now c bits bit h;
      held = (
        (λ on. absurd (false≢true on)),
        (λ held. absurd ((held_before bits bit c.flags held (no_row bits bit c.flags h.asked none)).1 (inl abort))),
      );
    }

-- The detector goes on by the event of each bit.
pub carrier_next : (c : HeldCarrier) (bits : List Bool) (bit : Bool) (event : Event) → CarrierStandsFor c bits
    → EventAt (bits ++ bit ∷ []) event
    → CarrierStandsFor (next_carrier c event) (bits ++ bit ∷ [])
carrier_next c bits bit NoEvent h at = record {
  asked = h.asked;
  quiet = quiet_now c bits bit h at.0;
  last = last_now c bits bit h;
  held = held_at_none c bits bit h at.0 at.1;
}
carrier_next c bits bit Flag h at = at_flag c bits bit h at.0
carrier_next c bits bit Abort h at = at_abort c bits bit h at
carrier_next c bits bit Frame h at = at_flag c bits bit h (frame_flag (bits ++ bit ∷ []) at.0 at.1)

-- A new one has taken no bits.
pub carrier_new : (flags : ℕ) → 1 ≤ flags → CarrierStandsFor (new_carrier flags) []
carrier_new flags asked = record {
  asked = asked;
  quiet = λ k lt ends. no_flag_in_none (subst EndsFlag (take_all (0 - k) [] (omega arith)) ends);
  last = λ lt. absurd (omega arith);
  held = ((λ on. absurd (false≢true on)), (λ h. absurd (none_held flags asked h)));
}
  where
    no_flag_in_none : EndsFlag [] → ⊥
    no_flag_in_none ends =
        let none : 0 ≡ length ends.0 + 8 = ap length ends.1 ∙ length-append ends.0 flag in
        omega arith

    row_in_none : (flags place : ℕ) → 1 ≤ flags → EndsFlags flags (take place []) → ⊥
    row_in_none zero place least row = omega arith
    row_in_none (suc m) place least row = no_flag_in_none
        (subst EndsFlag (take_all place [] (omega arith)) (last_of_row m _ row))

    none_held : (flags : ℕ) → 1 ≤ flags → HoldsCarrier flags [] → ⊥
    none_held flags least h = row_in_none flags h.place least h.found
