-- The first event after a flag tells whether bits begin with a frame.
use Rattle.fx25_blocks.proofs.Common.{◌≡◌, ℕ, zero, suc, ◌+◌, ◌-◌, ◌<◌, ◌≤◌, Bool, true, false, List, [], ◌∷◌, ◌++◌}
use Rattle.fx25_blocks.proofs.Common.{length, take, drop, get_or, refl, ap, subst, ◌∙◌, sym, inl, inr, arith}
use Rattle.fx25_blocks.proofs.Common.{append_assoc}
use Rattle.fx25_blocks.proofs.Common.{append_cancel_left, length-append, length-take, length_push, take-append-le}
use Rattle.fx25_blocks.proofs.Common.{take_all}
use Rattle.fx25_blocks.proofs.Common.{take_at, take_more, take-take, cases_lt, cases_eq, flag, frame_bits, sent_bits}
use Rattle.fx25_blocks.proofs.Common.{with_fcs, IsFrame}
use Rattle.fx25_blocks.proofs.Common.{EndsFlag, EndsAbort, EndsFrame, BeginsWithFrame, NoFlagWithin}
use Rattle.std.proofs.Math.Seq.{take-append-add}
use Rattle.std.proofs.lemmas.List.{take-append-drop}
use Rattle.hdlc_framer.specs.Events.{EventAt}
use Rattle.hdlc_framer.specs.declared.event.Event.{Event}
use Rattle.hdlc_framer.specs.declared.event.Event.TheVariants.{None as NoEvent, Flag, Abort, Frame}
use Rattle.hdlc_framer.proofs.FrameEnds.{frame_flag, one_event}
use Rattle.fx25_blocks.proofs.InsideFrames.{no_abort_inside, no_flag_inside}

-- a flag, the bits so far and one bit more
pub one_more : (bits : List Bool) (i : ℕ) → i < length bits
    → (flag ++ take i bits) ++ get_or bits i false ∷ [] ≡ flag ++ take (i + 1) bits
one_more bits i below = append_assoc flag (take i bits) (get_or bits i false ∷ [])
    ∙ ap (λ xs. flag ++ xs) (sym (take_more bits i false below))

module _ (bits : List Bool) (i : ℕ) (quiet : NoFlagWithin bits i) where
  pub still_quiet : ¬ EndsFlag (flag ++ take (i + 1) bits) → NoFlagWithin bits (i + 1)
  still_quiet none k some most ends =
      elim (cases_eq k (i + 1)) [
        | inl last ↦ none (subst (λ n. EndsFlag (flag ++ take n bits)) last ends)
        | inr other ↦ quiet k some (omega arith) ends
      ]

  -- the first flag that ends a frame ends the one that the bits begin with
  pub found_frame : (frame : List ℕ) → i < length bits → EndsFrame (flag ++ take (i + 1) bits) frame
      → BeginsWithFrame bits frame (i + 1)
  found_frame frame below ends =
      let before = ends.0 in
      let inner = frame_bits frame ++ flag in
      let line = flag ++ take (i + 1) bits in
      let size : length line ≡ 8 + (i + 1) = omega (
        arith,
        length-append flag (take (i + 1) bits),
        length-take (i + 1) bits,
      ) in
      let whole : length line ≡ length before + (8 + (length (frame_bits frame) + 8)) = ap length ends.1
      ∙ length-append before (flag ++ inner) ∙ ap (λ n. length before + n) (length-append flag inner
      ∙ ap (λ n. 8 + n) (length-append (frame_bits frame) flag)) in
      elim (cases_eq (length before) 0) [
        | inl none ↦
            let empty : before ≡ [] = no_items before none in
            let cut : take (i + 1) bits ≡ inner = append_cancel_left flag _ _
            (ends.1 ∙ ap (λ xs. xs ++ (flag ++ inner)) empty) in
            record {
              rest = drop (i + 1) bits;
              bits_are = sym (take-append-drop (i + 1) bits) ∙ ap (λ xs. xs ++ drop (i + 1) bits) cut
                  ∙ append_assoc (frame_bits frame) flag (drop (i + 1) bits);
              is_frame = ends.2;
              over_is = omega arith;
            }
        | inr some ↦
            let p : ℕ = length before in
            let left : take (8 + p) line ≡ flag ++ take p bits = take-append-add flag (take (i + 1) bits) p
            ∙ ap (λ xs. flag ++ xs) (take-take p (i + 1) bits (omega arith)) in
            let right : take (8 + p) line ≡ before ++ flag = ap (take (8 + p)) ends.1
            ∙ ap (λ n. take n (before ++ (flag ++ inner))) (omega_sum p)
            ∙ take-append-add before (flag ++ inner) 8 in
            let front : flag ++ take p bits ≡ before ++ flag = sym left ∙ right in
            absurd (quiet p (omega arith) (omega arith) (before, front))
      ]
    where
      no_items : (xs : List Bool) → length xs ≡ 0 → xs ≡ []
      no_items [] none = refl
      no_items (x ∷ xs) none = absurd (omega arith)

      omega_sum : (p : ℕ) → 8 + p ≡ p + 8
      omega_sum p = omega arith

  -- where bits begin with a frame, a flag ends it
  ends_there : (frame : List ℕ) (over : ℕ) → BeginsWithFrame bits frame over
      → EndsFrame (flag ++ take over bits) frame × (over ≤ length bits)
  ends_there frame over begins =
      let inner = frame_bits frame ++ flag in
      let size : length inner ≡ over = omega (arith, length-append (frame_bits frame) flag, begins.over_is) in
      let whole : bits ≡ inner ++ begins.rest = begins.bits_are ∙ sym (append_assoc (frame_bits frame) flag begins.rest)
      in (
        (
          [],
          ap (λ xs. flag ++ xs) (ap (take over) whole ∙ take_at inner begins.rest over size),
          begins.is_frame,
        ),
        omega (arith, ap length whole, length-append inner begins.rest),
      )

  -- the bits in front of that end are those of the frame
  inside : (frame : List ℕ) (over k : ℕ) → BeginsWithFrame bits frame over → k ≤ over
      → take k bits ≡ take k (frame_bits frame ++ flag)
  inside frame over k begins most =
      let inner = frame_bits frame ++ flag in
      ap (take k) (begins.bits_are ∙ sym (append_assoc (frame_bits frame) flag begins.rest))
      ∙ take-append-le k inner begins.rest (omega (arith, length-append (frame_bits frame) flag, begins.over_is))

  pub not_past : (frame : List ℕ) (over : ℕ) → BeginsWithFrame bits frame over → i < over
  not_past frame over begins =
      elim (cases_lt i over) [
        | inl before ↦ before
        | inr past ↦
            let there = ends_there frame over begins in
            absurd (quiet over (omega (arith, begins.over_is)) past
            (frame_flag (flag ++ take over bits) frame there.0))
      ]

  pub no_frame_at_flag : EventAt (flag ++ take (i + 1) bits) Flag → (frame : List ℕ) (over : ℕ)
      → ¬ BeginsWithFrame bits frame over
  unfolding frame_bits
  no_frame_at_flag event frame over begins =
      let before = not_past frame over begins in
      elim (cases_eq over (i + 1)) [
        | inl here ↦ event.1 frame (subst (λ n. EndsFrame (flag ++ take n bits) frame) here
            (ends_there frame over begins).0)
        | inr later ↦ flag_later frame over begins (omega arith) event.0
      ]
    where
      flag_later : (frame : List ℕ) (over : ℕ) → BeginsWithFrame bits frame over → i + 1 < over
          → ¬ EndsFlag (flag ++ take (i + 1) bits)
      flag_later frame over begins before ends =
          no_flag_inside (sent_bits (with_fcs frame)) (i + 1) (omega arith) (omega (arith, begins.over_is))
          (subst (λ xs. EndsFlag (flag ++ xs)) (inside frame over (i + 1) begins (omega arith)) ends)

  pub no_frame_at_abort : EventAt (flag ++ take (i + 1) bits) Abort → (frame : List ℕ) (over : ℕ)
      → ¬ BeginsWithFrame bits frame over
  unfolding frame_bits
  no_frame_at_abort event frame over begins =
      let before = not_past frame over begins in
      elim (cases_eq over (i + 1)) [
        | inl here ↦ absurd (other_event (one_event (flag ++ take (i + 1) bits) Abort Frame event
            (frame, subst (λ n. EndsFrame (flag ++ take n bits) frame) here (ends_there frame over begins).0)))
        | inr later ↦ abort_later frame over begins (omega arith) event
      ]
    where
      other_event : Abort ≡ Frame → ⊥
      other_event e = cc

      abort_later : (frame : List ℕ) (over : ℕ) → BeginsWithFrame bits frame over → i + 1 < over
          → ¬ EndsAbort (flag ++ take (i + 1) bits)
      abort_later frame over begins before abort =
          no_abort_inside (sent_bits (with_fcs frame)) (i + 1) (omega (arith, begins.over_is))
          (subst (λ xs. EndsAbort (flag ++ xs)) (inside frame over (i + 1) begins (omega arith)) abort)

  pub no_frame_at_end : length bits ≤ i → (frame : List ℕ) (over : ℕ) → ¬ BeginsWithFrame bits frame over
  no_frame_at_end all frame over begins = omega (
    arith,
    not_past frame over begins,
    (ends_there frame over begins).1,
  )
