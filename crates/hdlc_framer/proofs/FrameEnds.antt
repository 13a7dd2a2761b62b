-- The kept line tells exactly what a bit ends, and at most one frame ends with a bit.
use Rattle.hdlc_framer.proofs.Common.{◌≡◌, ℕ, ◌+◌, ◌-◌, ◌/◌, ◌%◌, ◌<◌, ◌≤◌, Bool, true, false, Some, List, [], ◌∷◌}
use Rattle.hdlc_framer.proofs.Common.{◌++◌, length, take, replicate, refl, ap, subst, ◌∙◌, sym, arith, length-append}
use Rattle.hdlc_framer.proofs.Common.{append_assoc, All, fold, true≢false, fold-append, stuffed_from, Event, Flag}
use Rattle.hdlc_framer.proofs.Common.{Abort, Frame, sent_bits, fcs_of, flag, stuffed, IsFrame, with_fcs, frame_bits}
use Rattle.hdlc_framer.proofs.Common.{EndsFrame, EndsFlag, EndsAbort, run_of_ones, EventAt, next_line, new_line}
use Rattle.hdlc_framer.proofs.Common.{line_after, flag_start, ClosesFrame, EndsOnZero, LineEvent}
use Rattle.std.proofs.lemmas.List.{append_cancel_right, same_from_push, take_at}
use Rattle.std.proofs.lemmas.List.Elements.{All-append, All-cons, All-nil}
use Rattle.hdlc_framer.specs.declared.event.Event.TheVariants.{None as NoEvent}
use Rattle.hdlc_framer.proofs.BitLemmas.{length-sent_bits, same_octets}
use Rattle.hdlc_framer.proofs.CheckSequenceLemmas.{fcs_of-lt}
use Rattle.hdlc_framer.proofs.Lines.{flag_front, five_bits, stuffed_five, over_frame, Raw, few, five, six, told_after}
use Rattle.hdlc_framer.proofs.Lines.{run-push_one, run-push_zero}

pub line_after-append : (bits more : List Bool) → line_after (bits ++ more) ≡ fold next_line (line_after bits) more
unfolding line_after
line_after-append bits more = fold-append next_line new_line bits more

-- ---- flags and aborts

pub ends_flag : (bits : List Bool) → EndsOnZero (line_after bits) → EndsFlag (bits ++ false ∷ [])
ends_flag bits ends =
    let told = told_after bits in
    let was = told.zero_before ends.after_zero in
    let six : run_of_ones bits ≡ 6 = omega (arith, told.ones, ends.six) in (
      was.0,
      ap (λ xs. xs ++ false ∷ []) (was.1 ∙ ap (λ n. was.0 ++ false ∷ replicate n true) six)
          ∙ append_assoc was.0 flag_front (false ∷ []),
    )

-- the bits before the last one of a flag
flag_without_last : (bits before : List Bool) → bits ++ false ∷ [] ≡ before ++ flag → bits ≡ before ++ flag_front
flag_without_last bits before e =
    (same_from_push bits (before ++ flag_front) false false (e ∙ sym (append_assoc before flag_front (false ∷ [])))).0

pub ends_on_zero : (bits : List Bool) → EndsFlag (bits ++ false ∷ []) → EndsOnZero (line_after bits)
ends_on_zero bits ends =
    let known : line_after bits ≡ fold next_line (line_after ends.0) flag_front =
    ap line_after (flag_without_last bits ends.0 ends.1) ∙ line_after-append ends.0 flag_front in
    record { six = ap (λ line. line.ones) known; after_zero = ap (λ line. line.after_zero) known }

pub no_flag_on_one : (bits : List Bool) → ¬ EndsFlag (bits ++ true ∷ [])
no_flag_on_one bits ends =
    true≢false (same_from_push bits (ends.0 ++ flag_front) true false (ends.1
    ∙ sym (append_assoc ends.0 flag_front (false ∷ [])))).1

no_abort_on_zero : (bits : List Bool) → ¬ EndsAbort (bits ++ false ∷ [])
no_abort_on_zero bits ends = omega (arith, run-push_zero bits, ends)

-- ---- frames

pub with_fcs_fits : (octets : List ℕ) → All (λ octet. octet < 256) octets → All (λ octet. octet < 256) (with_fcs octets)
unfolding with_fcs
with_fcs_fits octets fit =
    let low : fcs_of octets % 256 < 256 = omega arith in
    let high : fcs_of octets / 256 < 256 = omega (arith, fcs_of-lt octets) in
    All-append (λ x. x < 256) octets (fcs_of octets % 256 ∷ fcs_of octets / 256 ∷ []) fit
    (All-cons (λ x. x < 256) (fcs_of octets % 256) (fcs_of octets / 256 ∷ []) low
    (All-cons (λ x. x < 256) (fcs_of octets / 256) [] high (All-nil (λ x. x < 256))))

pub length-with_fcs : (octets : List ℕ) → length (with_fcs octets) ≡ length octets + 2
unfolding with_fcs
length-with_fcs octets = length-append octets (fcs_of octets % 256 ∷ fcs_of octets / 256 ∷ [])

-- all but the last two of octets with their check sequence
pub without_fcs : (octets : List ℕ) → take (length (with_fcs octets) - 2) (with_fcs octets) ≡ octets
unfolding with_fcs
without_fcs octets =
    take_at octets (fcs_of octets % 256 ∷ fcs_of octets / 256 ∷ []) _
    (omega (arith, length-append octets (fcs_of octets % 256 ∷ fcs_of octets / 256 ∷ [])))

-- octets come back from their bits with a check sequence and a part of an octet
pub same_frame : (octets others : List ℕ) → IsFrame octets → IsFrame others
    → sent_bits (with_fcs octets) ++ flag_start ≡ sent_bits (with_fcs others) ++ flag_start → octets ≡ others
same_frame octets others is_frame others_frame e =
    let both = same_octets (with_fcs octets) (with_fcs others) flag_start flag_start
    (with_fcs_fits octets is_frame.octets_fit) (with_fcs_fits others others_frame.octets_fit) (omega arith)
    (omega arith) e in
    sym (without_fcs octets) ∙ ap (λ xs. take (length xs - 2) xs) both ∙ without_fcs others

-- a content that ends as a flag begins came from stuffed bits and the front of a flag
raw_closed : (n : ℕ) (raw bits : List Bool) → n ≡ 6 → Raw n raw (bits ++ flag_start) → raw ≡ stuffed bits ++ flag_front
raw_closed n raw bits at_six (few count same) = absurd (omega arith)
raw_closed n raw bits at_six (five front is e l same) = absurd (omega arith)
raw_closed n raw bits at_six (six front is e l same) =
    let fronts : bits ++ five_bits ≡ front =
    (same_from_push (bits ++ five_bits) front true true (append_assoc bits five_bits (true ∷ []) ∙ e)).0 in
    same ∙ ap (λ xs. stuffed_from xs 4 ++ true ∷ true ∷ []) (sym fronts)
    ∙ ap (λ xs. xs ++ true ∷ true ∷ []) (stuffed_five bits)
    ∙ append_assoc (stuffed bits) five_bits (true ∷ true ∷ [])

ends_frame : (bits : List Bool) (octets : List ℕ) → EndsOnZero (line_after bits) → ClosesFrame (line_after bits) octets
    → EndsFrame (bits ++ false ∷ []) octets
unfolding frame_bits
ends_frame bits octets ends closes =
    let told = told_after bits in
    let since = told.since_flag (sent_bits (with_fcs octets) ++ flag_start) closes.content in
    let body = stuffed (sent_bits (with_fcs octets)) in
    let came = raw_closed (line_after bits).ones since.1 (sent_bits (with_fcs octets)) ends.six since.3 in (
      since.0,
      ap (λ xs. xs ++ false ∷ []) (since.2 ∙ ap (λ xs. (since.0 ++ flag) ++ xs) came)
          ∙ append_assoc (since.0 ++ flag) (body ++ flag_front) (false ∷ [])
          ∙ append_assoc since.0 flag ((body ++ flag_front) ++ false ∷ [])
          ∙ ap (λ xs. since.0 ++ (flag ++ xs)) (append_assoc body flag_front (false ∷ [])),
      closes.frame,
    )

-- the bits of a frame between two flags, but for the last bit
frame_front : List Bool → List ℕ → List Bool
frame_front before octets = before ++ (flag ++ (stuffed (sent_bits (with_fcs octets)) ++ flag_front))

frame_front-push : (before : List Bool) (octets : List ℕ) → frame_front before octets ++ false ∷ []
    ≡ before ++ (flag ++ (frame_bits octets ++ flag))
unfolding frame_front frame_bits
frame_front-push before octets =
    let body = stuffed (sent_bits (with_fcs octets)) in
    append_assoc before (flag ++ (body ++ flag_front)) (false ∷ [])
    ∙ ap (λ xs. before ++ xs) (append_assoc flag (body ++ flag_front) (false ∷ []))
    ∙ ap (λ xs. before ++ (flag ++ xs)) (append_assoc body flag_front (false ∷ []))

line_of_frame : (before : List Bool) (octets : List ℕ) → IsFrame octets
    → ClosesFrame (line_after (frame_front before octets)) octets
unfolding frame_front
line_of_frame before octets is_frame =
    let few : length (sent_bits (with_fcs octets)) ≤ 8208 =
    omega (arith, length-sent_bits (with_fcs octets), length-with_fcs octets, is_frame.most) in
    let known = line_after-append before (flag ++ (stuffed (sent_bits (with_fcs octets)) ++ flag_front))
    ∙ over_frame (line_after before) (sent_bits (with_fcs octets)) few in
    record { content = ap (λ line. line.content) known; frame = is_frame }

closes_frame : (bits : List Bool) (octets : List ℕ) → EndsFrame (bits ++ false ∷ []) octets
    → ClosesFrame (line_after bits) octets
closes_frame bits octets ends =
    let front = frame_front ends.0 octets in
    let same : bits ≡ front = (same_from_push bits front false false (ends.1 ∙ sym (frame_front-push ends.0 octets))).0
    in
    subst (λ xs. ClosesFrame (line_after xs) octets) (sym same) (line_of_frame ends.0 octets ends.2)

no_frame_on_one : (bits : List Bool) (octets : List ℕ) → ¬ EndsFrame (bits ++ true ∷ []) octets
no_frame_on_one bits octets ends =
    true≢false (same_from_push bits (frame_front ends.0 octets) true false (ends.1
    ∙ sym (frame_front-push ends.0 octets))).1

-- ---- the event of a bit

-- What the line tells of the next bit is what that bit ends.
pub event_told : (bits : List Bool) (bit : Bool) (event : Event) → LineEvent (line_after bits) bit event
    → EventAt (bits ++ bit ∷ []) event
event_told bits true NoEvent told =
    (no_flag_on_one bits, λ ends. told (omega (arith, (told_after bits).ones, run-push_one bits, ends)))
event_told bits true Flag told = absurd told
event_told bits true Abort told = omega (arith, (told_after bits).ones, run-push_one bits, told)
event_told bits true Frame told = absurd told
event_told bits false NoEvent told = (λ ends. told (ends_on_zero bits ends), no_abort_on_zero bits)
event_told bits false Flag told = (ends_flag bits told.0, λ octets ends. told.1 octets (closes_frame bits octets ends))
event_told bits false Abort told = absurd told
event_told bits false Frame told = (told.1.0, ends_frame bits told.1.0 told.0 told.1.1)

-- a frame ends with a flag
pub frame_flag : (bits : List Bool) (octets : List ℕ) → EndsFrame bits octets → EndsFlag bits
frame_flag bits octets ends = (
  ends.0 ++ (flag ++ frame_bits octets),
  ends.1 ∙ ap (λ xs. ends.0 ++ xs) (sym (append_assoc flag (frame_bits octets) flag))
      ∙ sym (append_assoc ends.0 (flag ++ frame_bits octets) flag),
)

-- A frame that ends here is held by the line before its last bit, which ends a flag.
pub frame_told : (bits : List Bool) (bit : Bool) (octets : List ℕ) → EndsFrame (bits ++ bit ∷ []) octets
    → (bit ≡ false) × EndsOnZero (line_after bits) × ClosesFrame (line_after bits) octets
frame_told bits true octets ends = absurd (no_frame_on_one bits octets ends)
frame_told bits false octets ends = (
  refl,
  ends_on_zero bits (frame_flag (bits ++ false ∷ []) octets ends),
  closes_frame bits octets ends,
)

-- a flag ends with a 0, and an abort with a 1
pub flag_no_abort : (bits : List Bool) → EndsFlag bits → ¬ EndsAbort bits
flag_no_abort bits ends abort =
    let here : bits ≡ (ends.0 ++ flag_front) ++ false ∷ [] = ends.1
    ∙ sym (append_assoc ends.0 flag_front (false ∷ [])) in
    omega (arith, run-push_zero (ends.0 ++ flag_front), ap run_of_ones here, abort)

-- One event comes with a bit.
pub one_event : (bits : List Bool) (event other : Event) → EventAt bits event → EventAt bits other → event ≡ other
one_event bits NoEvent NoEvent e f = refl
one_event bits NoEvent Flag e f = absurd (e.0 f.0)
one_event bits NoEvent Abort e f = absurd (e.1 f)
one_event bits NoEvent Frame e f = absurd (e.0 (frame_flag bits f.0 f.1))
one_event bits Flag NoEvent e f = absurd (f.0 e.0)
one_event bits Flag Flag e f = refl
one_event bits Flag Abort e f = absurd (flag_no_abort bits e.0 f)
one_event bits Flag Frame e f = absurd (e.1 f.0 f.1)
one_event bits Abort NoEvent e f = absurd (f.1 e)
one_event bits Abort Flag e f = absurd (flag_no_abort bits f.0 e)
one_event bits Abort Abort e f = refl
one_event bits Abort Frame e f = absurd (flag_no_abort bits (frame_flag bits f.0 f.1) e)
one_event bits Frame NoEvent e f = absurd (f.0 (frame_flag bits e.0 e.1))
one_event bits Frame Flag e f = absurd (f.1 e.0 e.1)
one_event bits Frame Abort e f = absurd (flag_no_abort bits (frame_flag bits e.0 e.1) f)
one_event bits Frame Frame e f = refl

-- A frame that ends here is one frame: equal octets, after one earlier flag.
pub one_frame : (bits : List Bool) (octets others : List ℕ) (ends : EndsFrame bits octets)
    (others_end : EndsFrame bits others) → (octets ≡ others) × (ends.0 ≡ others_end.0)
one_frame bits octets others ends others_end =
    let front = frame_front ends.0 octets in
    let here : bits ≡ front ++ false ∷ [] = ends.1 ∙ sym (frame_front-push ends.0 octets) in
    let first = closes_frame front octets (subst (λ xs. EndsFrame xs octets) here ends) in
    let second = closes_frame front others (subst (λ xs. EndsFrame xs others) here others_end) in
    let both : Some (sent_bits (with_fcs octets) ++ flag_start) ≡ Some (sent_bits (with_fcs others) ++ flag_start) =
    sym first.content ∙ second.content in
    let same : octets ≡ others = same_frame octets others ends.2 others_end.2 cc in (
      same,
      append_cancel_right ends.0 others_end.0 (flag ++ (frame_bits octets ++ flag))
          (sym ends.1 ∙ others_end.1 ∙ ap (λ xs. others_end.0 ++ (flag ++ (frame_bits xs ++ flag))) (sym same)),
    )
