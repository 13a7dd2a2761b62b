-- Eight bits at once: what they make of a line and of a carrier, and how they are packed.
use Rattle.hdlc_framer.proofs.Common.{◌≡◌, ℕ, zero, suc, ◌+◌, ◌*◌, ◌/◌, ◌%◌, ◌^◌, ◌<◌, ◌≤◌, min, Bool, true, false, not, cond}
use Rattle.hdlc_framer.proofs.Common.{eqb, ltb, List, [], ◌∷◌, ◌++◌, length, take, refl, ap, subst, ◌∙◌, sym, inl, inr, arith}
use Rattle.hdlc_framer.proofs.Common.{append_assoc, append-nil, pow-suc, cases_eq, cases_lt, eq-eqb, ne_eqb, le-ltb}
use Rattle.hdlc_framer.proofs.Common.{lt-ltb, false≢true, low_bits, octet_bits, Line, next_line, Some}
use Rattle.hdlc_framer.proofs.Common.{fold, HeldCarrier, EndsFrame, Held, StandsFor, length_push}
use Rattle.std.proofs.Common.{◌&&◌, ◌||◌, None, Option}
use Rattle.std.proofs.Math.Nat.{mul_assoc, mul_comm}
use Rattle.std.proofs.lemmas.Bool.{and_parts, cond-true, agree_below_at}
use Rattle.std.proofs.lemmas.Nat.{div-mul-add, shr-shr}
use Rattle.hdlc_framer.specs.declared.event.Event.TheVariants.{None as NoEvent}
use Rattle.hdlc_framer.proofs.Common.{LineEvent}
use Rattle.hdlc_framer.proofs.DeframerLemmas.{event_is, stands_next}
use Rattle.hdlc_framer.proofs.FrameEnds.{frame_flag}
use Rattle.hdlc_framer.proofs.BitLemmas.{length-octet_bits}
use Rattle.hdlc_framer.specs.Held.{content_after_one, content_after_zero}
use Rattle.hdlc_framer.specs.HeldCarrier.{bit_later, bits_later}
use Rattle.hdlc_framer.specs.OctetSteps.{ones_more, ones_after, are_plain, are_quiet, has_zero}
unfoldable use Rattle.hdlc_framer.specs.OctetSteps.{octet_step}

-- ---- a line

abbrev pub of_line : ℕ → Bool → Option (List Bool) → Line
of_line ones after_zero content = record { ones = ones; after_zero = after_zero; content = content }

or_true : (x : Bool) → (x || true) ≡ true
or_true true = refl
or_true false = refl

-- plain bits are content
pub over_plain : (bits : List Bool) (ones : ℕ) (after_zero : Bool) (content : List Bool) → are_plain ones bits ≡ true
    → length content + length bits ≤ 8215
    → fold next_line (of_line ones after_zero (Some content)) bits
    ≡ of_line (ones_after ones bits) (has_zero bits || after_zero) (Some (content ++ bits))
over_plain [] ones after_zero content plain fits = ap (λ c. of_line ones after_zero (Some c)) (sym (append-nil content))
over_plain (false ∷ bits) ones after_zero content plain fits =
    let parts = and_parts (ltb ones 5) (are_plain 0 bits) plain in
    let one : content_after_zero ones after_zero (Some content) ≡ Some (content ++ false ∷ [])
    = cond-true _ _ _ parts.0 ∙ cond-true _ _ _ (lt-ltb (length content) 8215 (omega arith)) in
    ap (λ c. fold next_line (of_line 0 true c) bits) one
    ∙ over_plain bits 0 true (content ++ false ∷ []) parts.1 (omega (arith, length_push content false))
    ∙ ap (λ z. of_line (ones_after 0 bits) z (Some ((content ++ false ∷ []) ++ bits))) (or_true (has_zero bits))
    ∙ ap (λ c. of_line (ones_after 0 bits) true (Some c)) (append_assoc content (false ∷ []) bits)
over_plain (true ∷ bits) ones after_zero content plain fits =
    let parts = and_parts (ltb ones 5) (are_plain (min 7 (ones + 1)) bits) plain in
    let one : content_after_one ones (Some content) ≡ Some (content ++ true ∷ [])
    = cond-true _ _ _ parts.0 ∙ cond-true _ _ _ (lt-ltb (length content) 8215 (omega arith)) in
    ap (λ c. fold next_line (of_line (min 7 (ones + 1)) after_zero c) bits) one
    ∙ over_plain bits (min 7 (ones + 1)) after_zero (content ++ true ∷ []) parts.1
    (omega (arith, length_push content true))
    ∙ ap (λ c. of_line (ones_after (min 7 (ones + 1)) bits) (has_zero bits || after_zero) (Some c))
    (append_assoc content (true ∷ []) bits)

-- a line of no content gets none
abbrev pub no_content : Option (List Bool)
no_content = None

idle_zero : (x y z after_zero : Bool) → not z ≡ true
    → cond x no_content (cond y no_content (cond (z && after_zero) (Some []) no_content)) ≡ no_content
idle_zero true y z after_zero e = refl
idle_zero false true z after_zero e = refl
idle_zero false false false after_zero e = refl
idle_zero false false true after_zero e = absurd (false≢true e)

idle_one : (x y : Bool) → cond x no_content (cond y no_content no_content) ≡ no_content
idle_one true y = refl
idle_one false true = refl
idle_one false false = refl

pub over_idle : (bits : List Bool) (ones : ℕ) (after_zero : Bool) → are_quiet ones bits ≡ true
    → fold next_line (of_line ones after_zero None) bits
    ≡ of_line (ones_after ones bits) (has_zero bits || after_zero) None
over_idle [] ones after_zero quiet = refl
over_idle (false ∷ bits) ones after_zero quiet =
    let parts = and_parts (not (eqb ones 6)) (are_quiet 0 bits) quiet in
    let one : content_after_zero ones after_zero None ≡ None
    = idle_zero (ltb ones 5) (eqb ones 5) (eqb ones 6) after_zero parts.0 in
    ap (λ c. fold next_line (of_line 0 true c) bits) one
    ∙ over_idle bits 0 true parts.1
    ∙ ap (λ z. of_line (ones_after 0 bits) z None) (or_true (has_zero bits))
over_idle (true ∷ bits) ones after_zero quiet =
    let parts = and_parts (not (eqb ones 6)) (are_quiet (min 7 (ones + 1)) bits) quiet in
    let one : content_after_one ones None ≡ None = idle_one (ltb ones 5) (eqb ones 5) in
    ap (λ c. fold next_line (of_line (min 7 (ones + 1)) after_zero c) bits) one
    ∙ over_idle bits (min 7 (ones + 1)) after_zero parts.1

-- ---- the step of an octet

pub ones_after-most : (bits : List Bool) (ones : ℕ) → ones ≤ 7 → ones_after ones bits ≤ 7
ones_after-most [] ones most = most
ones_after-most (false ∷ bits) ones most = ones_after-most bits 0 (omega arith)
ones_after-most (true ∷ bits) ones most = ones_after-most bits (min 7 (ones + 1)) (omega arith)

pub plain_quiet : (bits : List Bool) (ones : ℕ) → are_plain ones bits ≡ true → are_quiet ones bits ≡ true
plain_quiet [] ones plain = refl
plain_quiet (bit ∷ bits) ones plain =
    let parts = and_parts (ltb ones 5) (are_plain (ones_more ones bit) bits) plain in
    let few : ones < 5 = elim (cases_lt ones 5) [
      | inl lt ↦ lt
      | inr ge ↦ absurd (false≢true (sym (le-ltb ones 5 ge) ∙ parts.0))
    ] in
    let one : not (eqb ones 6) ≡ true = ap not (ne_eqb ones 6 (λ e. omega arith)) in
    let rest = plain_quiet bits (ones_more ones bit) parts.1 in
    λ i. one i && rest i

by_step : (p q : Bool) (n : ℕ) → cond p n (cond q (8 + n) 16) < 8 → (p ≡ true) × (n ≡ cond p n (cond q (8 + n) 16))
by_step true q n lt = (refl, refl)
by_step false true n lt = absurd (omega arith)
by_step false false n lt = absurd (omega arith)

pub step_plain : (ones octet : ℕ) → octet_step ones octet < 8
    → (are_plain ones (octet_bits octet) ≡ true) × (ones_after ones (octet_bits octet) ≡ octet_step ones octet)
unfolding octet_step octet_bits
step_plain ones octet lt =
    by_step (are_plain ones (low_bits 8 octet)) (are_quiet ones (low_bits 8 octet)) (ones_after ones (low_bits 8 octet)) lt

by_quiet : (p q : Bool) (n : ℕ) → n ≤ 7 → (p ≡ true → q ≡ true) → cond p n (cond q (8 + n) 16) < 16
    → (q ≡ true) × (n ≡ cond p n (cond q (8 + n) 16) % 8)
by_quiet true q n most so lt = (so refl, omega arith)
by_quiet false true n most so lt = (refl, omega arith)
by_quiet false false n most so lt = absurd (omega arith)

pub step_quiet : (ones octet : ℕ) → ones ≤ 7 → octet_step ones octet < 16
    → (are_quiet ones (octet_bits octet) ≡ true) × (ones_after ones (octet_bits octet) ≡ octet_step ones octet % 8)
unfolding octet_step octet_bits
step_quiet ones octet most lt =
    by_quiet (are_plain ones (low_bits 8 octet)) (are_quiet ones (low_bits 8 octet)) (ones_after ones (low_bits 8 octet))
    (ones_after-most (low_bits 8 octet) ones most) (plain_quiet (low_bits 8 octet) ones) lt

-- all octets but one have a 0
or_left : (x y : Bool) → (x || y) ≡ true → y ≡ false → x ≡ true
or_left true y e none = refl
or_left false true e none = absurd (false≢true (sym none))
or_left false false e none = e

pub some_zero : (octet : ℕ) → octet < 256 → (octet ≡ 255 → ⊥) → has_zero (octet_bits octet) ≡ true
unfolding octet_bits
some_zero octet below other =
    or_left (has_zero (low_bits 8 octet)) (eqb octet 255)
    (agree_below_at (λ o. has_zero (low_bits 8 o) || eqb o 255) (λ _. true) 256 octet refl below)
    (ne_eqb octet 255 other)

pub no_zero : (octet : ℕ) → octet ≡ 255 → has_zero (octet_bits octet) ≡ false
unfolding octet_bits
no_zero octet all = ap (λ o. has_zero (low_bits 8 o)) all

-- ---- a line that takes an octet

none_is_some : {A : Type 0} → (content : List Bool) → no_content ≡ Some content → A
none_is_some content e = absurd cc

-- as content
pub plain_taken : (now after : Line) (ones step octet : ℕ) (after_zero active : Bool) (content pushed held : List Bool)
    → of_line ones after_zero (cond active (Some content) no_content) ≡ now → now.content ≡ Some held
    → step ≡ octet_step now.ones octet → step < 8 → length content + 8 ≤ 8215 → pushed ≡ content ++ octet_bits octet
    → after ≡ of_line step (has_zero (octet_bits octet) || after_zero) (cond active (Some pushed) no_content)
    → (after ≡ fold next_line now (octet_bits octet)) × (are_quiet now.ones (octet_bits octet) ≡ true)
plain_taken now after ones step octet after_zero false content pushed held view some is few fits push went =
    none_is_some held (ap (λ (l : Line). l.content) view ∙ some)
plain_taken now after ones step octet after_zero true content pushed held view some is few fits push went =
    let bits : List Bool = octet_bits octet in
    let same : ones ≡ now.ones = ap (λ (l : Line). l.ones) view in
    let step_is : octet_step ones octet ≡ step = ap (λ n. octet_step n octet) same ∙ sym is in
    let plain = step_plain ones octet (subst (λ n. n < 8) (sym step_is) few) in
    let size = length-octet_bits octet in
    let over = over_plain bits ones after_zero content plain.0 (omega arith) in
    let end : step ≡ ones_after ones bits = sym (plain.1 ∙ step_is) in (
      went ∙ (λ i. of_line (end i) (has_zero bits || after_zero) (Some (push i))) ∙ sym over
          ∙ ap (λ l. fold next_line l bits) view,
      subst (λ n. are_quiet n bits ≡ true) same (plain_quiet bits ones plain.0),
    )

-- as what is no content
pub idle_taken : (now after : Line) (step octet : ℕ) → now.content ≡ no_content → now.ones ≤ 7
    → step ≡ octet_step now.ones octet → step < 16
    → after ≡ of_line (step % 8) (has_zero (octet_bits octet) || now.after_zero) now.content
    → (after ≡ fold next_line now (octet_bits octet)) × (are_quiet now.ones (octet_bits octet) ≡ true)
idle_taken now after step octet none most is few went =
    let bits : List Bool = octet_bits octet in
    let quiet = step_quiet now.ones octet most (subst (λ n. n < 16) is few) in
    let over = over_idle bits now.ones now.after_zero quiet.0 in
    let end : step % 8 ≡ ones_after now.ones bits = ap (λ n. n % 8) is ∙ sym quiet.1 in (
      went ∙ (λ i. of_line (end i) (has_zero bits || now.after_zero) (none i)) ∙ sym over
          ∙ (λ i. fold next_line (of_line now.ones now.after_zero (sym none i)) bits),
      quiet.0,
    )

-- ---- a carrier

abbrev quiet_so_far : HeldCarrier → ℕ → HeldCarrier
quiet_so_far c n = record c { since_flag = n; held = cond (eqb n 10000) false c.held }

bits_later_is : (n : ℕ) (c : HeldCarrier) → bits_later (suc n) c ≡ quiet_so_far c (min (c.since_flag + suc n) 10000)
bits_later_is zero c = refl
bits_later_is (suc n) c =
    let least : ℕ = min (c.since_flag + 1) 10000 in
    let more : min (least + suc n) 10000 ≡ min (c.since_flag + suc (suc n)) 10000 = omega arith in
    bits_later_is n (bit_later c)
    ∙ ap (λ m. record c { since_flag = m; held = cond (eqb m 10000) false (cond (eqb least 10000) false c.held) }) more
    ∙ ap (λ h. record c { since_flag = min (c.since_flag + suc (suc n)) 10000; held = h })
    (elim (cases_eq least 10000) [
      | inl far ↦
          let all : min (c.since_flag + suc (suc n)) 10000 ≡ 10000 = omega arith in
          ap (λ t. cond t false (cond (eqb least 10000) false c.held)) (eq-eqb _ 10000 all)
          ∙ sym (ap (λ t. cond t false c.held) (eq-eqb _ 10000 all))
      | inr near ↦
          ap (λ t. cond (eqb (min (c.since_flag + suc (suc n)) 10000) 10000) false (cond t false c.held))
          (ne_eqb least 10000 near)
    ])

pub eight_later : (c : HeldCarrier) → bits_later 8 c ≡ quiet_so_far c (min (c.since_flag + 8) 10000)
eight_later c = bits_later_is 7 c

-- ---- a deframer

abbrev pub of_parts : Line → HeldCarrier → Held
of_parts line carrier = record { line = line; framed = false; carrier = carrier }

none_told : (line : Line) (bit : Bool) → not (eqb line.ones 6) ≡ true → LineEvent line bit NoEvent
none_told line bit quiet = by_bit bit
  where
    not_six : line.ones ≡ 6 → ⊥
    not_six six = false≢true (sym (ap not (eq-eqb line.ones 6 six)) ∙ quiet)

    by_bit : (bit : Bool) → LineEvent line bit NoEvent
    by_bit true = not_six
    by_bit false = λ ends. not_six ends.six

next_quiet : (line : Line) (bit : Bool) (bits : List Bool) → are_quiet (ones_more line.ones bit) bits ≡ true
    → are_quiet (next_line line bit).ones bits ≡ true
next_quiet line true bits quiet = quiet
next_quiet line false bits quiet = quiet

-- bits that end nothing
pub stands_bits : (bits : List Bool) (line : Line) (carrier : HeldCarrier) (b : List Bool)
    → are_quiet line.ones bits ≡ true → StandsFor (of_parts line carrier) b
    → StandsFor (of_parts (fold next_line line bits) (bits_later (length bits) carrier)) (b ++ bits)
stands_bits [] line carrier b quiet stands = subst (StandsFor (of_parts line carrier)) (sym (append-nil b)) stands
stands_bits (bit ∷ bits) line carrier b quiet stands =
    let parts = and_parts (not (eqb line.ones 6)) (are_quiet (ones_more line.ones bit) bits) quiet in
    let next = stands_next (of_parts line carrier) b bit NoEvent stands (none_told line bit parts.0) in
    let rest = stands_bits bits (next_line line bit) (bit_later carrier) (b ++ bit ∷ [])
    (next_quiet line bit bits parts.1) next in
    subst (StandsFor (of_parts (fold next_line (next_line line bit) bits) (bits_later (length bits) (bit_later carrier))))
    (append_assoc b (bit ∷ []) bits) rest

pub no_frames : (bits : List Bool) (line : Line) (carrier : HeldCarrier) (b : List Bool)
    → are_quiet line.ones bits ≡ true → StandsFor (of_parts line carrier) b
    → (k : ℕ) → k < length bits → (octets : List ℕ) → ¬ EndsFrame (b ++ take (suc k) bits) octets
no_frames [] line carrier b quiet stands k below octets ends = absurd (omega arith)
no_frames (bit ∷ bits) line carrier b quiet stands zero below octets ends =
    let parts = and_parts (not (eqb line.ones 6)) (are_quiet (ones_more line.ones bit) bits) quiet in
    let event = event_is (of_parts line carrier) b bit NoEvent stands (none_told line bit parts.0) in
    event.0 (frame_flag (b ++ bit ∷ []) octets ends)
no_frames (bit ∷ bits) line carrier b quiet stands (suc k) below octets ends =
    let parts = and_parts (not (eqb line.ones 6)) (are_quiet (ones_more line.ones bit) bits) quiet in
    let next = stands_next (of_parts line carrier) b bit NoEvent stands (none_told line bit parts.0) in
    no_frames bits (next_line line bit) (bit_later carrier) (b ++ bit ∷ []) (next_quiet line bit bits parts.1) next
    k (omega arith) octets
    (subst (λ t. EndsFrame t octets) (sym (append_assoc b (bit ∷ []) (take (suc k) bits))) ends)

-- ---- how eight bits are packed

low_bits-split : (a b n : ℕ) → low_bits (a + b) n ≡ low_bits a n ++ low_bits b (n / 2 ^ a)
low_bits-split zero b n =
    let none : 0 + b ≡ b = omega arith in
    let whole : n ≡ n / 2 ^ 0 = omega arith in
    λ i. low_bits (none i) (whole i)
low_bits-split (suc a) b n =
    let same : n / 2 / 2 ^ a ≡ n / 2 ^ suc a = shr-shr n 1 a ∙ ap (λ m. n / 2 ^ m) (omega arith) in
    let more : suc a + b ≡ suc (a + b) = omega arith in
    ap (λ m. low_bits m n) more
    ∙ ap (λ xs. eqb (n % 2) 1 ∷ xs) (low_bits-split a b (n / 2) ∙ ap (λ m. low_bits a (n / 2) ++ low_bits b m) same)

low_bits-above : (a p m : ℕ) → p < 2 ^ a → low_bits a (p + 2 ^ a * m) ≡ low_bits a p
low_bits-above zero p m below = refl
low_bits-above (suc a) p m below =
    let double : 2 ^ suc a * m ≡ 2 * (2 ^ a * m) = ap (λ x. x * m) (pow-suc 2 a ∙ mul_comm (2 ^ a) 2) ∙ mul_assoc 2 (2 ^ a) m in
    let power = pow-suc 2 a in
    let odd : (p + 2 ^ suc a * m) % 2 ≡ p % 2 = omega (arith, double) in
    let half : (p + 2 ^ suc a * m) / 2 ≡ p / 2 + 2 ^ a * m = omega (arith, double) in
    (λ i. eqb (odd i) 1 ∷ low_bits a (half i))
    ∙ ap (λ xs. eqb (p % 2) 1 ∷ xs) (low_bits-above a (p / 2) m (omega arith))

above_is : (a p m : ℕ) → p < 2 ^ a → (p + 2 ^ a * m) / 2 ^ a ≡ m
above_is a p m below =
    let turned : p + 2 ^ a * m ≡ m * 2 ^ a + p = omega (arith, mul_comm (2 ^ a) m) in
    ap (λ x. x / 2 ^ a) turned ∙ div-mul-add m (2 ^ a) p below

-- a part of an octet, and an octet
pub part_and_octet : (filled part octet bits : ℕ) → part < 2 ^ filled → bits ≡ part + 2 ^ filled * octet
    → low_bits filled part ++ octet_bits octet ≡ octet_bits (bits % 256) ++ low_bits filled (bits / 256)
unfolding octet_bits
part_and_octet filled part octet bits below is =
    let whole : low_bits (filled + 8) bits ≡ low_bits filled part ++ low_bits 8 octet
    = low_bits-split filled 8 bits
    ∙ (λ i. low_bits filled (is i) ++ low_bits 8 (is i / 2 ^ filled))
    ∙ (λ i. low_bits-above filled part octet below i ++ low_bits 8 (above_is filled part octet below i)) in
    let turned : filled + 8 ≡ 8 + filled = omega arith in
    let split = low_bits-split 8 filled bits in
    let low : bits ≡ bits % 256 + 2 ^ 8 * (bits / 256) = omega arith in
    let lower : low_bits 8 bits ≡ low_bits 8 (bits % 256)
    = ap (low_bits 8) low ∙ low_bits-above 8 (bits % 256) (bits / 256) (omega arith) in
    sym whole ∙ ap (λ n. low_bits n bits) turned ∙ split ∙ ap (λ xs. xs ++ low_bits filled (bits / 256)) lower
