-- The line that a deframer keeps tells exactly where flags, aborts and frames end.
use Rattle.hdlc_framer.proofs.Common.{◌≡◌, ℕ, zero, suc, ◌+◌, ◌-◌, ◌<◌, ◌≤◌, min, Bool, true, false, ltb, eqb, Some}
use Rattle.hdlc_framer.proofs.Common.{List, [], ◌∷◌, ◌++◌, length, replicate, refl, ap, subst, ◌∙◌, sym, inl, inr}
use Rattle.hdlc_framer.proofs.Common.{arith, length-append, append_assoc, append-nil, lt-ltb, le-ltb, eq-eqb, ne_eqb}
use Rattle.hdlc_framer.proofs.Common.{cases_lt, cases_eq, cases_Bool, eqb-true, false≢true, fold-append, length_push}
use Rattle.hdlc_framer.proofs.Common.{stuffed_from, left_after, flag, stuffed, run_of_ones, Line, next_line, new_line}
use Rattle.hdlc_framer.proofs.Common.{open_line, line_after, flag_start, content_after_zero}
use Rattle.std.proofs.Common.{◌&&◌, Option, None, fold}
use Rattle.std.specs.List.{prefix_len}
use Rattle.std.proofs.lemmas.Bool.{cond-true, cond-false, and_parts}
use Rattle.std.proofs.lemmas.List.{reverse-append, replicate_more}
use Rattle.hdlc_framer.specs.Held.{longer, content_after_one}
use Rattle.hdlc_framer.proofs.StuffingLemmas.{stuffed_is, stuffed_from-append, left_after-append}

-- ---- one bit more

pub line_after-push : (bits : List Bool) (bit : Bool) → line_after (bits ++ bit ∷ []) ≡ next_line (line_after bits) bit
unfolding line_after
line_after-push bits bit = fold_push bits new_line bit
  where
    fold_push : (bits : List Bool) (line : Line) (bit : Bool) → fold next_line line (bits ++ bit ∷ [])
        ≡ next_line (fold next_line line bits) bit
    fold_push [] line bit = refl
    fold_push (b ∷ bits) line bit = fold_push bits (next_line line b) bit

-- a line with a 0 before its 1s
abbrev pub at : ℕ → Option (List Bool) → Line
at ones content = record { ones = ones; after_zero = true; content = content }

longer_fits : (content : List Bool) (bit : Bool) → length content < 8215
    → longer (Some content) bit ≡ Some (content ++ bit ∷ [])
longer_fits content bit fits = cond-true _ _ _ (lt-ltb (length content) 8215 fits)

-- a 0 after fewer than five 1s
next_zero : (n : ℕ) (content : List Bool) → n < 5 → length content < 8215
    → next_line (at n (Some content)) false ≡ at 0 (Some (content ++ false ∷ []))
next_zero n content few fits = ap (at 0) (cond-true _ _ _ (lt-ltb n 5 few) ∙ longer_fits content false fits)

-- a 1 after fewer than four
next_one : (n : ℕ) (content : List Bool) → n < 4 → length content < 8215
    → next_line (at n (Some content)) true ≡ at (suc n) (Some (content ++ true ∷ []))
next_one n content few fits =
    let more : min 7 (n + 1) ≡ suc n = omega arith in
    let with_ones : ℕ → Line = λ m. at m (content_after_one n (Some content)) in
    ap with_ones more ∙ ap (at (suc n)) (cond-true _ _ _ (lt-ltb n 5 (omega arith)) ∙ longer_fits content true fits)

-- the fifth 1 and the inserted 0
next_fifth : (n : ℕ) (content : List Bool) → 4 ≡ n → length content < 8215
    → next_line (next_line (at n (Some content)) true) false ≡ at 0 (Some (content ++ true ∷ []))
next_fifth n content four fits =
    let P : ℕ → Type 0 = λ m. next_line (next_line (at m (Some content)) true) false
    ≡ at 0 (Some (content ++ true ∷ [])) in
    subst P four (ap (at 0) (longer_fits content true fits))

-- bits with their inserted zeros join the content without them
over_stuffed : (bits : List Bool) (n left : ℕ) (content : List Bool) → n + left ≡ 4
    → length content + length bits ≤ 8215
    → fold next_line (at n (Some content)) (stuffed_from bits left)
    ≡ at (4 - left_after bits left) (Some (content ++ bits))
over_stuffed [] n left content four fits =
    let count : n ≡ 4 - left = omega arith in
    ap (λ m. at m (Some content)) count ∙ ap (λ xs. at (4 - left) (Some xs)) (sym (append-nil content))
over_stuffed (false ∷ bits) n left content four fits =
    ap (λ line. fold next_line line (stuffed_from bits 4)) (next_zero n content (omega arith) (omega arith))
    ∙ over_stuffed bits 0 4 (content ++ false ∷ []) refl (omega (arith, length_push content false))
    ∙ ap (λ xs. at (4 - left_after bits 4) (Some xs)) (append_assoc content (false ∷ []) bits)
over_stuffed (true ∷ bits) n zero content four fits =
    ap (λ line. fold next_line line (stuffed_from bits 4)) (next_fifth n content (omega arith) (omega arith))
    ∙ over_stuffed bits 0 4 (content ++ true ∷ []) refl (omega (arith, length_push content true))
    ∙ ap (λ xs. at (4 - left_after bits 4) (Some xs)) (append_assoc content (true ∷ []) bits)
over_stuffed (true ∷ bits) n (suc left) content four fits =
    ap (λ line. fold next_line line (stuffed_from bits left)) (next_one n content (omega arith) (omega arith))
    ∙ over_stuffed bits (suc n) left (content ++ true ∷ []) (omega arith) (omega (arith, length_push content true))
    ∙ ap (λ xs. at (4 - left_after bits left) (Some xs)) (append_assoc content (true ∷ []) bits)

-- Whatever the line was, a flag opens it.
pub after_flag : (line : Line) → fold next_line line flag ≡ open_line
after_flag line = refl

-- a flag's bits but the last one
abbrev pub flag_front : List Bool
flag_front = false ∷ true ∷ true ∷ true ∷ true ∷ true ∷ true ∷ []

-- the first five bits of a flag
abbrev pub five_bits : List Bool
five_bits = false ∷ true ∷ true ∷ true ∷ true ∷ []

pub stuffed_five : (bits : List Bool) → stuffed_from (bits ++ five_bits) 4 ≡ stuffed bits ++ five_bits
stuffed_five bits = stuffed_from-append bits five_bits 4 ∙ ap (λ xs. xs ++ five_bits) (sym (stuffed_is bits))

left_after_five : (bits : List Bool) → left_after (bits ++ five_bits) 4 ≡ 0
left_after_five bits = left_after-append bits five_bits 4

-- Whatever the line was, it holds the bits that stand stuffed between a flag and the last bit of the next one.
pub over_frame : (line : Line) (bits : List Bool) → length bits ≤ 8208
    → fold next_line line (flag ++ (stuffed bits ++ flag_front)) ≡ at 6 (Some (bits ++ flag_start))
over_frame line bits few =
    let regroup : stuffed bits ++ flag_front ≡ stuffed_from (bits ++ five_bits) 4 ++ true ∷ true ∷ [] =
    sym (append_assoc (stuffed bits) five_bits (true ∷ true ∷ []))
    ∙ ap (λ xs. xs ++ true ∷ true ∷ []) (sym (stuffed_five bits)) in
    let fits : length (bits ++ five_bits) ≤ 8213 = omega (arith, length-append bits five_bits) in
    let inside : fold next_line open_line (stuffed_from (bits ++ five_bits) 4) ≡ at 4 (Some (bits ++ five_bits)) =
    over_stuffed (bits ++ five_bits) 0 4 [] refl (omega arith)
    ∙ ap (λ n. at (4 - n) (Some (bits ++ five_bits))) (left_after_five bits) in
    ap (fold next_line open_line) regroup
    ∙ fold-append next_line open_line (stuffed_from (bits ++ five_bits) 4) (true ∷ true ∷ [])
    ∙ ap (λ l. fold next_line l (true ∷ true ∷ [])) inside
    ∙ ap (at 6) (longer_fits (bits ++ five_bits) true (omega arith) ∙ ap Some (append_assoc bits five_bits (true ∷ [])))

-- ---- what the line tells of the bits

-- the content of a line with so many 1s at the end, if these bits came since the flag
pub data Raw (n : ℕ) (raw content : List Bool) : Type 0 where
  few : n + left_after content 4 ≡ 4 → raw ≡ stuffed_from content 4 → Raw n raw content
  five : (front : List Bool) → n ≡ 5 → content ≡ front ++ true ∷ [] → left_after front 4 ≡ 0
      → raw ≡ stuffed_from front 4 ++ true ∷ [] → Raw n raw content
  six : (front : List Bool) → n ≡ 6 → content ≡ front ++ true ∷ [] → left_after front 4 ≡ 0
      → raw ≡ stuffed_from front 4 ++ true ∷ true ∷ [] → Raw n raw content

pub record Told (line : Line) (bits : List Bool) : Type 0 where
  pub ones : line.ones ≡ min 7 (run_of_ones bits)
  pub zero_before : line.after_zero ≡ true → (before : List Bool)
      × (bits ≡ before ++ false ∷ replicate (run_of_ones bits) true)
  pub since_flag : (content : List Bool) → line.content ≡ Some content
      → (before : List Bool) × (raw : List Bool) × (bits ≡ (before ++ flag) ++ raw) × Raw line.ones raw content

pub run-push_one : (bits : List Bool) → run_of_ones (bits ++ true ∷ []) ≡ 1 + run_of_ones bits
run-push_one bits = ap (prefix_len (λ bit. bit)) (reverse-append bits (true ∷ []))

pub run-push_zero : (bits : List Bool) → run_of_ones (bits ++ false ∷ []) ≡ 0
run-push_zero bits = ap (prefix_len (λ bit. bit)) (reverse-append bits (false ∷ []))

none_is_some : {A : Type 0} → (content : List Bool) → None ≡ Some content → A
none_is_some content e = absurd cc

-- what a content was before its last bit
longer_some : (was : Option (List Bool)) (bit : Bool) (content : List Bool) → longer was bit ≡ Some content
    → (front : List Bool) × (was ≡ Some front) × (content ≡ front ++ bit ∷ [])
longer_some None bit content e = none_is_some content e
longer_some (Some front) bit content e =
    elim (cases_Bool (ltb (length front) 8215)) [
      | inl fits ↦
          let both : Some (front ++ bit ∷ []) ≡ Some content = sym (cond-true _ _ _ fits) ∙ e in
          (front, refl, cc)
      | inr past ↦ let both : None ≡ Some content = sym (cond-false _ _ _ past) ∙ e in none_is_some content both
    ]

one_left : (left : ℕ) → 0 < left → (left_after (true ∷ []) left + 1 ≡ left)
    × (stuffed_from (true ∷ []) left ≡ true ∷ [])
one_left zero h = absurd (omega arith)
one_left (suc left) h = (omega arith, refl)

raw_one : (n : ℕ) (raw content : List Bool) → n < 5 → Raw n raw content
    → Raw (min 7 (n + 1)) (raw ++ true ∷ []) (content ++ true ∷ [])
raw_one n raw content below (few count same) =
    elim (cases_eq n 4) [
      | inl four ↦ five content (omega arith) refl (omega arith) (ap (λ xs. xs ++ true ∷ []) same)
      | inr other ↦
          let one = one_left (left_after content 4) (omega arith) in
          few (omega (arith, left_after-append content (true ∷ []) 4, one.0))
          (ap (λ xs. xs ++ true ∷ []) same ∙ ap (λ xs. stuffed_from content 4 ++ xs) (sym one.1)
          ∙ sym (stuffed_from-append content (true ∷ []) 4))
    ]
raw_one n raw content below (five front is e l same) = absurd (omega arith)
raw_one n raw content below (six front is e l same) = absurd (omega arith)

raw_sixth : (n : ℕ) (raw content : List Bool) → n ≡ 5 → Raw n raw content
    → Raw (min 7 (n + 1)) (raw ++ true ∷ []) content
raw_sixth n raw content at_five (few count same) = absurd (omega arith)
raw_sixth n raw content at_five (five front is e l same) =
    six front (omega arith) e l (ap (λ xs. xs ++ true ∷ []) same
    ∙ append_assoc (stuffed_from front 4) (true ∷ []) (true ∷ []))
raw_sixth n raw content at_five (six front is e l same) = absurd (omega arith)

raw_zero : (n : ℕ) (raw content : List Bool) → n < 5 → Raw n raw content
    → Raw 0 (raw ++ false ∷ []) (content ++ false ∷ [])
raw_zero n raw content below (few count same) =
    few (omega (arith, left_after-append content (false ∷ []) 4))
    (ap (λ xs. xs ++ false ∷ []) same ∙ sym (stuffed_from-append content (false ∷ []) 4))
raw_zero n raw content below (five front is e l same) = absurd (omega arith)
raw_zero n raw content below (six front is e l same) = absurd (omega arith)

raw_inserted : (n : ℕ) (raw content : List Bool) → n ≡ 5 → Raw n raw content → Raw 0 (raw ++ false ∷ []) content
raw_inserted n raw content at_five (few count same) = absurd (omega arith)
raw_inserted n raw content at_five (five front is e l same) =
    let at_last : stuffed_from (true ∷ []) (left_after front 4) ≡ true ∷ false ∷ [] = ap (stuffed_from (true ∷ [])) l in
    let none_left : left_after (true ∷ []) (left_after front 4) ≡ 4 = ap (left_after (true ∷ [])) l in
    few (ap (λ xs. 0 + left_after xs 4) e ∙ omega (arith, left_after-append front (true ∷ []) 4))
    (ap (λ xs. xs ++ false ∷ []) same ∙ append_assoc (stuffed_from front 4) (true ∷ []) (false ∷ [])
    ∙ ap (λ xs. stuffed_from front 4 ++ xs) (sym at_last) ∙ sym (stuffed_from-append front (true ∷ []) 4)
    ∙ ap (λ xs. stuffed_from xs 4) (sym e))
raw_inserted n raw content at_five (six front is e l same) = absurd (omega arith)

-- the content of a new flag is empty
raw_opened : Raw 0 [] []
raw_opened = few refl refl

-- bits after a flag, and one more
further : (bits before raw : List Bool) (bit : Bool) → bits ≡ (before ++ flag) ++ raw
    → bits ++ bit ∷ [] ≡ (before ++ flag) ++ (raw ++ bit ∷ [])
further bits before raw bit e = ap (λ xs. xs ++ bit ∷ []) e ∙ append_assoc (before ++ flag) raw (bit ∷ [])

told_one : (line : Line) (bits : List Bool) → Told line bits → Told (next_line line true) (bits ++ true ∷ [])
told_one line bits told = record {
  ones = omega (arith, told.ones, run-push_one bits);
  zero_before = λ seen. let was = told.zero_before seen in (
    was.0,
    ap (λ xs. xs ++ true ∷ []) was.1 ∙ append_assoc was.0 (false ∷ replicate (run_of_ones bits) true) (true ∷ [])
        ∙ ap (λ xs. was.0 ++ false ∷ xs) (replicate_more (run_of_ones bits) true
        ∙ ap (λ n. replicate n true) (omega (arith, run-push_one bits))),
  );
  since_flag = λ content e. since content e;
}
  where
    Since : List Bool → Type 0
    Since content = (before : List Bool) × (raw : List Bool) × (bits ++ true ∷ [] ≡ (before ++ flag) ++ raw)
        × Raw (min 7 (line.ones + 1)) raw content

    fewer : line.ones < 5 → (content : List Bool) → content_after_one line.ones line.content ≡ Some content
        → Since content
    fewer below content e =
        let last = longer_some line.content true content (sym (cond-true _ _ _ (lt-ltb line.ones 5 below)) ∙ e) in
        let was = told.since_flag last.0 last.1 in (
          was.0,
          was.1 ++ true ∷ [],
          further bits was.0 was.1 true was.2,
          subst (Raw (min 7 (line.ones + 1)) (was.1 ++ true ∷ [])) (sym last.2)
              (raw_one line.ones was.1 last.0 below was.3),
        )

    sixth : line.ones ≡ 5 → (content : List Bool) → content_after_one line.ones line.content ≡ Some content
        → Since content
    sixth at_five content e =
        let kept = sym (cond-false _ _ _ (le-ltb line.ones 5 (omega arith))
        ∙ cond-true _ _ _ (eq-eqb line.ones 5 at_five)) ∙ e in
        let was = told.since_flag content kept in (
          was.0,
          was.1 ++ true ∷ [],
          further bits was.0 was.1 true was.2,
          raw_sixth line.ones was.1 content at_five was.3,
        )

    more : 5 ≤ line.ones → (line.ones ≡ 5 → ⊥) → (content : List Bool)
        → content_after_one line.ones line.content ≡ Some content → Since content
    more least other content e =
        none_is_some content (sym (cond-false _ _ _ (le-ltb line.ones 5 least)
        ∙ cond-false _ _ _ (ne_eqb line.ones 5 other)) ∙ e)

    since : (content : List Bool) → content_after_one line.ones line.content ≡ Some content → Since content
    since content e =
        elim (cases_lt line.ones 5) [
          | inl below ↦ fewer below content e
          | inr least ↦ elim (cases_eq line.ones 5)
              [ inl at_five ↦ sixth at_five content e | inr other ↦ more least other content e ]
        ]

told_zero : (line : Line) (bits : List Bool) → Told line bits → Told (next_line line false) (bits ++ false ∷ [])
told_zero line bits told = record {
  ones = omega (arith, run-push_zero bits);
  zero_before = λ seen. (bits, ap (λ n. bits ++ false ∷ replicate n true) (sym (run-push_zero bits)));
  since_flag = λ content e. since content e;
}
  where
    Since : List Bool → Type 0
    Since content = (before : List Bool) × (raw : List Bool) × (bits ++ false ∷ [] ≡ (before ++ flag) ++ raw)
        × Raw 0 raw content

    After : List Bool → Type 0
    After content = content_after_zero line.ones line.after_zero line.content ≡ Some content

    fewer : line.ones < 5 → (content : List Bool) → After content → Since content
    fewer below content e =
        let last = longer_some line.content false content (sym (cond-true _ _ _ (lt-ltb line.ones 5 below)) ∙ e) in
        let was = told.since_flag last.0 last.1 in (
          was.0,
          was.1 ++ false ∷ [],
          further bits was.0 was.1 false was.2,
          subst (Raw 0 (was.1 ++ false ∷ [])) (sym last.2) (raw_zero line.ones was.1 last.0 below was.3),
        )

    inserted : line.ones ≡ 5 → (content : List Bool) → After content → Since content
    inserted at_five content e =
        let kept = sym (cond-false _ _ _ (le-ltb line.ones 5 (omega arith))
        ∙ cond-true _ _ _ (eq-eqb line.ones 5 at_five)) ∙ e in
        let was = told.since_flag content kept in (
          was.0,
          was.1 ++ false ∷ [],
          further bits was.0 was.1 false was.2,
          raw_inserted line.ones was.1 content at_five was.3,
        )

    opened : (content : List Bool) → line.ones ≡ 6 → line.after_zero ≡ true → Some [] ≡ Some content → Since content
    opened content at_six seen e =
        let was = told.zero_before seen in
        let run : run_of_ones bits ≡ 6 = omega (arith, told.ones) in
        let ends : bits ≡ was.0 ++ flag_front = was.1 ∙ ap (λ n. was.0 ++ false ∷ replicate n true) run in
        let none : [] ≡ content = cc in (
          was.0,
          [],
          ap (λ xs. xs ++ false ∷ []) ends ∙ append_assoc was.0 flag_front (false ∷ [])
              ∙ sym (append-nil (was.0 ++ flag)),
          subst (Raw 0 []) none raw_opened,
        )

    more : 5 ≤ line.ones → (line.ones ≡ 5 → ⊥) → (content : List Bool) → After content → Since content
    more least other content e =
        let rest = sym (cond-false _ _ _ (le-ltb line.ones 5 least) ∙ cond-false _ _ _ (ne_eqb line.ones 5 other))
        ∙ e in
        elim (cases_Bool (eqb line.ones 6 && line.after_zero)) [
          | inl both ↦
              let parts = and_parts (eqb line.ones 6) line.after_zero both in
              opened content (eqb-true line.ones 6 parts.0) parts.1 (sym (cond-true _ _ _ both) ∙ rest)
          | inr either ↦ none_is_some content (sym (cond-false _ _ _ either) ∙ rest)
        ]

    since : (content : List Bool) → After content → Since content
    since content e =
        elim (cases_lt line.ones 5) [
          | inl below ↦ fewer below content e
          | inr least ↦ elim (cases_eq line.ones 5)
              [ inl at_five ↦ inserted at_five content e | inr other ↦ more least other content e ]
        ]

told_next : (line : Line) (bits : List Bool) (bit : Bool) → Told line bits
    → Told (next_line line bit) (bits ++ bit ∷ [])
told_next line bits true told = told_one line bits told
told_next line bits false told = told_zero line bits told

told_new : Told new_line []
told_new = record {
  ones = refl;
  zero_before = λ seen. absurd (false≢true seen);
  since_flag = λ content e. none_is_some content e;
}

told_fold : (more : List Bool) (line : Line) (bits : List Bool) → Told line bits
    → Told (fold next_line line more) (bits ++ more)
told_fold [] line bits told = subst (Told line) (sym (append-nil bits)) told
told_fold (bit ∷ more) line bits told =
    subst (Told (fold next_line (next_line line bit) more)) (append_assoc bits (bit ∷ []) more)
    (told_fold more (next_line line bit) (bits ++ bit ∷ []) (told_next line bits bit told))

-- The line after bits tells their run of 1s, whether a 0 stands before it, and what came since the last flag.
pub told_after : (bits : List Bool) → Told (line_after bits) bits
unfolding line_after
told_after bits = told_fold bits new_line [] told_new
