-- The frames of lines, one line more at a time.
use Rattle.tnc_forms.proofs.Common.{◌≡◌, ℕ, ◌+◌, ◌<◌, ◌≤◌, cond, Bool, true, false, List, [], ◌∷◌, ◌++◌, length}
use Rattle.tnc_forms.proofs.Common.{append_assoc, Option, Some, None, refl, sym, ap, subst, ◌∙◌, arith, is_some}
use Rattle.tnc_forms.proofs.Common.{append-nil, All-cons, All-nil, IsBytes, LineFlaw, LineText, Nothing, Frame, Refused}
use Rattle.tnc_forms.proofs.Common.{Line, lines_at, lines_of, HasGoodLength, text_of, fault_in, fault_of, frame_in}
use Rattle.tnc_forms.proofs.Common.{frame_of, frames_in_lines, frames_of_lines, line_fault, fault_of_lines}
use Rattle.std.proofs.Common.{not, All, IfSome}
use Rattle.std.specs.Prelude.{find, option_and_then, suc, take, take_while}
use Rattle.std.specs.List.{cons_option, filter_map, prefix_len}
use Rattle.tnc_forms.specs.HexLines.{lines_after}
use Rattle.tnc_forms.specs.HexFrames.{is_bad}
use Rattle.tnc_forms.proofs.LineTextLemmas.{IsWithin, text_of-within}

module _ {X : Type 0} (p : X → Bool) (x : X) (xs : List X) where
  -- what is taken from the front on goes on with an element that passes, and ends before one that does not
  take_while-yes : p x ≡ true → take_while p (x ∷ xs) ≡ x ∷ take_while p xs
  take_while-yes e =
      let more : 1 + prefix_len p xs ≡ suc (prefix_len p xs) = omega arith in
      ap (λ b. take (cond b (1 + prefix_len p xs) 0) (x ∷ xs)) e ∙ ap (λ n. take n (x ∷ xs)) more

  take_while-no : p x ≡ false → take_while p (x ∷ xs) ≡ []
  take_while-no e = ap (λ b. take (cond b (1 + prefix_len p xs) 0) (x ∷ xs)) e

module _ (least : ℕ) (line : Line) (lines : List Line) where
  -- a line that holds nothing
  pub frames-nothing : text_of least line.text ≡ Nothing → frames_of_lines least (line ∷ lines)
      ≡ frames_of_lines least lines
  frames-nothing is =
      ap (filter_map (frame_of least)) (take_while-yes (λ l. not (is_bad least l)) line lines
      (ap (λ t. not (is_some (fault_in line.place t))) is))
      ∙ ap (λ t. cons_option (frame_in t) (frames_of_lines least lines)) is

  pub fault-nothing : text_of least line.text ≡ Nothing → fault_of_lines least (line ∷ lines)
      ≡ fault_of_lines least lines
  fault-nothing is = ap (λ t. option_and_then (fault_of least)
      (cond (is_some (fault_in line.place t)) (Some line) (find (is_bad least) lines))) is

  -- a line that holds a frame
  pub frames-frame : (octets : List ℕ) → text_of least line.text ≡ Frame octets
      → frames_of_lines least (line ∷ lines) ≡ octets ∷ frames_of_lines least lines
  frames-frame octets is =
      ap (filter_map (frame_of least)) (take_while-yes (λ l. not (is_bad least l)) line lines
      (ap (λ t. not (is_some (fault_in line.place t))) is))
      ∙ ap (λ t. cons_option (frame_in t) (frames_of_lines least lines)) is

  pub fault-frame : (octets : List ℕ) → text_of least line.text ≡ Frame octets
      → fault_of_lines least (line ∷ lines) ≡ fault_of_lines least lines
  fault-frame octets is = ap (λ t. option_and_then (fault_of least)
      (cond (is_some (fault_in line.place t)) (Some line) (find (is_bad least) lines))) is

  -- a bad line
  pub frames-bad : (flaw : LineFlaw) (at : ℕ) → text_of least line.text ≡ Refused flaw at
      → frames_of_lines least (line ∷ lines) ≡ []
  frames-bad flaw at is =
      ap (filter_map (frame_of least)) (take_while-no (λ l. not (is_bad least l)) line lines
      (ap (λ t. not (is_some (fault_in line.place t))) is))

  pub fault-bad : (flaw : LineFlaw) (at : ℕ) → text_of least line.text ≡ Refused flaw at
      → fault_of_lines least (line ∷ lines) ≡ Some (record { flaw = flaw; place = line.place + at })
  fault-bad flaw at is =
      ap (λ t. option_and_then (fault_of least) (cond (is_some (fault_in line.place t)) (Some line)
      (find (is_bad least) lines))) is
      ∙ ap (fault_in line.place) is

-- each frame of an input has a good length, and is octets
abbrev pub IsGood : ℕ → List ℕ → Type 0
IsGood least octets = HasGoodLength least octets × IsBytes octets

module _ (least : ℕ) (line : Line) (lines : List Line) (rest : All (IsGood least) (frames_of_lines least lines)) where
  good-cons : (text : LineText) → text_of least line.text ≡ text → IsWithin least line.text (text_of least line.text)
      → All (IsGood least) (frames_of_lines least (line ∷ lines))
  good-cons Nothing is within = subst (All (IsGood least)) (sym (frames-nothing least line lines is)) rest
  good-cons (Frame octets) is within =
      subst (All (IsGood least)) (sym (frames-frame least line lines octets is))
      (All-cons (IsGood least) octets (frames_of_lines least lines) (subst (IsWithin least line.text) is within) rest)
  good-cons (Refused flaw at) is within = subst (All (IsGood least)) (sym (frames-bad least line lines flaw at is))
      (All-nil (IsGood least))

frames_of_lines-good : (least : ℕ) (lines : List Line) → All (IsGood least) (frames_of_lines least lines)
frames_of_lines-good least [] = All-nil (IsGood least)
frames_of_lines-good least (line ∷ lines) =
    good-cons least line lines (frames_of_lines-good least lines) (text_of least line.text) refl
    (text_of-within least line.text)

pub frames_in_lines-good : (least : ℕ) (input : List ℕ) → All (IsGood least) (frames_in_lines least input)
unfolding frames_in_lines
frames_in_lines-good least input = frames_of_lines-good least (lines_of input)

-- the frames so far, the lines that are left, and nothing bad yet
pub record HasReadLines (least : ℕ) (input : List ℕ) (frames : List (List ℕ)) (place : Option ℕ) : Type 0 where
  pub frames_so_far : frames ++ frames_of_lines least (lines_after input place) ≡ frames_in_lines least input
  pub fault_so_far : fault_of_lines least (lines_after input place) ≡ line_fault least input
  pub within : IfSome place (λ at. at ≤ length input)

pub has_read_none : (least : ℕ) (input : List ℕ) (frames : List (List ℕ)) → frames ≡ []
    → HasReadLines least input frames (Some 0)
unfolding frames_in_lines line_fault
has_read_none least input frames none = record {
  frames_so_far = ap (λ fs. fs ++ frames_of_lines least (lines_of input)) none;
  fault_so_far = refl;
  within = omega arith;
}

if_within : (next : Option ℕ) (at size : ℕ) → IfSome next (λ n. (at < n) × (n ≤ size)) → IfSome next (λ n. n ≤ size)
if_within None at size h = h
if_within (Some n) at size h = h.1

module _ (least : ℕ) (input : List ℕ) (frames : List (List ℕ)) (place next : Option ℕ) (at : ℕ) (text : List ℕ)
    (h : HasReadLines least input frames place) (here : place ≡ Some at)
    (cut : lines_at input at ≡ record { place = at; text = text } ∷ lines_after input next) where
  cut_here : lines_after input place ≡ record { place = at; text = text } ∷ lines_after input next
  cut_here = ap (lines_after input) here ∙ cut

  -- one line more that holds nothing
  pub read_nothing : IfSome next (λ n. (at < n) × (n ≤ length input)) → text_of least text ≡ Nothing
      → HasReadLines least input frames next
  read_nothing bound is = record {
    frames_so_far = ap (λ fs. frames ++ fs) (sym (ap (frames_of_lines least) cut_here
        ∙ frames-nothing least (record { place = at; text = text }) (lines_after input next) is)) ∙ h.frames_so_far;
    fault_so_far = sym (ap (fault_of_lines least) cut_here
        ∙ fault-nothing least (record { place = at; text = text }) (lines_after input next) is) ∙ h.fault_so_far;
    within = if_within next at (length input) bound;
  }

  -- one that holds a frame
  pub read_frame : (octets : List ℕ) → IfSome next (λ n. (at < n) × (n ≤ length input))
      → text_of least text ≡ Frame octets → HasReadLines least input (frames ++ octets ∷ []) next
  read_frame octets bound is = record {
    frames_so_far =
        append_assoc frames (octets ∷ []) (frames_of_lines least (lines_after input next))
        ∙ ap (λ fs. frames ++ fs) (sym (ap (frames_of_lines least) cut_here
        ∙ frames-frame least (record { place = at; text = text }) (lines_after input next) octets is))
        ∙ h.frames_so_far;
    fault_so_far = sym (ap (fault_of_lines least) cut_here
        ∙ fault-frame least (record { place = at; text = text }) (lines_after input next) octets is) ∙ h.fault_so_far;
    within = if_within next at (length input) bound;
  }

  -- a bad one
  pub read_bad : (flaw : LineFlaw) (offset : ℕ) → text_of least text ≡ Refused flaw offset
      → (frames ≡ frames_in_lines least input) × (Some (record { flaw = flaw; place = at + offset })
      ≡ line_fault least input) × (offset ≤ length text)
  read_bad flaw offset is = (
    sym (append-nil frames)
        ∙ ap (λ fs. frames ++ fs) (sym (ap (frames_of_lines least) cut_here
        ∙ frames-bad least (record { place = at; text = text }) (lines_after input next) flaw offset is))
        ∙ h.frames_so_far,
    sym (ap (fault_of_lines least) cut_here ∙ fault-bad least (record { place = at; text = text })
        (lines_after input next) flaw offset is) ∙ h.fault_so_far,
    subst (IsWithin least text) is (text_of-within least text),
  )
