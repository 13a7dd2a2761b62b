-- What is known of lines stays so, whatever follows.
use Rattle.tnc_forms.proofs.Common.{◌≡◌, ℕ, ◌+◌, ◌<◌, ◌==◌, nat_lt, Bool, true, false, List, [], ◌∷◌, ◌++◌, length}
use Rattle.tnc_forms.proofs.Common.{Option, Some, None, refl, sym, ap, ◌∙◌, arith, lt-ltb, true≢false, if◌then◌else◌}
use Rattle.tnc_forms.proofs.Common.{option_to_list, strip_carriage_return, append-nil, decode_of, InputFault, LineText}
use Rattle.tnc_forms.proofs.Common.{Nothing, Frame, Refused, LineFault, LineFlaw, LongLine, fault_in_line, hex_fault}
use Rattle.tnc_forms.proofs.Common.{fault_in, fault_of, fault_of_lines, frame_in, frame_of, frames_in_lines}
use Rattle.tnc_forms.proofs.Common.{frames_of_lines, line_fault, text_of, text_of_digits, Line, ended_of, lines_from}
use Rattle.tnc_forms.proofs.Common.{lines_of, parts_of, fault_so_far, frames_so_far, known_of}
use Rattle.std.proofs.Common.{ne_eqb}
use Rattle.std.proofs.lemmas.Bool.{ltb-true}
use Rattle.tnc_forms.specs.declared.fault.InputFault.TheVariants.{Line as BadLine}
use Rattle.tnc_forms.specs.LinesSoFar.{is_over}
use Rattle.tnc_forms.proofs.CutLemmas.{CutFrom, cut_from, ended_now, ended_of_more, first_line, inside_none, known_now}
use Rattle.tnc_forms.proofs.CutLemmas.{known_of_more, strip_size}
use Rattle.tnc_forms.proofs.HexFrameLemmas.{fault-bad, fault-frame, fault-nothing, frames-bad, frames-frame}
use Rattle.tnc_forms.proofs.HexFrameLemmas.{frames-nothing}

none_is_some : (fault : LineFault) → None ≡ Some fault → ⊥
none_is_some fault e = cc e

abbrev pub line_fault_at : LineFlaw → ℕ → LineFault
line_fault_at flaw place = record { flaw = flaw; place = place }

-- ---- lines in two parts

module _ (least : ℕ) (line : Line) (xs ys : List Line) where
  frames_join_cons : (text : LineText) → text_of least line.text ≡ text
      → (fault_of_lines least xs ≡ None → frames_of_lines least (xs ++ ys)
      ≡ frames_of_lines least xs ++ frames_of_lines least ys)
      → fault_of_lines least (line ∷ xs) ≡ None → frames_of_lines least (line ∷ (xs ++ ys))
      ≡ frames_of_lines least (line ∷ xs) ++ frames_of_lines least ys
  frames_join_cons Nothing is rest none =
      frames-nothing least line (xs ++ ys) is ∙ rest (sym (fault-nothing least line xs is) ∙ none)
      ∙ ap (λ fs. fs ++ frames_of_lines least ys) (sym (frames-nothing least line xs is))
  frames_join_cons (Frame octets) is rest none =
      frames-frame least line (xs ++ ys) octets is ∙ ap (λ fs. octets ∷ fs)
      (rest (sym (fault-frame least line xs octets is) ∙ none))
      ∙ ap (λ fs. fs ++ frames_of_lines least ys) (sym (frames-frame least line xs octets is))
  frames_join_cons (Refused flaw at) is rest none =
      absurd (none_is_some _ (sym none ∙ fault-bad least line xs flaw at is))

  fault_join_cons : (text : LineText) → text_of least line.text ≡ text
      → (fault_of_lines least xs ≡ None → fault_of_lines least (xs ++ ys) ≡ fault_of_lines least ys)
      → fault_of_lines least (line ∷ xs) ≡ None → fault_of_lines least (line ∷ (xs ++ ys)) ≡ fault_of_lines least ys
  fault_join_cons Nothing is rest none = fault-nothing least line (xs ++ ys) is
      ∙ rest (sym (fault-nothing least line xs is) ∙ none)
  fault_join_cons (Frame octets) is rest none = fault-frame least line (xs ++ ys) octets is
      ∙ rest (sym (fault-frame least line xs octets is) ∙ none)
  fault_join_cons (Refused flaw at) is rest none =
      absurd (none_is_some _ (sym none ∙ fault-bad least line xs flaw at is))

  bad_join_cons : (fault : LineFault) (text : LineText) → text_of least line.text ≡ text
      → (fault_of_lines least xs ≡ Some fault → (frames_of_lines least (xs ++ ys) ≡ frames_of_lines least xs)
      × (fault_of_lines least (xs ++ ys) ≡ Some fault))
      → fault_of_lines least (line ∷ xs) ≡ Some fault
      → (frames_of_lines least (line ∷ (xs ++ ys)) ≡ frames_of_lines least (line ∷ xs))
      × (fault_of_lines least (line ∷ (xs ++ ys)) ≡ Some fault)
  bad_join_cons fault Nothing is rest some =
      let h = rest (sym (fault-nothing least line xs is) ∙ some) in (
        frames-nothing least line (xs ++ ys) is ∙ h.0 ∙ sym (frames-nothing least line xs is),
        fault-nothing least line (xs ++ ys) is ∙ h.1,
      )
  bad_join_cons fault (Frame octets) is rest some =
      let h = rest (sym (fault-frame least line xs octets is) ∙ some) in (
        frames-frame least line (xs ++ ys) octets is ∙ ap (λ fs. octets ∷ fs) h.0
            ∙ sym (frames-frame least line xs octets is),
        fault-frame least line (xs ++ ys) octets is ∙ h.1,
      )
  bad_join_cons fault (Refused flaw at) is rest some = (
    frames-bad least line (xs ++ ys) flaw at is ∙ sym (frames-bad least line xs flaw at is),
    fault-bad least line (xs ++ ys) flaw at is ∙ sym (fault-bad least line xs flaw at is) ∙ some,
  )

-- after good lines
pub frames_join : (least : ℕ) (xs ys : List Line) → fault_of_lines least xs ≡ None
    → frames_of_lines least (xs ++ ys) ≡ frames_of_lines least xs ++ frames_of_lines least ys
frames_join least [] ys none = refl
frames_join least (line ∷ xs) ys none = frames_join_cons least line xs ys (text_of least line.text) refl
    (frames_join least xs ys) none

pub fault_join : (least : ℕ) (xs ys : List Line) → fault_of_lines least xs ≡ None
    → fault_of_lines least (xs ++ ys) ≡ fault_of_lines least ys
fault_join least [] ys none = refl
fault_join least (line ∷ xs) ys none = fault_join_cons least line xs ys (text_of least line.text) refl
    (fault_join least xs ys) none

-- after a bad one
pub bad_join : (least : ℕ) (xs ys : List Line) (fault : LineFault) → fault_of_lines least xs ≡ Some fault
    → (frames_of_lines least (xs ++ ys) ≡ frames_of_lines least xs) × (fault_of_lines least (xs ++ ys) ≡ Some fault)
bad_join least [] ys fault some = absurd (none_is_some fault some)
bad_join least (line ∷ xs) ys fault some = bad_join_cons least line xs ys fault (text_of least line.text) refl
    (bad_join least xs ys fault) some

-- ---- one line

pub one_frame : (least : ℕ) (line : Line) → fault_of least line ≡ None
    → frames_of_lines least (line ∷ []) ≡ option_to_list (frame_of least line)
one_frame least line = go (text_of least line.text) refl
  where
    go : (text : LineText) → text_of least line.text ≡ text → fault_of least line ≡ None
        → frames_of_lines least (line ∷ []) ≡ option_to_list (frame_of least line)
    go Nothing is none = frames-nothing least line [] is ∙ ap (λ t. option_to_list (frame_in t)) (sym is)
    go (Frame octets) is none = frames-frame least line [] octets is ∙ ap (λ t. option_to_list (frame_in t)) (sym is)
    go (Refused flaw at) is none = absurd (none_is_some _ (sym none ∙ ap (fault_in line.place) is))

pub one_fault : (least : ℕ) (line : Line) (more : List Line) → fault_of least line ≡ None
    → fault_of_lines least (line ∷ more) ≡ fault_of_lines least more
one_fault least line more = go (text_of least line.text) refl
  where
    go : (text : LineText) → text_of least line.text ≡ text → fault_of least line ≡ None
        → fault_of_lines least (line ∷ more) ≡ fault_of_lines least more
    go Nothing is none = fault-nothing least line more is
    go (Frame octets) is none = fault-frame least line more octets is
    go (Refused flaw at) is none = absurd (none_is_some _ (sym none ∙ ap (fault_in line.place) is))

pub one_bad : (least : ℕ) (line : Line) (more : List Line) (fault : LineFault) → fault_of least line ≡ Some fault
    → (frames_of_lines least (line ∷ more) ≡ []) × (fault_of_lines least (line ∷ more) ≡ Some fault)
one_bad least line more fault = go (text_of least line.text) refl
  where
    go : (text : LineText) → text_of least line.text ≡ text → fault_of least line ≡ Some fault
        → (frames_of_lines least (line ∷ more) ≡ []) × (fault_of_lines least (line ∷ more) ≡ Some fault)
    go Nothing is some = absurd (none_is_some fault (sym (ap (fault_in line.place) is) ∙ some))
    go (Frame octets) is some = absurd (none_is_some fault (sym (ap (fault_in line.place) is) ∙ some))
    go (Refused flaw at) is some = (
      frames-bad least line more flaw at is,
      fault-bad least line more flaw at is
          ∙ sym (ap (fault_in line.place) is) ∙ some,
    )

-- a line with too many octets
long_text : (least : ℕ) (text : List ℕ) → 2048 < length text → text_of least text ≡ Refused LongLine 0
unfolding text_of
long_text least text long = go (length text == 0) (nat_lt 2048 (length text))
    (ne_eqb (length text) 0 (λ e. omega (arith, e, long))) (lt-ltb 2048 (length text) long)
  where
    go : (none over : Bool) → none ≡ false → over ≡ true
        → (if none then Nothing else if over then Refused LongLine 0 else text_of_digits least (decode_of text))
        ≡ Refused LongLine 0
    go false true a b = refl
    go true over a b = absurd (true≢false a)
    go false false a b = absurd (true≢false (sym b))

place_there : (place : ℕ) → Some (line_fault_at LongLine (place + 0)) ≡ Some (line_fault_at LongLine place)
place_there place = ap (λ n. Some (line_fault_at LongLine n)) (omega arith)

pub long_fault : (least : ℕ) (line : Line) → 2048 < length line.text
    → fault_of least line ≡ Some (line_fault_at LongLine line.place)
long_fault least line long = ap (fault_in line.place) (long_text least line.text long) ∙ place_there line.place

-- ---- octets that go on

pub fault_none : (found : Option LineFault) → fault_in_line found ≡ None → found ≡ None
fault_none None e = refl
fault_none (Some fault) e = cc e

pub fault_some : (found : Option LineFault) (fault : InputFault) → fault_in_line found ≡ Some fault
    → (line : LineFault) × (found ≡ Some line) × (Some (BadLine line) ≡ Some fault)
fault_some None fault e = cc e
fault_some (Some line) fault e = (line, refl, e)

-- the form of lines, of octets that go on
module _ (least : ℕ) (octets : List ℕ) where
  the_cut : CutFrom 0 [] octets
  the_cut = cut_from 0 [] octets inside_none

  abbrev last_line : Line
  last_line = record { place = the_cut.place; text = the_cut.part }

  lines_more : (more : List ℕ) → lines_of (octets ++ more)
      ≡ the_cut.ended ++ lines_from the_cut.place (parts_of (the_cut.part ++ more))
  lines_more = the_cut.cut

  frames_here : frames_so_far least octets ≡ frames_of_lines least the_cut.ended
  unfolding frames_so_far
  frames_here = ap (frames_of_lines least)
      (ended_now octets the_cut.ended the_cut.place the_cut.part the_cut.inside the_cut.cut)

  fault_here : fault_so_far least octets ≡ fault_in_line
      (fault_of_lines least (the_cut.ended ++ known_of (last_line ∷ [])))
  unfolding fault_so_far
  fault_here = ap (λ lines. fault_in_line (fault_of_lines least lines))
      (known_now octets the_cut.ended the_cut.place the_cut.part the_cut.inside the_cut.cut)

  good_ended : fault_so_far least octets ≡ None → fault_of_lines least the_cut.ended ≡ None
  good_ended none = go (fault_of_lines least the_cut.ended) refl
    where
      go : (found : Option LineFault) → fault_of_lines least the_cut.ended ≡ found
          → fault_of_lines least the_cut.ended ≡ None
      go None is = is
      go (Some bad) is =
          let still = (bad_join least the_cut.ended (known_of (last_line ∷ [])) bad is).1 in
          absurd (none_is_some bad (sym (fault_none _ (sym fault_here ∙ none)) ∙ still))

  module _ (more : List ℕ) where
    -- no line is bad yet: the frames so far are the first
    pub frames_whole : fault_so_far least octets ≡ None → (frames : List (List ℕ))
        × (frames_in_lines least (octets ++ more) ≡ frames_so_far least octets ++ frames)
    unfolding frames_in_lines
    frames_whole none =
        let rest = lines_from the_cut.place (parts_of (the_cut.part ++ more)) in (
          frames_of_lines least rest,
          ap (frames_of_lines least) (lines_more more) ∙ frames_join least the_cut.ended rest (good_ended none)
              ∙ ap (λ fs. fs ++ frames_of_lines least rest) (sym frames_here),
        )

    -- one is: nothing more comes
    abbrev StaysBad : InputFault → Type 0
    StaysBad fault =
        (fault_so_far least (octets ++ more) ≡ Some fault) × (hex_fault least (octets ++ more) ≡ Some fault)
        × (frames_so_far least (octets ++ more) ≡ frames_so_far least octets)
        × (frames_in_lines least (octets ++ more) ≡ frames_so_far least octets)

    -- among the lines that have ended
    bad_ended : (bad : LineFault) (fault : InputFault) → fault_of_lines least the_cut.ended ≡ Some bad
        → Some (BadLine bad) ≡ Some fault → StaysBad fault
    unfolding frames_so_far fault_so_far frames_in_lines line_fault
    bad_ended bad fault is same =
        let next = first_line the_cut.place the_cut.part more the_cut.inside in
        let lines : lines_of (octets ++ more) ≡ the_cut.ended ++ next.first ∷ next.rest = lines_more more
        ∙ ap (λ ls. the_cut.ended ++ ls) next.cut in
        let known : known_of (lines_of (octets ++ more)) ≡ the_cut.ended ++ known_of (next.first ∷ next.rest) =
        ap known_of lines ∙ known_of_more the_cut.ended next.first next.rest in
        let ended : ended_of (lines_of (octets ++ more)) ≡ the_cut.ended ++ ended_of (next.first ∷ next.rest) =
        ap ended_of lines ∙ ended_of_more the_cut.ended next.first next.rest in
        let here : frames_of_lines least the_cut.ended ≡ frames_of_lines least (ended_of (lines_of octets)) =
        sym frames_here in (
          ap (λ ls. fault_in_line (fault_of_lines least ls)) known
              ∙ ap fault_in_line (bad_join least the_cut.ended (known_of (next.first ∷ next.rest)) bad is).1 ∙ same,
          ap (λ ls. fault_in_line (fault_of_lines least ls)) lines
              ∙ ap fault_in_line (bad_join least the_cut.ended (next.first ∷ next.rest) bad is).1 ∙ same,
          ap (frames_of_lines least) ended ∙ (bad_join least the_cut.ended (ended_of (next.first ∷ next.rest)) bad is).0
              ∙ here,
          ap (frames_of_lines least) lines ∙ (bad_join least the_cut.ended (next.first ∷ next.rest) bad is).0 ∙ here,
        )

    -- or the last line, for its length
    bad_last : (fault : InputFault) → fault_of_lines least the_cut.ended ≡ None
        → 2048 < length (strip_carriage_return the_cut.part)
        → Some (BadLine (line_fault_at LongLine the_cut.place)) ≡ Some fault → StaysBad fault
    unfolding frames_so_far fault_so_far frames_in_lines line_fault
    bad_last fault none over same =
        let next = first_line the_cut.place the_cut.part more the_cut.inside in
        let others = next.known over in
        let lines : lines_of (octets ++ more) ≡ the_cut.ended ++ next.first ∷ next.rest = lines_more more
        ∙ ap (λ ls. the_cut.ended ++ ls) next.cut in
        let known : known_of (lines_of (octets ++ more)) ≡ the_cut.ended ++ next.first ∷ others.0 =
        ap known_of lines ∙ known_of_more the_cut.ended next.first next.rest
        ∙ ap (λ ls. the_cut.ended ++ ls) others.1 in
        let bad : fault_of least next.first ≡ Some (line_fault_at LongLine the_cut.place) =
        long_fault least next.first (omega (arith, over, next.long))
        ∙ ap (λ n. Some (line_fault_at LongLine n)) next.here in
        let here : frames_of_lines least the_cut.ended ≡ frames_of_lines least (ended_of (lines_of octets)) =
        sym frames_here in (
          ap (λ ls. fault_in_line (fault_of_lines least ls)) known
              ∙ ap fault_in_line (fault_join least the_cut.ended (next.first ∷ others.0) none)
              ∙ ap fault_in_line (one_bad least next.first others.0 _ bad).1 ∙ same,
          ap (λ ls. fault_in_line (fault_of_lines least ls)) lines
              ∙ ap fault_in_line (fault_join least the_cut.ended (next.first ∷ next.rest) none)
              ∙ ap fault_in_line (one_bad least next.first next.rest _ bad).1 ∙ same,
          ended_frames next.first next.rest bad lines none ∙ here,
          ap (frames_of_lines least) lines ∙ frames_join least the_cut.ended (next.first ∷ next.rest) none
              ∙ ap (λ fs. frames_of_lines least the_cut.ended ++ fs) (one_bad least next.first next.rest _ bad).0
              ∙ append-nil _ ∙ here,
        )
      where
        ended_frames : (first : Line) (rest : List Line) → fault_of least first
            ≡ Some (line_fault_at LongLine the_cut.place)
            → lines_of (octets ++ more) ≡ the_cut.ended ++ first ∷ rest → fault_of_lines least the_cut.ended ≡ None
            → frames_of_lines least (ended_of (lines_of (octets ++ more))) ≡ frames_of_lines least the_cut.ended
        ended_frames first [] bad cut good =
            ap (λ ls. frames_of_lines least (ended_of ls)) cut
            ∙ ap (frames_of_lines least) (ended_of_more the_cut.ended first [] ∙ append-nil the_cut.ended)
        ended_frames first (second ∷ rest) bad cut good =
            ap (λ ls. frames_of_lines least (ended_of ls)) cut
            ∙ ap (frames_of_lines least) (ended_of_more the_cut.ended first (second ∷ rest))
            ∙ frames_join least the_cut.ended (first ∷ ended_of (second ∷ rest)) good
            ∙ ap (λ fs. frames_of_lines least the_cut.ended ++ fs)
            (one_bad least first (ended_of (second ∷ rest)) _ bad).0 ∙ append-nil _

    pub stays : (fault : InputFault) → fault_so_far least octets ≡ Some fault → StaysBad fault
    stays fault is = go (fault_of_lines least the_cut.ended) refl
      where
        over_line : (b : Bool) → is_over last_line ≡ b → fault_of_lines least the_cut.ended ≡ None
            → fault_in_line (fault_of_lines least (if b then last_line ∷ [] else [])) ≡ Some fault → StaysBad fault
        over_line true over none bad =
            let long : 2048 < length (strip_carriage_return the_cut.part) = ltb-true _ _ over in
            let size = strip_size the_cut.part in
            bad_last fault none long
            (sym (ap fault_in_line (one_bad least last_line [] _
            (long_fault least last_line (omega (arith, long, size.0)))).1) ∙ bad)
        over_line false over none bad = cc bad

        go : (found : Option LineFault) → fault_of_lines least the_cut.ended ≡ found → StaysBad fault
        go (Some bad) e =
            bad_ended bad fault e
            (sym (ap fault_in_line (bad_join least the_cut.ended (known_of (last_line ∷ [])) bad e).1)
            ∙ sym fault_here ∙ is)
        go None e =
            over_line (is_over last_line) refl e
            (sym (ap fault_in_line (fault_join least the_cut.ended (known_of (last_line ∷ [])) e)) ∙ sym fault_here
            ∙ is)

-- of no octet nothing is known
pub frames_none : (least : ℕ) → frames_so_far least [] ≡ []
unfolding frames_so_far
frames_none least = refl

pub fault_none_yet : (least : ℕ) → fault_so_far least [] ≡ None
unfolding fault_so_far
fault_none_yet least = refl
