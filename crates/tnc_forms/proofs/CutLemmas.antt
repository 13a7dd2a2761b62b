-- The lines of octets that go on.
use Rattle.tnc_forms.proofs.Common.{◌≡◌, ℕ, ◌+◌, ◌-◌, ◌<◌, ◌≤◌, ◌==◌, Bool, true, false, List, [], ◌∷◌, ◌++◌, length}
use Rattle.tnc_forms.proofs.Common.{length-append, take, drop, get_or, append_assoc, Some, refl, sym, subst, ap, ◌∙◌}
use Rattle.tnc_forms.proofs.Common.{arith, lt-ltb, if◌then◌else◌, All, position, strip_carriage_return, append-nil}
use Rattle.tnc_forms.proofs.Common.{length-take-le, take-append-drop, All-cons, All-nil, slice_split_none}
use Rattle.tnc_forms.proofs.Common.{length-slice_split, Line, ended_of, is_line_feed, lines_from, lines_of, parts_of}
use Rattle.tnc_forms.proofs.Common.{known_of}
use Rattle.std.specs.Prelude.{slice_index}
use Rattle.std.proofs.lemmas.List.{drop_more, get_or-take}
use Rattle.std.proofs.lemmas.List.Elements.{All-append}
use Rattle.std.proofs.lemmas.List.Quantifiers.{position-Some}
use Rattle.std.proofs.lemmas.List.Splits.{slice_split_at}
use Rattle.tnc_forms.proofs.LineLemmas.{lines_from-cons}

-- octets of one line
abbrev pub IsInside : List ℕ → Type 0
IsInside octets = All (λ octet. is_line_feed octet ≡ false) octets

pub inside_none : IsInside []
inside_none = All-nil (λ octet. is_line_feed octet ≡ false)

pub inside_more : (octets more : List ℕ) → IsInside octets → IsInside more → IsInside (octets ++ more)
inside_more octets more = All-append (λ octet. is_line_feed octet ≡ false) octets more

-- the octets before the first line feed
pub first_inside : (octets : List ℕ) (size : ℕ) → Some size ≡ position is_line_feed octets
    → IsInside (take size octets) × (octets ≡ take size octets ++ get_or octets size 0 ∷ drop (size + 1) octets)
    × (is_line_feed (get_or octets size 0) ≡ true) × (size < length octets)
first_inside octets size found =
    let at = position-Some is_line_feed octets size 0 (sym found) in
    let below : size < length octets = at.0 in
    let sized : length (take size octets) ≡ size = length-take-le size octets (omega (arith, below)) in (
      λ k d inside.
          subst (λ o. is_line_feed o ≡ false) (sym (get_or-take size octets k d (omega (arith, inside, sized))))
          ((position-Some is_line_feed octets size d (sym found)).2 k (omega (arith, inside, sized))),
      sym (take-append-drop size octets) ∙ ap (λ xs. take size octets ++ xs) (drop_more octets size 0 below),
      at.1,
      below,
    )

-- ---- a carriage return

pub strip_size : (octets : List ℕ) → (length (strip_carriage_return octets) ≤ length octets)
    × (length octets ≤ length (strip_carriage_return octets) + 1)
strip_size octets = go (slice_index octets (length octets - 1) == 13)
  where
    go : (b : Bool) → (length (if b then take (length octets - 1) octets else octets) ≤ length octets)
        × (length octets ≤ length (if b then take (length octets - 1) octets else octets) + 1)
    go true = let sized = length-take-le (length octets - 1) octets (omega arith) in
        (omega (arith, sized), omega (arith, sized))
    go false = (omega arith, omega arith)

-- a longer line has no fewer octets without a carriage return
pub strip_more : (octets : List ℕ) (octet : ℕ) → length (strip_carriage_return octets)
    ≤ length (strip_carriage_return (octets ++ octet ∷ []))
strip_more octets octet =
    let a = strip_size octets in
    let b = strip_size (octets ++ octet ∷ []) in
    let long = length-append octets (octet ∷ []) in
    omega (arith, a.0, b.1, long)

-- ---- lists of lines

pub ended_of_more : (ended : List Line) (first : Line) (rest : List Line)
    → ended_of (ended ++ first ∷ rest) ≡ ended ++ ended_of (first ∷ rest)
ended_of_more [] first rest = refl
ended_of_more (line ∷ []) first rest = refl
ended_of_more (line ∷ next ∷ ended) first rest = ap (λ lines. line ∷ lines) (ended_of_more (next ∷ ended) first rest)

pub known_of_more : (ended : List Line) (first : Line) (rest : List Line)
    → known_of (ended ++ first ∷ rest) ≡ ended ++ known_of (first ∷ rest)
known_of_more [] first rest = refl
known_of_more (line ∷ []) first rest = refl
known_of_more (line ∷ next ∷ ended) first rest = ap (λ lines. line ∷ lines) (known_of_more (next ∷ ended) first rest)

-- ---- lines from a place on

-- if no line feed is
pub lines_inside : (place : ℕ) (part : List ℕ) → IsInside part
    → lines_from place (parts_of part) ≡ record { place = place; text = part } ∷ []
lines_inside place part inside = ap (lines_from place) (slice_split_none is_line_feed part inside)

-- a line, its line feed, and what follows
pub lines_ended : (place : ℕ) (part : List ℕ) (feed : ℕ) (more : List ℕ) → IsInside part → is_line_feed feed ≡ true
    → lines_from place (parts_of (part ++ feed ∷ more)) ≡ record { place = place; text = strip_carriage_return part }
    ∷ lines_from (place + length part + 1) (parts_of more)
lines_ended place part feed more inside is =
    ap (lines_from place) (slice_split_at is_line_feed part feed more inside is)
    ∙ lines_from-cons place part (parts_of more) (omega (arith, length-slice_split is_line_feed more))

-- The first line from a place on, of octets that begin inside it, is at least as long.
pub record FirstLine (place : ℕ) (part octets : List ℕ) : Type 0 where
  pub first : Line
  pub rest : List Line
  pub cut : lines_from place (parts_of (part ++ octets)) ≡ first ∷ rest
  pub here : first.place ≡ place
  pub long : length (strip_carriage_return part) ≤ length first.text
  pub known : 2048 < length (strip_carriage_return part) → (others : List Line)
      × (known_of (first ∷ rest) ≡ first ∷ others)

pub first_line : (place : ℕ) (part octets : List ℕ) → IsInside part → FirstLine place part octets
first_line place part [] inside = record {
  first = record { place = place; text = part };
  rest = [];
  cut = ap (λ o. lines_from place (parts_of o)) (append-nil part) ∙ lines_inside place part inside;
  here = refl;
  long = (strip_size part).0;
  known = λ over. (
    [],
    ap (λ b. if b then record { place = place; text = part } ∷ [] else [])
        (lt-ltb 2048 (length (strip_carriage_return part)) over),
  );
}
first_line place part (octet ∷ octets) inside =
    by_octet (is_line_feed octet) refl (first_line (place + length part + 1) [] octets inside_none)
    (λ other. first_line place (part ++ octet ∷ []) octets
    (inside_more part (octet ∷ []) inside (All-cons (λ o. is_line_feed o ≡ false) octet [] other inside_none)))
  where
    by_octet : (b : Bool) → is_line_feed octet ≡ b → FirstLine (place + length part + 1) [] octets
        → (is_line_feed octet ≡ false → FirstLine place (part ++ octet ∷ []) octets)
        → FirstLine place part (octet ∷ octets)
    by_octet true is next same = record {
      first = record { place = place; text = strip_carriage_return part };
      rest = next.first ∷ next.rest;
      cut = lines_ended place part octet octets inside is
          ∙ ap (λ lines. record { place = place; text = strip_carriage_return part } ∷ lines) next.cut;
      here = refl;
      long = omega arith;
      known = λ over. (known_of (next.first ∷ next.rest), refl);
    }
    by_octet false is next same =
        let h = same is in
        let longer = strip_more part octet in
        record {
          first = h.first;
          rest = h.rest;
          cut = ap (λ o. lines_from place (parts_of o)) (sym (append_assoc part (octet ∷ []) octets)) ∙ h.cut;
          here = h.here;
          long = omega (arith, longer, h.long);
          known = λ over. h.known (omega (arith, longer, over));
        }

-- Octets are lines that have ended and the part of one that has not, whatever follows.
pub record CutFrom (start : ℕ) (before octets : List ℕ) : Type 0 where
  pub ended : List Line
  pub place : ℕ
  pub part : List ℕ
  pub inside : IsInside part
  pub cut : (more : List ℕ) → lines_from start (parts_of (before ++ (octets ++ more)))
      ≡ ended ++ lines_from place (parts_of (part ++ more))

pub cut_from : (start : ℕ) (before octets : List ℕ) → IsInside before → CutFrom start before octets
cut_from start before [] inside = record {
  ended = [];
  place = start;
  part = before;
  inside = inside;
  cut = λ more. refl;
}
cut_from start before (octet ∷ octets) inside =
    by_octet (is_line_feed octet) refl (cut_from (start + length before + 1) [] octets inside_none)
    (λ other. cut_from start (before ++ octet ∷ []) octets
    (inside_more before (octet ∷ []) inside (All-cons (λ o. is_line_feed o ≡ false) octet [] other inside_none)))
  where
    by_octet : (b : Bool) → is_line_feed octet ≡ b → CutFrom (start + length before + 1) [] octets
        → (is_line_feed octet ≡ false → CutFrom start (before ++ octet ∷ []) octets)
        → CutFrom start before (octet ∷ octets)
    by_octet true is next same = record {
      ended = record { place = start; text = strip_carriage_return before } ∷ next.ended;
      place = next.place;
      part = next.part;
      inside = next.inside;
      cut = λ more. lines_ended start before octet (octets ++ more) inside is
          ∙ ap (λ lines. record { place = start; text = strip_carriage_return before } ∷ lines) (next.cut more);
    }
    by_octet false is next same =
        let h = same is in
        record {
          ended = h.ended;
          place = h.place;
          part = h.part;
          inside = h.inside;
          cut = λ more. ap (λ o. lines_from start (parts_of o))
              (sym (append_assoc before (octet ∷ []) (octets ++ more))) ∙ h.cut more;
        }

-- ---- octets by their cut

module _ (octets : List ℕ) (ended : List Line) (place : ℕ) (part : List ℕ) (inside : IsInside part)
    (cut : (more : List ℕ) → lines_of (octets ++ more) ≡ ended ++ lines_from place (parts_of (part ++ more))) where
  pub lines_now : lines_of octets ≡ ended ++ record { place = place; text = part } ∷ []
  lines_now =
      ap (λ o. lines_of o) (sym (append-nil octets)) ∙ cut []
      ∙ ap (λ o. ended ++ lines_from place (parts_of o)) (append-nil part)
      ∙ ap (λ lines. ended ++ lines) (lines_inside place part inside)

  pub ended_now : ended_of (lines_of octets) ≡ ended
  ended_now = ap ended_of lines_now ∙ ended_of_more ended (record { place = place; text = part }) [] ∙ append-nil ended

  pub known_now : known_of (lines_of octets) ≡ ended ++ known_of (record { place = place; text = part } ∷ [])
  known_now = ap known_of lines_now ∙ known_of_more ended (record { place = place; text = part }) []
