-- Lines, one more at a time.
use Rattle.tnc_forms.proofs.Common.{◌≡◌, ℕ, ◌+◌, ◌<◌, Bool, cond, false, true≢false, List, [], ◌∷◌, length, take, drop}
use Rattle.tnc_forms.proofs.Common.{Some, None, inl, inr, refl, sym, ap, ◌∙◌, arith, lt-ltb, le-ltb, is_some, cases_lt}
use Rattle.tnc_forms.proofs.Common.{length-take-le, position, All, strip_carriage_return, slice_split_none}
use Rattle.tnc_forms.proofs.Common.{length-slice_split, lines_from, is_line_feed, parts_of, lines_at}
use Rattle.std.proofs.lemmas.List.{drop-drop}
use Rattle.std.proofs.lemmas.List.Sums.{fails_before_first}
use Rattle.std.specs.List.{position_or_len}
use Rattle.std.proofs.lemmas.List.Splits.{slice_split_first}

some_is_not_none : (n : ℕ) → Some n ≡ None → ⊥
some_is_not_none n e = true≢false (ap is_some e)

place_following : (place size : ℕ) → place + (size + 1) ≡ place + size + 1
place_following place size = omega arith

-- one part, and more parts after it
pub lines_from-cons : (place : ℕ) (part : List ℕ) (parts : List (List ℕ)) → 0 < length parts
    → lines_from place (part ∷ parts) ≡ record { place = place; text = strip_carriage_return part }
    ∷ lines_from (place + length part + 1) parts
lines_from-cons place part [] some = absurd (omega arith)
lines_from-cons place part (next ∷ parts) some = refl

module _ (p : ℕ → Bool) (xs : List ℕ) where
  -- where a search found a place
  found_at : (n : ℕ) → Some n ≡ position p xs → (n ≡ position_or_len p xs) × (n < length xs)
  found_at n found = elim (cases_lt (position_or_len p xs) (length xs)) [
    | inl there ↦
        let at : Some n ≡ Some (position_or_len p xs) = found
        ∙ ap (λ b. cond b (Some (position_or_len p xs)) None) (lt-ltb (position_or_len p xs) (length xs) there) in
        let same : n ≡ position_or_len p xs = cc in
        (same, omega arith)
    | inr past ↦
        let none : Some n ≡ None = found ∙ ap (λ b. cond b (Some (position_or_len p xs)) None)
        (le-ltb (position_or_len p xs) (length xs) past) in
        absurd (some_is_not_none n none)
  ]

  -- if it found none
  pub none_passes : None ≡ position p xs → All (λ x. p x ≡ false) xs
  none_passes found = elim (cases_lt (position_or_len p xs) (length xs)) [
    | inl there ↦
        let some : Some (position_or_len p xs) ≡ None =
        sym (found ∙ ap (λ b. cond b (Some (position_or_len p xs)) None)
        (lt-ltb (position_or_len p xs) (length xs) there)) in
        absurd (some_is_not_none (position_or_len p xs) some)
    | inr past ↦ λ k d below. fails_before_first p xs k d (omega arith)
  ]

-- the line before a line feed
pub line_before : (input : List ℕ) (place size : ℕ) → Some size ≡ position is_line_feed (drop place input)
    → lines_at input place ≡ record { place = place; text = strip_carriage_return (take size (drop place input)) }
    ∷ lines_at input (place + size + 1)
line_before input place size found =
    let rest : List ℕ = drop place input in
    let there = found_at is_line_feed rest size found in
    let first = position_or_len is_line_feed rest in
    let cut : parts_of rest ≡ take first rest ∷ parts_of (drop (first + 1) rest) =
    slice_split_first is_line_feed rest 0 (omega (arith, there.0, there.1)) in
    let sized : length (take size rest) ≡ size = length-take-le size rest (omega (arith, there.1)) in
    let following : drop (size + 1) rest ≡ drop (place + size + 1) input =
    drop-drop (size + 1) place input ∙ ap (λ n. drop n input) (place_following place size) in
    ap (lines_from place) (cut ∙ ap (λ n. take n rest ∷ parts_of (drop (n + 1) rest)) (sym there.0))
    ∙ lines_from-cons place (take size rest) (parts_of (drop (size + 1) rest))
    (omega (arith, length-slice_split is_line_feed (drop (size + 1) rest)))
    ∙ ap (λ n. record { place = place; text = strip_carriage_return (take size rest) }
    ∷ lines_from (place + n + 1) (parts_of (drop (size + 1) rest))) sized
    ∙ ap (λ octets. record { place = place; text = strip_carriage_return (take size rest) }
    ∷ lines_from (place + size + 1) (parts_of octets)) following

-- the line at the end
pub line_at_end : (input : List ℕ) (place : ℕ) → None ≡ position is_line_feed (drop place input)
    → lines_at input place ≡ record { place = place; text = drop place input } ∷ []
line_at_end input place found =
    ap (lines_from place) (slice_split_none is_line_feed (drop place input)
    (none_passes is_line_feed (drop place input) found))
