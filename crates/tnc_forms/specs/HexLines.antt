-- The lines of an input: it is cut at each line feed, which belongs to no line, and neither does a carriage return
-- right before it. A carriage return at the very end of the input is an octet of its line.
use Rattle.std.specs.Prelude.{ℕ, ◌+◌, ◌==◌, Bool, List, [], ◌∷◌, drop, length, Option}
use Rattle.std.specs.List.{slice_split}
use Rattle.std.specs.Option.{option_map_or}
use Rattle.std.specs.Str.Lines.{strip_carriage_return}

-- a line, and the place of its first octet in the input, counted from 0
pub record Line : Type 0 where
  pub place : ℕ
  pub text : List ℕ

-- the parts between line feeds as lines, the first of them at a place
abbrev pub lines_from : ℕ → List (List ℕ) → List Line
lines_from place [] = []
lines_from place (last ∷ []) = record { place = place; text = last } ∷ []
lines_from place (part ∷ next ∷ parts) =
    record { place = place; text = strip_carriage_return part } ∷ lines_from (place + length part + 1) (next ∷ parts)

abbrev pub is_line_feed : ℕ → Bool
is_line_feed octet = octet == 10

-- the parts between line feeds
abbrev pub parts_of : List ℕ → List (List ℕ)
parts_of octets = slice_split is_line_feed octets

-- the lines that begin at a place or after it
abbrev pub lines_at : List ℕ → ℕ → List Line
lines_at input place = lines_from place (parts_of (drop place input))

abbrev pub lines_after : List ℕ → Option ℕ → List Line
lines_after input next = option_map_or (lines_at input) next []

abbrev pub lines_of : List ℕ → List Line
lines_of input = lines_at input 0

-- the lines but the last: those that a line feed has ended
abbrev pub ended_of : List Line → List Line
ended_of [] = []
ended_of (last ∷ []) = []
ended_of (line ∷ next ∷ lines) = line ∷ ended_of (next ∷ lines)

abbrev pub ended_lines : List ℕ → List Line
ended_lines octets = ended_of (lines_of octets)
