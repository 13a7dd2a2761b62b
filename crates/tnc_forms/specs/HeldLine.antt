-- What a reader of lines keeps. No public clause looks inside: they cite `StandsFor` alone.
use Rattle.std.specs.Prelude.{◌≡◌, ℕ, ◌+◌, ◌≤◌, false, List, [], ◌++◌, length, None}
use Rattle.std.specs.List.{All}
use Rattle.std.specs.Str.Lines.{strip_carriage_return}
use Rattle.tnc_forms.specs.HexFrames.{fault_of_lines}
use Rattle.tnc_forms.specs.HexLines.{Line, is_line_feed, lines_from, lines_of, parts_of}

pub record HeldLine : Type 0 where
  -- the fewest octets of a frame
  pub least : ℕ
  -- the place of the first octet of the line that has not ended
  pub place : ℕ
  -- its octets so far
  pub part : List ℕ

abbrev pub new_line : ℕ → HeldLine
new_line least = record { least = least; place = 0; part = [] }

-- how many octets have come
abbrev pub position_of : HeldLine → ℕ
position_of held = held.place + length held.part

-- these octets have come, and no line of them is known to be bad
pub record StandsFor (held : HeldLine) (octets : List ℕ) : Type 0 where
  -- the lines that have ended
  pub ended : List Line
  -- whatever comes, the lines are these, and then those that the open line and what comes make
  pub cut : (more : List ℕ) → lines_of (octets ++ more) ≡ ended ++ lines_from held.place (parts_of (held.part ++ more))
  pub inside : All (λ octet. is_line_feed octet ≡ false) held.part
  pub good : fault_of_lines held.least ended ≡ None
  pub short : length (strip_carriage_return held.part) ≤ 2048
  pub count : position_of held ≡ length octets
