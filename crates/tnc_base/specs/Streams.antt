-- What a read takes out of a source and what a write adds to a sink, if these tell their octets.
use Rattle.std.specs.Prelude.{◌≡◌, ℕ, ◌<◌, ◌≤◌, List, [], ◌++◌, length, take, drop, Some}
use Rattle.std.specs.declared.option.Option.{Option}

-- What a source tells: the octets that reads will give from here on, if it tells them, and how often a read has failed.
pub record SourceTold : Type 0 where
  pub left : Option (List ℕ)
  pub faults : ℕ

-- What a sink tells: the octets that were written, if it tells them, and how often a write has failed.
pub record SinkTold : Type 0 where
  pub written : Option (List ℕ)
  pub faults : ℕ

-- A read answered count: so many octets moved from the front of the octets to the front of the buffer.
pub record Gives (octets : List ℕ) (left : Option (List ℕ)) (buffer : List ℕ) (count : ℕ) : Type 0 where
  pub enough : count ≤ length octets
  pub front : take count buffer ≡ take count octets
  pub rest : left ≡ Some (drop count octets)
  -- no octet for a buffer with room: the end of input
  pub end : count ≡ 0 → 0 < length buffer → octets ≡ []

-- The sink had these octets before, and now a first part of the text after them.
abbrev pub WrotePart : List ℕ → List ℕ → Option (List ℕ) → Type 0
WrotePart before text now = (part : List ℕ) × (rest : List ℕ) × (text ≡ part ++ rest) × (now ≡ Some (before ++ part))
