-- What contracts see of a source and a sink over memory.
use Rattle.std.specs.Prelude.{ℕ, List, []}

pub record SourceView : Type 0 where
  -- the octets that no read has given yet
  pub left : List ℕ
  -- the most octets that one read gives
  pub piece : ℕ
  -- the numbers of the calls that fail
  pub failing : List ℕ
  -- the number of the next call
  pub calls : ℕ
  pub faults : ℕ

pub record SinkView : Type 0 where
  -- the most octets that the sink holds
  pub room : ℕ
  pub written : List ℕ
  -- the numbers of the calls that fail
  pub failing : List ℕ
  -- the number of the next call
  pub calls : ℕ
  pub faults : ℕ

abbrev pub new_source : List ℕ → ℕ → List ℕ → SourceView
new_source octets piece failing = record { left = octets; piece = piece; failing = failing; calls = 0; faults = 0 }

abbrev pub new_sink : ℕ → List ℕ → SinkView
new_sink room failing = record { room = room; written = []; failing = failing; calls = 0; faults = 0 }
