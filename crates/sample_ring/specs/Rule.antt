-- The rule of the table, which each step keeps: all words and all views describe one published list.
use Rattle.std.specs.Prelude.{◌≡◌, ℕ, ◌+◌, ◌-◌, ◌^◌, ◌<◌, ◌≤◌, Bool, true, List, length, ℤ, slice_index}
use Rattle.std.specs.List.{All}
use mathlib.Core.Option.{some}
use lib.ListN.{get_elem?}
use Rattle.atomic_table.specs.Table.{State}
use Rattle.sample_ring.specs.declared.view.View.{View}
use Rattle.sample_ring.specs.Cells.{lap_of, TellsCell, TellsEnd}
use Rattle.sample_ring.specs.Record.{StandsIn}

-- What a seat knows is so: its count is published, its record and the records that it keeps stand in the published
-- list, and a read between its loads found nothing at its position. The writer alone knows the list.
pub record IsSo (len : ℕ) (published : List ℤ) (ended : Bool) (writer id : ℕ) (v : View) : Type 0 where
  pub same_len : v.lives ≡ true → v.len ≡ len
  pub known : v.known ≤ length published
  pub track : StandsIn len published ended v.track
  pub kept : All (StandsIn len published ended) v.kept
  pub waits : v.waits ≡ true → (lap_of v.cell ≤ v.track.at) × (v.known ≤ v.track.at)
  pub writes : v.writes ≡ true → (id ≡ writer) × (v.published ≡ published) × (v.ended ≡ ended)

pub record Holds (len : ℕ) (s : State (Unit {0}) View) : Type 0 where
  pub writer : ℕ
  pub published : List ℤ
  pub ended : Bool
  pub positive : 0 < len
  pub room : length published < 2 ^ 48 - 1
  pub words : length s.words ≡ len + 1
  pub cells : (j : ℕ) → j < len → TellsCell len published j (slice_index s.words j)
  pub last : TellsEnd published ended (slice_index s.words len)
  pub views : (id : ℕ) (v : View) → get_elem? s.views id ≡ some v → IsSo len published ended writer id v
