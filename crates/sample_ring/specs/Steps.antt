-- What each kind of step tells its caller: of the step, the seat before, the word and the seat after.
use Rattle.std.specs.Prelude.{◌≡◌, ℕ, ◌+◌, ◌-◌, ◌^◌, ◌<◌, ◌≤◌, true, [], ◌∷◌, ◌++◌}
use Rattle.std.specs.List.{All}
use Rattle.atomic_table.specs.Table.{Step, Me}
use Rattle.sample_ring.specs.declared.view.View.{View}
use Rattle.sample_ring.specs.Cells.{lap_of, sample_of}
use Rattle.sample_ring.specs.Record.{StandsIn}
use Rattle.sample_ring.specs.Views.{looked_view, looked_last_view}

-- the writer stored a cell: its sample stands after the published ones
abbrev pub published : Step (Unit {0}) → Me (Unit {0}) View → ℕ → Me (Unit {0}) View → Type 0
published step me word after = after ≡ (record me.0 { published = me.0.published ++ sample_of step.first ∷ [] }, me.1)

-- the writer stored the end word
abbrev pub ended : Step (Unit {0}) → Me (Unit {0}) View → ℕ → Me (Unit {0}) View → Type 0
ended step me word after = after ≡ (record me.0 { ended = true }, me.1)

-- What a reader may reckon with after a load of its cell: the position has room, a cell that was overwritten is at
-- least a whole ring ahead, and in an empty one no more was published than the reader's position.
pub record Tells (v : View) (cell : ℕ) : Type 0 where
  pub room : v.track.at < 2 ^ 48 - 1
  pub overwritten : v.track.at + 1 < lap_of cell → v.track.at + v.len < lap_of cell
  pub empty : lap_of cell ≤ v.track.at → v.known ≤ v.track.at

-- a reader loaded its cell
abbrev pub looked : Step (Unit {0}) → Me (Unit {0}) View → ℕ → Me (Unit {0}) View → Type 0
looked step me word after = (after ≡ (looked_view me.0 word, me.1)) × Tells me.0 word

-- a reader loaded the end word, after a cell that is not yet written
abbrev pub looked_last : Step (Unit {0}) → Me (Unit {0}) View → ℕ → Me (Unit {0}) View → Type 0
looked_last step me word after = after ≡ (looked_last_view me.0 word, me.1)

-- a seat looked after a join, which leaves it as it is: the records that the writer keeps stand in the published list
abbrev pub settled : Step (Unit {0}) → Me (Unit {0}) View → ℕ → Me (Unit {0}) View → Type 0
settled step me word after = (after ≡ me) × (me.0.writes ≡ true
    → All (StandsIn me.0.len me.0.published me.0.ended) me.0.kept)
