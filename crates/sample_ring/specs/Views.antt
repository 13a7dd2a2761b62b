-- The views of a ring's ends, and what a step makes of each.
use Rattle.std.specs.Prelude.{ℕ, [], ◌∷◌, ◌++◌, length, true, false, max, nat_le, if◌then◌else◌}
use Rattle.sample_ring.specs.declared.view.Entry.{Entry}
use Rattle.sample_ring.specs.declared.view.View.{View}
use Rattle.sample_ring.specs.Cells.{lap_of}
use Rattle.sample_ring.specs.Record.{with_read}

-- a seat that was joined into another knows nothing more
abbrev pub spent_view : View
spent_view = record {
  len = 0;
  lives = false;
  writes = false;
  ended = false;
  published = [];
  known = 0;
  track = record { at = 0; reads = [] };
  waits = false;
  cell = 0;
  kept = [];
}

-- the writer of a new ring
abbrev pub first_view : ℕ → View
first_view len = record spent_view { len = len; lives = true; writes = true }

-- what is cut from the writer: a note of its count, and at the start a reader at position 0
abbrev pub note_of : View → View
note_of v = record spent_view { len = v.len; lives = true; known = length v.published }

-- a reader that was handed a note
abbrev pub noted : View → View → View
noted v note = record v { known = max v.known note.known }

-- an ended writer that was handed a reader
abbrev pub keeping : View → View → View
keeping v reader = record v { kept = v.kept ++ reader.track ∷ [] }

-- one read of the words given
abbrev pub entry_of : View → ℕ → ℕ → Entry
entry_of v cell last = record { at = v.track.at; known = v.known; cell = cell; last = last }

-- a reader that has loaded its cell: if the cell is not yet written, it has still to load the end word
abbrev pub looked_view : View → ℕ → View
looked_view v cell =
    if nat_le (lap_of cell) v.track.at
    then record v { waits = true; cell = cell }
    else record v { track = with_read v.len v.track (entry_of v cell 0) }

-- a reader that has loaded the end word after its cell
abbrev pub looked_last_view : View → ℕ → View
looked_last_view v last = record v { track = with_read v.len v.track (entry_of v v.cell last); waits = false }
