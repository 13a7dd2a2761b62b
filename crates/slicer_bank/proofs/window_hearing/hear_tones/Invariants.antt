use Rattle.slicer_bank.proofs.Common.{◌≡◌, ℕ, ◌+◌, ◌*◌, ◌<◌, List, ◌++◌, take, All, Tone, flags_asked, LaneStandsFor, CanBePutPast}
use Rattle.slicer_bank.specs.Heard.{AddsAll}
use Rattle.slicer_bank.proofs.window_hearing.hear_tones.Given as goal

abbrev pub invariant-loop-tone : goal.invariant-loop-tone
invariant-loop-tone l = record {
  at : l.at ≡ l.end + 8 * l.tone-index;
  heard : (x : List Tone) → LaneStandsFor l.initial.lane x → LaneStandsFor l.lane (x ++ take l.tone-index l.tones)
      × AddsAll l.offset l.end x (take l.tone-index l.tones) l.initial.found.items l.found.items;
  bounds : (position : ℕ) → position < l.end → All (CanBePutPast position) l.initial.found.items
      → All (CanBePutPast position) l.found.items;
  asks : flags_asked l.lane.deframer ≡ flags_asked l.initial.lane.deframer;
}
