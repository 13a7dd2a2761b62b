use Rattle.tone_tracking.proofs.Common.{◌≡◌, ◌≢◌, ℕ, ◌*◌, ◌/◌, ◌%◌, ◌<◌, length, get_or}
use Rattle.tone_tracking.specs.declared.place_tones.PlaceTones.{PlaceTones}
use Rattle.tone_tracking.proofs.tone_line.put_slot.Given as goal

abbrev pub invariant-loop-index : goal.invariant-loop-index
invariant-loop-index l = record {
  size : length l.line ≡ length l.initial.line;
  put : (i : ℕ) (d : PlaceTones) → i < length l.line → i / 8 < l.index → i % 8 ≡ l.ahead
      → get_or l.line i d ≡ get_or l.tones (i / 8) d;
  kept : (i : ℕ) (d : PlaceTones) → i % 8 ≢ l.ahead → get_or l.line i d ≡ get_or l.initial.line i d;
}
