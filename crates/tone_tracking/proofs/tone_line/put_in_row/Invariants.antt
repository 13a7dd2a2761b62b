use Rattle.tone_tracking.proofs.Common.{◌≡◌, ℕ, ◌+◌, ◌/◌, ◌%◌, ◌<◌, length, get_or}
use Rattle.tone_tracking.specs.declared.place_tones.PlaceTones.{PlaceTones}
use Rattle.tone_tracking.specs.Slots.{HeldSlot}
use Rattle.tone_tracking.proofs.tone_line.put_in_row.Given as goal

abbrev pub invariant-loop-ahead : goal.invariant-loop-ahead
invariant-loop-ahead l = record {
  size : length l.line ≡ length l.initial.line;
  row : (i : ℕ) (d : PlaceTones) (e : HeldSlot) → i < length l.line → i % 8 < l.ahead
      → get_or l.line i d ≡ get_or (get_or l.slots ((l.place % 8 + i) % 8) e).tones (i / 8) d;
}
