use Rattle.tone_tracking.proofs.Common.{◌≡◌, length, All}
use Rattle.tone_tracking.specs.Slots.{HasDecidedNone}
use Rattle.tone_tracking.proofs.tone_line.new_slots.Given as goal

-- so many slots were made
abbrev pub invariant-loop : goal.invariant-loop
invariant-loop l = record {
  count : length l.slots.items ≡ l.counter;
  fresh : All HasDecidedNone l.slots.items;
}
