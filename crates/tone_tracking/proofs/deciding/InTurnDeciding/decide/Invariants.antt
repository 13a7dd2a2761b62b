use Rattle.tone_tracking.proofs.Common.{◌≡◌, ℕ, ◌<◌, ◌≤◌, length, get_or}
use Rattle.tone_tracking.specs.Slots.{Decides, HeldSlot}
use Rattle.tone_tracking.proofs.deciding.InTurnDeciding.decide.Given as goal

abbrev pub invariant-loop-index : goal.invariant-loop-index
invariant-loop-index l = record {
  length : length l.slots ≡ 8;
  done : (k : ℕ) (d : HeldSlot) → k < l.index → Decides l.levels (get_or l.initial.slots k d) (get_or l.slots k d);
  rest : (k : ℕ) (d : HeldSlot) → l.index ≤ k → get_or l.slots k d ≡ get_or l.initial.slots k d;
}
