use Rattle.tone_tracking.proofs.Common.{◌≡◌, ℕ, ◌+◌, ◌*◌, ◌<◌, length, get_or, Correlations, correlations}
use Rattle.tone_tracking.specs.declared.place_tones.PlaceTones.{PlaceTones}
use Rattle.tone_tracking.specs.Correlation.{AreWithin}
use Rattle.tone_tracking.specs.Slots.{ArePastsAt, ArePastsWithin, place_tones}
use Rattle.tone_tracking.proofs.slot_tracker.decide_windows.Given as goal

abbrev pub invariant-loop-index : goal.invariant-loop-index
invariant-loop-index l = record {
  length : length l.tones ≡ length l.initial.tones;
  now_within : AreWithin l.now;
  next_within : AreWithin l.next;
  within : ArePastsWithin l.held;
  now_is : l.now ≡ correlations l.levels (l.first + 8 * l.index);
  next_is : l.next ≡ correlations l.levels (l.first + 8 * l.index + 8);
  pasts : (windows : ℕ → Correlations) (base : ℕ) → ((i : ℕ) → correlations l.levels i ≡ windows (base + i))
      → ArePastsAt l.initial.pasts windows (base + l.first)
      → ArePastsAt l.held windows (base + l.first + 8 * l.index);
  tones : (windows : ℕ → Correlations) (base : ℕ) → ((i : ℕ) → correlations l.levels i ≡ windows (base + i))
      → ArePastsAt l.initial.pasts windows (base + l.first) → (k : ℕ) (d : PlaceTones) → k < l.index
      → get_or l.tones k d ≡ place_tones windows (base + l.first + 8 * k);
}
