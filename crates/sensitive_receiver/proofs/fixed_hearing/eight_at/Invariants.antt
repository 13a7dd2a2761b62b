use Rattle.sensitive_receiver.proofs.Common.{◌≡◌, ℕ, ◌+◌, ◌*◌, ◌<◌, length, get_or, Tone, Far}
use Rattle.tone_tracking.specs.declared.place_tones.PlaceTones.{PlaceTones}
use Rattle.tone_tracking.specs.Slots.{tone_of}
use Rattle.sensitive_receiver.proofs.fixed_hearing.eight_at.Given as goal

-- the first tones are those of the lane's first places
abbrev pub invariant-loop-k : goal.invariant-loop-k
invariant-loop-k l = record {
  size : length l.tones ≡ 8;
  are : (j : ℕ) (d : Tone) (e : PlaceTones) → j < l.k
      → get_or l.tones j d ≡ tone_of Far (get_or l.line (l.at + 8 * j) e);
}
