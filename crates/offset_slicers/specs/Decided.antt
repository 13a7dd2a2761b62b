-- What a decision tells of a window: its tone, and how large that is and where in its cycle it begins.
use Rattle.std.specs.Prelude.{◌≡◌, ◌≤◌, ℤ, List, unsigned_abs}
use Rattle.offset_slicers.specs.declared.decision.Decision.{Decision}
use Rattle.offset_slicers.specs.Decision.{sine_sum, cosine_sum, tone_of}

-- the tone of the window, and its correlations with the sine and the cosine of that tone, which are no larger than those
-- of sixteen-bit samples can be
pub record IsDecidedAs (window : List ℤ) (decision : Decision) : Type 0 where
  pub tone : decision.tone ≡ tone_of window
  pub sine : decision.sine ≡ sine_sum decision.tone window
  pub cosine : decision.cosine ≡ cosine_sum decision.tone window
  pub sine_size : unsigned_abs decision.sine ≤ 2621440000
  pub cosine_size : unsigned_abs decision.cosine ≤ 2621440000
