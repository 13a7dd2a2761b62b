-- What a line of tones keeps of samples, and what that stands for.
use Rattle.std.specs.Prelude.{◌≡◌, ◌+◌, ◌-◌, ℕ, ℤ, List, ◌++◌, length, drop}
use Rattle.tone_tracking.specs.declared.place_tones.PlaceTones.{PlaceTones}
use Rattle.tone_tracking.specs.Correlation.{correlations}
use Rattle.tone_tracking.specs.Slots.{AreTonesFrom, HeldSlot, SlotsHaveDecided}
use Rattle.tone_tracking.specs.WithoutMean.{without_mean}
use Rattle.tone_tracking.specs.HeldMean.{HeldMean, StandsFor as MeanStandsFor}

-- How many places of so many samples are decided: the mean settles all but the last fifteen, and a place asks for three
-- whole windows, its own sample and 23 more.
abbrev pub decided_in : ℕ → ℕ
decided_in count = count - 38

-- how many samples were taken, the last of them for their mean, those without it from a place on, the slots, and the
-- tones of the places that were decided last, of which that place is the first
pub record HeldLine : Type 0 where
  pub count : ℕ
  pub remover : HeldMean
  pub levels : List ℤ
  pub slots : List HeldSlot
  pub first : ℕ
  pub line : List PlaceTones

-- the line has taken these samples
pub record HasTaken (held : HeldLine) (x : List ℤ) : Type 0 where
  pub count : held.count ≡ length x
  pub remover : MeanStandsFor held.remover x
  pub levels : held.levels ≡ drop held.first (without_mean x)
  pub slots : SlotsHaveDecided held.slots (correlations (without_mean x)) (decided_in (length x))
  pub line : AreTonesFrom held.first held.line (correlations (without_mean x))

-- The line takes a block, and makes the tones of the places that it decides.
pub record TakesBlock (old new : HeldLine) (block : List ℤ) : Type 0 where
  pub has_taken : (x : List ℤ) → HasTaken old x → HasTaken new (x ++ block)
  pub count : new.count ≡ old.count + length block
  pub first : new.first ≡ decided_in old.count

-- A remover that has taken samples takes a block more, and what that settles is added to the levels.
abbrev pub Settles : HeldMean → HeldMean → List ℤ → List ℤ → List ℤ → Type 0
Settles was now before after block = (x : List ℤ) → MeanStandsFor was x
    → MeanStandsFor now (x ++ block)
    × (settled : List ℤ) × (without_mean (x ++ block) ≡ without_mean x ++ settled) × (after ≡ before ++ settled)
