-- What the lanes on the slow clock of a list hear when a place is decided.
use Rattle.std.specs.Prelude.{◌≡◌, ℕ, ◌+◌, ℤ, List, length}
use Rattle.std.specs.List.{All}
use Rattle.frame_merge.specs.declared.candidate.Candidate.{Candidate}
use Rattle.tone_tracking.specs.declared.place_tones.PlaceTones.{PlaceTones}
use Rattle.tone_tracking.specs.Correlation.{correlations}
use Rattle.tone_tracking.specs.HeldRing.{HeldRing}
use Rattle.tone_tracking.specs.Slots.{AreTonesFrom}
use Rattle.tone_tracking.specs.WithoutMean.{without_mean}
use Rattle.sensitive_receiver.specs.declared.decided_place.DecidedPlace.{DecidedPlace}
use Rattle.sensitive_receiver.specs.Found.{AddsAmong, AreAddedIn, HasRoomFrom}
use Rattle.sensitive_receiver.specs.HeldList.{HasRead, HeldList, IsLastPlace, LanesAreAt}
use Rattle.sensitive_receiver.specs.LateLanes.{HeldLane}

-- If the first lanes of the list have taken the last place, the lanes from there to below another take it, and what they
-- hear there is added to what was found.
pub record LanesHear (first end : ℕ) (ring : HeldRing) (at : DecidedPlace) (old new : List HeldLane)
    (before after : List Candidate) : Type 0 where
  pub read : (x : List ℤ) → IsLastPlace ring at x → LanesAreAt ring.reach first old at.place x
      → LanesAreAt ring.reach end new at.place x
  pub found : (x : List ℤ) → IsLastPlace ring at x → LanesAreAt ring.reach first old at.place x
      → AddsAmong ring.reach at.place first end x before after

-- ---- a line of tones

-- a line has the tones of samples without their mean, from a place on
abbrev pub AreTonesOf : ℕ → List PlaceTones → List ℤ → Type 0
AreTonesOf first line x = AreTonesFrom first line (correlations (without_mean x))

-- a bank of a list has read a line of tones that begins at its place, and these items are what its lanes hear there
pub record ReadsLine (old new : HeldList) (line : List PlaceTones) (items : List Candidate) : Type 0 where
  pub place : new.ring.place ≡ old.ring.place + length line
  pub list : new.ring.reach ≡ old.ring.reach
  pub read : (x : List ℤ) → AreTonesOf old.ring.place line x → HasRead old x → HasRead new x
  pub found : (x : List ℤ) → AreTonesOf old.ring.place line x → HasRead old x
      → AreAddedIn old.ring.reach old.ring.place new.ring.place x items
  pub bounds : All (HasRoomFrom (old.ring.place + 6)) items
