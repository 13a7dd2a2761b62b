-- A call of the key's machine together with all that it asks for; and the end of a run.
use Rattle.std.specs.Prelude.{◌≡◌, ℕ, false, List, [], ◌∷◌, ◌++◌, All}
use Rattle.keying.specs.declared.ending.Ending.TheVariants.{Over}
use Rattle.keying.specs.declared.machine.Words.{Words}
use Rattle.keying.specs.declared.report.Report.{Report}
use Rattle.keying.specs.Calls.{Call}
use Rattle.keying.specs.Calls.Call.{Release}
use Rattle.keying.specs.Keyed.{failed}
use Rattle.keying.specs.Told.{ending_told}
use Rattle.key_port.specs.KeyEvents.{KeyEvent, Begins, Obeys, marks_of, to_do, reports_of}
use Rattle.key_port.specs.KeyEvents.KeyEvent.{Called, Wrote, HungUp}

-- what the machine is told of what it asked for, or what was done for it; no call of another kind
abbrev pub FollowsUp : KeyEvent → Type 0
FollowsUp (Called call) = ¬ Begins call
FollowsUp _ = Unit {0}

-- a command is written when the run has written so many octets of its output
abbrev pub StandsAt : ℕ → KeyEvent → Type 0
StandsAt octets (Wrote command had) = had ≡ octets
StandsAt octets _ = Unit {0}

-- The call is made, all that it asks for is done, and this is reported of it. If no write had failed before, each
-- command stands where the run has written so many octets of its output.
pub record MakesCall (words : Words) (octets : ℕ) (call : Call) (before after : List KeyEvent)
    (reported : List Report) : Type 0 where
  pub more : List KeyEvent
  pub follow : All FollowsUp more
  pub is : after ≡ more ++ Called call ∷ before
  pub obeys : Obeys words after
  pub done : to_do words after ≡ []
  pub order : failed (marks_of words before) ≡ false → All (StandsAt octets) more
  pub told : reports_of words after ≡ reports_of words before ++ reported

-- ---- the end of a run

-- a call at the end of the run, or what follows one
abbrev pub Releases : KeyEvent → Type 0
Releases (Called (Release now octets end)) = Unit {0}
Releases (Called call) = ¬ Begins call
Releases _ = Unit {0}

-- the last call answered that the end is over
abbrev pub IsOver : Words → List KeyEvent → Type 0
IsOver words (Called (Release now octets end) ∷ events) =
    ending_told words now octets end (marks_of words events) ≡ Over
IsOver words (HungUp ∷ events) = IsOver words events
IsOver words _ = ⊥

-- The machine is asked what is to be done, and that is done, again and again until it answers that the end is over.
pub record IsReleased (words : Words) (octets : ℕ) (before after : List KeyEvent) : Type 0 where
  pub more : List KeyEvent
  pub releases : All Releases more
  pub is : after ≡ more ++ before
  pub obeys : Obeys words after
  pub done : to_do words after ≡ []
  pub over : IsOver words after
  pub order : failed (marks_of words before) ≡ false → All (StandsAt octets) more
