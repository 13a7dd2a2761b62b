-- What a key was told of writes that failed, event by event.
use Rattle.std.proofs.Common.{◌≡◌, ℕ, List, [], ◌∷◌, ◌++◌, refl, ap, ◌∙◌, arith}
use Rattle.std.proofs.lemmas.List.Elements.{All-tail}
use Rattle.std.specs.Prelude.{false, All}
use Rattle.keying.specs.declared.machine.Words.{Words}
use Rattle.keying.specs.declared.report.Report.{Report}
use Rattle.keying.specs.Calls.{Call, called}
use Rattle.keying.specs.Calls.Call.{Turn, AfterTry, Tick, AfterWrite, CommandFailed, Release}
use Rattle.keying.specs.Keyed.{failed}
use Rattle.keying.specs.Marks.{Mark}
use Rattle.keying.proofs.Failures.{before_call, tried_same, command_failed_same}
pub use Rattle.keying.proofs.Failures.{told_failure, turned_same, ticked_same, written_same}
use Rattle.key_port.specs.KeyCalls.{FollowsUp, MakesCall}
use Rattle.key_port.specs.KeyEvents.{KeyEvent, marks_of}
use Rattle.key_port.specs.KeyEvents.KeyEvent.{Called, Began, NotBegun, Wrote, NotWritten, HungUp}

pub before_events : (words : Words) (more events : List KeyEvent) → failed (marks_of words (more ++ events)) ≡ false
    → failed (marks_of words events) ≡ false
before_events words [] events h = h
before_events words (Called call ∷ more) events h =
    before_events words more events (before_call words call (marks_of words (more ++ events)) h)
before_events words (Began ∷ more) events h = before_events words more events h
before_events words (NotBegun ∷ more) events h = before_events words more events h
before_events words (Wrote command had ∷ more) events h = before_events words more events h
before_events words (NotWritten ∷ more) events h = before_events words more events h
before_events words (HungUp ∷ more) events h = before_events words more events h

-- what follows a call up tells of no write
follow_same : (words : Words) (more events : List KeyEvent) → All FollowsUp more
    → failed (marks_of words (more ++ events)) ≡ failed (marks_of words events)
follow_same words [] events all = refl
follow_same words (Called call ∷ more) events all =
    called_same words call (marks_of words (more ++ events)) (all 0 (Called call) (omega arith))
    ∙ follow_same words more events (All-tail FollowsUp (Called call) more all)
  where
    called_same : (words : Words) (call : Call) (past : List Mark) → FollowsUp (Called call)
        → failed (called words call past) ≡ failed past
    called_same words (AfterTry how) past f = tried_same words how past
    called_same words CommandFailed past f = command_failed_same words past
    called_same words (Turn now octets end) past f = absurd (f tt)
    called_same words (Tick sounds) past f = absurd (f tt)
    called_same words (AfterWrite fault) past f = absurd (f tt)
    called_same words (Release now octets end) past f = absurd (f tt)
follow_same words (Began ∷ more) events all = follow_same words more events (All-tail FollowsUp Began more all)
follow_same words (NotBegun ∷ more) events all = follow_same words more events (All-tail FollowsUp NotBegun more all)
follow_same words (Wrote command had ∷ more) events all =
    follow_same words more events (All-tail FollowsUp (Wrote command had) more all)
follow_same words (NotWritten ∷ more) events all =
    follow_same words more events (All-tail FollowsUp NotWritten more all)
follow_same words (HungUp ∷ more) events all = follow_same words more events (All-tail FollowsUp HungUp more all)

-- a call that tells of no write that failed leaves the key untold
pub call_untold : (words : Words) (octets : ℕ) (call : Call) (before after : List KeyEvent) (reported : List Report)
    → failed (called words call (marks_of words before)) ≡ failed (marks_of words before)
    → MakesCall words octets call before after reported → failed (marks_of words before) ≡ false
    → failed (marks_of words after) ≡ false
call_untold words octets call before after reported same h none =
    ap (λ (events : List KeyEvent). failed (marks_of words events)) h.is
    ∙ follow_same words h.more (Called call ∷ before) h.follow ∙ same ∙ none
