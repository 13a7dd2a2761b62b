-- What each call answers: what to write, what to report, what to do with the connection.
use Rattle.std.specs.Prelude.{ℕ, ◌-◌, ◌==◌, ◌&&◌, ◌||◌, not, nat_lt, Bool, true, false, if◌then◌else◌, List, ◌∷◌}
use Rattle.std.specs.Prelude.{length, Option, Some, None}
use Rattle.keying.specs.declared.command.Command.{Command}
use Rattle.keying.specs.declared.command.Command.TheVariants.{Release, Key as KeyOn, KeyData}
use Rattle.keying.specs.declared.line.End.{End}
use Rattle.keying.specs.declared.line.Phase.{Phase}
use Rattle.keying.specs.declared.line.Phase.TheVariants.{Down, Opening, Up}
use Rattle.keying.specs.declared.line.Try.{Try}
use Rattle.keying.specs.declared.line.Try.TheVariants.{Refused as NoLine}
use Rattle.keying.specs.declared.report.Why.{Why}
use Rattle.keying.specs.declared.report.Why.TheVariants.{Connect}
use Rattle.keying.specs.declared.report.Report.TheVariants.{Off}
use Rattle.keying.specs.declared.report.OffWhy.TheVariants.{Limit}
use Rattle.keying.specs.declared.machine.Words.{Words}
use Rattle.keying.specs.declared.ticking.Act.{Act}
use Rattle.keying.specs.declared.turning.Next.{Next}
use Rattle.keying.specs.declared.turning.Next.TheVariants.{Rest, ToConnect, ToOpen, ToRelease}
use Rattle.keying.specs.declared.turning.Turn.{Turn}
use Rattle.keying.specs.declared.ending.Ending.{Ending}
use Rattle.keying.specs.declared.ending.Ending.TheVariants.{ConnectNow, OpenNow, ReleaseNow, Wait, Over}
use Rattle.keying.specs.Texts.{same_why}
use Rattle.keying.specs.Marks.{Mark}
use Rattle.keying.specs.Keyed.{ticks, wanted}
use Rattle.keying.specs.Key.{Key, key_of, is_down, free}
use Rattle.keying.specs.Rules.{is_try_due, is_stalled, is_at_limit}
use Rattle.keying.specs.Calls.{read, listened, command_failed}

-- the command that keys
abbrev pub keying_command : Words → Command
keying_command words = if words.data then KeyData else KeyOn

-- ---- losses

-- whether a loss has another reason than the loss before
abbrev pub is_another : Option Why → Why → Bool
is_another None why = true
is_another (Some before) why = not (same_why before why)

-- a loss is reported if the line had been ready, or for another reason than the loss before
abbrev pub told_loss : Bool → Option Why → Option Why → Option Why
told_loss ready None before = None
told_loss ready (Some why) before = if ready || is_another before why then Some why else None

-- whether the connection was lost since it stood so
abbrev pub is_lost_since : Phase → Key → Bool
is_lost_since before key = not (is_down before) && is_down key.phase

-- the loss that is to be reported, since the connection and the last loss stood so
abbrev pub loss_since : Phase → Option Why → Key → Option Why
loss_since before loss key = if is_lost_since before key then told_loss key.ready key.last_loss loss else None

-- ---- a turn

abbrev pub next_in : Phase → Key → Next
next_in Down key = if is_try_due key then ToConnect else Rest
next_in Opening key = ToOpen
next_in Up key = if is_stalled key then ToRelease else Rest

-- since the connection, whether it was ready and the last loss stood so
abbrev pub turn_since : Phase → Bool → Option Why → Key → Turn
turn_since before ready loss key = record {
  ready = not ready && key.ready;
  dropped = is_lost_since before key;
  lost = loss_since before loss key;
  next = next_in key.phase key;
}

abbrev pub turn_told : Words → ℕ → List ℕ → Option End → List Mark → Turn
turn_told words now octets end past =
    let before = key_of words past in
    turn_since before.phase before.ready before.last_loss (key_of words (listened words now octets end past))

-- ---- tries and faults

-- a try that failed, of a connection that was never ready
abbrev pub try_told_of : Phase → Try → Option Why → Option Why
try_told_of Up how loss = None
try_told_of Down NoLine loss = told_loss false (Some Connect) loss
try_told_of Opening NoLine loss = told_loss false (Some Connect) loss
try_told_of _ _ loss = None

abbrev pub try_told : Words → Try → List Mark → Option Why
try_told words how past = try_told_of (key_of words past).phase how (key_of words past).last_loss

abbrev pub fault_told : Words → List Mark → Option Why
fault_told words past = let before = key_of words past in
    loss_since before.phase before.last_loss (key_of words (command_failed words past))

-- ---- ticks

-- a command before the samples of a tick, and what is reported of it
abbrev pub act_told : Bool → Bool → Key → Act
act_told sounds wanted key = if free key && sounds
    then record { command = Some (keying_command key.words); report = None }
    else if is_at_limit key then record { command = Some Release; report = Some (Off Limit) }
    else if key.on && not wanted then record { command = Some Release; report = None }
    else record { command = None; report = None }

abbrev pub tick_told : Words → Bool → List Mark → Act
tick_told words sounds past = act_told sounds (wanted words.tail (sounds ∷ ticks past)) (key_of words past)

-- a command after the samples
abbrev pub written_told : Bool → Key → Option Command
written_told fault key = if fault && key.on then Some Release else None

-- ---- the end of the run

-- whether answers may still be waited for
abbrev pub is_in_time : Option ℕ → ℕ → Bool
is_in_time None now = true
is_in_time (Some began) now = nat_lt (now - began) 1000

-- A keying command that was not released by an accepted release asks for one more connection.
abbrev pub ending_in : Phase → Key → Ending
ending_in Down key = if key.owed && (not key.retried && is_in_time key.ending key.time) then ConnectNow else Over
ending_in Opening key = if key.owed && is_in_time key.ending key.time then OpenNow else Over
ending_in Up key = if key.on then ReleaseNow
    else if not (length key.waiting == 0) && is_in_time key.ending key.time then Wait else Over

abbrev pub ending_told : Words → ℕ → List ℕ → Option End → List Mark → Ending
ending_told words now octets end past =
    let key = key_of words (read words now octets end past) in ending_in key.phase key
