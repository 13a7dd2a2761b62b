-- The rules: what each thing that happens adds to the history, the newest mark first, by the line and the key as they
-- stand. Times are in ms, limits of the key in ticks of 10 ms.
use Rattle.std.specs.Prelude.{ℕ, ◌-◌, ◌==◌, ◌&&◌, ◌||◌, not, nat_le, Bool, true, false, if◌then◌else◌, List, []}
use Rattle.std.specs.Prelude.{◌∷◌, ◌++◌, length, Option, Some, None}
use Rattle.keying.specs.declared.answer.Answer.{Answer}
use Rattle.keying.specs.declared.answer.Answer.TheVariants.{Accepts, Refuses, Unclear}
use Rattle.keying.specs.declared.line.Phase.{Phase}
use Rattle.keying.specs.declared.line.Phase.TheVariants.{Down, Opening, Up}
use Rattle.keying.specs.declared.line.End.{End}
use Rattle.keying.specs.declared.line.End.TheVariants.{Closed, Fault}
use Rattle.keying.specs.declared.line.Try.{Try}
use Rattle.keying.specs.declared.line.Try.TheVariants.{Refused as NoLine, NotYet, Written}
use Rattle.keying.specs.declared.report.Why.TheVariants.{Connect, Ended, Failed, Refused, Answer as NoAnswer, Silent}
use Rattle.keying.specs.declared.report.OffWhy.TheVariants.{Limit, Sound}
use Rattle.keying.specs.Answers.{answer_of}
use Rattle.keying.specs.Marks.{Mark}
use Rattle.keying.specs.Marks.Mark.{Tried, Opened, Keyed, Released, Heard, Accepted, Readied, Lost}
use Rattle.keying.specs.Marks.Mark.{Cut, WriteFault, Ends}
use Rattle.keying.specs.Key.{Key, free}

-- ---- answers

-- the answer that is due is that to a release, and no other is due
abbrev pub settles : Key → Bool
settles key = not key.on && (length key.waiting == 1)

-- the oldest command is accepted; with its first release the line is ready
abbrev pub accept_marks : Key → List Mark
accept_marks key = if settles key && not key.ready then Accepted ∷ Readied ∷ [] else Accepted ∷ []

abbrev pub due_marks : Answer → Key → List Mark
due_marks Unclear key = Lost NoAnswer ∷ []
due_marks (Refuses number) key = Lost (Refused number) ∷ []
due_marks Accepts key = accept_marks key

-- a line that came; one that no command waits for is no answer
abbrev pub answer_marks : Answer → Key → List Mark
answer_marks answer key = if length key.waiting == 0 then Lost NoAnswer ∷ [] else due_marks answer key

-- an octet on a line that is up; the 64th without a line feed is no part of an answer
abbrev pub line_marks : ℕ → Key → List Mark
line_marks octet key = if octet == 10 then answer_marks (answer_of key.part) key ++ Heard octet ∷ []
    else if length key.part == 63 then Lost NoAnswer ∷ [] else Heard octet ∷ []

-- an octet; before the first command nothing is an answer
abbrev pub octet_marks_in : Phase → ℕ → Key → List Mark
octet_marks_in Down octet key = []
octet_marks_in Opening octet key = Lost NoAnswer ∷ []
octet_marks_in Up octet key = line_marks octet key

abbrev pub octet_marks : ℕ → Key → List Mark
octet_marks octet key = octet_marks_in key.phase octet key

-- ---- the loss of a line

-- reading or writing has ended so; a connection that is being made was then refused
abbrev pub end_marks_in : Phase → End → List Mark
end_marks_in Down end = []
end_marks_in Opening end = Lost Connect ∷ []
end_marks_in Up Closed = Lost Ended ∷ []
end_marks_in Up Fault = Lost Failed ∷ []

abbrev pub end_marks : Option End → Key → List Mark
end_marks None key = []
end_marks (Some end) key = end_marks_in key.phase end

-- whether the oldest command has waited for 2000 ms
abbrev pub is_overdue : ℕ → List ℕ → Bool
is_overdue now [] = false
is_overdue now (oldest ∷ others) = nat_le 2000 (now - oldest)

abbrev pub silence_marks : Key → List Mark
silence_marks key = if is_overdue key.time key.waiting then Lost Silent ∷ [] else []

-- ---- a connection

-- The first try is made at once, and so is the one after the loss of a line that had been ready, since the key may
-- still be on; any other 1000 ms after the try before.
abbrev pub is_try_due_after : Option ℕ → Key → Bool
is_try_due_after None key = true
is_try_due_after (Some tried) key = key.ready || nat_le 1000 (key.time - tried)

abbrev pub is_try_due : Key → Bool
is_try_due key = is_try_due_after key.last_try key

-- how a try ended: one to connect, and one to write the first release
abbrev pub opening_marks : Try → List Mark
opening_marks NoLine = Lost Connect ∷ []
opening_marks NotYet = []
opening_marks Written = Opened ∷ []

abbrev pub try_marks_in : Phase → Try → List Mark
try_marks_in Down how = opening_marks how ++ Tried ∷ []
try_marks_in Opening how = opening_marks how
try_marks_in Up how = []

abbrev pub try_marks : Try → Key → List Mark
try_marks how key = try_marks_in key.phase how

-- ---- the key

-- whether no tick was made for 2000 ms while the key is on
abbrev pub is_stalled : Key → Bool
is_stalled key = key.on && nat_le 2000 (key.time - key.ticked)

abbrev pub stall_marks : Key → List Mark
stall_marks key = if is_stalled key then Cut Sound ∷ Released ∷ [] else []

-- whether the key has been on for 9000 ticks, 90 seconds
abbrev pub is_at_limit : Key → Bool
is_at_limit key = key.on && (key.lit == 9000)

-- before the samples of a tick: it has sound or not, and the key is wanted at it or not
abbrev pub tick_marks : Bool → Bool → Key → List Mark
tick_marks sounds wanted key = if free key && sounds then Keyed ∷ []
    else if is_at_limit key then Cut Limit ∷ Released ∷ []
    else if key.on && not wanted then Released ∷ []
    else []

-- after the samples of a tick: whether their write, or an earlier one of the output or the report, failed
abbrev pub written_marks : Bool → Key → List Mark
written_marks false key = []
written_marks true key = if key.on then WriteFault ∷ Released ∷ [] else WriteFault ∷ []

-- at the end of the run
abbrev pub closing_marks : Key → List Mark
closing_marks key = if key.on then Ends ∷ Released ∷ [] else Ends ∷ []
