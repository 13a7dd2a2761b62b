-- The history after each call of the machine.
use Rattle.std.specs.Prelude.{ℕ, Bool, List, [], ◌∷◌, ◌++◌, Option, Some}
use Rattle.keying.specs.declared.line.End.{End}
use Rattle.keying.specs.declared.line.End.TheVariants.{Fault}
use Rattle.keying.specs.declared.line.Try.{Try}
use Rattle.keying.specs.declared.machine.Words.{Words}
use Rattle.keying.specs.Marks.{Mark}
use Rattle.keying.specs.Marks.Mark.{Turned, Ticked}
use Rattle.keying.specs.Keyed.{ticks, wanted}
use Rattle.keying.specs.Key.{Key, key_of}
use Rattle.keying.specs.Rules.{octet_marks, end_marks, silence_marks, try_marks, stall_marks, tick_marks, written_marks}
use Rattle.keying.specs.Rules.{closing_marks}

-- a rule, applied to what has happened so far
abbrev pub by_rule : Words → (Key → List Mark) → List Mark → List Mark
by_rule words rule past = rule (key_of words past) ++ past

-- octets that came
abbrev pub heard : Words → List ℕ → List Mark → List Mark
heard words [] past = past
heard words (octet ∷ octets) past = heard words octets (by_rule words (octet_marks octet) past)

-- what was read on the line at this time
abbrev pub read : Words → ℕ → List ℕ → Option End → List Mark → List Mark
read words now octets end past = by_rule words (end_marks end) (heard words octets (Turned now ∷ past))

-- The calls. A turn: what was read, and then a line that is silent for too long is lost.
abbrev pub listened : Words → ℕ → List ℕ → Option End → List Mark → List Mark
listened words now octets end past = by_rule words silence_marks (read words now octets end past)

-- and a transmission that makes no sound is cut off
abbrev pub turned : Words → ℕ → List ℕ → Option End → List Mark → List Mark
turned words now octets end past = by_rule words stall_marks (listened words now octets end past)

abbrev pub tried : Words → Try → List Mark → List Mark
tried words how past = by_rule words (try_marks how) past

-- a tick whose samples are about to be written
abbrev pub ticked : Words → Bool → List Mark → List Mark
ticked words sounds past = Ticked sounds
    ∷ by_rule words (tick_marks sounds (wanted words.tail (sounds ∷ ticks past))) past

abbrev pub written : Words → Bool → List Mark → List Mark
written words fault past = by_rule words (written_marks fault) past

-- a command was not written whole
abbrev pub command_failed : Words → List Mark → List Mark
command_failed words past = by_rule words (end_marks (Some Fault)) past

abbrev pub ended : Words → ℕ → List ℕ → Option End → List Mark → List Mark
ended words now octets end past = by_rule words closing_marks (read words now octets end past)

-- ---- any run of calls

pub data Call : Type 0 where
  Turn : (now : ℕ) → (octets : List ℕ) → (end : Option End) → Call
  AfterTry : (how : Try) → Call
  Tick : (sounds : Bool) → Call
  AfterWrite : (fault : Bool) → Call
  CommandFailed : Call
  Release : (now : ℕ) → (octets : List ℕ) → (end : Option End) → Call

abbrev pub called : Words → Call → List Mark → List Mark
called words (Turn now octets end) past = turned words now octets end past
called words (AfterTry how) past = tried words how past
called words (Tick sounds) past = ticked words sounds past
called words (AfterWrite fault) past = written words fault past
called words CommandFailed past = command_failed words past
called words (Release now octets end) past = ended words now octets end past

-- what has happened after these calls, the newest first
abbrev pub history : Words → List Call → List Mark
history words [] = []
history words (call ∷ before) = called words call (history words before)
