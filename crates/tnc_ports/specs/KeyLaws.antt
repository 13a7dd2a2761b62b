-- The key of a transmitter over a run: how a transmission begins, how long the key is on, and how its line stands at the
-- end.
use Rattle.std.specs.Prelude.{◌≡◌, ℕ, ℤ, ◌≤◌, Bool, true, false, List, [], ◌∷◌, ◌++◌, length, Some}
use Rattle.channel_access.specs.Sound.{has_sound}
use Rattle.keying.specs.declared.machine.Words.{Words}
use Rattle.keying.specs.Calls.Call.{Tick}
use Rattle.keying.specs.Key.{is_free}
use Rattle.keying.specs.Keyed.{lit, on}
use Rattle.keying.specs.Laws.{Alternate, NoneTellsEnd, accepted, commands, newest_keys}
use Rattle.key_port.specs.KeyEvents.{KeyEvent, Obeys, calls_of, lines_of, marks_of, to_do}
use Rattle.key_port.specs.KeyEvents.KeyEvent.{Called}
use Rattle.key_port.specs.KeyLines.{KeyLine, is_open, open_commands}
use Rattle.tnc_ports.specs.declared.serve_words.KeyWords.{KeyWords}
use Rattle.tnc_ports.specs.SampledRun.{Outside}

-- ---- a transmission begins

-- Each command of the connection was accepted, and the newest one releases.
pub record IsAccepted (words : Words) (keyed : List KeyEvent) : Type 0 where
  pub free : is_free words (marks_of words keyed) ≡ true
  pub all : accepted (marks_of words keyed) ≡ length (commands (marks_of words keyed))
  pub some : 1 ≤ length (commands (marks_of words keyed))
  pub releases : newest_keys (commands (marks_of words keyed)) ≡ false

-- what the key has done with the tick and after it
abbrev pub from_tick : List KeyEvent → List KeyEvent → List KeyEvent
from_tick more keyed = more ++ Called (Tick true) ∷ keyed

-- no call after the tick tells that the key ends
abbrev pub NoEndSince : Words → List KeyEvent → List KeyEvent → Type 0
NoEndSince words more keyed = NoneTellsEnd words (calls_of more) (Tick true ∷ calls_of keyed)

-- A transmission begins with a tick: nobody is heard, the radio can be keyed, and the tick has sound. From then on the
-- key is on until a call tells its end; and whenever nothing is to be done on the line, the newest command there keys.
pub record BeginsKeyed (words : Words) (busy : Bool) (samples : List ℤ) (keyed : List KeyEvent) : Type 0 where
  pub quiet : busy ≡ false
  pub ready : IsAccepted words keyed
  pub sounds : has_sound samples ≡ true
  pub stays : (more : List KeyEvent) → NoEndSince words more keyed
      → on (marks_of words (from_tick more keyed)) ≡ true
  pub line : (more : List KeyEvent) (port start : ℕ) (was : List KeyLine) → NoEndSince words more keyed
      → Obeys words (from_tick more keyed) → to_do words (from_tick more keyed) ≡ [] → is_open was ≡ false
      → newest_keys (open_commands (lines_of port start was (from_tick more keyed))) ≡ true

-- ---- each moment of a run

-- What stands on the line is what the key did. At each moment it was on for 9000 ticks at most by then; and whenever
-- nothing was to be done, the commands of the connection were a release, and then each the opposite of the one before.
pub record IsKeptWithin (key : KeyWords) (was : List KeyLine) (out : List ℕ) (after : Outside) : Type 0 where
  pub events : List KeyEvent
  pub told : after.line.lines ≡ Some (lines_of key.port (length out) was events)
  pub obeys : Obeys key.words events
  pub limit : (newer older : List KeyEvent) → events ≡ newer ++ older → lit (marks_of key.words older) ≤ 9000
  pub alternate : (newer older : List KeyEvent) → events ≡ newer ++ older → to_do key.words older ≡ []
      → Alternate (open_commands (lines_of key.port (length out) was older))

-- ---- the end

-- The newest command on the connection releases, or there is no connection.
pub record EndsReleased (after : Outside) : Type 0 where
  pub lines : List KeyLine
  pub told : after.line.lines ≡ Some lines
  pub released : newest_keys (open_commands lines) ≡ false
