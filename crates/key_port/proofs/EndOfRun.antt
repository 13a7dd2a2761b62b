-- At the end of a run the newest command on the line releases.
use Rattle.std.proofs.Common.{◌≡◌, ℕ, List, [], ◌∷◌, ap, sym, ◌∙◌}
use Rattle.std.specs.Prelude.{false}
use Rattle.keying.specs.declared.machine.Words.{Words}
use Rattle.keying.specs.Calls.Call.{Turn, AfterTry, Tick, AfterWrite, CommandFailed, Release}
use Rattle.keying.specs.Laws.{commands, newest_keys}
use Rattle.keying.proofs.RulesAreSound.{sound_history}
use Rattle.keying.proofs.ToldEnds.{closed_off}
use Rattle.key_port.specs.KeyCalls.{IsOver, IsReleased}
use Rattle.key_port.specs.KeyEvents.{KeyEvent, calls_of, marks_of, lines_of}
use Rattle.key_port.specs.KeyEvents.KeyEvent.{Called, Began, NotBegun, Wrote, NotWritten, HungUp}
use Rattle.key_port.specs.KeyLines.{KeyLine, is_open, open_commands}
use Rattle.key_port.proofs.Bridge.{same_commands}

over_released : (words : Words) (events : List KeyEvent) → IsOver words events
    → newest_keys (commands (marks_of words events)) ≡ false
over_released words [] is = absurd is
over_released words (Called (Turn now octets end) ∷ events) is = absurd is
over_released words (Called (AfterTry how) ∷ events) is = absurd is
over_released words (Called (Tick sounds) ∷ events) is = absurd is
over_released words (Called (AfterWrite fault) ∷ events) is = absurd is
over_released words (Called CommandFailed ∷ events) is = absurd is
over_released words (Called (Release now octets end) ∷ events) is =
    closed_off words (marks_of words events) now octets end (sound_history words (calls_of events))
over_released words (Began ∷ events) is = absurd is
over_released words (NotBegun ∷ events) is = absurd is
over_released words (Wrote command had ∷ events) is = absurd is
over_released words (NotWritten ∷ events) is = absurd is
over_released words (HungUp ∷ events) is = over_released words events is

pub line_released : (words : Words) (port start octets : ℕ) (was : List KeyLine) (before after : List KeyEvent)
    → is_open was ≡ false → IsReleased words octets before after
    → newest_keys (open_commands (lines_of port start was after)) ≡ false
line_released words port start octets was before after closed released =
    ap newest_keys (sym (same_commands words port start was after released.obeys closed released.done))
    ∙ over_released words after released.over
