-- Worked examples, computed on the definitions.
use Rattle.std.proofs.Common.{◌≡◌, List, [], ◌∷◌, refl, codes}
use Rattle.std.specs.Prelude.{true, false, None}
use Rattle.keying.specs.declared.command.Command.TheVariants.{Release as Unkey, KeyData}
use Rattle.keying.specs.declared.line.Try.TheVariants.{Written}
use Rattle.keying.specs.declared.machine.Words.{Words}
use Rattle.keying.specs.declared.report.Report.TheVariants.{Ready}
use Rattle.keying.specs.Answers.{answer_of}
use Rattle.keying.specs.Calls.Call.{Turn, AfterTry, Tick, Release}
use Rattle.key_port.specs.declared.key_records.KeyStep.TheVariants.{Wrote as Command, Read}
use Rattle.key_port.specs.KeyEvents.{KeyEvent, Obeys, lines_of, to_do, reports_of}
use Rattle.key_port.specs.KeyEvents.KeyEvent.{Called, Began, Wrote}
use Rattle.key_port.specs.KeyEvents.Task.{Connect, GiveUp}
use Rattle.key_port.specs.KeyLines.{open_commands}

abbrev short_tail : Words
short_tail = record { tail = 1; «data» = true }

-- the newest first
abbrev first_turn : List KeyEvent
first_turn = Called (Turn 0 [] None) ∷ []

asks_to_connect : to_do short_tail first_turn ≡ Connect ∷ []
asks_to_connect = refl

-- a connection, its release and the answer to it, and a tick with sound
abbrev keyed : List KeyEvent
keyed = Wrote KeyData 0 ∷ Called (Tick true) ∷ Called (Turn 50 (codes "RPRT 0\n") None) ∷ Called (AfterTry Written)
    ∷ Wrote Unkey 0 ∷ Began ∷ first_turn

obeyed : Obeys short_tail keyed
unfolding answer_of
obeyed = (refl, (tt, (tt, (refl, (refl, (tt, (tt, tt)))))))

one_connection : lines_of 4532 1000 [] keyed ≡ record {
  port = 4532;
  steps = Command Unkey 1000 ∷ Read 50 (codes "RPRT 0\n") ∷ Command KeyData 1000 ∷ [];
  ended = false;
  dropped = false;
} ∷ []
one_connection = refl

two_commands : open_commands (lines_of 4532 1000 [] keyed) ≡ true ∷ false ∷ []
two_commands = refl

one_report : reports_of short_tail keyed ≡ Ready ∷ []
unfolding answer_of
one_report = refl

-- a refusal at the end of the run: the connection is given up, and there is one more
refused_at_the_end : to_do short_tail (Called (Release 100 (codes "RPRT -1\n") None) ∷ keyed) ≡ GiveUp ∷ Connect ∷ []
unfolding answer_of
refused_at_the_end = refl
