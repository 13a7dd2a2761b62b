-- What is written on the line of rigctld (its manual page, rigctld(1)) and in the report.
use Rattle.std.specs.Prelude.{ℕ, ◌==◌, Bool, true, false, List, ◌++◌, codes, decimal}
use Rattle.keying.specs.declared.command.Command.{Command}
use Rattle.keying.specs.declared.command.Command.TheVariants.{Release, Key, KeyData}
use Rattle.keying.specs.declared.report.Why.{Why}
use Rattle.keying.specs.declared.report.Why.TheVariants.{Connect, Ended, Failed, Refused, Answer, Silent}
use Rattle.keying.specs.declared.report.OffWhy.{OffWhy}
use Rattle.keying.specs.declared.report.OffWhy.TheVariants.{Limit, Sound}
use Rattle.keying.specs.declared.report.Report.{Report}
use Rattle.keying.specs.declared.report.Report.TheVariants.{Ready, Lost, Off}

-- a command, with the line feed that ends it
abbrev pub command_text : Command → List ℕ
command_text Release = codes "T 0\n"
command_text Key = codes "T 1\n"
command_text KeyData = codes "T 3\n"

abbrev pub why_text : Why → List ℕ
why_text Connect = codes "connect"
why_text Ended = codes "ended"
why_text Failed = codes "failed"
why_text (Refused number) = codes "refused " ++ decimal number
why_text Answer = codes "answer"
why_text Silent = codes "silent"

abbrev pub off_text : OffWhy → List ℕ
off_text Limit = codes "limit"
off_text Sound = codes "sound"

-- a line of the report, without the line feed that ends it
abbrev pub report_text : Report → List ℕ
report_text Ready = codes "ptt ready"
report_text (Lost why) = codes "ptt lost " ++ why_text why
report_text (Off why) = codes "ptt off " ++ off_text why

-- whether two reasons are the same one; refusals are by their numbers
abbrev pub same_why : Why → Why → Bool
same_why Connect Connect = true
same_why Ended Ended = true
same_why Failed Failed = true
same_why (Refused number) (Refused other) = number == other
same_why Answer Answer = true
same_why Silent Silent = true
same_why _ _ = false
