-- The exit statuses of the program.
use Rattle.std.specs.Prelude.{◌≡◌, ℕ}
use Rattle.tnc_main.specs.declared.status.Status.{Status}
use Rattle.tnc_main.specs.declared.status.Status.TheVariants.{Done, BadWords, BadInput, Memory, ReadFault, WriteFault}
use Rattle.tnc_main.specs.declared.status.Status.TheVariants.{Stray, NotQuiet, Spent, NoPort, NoHost, Refused}
use Rattle.tnc_main.specs.declared.status.Status.TheVariants.{HostLost, HostBroke, GaveUp}

-- the number that the process ends with
abbrev pub code_of : Status → ℕ
code_of Done = 0
code_of BadWords = 1
code_of BadInput = 2
code_of Memory = 3
code_of ReadFault = 4
code_of WriteFault = 5
code_of Stray = 6
code_of NotQuiet = 7
code_of Spent = 8
code_of NoPort = 10
code_of NoHost = 11
code_of Refused = 12
code_of HostLost = 13
code_of HostBroke = 14
code_of GaveUp = 15

-- The code is that of a status that a live command may end with: its words were good, and it makes nothing of its own.
pub record IsLiveCode (code : ℕ) : Type 0 where
  pub not_words : ¬ code ≡ 1
  pub not_stray : ¬ code ≡ 6
  pub not_unquiet : ¬ code ≡ 7
  pub not_spent : ¬ code ≡ 8
