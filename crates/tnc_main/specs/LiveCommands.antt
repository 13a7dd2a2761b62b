-- The commands that are live, and what words ask for that ask for none of them.
use Rattle.std.specs.Prelude.{ℕ, ◌≤◌, List}
use Rattle.link_machine.specs.Params.{IsRefusedWindow}
use Rattle.tnc_words.specs.declared.command.Command.{Command}
use Rattle.tnc_words.specs.declared.command.Command.TheVariants.{Serve, Record, Call}
use Rattle.tnc_words.specs.declared.command.CallOptions.{CallOptions}
use Rattle.tnc_words.specs.declared.command.ServeOptions.{ServeOptions}
use Rattle.tnc_words.specs.Commands.{Asks, IsCall, IsServe}
use Rattle.live_receiver.specs.Listening.{CanBeAskedBy}
use Rattle.tnc_main.specs.Serving.{detection_of, listening_of}
use Rattle.tnc_main.specs.declared.live_command.LiveCommand.{LiveCommand}
use Rattle.tnc_main.specs.declared.live_command.LiveCommand.TheVariants.{Serve as LiveServe, Record as LiveRecord}
use Rattle.tnc_main.specs.declared.live_command.LiveCommand.TheVariants.{Call as LiveCall}

-- a live command, as the words know it
abbrev pub command_of : LiveCommand → Command
command_of (LiveServe options) = Serve options
command_of (LiveRecord options) = Record options
command_of (LiveCall options) = Call options

-- the options are within their ranges
abbrev pub CanRunLive : LiveCommand → Type 0
CanRunLive (LiveServe options) =
    ((window : ℕ) → ¬ IsRefusedWindow options.params window)
    × CanBeAskedBy (listening_of options.modem) (detection_of options.dcd)
CanRunLive (LiveRecord options) = (1 ≤ options.keep) × (options.keep ≤ 17280000)
CanRunLive (LiveCall options) = (options.expect ≤ 1000000) × (1 ≤ options.polls) × (options.polls ≤ 1000000)

-- The words ask for no live command.
abbrev pub AskNoLive : List (List ℕ) → Type 0
AskNoLive words = (live : LiveCommand) → ¬ Asks words (command_of live)

-- The words ask for no command that has to do with ports.
pub record AskNoPorts (words : List (List ℕ)) : Type 0 where
  pub serve : (options : ServeOptions) → ¬ IsServe words options
  pub call : (options : CallOptions) → ¬ IsCall words options
