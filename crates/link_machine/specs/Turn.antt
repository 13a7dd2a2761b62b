-- One event of a link, act by act: what the machine is after the acts so far, and what they sent and told.
use Rattle.std.specs.Prelude.{List, [], ◌∷◌, ◌++◌}
use Rattle.link_machine.specs.declared.acts.Told.{Told}
use Rattle.link_machine.specs.declared.control.Control.{Control}
use Rattle.link_machine.specs.Machine.{Machine}
use Rattle.link_machine.specs.Sent.{Sent, SentIn, sent_in}

pub record Turn : Type 0 where
  pub now : Machine
  pub sent : List SentIn
  pub told : List Told

abbrev pub Act : Type 0
Act = Turn → Turn

-- before any act
abbrev pub begin : Machine → Turn
begin m = record { now = m; sent = []; told = [] }

-- an act that only changes the machine
abbrev pub changing : (Machine → Machine) → Act
changing change turn = record turn { now = change turn.now }

-- an act that only changes its state, conditions, retries and timers
abbrev pub setting : (Control → Control) → Act
setting change turn = record turn { now = record turn.now { control = change turn.now.control } }

-- a frame goes out, in the modulus that the link then has
abbrev pub sending : Sent → Act
sending frame turn = record turn { sent = turn.sent ++ sent_in turn.now.incoming.modulus frame ∷ [] }

abbrev pub telling : Told → Act
telling item turn = record turn { told = turn.told ++ item ∷ [] }

-- no act
abbrev pub nothing : Act
nothing turn = turn

-- acts one after another
abbrev pub in_order : List Act → Act
in_order [] turn = turn
in_order (act ∷ acts) turn = in_order acts (act turn)
