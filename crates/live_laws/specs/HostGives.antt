-- What hosts give a link over D messages (AGWPE), set-up by set-up: the bodies in the order in which hosts send them, each
-- as far as the link takes it.
use Rattle.std.specs.Prelude.{◌≡◌, ℕ, Bool, false, if◌then◌else◌, List, [], ◌∷◌, ◌++◌, All, fold, is_some}
use Rattle.std.specs.List.{flat_map}
use Rattle.link_machine.specs.declared.acts.Told.{Told}
use Rattle.link_machine.specs.declared.acts.Told.TheVariants.{Opened, Given, Ended}
use Rattle.link_machine.specs.declared.state.LinkState.{LinkState}
use Rattle.link_machine.specs.declared.state.LinkState.TheVariants.{Idle, Calling, Up, Releasing}
use Rattle.link_machine.specs.Event.{Event as LinkEvent}
use Rattle.link_machine.specs.Event.Event.{Connect as LinkConnect, Send as LinkSend, Disconnect as LinkDisconnect}
use Rattle.link_machine.specs.Event.Event.{Hear as LinkHear, Seize as LinkSeize, Tick as LinkTick}
use Rattle.link_machine.specs.Step.{refusal_of}
use Rattle.station_laws.specs.LinkSteps.{LinkStep}
use Rattle.station_laws.specs.RunsTell.{told_in}
use Rattle.call_laws.specs.FirstPart.{IsFirstPart}
use Rattle.live_laws.specs.HostActs.{HostAct}
use Rattle.live_laws.specs.HostActs.HostAct.{Gives, Does}
use Rattle.live_laws.specs.HostData.{more_for_last}

-- ---- what the link takes of a body

-- whether the link refuses an event: packets, if no set-up or call runs, a disconnect was asked for, or it is full
abbrev pub is_refused : LinkStep → Bool
is_refused step = is_some (refusal_of step.link.machine step.event)

-- the octets of an event that is a packet
abbrev pub octets_sent : LinkEvent → List ℕ
octets_sent LinkConnect = []
octets_sent (LinkSend packet) = packet.octets
octets_sent LinkDisconnect = []
octets_sent (LinkHear frame) = []
octets_sent (LinkTick still) = []
octets_sent (LinkSeize last full) = []

abbrev pub taken_by : LinkStep → List ℕ
taken_by step = if is_refused step then [] else octets_sent step.event

abbrev pub taken_in : List LinkStep → List ℕ
taken_in sends = flat_map taken_by sends

-- A first part of a body is taken: all of it, if the link refuses none of its packets.
abbrev pub IsBodyTaken : HostAct → Type 0
IsBodyTaken (Gives body link sends) =
    IsFirstPart (taken_in sends) body
    × (All (λ (send : LinkStep). is_refused send ≡ false) sends → taken_in sends ≡ body)
IsBodyTaken (Does step) = Unit {0}

-- ---- set-up by set-up

-- the octets of each set-up, and those given in the call that is under way
pub record Gave : Type 0 where
  pub set_ups : List (List ℕ)
  pub waiting : List ℕ

abbrev pub none_gave : Gave
none_gave = record { set_ups = []; waiting = [] }

-- what is given in a call waits for the set-up that it opens, and is given up with the call
abbrev pub waits_in : LinkState → List ℕ → List ℕ
waits_in Idle waiting = []
waits_in Calling waiting = waiting
waits_in Up waiting = []
waits_in Releasing waiting = []

-- what is given to a link that is up is of the set-up that runs
abbrev pub gives_more : LinkState → List ℕ → Gave → Gave
gives_more Idle octets gave = gave
gives_more Calling octets gave = record gave { waiting = gave.waiting ++ octets }
gives_more Up octets gave = record gave { set_ups = more_for_last octets gave.set_ups }
gives_more Releasing octets gave = gave

-- a set-up begins with what waits
abbrev pub opens_with : List ℕ → List (List ℕ) → Told → List (List ℕ)
opens_with waiting set_ups (Opened ours) = set_ups ++ waiting ∷ []
opens_with waiting set_ups (Given packet) = set_ups
opens_with waiting set_ups (Ended why) = set_ups

abbrev pub after_event : LinkStep → Gave → Gave
after_event step gave =
    let waiting = waits_in step.link.machine.control.state gave.waiting in
    record { set_ups = fold (opens_with waiting) gave.set_ups (told_in step); waiting = waiting }

abbrev pub after_act : HostAct → Gave → Gave
after_act (Gives body link sends) gave = gives_more link.machine.control.state (taken_in sends) gave
after_act (Does step) gave = after_event step gave

abbrev pub gave_after : List HostAct → Gave → Gave
gave_after [] gave = gave
gave_after (act ∷ acts) gave = gave_after acts (after_act act gave)

-- the octets of D messages that hosts gave the link in each of its set-ups
abbrev pub octets_given : List HostAct → List (List ℕ)
octets_given acts = (gave_after acts none_gave).set_ups
