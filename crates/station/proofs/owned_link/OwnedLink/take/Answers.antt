use Rattle.station.proofs.Common.{◌≡◌, IfOk, OnOk, sym, subst, Done, Connect, Disconnect, step, done_of, OwnedLink}
use Rattle.station.proofs.Common.{event_of, stepped_link, StandsForLink}
use Rattle.link_machine.specs.Event.Event.{Send}
use Rattle.station.specs.declared.link_event.LinkEvent.{LinkEvent}
use Rattle.station.proofs.LinkLemmas.{passes_acts, passes_stands, link_stands}
use Rattle.station.proofs.MemoryLemmas.{took_if, took_on}
use Rattle.station.proofs.owned_link.OwnedLink.take.Goals as goal

pub returns-in-Connect-clause-acts : goal.returns-in-Connect-clause-acts
returns-in-Connect-clause-acts c = λ link h.
    let held = c.args.self.now.machine in
    subst (λ (event : LinkEvent). IfOk c.took.result (λ acts. acts ≡ done_of (step link.machine (event_of event))))
    (sym c.in-Connect.is)
    (took_if (λ (acts : Done). acts ≡ done_of (step link.machine Connect)) c.unless_refused.result c.took.result
    c.took.ensures.value
    (passes_acts held link.machine Connect c.connect.result c.unless_refused.result h.machine
    (c.connect.ensures.step link.machine h.machine) c.connect.ensures.fault c.unless_refused.ensures))

pub returns-in-Connect-clause-stands_for : goal.returns-in-Connect-clause-stands_for
returns-in-Connect-clause-stands_for c = λ link h.
    let held : OwnedLink = c.args.self.now in
    let new = c.connect.new.self in
    subst (λ (event : LinkEvent). OnOk c.took.result
    (StandsForLink (record held { machine = new }) (stepped_link (event_of event) link))) (sym c.in-Connect.is)
    (took_on (StandsForLink (record held { machine = new }) (stepped_link Connect link)) c.unless_refused.result
    c.took.result c.took.ensures.value
    (link_stands held new link Connect c.unless_refused.result h
    (passes_stands held.machine new link.machine Connect c.connect.result c.unless_refused.result h.machine
    (c.connect.ensures.stands_for link.machine h.machine)
    c.connect.ensures.fault c.connect.ensures.unchanged c.unless_refused.ensures)))

pub returns-in-Send-clause-acts : goal.returns-in-Send-clause-acts
returns-in-Send-clause-acts c = λ link h.
    let held = c.args.self.now.machine in
    let packet = c.in-Send.packet in
    subst (λ (event : LinkEvent). IfOk c.took-in-Send.result (λ acts. acts ≡ done_of (step link.machine
    (event_of event))))
    (sym c.in-Send.is)
    (took_if (λ (acts : Done). acts ≡ done_of (step link.machine
    (Send packet))) c.unless_refused-in-Send.result c.took-in-Send.result
    c.took-in-Send.ensures.value
    (passes_acts held link.machine (Send packet) c.send.result c.unless_refused-in-Send.result h.machine
    (c.send.ensures.step link.machine h.machine) c.send.ensures.fault c.unless_refused-in-Send.ensures))

pub returns-in-Send-clause-stands_for : goal.returns-in-Send-clause-stands_for
returns-in-Send-clause-stands_for c = λ link h.
    let held : OwnedLink = c.args.self.now in
    let new = c.send.new.self in
    let packet = c.in-Send.packet in
    subst (λ (event : LinkEvent). OnOk c.took-in-Send.result
    (StandsForLink (record held { machine = new }) (stepped_link (event_of event) link))) (sym c.in-Send.is)
    (took_on (StandsForLink (record held { machine = new }) (stepped_link
    (Send packet) link)) c.unless_refused-in-Send.result
    c.took-in-Send.result c.took-in-Send.ensures.value
    (link_stands held new link (Send packet) c.unless_refused-in-Send.result h
    (passes_stands held.machine new link.machine (Send packet) c.send.result c.unless_refused-in-Send.result h.machine
    (c.send.ensures.stands_for link.machine h.machine)
    c.send.ensures.fault c.send.ensures.unchanged c.unless_refused-in-Send.ensures)))

pub returns-in-Disconnect-clause-acts : goal.returns-in-Disconnect-clause-acts
returns-in-Disconnect-clause-acts c = λ link h.
    let held = c.args.self.now.machine in
    subst (λ (event : LinkEvent). IfOk c.took-in-Disconnect.result (λ acts. acts ≡ done_of (step link.machine
    (event_of event))))
    (sym c.in-Disconnect.is)
    (took_if (λ (acts : Done). acts ≡ done_of
    (step link.machine Disconnect)) c.unless_refused-in-Disconnect.result c.took-in-Disconnect.result
    c.took-in-Disconnect.ensures.value
    (passes_acts held link.machine Disconnect c.disconnect.result c.unless_refused-in-Disconnect.result h.machine
    (c.disconnect.ensures.step link.machine h.machine) c.disconnect.ensures.fault c.unless_refused-in-Disconnect.ensures))

pub returns-in-Disconnect-clause-stands_for : goal.returns-in-Disconnect-clause-stands_for
returns-in-Disconnect-clause-stands_for c = λ link h.
    let held : OwnedLink = c.args.self.now in
    let new = c.disconnect.new.self in
    subst (λ (event : LinkEvent). OnOk c.took-in-Disconnect.result
    (StandsForLink (record held { machine = new }) (stepped_link (event_of event) link))) (sym c.in-Disconnect.is)
    (took_on (StandsForLink (record held { machine = new })
    (stepped_link Disconnect link)) c.unless_refused-in-Disconnect.result
    c.took-in-Disconnect.result c.took-in-Disconnect.ensures.value
    (link_stands held new link Disconnect c.unless_refused-in-Disconnect.result h
    (passes_stands held.machine new link.machine Disconnect c.disconnect.result c.unless_refused-in-Disconnect.result h.machine
    (c.disconnect.ensures.stands_for link.machine h.machine)
    c.disconnect.ensures.fault c.disconnect.ensures.unchanged c.unless_refused-in-Disconnect.ensures)))
