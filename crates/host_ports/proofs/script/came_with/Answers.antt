use Rattle.host_ports.proofs.Common.{sym, ap, ◌∙◌, ◌++◌, append_assoc, take, joined_in, joined_of}
use Rattle.host_ports.proofs.ScriptLemmas.{joined_in_more}
use Rattle.host_ports.proofs.script.came_with.Goals as goal

pub loop-event-preserved : goal.loop-event-preserved
loop-event-preserved c =
    let events = c.args.events.now in
    let before = joined_in (take c.loop-event.event-index events) in
    c.in_ok-add_joined.ensures ∙ ap (λ all. all ++ joined_of c.event-item.result) c.loop-event.invariant
    ∙ append_assoc c.args.came.now before (joined_of c.event-item.result)
    ∙ ap (λ more. c.args.came.now ++ more) (ap (λ event. before ++ joined_of event) c.event-item.is
    ∙ sym (joined_in_more events c.loop-event.event-index c.event-item.result c.loop-event-test.true))
