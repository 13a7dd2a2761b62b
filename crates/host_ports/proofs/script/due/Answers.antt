use Rattle.host_ports.proofs.Common.{sym, ap, ◌∙◌, ◌++◌, append_assoc, take, scripted_for, due_of}
use Rattle.host_ports.proofs.ScriptLemmas.{scripted_for_more}
use Rattle.host_ports.proofs.script.due.Goals as goal

pub loop-entry-preserved : goal.loop-entry-preserved
loop-entry-preserved c =
    let number = c.args.number in
    let script = c.args.script.now in
    let before = scripted_for number (take c.loop-entry.entry-index script) in
    c.in_ok-add_due.ensures ∙ ap (λ all. all ++ due_of number c.entry-item.result) c.loop-entry.invariant
    ∙ append_assoc c.args.waiting.now before (due_of number c.entry-item.result)
    ∙ ap (λ more. c.args.waiting.now ++ more) (ap (λ entry. before ++ due_of number entry) c.entry-item.is
    ∙ sym (scripted_for_more number script c.loop-entry.entry-index c.entry-item.result c.loop-entry-test.true))
