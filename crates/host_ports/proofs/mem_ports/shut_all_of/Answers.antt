use Rattle.host_ports.proofs.Common.{◌<◌, length, set, ap, subst, ◌∙◌, shut_one}
use Rattle.host_ports.proofs.ScriptLemmas.{shut_more}
use Rattle.host_ports.proofs.mem_ports.shut_all_of.Goals as goal

pub loop-at-preserved : goal.loop-at-preserved
loop-at-preserved c =
    let now = c.loop-at.came.items in
    let at = c.loop-at.at in
    let long = c.len-at-end.ensures in
    let ok = c.args.came.now.ok in
    let below = c.loop-at-test.true in
    let within : at < length c.args.came.now.items = subst (λ n. at < n) (long ∙ ok.0) below in
    shut_more c.args.id at c.args.came.now.items now (set now at c.shut_one.new.one)
    c.index_mut.result.now within c.loop-at.invariant
    (ap (set now at) (c.shut_one.ensures ∙ ap (shut_one c.args.id) c.index_mut.ensures.value))
