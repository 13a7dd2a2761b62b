use Rattle.host_ports.proofs.Common.{◌<◌, length, ap, subst, ◌∙◌}
use Rattle.host_ports.proofs.RealLemmas.{ids_kept}
use Rattle.host_ports.proofs.sockets.note_all.Goals as goal

pub loop-at-preserved : goal.loop-at-preserved
loop-at-preserved c =
    let ok = c.args.sockets.now.ok in
    let at = c.loop-at.at in
    let within : at < length c.args.sockets.now.items =
    subst (λ n. at < n) (c.len-at-end.ensures ∙ ok.0) c.loop-at-test.true in
    ids_kept c.args.sockets.now.items c.loop-at.sockets.items at c.index_mut.result.now c.note_one.new.socket
    c.loop-at.invariant within (c.note_one.ensures ∙ ap (λ s. s.id) c.index_mut.ensures.value)
