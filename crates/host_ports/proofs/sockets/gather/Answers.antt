use Rattle.host_ports.proofs.Common.{◌≡◌, ◌<◌, length, set, ap, subst, ◌∙◌, ids_of_sockets}
use Rattle.host_ports.proofs.RealLemmas.{ids_kept}
use Rattle.host_ports.proofs.sockets.gather.Goals as goal

pub returns-in_err-take_unpaused-clause-same : goal.returns-in_err-take_unpaused-clause-same
returns-in_err-take_unpaused-clause-same c =
    let ok = c.args.sockets.now.ok in
    let at = c.loop-at.at in
    let within : at < length c.args.sockets.now.items =
    subst (λ n. at < n) (c.len-at-end.ensures ∙ ok.0) c.loop-at-test.true in
    ids_kept c.args.sockets.now.items c.loop-at.sockets.items at c.index_mut.result.now
    c.take_unpaused.new.socket c.loop-at.invariant.same within
    (c.take_unpaused.ensures.id ∙ ap (λ s. s.id) c.index_mut.ensures.value)

pub loop-at-preserved : goal.loop-at-preserved
loop-at-preserved c =
    let ok = c.args.sockets.now.ok in
    let at = c.loop-at.at in
    let within : at < length c.args.sockets.now.items =
    subst (λ n. at < n) (c.len-at-end.ensures ∙ ok.0) c.loop-at-test.true in
    let same : ids_of_sockets (set c.loop-at.sockets.items at c.take_unpaused.new.socket)
    ≡ ids_of_sockets c.args.sockets.now.items =
    ids_kept c.args.sockets.now.items c.loop-at.sockets.items at c.index_mut.result.now
    c.take_unpaused.new.socket c.loop-at.invariant.same within
    (c.take_unpaused.ensures.id ∙ ap (λ s. s.id) c.index_mut.ensures.value) in
    record {
      kept = λ may. c.in_ok-take_unpaused.ensures.kept (c.loop-at.invariant.kept may);
      joined = c.in_ok-take_unpaused.ensures.joined ∙ c.loop-at.invariant.joined;
      same = same;
    }
