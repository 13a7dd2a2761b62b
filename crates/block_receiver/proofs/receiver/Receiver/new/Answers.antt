use Rattle.std.proofs.Common.{◌≡◌, ap, sym, subst, replicate, ◌∙◌}
use Rattle.block_receiver.specs.declared.progress.Progress.{Progress}
use Rattle.block_receiver.proofs.ReceiverLemmas.{merged_none}
use Rattle.block_receiver.proofs.receiver.Receiver.new.Goals as goal

pub returns-clause-stands_for : goal.returns-clause-stands_for
returns-clause-stands_for g c = record {
  spent = ap (λ (p : Progress). p.spent) c.new-2.ensures;
  finished = ap (λ (p : Progress). p.finished) c.new-2.ensures;
  count = ap (λ (p : Progress). p.position) c.new-2.ensures;
  lanes = c.in_ok-start.ensures.taken;
  merged = merged_none g.L.Lanes.hearing c.laws.ensures c.in_ok-new.field-0 c.in_ok-new.ensures.stands_for;
}

pub invariant_of-result : goal.invariant_of-result
invariant_of-result g c = λ spent unfinished.
    let hearing = g.L.Lanes.hearing in
    let at : c.new-2.result.position ≡ 0 = ap (λ (p : Progress). p.position) c.new-2.ensures in (
      subst (λ n. hearing.IsAt c.in_ok-start.field-0 n) (sym at) c.in_ok-start.ensures.at,
      c.in_ok-new.ensures.marks ∙ ap (λ n. replicate n 0) c.count.ensures
          ∙ ap (replicate hearing.lanes) (sym (ap hearing.settled at ∙ c.laws.ensures.begins)),
    )
