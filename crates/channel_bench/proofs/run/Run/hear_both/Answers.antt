-- A hears before B.
use Rattle.channel_bench.proofs.Common.{List, subst, Candidate, A, B, AtEnd, AreHeardAt}
use Rattle.channel_bench.proofs.TickLemmas.{hears_made}
use Rattle.channel_bench.proofs.run.Run.hear_both.Goals as goal

pub returns-clause-heard : goal.returns-clause-heard
returns-clause-heard c = λ w bench h ready_a ready_b.
    let i = c.in_ok-hear.ensures.heard w bench h in
    let j = c.in_ok-hear-2.ensures.heard w i.0 i.2 in
    let k = c.close.ensures.closed w j.0 j.2 in
    let a = subst (λ (xs : List Candidate). AtEnd A (AreHeardAt A xs) bench i.0) c.deref.ensures.value i.1 in
    let b = subst (λ (xs : List Candidate). AtEnd B (AreHeardAt B xs) i.0 j.0) c.deref-2.ensures.value j.1 in (
      k.0,
      hears_made w bench i.0 j.0 k.0 c.args.ready.now.at_a.items
          c.args.ready.now.at_b.items ready_a ready_b a b k.1,
      k.2,
    )
