use Rattle.sensitive_receiver.proofs.MergedLemmas.{adds, can_be_put}
use Rattle.sensitive_receiver.proofs.decoder.AllLanesLanes.hear.Goals as goal

pub returns-clause-heard : goal.returns-clause-heard
returns-clause-heard c = λ x h.
    let eight = c.in_ok-found.ensures.found x h.0 in
    let added = c.in_ok-added.ensures.found x h.1 in (
      (eight.0, added.0),
      adds x c.args.block.now c.in_ok-found.found.items c.in_ok-added.added.items c.in_ok-all.all.items
          c.in_ok-all.ensures eight.1 added.1,
    )

pub returns-clause-bounds : goal.returns-clause-bounds
returns-clause-bounds c =
    can_be_put c.args._position c.args.self.now.bank.position c.args.self.now.added.position c.in_ok-found.found.items
    c.in_ok-added.added.items c.in_ok-all.all.items c.in_ok-all.ensures c.requires.at.0 c.requires.at.1
    c.in_ok-found.ensures.bounds c.in_ok-found.ensures.past c.in_ok-added.ensures.bounds c.in_ok-added.ensures.late
