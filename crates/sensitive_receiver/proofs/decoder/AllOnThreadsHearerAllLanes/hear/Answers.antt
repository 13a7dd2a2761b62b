use Rattle.sensitive_receiver.proofs.Common.{◌≡◌, ◌+◌, ◌∙◌, ℤ, List, ap, length}
use Rattle.sensitive_receiver.proofs.MergedLemmas.{adds, can_be_put}
use Rattle.sensitive_receiver.proofs.decoder.AllOnThreadsHearerAllLanes.hear.Goals as goal

pub returns-clause-at : goal.returns-clause-at
returns-clause-at g c =
    let block : List ℤ = c.args.block.now in (
      c.in_ok-found.ensures.eight_position ∙ ap (λ n. n + length block) c.requires.at.0,
      c.in_ok-found.ensures.added.position ∙ ap (λ n. n + length block) c.requires.at.1,
    )

pub returns-clause-heard : goal.returns-clause-heard
returns-clause-heard g c = λ x h.
    let eight = c.in_ok-found.ensures.eight x h.0 in
    let late = c.in_ok-found.ensures.added.found x h.1 in (
      (eight.0, late.0),
      adds x c.args.block.now c.in_ok-found.found.items c.in_ok-found.added.items c.in_ok-all.all.items
          c.in_ok-all.ensures eight.1 late.1,
    )

pub returns-clause-bounds : goal.returns-clause-bounds
returns-clause-bounds g c =
    let was = c.args.lanes.now in
    let heard = c.in_ok-found.ensures in
    can_be_put c.args._position was.bank.position was.added.position c.in_ok-found.found.items
    c.in_ok-found.added.items c.in_ok-all.all.items c.in_ok-all.ensures c.requires.at.0 c.requires.at.1
    heard.eight_bounds heard.eight_past heard.added.bounds heard.added.late
