use Rattle.std.proofs.Common.{◌∙◌, ◌-◌, ap}
use Rattle.frame_merge.specs.Merged.{not_below}
use Rattle.frame_merge.specs.Order.{in_order}
use Rattle.block_receiver.proofs.progress.Progress.finish.Goals as goal

pub returns-clause-rest : goal.returns-clause-rest
returns-clause-rest c = λ unfinished puts given h.
    c.in_ok-rest.ensures.last c.finish.ensures.least puts given (c.finish.ensures.stands_for puts given h)

pub returns-clause-kept : goal.returns-clause-kept
returns-clause-kept c = λ unfinished puts given h.
    c.in_ok-rest.ensures.kept puts given (c.finish.ensures.stands_for puts given h)
    ∙ ap (λ far. not_below (far - 15) (in_order puts)) c.finish.ensures.least
