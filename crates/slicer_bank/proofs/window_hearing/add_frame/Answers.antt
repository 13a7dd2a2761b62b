use Rattle.slicer_bank.proofs.Common.{◌∙◌}
use Rattle.slicer_bank.proofs.window_hearing.add_frame.Goals as goal

pub returns-clause-found : goal.returns-clause-found
returns-clause-found c = (
  c.in_ok-octets.octets,
  c.in_ok-push.ensures.items,
  λ other whole holds. c.in_ok-octets.ensures ∙ c.octets.ensures other whole holds,
)
