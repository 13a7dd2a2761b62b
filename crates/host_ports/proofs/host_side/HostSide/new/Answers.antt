use Rattle.host_ports.proofs.Common.{refl}
use Rattle.host_ports.proofs.ResultLemmas.{ok_or_err, err_again, err_there}
use Rattle.host_ports.proofs.host_side.HostSide.new.Goals as goal

pub returns-in-Err-clause-bad_window : goal.returns-in-Err-clause-bad_window
returns-in-Err-clause-bad_window c = λ window. (
  λ e. (c.new.ensures.bad_window window).0 (err_again c.new.result _ _ c.in-Err.is e),
  λ refused. err_there c.new.result _ _ c.in-Err.is ((c.new.ensures.bad_window window).1 refused),
)

pub returns-clause-bad_window : goal.returns-clause-bad_window
returns-clause-bad_window c = λ window. (
  λ e. absurd (ok_or_err _ _ _ refl e),
  λ refused. absurd (ok_or_err c.new.result _ _ c.in-Ok.is ((c.new.ensures.bad_window window).1 refused)),
)
