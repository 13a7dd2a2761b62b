use Rattle.link_world.proofs.Common.{refl, Result, Err, NewFault, BadWindow}
use Rattle.link_world.specs.declared.side.Side.{Side}
use Rattle.link_world.proofs.ErrorLemmas.{same_error}
use Rattle.link_world.proofs.side.Side.new.Goals as goal

pub returns-in-Err-clause-bad_window : goal.returns-in-Err-clause-bad_window
returns-in-Err-clause-bad_window c = λ window.
    let passed : Result Side NewFault = Err c.in-Err.fault in
    same_error c.new.result passed c.in-Err.fault (BadWindow window) c.in-Err.is refl (c.new.ensures.bad_window window)
