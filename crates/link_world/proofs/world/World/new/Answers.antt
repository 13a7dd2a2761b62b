use Rattle.link_world.proofs.Common.{inl, inr, refl, Result, Err, NewFault, BadWindow}
use Rattle.link_world.specs.declared.world.World.{World}
use Rattle.link_world.proofs.WindowLemmas.{none_refused, refused_is}
use Rattle.link_world.proofs.world.World.new.Goals as goal

pub returns-in-Err-clause-bad_window : goal.returns-in-Err-clause-bad_window
returns-in-Err-clause-bad_window c = λ window.
    let found = c.in-Err.field-0.window in
    let made : Result World NewFault = Err (BadWindow found) in
    let says = c.check_windows.ensures.bad_window in
    let one = refused_is made c.check_windows.result c.args.a found window refl c.in-Err.is says in (
      (λ e. inl (one.0 e)),
      (λ r. elim r [
        | inl s ↦ one.1 s
        | inr t ↦ absurd (none_refused c.args.a found t.0 ((says found).0 c.in-Err.is))
      ]),
    )

pub returns-in-Err-check_windows-clause-bad_window : goal.returns-in-Err-check_windows-clause-bad_window
returns-in-Err-check_windows-clause-bad_window c = λ window.
    let found = c.in-Err-check_windows.field-0.window in
    let made : Result World NewFault = Err (BadWindow found) in
    let one = refused_is made c.check_windows-2.result c.args.b found window refl c.in-Err-check_windows.is
    c.check_windows-2.ensures.bad_window in (
      (λ e. inr (c.in_default.ensures.windows, one.0 e)),
      (λ r. elim r [
        | inl s ↦ absurd (none_refused c.args.a window c.in_default.ensures.windows s)
        | inr t ↦ one.1 t.1
      ]),
    )
