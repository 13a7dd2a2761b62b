-- How much a tick may do.
use Rattle.std.specs.Prelude.{ℕ, if◌then◌else◌, Option, Some, None}
use Rattle.link_machine.specs.declared.control.Control.{Control}
use Rattle.link_machine.specs.Ticks.{runs_out}

-- 1 if a timer runs out with the next tick
abbrev pub out_of : Option ℕ → ℕ
out_of None = 0
out_of (Some left) = if runs_out left then 1 else 0

-- T3 sends nothing
abbrev pub outs : Control → ℕ
outs c = out_of c.t1

-- 1 if a disconnect was asked for
abbrev pub quits : Control → ℕ
quits c = if c.quit then 1 else 0
