-- The start of a pump, and what a spawner counts of it.
use Rattle.std.specs.Prelude.{◌≡◌, ℕ, Bool, true, false}
use Rattle.tnc_base.specs.Faults.{HasRisen}
use Rattle.tnc_ports.specs.declared.starting.Start.{Start}

-- the lock that is set once, to whether the pump begins
abbrev pub lock_of : Start → ℕ
lock_of start = start.begins.id

-- a spawner counts a fault exactly if the pump does not begin
abbrev pub CountsUnless : Bool → ℕ → ℕ → Type 0
CountsUnless true before after = after ≡ before
CountsUnless false before after = HasRisen before after
