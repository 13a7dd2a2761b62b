-- No entry so far is for the call.
use Rattle.std.proofs.Common.{◌≡◌, drop}
use Rattle.key_port.specs.KeyScripts.{scripted}
use Rattle.key_port.proofs.mem_key.scripted.Given as goal

abbrev pub invariant-loop-entry : goal.invariant-loop-entry
invariant-loop-entry l = scripted l.call (drop l.entry-index l.script) ≡ scripted l.call l.script
