use Rattle.std.specs.Prelude.{length}
use Rattle.frame_monitor.proofs.text.+push_repeaters.Given as goal

-- fewer repeaters are left
abbrev pub decreases-push_repeaters : goal.decreases-push_repeaters
decreases-push_repeaters l = length l.hops.now
