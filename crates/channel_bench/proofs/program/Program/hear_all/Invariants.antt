-- The messages so far are heeded.
use Rattle.channel_bench.proofs.Common.{◌≡◌, take, told_all}
use Rattle.channel_bench.proofs.program.Program.hear_all.Given as goal

abbrev pub invariant-loop-message : goal.invariant-loop-message
invariant-loop-message l = l.self ≡ told_all (take l.message-index l.messages) l.fn.self
