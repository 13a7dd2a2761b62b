-- The bits so far have been sent.
use Rattle.channel_access.proofs.Common.{◌≡◌, length, take, with_bits, tick_start, samples_of_bits}
use Rattle.channel_access.proofs.sending.Sending.tick.Given as goal

abbrev pub invariant-loop-count : goal.invariant-loop-count
invariant-loop-count l = record {
  sending : l.self ≡ (with_bits l.modem l.count (tick_start l.fn.self l.fn.queue)).sending;
  waiting : l.queue ≡ (with_bits l.modem l.count (tick_start l.fn.self l.fn.queue)).waiting;
  samples : take (samples_of_bits l.modem l.count) l.samples
      ≡ (with_bits l.modem l.count (tick_start l.fn.self l.fn.queue)).samples;
  long : length l.samples ≡ 96;
  sent : l.sent ≡ (with_bits l.modem l.count (tick_start l.fn.self l.fn.queue)).sent;
}
