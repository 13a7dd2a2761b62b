use Rattle.sample_ring.proofs.Common.{writer_ring}
use Rattle.sample_ring.proofs.Making.{HasMade}
use Rattle.sample_ring.proofs.writer.Writer.first_readers.Given as goal

abbrev pub invariant-loop : goal.invariant-loop
invariant-loop l = HasMade (writer_ring l.initial.self) l.self l.ends.items l.counter
