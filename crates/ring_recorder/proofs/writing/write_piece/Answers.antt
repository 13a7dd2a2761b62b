use Rattle.std.proofs.Common.{◌≡◌, ℕ, List, subst}
use Rattle.std.specs.Prelude.{OnErr}
use Rattle.tnc_base.specs.Streams.{WrotePart}
use Rattle.ring_recorder.proofs.writing.write_piece.Goals as goal

pub returns-clause-partly : goal.returns-clause-partly
returns-clause-partly g c before is =
    subst (λ (text : List ℕ). OnErr c.write.result (WrotePart before text (g.O.Sink.told c.write.new.self).written))
    c.write_i16_into.ensures (c.write.ensures.partly before is)
