use Rattle.sample_ring.proofs.Common.{ring_id, ring_len}
use Rattle.sample_ring.specs.Ends.{all_published}
use Rattle.sample_ring.proofs.Closing.{has_kept_more}
use Rattle.sample_ring.proofs.ring.Ring.close.Goals as goal

pub loop-reader-preserved : goal.loop-reader-preserved
loop-reader-preserved c =
    let self = c.args.self in
    let before = c.loop-reader.reader-iterator.rest in
    let after = c.next.new.self.rest in
    has_kept_more (ring_id self) (ring_len self) (all_published c.args.done)
    c.args.readers.items c.loop-reader.history c.keep.new.self before.items after.items before.len after.len
    c.in-Some.reader c.loop-reader.invariant
    c.in-Some.ensures.steps.0 c.in-Some.ensures.steps.1 c.keep.ensures.ring c.keep.ensures.list c.keep.ensures.kept
    c.keep.ensures.stand
