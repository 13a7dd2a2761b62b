-- Blocks are read, and the first frame that is not among those that were sent has the octets.
use Rattle.channel_bench.proofs.Common.{◌≡◌, ◌∙◌, List, ℕ, End, true, false, sym, ap, length, nat_le, other, sent_by}
use Rattle.channel_bench.proofs.Common.{is_frame_of, slice_get, ways_of, ◌&&◌}
use Rattle.std.proofs.lemmas.Bool.{le-leb, lt-leb}
use Rattle.channel_bench.proofs.HearLemmas.{coming_is, first_fails, has_coming, second_fails, third_decides}
use Rattle.channel_bench.proofs.side.Side.is_coming.Goals as goal

pub returns-then-self-number : goal.returns-then-self-number
returns-then-self-number c = λ end n h.
    let self = c.args.self.now in
    let item = c.args.item.now in
    let reads = c.reads_blocks.ensures n.side.blocks n.side.samples h.side_is.ear in
    let size : c.len-number.result ≡ length self.towards.items = c.len-number.ensures ∙ self.towards.ok.0 in
    let few : nat_le self.matched (length self.towards.items) ≡ true =
    ap (nat_le self.matched) (sym size) ∙ le-leb self.matched c.len-number.result c.if-self-number.true in
    let there : c.has_queued.result ≡ has_coming end item n =
    c.has_queued.ensures (ways_of n.common) h.shared_is.flight
    ∙ ap (λ (e : End). is_frame_of c.as_slice-octets.result.now
    (slice_get (sent_by (other e) (ways_of n.common)).queued c.len-number.result)) h.side_is.end_is
    ∙ ap (λ (octets : List ℕ). is_frame_of octets
    (slice_get (sent_by (other end) (ways_of n.common)).queued c.len-number.result)) c.as_slice-octets.ensures.list
    ∙ ap (λ (k : ℕ). is_frame_of item.octets (slice_get (sent_by (other end) (ways_of n.common)).queued k))
    (size ∙ ap length h.side_is.towards) in
    there ∙ third_decides c.reads_blocks.result (nat_le self.matched (length self.towards.items)) (has_coming end item n)
    c.if-reads_blocks.true few
    ∙ coming_is end item n c.reads_blocks.result self.matched self.towards.items reads h.side_is.matched h.side_is.towards

pub returns-else-self-number : goal.returns-else-self-number
returns-else-self-number c = λ end n h.
    let self = c.args.self.now in
    let item = c.args.item.now in
    let reads = c.reads_blocks.ensures n.side.blocks n.side.samples h.side_is.ear in
    let size = ap (nat_le self.matched) (c.len-number.ensures ∙ self.towards.ok.0) in
    let many : nat_le self.matched (length self.towards.items) ≡ false =
    sym size ∙ lt-leb self.matched c.len-number.result c.if-self-number.false in
    size ∙ second_fails c.reads_blocks.result (nat_le self.matched (length self.towards.items)) (has_coming end item n)
    c.if-reads_blocks.true many
    ∙ coming_is end item n c.reads_blocks.result self.matched self.towards.items reads h.side_is.matched h.side_is.towards

pub returns-else-reads_blocks : goal.returns-else-reads_blocks
returns-else-reads_blocks c = λ end n h.
    let self = c.args.self.now in
    let item = c.args.item.now in
    let reads = c.reads_blocks.ensures n.side.blocks n.side.samples h.side_is.ear in
    first_fails c.reads_blocks.result (nat_le self.matched (length self.towards.items) && has_coming end item n)
    c.if-reads_blocks.false
    ∙ coming_is end item n c.reads_blocks.result self.matched self.towards.items reads h.side_is.matched h.side_is.towards
