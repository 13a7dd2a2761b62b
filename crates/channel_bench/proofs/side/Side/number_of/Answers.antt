-- A match among the frames that were sent comes first, and then the frame that is on its way.
use Rattle.channel_bench.proofs.Common.{◌≡◌, ◌+◌, Some, None, sym, ap, ◌∙◌, length, drop, position}
use Rattle.channel_bench.proofs.Common.{is_coming, is_match, match_of, or_coming}
use Rattle.channel_bench.proofs.HearLemmas.{match_at}
use Rattle.channel_bench.proofs.side.Side.number_of.Goals as goal

pub returns-in-Some-clause-number : goal.returns-in-Some-clause-number
returns-in-Some-clause-number c = λ end n h.
    let item = c.args.item.now in
    let self = c.args.self.now in
    let place = c.in-Some.place in
    let blocks = c.reads_blocks.ensures n.side.blocks n.side.samples h.side_is.ear in
    let found : match_of item n.side ≡ Some (self.matched + place) =
    match_at item n.side (Some place) self.matched self.towards.items h.side_is.matched h.side_is.towards
    (c.in-Some.ensures.place ∙ ap (position (is_match c.reads_blocks.result item)) c.unmatched.ensures.frames
    ∙ ap (λ b. position (is_match b item) (drop self.matched self.towards.items)) blocks) in
    sym (ap (or_coming (is_coming end item n) (length n.side.towards)) found)

pub returns-in-None-clause-number : goal.returns-in-None-clause-number
returns-in-None-clause-number c = λ end n h.
    let item = c.args.item.now in
    let self = c.args.self.now in
    let blocks = c.reads_blocks.ensures n.side.blocks n.side.samples h.side_is.ear in
    let missed : match_of item n.side ≡ None =
    match_at item n.side None self.matched self.towards.items h.side_is.matched h.side_is.towards
    (c.in-None.ensures.place ∙ ap (position (is_match c.reads_blocks.result item)) c.unmatched.ensures.frames
    ∙ ap (λ b. position (is_match b item) (drop self.matched self.towards.items)) blocks) in
    c.coming_number.ensures.number end n h
    ∙ sym (ap (or_coming (is_coming end item n) (length n.side.towards)) missed)
