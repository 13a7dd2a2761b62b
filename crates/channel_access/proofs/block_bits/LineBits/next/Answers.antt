use Rattle.channel_access.proofs.Common.{◌+◌, Bool, subst, sym, ◌∙◌}
use Rattle.std.proofs.Common.{set}
use Rattle.channel_access.specs.DataLine.{HasPut}
use Rattle.channel_access.proofs.BlockLemmas.{put_flag, put_frame, put_flags}
use Rattle.channel_access.proofs.FrameLemmas.{stuffed_after, stuffed_none_left}
use Rattle.channel_access.proofs.block_bits.LineBits.next.Goals as goal

pub returns-then-place-lt-FLAG_BITS-clause-put : goal.returns-then-place-lt-FLAG_BITS-clause-put
returns-then-place-lt-FLAG_BITS-clause-put c = λ line within h.
    let old = c.args.self.now in
    subst (λ (b : Bool). HasPut c.args.octets.now (set line c.args.place b) (c.args.place + 1) old.frame old.flags)
    (sym c.is_one_in_flag.ensures)
    (put_flag c.args.octets.now line c.args.place old.frame old.flags within h c.if-place-lt-FLAG_BITS.true)

pub returns-in-Some-clause-put : goal.returns-in-Some-clause-put
returns-in-Some-clause-put c = λ line within h.
    let old = c.args.self.now in
    put_frame c.args.octets.now line c.args.place old.frame old.flags within h c.if-place-lt-FLAG_BITS.false _ _
    (stuffed_after old.frame _ c.args.octets.now _ (sym c.next.ensures ∙ c.in-Some.is))

pub returns-clause-put : goal.returns-clause-put
returns-clause-put c = λ line within h.
    let old = c.args.self.now in
    subst (λ (b : Bool). HasPut c.args.octets.now (set line c.args.place b) (c.args.place + 1) old.frame (old.flags + 1))
    (sym c.is_one_in_flag-bit.ensures)
    (put_flags c.args.octets.now line c.args.place old.frame old.flags within h c.if-place-lt-FLAG_BITS.false
    c.requires.place (stuffed_none_left old.frame c.args.octets.now (sym c.next.ensures ∙ c.in_default.is)))
