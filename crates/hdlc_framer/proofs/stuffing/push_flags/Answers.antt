use Rattle.hdlc_framer.proofs.Common.{◌++◌, ap, sym, ◌∙◌, append_assoc, flags, flag}
use Rattle.hdlc_framer.proofs.StuffLemmas.{flags-more}
use Rattle.hdlc_framer.proofs.stuffing.push_flags.Goals as goal

pub loop-preserved : goal.loop-preserved
loop-preserved c =
    c.in_ok-extend_from_slice.ensures.items ∙ ap (λ xs. xs ++ c.as_slice.result.now) c.loop.invariant
    ∙ ap (λ xs. (c.args.bits.now.items ++ flags c.loop.counter) ++ xs) c.as_slice.ensures
    ∙ append_assoc c.args.bits.now.items (flags c.loop.counter) flag
    ∙ ap (λ xs. c.args.bits.now.items ++ xs) (sym (flags-more c.loop.counter))
