use Rattle.fx25_blocks.proofs.Common.{◌≡◌, ◌+◌, ◌<◌, false, [], ◌∷◌, ◌++◌, length, take, get_or, subst, sym}
use Rattle.fx25_blocks.proofs.Common.{◌∙◌, arith, flag, EndsFlag, EndsFrame, BeginsWithFrame}
use Rattle.hdlc_framer.specs.Events.{EventAt}
use Rattle.hdlc_framer.specs.Held.{StandsFor}
use Rattle.hdlc_framer.specs.declared.event.Event.TheVariants.{None as NoEvent, Flag, Abort, Frame}
use Rattle.fx25_blocks.proofs.FirstFrames.{one_more, still_quiet, found_frame, no_frame_at_flag, no_frame_at_abort}
use Rattle.fx25_blocks.proofs.FirstFrames.{no_frame_at_end}
use Rattle.fx25_blocks.proofs.opening.first_frame.Goals as goal

pub returns-in-Frame-clause-frame : goal.returns-in-Frame-clause-frame
returns-in-Frame-clause-frame c =
    let bits = c.args.bits.now in
    let i = c.loop-i.i in
    let line = flag ++ take i bits in
    let stands = c.loop-i.invariant.stands in
    let below : i < length bits = omega arith in
    let event : EventAt (line ++ get_or bits i false ∷ []) Frame = c.in-Frame.ensures.event line stands in
    let ends : EndsFrame (flag ++ take (i + 1) bits) event.0 =
    subst (λ xs. EndsFrame xs event.0) (one_more bits i below) event.1 in
    let same : c.copy.result.items ≡ event.0 = c.copy.ensures
    ∙ c.octets.ensures.frame event.0 event.1.2 (c.in-Frame.ensures.frame line event.0 stands event.1) in
    subst (λ xs. BeginsWithFrame bits xs (i + 1)) (sym same)
    (found_frame bits i c.loop-i.invariant.quiet event.0 below ends)

pub returns-in-Flag-clause-none : goal.returns-in-Flag-clause-none
returns-in-Flag-clause-none c =
    let bits = c.args.bits.now in
    let i = c.loop-i.i in
    let line = flag ++ take i bits in
    let event : EventAt (flag ++ take (i + 1) bits) Flag = subst (λ xs. EventAt xs Flag) (one_more bits i (omega arith))
    (c.in-Flag.ensures.event line c.loop-i.invariant.stands) in
    no_frame_at_flag bits i c.loop-i.invariant.quiet event

pub returns-in-Abort-clause-none : goal.returns-in-Abort-clause-none
returns-in-Abort-clause-none c =
    let bits = c.args.bits.now in
    let i = c.loop-i.i in
    let line = flag ++ take i bits in
    let event : EventAt (flag ++ take (i + 1) bits) Abort =
    subst (λ xs. EventAt xs Abort) (one_more bits i (omega arith))
    (c.in-Abort.ensures.event line c.loop-i.invariant.stands) in
    no_frame_at_abort bits i c.loop-i.invariant.quiet event

pub loop-i-preserved : goal.loop-i-preserved
loop-i-preserved c =
    let bits = c.args.bits.now in
    let i = c.loop-i.i in
    let line = flag ++ take i bits in
    let stands = c.loop-i.invariant.stands in
    let more = one_more bits i (omega arith) in
    let event : EventAt (line ++ get_or bits i false ∷ []) NoEvent = c.in-None.ensures.event line stands in
    record {
      stands = subst (λ xs. StandsFor c.push.new.self xs) more (c.in-None.ensures.stands_for line stands);
      quiet = still_quiet bits i c.loop-i.invariant.quiet (subst (λ xs. ¬ EndsFlag xs) more event.0);
    }

pub returns-clause-none : goal.returns-clause-none
returns-clause-none c = no_frame_at_end c.args.bits.now c.loop-i.i c.loop-i.invariant.quiet (omega arith)
