use Rattle.fx25_receiver.proofs.Common.{sym, subst, arith, append-nil}
use Rattle.fx25_receiver.specs.Resting.{IsLast64}
use Rattle.fx25_receiver.proofs.QuietLemmas.{frameless_more}
use Rattle.fx25_receiver.proofs.resting_reader.may_end_frame_in.Goals as goal

pub loop-place-init : goal.loop-place-init
loop-place-init c = λ b last.
    (subst (IsLast64 c.args.register) (sym (append-nil b)) last, λ k octets below. absurd (omega arith))

pub loop-place-preserved : goal.loop-place-preserved
loop-place-preserved c = λ b last.
    frameless_more c.loop-place.last c.shifted-last.result c.loop-place.place c.args.octet b (omega arith)
    (omega (arith, c.shifted-last.type_inv)) c.shifted-last.ensures (c.may_end_frame.ensures c.if-may_end_frame.false)
    (c.loop-place.invariant b last)

pub returns : goal.returns
returns c = λ same b k octets last below.
    (c.loop-place.invariant b last).1 k octets (let past = c.loop-place-test.false in omega arith)
