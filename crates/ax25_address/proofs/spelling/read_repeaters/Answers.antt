use Rattle.ax25_address.proofs.Common.{Bool, arith, subst, err_from_is_err_and, IsField, field_at}
use Rattle.ax25_address.proofs.FieldLemmas.{ShowsFault-field}
use Rattle.ax25_address.proofs.PathLemmas.{AreRepeaters-push, AreOpenRepeaters-push}
use Rattle.ax25_address.proofs.spelling.read_repeaters.Goals as goal

pub returns-in_err-field-clause-fault : goal.returns-in_err-field-clause-fault
returns-in_err-field-clause-fault c =
    let p = err_from_is_err_and c.from_residual.result c.from_residual.ensures.1 in
    rw (p.1, p.2) (ShowsFault-field _ _ _ (omega arith) c.loop-k.invariant.goes_on c.in_err-field.ensures.refused)

pub returns-then-field-clause-repeaters : goal.returns-then-field-clause-repeaters
returns-then-field-clause-repeaters c =
    let field = c.in_ok-field.field in
    rw c.push.ensures.items
    (AreRepeaters-push c.loop-k.repeaters.items c.loop-k.k c.args.octets.now field.call field.top c.loop-k.invariant
    (omega arith)
    (subst (λ (last : Bool). IsField field.call field.top last (field_at c.args.octets.now c.loop-k.k))
    c.if-field.true c.in_ok-field.ensures.field))

pub loop-k-preserved : goal.loop-k-preserved
loop-k-preserved c =
    let field = c.in_ok-field.field in
    rw c.push.ensures.items
    (AreOpenRepeaters-push c.loop-k.repeaters.items c.loop-k.k c.args.octets.now field.call field.top c.loop-k.invariant
    (omega arith)
    (subst (λ (last : Bool). IsField field.call field.top last (field_at c.args.octets.now c.loop-k.k))
    c.if-field.false c.in_ok-field.ensures.field))
