use Rattle.station.proofs.Common.{sym, arith, eqb, position_or_len_is, nat_tests}
use Rattle.std.proofs.Common.{length}
use Rattle.station.proofs.call_fields.first_nul.Goals as goal

pub returns-then-field-place-eq0-clause-place : goal.returns-then-field-place-eq0-clause-place
returns-then-field-place-eq0-clause-place c =
    sym
    (position_or_len_is (λ x. eqb x 0) c.args.field.now c.loop-place.place 0 (omega arith)
    (λ k h. let other = c.loop-place.invariant k h in grind (arith, nat_tests))
    (λ h. grind (arith, nat_tests)))

pub returns-clause-place : goal.returns-clause-place
returns-clause-place c =
    sym
    (position_or_len_is (λ x. eqb x 0) c.args.field.now (length c.args.field.now) 0 (omega arith)
    (λ k h. let other = c.loop-place.invariant k (omega arith) in grind (arith, nat_tests))
    (λ h. absurd (omega arith)))
