use Rattle.ax25_address.proofs.Common.{sym, arith, eqb, length, position_or_len_is, nat_tests}
use Rattle.ax25_address.proofs.call.first_dash.Goals as goal

pub returns-then-characters-place-eq45-clause-place : goal.returns-then-characters-place-eq45-clause-place
returns-then-characters-place-eq45-clause-place c =
    sym
    (position_or_len_is (λ x. eqb x 45) c.args.characters.now c.loop-place.place 0 (omega arith)
    (λ k h. let other = c.loop-place.invariant k h in grind (arith, nat_tests))
    (λ h. grind (arith, nat_tests)))

pub returns-clause-place : goal.returns-clause-place
returns-clause-place c =
    sym
    (position_or_len_is (λ x. eqb x 45) c.args.characters.now (length c.args.characters.now) 0 (omega arith)
    (λ k h. let other = c.loop-place.invariant k (omega arith) in grind (arith, nat_tests))
    (λ h. absurd (omega arith)))
