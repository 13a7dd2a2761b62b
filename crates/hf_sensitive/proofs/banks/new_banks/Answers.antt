use Rattle.hf_sensitive.proofs.Common.{sym, subst, arith, ◌≡◌}
use Rattle.hf_sensitive.proofs.BanksLemmas.{AreFresh, fresh_none, fresh_more, fresh_at, fresh_stand}
use Rattle.hf_sensitive.proofs.banks.new_banks.Goals as goal

pub loop-number-init : goal.loop-number-init
loop-number-init c = subst (λ bs. AreFresh bs 0) (sym c.new-banks.ensures.items) fresh_none

pub loop-number-preserved : goal.loop-number-preserved
loop-number-preserved c =
    fresh_more c.loop-number.banks.items c.push.new.self.items c.loop-number.number c.new.result c.loop-number.invariant
    c.in_ok-push.ensures.items c.new.ensures.number c.new.ensures.count c.new.ensures.stands_for

pub returns-clause-at : goal.returns-clause-at
returns-clause-at c =
    let past = c.loop-number-test.false in
    let most = c.loop-number.auto.number-end in
    fresh_at c.loop-number.banks.items c.loop-number.number (omega arith) c.loop-number.invariant

pub returns-clause-stand_for : goal.returns-clause-stand_for
returns-clause-stand_for c =
    let past = c.loop-number-test.false in
    let most = c.loop-number.auto.number-end in
    fresh_stand c.loop-number.banks.items c.loop-number.number (omega arith) c.loop-number.invariant
