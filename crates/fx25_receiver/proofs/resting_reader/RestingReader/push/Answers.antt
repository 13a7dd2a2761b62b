use Rattle.fx25_receiver.proofs.Common.{[], ◌∷◌, ◌++◌, inl, inr, arith, cases_eq}
use Rattle.fx25_receiver.proofs.RestingLemmas.{no_tag}
use Rattle.fx25_receiver.proofs.resting_reader.RestingReader.push.Goals as goal

pub returns-else-near_tag-ne0-clause-stands_for : goal.returns-else-near_tag-ne0-clause-stands_for
returns-else-near_tag-ne0-clause-stands_for c = λ b s.
    no_tag c.take.new.self (b ++ c.args.bit ∷ []) c.near_tag.result c.if-near_tag-ne0.false c.near_tag.ensures.near
    (c.take.ensures.stands_for b s)

pub returns-then-near_tag-ne0-clause-awake : goal.returns-then-near_tag-ne0-clause-awake
returns-then-near_tag-ne0-clause-awake c = λ some.
    elim (cases_eq c.take.new.self.awake 0) [
      | inl none ↦ omega (arith, c.wake.ensures.woken none)
      | inr other ↦ omega (arith, c.wake.ensures.awake (omega arith), c.take.ensures.awake some)
    ]
