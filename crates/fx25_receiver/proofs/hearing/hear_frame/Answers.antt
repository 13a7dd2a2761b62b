use Rattle.fx25_receiver.proofs.Common.{◌++◌, inl, inr, sym, ◌∙◌, arith, false≢true}
use Rattle.fx25_receiver.proofs.TakenLemmas.{taken_none}
use Rattle.fx25_receiver.proofs.hearing.hear_frame.Goals as goal

pub returns-else-plain : goal.returns-else-plain
returns-else-plain c = λ x before at some held taken.
    taken_none c.args.place x at 0 c.args.kept.now.items (before ++ c.args.given.now.items) taken
    (λ item ends same. elim ends [
      | inl plain ↦ false≢true (sym c.if-plain.false ∙ (held item.octets plain.2).0)
      | inr block ↦ (let least = block.1.is_tag.0 in omega arith)
    ])
