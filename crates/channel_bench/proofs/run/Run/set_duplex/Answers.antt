-- Both stations, or none.
use Rattle.channel_bench.proofs.Common.{refl, sym, ap, ◌∙◌, subst, cond, [], ◌++◌, A, B, ArePartsMade, sets_duplex}
use Rattle.channel_bench.proofs.Common.{sets_full_duplex}
use Rattle.channel_bench.proofs.PartLemmas.{parts_append}
use Rattle.channel_bench.proofs.run.Run.set_duplex.Goals as goal

pub set_full_duplex-requires : goal.set_full_duplex-requires
set_full_duplex-requires c = c.requires

pub set_full_duplex-requires-2 : goal.set_full_duplex-requires-2
set_full_duplex-requires-2 c =
    let one = c.in_ok-set_full_duplex.ensures.set c.requires.0 c.requires.1 c.requires.2 in
    (c.requires.0, one.0, one.2)

pub returns-then-not-self-clause-set : goal.returns-then-not-self-clause-set
unfolding sets_duplex
returns-then-not-self-clause-set c = λ w bench h. (
  bench,
  subst (λ b. ArePartsMade w (cond b (sets_full_duplex A ++ sets_full_duplex B) []) bench bench)
      (sym (ap (λ v. v.full) (sym h.words) ∙ c.if-not-self.true)) refl,
  h,
)

pub returns-clause-set : goal.returns-clause-set
unfolding sets_duplex
returns-clause-set c = λ w bench h.
    let one = c.in_ok-set_full_duplex.ensures.set w bench h in
    let two = c.in_ok-set_full_duplex-2.ensures.set w one.0 one.2 in (
      two.0,
      subst (λ b. ArePartsMade w (cond b (sets_full_duplex A ++ sets_full_duplex B) []) bench two.0)
          (sym (ap (λ v. v.full) (sym h.words) ∙ c.if-not-self.false))
          (parts_append w (sets_full_duplex A) (sets_full_duplex B) bench one.0 two.0 one.1 two.1),
      two.2,
    )
