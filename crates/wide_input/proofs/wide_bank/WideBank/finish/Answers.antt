use Rattle.wide_input.proofs.Common.{◌≡◌, ◌++◌, ℤ, List, subst, false, IfOk, IfOk-weaker, Candidate, merged, in_order}
use Rattle.wide_input.proofs.Common.{least_count, AreWideRest, HeldWide, StandsFor}
use Rattle.frame_merge.specs.Held.{StandsFor as MergerStandsFor}
use Rattle.wide_input.proofs.WideSteps.{gives_rest}
use Rattle.wide_input.proofs.wide_bank.WideBank.finish.Goals as goal

pub returns-clause-rest : goal.returns-clause-rest
returns-clause-rest c =
    let was = c.self.inside in
    let P : HeldWide → Type 0 = λ old. IfOk c.finish.result (λ items. (x : List ℤ) → StandsFor old x
    → AreWideRest (least_count x) x items.items) in
    subst P c.self.view_is (IfOk-weaker c.finish.result
    (λ items. was.progress.finished ≡ false → (puts given : List Candidate) → MergerStandsFor was.merger puts given
    → given ++ items.items ≡ merged (in_order puts))
    (λ items. (x : List ℤ) → StandsFor (record {
      streams = was.streams.items;
      merger = was.merger;
      position = was.progress.position;
      finished = was.progress.finished;
      spent = was.progress.spent;
    }) x
    → AreWideRest (least_count x) x items.items)
    (λ items last x h. gives_rest x was.streams.items was.merger items.items h.taken (last h.finished))
    c.finish.ensures.rest)
