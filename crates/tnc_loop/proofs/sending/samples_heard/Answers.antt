use Rattle.tnc_loop.proofs.Common.{◌≡◌, List, ℤ, subst, rules, Lcg, drawn_as}
use Rattle.std.proofs.Common.{IfOk, OnOk}
use Rattle.tnc_loop.proofs.HeardLemmas.{samples-rough, samples-clean, following-rough, following-clean}
use Rattle.tnc_loop.proofs.sending.samples_heard.Goals as goal

pub returns-then-rough-clause-samples : goal.returns-then-rough-clause-samples
returns-then-rough-clause-samples c =
    subst (λ (xs : List ℤ). IfOk c.rough_samples.result (λ samples. samples.items ≡ xs))
    (samples-rough c.args.rough (drawn_as c.args.drawn.now) c.args.generator.now c.if-rough.true)
    c.rough_samples.ensures.samples

pub returns-then-rough-clause-following : goal.returns-then-rough-clause-following
returns-then-rough-clause-following c =
    subst (λ (g : Lcg). OnOk c.rough_samples.result (c.rough_samples.new.generator ≡ g))
    (following-rough c.args.rough (drawn_as c.args.drawn.now) c.args.generator.now c.if-rough.true)
    c.rough_samples.ensures.following

pub returns-else-rough-clause-samples : goal.returns-else-rough-clause-samples
returns-else-rough-clause-samples c =
    subst (λ (xs : List ℤ). IfOk c.samples_of.result (λ samples. samples.items ≡ xs))
    (samples-clean c.args.rough (drawn_as c.args.drawn.now) c.args.generator.now c.if-rough.false) c.samples_of.ensures

pub returns-else-rough-clause-following : goal.returns-else-rough-clause-following
returns-else-rough-clause-following c =
    let same = following-clean c.args.rough (drawn_as c.args.drawn.now) c.args.generator.now c.if-rough.false in
    search (rules, same)
