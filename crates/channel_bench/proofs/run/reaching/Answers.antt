-- What is kept of both stations decides whether the samples of the one reach the other.
use Rattle.channel_bench.proofs.Common.{true, false, refl, sym, ◌∙◌}
use Rattle.channel_bench.proofs.SoundLemmas.{reaching_is}
use Rattle.channel_bench.proofs.run.reaching.Goals as goal

pub returns-then-is_silent : goal.returns-then-is_silent
returns-then-is_silent c = λ one other from to a b.
    reaching_is c.args.full from to c.args.sender.now.silenced c.args.sender.now.air
    c.args.hearer.now.air true _ a.silenced a.air b.air
    (sym c.if-is_silent.true ∙ c.is_silent.ensures) refl

pub returns-else-is_silent : goal.returns-else-is_silent
returns-else-is_silent c = λ one other from to a b.
    reaching_is c.args.full from to c.args.sender.now.silenced c.args.sender.now.air
    c.args.hearer.now.air false _ a.silenced a.air b.air
    (sym c.if-is_silent.false ∙ c.is_silent.ensures) refl
