use Rattle.tnc_loop.proofs.Common.{[]}
use Rattle.std.proofs.lemmas.Result.{IfOk-weaker}
use Rattle.tnc_loop.proofs.telling.candidates_in.Goals as goal

pub returns-then-threads-clause-are : goal.returns-then-threads-clause-are
returns-then-threads-clause-are g c = IfOk-weaker c.feed_threads.result _ _
    (λ found h. (h [] c.in_ok-bank.ensures.stands_for).1) c.feed_threads.ensures.found

pub returns-clause-are : goal.returns-clause-are
returns-clause-are g c = IfOk-weaker c.feed.result _ _ (λ found h. (h [] c.in_ok-bank.ensures.stands_for).1)
    c.feed.ensures.found
