use Rattle.fx25_receiver.proofs.Common.{◌++◌, drop}
use Rattle.std.proofs.lemmas.Result.{on_ok_weaker}
use Rattle.fx25_receiver.proofs.AheadLemmas.{all_wait}
use Rattle.fx25_receiver.proofs.receiver.Fx25Receiver.slide.Goals as goal

pub returns-clause-taken : goal.returns-clause-taken
returns-clause-taken c =
    on_ok_weaker c.follow.result (λ followed x before last taken.
    followed x before last
    (all_wait c.args.self.now.lanes c.args.self.now.position c.args.self.now.kept x (x ++ drop 7 c.args.piece.now)
    (before ++ c.args.given.now.items) taken))
    c.follow.ensures.taken
