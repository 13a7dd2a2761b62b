use Rattle.fx25_receiver.proofs.Common.{◌≡◌, ◌+◌, ◌++◌, ℤ, List, length, drop, sym, subst, arith, HasTaken, Heard}
use Rattle.std.proofs.Common.{length-drop}
use Rattle.std.proofs.lemmas.Result.{on_ok_weaker}
use Rattle.fx25_receiver.specs.Held.{AreAfter, Held}
use Rattle.fx25_receiver.proofs.AheadLemmas.{none_waits}
use Rattle.fx25_receiver.proofs.receiver.Fx25Receiver.stride.Goals as goal

pub returns-then-is_some_waiting-clause-taken : goal.returns-then-is_some_waiting-clause-taken
returns-then-is_some_waiting-clause-taken c =
    on_ok_weaker c.follow.result (λ followed x before last taken.
    let given : List Heard = before ++ c.args.given.now.items in
    followed x before last
    (c.run_ahead-waiting.ensures.ahead c.self.inside.kept.items x given last
    (subst (λ (held : Held). HasTaken held x given) (sym c.self.view_is) taken)))
    c.follow.ensures.taken

pub returns-clause-taken : goal.returns-clause-taken
returns-clause-taken c = λ x before last taken.
    let given : List Heard = before ++ c.args.given.now.items in
    let stretch : List ℤ = c.args.stretch.now in
    let more : length (drop 7 stretch) ≡ 64 = omega (arith, length-drop 7 stretch, c.told-stretch) in
    let ahead = c.run_ahead-waiting.ensures.ahead c.self.inside.kept.items x given last
    (subst (λ (held : Held). HasTaken held x given) (sym c.self.view_is) taken) in
    subst (λ n. AreAfter c.run_ahead-waiting.new.lanes.items (c.self.inside.position + n) c.self.inside.kept.items
    (x ++ drop 7 stretch) given) more
    (none_waits c.run_ahead-waiting.new.lanes.items c.self.inside.position c.self.inside.kept.items
    c.run_ahead-waiting.result x (drop 7 stretch) given (c.is_some_waiting.ensures c.if-is_some_waiting.false) ahead)
