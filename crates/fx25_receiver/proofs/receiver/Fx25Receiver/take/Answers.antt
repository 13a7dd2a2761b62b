use Rattle.fx25_receiver.proofs.Common.{◌≡◌, ℤ, List, ◌++◌, take, ap, ◌∙◌, subst, arith, take_all, HasTaken}
use Rattle.std.proofs.lemmas.Result.{on_ok_weaker}
use Rattle.fx25_receiver.specs.Held.{Held}
use Rattle.fx25_receiver.proofs.BlockLemmas.{first_piece, second_piece}
use Rattle.fx25_receiver.proofs.receiver.Fx25Receiver.take.Goals as goal

pub returns-then-block-le7-clause-taken : goal.returns-then-block-le7-clause-taken
returns-then-block-le7-clause-taken c = λ x before last taken.
    let n = c.min.ensures in
    let block : List ℤ = c.args.block.now in
    let whole : take c.min.result block ≡ block = take_all c.min.result block (omega arith) in
    subst (λ (first : List ℤ). HasTaken c.slide.new.self (x ++ first) (before ++ c.slide.new.given.items))
    (c.split_at.ensures.front ∙ whole)
    (first_piece c.args.self.now c.slide.new.self x c.self.inside.recent _ _ before c.args.given.now.items
    c.slide.new.given.items (ap (λ (held : Held). held.recent) c.self.view_is ∙ last) c.bridge-bridge.ensures
    c.in_ok-slide.ensures.taken taken)

pub returns-clause-taken : goal.returns-clause-taken
returns-clause-taken c =
    let n = c.min.ensures in
    let long = c.if-block-le7.false in
    let block : List ℤ = c.args.block.now in
    let seven : c.min.result ≡ 7 = omega arith in
    on_ok_weaker c.run.result (λ more x before last taken.
    second_piece c.slide.new.self c.run.new.self x block before c.slide.new.given.items c.run.new.given.items
    (omega arith) more
    (subst (λ (first : List ℤ). HasTaken c.slide.new.self (x ++ first) (before ++ c.slide.new.given.items))
    (c.split_at.ensures.front ∙ ap (λ m. take m block) seven)
    (first_piece c.args.self.now c.slide.new.self x c.self.inside.recent _ _ before c.args.given.now.items
    c.slide.new.given.items (ap (λ (held : Held). held.recent) c.self.view_is ∙ last) c.bridge-bridge.ensures
    c.in_ok-slide.ensures.taken taken)))
    c.run.ensures.taken
