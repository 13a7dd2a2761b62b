use Rattle.wide_input.proofs.Common.{◌≡◌, ◌<◌, ◌++◌, ◌∙◌, ℕ, ℤ, List, sym, subst, refl, length, get_or, take, drop}
use Rattle.wide_input.proofs.Common.{false, IfOk, IfOk-weaker, least_count, AreWideMergedBetween, HeldStream, HeldWide}
use Rattle.wide_input.proofs.Common.{HearsBlock, HaveTaken, StandsFor}
use Rattle.wide_input.proofs.Visits.{given_back}
use Rattle.wide_input.proofs.wide_bank.WideBank.block_threads.Goals as goal

pub returns-clause-given : goal.returns-clause-given
returns-clause-given g c =
    let block : List ℤ = c.args.block.now in
    let old : List HeldStream = c.self.inside.streams.items in
    let heard : List HeldStream = c.hear_on_threads.new.streams in
    let full : c.self.inside.streams.len ≡ length heard =
    sym (c.hear_on_threads.auto.streams ∙ c.deref_mut.ensures.len) in
    let lent : List HeldStream = take c.self.inside.streams.len (heard ++ drop (length heard) old) in
    let back : lent ≡ heard = given_back c.self.inside.streams.len heard old full in
    let each : (number : ℕ) (d : HeldStream) → number < 5
    → HearsBlock block (get_or old number d) (get_or lent number d)
    = λ number d small. subst (λ (s : List HeldStream). HearsBlock block (get_or old number d) (get_or s number d))
    (sym back)
    (subst (λ (s : List HeldStream). HearsBlock block (get_or s number d) (get_or heard number d))
    c.deref_mut.ensures.value (c.hear_on_threads.ensures.heard number d small)) in
    let was : HeldWide
    = record {
      streams = old;
      merger = c.self.inside.merger;
      position = c.self.inside.progress.position;
      finished = c.self.inside.progress.finished;
      spent = c.self.inside.progress.spent;
    } in
    let P : HeldWide → Type 0 = λ held. IfOk c.settle.result (λ items. (x : List ℤ) → StandsFor held x
    → StandsFor c.settle.new.self (x ++ block) × AreWideMergedBetween (least_count x) (least_count (x ++ block))
    (x ++ block) items.items) in
    subst P c.self.view_is (IfOk-weaker c.settle.result
    (λ items. (before : List HeldStream) (x y : List ℤ) → c.begin.new.self.finished ≡ false
    → length x ≡ c.begin.new.self.position → length y ≡ length block
    → ((number : ℕ) (d : HeldStream) → number < 5 → HearsBlock y (get_or before number d) (get_or lent number d))
    → HaveTaken before c.self.inside.merger x
    → StandsFor c.settle.new.self (x ++ y) × AreWideMergedBetween (least_count x) (least_count (x ++ y)) (x ++ y)
    items.items)
    (λ items. (x : List ℤ) → StandsFor was x
    → StandsFor c.settle.new.self (x ++ block) × AreWideMergedBetween (least_count x) (least_count (x ++ block))
    (x ++ block) items.items)
    (λ items given x h. given old x block (c.begin.ensures.finished ∙ h.finished)
    (sym (c.begin.ensures.position ∙ h.count)) refl each h.taken)
    c.settle.ensures.given)
