use Rattle.station.proofs.Common.{◌≡◌, ◌+◌, ◌<◌, ℕ, Bool, List, get_or, length, subst, None, Option, arith, ap, cond, sym, take, ◌∙◌}
use Rattle.std.proofs.lemmas.List.Sums.{sum_by_more}
use Rattle.station.specs.Owners.{has_left, left_waiting}
use Rattle.station.proofs.parts.Parts.left_waiting.Goals as goal

pub loop-owner-preserved : goal.loop-owner-preserved
loop-owner-preserved c = record {
  counted = λ s holds.
      let items = c.args.self.now.owners.items in
      let within : c.loop-owner.owner-index < length items =
      subst (λ (owners : List (Option ℕ)). c.loop-owner.owner-index < length owners) c.deref-owner-items.ensures.value
      c.loop-owner-test.true in
      ap (λ (n : ℕ). n + c.one_if-count.result) (c.loop-owner.invariant.counted s holds)
      ∙ ap (λ (n : ℕ). left_waiting s.connections (take c.loop-owner.owner-index items) + n) (c.one_if-count.ensures.one
      ∙ ap (λ (b : Bool). cond b 1 0) (c.has_left.ensures s holds)
      ∙ ap (λ (owners : List (Option ℕ)). cond (has_left s.connections (get_or owners c.loop-owner.owner-index None)) 1 0)
      c.deref-owner-items.ensures.value)
      ∙ sym (sum_by_more (λ (owner : Option ℕ). cond (has_left s.connections owner) 1 0) items c.loop-owner.owner-index None
      within);
  most = let a = c.loop-owner.invariant.most in let b = c.one_if-count.ensures.most in omega arith;
}
