-- The frame that is on its way, if it is that.
use Rattle.channel_bench.proofs.Common.{◌≡◌, ◌∙◌, Some, None, sym, ap, cond, length, is_coming, true, false}
use Rattle.channel_bench.proofs.side.Side.coming_number.Goals as goal

pub returns-then-is_coming-clause-number : goal.returns-then-is_coming-clause-number
returns-then-is_coming-clause-number c = λ end n h.
    let is : is_coming end c.args.item.now n ≡ true = sym (c.is_coming.ensures end n h) ∙ c.if-is_coming.true in
    ap Some (c.len.ensures ∙ c.args.self.now.towards.ok.0 ∙ ap length h.side_is.towards)
    ∙ sym (ap (λ b. cond b (Some (length n.side.towards)) None) is)

pub returns-clause-number : goal.returns-clause-number
returns-clause-number c = λ end n h.
    let is : is_coming end c.args.item.now n ≡ false = sym (c.is_coming.ensures end n h) ∙ c.if-is_coming.false in
    sym (ap (λ b. cond b (Some (length n.side.towards)) None) is)
