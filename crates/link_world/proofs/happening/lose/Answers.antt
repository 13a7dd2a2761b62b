use Rattle.link_world.proofs.Common.{◌≡◌, ◌<◌, List, length, refl, sym, subst, arith, true, false, None, Some, ap, ◌∙◌}
use Rattle.link_world.proofs.Common.{false≢true, nat_lt, rules, tests, remove, Told, Lose, MadeStep}
use Rattle.std.specs.Prelude.{is_some, OnSome, Option}
use Rattle.link_world.specs.declared.side.Side.{Side as HeldSide}
use Rattle.link_world.proofs.Causes.{lost_cause, missing_from, answered_by}
use Rattle.link_world.proofs.Sides.{lost_made}
use Rattle.link_world.proofs.happening.lose.Goals as goal

-- what holds of a value holds if there is one
on_some : {T P : Type 0} (r : Option T) → is_some r ≡ true → OnSome r P → P
on_some None some h = absurd (false≢true some)
on_some (Some x) some h = h

pub returns-then-is_none-clause-answered : goal.returns-then-is_none-clause-answered
returns-then-is_none-clause-answered c = λ w end both.
    let none : nat_lt c.args.index (length c.args.near.now.towards.items) ≡ false = search (rules, tests) in
    answered_by _ _ _ (missing_from (Lose end c.args.index) c.args.number w c.args.near.now c.args.far.now both none)
    refl

pub returns-clause-answered : goal.returns-clause-answered
returns-clause-answered c = λ w end both.
    let some : is_some c.remove.result ≡ true = c.if-is_none.ensures in
    let count : c.args.near.now.towards.len ≡ length c.args.near.now.towards.items = c.args.near.now.towards.ok.0 in
    let there : c.args.index < length c.args.near.now.towards.items = let h = c.remove.ensures.variant.0 some in omega
    arith in
    answered_by _ _ _ (lost_cause end c.args.index c.args.number w c.args.near.now c.args.far.now both there) tt

pub returns-clause-step : goal.returns-clause-step
returns-clause-step c = λ w end both.
    let near : HeldSide = record { link = c.args.near.now.link; towards = c.remove.new.self } in
    let P : List Told → Type 0 = λ told. MadeStep (Lose end c.args.index) w near c.args.far.now told in
    let some : is_some c.remove.result ≡ true = c.if-is_none.ensures in
    let lost : c.remove.new.self.items ≡ remove c.args.near.now.towards.items c.args.index = on_some c.remove.result
    some c.remove.ensures.items in
    subst P (sym c.new.ensures.items)
    (lost_made end c.args.index w c.args.near.now c.args.far.now near both refl lost)
