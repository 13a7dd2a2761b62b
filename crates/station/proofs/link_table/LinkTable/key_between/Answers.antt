use Rattle.station.proofs.Common.{◌≡◌, ◌<◌, Bool, true, position, Option, None, sym, ◌∙◌, ap, arith, get_or, OwnedLink}
use Rattle.station.proofs.Common.{HeldLinks, is_held_between}
use Rattle.std.proofs.Common.{below_more}
use Rattle.std.proofs.lemmas.List.{get_or_default}
use Rattle.station.proofs.Searches.{position_is, position_none}
use Rattle.station.proofs.link_table.LinkTable.key_between.Goals as goal

pub loop-key-preserved : goal.loop-key-preserved
loop-key-preserved c =
    let items = c.self.inside.places.items in
    let key = c.loop-key.key in
    let test : Option OwnedLink → Bool = is_held_between c.args.local.now c.args.remote.now in
    let shown = c.index.ensures ∙ get_or_default items key c.index.result.now None
    (omega (arith, c.self.invariant.size)) in
    below_more _ _ c.loop-key.invariant (ap test (sym shown) ∙ sym c.is_between.ensures ∙ c.if-is_between.false)

pub returns-then-is_between : goal.returns-then-is_between
returns-then-is_between c =
    let items = c.self.inside.places.items in
    let key = c.loop-key.key in
    let test : Option OwnedLink → Bool = is_held_between c.args.local.now c.args.remote.now in
    let shown = c.index.ensures ∙ get_or_default items key c.index.result.now None
    (omega (arith, c.self.invariant.size)) in
    let here : test (get_or items key None) ≡ true = ap test (sym shown) ∙ sym c.is_between.ensures
    ∙ c.if-is_between.true in
    sym (ap (λ (held : HeldLinks). position test held.places) (sym c.self.view_is)
    ∙ position_is test items key None (omega (arith, c.self.invariant.size)) c.loop-key.invariant here)

pub returns : goal.returns
returns c =
    let items = c.self.inside.places.items in
    let test : Option OwnedLink → Bool = is_held_between c.args.local.now c.args.remote.now in
    sym (ap (λ (held : HeldLinks). position test held.places) (sym c.self.view_is)
    ∙ position_none test items None
    (λ j less. let below : j < c.loop-key.key = omega (arith, less, c.self.invariant.size) in
    c.loop-key.invariant j below))
