use Rattle.link_machine.proofs.Common.{ℕ, ◌∙◌, ap, subst, numbers, Params, fresh, in_modulus, changing, Shows}
use Rattle.link_machine.specs.Params.{called_modulus}
use Rattle.link_machine.proofs.Showing.{shows_fresh, shows_in_modulus}
use Rattle.link_machine.proofs.machine.Machine.connect.Goals as goal

pub returns-clause-shows : goal.returns-clause-shows
returns-clause-shows c = λ t h.
    let begun = shows_fresh c.args.self.now c.begin.new.self c.args.room.now t h c.begin.ensures in
    let counted =
    shows_in_modulus (numbers c.called_modulus-modulus.result)
    c.begin.new.self c.count_in.new.self c.args.room.now _ begun c.count_in.ensures.holds in
    let own = c.called_modulus-modulus.ensures ∙ ap (λ (p : Params). called_modulus p) begun.holds.stands.params in
    let P : ℕ → Type 0 = λ k. Shows c.count_in.new.self c.args.room.now (changing (in_modulus k) (changing fresh t)) in
    c.call.ensures.shows _ (subst P own counted)
