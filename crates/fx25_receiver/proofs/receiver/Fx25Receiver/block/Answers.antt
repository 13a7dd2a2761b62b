use Rattle.fx25_receiver.proofs.Common.{◌≡◌, ℤ, List, ◌++◌, ap, refl, sym, ◌∙◌, subst, append-nil, HasTaken, Heard}
use Rattle.fx25_receiver.specs.Held.{Held}
use Rattle.fx25_receiver.proofs.BlockLemmas.{fewer_kept}
use Rattle.fx25_receiver.proofs.receiver.Fx25Receiver.block.Goals as goal

pub returns-clause-given : goal.returns-clause-given
returns-clause-given c = λ x given stands.
    let all : List ℤ = x ++ c.args.block.now in
    let more : List Heard = given ++ c.take.new.given.items in
    let start : List Heard = given ++ c.new-given.result.items in
    let none : given ≡ start = sym (append-nil given) ∙ ap (λ t. given ++ t) (sym c.new-given.ensures.items) in
    let before = subst (λ (held : Held). HasTaken held x start) (sym c.self.view_is)
    (subst (λ (g : List Heard). HasTaken c.args.self.now x g) none stands.taken) in
    let recent = ap (λ (held : Held). held.recent) c.self.view_is ∙ stands.recent in
    let taken = c.in_ok-take.ensures.taken x given recent before in
    let there = subst (λ (held : Held). HasTaken held all more) (sym c.self-2.view_is) taken in
    record {
      spent = refl;
      recent = c.keep_last.ensures x
          (ap (λ (held : Held). held.recent) c.self-2.view_is ∙ c.take.ensures.recent ∙ recent);
      taken = fewer_kept c.self-2.inside.lanes.items c.self-2.inside.position c.self-2.inside.kept.items
          c.forget.new.kept.items all more there c.forget.ensures;
    }
