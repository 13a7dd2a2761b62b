use Rattle.station.proofs.Common.{◌≡◌, ℕ, Option, Some, None, ◌∙◌, subst, on_ok_weaker, key_between}
use Rattle.std.specs.Result.{IfOk}
use Rattle.station.specs.Heard.{AreHeardAt, IsForLink}
use Rattle.station.proofs.HearLemmas.{key_found}
use Rattle.station.proofs.parts.Parts.hear_octets.Goals as goal

pub returns-in-Some-clause-heard : goal.returns-in-Some-clause-heard
returns-in-Some-clause-heard c = λ turn shows.
    let path = c.args.path.now in
    let found : Some c.in-Some.key ≡ key_between path.dest path.source turn.now.links =
    c.in-Some.ensures ∙ key_found c.args.self.now.links turn.now.links path.dest path.source shows.holds.links in
    on_ok_weaker c.hear_at.result (λ p. (
      p.0,
      subst (λ (own : Option ℕ). AreHeardAt own c.args.octets.now turn p.0)
          found p.1,
      p.2,
    ))
    (c.hear_at.ensures.heard turn shows)

pub returns-in-Some-clause-ours : goal.returns-in-Some-clause-ours
returns-in-Some-clause-ours c = λ turn shows.
    let path = c.args.path.now in
    let found : Some c.in-Some.key ≡ key_between path.dest path.source turn.now.links =
    c.in-Some.ensures ∙ key_found c.args.self.now.links turn.now.links path.dest path.source shows.holds.links in
    subst (λ (own : Option ℕ). IfOk c.hear_at.result (IsForLink own c.args.octets.now turn.now)) found
    (c.hear_at.ensures.ours turn shows)

pub returns-in-None-clause-ours : goal.returns-in-None-clause-ours
returns-in-None-clause-ours c = λ turn shows.
    let path = c.args.path.now in
    let found : None ≡ key_between path.dest path.source turn.now.links =
    c.in-None.ensures ∙ key_found c.args.self.now.links turn.now.links path.dest path.source shows.holds.links in
    subst (λ (own : Option ℕ). IfOk c.hear_unlinked.result (IsForLink own c.args.octets.now turn.now)) found
    (c.hear_unlinked.ensures.ours turn shows)

pub returns-in-None-clause-heard : goal.returns-in-None-clause-heard
returns-in-None-clause-heard c = λ turn shows.
    let path = c.args.path.now in
    let found : None ≡ key_between path.dest path.source turn.now.links =
    c.in-None.ensures ∙ key_found c.args.self.now.links turn.now.links path.dest path.source shows.holds.links in
    on_ok_weaker c.hear_unlinked.result
    (λ p. (p.0, subst (λ (own : Option ℕ). AreHeardAt own c.args.octets.now turn p.0) found p.1, p.2))
    (c.hear_unlinked.ensures.heard turn shows)
