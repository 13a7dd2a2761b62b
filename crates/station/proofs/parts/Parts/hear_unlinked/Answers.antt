use Rattle.station.proofs.Common.{◌≡◌, Option, Some, None, refl, subst, on_ok_weaker, Frame, IsReadAs}
use Rattle.ax25_frames.specs.declared.frame.Modulus.TheVariants.{Eight}
use Rattle.station.specs.Heard.{IsForLink, finds_link}
use Rattle.station.proofs.MemoryLemmas.{if_ok_weaker}
use Rattle.station.proofs.parts.Parts.hear_unlinked.Goals as goal

pub hear_anew-requires : goal.hear_anew-requires
hear_anew-requires c =
    let is : IsReadAs Eight c.args.octets.now (Some c.in-Some.frame) =
    subst (λ (reading : Option Frame). IsReadAs Eight c.args.octets.now reading)
    c.in-Some.is c.in_ok-frame.ensures.read in
    is.kind.numbered

pub returns-in-Some-clause-heard : goal.returns-in-Some-clause-heard
returns-in-Some-clause-heard c = λ turn shows.
    let is : IsReadAs Eight c.args.octets.now (Some c.in-Some.frame) =
    subst (λ (reading : Option Frame). IsReadAs Eight c.args.octets.now reading)
    c.in-Some.is c.in_ok-frame.ensures.read in
    on_ok_weaker c.hear_anew.result (λ p. (p.0, (Some c.in-Some.frame, is, p.1), p.2))
    (c.hear_anew.ensures.heard turn shows)

pub returns-in-Some-clause-ours : goal.returns-in-Some-clause-ours
returns-in-Some-clause-ours c = λ turn shows.
    let is : IsReadAs Eight c.args.octets.now (Some c.in-Some.frame) =
    subst (λ (reading : Option Frame). IsReadAs Eight c.args.octets.now reading)
    c.in-Some.is c.in_ok-frame.ensures.read in
    if_ok_weaker (λ ours. ours ≡ finds_link None c.in-Some.frame turn.now) (IsForLink None c.args.octets.now turn.now)
    c.hear_anew.result (λ ours same. (Some c.in-Some.frame, is, same)) (c.hear_anew.ensures.ours turn shows)

pub returns-in-None-clause-ours : goal.returns-in-None-clause-ours
returns-in-None-clause-ours c = λ turn shows.
    let is : IsReadAs Eight c.args.octets.now None =
    subst (λ (reading : Option Frame). IsReadAs Eight c.args.octets.now reading)
    c.in-None.is c.in_ok-frame.ensures.read in
    (None, is, refl)

pub returns-in-None-clause-heard : goal.returns-in-None-clause-heard
returns-in-None-clause-heard c = λ turn shows.
    let is : IsReadAs Eight c.args.octets.now None =
    subst (λ (reading : Option Frame). IsReadAs Eight c.args.octets.now reading)
    c.in-None.is c.in_ok-frame.ensures.read in
    (turn, (None, is, refl), shows)
