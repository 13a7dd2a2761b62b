use Rattle.station.proofs.Common.{◌≡◌, Option, Some, None, refl, ◌∙◌, subst, IsNumbered, control_of}
use Rattle.station.proofs.Common.{Frame, Modulus, Hear, IsReadAs, event_at, link_at, link_modulus, place_at}
use Rattle.station.proofs.EventLemmas.{places-at}
use Rattle.station.proofs.HearLemmas.{same_modulus}
use Rattle.station.proofs.parts.Parts.hear_at.Goals as goal

pub link_event-requires : goal.link_event-requires
link_event-requires c =
    let frame = c.in-Some.frame in
    let is : IsReadAs c.modulus-modulus.result c.args.octets.now (Some frame) =
    subst (λ (reading : Option Frame). IsReadAs c.modulus-modulus.result c.args.octets.now reading)
    c.in-Some.is c.in_ok-frame.ensures.read in
    subst (λ (modulus : Modulus). IsNumbered modulus (control_of frame.kind)) c.modulus-modulus.ensures is.kind.numbered

pub returns-in_ok-link_event-in-Some-clause-heard : goal.returns-in_ok-link_event-in-Some-clause-heard
returns-in_ok-link_event-in-Some-clause-heard c = λ turn shows.
    let frame = c.in-Some.frame in
    let octets = c.args.octets.now in
    let key = c.args.key in
    let links = c.args.self.now.links in
    let modulus : c.modulus-modulus.result ≡ link_modulus (link_at key turn.now.links) =
    c.modulus-modulus.ensures ∙ same_modulus (place_at key links) (link_at key turn.now.links)
    (places-at links.places turn.now.links.places key shows.holds.links.places) in
    let is : IsReadAs c.modulus-modulus.result octets (Some frame) =
    subst (λ (reading : Option Frame). IsReadAs c.modulus-modulus.result octets reading)
    c.in-Some.is c.in_ok-frame.ensures.read in (
      event_at key (Hear frame) turn,
      (Some frame, subst (λ (m : Modulus). IsReadAs m octets (Some frame)) modulus is, refl),
      c.in_ok-link_event-in-Some.ensures.shows turn shows,
    )

pub returns-in_ok-link_event-in-Some-clause-ours : goal.returns-in_ok-link_event-in-Some-clause-ours
returns-in_ok-link_event-in-Some-clause-ours c = λ turn shows.
    let frame = c.in-Some.frame in
    let octets = c.args.octets.now in
    let key = c.args.key in
    let links = c.args.self.now.links in
    let modulus : c.modulus-modulus.result ≡ link_modulus (link_at key turn.now.links) =
    c.modulus-modulus.ensures ∙ same_modulus (place_at key links) (link_at key turn.now.links)
    (places-at links.places turn.now.links.places key shows.holds.links.places) in
    let is : IsReadAs c.modulus-modulus.result octets (Some frame) =
    subst (λ (reading : Option Frame). IsReadAs c.modulus-modulus.result octets reading)
    c.in-Some.is c.in_ok-frame.ensures.read in
    (Some frame, subst (λ (m : Modulus). IsReadAs m octets (Some frame)) modulus is, refl)

pub returns-in-None-clause-ours : goal.returns-in-None-clause-ours
returns-in-None-clause-ours c = λ turn shows.
    let octets = c.args.octets.now in
    let key = c.args.key in
    let links = c.args.self.now.links in
    let modulus : c.modulus-modulus.result ≡ link_modulus (link_at key turn.now.links) =
    c.modulus-modulus.ensures ∙ same_modulus (place_at key links) (link_at key turn.now.links)
    (places-at links.places turn.now.links.places key shows.holds.links.places) in
    let is : IsReadAs c.modulus-modulus.result octets None =
    subst (λ (reading : Option Frame). IsReadAs c.modulus-modulus.result octets reading)
    c.in-None.is c.in_ok-frame.ensures.read in
    (None, subst (λ (m : Modulus). IsReadAs m octets None) modulus is, refl)

pub returns-in-None-clause-heard : goal.returns-in-None-clause-heard
returns-in-None-clause-heard c = λ turn shows.
    let octets = c.args.octets.now in
    let key = c.args.key in
    let links = c.args.self.now.links in
    let modulus : c.modulus-modulus.result ≡ link_modulus (link_at key turn.now.links) =
    c.modulus-modulus.ensures ∙ same_modulus (place_at key links) (link_at key turn.now.links)
    (places-at links.places turn.now.links.places key shows.holds.links.places) in
    let is : IsReadAs c.modulus-modulus.result octets None =
    subst (λ (reading : Option Frame). IsReadAs c.modulus-modulus.result octets reading)
    c.in-None.is c.in_ok-frame.ensures.read in
    (turn, (None, subst (λ (m : Modulus). IsReadAs m octets None) modulus is, refl), shows)
