use Rattle.station.proofs.Common.{◌≡◌, ℕ, Option, Some, None, refl, sym, ◌∙◌, ap, subst, Callsign, Done, Event, step}
use Rattle.station.proofs.Common.{done_of, OwnedLink, Parts, settled_link, with_links, queueing_frames, telling_to}
use Rattle.station.proofs.Common.{event_of, stepped_link, Link, link_at, StandsForPlace, StandsForLink, Shows, HasAt}
use Rattle.station.proofs.Common.{Out, Turn, changing}
use Rattle.station.specs.LinkEvents.{event_of as event_of_place, link_event}
use Rattle.station.proofs.EventLemmas.{places-at, HasAt-set, shows-settled}
use Rattle.station.proofs.parts.Parts.link_event.Goals as goal

-- no link, no event
none_at : (parts : Parts) (out : Out) (turn : Turn) (key : ℕ) (event : Event) (place : Option Link)
    → StandsForPlace None place → Shows parts out turn → Shows parts out (event_of_place key event place turn)
none_at parts out turn key event None h shows = shows
none_at parts out turn key event (Some link) h shows = absurd h

pub returns-in_default-clause-shows : goal.returns-in_default-clause-shows
returns-in_default-clause-shows c = λ turn shows.
    let places = shows.holds.links.places in
    none_at c.args.self.now c.args.out.now turn c.args.key (event_of c.args.event) (link_at c.args.key turn.now.links)
    (subst (λ (held : Option OwnedLink). StandsForPlace held (link_at c.args.key turn.now.links))
    (sym c.in_default.ensures)
    (places-at c.args.self.now.links.places turn.now.links.places c.args.key places))
    shows

-- what stands for a link stands at a place that has one
some_at : (P : Option Link → Type 0) (held : OwnedLink) (place : Option Link) → StandsForPlace (Some held) place
    → ((link : Link) → StandsForLink held link → place ≡ Some link → P (Some link)) → P place
some_at P held None h then = absurd h
some_at P held (Some link) h then = then link h refl

pub returns-clause-shows : goal.returns-clause-shows
returns-clause-shows c = λ turn shows.
    let parts = c.args.self.now in
    let key = c.args.key in
    let event = event_of c.args.event in
    let held : OwnedLink = c.in-Some.link.now in
    let places = shows.holds.links.places in
    some_at (λ place. Shows c.queue_frames.new.self c.tell.new.out (event_of_place key event place turn)) held
    (link_at key turn.now.links)
    (subst (λ (slot : Option OwnedLink). StandsForPlace slot (link_at key turn.now.links)) (sym c.in-Some.ensures)
    (places-at parts.links.places turn.now.links.places key places))
    (λ link stands at.
    let here : HasAt key parts.links link = subst (λ (slot : Option OwnedLink). StandsForPlace slot (Some link))
    c.in-Some.ensures stands in
    let stepped = step link.machine event in
    let next : Link = stepped_link event link in
    let acts : c.in_ok-acts.acts ≡ done_of stepped = c.in_ok-acts.ensures.acts link here in
    let is = c.in_ok-acts.ensures.stands_for link here in
    let settled = c.settle.ensures next
    (HasAt-set parts.links c.take.new.self turn.now.links key link next shows.holds.links at is) in
    let first : Turn = changing (with_links (settled_link key link stepped.now)) turn in
    let shown = shows-settled parts c.args.out.now turn c.take.new.self c.settle.new.self key link stepped.now shows at
    is settled in
    let frames : c.deref.result.now ≡ (done_of stepped).frames = c.deref.ensures.value
    ∙ ap (λ (done : Done). done.frames) (c.acts.view_is ∙ acts) in
    let told : c.deref-2.result.now ≡ (done_of stepped).told = c.deref-2.ensures.value
    ∙ ap (λ (done : Done). done.told) (c.acts.view_is ∙ acts) in
    let queued : Turn = queueing_frames key c.deref.result.now first in
    let all : telling_to held.owner held.local held.remote c.deref-2.result.now queued
    ≡ link_event key event link turn =
    ap (λ owner. telling_to owner held.local held.remote c.deref-2.result.now queued) stands.owner
    ∙ ap (λ (local : Callsign). telling_to link.owner local held.remote c.deref-2.result.now queued) stands.local
    ∙ ap (λ (remote : Callsign). telling_to link.owner link.local remote c.deref-2.result.now queued) stands.remote
    ∙ ap (λ items. telling_to link.owner link.local link.remote items queued) told
    ∙ ap (λ sent. telling_to link.owner link.local link.remote (done_of stepped).told (queueing_frames key sent first))
    frames in
    subst (λ (following : Turn). Shows c.queue_frames.new.self c.tell.new.out following) all
    (c.in_ok-tell.ensures.shows queued (c.in_ok-queue_frames.ensures.shows first shown)))
