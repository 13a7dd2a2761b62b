use Rattle.station.proofs.Common.{Option, Some, OnOk, sym, ◌∙◌, subst, OwnedLink, without_owner, with_links, link_at}
use Rattle.station.proofs.Common.{with_link, StandsForPlace, Shows, Turn, changing}
use Rattle.station.proofs.EventLemmas.{places-at}
use Rattle.station.proofs.LeaveLemmas.{shows_set, none_given_up, other_kept, own_given_up}
use Rattle.station.proofs.parts.Parts.give_up.Goals as goal

pub returns-in_default-clause-shows : goal.returns-in_default-clause-shows
returns-in_default-clause-shows c = λ turn shows.
    none_given_up c.args.self.now c.args.out.now turn c.args.id c.args.key (link_at c.args.key turn.now.links)
    (subst (λ (held : Option OwnedLink). StandsForPlace held (link_at c.args.key turn.now.links))
    (sym c.in_default.ensures)
    (places-at c.args.self.now.links.places turn.now.links.places c.args.key shows.holds.links.places)) shows

pub returns-then-not-is_of-clause-shows : goal.returns-then-not-is_of-clause-shows
returns-then-not-is_of-clause-shows c = λ turn shows.
    other_kept c.args.self.now c.args.out.now turn c.args.id c.args.key c.in-Some.link.now
    (link_at c.args.key turn.now.links)
    (subst (λ (held : Option OwnedLink). StandsForPlace held (link_at c.args.key turn.now.links))
    (sym c.in-Some.ensures)
    (places-at c.args.self.now.links.places turn.now.links.places c.args.key shows.holds.links.places))
    (sym c.is_of.ensures ∙ c.if-not-is_of.true) shows

pub returns-clause-shows : goal.returns-clause-shows
returns-clause-shows c = λ turn shows.
    let key = c.args.key in
    own_given_up (λ (following : Turn). OnOk c.link_event.result (Shows c.link_event.new.self c.link_event.new.out following))
    turn c.args.id key c.in-Some.link.now (link_at key turn.now.links)
    (subst (λ (held : Option OwnedLink). StandsForPlace held (link_at key turn.now.links)) (sym c.in-Some.ensures)
    (places-at c.args.self.now.links.places turn.now.links.places key shows.holds.links.places))
    (sym c.is_of.ensures ∙ c.if-not-is_of.false)
    (λ link stands at.
    let here = subst (λ (slot : Option OwnedLink). StandsForPlace slot (Some link)) c.in-Some.ensures stands in
    c.link_event.ensures.shows (changing (with_links (with_link key (without_owner link))) turn)
    (shows_set c.args.self.now c.args.out.now turn c.disown.new.self key link (without_owner link) shows at
    (c.disown.ensures link here)))
