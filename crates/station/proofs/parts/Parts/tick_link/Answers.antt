use Rattle.station.proofs.Common.{◌≡◌, Bool, OnOk, ◌∙◌, ap, subst, event_at, Shows, waits, t1_stands}
use Rattle.std.specs.Prelude.{not, ◌&&◌, ◌||◌}
use Rattle.channel_access.specs.declared.parameters.Parameters.{Parameters}
use Rattle.link_machine.specs.Event.Event.{Tick}
use Rattle.station.proofs.TickLemmas.{waits_told}
use Rattle.station.proofs.parts.Parts.tick_link.Goals as goal

pub returns-clause-shows : goal.returns-clause-shows
returns-clause-shows c = λ turn shows.
    let key = c.args.key in
    let busy = c.args.busy in
    let channel = turn.now.channel in
    let told : c.waiting-waits.result ≡ waits key channel.waiting =
    waits_told c.waiting-waits.result key c.args.self.now.channel.waiting c.waiting-waits.ensures
    ∙ ap (waits key) shows.holds.channel.waiting in
    let still : c.stands_still-still.result ≡ t1_stands busy key channel =
    c.stands_still-still.ensures
    ∙ ap (λ (b : Bool). b || (busy && not c.parameters-full_duplex.result.full_duplex)) told
    ∙ ap (λ (p : Parameters). waits key channel.waiting || (busy && not p.full_duplex))
    (c.parameters-full_duplex.ensures channel shows.holds.channel) in
    subst (λ (b : Bool). OnOk c.link_event.result
    (Shows c.link_event.new.self c.link_event.new.out (event_at key (Tick b) turn))) still
    (c.link_event.ensures.shows turn shows)
