use Rattle.station.proofs.Common.{◌≡◌, Bool, OnOk, refl, sym, ◌∙◌, ap, subst, Shows}
use Rattle.station.proofs.Common.{event_at, Turn, changing}
use Rattle.channel_access.specs.Channel.{takes_last}
use Rattle.channel_access.specs.declared.parameters.Parameters.{Parameters}
use Rattle.link_machine.specs.Event.{Event}
use Rattle.link_machine.specs.Event.Event.{Seize}
use Rattle.station.specs.Asking.{next_wanting, with_asked, seizing}
use Rattle.station.proofs.AskLemmas.{none_taken, none_asked, one_asked}
use Rattle.station.proofs.parts.Parts.ask_link.Goals as goal

-- the channel takes no frame
pub returns-then-not-takes_frame-clause-shows : goal.returns-then-not-takes_frame-clause-shows
returns-then-not-takes_frame-clause-shows c = λ turn shows.
    subst (λ (following : Turn). Shows c.args.self.now c.args.out.now following)
    (sym (none_taken turn
    (sym (c.takes_frame.ensures turn.now.channel shows.holds.channel) ∙ c.if-not-takes_frame.true)))
    shows

-- no link wants to send
pub returns-in_default-clause-shows : goal.returns-in_default-clause-shows
returns-in_default-clause-shows c = λ turn shows.
    subst (λ (following : Turn). Shows c.args.self.now c.args.out.now following)
    (sym (none_asked turn
    (sym (c.takes_frame.ensures turn.now.channel shows.holds.channel) ∙ c.if-not-takes_frame.false)
    (ap (λ last. next_wanting last turn.now.links) (sym shows.holds.asked)
    ∙ sym (c.next_wanting.ensures turn.now.links shows.holds.links) ∙ c.in_default.is)))
    shows

pub returns-clause-shows : goal.returns-clause-shows
returns-clause-shows c = λ turn shows.
    let key = c.in-Some.key in
    let h = shows.holds in
    let before : Turn = changing (with_asked key) turn in
    let here : Shows (record c.args.self.now { asked = key }) c.args.out.now before = record {
      holds = record {
        parameters = h.parameters;
        digi = h.digi;
        paclen = h.paclen;
        connections = h.connections;
        ids = h.ids;
        registrations = h.registrations;
        links = h.links;
        channel = h.channel;
        askers = h.askers;
        owners = h.owners;
        heard = h.heard;
        dropped = h.dropped;
        ticks = h.ticks;
        asked = refl;
      };
      gave = shows.gave;
    } in
    let full : Bool = c.parameters-full_duplex.result.full_duplex in
    let event : Seize c.takes_last-last.result full ≡ seizing turn.now =
    ap (λ last. Seize last full) (c.takes_last-last.ensures turn.now.channel h.channel)
    ∙ ap (λ (p : Parameters). Seize (takes_last turn.now.channel) p.full_duplex)
    (c.parameters-full_duplex.ensures turn.now.channel h.channel) in
    let asked =
    one_asked turn key
    (sym (c.takes_frame.ensures turn.now.channel h.channel) ∙ c.if-not-takes_frame.false)
    (ap (λ last. next_wanting last turn.now.links) (sym h.asked)
    ∙ sym (c.next_wanting.ensures turn.now.links h.links) ∙ c.in-Some.is) in
    subst (λ (following : Turn). OnOk c.link_event.result (Shows c.link_event.new.self c.link_event.new.out following))
    (ap (λ (e : Event). event_at key e before) event ∙ sym asked) (c.link_event.ensures.shows before here)
