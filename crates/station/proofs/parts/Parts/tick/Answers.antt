use Rattle.station.proofs.Common.{◌≡◌, Bool, Option, ◌∙◌, ap, subst, Sent, Parts, Shows, IsSentFrame}
use Rattle.station.proofs.Common.{Turn, changing, monitoring, true}
use Rattle.std.proofs.Common.{refl}
use Rattle.channel_access.specs.Channel.{air_tick, after_tick}
use Rattle.channel_access.specs.StandsFor.{StandsFor as StandsForChannel}
use Rattle.channel_access.specs.declared.air_tick.AirTick.{AirTick}
use Rattle.station.specs.Asking.{some_wants}
use Rattle.station.specs.State.{one_more}
use Rattle.station.specs.Ticks.{asked_links, air_in, telling_sent, ticking}
use Rattle.station.proofs.parts.Parts.tick.Goals as goal

pub returns-clause-step : goal.returns-clause-step
returns-clause-step c = λ turn shows.
    let busy = c.args.busy in
    let asked : Turn = asked_links busy turn in
    let wants : Bool = some_wants asked.now.links in
    let ticked = c.in_ok-tick_links.ensures.shows turn shows in
    let first = c.in_ok-ask_link.ensures.shows _ ticked in
    let told : c.some_wants-wants.result ≡ wants = c.some_wants-wants.ensures asked.now.links first.holds.links in
    let sent : c.tick-air.result.sent ≡ (air_in busy turn).sent =
    ap (λ (air : AirTick). air.sent) (c.tick-air.ensures.tick asked.now.channel first.holds.channel
    ∙ ap (λ b. air_tick busy b asked.now.channel) told) in
    let aired : Turn = changing (λ s. record s { channel = after_tick busy wants s.channel }) asked in
    let parts : Parts = record c.ask_link.new.self { channel = c.tick-air.new.self } in
    let second : Shows parts c.ask_link.new.out aired = record {
      holds = record {
        parameters = first.holds.parameters;
        digi = first.holds.digi;
        paclen = first.holds.paclen;
        connections = first.holds.connections;
        ids = first.holds.ids;
        registrations = first.holds.registrations;
        links = first.holds.links;
        channel = subst (λ b. StandsForChannel c.tick-air.new.self (after_tick busy b asked.now.channel)) told
            (c.tick-air.ensures.stands_for asked.now.channel first.holds.channel);
        askers = first.holds.askers;
        owners = first.holds.owners;
        heard = first.holds.heard;
        dropped = first.holds.dropped;
        ticks = first.holds.ticks;
        asked = first.holds.asked;
      };
      gave = first.gave;
    } in
    let p = c.in_ok-monitor_sent.ensures.shows aired second in
    let shown : Turn = monitoring true aired.now.ticks p.0 aired in
    let answered : Shows c.tell_sent.new.self c.tell_sent.new.out (telling_sent (air_in busy turn).sent shown) =
    subst (λ (named : Option Sent). Shows c.tell_sent.new.self c.tell_sent.new.out (telling_sent named shown)) sent
    (c.in_ok-tell_sent.ensures.shows shown p.2) in
    let all = answered.holds in (
      ticking busy p.0 turn,
      record {
        monitored = p.0;
        read_as = subst (λ (named : Option Sent). IsSentFrame named asked.now.links p.0) sent p.1;
        effect = refl;
      },
      record {
        holds = record {
          parameters = all.parameters;
          digi = all.digi;
          paclen = all.paclen;
          connections = all.connections;
          ids = all.ids;
          registrations = all.registrations;
          links = all.links;
          channel = all.channel;
          askers = all.askers;
          owners = all.owners;
          heard = all.heard;
          dropped = all.dropped;
          ticks = c.one_more-self.ensures ∙ ap one_more all.ticks;
          asked = all.asked;
        };
        gave = answered.gave;
      },
    )

pub returns-clause-air : goal.returns-clause-air
returns-clause-air c = λ turn shows.
    let asked : Turn = asked_links c.args.busy turn in
    let ticked = c.in_ok-tick_links.ensures.shows turn shows in
    let first = c.in_ok-ask_link.ensures.shows _ ticked in
    c.tick-air.ensures.tick asked.now.channel first.holds.channel
    ∙ ap (λ b. air_tick c.args.busy b asked.now.channel)
    (c.some_wants-wants.ensures asked.now.links first.holds.links)
