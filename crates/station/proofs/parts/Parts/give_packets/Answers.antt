use Rattle.station.proofs.Common.{◌≡◌, sym, ◌∙◌, ap, arith, subst, Packet, giving_packet, giving_packets}
use Rattle.station.proofs.Common.{Shows, Turn}
use Rattle.station.specs.AgwRequests.{packet_length, packets_of}
use Rattle.station.proofs.GiveLemmas.{first_packets, packets-more}
use Rattle.station.proofs.parts.Parts.give_packets.Goals as goal

pub loop-place-preserved : goal.loop-place-preserved
loop-place-preserved c = record {
  shows = λ turn shows.
      let key = c.args.key in
      let octets = c.args.octets.now in
      let k = c.loop-place.place in
      let len = c.packet_length-len.result in
      let before : Turn = giving_packets key (first_packets len c.args.pid octets k) turn in
      subst (λ (following : Turn). Shows c.link_event.new.self c.link_event.new.out following)
      (sym (packets-more len key c.args.pid octets k turn ∙ ap (λ (packet : Packet). giving_packet key packet before)
      (sym c.in_ok-packet.ensures.packet)))
      (c.in_ok-link_event.ensures.shows before (c.loop-place.invariant.shows turn shows));
  ids = c.in_ok-link_event.ensures.ids ∙ c.loop-place.invariant.ids;
  closed = c.in_ok-link_event.ensures.closed ∙ c.loop-place.invariant.closed;
}

pub returns-clause-shows : goal.returns-clause-shows
returns-clause-shows c = λ turn shows.
    let octets = c.args.octets.now in
    let count = c.loop-place.place in
    let all : count ≡ c.div_ceil-place-end.result = omega arith in
    let len : c.packet_length-len.result ≡ packet_length turn.now.paclen =
    c.packet_length-len.ensures.length ∙ ap packet_length shows.holds.paclen in
    subst (λ len. Shows c.loop-place.self c.loop-place.out
    (giving_packets c.args.key (packets_of len c.args.pid octets) turn)) len
    (subst (λ count. Shows c.loop-place.self c.loop-place.out
    (giving_packets c.args.key (first_packets c.packet_length-len.result c.args.pid octets count) turn))
    (all ∙ c.div_ceil-place-end.ensures)
    (c.loop-place.invariant.shows turn shows))
