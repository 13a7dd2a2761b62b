use Rattle.station.proofs.Common.{◌≡◌, ◌+◌, ◌<◌, ℕ, List, length, take, Some, AllZip, sym, subst, arith, get_or}
use Rattle.station.proofs.Common.{take_all, spelling, Kiss, Connection, new_connection, monitor_message, monitoring}
use Rattle.station.proofs.Common.{to_monitors, Shows, StandsForConnection, Out}
use Rattle.station.specs.declared.connection.Connection.{Connection as HeldConnection}
use Rattle.station.proofs.MonitorLemmas.{with_pieces, shown_more, passed_more}
use Rattle.station.proofs.Standing.{AllZip-at, AllZip-length}
use Rattle.station.proofs.parts.Parts.show_frame.Goals.{then-connection+in_ok-shown+in_ok-send, else-connection}
use Rattle.station.proofs.parts.Parts.show_frame.Goals as goal

pub loop-connection-preserved : goal.loop-connection-preserved
loop-connection-preserved c = λ turn shows.
    let parts = c.args.self.now in
    let held = c.deref-connection-items.result.now in
    let places = turn.now.connections in
    let i = c.loop-connection.connection-index in
    let d : Connection = new_connection 0 Kiss in
    let octets : List ℕ = spelling (monitor_message c.args.sent parts.ticks c.args.frame.now) in
    let each = subst (λ xs. AllZip StandsForConnection xs places) (sym c.deref-connection-items.ensures.value)
    shows.holds.connections in
    let within : i < length places = omega (
      arith,
      AllZip-length StandsForConnection held places each,
      c.loop-connection-test.true,
    ) in
    let stands : StandsForConnection c.connection-item.result (get_or places i d) =
    subst (λ (item : HeldConnection). StandsForConnection item (get_or places i d)) (sym c.connection-item.is)
    (AllZip-at StandsForConnection held places i c.connection-item.result d each c.loop-connection-test.true) in
    elim c.if-connection.branch [
      | then-connection+in_ok-shown+in_ok-send w ↦
          subst (λ (out : Out). Shows parts out (with_pieces (to_monitors octets (take (i + 1) places)) turn))
          (sym w.out-is)
          (shown_more parts c.loop-connection.out w.send.new.self turn octets w.in_ok-shown.shown i d
          c.connection-item.result
          (c.loop-connection.invariant turn shows) within stands w.if-connection.true w.in_ok-shown.ensures.spelled
          w.in_ok-send.ensures.sent)
      | else-connection w ↦
          subst (λ (out : Out). Shows parts out (with_pieces (to_monitors octets (take (i + 1) places)) turn))
          (sym w.out-is)
          (passed_more parts c.loop-connection.out turn octets i d c.connection-item.result
          (c.loop-connection.invariant turn shows) within stands w.if-connection.false)
    ]

pub returns-clause-shows : goal.returns-clause-shows
returns-clause-shows c = λ turn shows.
    let parts = c.args.self.now in
    let out = c.loop-connection.out in
    let places = turn.now.connections in
    let frame = c.args.frame.now in
    let each = subst (λ xs. AllZip StandsForConnection xs places) (sym c.deref-connection-items.ensures.value)
    shows.holds.connections in
    let all : take c.loop-connection.connection-index places ≡ places =
    take_all c.loop-connection.connection-index places
    (omega (arith, AllZip-length StandsForConnection c.deref-connection-items.result.now places each)) in
    let whole : Shows parts out (with_pieces (to_monitors (spelling (monitor_message c.args.sent parts.ticks frame))
    places) turn) =
    subst (λ shown. Shows parts out
    (with_pieces (to_monitors (spelling (monitor_message c.args.sent parts.ticks frame)) shown) turn)) all
    (c.loop-connection.invariant turn shows) in
    subst (λ ticks. Shows parts out (monitoring c.args.sent ticks (Some frame) turn)) shows.holds.ticks whole
