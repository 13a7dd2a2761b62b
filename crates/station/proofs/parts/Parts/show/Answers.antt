use Rattle.station.proofs.Common.{◌≡◌, ◌<◌, length, map, take, AllZip, sym, subst, arith, get_or, take_all, Kiss}
use Rattle.station.proofs.Common.{Connection, new_connection, showing_to, Shows, StandsForConnection, Turn, in_order}
use Rattle.station.specs.declared.connection.Connection.{Connection as HeldConnection}
use Rattle.station.proofs.ShowLemmas.{shows_shown}
use Rattle.station.proofs.Standing.{AllZip-at, AllZip-length}
use Rattle.station.proofs.TurnLemmas.{in_order-more}
use Rattle.station.proofs.parts.Parts.show.Goals as goal

pub loop-connection-preserved : goal.loop-connection-preserved
loop-connection-preserved c = λ turn shows.
    let parts = c.args.self.now in
    let held = c.deref-connection-items.result.now in
    let places = turn.now.connections in
    let i = c.loop-connection.connection-index in
    let d : Connection = new_connection 0 Kiss in
    let one : Connection → Turn → Turn = showing_to c.args.from c.args.to c.args.octets.now in
    let each = subst (λ xs. AllZip StandsForConnection xs places) (sym c.deref-connection-items.ensures.value)
    shows.holds.connections in
    let within : i < length places = omega (
      arith,
      AllZip-length StandsForConnection held places each,
      c.loop-connection-test.true,
    ) in
    let stands : StandsForConnection c.connection-item.result (get_or places i d) =
    subst (λ (item : HeldConnection). StandsForConnection item (get_or places i d)) (sym c.connection-item.is)
    (AllZip-at StandsForConnection held places i c.connection-item.result d each c.loop-connection-test.true) in
    let before : Turn = in_order (map one (take i places)) turn in
    subst (λ (following : Turn). Shows parts c.show_to.new.out following) (sym (in_order-more one places i d turn within))
    (shows_shown parts c.loop-connection.out c.show_to.new.out before c.connection-item.result (get_or places i d)
    c.args.from c.args.to c.args.octets.now
    (c.loop-connection.invariant turn shows) stands c.in_ok-show_to.ensures.shown)

pub returns-clause-shows : goal.returns-clause-shows
returns-clause-shows c = λ turn shows.
    let parts = c.args.self.now in
    let places = turn.now.connections in
    let one : Connection → Turn → Turn = showing_to c.args.from c.args.to c.args.octets.now in
    let each = subst (λ xs. AllZip StandsForConnection xs places) (sym c.deref-connection-items.ensures.value)
    shows.holds.connections in
    let all : take c.loop-connection.connection-index places ≡ places =
    take_all c.loop-connection.connection-index places
    (omega (arith, AllZip-length StandsForConnection c.deref-connection-items.result.now places each)) in
    subst (λ shown. Shows parts c.loop-connection.out (in_order (map one shown) turn)) all
    (c.loop-connection.invariant turn shows)
