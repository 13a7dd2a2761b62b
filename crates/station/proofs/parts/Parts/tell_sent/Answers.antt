use Rattle.station.proofs.Common.{◌≡◌, ◌∷◌, refl, arith, Parts, Shows, on_ok_weaker}
use Rattle.std.specs.List.{remove}
use Rattle.station.proofs.AskerLemmas.{front_of, shows_removed, shows_told, without_front}
use Rattle.station.proofs.parts.Parts.tell_sent.Goals as goal

pub returns-clause-shows : goal.returns-clause-shows
returns-clause-shows c = λ turn shows.
    let parts : Parts = c.args.self.now in
    let out = c.args.out.now in
    let items = parts.askers.items in
    let front = c.remove-asker.result in
    let others = remove items 0 in
    let is : items ≡ front ∷ others =
    front_of items front (omega (arith, c.is_empty.ensures, c.if-is_empty.false)) c.remove-asker.ensures.value in
    let new : Parts = record parts { askers = c.remove-asker.new.self; owners = c.drop_front.new.owners } in
    let removed : Shows new out (without_front turn) =
    shows_removed parts new out turn front others shows is c.remove-asker.ensures.items c.drop_front.ensures refl in
    on_ok_weaker c.tell_asker.result
    (shows_told parts new out c.tell_asker.new.out turn c.args.sent.now c.in-Some.field-0 front others shows removed
    c.in-Some.is is)
    (c.tell_asker.ensures.told (without_front turn).now removed.holds)
