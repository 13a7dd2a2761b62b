use Rattle.std.proofs.Common.{◌≡◌, ◌+◌, ◌-◌, ◌%◌, ◌<◌, subst, slice_get, arith}
use Rattle.selective_reject.specs.Outgoing.{Outgoing, sent_packet}
use Rattle.selective_reject.proofs.OutgoingRounds.{sent_packet-at}
use Rattle.selective_reject.proofs.outgoing.OutStore.next.Goals as goal

pub returns-clause-packet : goal.returns-clause-packet
returns-clause-packet c =
    let inside = c.self.inside in
    let m = c.args.modulus in
    let number = inside.va + inside.sent in
    let new : Outgoing = record {
      va = inside.va;
      vs = inside.va + (inside.sent + 1);
      top = inside.va + c.max-self-inside.result;
      packets = inside.packets.items;
      again = inside.again;
    } in
    let sent : number < new.top = omega (arith, c.max-self-inside.ensures) in
    let within : number < inside.va + m = omega (arith, c.min-most.ensures, c.requires.at_most) in
    let P : Outgoing → Type 0 = λ t. sent_packet m (number % m) new ≡ slice_get t.packets (t.vs - t.va) in
    subst P c.self.view_is (sent_packet-at new m number (omega arith) sent within)
