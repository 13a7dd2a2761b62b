use Rattle.host_ports.proofs.Common.{◌≡◌, refl, sym, ap, ◌∙◌, list_any, true≢false, on_ok_weaker, ids_of, HostParts}
use Rattle.host_ports.proofs.Common.{is_client_of}
use Rattle.std.proofs.Common.{arith, true}
use Rattle.host_ports.proofs.NamedLemmas.{among_there}
use Rattle.host_ports.proofs.TakeLemmas.{Holds, holds_on, takes_now, there_known}
use Rattle.host_ports.proofs.host_parts.HostParts.take_octets.Goals as goal

pub returns-then-has_to_wait-clause-moves : goal.returns-then-has_to_wait-clause-moves
returns-then-has_to_wait-clause-moves c =
    let there : list_any (is_client_of c.args.id) c.args.self.now.clients.items ≡ true =
    ap (list_any (is_client_of c.args.id)) (sym c.deref.ensures.value) ∙ sym c.is_there.ensures
    ∙ c.if-not-is_there.false in
    let a : HostParts = c.args.self.now in
    let b : HostParts = record a { untaken = c.push.new.self } in
    let holds : Holds c.args.id c.args.octets a b = record {
      station = refl;
      came = refl;
      clients = refl;
      untaken = c.in_ok-push.ensures.items;
      report = refl;
      to_shut = refl;
      leaving = refl;
    } in
    holds_on c.args.id c.args.octets a b there (λ printed hosts h.
    (c.has_to_wait.ensures.waits printed hosts h).0 c.if-has_to_wait.true) holds

pub step-requires-clause-admitted : goal.step-requires-clause-admitted
step-requires-clause-admitted c =
    let there : list_any (is_client_of c.args.id) c.args.self.now.clients.items ≡ true =
    ap (list_any (is_client_of c.args.id)) (sym c.deref.ensures.value) ∙ sym c.is_there.ensures
    ∙ c.if-not-is_there.false in (
      among_there c.args.id (ids_of c.args.self.now.station)
          (there_known c.args.id c.args.self.now c.requires.rest.known there),
      (let few = c.requires.piece in omega arith),
      c.has_to_wait.ensures.takes c.if-has_to_wait.false,
    )

pub returns-clause-moves : goal.returns-clause-moves
returns-clause-moves c =
    let there : list_any (is_client_of c.args.id) c.args.self.now.clients.items ≡ true =
    ap (list_any (is_client_of c.args.id)) (sym c.deref.ensures.value) ∙ sym c.is_there.ensures
    ∙ c.if-not-is_there.false in
    on_ok_weaker c.step.result
    (λ moves. takes_now c.args.id c.args.octets c.args.self.now c.step.new.self there
    (λ printed hosts h waits. true≢false (sym ((c.has_to_wait.ensures.waits printed hosts h).1 waits)
    ∙ c.if-has_to_wait.false)) moves)
    c.step.ensures.moves
