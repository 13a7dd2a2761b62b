use Rattle.host_ports.proofs.Common.{◌≡◌, sym, ap, ◌∙◌, list_any, on_ok_weaker, ids_of, is_client_of, is_among}
use Rattle.std.proofs.Common.{true}
use Rattle.host_ports.proofs.NamedLemmas.{among_there}
use Rattle.host_ports.proofs.TakeLemmas.{there_known, left_there}
use Rattle.host_ports.proofs.host_parts.HostParts.leave.Goals as goal

pub step-requires-clause-admitted : goal.step-requires-clause-admitted
step-requires-clause-admitted c =
    let there : list_any (is_client_of c.args.id) c.args.self.now.clients.items ≡ true =
    ap (list_any (is_client_of c.args.id)) (sym c.deref.ensures.value) ∙ sym c.is_there.ensures
    ∙ c.if-not-is_there.false in
    among_there c.args.id (ids_of c.forget.new.self.station)
    (ap (λ station. is_among c.args.id (ids_of station)) c.forget.ensures.narrows.station
    ∙ there_known c.args.id c.args.self.now c.requires.rest.known there)

pub returns-clause-moves : goal.returns-clause-moves
returns-clause-moves c =
    let there : list_any (is_client_of c.args.id) c.args.self.now.clients.items ≡ true =
    ap (list_any (is_client_of c.args.id)) (sym c.deref.ensures.value) ∙ sym c.is_there.ensures
    ∙ c.if-not-is_there.false in
    on_ok_weaker c.step.result (λ moves. left_there c.args.id c.args.self.now c.forget.new.self c.step.new.self there
    c.forget.ensures.moves moves) c.step.ensures.moves
