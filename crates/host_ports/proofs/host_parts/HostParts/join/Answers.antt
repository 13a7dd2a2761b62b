use Rattle.host_ports.proofs.Common.{◌≡◌, [], ◌++◌, refl, sym, ap, ◌∙◌, on_ok_weaker, HostParts, Client, is_within}
use Rattle.std.proofs.Common.{false, ◌∷◌}
use Rattle.host_ports.proofs.TakeLemmas.{JoinsParts, joined_anew}
use Rattle.host_ports.proofs.host_parts.HostParts.join.Goals as goal

pub returns-clause-moves : goal.returns-clause-moves
returns-clause-moves c =
    let a : HostParts = c.args.self.now in
    let b : HostParts = record a { came = c.add.new.ranges; clients = c.push.new.self } in
    let new : is_within c.args.id a.came.items ≡ false = ap (is_within c.args.id) (sym c.deref.ensures.value)
    ∙ sym c.is_within.ensures ∙ c.if-is_within.false in
    let parts : JoinsParts c.args.id a b = record {
      station = refl;
      came = c.in_ok-add.ensures.added;
      clients = c.in_ok-push.ensures.items ∙ ap (λ waiting. let client : Client =
          record { id = c.args.id; waiting = waiting } in a.clients.items ++ client ∷ []) c.in_ok-waiting.ensures;
      untaken = refl;
      report = refl;
      to_shut = refl;
      leaving = refl;
    } in
    on_ok_weaker c.step.result (λ moves. joined_anew c.args.id c.args.kind a b c.step.new.self new parts moves)
    c.step.ensures.moves
