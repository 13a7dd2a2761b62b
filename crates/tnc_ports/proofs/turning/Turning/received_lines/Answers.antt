use Rattle.tnc_ports.proofs.Common.{true, ◌≡◌, ◌++◌, [], ap, ◌∙◌, rules, ReceivedLine}
use Rattle.std.proofs.Common.{◌∷◌}
use Rattle.tnc_ports.proofs.LiveSteps.{received_line}
use Rattle.tnc_ports.proofs.turning.Turning.received_lines.Goals as goal

pub returns : goal.returns
returns c = λ hosts printed stands.
    let on : c.args.self.now.words.monitor ≡ true = search rules in
    let path = c.heard_modulus.ensures hosts printed stands in
    received_line c.args.self.now.words.monitor c.args.octets.now c.in_ok-text.text hosts.station.links
    c.heard_modulus.result _ path.0
    on path.1 path.2 c.in_ok-text.ensures
    (c.in_ok-push.ensures.items ∙ ap (λ xs. xs ++ ReceivedLine c.in_ok-text.text ∷ []) c.new-lines.ensures.items)
