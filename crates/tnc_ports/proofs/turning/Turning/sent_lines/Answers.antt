use Rattle.tnc_ports.proofs.Common.{true, ◌≡◌, ◌++◌, [], ap, ◌∙◌, rules, SentLine}
use Rattle.std.proofs.Common.{◌∷◌}
use Rattle.tnc_ports.proofs.LiveSteps.{sent_line}
use Rattle.tnc_ports.proofs.turning.Turning.sent_lines.Goals as goal

pub returns : goal.returns
returns c = λ hosts printed stands.
    let on : c.args.self.now.words.monitor ≡ true = search rules in
    let path = c.sent_modulus.ensures hosts printed stands in
    sent_line c.args.self.now.words.monitor c.args.air.now.sent c.in-Some.sent c.as_slice-octets.result.now
    c.in_ok-text.text hosts.station.links c.sent_modulus.result _ path.0
    on c.in-Some.is c.as_slice-octets.ensures.list path.1 path.2 c.in_ok-text.ensures
    (c.in_ok-push.ensures.items ∙ ap (λ xs. xs ++ SentLine c.in_ok-text.text ∷ []) c.new-lines.ensures.items)
