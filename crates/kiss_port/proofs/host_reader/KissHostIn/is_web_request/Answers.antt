use Rattle.std.proofs.Common.{◌∙◌, ap}
use Rattle.kiss_port.specs.HeldHost.{HeldHost, tells_web}
use Rattle.kiss_port.proofs.WebLemmas.{kept_tells}
use Rattle.kiss_port.proofs.host_reader.KissHostIn.is_web_request.Goals as goal

pub returns-clause-web : goal.returns-clause-web
returns-clause-web c = λ stream stands.
    c.is_web_request.ensures ∙ ap (λ (held : HeldHost). tells_web held.beginning) c.self.view_is
    ∙ kept_tells c.args.self.now stream stands
