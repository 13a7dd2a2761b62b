use Rattle.tnc_ports.proofs.KeyReleases.{released_by}
use Rattle.tnc_ports.proofs.turning.Turning.release.Goals as goal

pub returns-clause-released : goal.returns-clause-released
returns-clause-released g c = λ from live report key.
    released_by from c.args.self.now.words.key c.args.self.now.key c.release_key.new.side c.args.self.now.failed live _
    report _ _ key.stands key.written key.line_stands
    (c.release_key.ensures c.args.self.now.words.key _ live.keyed key.stands)
