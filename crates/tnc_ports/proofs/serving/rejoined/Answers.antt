use Rattle.tnc_ports.proofs.Common.{◌∷◌, ◌++◌, [], ap, ◌∙◌}
use Rattle.tnc_ports.proofs.LiveServe.{joined}
use Rattle.tnc_ports.proofs.serving.rejoined.Goals as goal

pub returns : goal.returns
returns c =
    c.push_reserved.ensures.items
    ∙ ap (λ readers. readers ++ c.args.sound ∷ [])
    (joined c.append.result c.unwrap.result c.append.new.self.items c.args.room.items c.finish-readers.result.items
    c.unwrap.ensures c.append.ensures.items c.requires.empty ∙ c.finish-readers.ensures.items)
