use Rattle.slicer_bank.proofs.Common.{sym}
use Rattle.slicer_bank.proofs.MergedLemmas.{adds, can_be_put}
use Rattle.slicer_bank.proofs.decoder.BankLanes.hear.Goals as goal

pub returns-clause-heard : goal.returns-clause-heard
returns-clause-heard c = λ x h.
    let both = c.in_ok-found.ensures.found x h in (
      both.0,
      adds x c.args.block.now c.in_ok-found.found.items both.1,
    )

pub returns-clause-bounds : goal.returns-clause-bounds
returns-clause-bounds c =
    can_be_put c.args.self.now.position c.args._position c.in_ok-found.found.items (sym c.requires.at)
    c.in_ok-found.ensures.bounds c.in_ok-found.ensures.past
