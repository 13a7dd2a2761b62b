use Rattle.sensitive_receiver.proofs.Common.{subst}
use Rattle.sensitive_receiver.specs.HeardBlock.{HearsBlock}
use Rattle.sensitive_receiver.specs.HeldLanes.{HeldBank, bank_of}
use Rattle.sensitive_receiver.proofs.added_bank.AddedBank.feed.Goals as goal

pub returns : goal.returns
returns c =
    let P : HeldBank → Type 0 = λ old. HearsBlock old (bank_of c.feed_block.new.line c.feed_block.new.banks) c.args.block.now
    c.in_ok-found.found.items in
    subst P c.self.view_is c.in_ok-found.ensures.heard
