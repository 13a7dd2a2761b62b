use Rattle.slicer_bank.proofs.SevenLemmas.{two_writes}
use Rattle.slicer_bank.proofs.seven.bridge.Goals as goal

pub returns : goal.returns
returns c = two_writes c.args.recent.now c.args.first.now _ c.copy_from_slice.new.self c.copy_from_slice-2.new.self _
    c.told-recent c.copy_from_slice.ensures.after c.copy_from_slice-2.ensures.after
