use Rattle.resampler.proofs.LineLemmas.{two_writes}
use Rattle.resampler.proofs.line.line_of.Goals as goal

pub returns : goal.returns
returns c = two_writes c.args.window.now c.args.part.now _ c.copy_from_slice.new.self c.copy_from_slice-2.new.self _
    c.told-window c.copy_from_slice.ensures.after c.copy_from_slice-2.ensures.after
