use Rattle.slicer_bank.proofs.Common.{stretch_bits}
use Rattle.std.specs.Prelude.{is_some}
use Rattle.slicer_bank.specs.Detection.{stretch_windows}
use Rattle.slicer_bank.proofs.ToneLemmas.{by_flags, by_tones}
use Rattle.slicer_bank.proofs.stretch_lane.StretchLane.hears.Goals as goal

pub returns-in-Flags : goal.returns-in-Flags
returns-in-Flags c = λ s h asked.
    let was = c.args.self.now in
    by_flags c.args.detection _ c.in-Flags.is _ was.offset s c.busy.result asked.flags
    (c.busy.ensures.busy (stretch_bits was.offset s) h.deframer)

pub returns-in-Tones : goal.returns-in-Tones
returns-in-Tones c = λ s h asked.
    let was = c.args.self.now in
    by_tones c.args.detection c.in-Tones.is (is_some was.tones) was.offset s c.is_busy.result asked.tones
    (c.is_busy.ensures (stretch_windows was.offset s) h.tones)
