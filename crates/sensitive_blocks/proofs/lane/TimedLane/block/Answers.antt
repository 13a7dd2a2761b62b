use Rattle.sensitive_blocks.proofs.Common.{ℕ, List, subst, Tone, bits_of, EndsUnsureBlock, HeldLane, LaneHasRead}
use Rattle.std.specs.Option.{IfNone}
use Rattle.sensitive_blocks.proofs.lane.TimedLane.block.Goals as goal

pub returns-clause-none : goal.returns-clause-none
returns-clause-none c =
    let P : HeldLane → Type 0 = λ now. (tones : List Tone) (numbers ends : List ℕ) → LaneHasRead now tones numbers ends
    → IfNone c.block.result ((frame : List ℕ) → (over : ℕ)
    → ¬ EndsUnsureBlock (bits_of tones) numbers c.args.tag frame over) in
    subst P c.self.view_is (λ tones numbers ends h. c.block.ensures.none tones numbers h.tones_stand h.knows)
