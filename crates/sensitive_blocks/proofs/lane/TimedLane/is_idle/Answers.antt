use Rattle.sensitive_blocks.proofs.Common.{◌≡◌, ℕ, List, true, subst, Tone, bits_of, EndsUnsureBlock, HeldLane, LaneHasRead}
use Rattle.sensitive_blocks.proofs.lane.TimedLane.is_idle.Goals as goal

pub returns : goal.returns
returns c =
    let P : HeldLane → Type 0 = λ now. (tones : List Tone) (numbers ends : List ℕ) → LaneHasRead now tones numbers ends
    → c.is_idle.result ≡ true → (tag : ℕ) → (frame : List ℕ) → (over : ℕ)
    → ¬ EndsUnsureBlock (bits_of tones) numbers tag frame over in
    subst P c.self.view_is (λ tones numbers ends h idle. c.is_idle.ensures tones numbers h.tones_stand idle)
