use Rattle.sensitive_blocks.proofs.Common.{◌≡◌, ℤ, List, ap, ◌∙◌, subst, added_places, tones}
use Rattle.tone_tracking.specs.Heard.{places_in}
use Rattle.tone_tracking.specs.HeldTracker.{tone_before}
use Rattle.tone_tracking.specs.WithoutMean.{without_mean}
use Rattle.sensitive_blocks.specs.Held.{FollowerHasTaken, HeldFollower}
use Rattle.sensitive_blocks.proofs.follower.Follower.tone_before.Goals as goal

pub returns : goal.returns
returns c =
    let P : HeldFollower → Type 0 = λ now. (x : List ℤ) → FollowerHasTaken now x
    → c.tone_before.result ≡ tone_before (tones c.args.reach x) (added_places now.position) c.args.back in
    subst P c.self.view_is (λ x h. c.tone_before.ensures (without_mean x) h.lists
    ∙ ap (λ n. tone_before (tones c.args.reach x) (places_in n) c.args.back) h.count)
