use Rattle.tone_tracking.proofs.Common.{◌≡◌, ℕ, ◌+◌, ◌-◌, ◌%◌, subst, ap, ◌∙◌, Mark, Correlations, tone_at, tone_before}
use Rattle.std.specs.Prelude.{slice_index_or}
use Rattle.tone_tracking.specs.HeldRing.{HeldRing, StandsFor}
use Rattle.tone_tracking.proofs.tone_ring.ToneRing.tone_before.Goals as goal

pub returns : goal.returns
returns c =
    let s = c.self.inside in
    let P : HeldRing → Type 0 = λ held. (windows : ℕ → Correlations) → StandsFor held windows
    → slice_index_or s.recent ((s.place + 31 - c.from.result) % 32) Mark
    ≡ tone_before (tone_at held.reach windows) held.place c.args.back in
    subst P c.self.view_is (λ windows h.
    ap (λ back. slice_index_or s.recent ((s.place + 31 - back) % 32) Mark) c.from.ensures
    ∙ h.recent c.args.back Mark c.requires.back)
