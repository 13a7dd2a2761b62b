use Rattle.hf_tracking.proofs.Common.{◌≡◌, ℤ, List, subst, ap, ◌∙◌, correlations, heard, places_in, tone_at, tone_before}
use Rattle.hf_tracking.proofs.Common.{HeldTones, HasTaken}
use Rattle.hf_tracking.proofs.hf_tones.HfTones.tone_before.Goals as goal

pub returns : goal.returns
returns c =
    let P : HeldTones → Type 0 = λ held. (x : List ℤ) → HasTaken held x
    → c.tone_before.result ≡ tone_before (heard held.bank x) (places_in held.count) c.args.back in
    subst P c.self.view_is (λ x h.
    c.tone_before.ensures (correlations c.self.inside.bank x) h.stands_for
    ∙ ap (λ n. tone_before (tone_at (correlations c.self.inside.bank x)) n c.args.back) h.place)
