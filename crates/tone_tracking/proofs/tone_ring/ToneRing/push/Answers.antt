use Rattle.tone_tracking.proofs.Common.{◌≡◌, ℕ, ◌+◌, ◌%◌, length, set, subst, rules, Correlations, tone_at}
use Rattle.tone_tracking.specs.HeldRing.{HeldRing, StandsFor}
use Rattle.tone_tracking.proofs.RingLemmas.{ring, ring_next}
use Rattle.tone_tracking.proofs.tone_ring.ToneRing.push.Goals as goal

pub returns-clause-stands_for : goal.returns-clause-stands_for
returns-clause-stands_for c =
    let s = c.self.inside in
    let enough : length s.recent ≡ 32 = search rules in
    let P : HeldRing → Type 0 = λ old. (windows : ℕ → Correlations) → StandsFor old windows
    → c.args.tone ≡ tone_at old.reach windows old.place
    → StandsFor (ring s.reach (s.place + 1) (set s.recent (s.place % 32) c.args.tone)) windows in
    subst P c.self.view_is (λ windows h is. ring_next s.reach s.place s.recent windows c.args.tone enough h is)
