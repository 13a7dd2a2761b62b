use Rattle.tone_tracking.proofs.Common.{◌≡◌, ℕ, ◌+◌, ◌%◌, length, get_or, set, ap, sym, subst, ◌∙◌, arith, rules}
use Rattle.tone_tracking.proofs.Common.{Correlations, none, decided, open_of, passed, past_at, tone_at, HeldTracker}
use Rattle.tone_tracking.proofs.Common.{StandsFor}
use Rattle.tone_tracking.proofs.TrackerLemmas.{held, past_at-next, stands_next, tone_is_decided, past_here}
use Rattle.tone_tracking.proofs.tone_tracker.ToneTracker.decide.Goals as goal

pub decide-tone-requires-clause-past : goal.decide-tone-requires-clause-past
decide-tone-requires-clause-past c =
    let eight : length c.self.inside.pasts ≡ 8 = search rules in
    c.self.invariant (c.self.inside.place % 8) none (omega arith)

pub returns-clause-tone : goal.returns-clause-tone
returns-clause-tone c =
    let s = c.self.inside in
    let own : c.args.reach ≡ s.reach = c.requires.reach ∙ ap (λ h. h.reach) (sym c.self.view_is) in
    let P : HeldTracker → Type 0 = λ old. (windows : ℕ → Correlations) → StandsFor old windows
    → c.args.now.now ≡ windows old.place
    → c.args.next.now ≡ windows (old.place + 8) → c.args.later.now ≡ windows (old.place + 16)
    → c.decide-tone.result ≡ tone_at old.reach windows old.place in
    subst P c.self.view_is (λ windows h now next later.
    tone_is_decided s.reach s.place s.pasts s.recent windows c.args.now.now c.args.next.now c.args.later.now
    c.decide-tone.result h now next later
    (c.decide-tone.ensures
    ∙ ap (λ r. decided (get_or s.pasts (s.place % 8) none) c.args.now.now
    (open_of r c.args.next.now c.args.later.now)) own))

pub returns-clause-stands_for : goal.returns-clause-stands_for
returns-clause-stands_for c =
    let s = c.self.inside in
    let own : c.args.reach ≡ s.reach = c.requires.reach ∙ ap (λ h. h.reach) (sym c.self.view_is) in
    let eight : length s.pasts ≡ 8 = search rules in
    let enough : length s.recent ≡ 32 = search rules in
    let P : HeldTracker → Type 0 = λ old. (windows : ℕ → Correlations) → StandsFor old windows
    → c.args.now.now ≡ windows old.place
    → c.args.next.now ≡ windows (old.place + 8) → c.args.later.now ≡ windows (old.place + 16)
    → StandsFor (held s.reach (s.place + 1) (set s.pasts (s.place % 8) c.pass.result)
    (set s.recent (s.place % 32) c.decide-tone.result)) windows in
    subst P c.self.view_is (λ windows h now next later.
    let tone = tone_is_decided s.reach s.place s.pasts s.recent windows c.args.now.now c.args.next.now c.args.later.now
    c.decide-tone.result h now next later
    (c.decide-tone.ensures
    ∙ ap (λ r. decided (get_or s.pasts (s.place % 8) none) c.args.now.now
    (open_of r c.args.next.now c.args.later.now)) own) in
    let past : c.pass.result ≡ past_at s.reach windows (s.place + 8)
    = c.pass.ensures.past ∙ (λ i. passed (own i) (tone i) (now i)
    (past_here s.reach s.place s.pasts s.recent windows h i)) ∙ sym (past_at-next s.reach windows s.place) in
    stands_next s.reach s.place s.pasts s.recent windows c.pass.result c.decide-tone.result eight enough h tone past)
