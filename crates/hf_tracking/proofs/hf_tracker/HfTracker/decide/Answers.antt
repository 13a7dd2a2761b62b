use Rattle.hf_tracking.proofs.Common.{◌≡◌, ℕ, ◌+◌, ◌%◌, length, set, sym, subst, ◌∙◌, arith, rules}
use Rattle.hf_tracking.proofs.Common.{Correlations, no_track, next_track, track_at, HeldTracker}
use Rattle.hf_tracking.proofs.Common.{TrackerStandsFor}
use Rattle.hf_tracking.proofs.TrackLemmas.{bounded_set}
use Rattle.hf_tracking.proofs.TrackerLemmas.{held, track_at-next, stands_next, tone_is_decided, track_here}
use Rattle.hf_tracking.proofs.hf_tracker.HfTracker.decide.Goals as goal

pub decide-tone-requires-clause-track : goal.decide-tone-requires-clause-track
decide-tone-requires-clause-track c =
    let eight : length c.self.inside.tracks ≡ 8 = search rules in
    c.self.invariant (c.self.inside.place % 8) no_track (omega arith)

pub next-requires-clause-track : goal.next-requires-clause-track
next-requires-clause-track c =
    let eight : length c.self.inside.tracks ≡ 8 = search rules in
    c.self.invariant (c.self.inside.place % 8) no_track (omega arith)

pub invariant_of-self : goal.invariant_of-self
invariant_of-self c =
    bounded_set c.self.inside.tracks (c.self.inside.place % 8) c.next.result c.self.invariant c.next.ensures.bound

pub returns-clause-stands_for : goal.returns-clause-stands_for
returns-clause-stands_for c =
    let s = c.self.inside in
    let eight : length s.tracks ≡ 8 = search rules in
    let enough : length s.recent ≡ 32 = search rules in
    let P : HeldTracker → Type 0 = λ old. (windows : ℕ → Correlations) → TrackerStandsFor old windows
    → c.args.now.now ≡ windows old.place
    → c.args.next.now ≡ windows (old.place + 8) → c.args.later.now ≡ windows (old.place + 16)
    → TrackerStandsFor (held (s.place + 1) (set s.tracks (s.place % 8) c.next.result)
    (set s.recent (s.place % 32) c.decide-tone.result)) windows in
    subst P c.self.view_is (λ windows h now next later.
    let tone = tone_is_decided s.place s.tracks s.recent windows c.args.now.now c.args.next.now c.args.later.now
    c.decide-tone.result h now next later c.decide-tone.ensures in
    let track : c.next.result ≡ track_at windows (s.place + 8)
    = c.next.ensures.next ∙ (λ i. next_track (tone i) (now i) (track_here s.place s.tracks s.recent windows h i))
    ∙ sym (track_at-next windows s.place) in
    stands_next s.place s.tracks s.recent windows c.next.result c.decide-tone.result eight enough h tone track)
