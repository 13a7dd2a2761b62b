use Rattle.tone_tracking.proofs.Common.{◌≡◌, ℕ, ◌+◌, ◌*◌, ℤ, List, length, arith, refl, subst, ◌∙◌, ap}
use Rattle.tone_tracking.proofs.Common.{correlations, length-set}
use Rattle.tone_tracking.specs.Slots.{ArePastsAt}
use Rattle.tone_tracking.proofs.SlotLemmas.{eighth_more, window_given}
use Rattle.tone_tracking.proofs.slot_tracker.decide_windows.Goals as goal

pub loop-index-init : goal.loop-index-init
loop-index-init c =
    let levels : List ℤ = c.args.levels.now in
    let first = c.args.first in
    let at : first ≡ first + 0 = omega arith in
    let next : first + 8 ≡ first + 0 + 8 = omega arith in
    record {
      length = refl;
      now_within = c.correlate_at-now.ensures.bound;
      next_within = c.correlate_at-next.ensures.bound;
      within = c.requires.pasts;
      now_is = c.correlate_at-now.ensures.sums ∙ ap (correlations levels) at;
      next_is = c.correlate_at-next.ensures.sums ∙ ap (correlations levels) next;
      pasts = λ windows base gives h.
          let here : base + first ≡ base + first + 0 = omega arith in
          subst (ArePastsAt c.args.pasts.now windows) here h;
      tones = λ windows base gives h k d below. absurd (omega arith);
    }

pub loop-index-preserved : goal.loop-index-preserved
loop-index-preserved c =
    let levels : List ℤ = c.args.levels.now in
    let first = c.args.first in
    let n = c.loop-index.index in
    let before = c.loop-index.invariant in
    let test = c.loop-index-test.true in
    let end = c.loop-index.auto.index-end in
    let size = before.length in
    let next : first + 8 * n + 8 ≡ first + 8 * (n + 1) = omega arith in
    let later : first + 8 * n + 16 ≡ first + 8 * (n + 1) + 8 = omega arith in
    record {
      length = (let s = before.length in omega (arith, length-set c.loop-index.tones n c.decide_place.result));
      now_within = before.next_within;
      next_within = c.correlate_at-later.ensures.bound;
      within = c.decide_place.ensures.within;
      now_is = before.next_is ∙ ap (correlations levels) next;
      next_is = c.correlate_at-later.ensures.sums ∙ ap (correlations levels) later;
      pasts = λ windows base gives h.
          let place : ℕ = base + first + 8 * n in
          let after : place + 8 ≡ base + first + 8 * (n + 1) = omega arith in
          subst (ArePastsAt c.decide_place.new.pasts windows) after (c.decide_place.ensures.pasts windows place
          (window_given levels windows base (first + 8 * n) place c.loop-index.now gives before.now_is (omega arith))
          (window_given levels windows base (first + 8 * n + 8) (place + 8) c.loop-index.next gives before.next_is
          (omega arith))
          (window_given levels windows base (first + 8 * n + 16) (place + 16) c.correlate_at-later.result gives
          c.correlate_at-later.ensures.sums (omega arith)) (before.pasts windows base gives h));
      tones = λ windows base gives h.
          let place : ℕ = base + first + 8 * n in
          eighth_more c.loop-index.tones windows (base + first) n c.decide_place.result (omega arith)
          (before.tones windows base gives h) (c.decide_place.ensures.tones windows place
          (window_given levels windows base (first + 8 * n) place c.loop-index.now gives before.now_is (omega arith))
          (window_given levels windows base (first + 8 * n + 8) (place + 8) c.loop-index.next gives before.next_is
          (omega arith))
          (window_given levels windows base (first + 8 * n + 16) (place + 16) c.correlate_at-later.result gives
          c.correlate_at-later.ensures.sums (omega arith)) (before.pasts windows base gives h));
    }

pub returns-clause-pasts : goal.returns-clause-pasts
returns-clause-pasts c = λ windows base gives h.
    let past = c.loop-index-test.false in
    let most = c.loop-index.auto.index-end in
    let all : c.loop-index.index ≡ length c.args.tones.now = omega arith in
    subst (λ n. ArePastsAt c.loop-index.held windows (base + c.args.first + 8 * n)) all
    (c.loop-index.invariant.pasts windows base gives h)

pub returns-clause-tones : goal.returns-clause-tones
returns-clause-tones c = λ windows base gives h k d below.
    let past = c.loop-index-test.false in
    let most = c.loop-index.auto.index-end in
    let size = c.loop-index.invariant.length in
    c.loop-index.invariant.tones windows base gives h k d (omega arith)
