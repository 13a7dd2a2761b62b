use Rattle.tone_tracking.proofs.Common.{◌≡◌, pos, ◌+ℤ◌, FitsSigned, to_z, of_z, w32, sym, subst, ◌∙◌, arith, rules}
use Rattle.tone_tracking.proofs.Common.{ints, to_z-of_z, int_le, Pull, Clock, next_clock}
use Rattle.tone_tracking.specs.Clock.{reads}
use Rattle.tone_tracking.proofs.ClockLemmas.{next_pulled, next_same, goes_on}
use Rattle.tone_tracking.proofs.bit_clock.BitClock.step.Goals as goal

pub returns-then-has_changed-clause-next : goal.returns-then-has_changed-clause-next
returns-then-has_changed-clause-next c =
    let s = c.self.inside in
    let inv = c.self.invariant in
    let fit_phase : FitsSigned w32 s.phase = search rules in
    let fit_rate : FitsSigned w32 s.rate = search rules in
    let fit_sum : FitsSigned w32 (s.phase +ℤ s.rate) = omega (arith, ints) in
    let fit_passed : FitsSigned w32 c.passed-phase.result = search rules in
    let fit_now : FitsSigned w32 c.phase_pulled-self-inside.result = search rules in
    let fit_pulled : FitsSigned w32 c.rate_pulled-self-inside.result = search rules in
    let same = simp to_z-of_z at c.passed-phase.ensures.phase in
    let now = simp to_z-of_z at c.phase_pulled-self-inside.ensures.phase in
    let rate = simp to_z-of_z at c.rate_pulled-self-inside.ensures.rate in
    let P : Pull × Clock → Type 0 = λ v. record {
      phase = to_z w32 (of_z w32 c.phase_pulled-self-inside.result);
      rate = to_z w32 (of_z w32 c.rate_pulled-self-inside.result);
      before = c.args.tone;
    }
    ≡ next_clock v.0 v.1 c.args.tone in
    subst P c.self.view_is
    (next_pulled s.pull (record { phase = s.phase; rate = s.rate; before = s.before })
    c.args.tone c.passed-phase.result _ _
    (sym c.has_changed.ensures ∙ c.if-has_changed.true) same (to_z-of_z w32 c.phase_pulled-self-inside.result fit_now
    ∙ now) (to_z-of_z w32 c.rate_pulled-self-inside.result fit_pulled ∙ rate))

pub returns-then-has_changed-clause-reading : goal.returns-then-has_changed-clause-reading
returns-then-has_changed-clause-reading c =
    let s = c.self.inside in
    let inv = c.self.invariant in
    let fit_phase : FitsSigned w32 s.phase = search rules in
    let fit_rate : FitsSigned w32 s.rate = search rules in
    let fit_sum : FitsSigned w32 (s.phase +ℤ s.rate) = omega (arith, ints) in
    let P : Pull × Clock → Type 0 = λ v. int_le (pos 524288)
    (to_z w32 (of_z w32 (to_z w32 (of_z w32 s.phase) +ℤ to_z w32 (of_z w32 s.rate)))) ≡ reads v.1 in
    subst P c.self.view_is (simp to_z-of_z)

pub returns-then-has_changed-clause-stands_for : goal.returns-then-has_changed-clause-stands_for
returns-then-has_changed-clause-stands_for c = λ tones place stood same.
    goes_on c.args.self.now.0 c.args.self.now.1 _ c.args.tone tones place (returns-then-has_changed-clause-next c)
    stood same

pub returns-clause-next : goal.returns-clause-next
returns-clause-next c =
    let s = c.self.inside in
    let inv = c.self.invariant in
    let fit_phase : FitsSigned w32 s.phase = search rules in
    let fit_rate : FitsSigned w32 s.rate = search rules in
    let fit_sum : FitsSigned w32 (s.phase +ℤ s.rate) = omega (arith, ints) in
    let fit_passed : FitsSigned w32 c.passed-phase.result = search rules in
    let same = simp to_z-of_z at c.passed-phase.ensures.phase in
    let P : Pull × Clock → Type 0 = λ v. record {
      phase = to_z w32 (of_z w32 c.passed-phase.result);
      rate = s.rate;
      before = c.args.tone;
    } ≡ next_clock v.0 v.1 c.args.tone in
    subst P c.self.view_is
    (next_same s.pull (record { phase = s.phase; rate = s.rate; before = s.before }) c.args.tone
    (to_z w32 (of_z w32 c.passed-phase.result))
    (sym c.has_changed.ensures ∙ c.if-has_changed.false) (to_z-of_z w32 c.passed-phase.result fit_passed ∙ same))

pub returns-clause-reading : goal.returns-clause-reading
returns-clause-reading c =
    let s = c.self.inside in
    let inv = c.self.invariant in
    let fit_phase : FitsSigned w32 s.phase = search rules in
    let fit_rate : FitsSigned w32 s.rate = search rules in
    let fit_sum : FitsSigned w32 (s.phase +ℤ s.rate) = omega (arith, ints) in
    let P : Pull × Clock → Type 0 = λ v. int_le (pos 524288)
    (to_z w32 (of_z w32 (to_z w32 (of_z w32 s.phase) +ℤ to_z w32 (of_z w32 s.rate)))) ≡ reads v.1 in
    subst P c.self.view_is (simp to_z-of_z)

pub returns-clause-stands_for : goal.returns-clause-stands_for
returns-clause-stands_for c = λ tones place stood same.
    goes_on c.args.self.now.0 c.args.self.now.1 _ c.args.tone tones place (returns-clause-next c) stood same
