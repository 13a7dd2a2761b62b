use Rattle.hf_tracking.proofs.Common.{◌≡◌, ◌+◌, ◌-◌, ◌*◌, ◌/◌, ◌%◌, ◌<◌, ◌≤◌, ℕ, ℤ, pos, List, length, get_or, set, sym}
use Rattle.hf_tracking.proofs.Common.{subst, ap, ◌∙◌, get_or-set_same, to_z, of_z, arith, rules, length-set, to_z-of_z}
use Rattle.hf_tracking.proofs.Common.{w16, Correlations, correlations, none, HeldTones, HeldTracker}
use Rattle.hf_tracking.proofs.Common.{HasSamples, HasTaken, windows_in, places_in}
use Rattle.hf_tracking.proofs.TonesLemmas.{held, shifted, samples_few, samples_more, kept_at, all_small-set}
use Rattle.hf_tracking.proofs.hf_tones.HfTones.push.Goals as goal
use Rattle.hf_tracking.proofs.hf_tones.HfTones.push.Goals.{then-count-lt-WINDOW-via-then-count-lt-WINDOW, then-count-lt-WINDOW-via-else-count-lt-WINDOW+then-count-ne0}

-- no window ends with a sample
few_first : (count : ℕ) → count + 1 < 32 → windows_in (count + 1) ≡ windows_in count
few_first count small = omega arith

few_later : (count : ℕ) → 32 ≤ count + 1 → ((count + 1) % 4 ≡ 0 → ⊥) → windows_in (count + 1) ≡ windows_in count
few_later count enough not = omega arith

few_places : (count : ℕ) → windows_in (count + 1) ≡ windows_in count → places_in (count + 1) ≡ places_in count
few_places count same = omega arith

-- one does, but no place is decided
first_places : (count : ℕ) → 32 ≤ count + 1 → (count + 1) % 4 ≡ 0 → (count + 1 - 32) / 4 < 16
    → places_in count ≡ places_in (count + 1)
first_places count enough fourth small = omega arith

window_ends : (count : ℕ) → 32 ≤ count + 1 → (count + 1) % 4 ≡ 0 → count + 1 ≡ 4 * ((count + 1 - 32) / 4) + 32
window_ends count enough fourth = omega arith

-- a place is
next_place : (count : ℕ) → 32 ≤ count + 1 → (count + 1) % 4 ≡ 0 → 16 ≤ (count + 1 - 32) / 4
    → (places_in count ≡ (count + 1 - 32) / 4 - 16) × (places_in (count + 1) ≡ (count + 1 - 32) / 4 - 16 + 1)
next_place count enough fourth large = (omega arith, omega arith)

kept_windows : (count : ℕ) → 32 ≤ count + 1 → (count + 1) % 4 ≡ 0
    → windows_in (count + 1) ≡ (count + 1 - 32) / 4 + 1
kept_windows count enough fourth = omega arith

pub returns-then-count-lt-WINDOW-clause-has_taken : goal.returns-then-count-lt-WINDOW-clause-has_taken
returns-then-count-lt-WINDOW-clause-has_taken c =
    let s = c.self.inside in
    let wide : length s.samples ≡ 32 = search rules in
    let given : ℤ = to_z w16 (of_z w16 c.args.sample) in
    let same : given ≡ c.args.sample = to_z-of_z w16 c.args.sample c.ranges.sample in
    let shift : c.shift_in.new.samples ≡ shifted s.samples given = c.shift_in.ensures in
    let few : windows_in (s.count + 1) ≡ windows_in s.count = elim c.then-count-lt-WINDOW.branch [
      | then-count-lt-WINDOW-via-then-count-lt-WINDOW w ↦ few_first s.count w.if-count-lt-WINDOW.true
      | then-count-lt-WINDOW-via-else-count-lt-WINDOW+then-count-ne0 w ↦ few_later s.count w.if-count-lt-WINDOW.false w.if-count-ne0.true
    ] in
    let P : HeldTones → Type 0 = λ old. (x : List ℤ) → HasTaken old x → old.count < length x
    → c.args.sample ≡ get_or x old.count (pos 0)
    → HasTaken (held s.bank (s.count + 1) c.shift_in.new.samples s.recent s.tracker) x in
    subst P c.self.view_is (λ x h room is. record {
      samples = subst (λ ss. HasSamples (held s.bank (s.count + 1) ss s.recent s.tracker) x) (sym shift)
          (samples_few s.bank s.count s.samples s.recent s.tracker x given h.samples room (same ∙ is) wide s.tracker few);
      place = h.place ∙ sym (few_places s.count few);
      stands_for = h.stands_for;
    })

pub returns-then-place-lt16-clause-has_taken : goal.returns-then-place-lt16-clause-has_taken
returns-then-place-lt16-clause-has_taken c =
    let s = c.self.inside in
    let wide : length s.samples ≡ 32 = search rules in
    let size : length s.recent ≡ 32 = search rules in
    let given : ℤ = to_z w16 (of_z w16 c.args.sample) in
    let same : given ≡ c.args.sample = to_z-of_z w16 c.args.sample c.ranges.sample in
    let shift : c.shift_in.new.samples ≡ shifted s.samples given = c.shift_in.ensures in
    let place : ℕ = (s.count + 1 - 32) / 4 in
    let later : Correlations = c.correlate-later.result in
    let enough = c.if-count-lt-WINDOW.false in
    let fourth = c.if-count-ne0.false in
    let P : HeldTones → Type 0 = λ old. (x : List ℤ) → HasTaken old x → old.count < length x
    → c.args.sample ≡ get_or x old.count (pos 0)
    → HasTaken (held s.bank (s.count + 1) c.shift_in.new.samples (set s.recent (place % 32) later) s.tracker) x in
    subst P c.self.view_is (λ x h room is. record {
      samples = subst (λ ss. HasSamples (held s.bank (s.count + 1) ss (set s.recent (place % 32) later) s.tracker) x) (sym shift)
          (samples_more s.bank s.count s.samples s.recent s.tracker x given h.samples room (same ∙ is) wide s.tracker place
          later enough (window_ends s.count enough fourth) size
          (subst (λ ss. (y : List ℤ) → ((i : ℕ) → i < 32 → get_or ss i (pos 0) ≡ get_or y (4 * place + i) (pos 0))
          → later ≡ correlations s.bank y place) shift c.correlate-later.ensures.sums));
      place = h.place ∙ first_places s.count enough fourth c.if-place-lt16.true;
      stands_for = h.stands_for;
    })

pub invariant_of-self-then-place-lt16 : goal.invariant_of-self-then-place-lt16
invariant_of-self-then-place-lt16 c =
    let s = c.self.inside in
    let inv = c.self.invariant in (
      inv.0,
      all_small-set s.recent ((s.count + 1 - 32) / 4 % 32) c.correlate-later.result inv.1 c.correlate-later.ensures.bound,
      inv.2 ∙ first_places s.count c.if-count-lt-WINDOW.false c.if-count-ne0.false c.if-place-lt16.true,
    )

pub decide-requires-clause-now : goal.decide-requires-clause-now
decide-requires-clause-now c =
    let s = c.self.inside in
    let size : length s.recent ≡ 32 = search rules in
    let at : ℕ = (s.count + 1 - 32) / 4 % 32 in
    let all = all_small-set s.recent at c.correlate-later.result c.self.invariant.1 c.correlate-later.ensures.bound in
    let same = length-set s.recent at c.correlate-later.result in
    all (((s.count + 1 - 32) / 4 - 16) % 32) _ (omega arith)

pub invariant_of-self-2 : goal.invariant_of-self-2
invariant_of-self-2 c =
    let s = c.self.inside in
    let inv = c.self.invariant in
    let next = next_place s.count c.if-count-lt-WINDOW.false c.if-count-ne0.false c.if-place-lt16.false in (
      inv.0,
      all_small-set s.recent ((s.count + 1 - 32) / 4 % 32) c.correlate-later.result inv.1 c.correlate-later.ensures.bound,
      c.decide.ensures.place ∙ ap (λ n. n + 1) (inv.2 ∙ next.0) ∙ sym next.1,
    )

pub returns-clause-has_taken : goal.returns-clause-has_taken
returns-clause-has_taken c =
    let s = c.self.inside in
    let wide : length s.samples ≡ 32 = search rules in
    let size : length s.recent ≡ 32 = search rules in
    let given : ℤ = to_z w16 (of_z w16 c.args.sample) in
    let same : given ≡ c.args.sample = to_z-of_z w16 c.args.sample c.ranges.sample in
    let shift : c.shift_in.new.samples ≡ shifted s.samples given = c.shift_in.ensures in
    let place : ℕ = (s.count + 1 - 32) / 4 in
    let later : Correlations = c.correlate-later.result in
    let enough = c.if-count-lt-WINDOW.false in
    let fourth = c.if-count-ne0.false in
    let large : 16 ≤ place = c.if-place-lt16.false in
    let next = next_place s.count enough fourth large in
    let windows = kept_windows s.count enough fourth in
    let recent : List Correlations = set s.recent (place % 32) later in
    let silence : Correlations = record { mark = none; space = none } in
    let tracker : HeldTracker = c.decide.new.self in
    let P : HeldTones → Type 0 = λ old. (x : List ℤ) → HasTaken old x → old.count < length x
    → c.args.sample ≡ get_or x old.count (pos 0)
    → HasTaken (held s.bank (s.count + 1) c.shift_in.new.samples recent tracker) x in
    subst P c.self.view_is (λ x h room is.
    let samples : HasSamples (held s.bank (s.count + 1) c.shift_in.new.samples recent tracker) x
    = subst (λ ss. HasSamples (held s.bank (s.count + 1) ss recent tracker) x) (sym shift)
    (samples_more s.bank s.count s.samples s.recent s.tracker x given h.samples room (same ∙ is) wide tracker place
    later enough (window_ends s.count enough fourth) size
    (subst (λ ss. (y : List ℤ) → ((i : ℕ) → i < 32 → get_or ss i (pos 0) ≡ get_or y (4 * place + i) (pos 0))
    → later ≡ correlations s.bank y place) shift c.correlate-later.ensures.sums)) in
    let all : HeldTones = held s.bank (s.count + 1) c.shift_in.new.samples recent tracker in
    let at : s.tracker.place ≡ place - 16 = h.place ∙ next.0 in
    let one = kept_at all x (place - 16) silence samples (omega arith) (omega arith)
    ∙ ap (correlations s.bank x) (sym at) in
    let two = kept_at all x (place - 8) silence samples (omega arith) (omega arith)
    ∙ ap (correlations s.bank x) (let e : place - 8 ≡ s.tracker.place + 8 = omega arith in e) in
    let three = sym (get_or-set_same s.recent (place % 32) later silence (omega arith))
    ∙ kept_at all x place silence samples (omega arith) (omega arith)
    ∙ ap (correlations s.bank x) (let e : place ≡ s.tracker.place + 16 = omega arith in e) in
    record {
      samples = samples;
      place = c.decide.ensures.place ∙ ap (λ n. n + 1) at ∙ sym next.1;
      stands_for = c.decide.ensures.stands_for (correlations s.bank x) h.stands_for one two three;
    })
