use Rattle.tone_tracking.proofs.Common.{◌≡◌, ◌+◌, ◌-◌, ◌%◌, ◌<◌, ◌≤◌, ℤ, pos, List, length, get_or, set, refl, sym}
use Rattle.tone_tracking.proofs.Common.{subst, ◌∙◌, get_or-set_same, to_z, of_z, arith, rules, length-set, to_z-of_z}
use Rattle.tone_tracking.proofs.Common.{w32, Correlations, none, HeldLists, HasSamples, HasTaken, ℕ, All, unsigned_abs}
use Rattle.tone_tracking.proofs.ListsLemmas.{held, with_next, still_decided, samples_few, samples_more, kept_at}
use Rattle.tone_tracking.proofs.ListsLemmas.{decided_more, all_within-set, all_small-next}
use Rattle.tone_tracking.proofs.tone_lists.ToneLists.push.Goals as goal

pub returns-then-count-lt8-clause-has_taken : goal.returns-then-count-lt8-clause-has_taken
returns-then-count-lt8-clause-has_taken c =
    let s = c.self.inside in
    let wide : length s.samples ≡ 16 = search rules in
    let given : ℤ = to_z w32 (of_z w32 c.args.sample) in
    let same : given ≡ c.args.sample = to_z-of_z w32 c.args.sample c.ranges.sample in
    let kept : List ℤ = with_next s.count s.samples given in
    let few = c.if-count-lt8.true in
    let P : HeldLists → Type 0 = λ old. (x : List ℤ) → HasTaken old x → old.count < length x
    → c.args.sample ≡ get_or x old.count (pos 0)
    → HasTaken (held (s.count + 1) kept s.recent s.alone s.near s.far) x in
    subst P c.self.view_is (λ x h room is. record {
      samples = samples_few s.count s.samples s.recent x given s.alone s.near s.far h.samples room (same ∙ is) wide s.alone s.near
          s.far few;
      alone = still_decided s.alone s.count (s.count + 1) x (omega arith) h.alone;
      near = still_decided s.near s.count (s.count + 1) x (omega arith) h.near;
      far = still_decided s.far s.count (s.count + 1) x (omega arith) h.far;
    })

pub returns-then-count-lt24-clause-has_taken : goal.returns-then-count-lt24-clause-has_taken
returns-then-count-lt24-clause-has_taken c =
    let s = c.self.inside in
    let wide : length s.samples ≡ 16 = search rules in
    let given : ℤ = to_z w32 (of_z w32 c.args.sample) in
    let same : given ≡ c.args.sample = to_z-of_z w32 c.args.sample c.ranges.sample in
    let kept : List ℤ = with_next s.count s.samples given in
    let enough = c.if-count-lt8.false in
    let few = c.if-count-lt24.true in
    let size : length s.recent ≡ 32 = search rules in
    let P : HeldLists → Type 0 = λ old. (x : List ℤ) → HasTaken old x → old.count < length x
    → c.args.sample ≡ get_or x old.count (pos 0)
    → HasTaken (held (s.count + 1) kept (set s.recent ((s.count + 1 - 8) % 32) c.correlate-later.result)
    s.alone s.near s.far) x in
    subst P c.self.view_is (λ x h room is. record {
      samples = samples_more s.count s.samples s.recent x given s.alone s.near s.far h.samples room (same ∙ is) wide s.alone s.near
          s.far c.eight_from.result.now c.correlate-later.result enough size c.eight_from.ensures.samples
          c.correlate-later.ensures.sums;
      alone = still_decided s.alone s.count (s.count + 1) x (omega arith) h.alone;
      near = still_decided s.near s.count (s.count + 1) x (omega arith) h.near;
      far = still_decided s.far s.count (s.count + 1) x (omega arith) h.far;
    })

pub returns-clause-has_taken : goal.returns-clause-has_taken
returns-clause-has_taken c =
    let s = c.self.inside in
    let wide : length s.samples ≡ 16 = search rules in
    let given : ℤ = to_z w32 (of_z w32 c.args.sample) in
    let same : given ≡ c.args.sample = to_z-of_z w32 c.args.sample c.ranges.sample in
    let kept : List ℤ = with_next s.count s.samples given in
    let enough : 8 ≤ s.count + 1 = c.if-count-lt8.false in
    let many : 24 ≤ s.count + 1 = c.if-count-lt24.false in
    let size : length s.recent ≡ 32 = search rules in
    let recent : List Correlations = set s.recent ((s.count + 1 - 8) % 32) c.correlate-later.result in
    let silence : Correlations = record { mark = none; space = none } in
    let P : HeldLists → Type 0 = λ old. (x : List ℤ) → HasTaken old x → old.count < length x
    → c.args.sample ≡ get_or x old.count (pos 0)
    → HasTaken (held (s.count + 1) kept recent c.decide.new.self c.decide-2.new.self c.decide-3.new.self) x in
    subst P c.self.view_is (λ x h room is.
    let samples : HasSamples (held (s.count + 1) kept recent c.decide.new.self c.decide-2.new.self c.decide-3.new.self) x
    = samples_more s.count s.samples s.recent x given s.alone s.near s.far h.samples room (same ∙ is) wide
    c.decide.new.self c.decide-2.new.self c.decide-3.new.self c.eight_from.result.now c.correlate-later.result enough size
    c.eight_from.ensures.samples c.correlate-later.ensures.sums in
    let all : HeldLists = held (s.count + 1) kept recent c.decide.new.self c.decide-2.new.self c.decide-3.new.self in
    let one = kept_at all x silence (s.count + 1 - 24) (s.count + 1 - 24) samples refl (omega arith) (omega arith) in
    let two = kept_at all x silence (s.count + 1 - 16) (s.count + 1 - 16) samples refl (omega arith) (omega arith) in
    let slot = s.count + 1 - 8 in
    let three = sym (get_or-set_same s.recent (slot % 32) c.correlate-later.result silence (omega arith))
    ∙ kept_at all x silence slot slot samples refl (omega arith) (omega arith) in
    record {
      samples = samples;
      alone = decided_more s.alone c.decide.new.self s.count x _ _ _ many h.alone one two three
          c.decide.ensures.place c.decide.ensures.stands_for;
      near = decided_more s.near c.decide-2.new.self s.count x _ _ _ many h.near one two three
          c.decide-2.ensures.place c.decide-2.ensures.stands_for;
      far = decided_more s.far c.decide-3.new.self s.count x _ _ _ many h.far one two three
          c.decide-3.ensures.place c.decide-3.ensures.stands_for;
    })

-- the samples as they are kept stay small
small_next : (s : List ℤ) (count : ℕ) (sample given : ℤ) → given ≡ sample → All (λ z. unsigned_abs z ≤ 262144) s
    → unsigned_abs sample ≤ 262144 → All (λ z. unsigned_abs z ≤ 262144) (with_next count s given)
small_next s count sample given same all one =
    all_small-next 262144 count s given all (subst (λ z. unsigned_abs z ≤ 262144) (sym same) one)

pub invariant_of-self : goal.invariant_of-self
invariant_of-self c =
    let s = c.self.inside in
    let inv = c.self.invariant in
    let few = c.if-count-lt8.true in (
      small_next s.samples s.count c.args.sample (to_z w32 (of_z w32 c.args.sample))
          (to_z-of_z w32 c.args.sample c.ranges.sample) inv.0 c.requires.sample,
      inv.1,
      inv.2,
      inv.3,
      inv.4,
      omega arith,
      omega arith,
      omega arith,
    )

pub invariant_of-self-then-count-lt24 : goal.invariant_of-self-then-count-lt24
invariant_of-self-then-count-lt24 c =
    let s = c.self.inside in
    let inv = c.self.invariant in
    let few = c.if-count-lt24.true in (
      small_next s.samples s.count c.args.sample (to_z w32 (of_z w32 c.args.sample))
          (to_z-of_z w32 c.args.sample c.ranges.sample) inv.0 c.requires.sample,
      all_within-set s.recent ((s.count + 1 - 8) % 32) c.correlate-later.result inv.1 c.correlate-later.ensures.bound,
      inv.2,
      inv.3,
      inv.4,
      omega arith,
      omega arith,
      omega arith,
    )

pub invariant_of-self-2 : goal.invariant_of-self-2
invariant_of-self-2 c =
    let s = c.self.inside in
    let inv = c.self.invariant in
    let many : 24 ≤ s.count + 1 = c.if-count-lt24.false in
    let alone = c.decide.ensures.place in
    let near = c.decide-2.ensures.place in
    let far = c.decide-3.ensures.place in (
      small_next s.samples s.count c.args.sample (to_z w32 (of_z w32 c.args.sample))
          (to_z-of_z w32 c.args.sample c.ranges.sample) inv.0 c.requires.sample,
      all_within-set s.recent ((s.count + 1 - 8) % 32) c.correlate-later.result inv.1 c.correlate-later.ensures.bound,
      c.decide.ensures.reach ∙ inv.2,
      c.decide-2.ensures.reach ∙ inv.3,
      c.decide-3.ensures.reach ∙ inv.4,
      omega arith,
      omega arith,
      omega arith,
    )

pub eight_from-requires-clause-small : goal.eight_from-requires-clause-small
eight_from-requires-clause-small c =
    let s = c.self.inside in
    small_next s.samples s.count c.args.sample (to_z w32 (of_z w32 c.args.sample))
    (to_z-of_z w32 c.args.sample c.ranges.sample) c.self.invariant.0 c.requires.sample

pub decide-requires-clause-now : goal.decide-requires-clause-now
decide-requires-clause-now c =
    let s = c.self.inside in
    let size : length s.recent ≡ 32 = search rules in
    let all = all_within-set s.recent ((s.count + 1 - 8) % 32)
    c.correlate-later.result c.self.invariant.1 c.correlate-later.ensures.bound in
    let same = length-set s.recent ((s.count + 1 - 8) % 32) c.correlate-later.result in
    all ((s.count + 1 - 24) % 32) _ (omega arith)

pub decide-requires-clause-next : goal.decide-requires-clause-next
decide-requires-clause-next c =
    let s = c.self.inside in
    let size : length s.recent ≡ 32 = search rules in
    let all = all_within-set s.recent ((s.count + 1 - 8) % 32)
    c.correlate-later.result c.self.invariant.1 c.correlate-later.ensures.bound in
    let same = length-set s.recent ((s.count + 1 - 8) % 32) c.correlate-later.result in
    all ((s.count + 1 - 16) % 32) _ (omega arith)

pub decide-requires-2-clause-now : goal.decide-requires-2-clause-now
decide-requires-2-clause-now c =
    let s = c.self.inside in
    let size : length s.recent ≡ 32 = search rules in
    let all = all_within-set s.recent ((s.count + 1 - 8) % 32)
    c.correlate-later.result c.self.invariant.1 c.correlate-later.ensures.bound in
    let same = length-set s.recent ((s.count + 1 - 8) % 32) c.correlate-later.result in
    all ((s.count + 1 - 24) % 32) _ (omega arith)

pub decide-requires-2-clause-next : goal.decide-requires-2-clause-next
decide-requires-2-clause-next c =
    let s = c.self.inside in
    let size : length s.recent ≡ 32 = search rules in
    let all = all_within-set s.recent ((s.count + 1 - 8) % 32)
    c.correlate-later.result c.self.invariant.1 c.correlate-later.ensures.bound in
    let same = length-set s.recent ((s.count + 1 - 8) % 32) c.correlate-later.result in
    all ((s.count + 1 - 16) % 32) _ (omega arith)

pub decide-requires-3-clause-now : goal.decide-requires-3-clause-now
decide-requires-3-clause-now c =
    let s = c.self.inside in
    let size : length s.recent ≡ 32 = search rules in
    let all = all_within-set s.recent ((s.count + 1 - 8) % 32)
    c.correlate-later.result c.self.invariant.1 c.correlate-later.ensures.bound in
    let same = length-set s.recent ((s.count + 1 - 8) % 32) c.correlate-later.result in
    all ((s.count + 1 - 24) % 32) _ (omega arith)

pub decide-requires-3-clause-next : goal.decide-requires-3-clause-next
decide-requires-3-clause-next c =
    let s = c.self.inside in
    let size : length s.recent ≡ 32 = search rules in
    let all = all_within-set s.recent ((s.count + 1 - 8) % 32)
    c.correlate-later.result c.self.invariant.1 c.correlate-later.ensures.bound in
    let same = length-set s.recent ((s.count + 1 - 8) % 32) c.correlate-later.result in
    all ((s.count + 1 - 16) % 32) _ (omega arith)
