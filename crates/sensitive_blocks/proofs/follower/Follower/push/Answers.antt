use Rattle.sensitive_blocks.proofs.Common.{◌≡◌, ◌+◌, ◌-◌, ◌<◌, ◌∙◌, ℤ, pos, List, get_or, length}
use Rattle.sensitive_blocks.proofs.Common.{take, ap, sym, subst, arith, true}
use Rattle.std.proofs.Common.{FitsSigned, rules, to_z, of_z, w32}
use Rattle.std.proofs.lemmas.Int.{to_z-of_z}
use mir.Syntax.{w16}
use Rattle.tone_tracking.specs.WithoutMean.{without_mean}
use Rattle.sensitive_blocks.specs.declared.readings.Readings.{Readings}
use Rattle.sensitive_blocks.specs.Held.{FollowerHasTaken, HeldFollower, known_at, none_known}
use Rattle.sensitive_blocks.proofs.FollowerLemmas.{already, not_yet, follower_of, given_level, known_early, known_place, taken_few, taken_place}
use Rattle.sensitive_blocks.proofs.follower.Follower.push.Goals as goal

-- no sample is settled by the sample
pub returns-in_default-clause-has_taken : goal.returns-in_default-clause-has_taken
returns-in_default-clause-has_taken c =
    let s = c.self.inside in
    let next = c.push-given.new.self in
    let given : ℤ = to_z w16 (of_z w16 c.args.sample) in
    let same : given ≡ c.args.sample = to_z-of_z w16 c.args.sample c.ranges.sample in
    let some : 0 < s.remover.left = c.push-given.ensures.none (search rules) in
    let left = c.self.invariant.0 in
    let P : HeldFollower → Type 0 = λ old. (x : List ℤ) → FollowerHasTaken old x → old.position < length x
    → c.args.sample ≡ get_or x old.position (pos 0)
    → FollowerHasTaken (follower_of (s.position + 1) next s.lists s.slow_near s.slow_far s.fast_near s.slow_alone) x in
    subst P c.self.view_is (λ x h inside is.
    let count = h.count in
    taken_few s.position s.remover next s.lists s.lists s.slow_near s.slow_far s.fast_near s.slow_alone x
    given (omega arith) inside (same ∙ is) c.push-given.ensures.stands_for h.lists (omega arith) h)

pub returns-in_default-clause-known : goal.returns-in_default-clause-known
returns-in_default-clause-known c =
    let s = c.self.inside in
    let some : 0 < s.remover.left = c.push-given.ensures.none (search rules) in
    let left = c.self.invariant.0 in
    let P : HeldFollower → Type 0 = λ old. (x : List ℤ) → FollowerHasTaken old x → old.position < length x
    → c.args.sample ≡ get_or x old.position (pos 0) → none_known ≡ known_at x (old.position - 30) in
    subst P c.self.view_is (λ x h inside is. sym (known_early x (s.position - 30) (omega arith)))

pub returns-then-not-decided-clause-has_taken : goal.returns-then-not-decided-clause-has_taken
returns-then-not-decided-clause-has_taken c =
    let s = c.self.inside in
    let next = c.push-given.new.self in
    let lists = c.push-decided.new.self in
    let given : ℤ = to_z w16 (of_z w16 c.args.sample) in
    let same : given ≡ c.args.sample = to_z-of_z w16 c.args.sample c.ranges.sample in
    let fits : FitsSigned w32 c.in-Some.level = search rules in
    let none : s.remover.left ≡ 0 = c.push-given.ensures.some (search rules) in
    let left = c.self.invariant.0 in
    let count = c.self.invariant.1 in
    let few = not_yet c.push-decided.result s.lists.count s.position c.push-decided.ensures.decided
    c.if-not-decided.true count in
    let P : HeldFollower → Type 0 = λ old. (x : List ℤ) → FollowerHasTaken old x → old.position < length x
    → c.args.sample ≡ get_or x old.position (pos 0)
    → FollowerHasTaken (follower_of (s.position + 1) next lists s.slow_near s.slow_far s.fast_near s.slow_alone) x in
    subst P c.self.view_is (λ x h inside is.
    let level = given_level x s.position c.args.sample given c.in-Some.level (to_z w32 (of_z w32 c.in-Some.level)) same
    (to_z-of_z w32 c.in-Some.level fits) inside is (c.in-Some.ensures.settled (take s.position x) h.remover) in
    let taken = c.push-decided.ensures.has_taken (without_mean x) h.lists
    (subst (λ n. n < length (without_mean x)) (sym count) level.0)
    (level.1 ∙ ap (λ n. get_or (without_mean x) n (pos 0)) (sym count)) in
    let more = c.push-decided.ensures.count in
    taken_few s.position s.remover next s.lists lists s.slow_near s.slow_far s.fast_near s.slow_alone x
    given few inside (same ∙ is) c.push-given.ensures.stands_for taken (omega arith) h)

pub returns-then-not-decided-clause-known : goal.returns-then-not-decided-clause-known
returns-then-not-decided-clause-known c =
    let s = c.self.inside in
    let few = not_yet c.push-decided.result s.lists.count s.position c.push-decided.ensures.decided
    c.if-not-decided.true c.self.invariant.1 in
    let P : HeldFollower → Type 0 = λ old. (x : List ℤ) → FollowerHasTaken old x → old.position < length x
    → c.args.sample ≡ get_or x old.position (pos 0) → none_known ≡ known_at x (old.position - 30) in
    subst P c.self.view_is (λ x h inside is. sym (known_early x (s.position - 30) (omega arith)))

pub returns-clause-has_taken : goal.returns-clause-has_taken
returns-clause-has_taken c =
    let s = c.self.inside in
    let next = c.push-given.new.self in
    let lists = c.push-decided.new.self in
    let given : ℤ = to_z w16 (of_z w16 c.args.sample) in
    let same : given ≡ c.args.sample = to_z-of_z w16 c.args.sample c.ranges.sample in
    let fits : FitsSigned w32 c.in-Some.level = search rules in
    let count = c.self.invariant.1 in
    let enough = already c.push-decided.result s.lists.count s.position c.push-decided.ensures.decided
    c.if-not-decided.false count in
    let P : HeldFollower → Type 0 = λ old. (x : List ℤ) → FollowerHasTaken old x → old.position < length x
    → c.args.sample ≡ get_or x old.position (pos 0)
    → FollowerHasTaken (follower_of (s.position + 1) next lists c.step.new.self c.step-2.new.self c.step-3.new.self
    c.step-4.new.self) x in
    subst P c.self.view_is (λ x h inside is.
    let level = given_level x s.position c.args.sample given c.in-Some.level (to_z w32 (of_z w32 c.in-Some.level)) same
    (to_z-of_z w32 c.in-Some.level fits) inside is (c.in-Some.ensures.settled (take s.position x) h.remover) in
    let taken = c.push-decided.ensures.has_taken (without_mean x) h.lists
    (subst (λ n. n < length (without_mean x)) (sym count) level.0)
    (level.1 ∙ ap (λ n. get_or (without_mean x) n (pos 0)) (sym count)) in
    taken_place s.position s.remover next s.lists lists s.slow_near s.slow_far s.fast_near s.slow_alone
    c.step.new.self c.step-2.new.self c.step-3.new.self c.step-4.new.self
    c.tone_before-near.result c.tone_before-far.result c.tone_before-alone.result
    c.step.result c.step-2.result c.step-3.result c.step-4.result x given
    enough inside (same ∙ is) c.push-given.ensures.stands_for taken
    (c.push-decided.ensures.count ∙ ap (λ n. n + 1) count) h
    (c.tone_before-near.ensures (without_mean x) taken) (c.tone_before-far.ensures (without_mean x) taken)
    (c.tone_before-alone.ensures (without_mean x) taken)
    c.step.ensures.reading c.step-2.ensures.reading c.step-3.ensures.reading c.step-4.ensures.reading
    c.self.invariant.2 c.self.invariant.3 c.self.invariant.4 c.self.invariant.5 c.step.ensures.stands_for
    c.step-2.ensures.stands_for c.step-3.ensures.stands_for c.step-4.ensures.stands_for)

pub returns-clause-known : goal.returns-clause-known
returns-clause-known c =
    let s = c.self.inside in
    let next = c.push-given.new.self in
    let lists = c.push-decided.new.self in
    let given : ℤ = to_z w16 (of_z w16 c.args.sample) in
    let same : given ≡ c.args.sample = to_z-of_z w16 c.args.sample c.ranges.sample in
    let fits : FitsSigned w32 c.in-Some.level = search rules in
    let count = c.self.invariant.1 in
    let enough = already c.push-decided.result s.lists.count s.position c.push-decided.ensures.decided
    c.if-not-decided.false count in
    let told : Readings = record {
      decided = true;
      slow_near = c.step.result;
      slow_far = c.step-2.result;
      fast_near = c.step-3.result;
      slow_alone = c.step-4.result;
    } in
    let P : HeldFollower → Type 0 = λ old. (x : List ℤ) → FollowerHasTaken old x → old.position < length x
    → c.args.sample ≡ get_or x old.position (pos 0) → told ≡ known_at x (old.position - 30) in
    subst P c.self.view_is (λ x h inside is.
    let level = given_level x s.position c.args.sample given c.in-Some.level (to_z w32 (of_z w32 c.in-Some.level)) same
    (to_z-of_z w32 c.in-Some.level fits) inside is (c.in-Some.ensures.settled (take s.position x) h.remover) in
    let taken = c.push-decided.ensures.has_taken (without_mean x) h.lists
    (subst (λ n. n < length (without_mean x)) (sym count) level.0)
    (level.1 ∙ ap (λ n. get_or (without_mean x) n (pos 0)) (sym count)) in
    known_place s.position s.remover next s.lists lists s.slow_near s.slow_far s.fast_near s.slow_alone
    c.step.new.self c.step-2.new.self c.step-3.new.self c.step-4.new.self
    c.tone_before-near.result c.tone_before-far.result c.tone_before-alone.result
    c.step.result c.step-2.result c.step-3.result c.step-4.result x given
    enough inside (same ∙ is) c.push-given.ensures.stands_for taken
    (c.push-decided.ensures.count ∙ ap (λ n. n + 1) count) h
    (c.tone_before-near.ensures (without_mean x) taken) (c.tone_before-far.ensures (without_mean x) taken)
    (c.tone_before-alone.ensures (without_mean x) taken)
    c.step.ensures.reading c.step-2.ensures.reading c.step-3.ensures.reading c.step-4.ensures.reading
    c.self.invariant.2 c.self.invariant.3 c.self.invariant.4 c.self.invariant.5 c.step.ensures.stands_for
    c.step-2.ensures.stands_for c.step-3.ensures.stands_for c.step-4.ensures.stands_for)
