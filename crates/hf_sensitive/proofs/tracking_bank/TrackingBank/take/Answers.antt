use Rattle.hf_sensitive.proofs.Common.{◌≡◌, ◌+◌, ◌-◌, ◌*◌, ◌/◌, ◌<◌, ◌≤◌, ◌∙◌, ℕ, ℤ, pos, List, get_or, length, ap, sym, subst}
use Rattle.hf_sensitive.proofs.Common.{arith, on_ok_weaker, to_z-of_z, w16, places_in, first_lane, least_end, HasTaken, HeldBank}
use Rattle.hf_sensitive.proofs.Common.{AddsAmong, CanBePutFrom, All, TonesHaveTaken}
use Rattle.std.proofs.Common.{rules, to_z, of_z}
use Rattle.hf_sensitive.proofs.BankLemmas.{bank_with, taken_few, adds_few}
use Rattle.hf_sensitive.proofs.PlaceLemmas.{last, fixed_stood, slow_lane_stood, fast_lane_stood, fixed_reads, slow_reads}
use Rattle.hf_sensitive.proofs.PlaceLemmas.{fast_reads, taken_place, found_place}
use Rattle.hf_sensitive.proofs.tracking_bank.TrackingBank.take.Goals as goal

-- no place is decided by the sample
pub returns-in_default-clause-has_taken : goal.returns-in_default-clause-has_taken
returns-in_default-clause-has_taken c =
    let s = c.self.inside in
    let tones = c.push-decided.new.self in
    let same : to_z w16 (of_z w16 c.args.sample) ≡ c.args.sample = to_z-of_z w16 c.args.sample c.ranges.sample in
    let waits : places_in (s.tones.count + 1) ≡ places_in s.tones.count = c.push-decided.ensures.waits (search rules) in
    let more = c.push-decided.ensures.count in
    let P : HeldBank → Type 0 = λ old. (x : List ℤ) → HasTaken old x → old.tones.count < length x
    → c.args.sample ≡ get_or x old.tones.count (pos 0)
    → HasTaken (bank_with tones s.slow_clock s.fast_clock s.fixed s.slow s.fast) x in
    subst P c.self.view_is (λ x h inside is.
    taken_few s.tones tones s.slow_clock s.fast_clock s.fixed s.slow s.fast x c.push-decided.ensures.bank
    (ap places_in more ∙ waits) (c.push-decided.ensures.has_taken x h.tones inside (same ∙ is)) h)

pub returns-in_default-clause-found : goal.returns-in_default-clause-found
returns-in_default-clause-found c =
    let s = c.self.inside in
    let waits : places_in (s.tones.count + 1) ≡ places_in s.tones.count = c.push-decided.ensures.waits (search rules) in
    let found = c.args.found.now.items in
    let P : HeldBank → Type 0 = λ old. (x : List ℤ) → HasTaken old x → old.tones.count < length x
    → c.args.sample ≡ get_or x old.tones.count (pos 0)
    → AddsAmong (places_in old.tones.count) (places_in (old.tones.count + 1)) (first_lane old.tones.bank)
    (first_lane old.tones.bank + 3) x found found in
    subst P c.self.view_is (λ x h inside is.
    adds_few (places_in s.tones.count) (places_in (s.tones.count + 1)) (first_lane s.tones.bank)
    (first_lane s.tones.bank + 3) x found waits)

-- the three lanes belong to the bank
pub hear-requires-clause-bank : goal.hear-requires-clause-bank
hear-requires-clause-bank c = let a = c.self.invariant.1 in let b = c.push-decided.ensures.bank in omega arith

pub hear-requires-2-clause-bank : goal.hear-requires-2-clause-bank
hear-requires-2-clause-bank c = let a = c.self.invariant.1 in let b = c.push-decided.ensures.bank in omega arith

pub hear-requires-3-clause-bank : goal.hear-requires-3-clause-bank
hear-requires-3-clause-bank c = let a = c.self.invariant.1 in let b = c.push-decided.ensures.bank in omega arith

-- a place is decided by the sample
pub returns-clause-has_taken : goal.returns-clause-has_taken
returns-clause-has_taken c =
    let s = c.self.inside in
    let tones = c.push-decided.new.self in
    let same : to_z w16 (of_z w16 c.args.sample) ≡ c.args.sample = to_z-of_z w16 c.args.sample c.ranges.sample in
    let next : places_in tones.count ≡ c.in-Some.place + 1 = ap places_in c.push-decided.ensures.count
    ∙ c.in-Some.ensures.decided.1 in
    let P : HeldBank → Type 0 = λ old. (x : List ℤ) → HasTaken old x → old.tones.count < length x
    → c.args.sample ≡ get_or x old.tones.count (pos 0)
    → HasTaken (bank_with tones c.step.new.self c.step-2.new.self c.hear.new.lane c.hear-2.new.lane c.hear-3.new.lane) x in
    on_ok_weaker c.hear-3.result (λ done. subst P c.self.view_is (λ x h inside is.
    let taken = c.push-decided.ensures.has_taken x h.tones inside (same ∙ is) in
    let here = last s.tones tones s.slow_clock s.fast_clock c.step.new.self c.step-2.new.self s.fixed s.slow s.fast c.hear.new.lane
    c.hear-2.new.lane c.hear-3.new.lane s.number c.in-Some.place c.tone_before-tone.result c.step.result c.step-2.result x
    c.push-decided.ensures.bank c.self.invariant.1 c.in-Some.ensures.decided.0 next taken h (c.tone_before-tone.ensures x taken)
    c.self.invariant.2 c.self.invariant.3 c.step.ensures.reading c.step-2.ensures.reading c.step.ensures.stands_for
    c.step-2.ensures.stands_for in
    taken_place s.tones tones s.slow_clock s.fast_clock c.step.new.self c.step-2.new.self s.fixed s.slow s.fast c.hear.new.lane
    c.hear-2.new.lane c.hear-3.new.lane s.number c.in-Some.place c.tone_before-tone.result c.step.result c.step-2.result x
    c.push-decided.ensures.bank c.self.invariant.1 c.in-Some.ensures.decided.0 next taken h (c.tone_before-tone.ensures x taken)
    c.self.invariant.2 c.self.invariant.3 c.step.ensures.reading c.step-2.ensures.reading c.step.ensures.stands_for
    c.step-2.ensures.stands_for
    (c.hear.ensures.read x here (fixed_reads s.tones tones s.slow_clock s.fast_clock c.step.new.self c.step-2.new.self s.fixed s.slow s.fast c.hear.new.lane
    c.hear-2.new.lane c.hear-3.new.lane s.number c.in-Some.place c.tone_before-tone.result c.step.result c.step-2.result x
    c.push-decided.ensures.bank c.self.invariant.1 c.in-Some.ensures.decided.0 next taken h (c.tone_before-tone.ensures x taken)
    c.self.invariant.2 c.self.invariant.3 c.step.ensures.reading c.step-2.ensures.reading c.step.ensures.stands_for
    c.step-2.ensures.stands_for) (fixed_stood s.tones tones s.slow_clock s.fast_clock c.step.new.self c.step-2.new.self s.fixed s.slow s.fast c.hear.new.lane
    c.hear-2.new.lane c.hear-3.new.lane s.number c.in-Some.place c.tone_before-tone.result c.step.result c.step-2.result x
    c.push-decided.ensures.bank c.self.invariant.1 c.in-Some.ensures.decided.0 next taken h (c.tone_before-tone.ensures x taken)
    c.self.invariant.2 c.self.invariant.3 c.step.ensures.reading c.step-2.ensures.reading c.step.ensures.stands_for
    c.step-2.ensures.stands_for))
    (c.hear-2.ensures.read x here (slow_reads s.tones tones s.slow_clock s.fast_clock c.step.new.self c.step-2.new.self s.fixed s.slow s.fast c.hear.new.lane
    c.hear-2.new.lane c.hear-3.new.lane s.number c.in-Some.place c.tone_before-tone.result c.step.result c.step-2.result x
    c.push-decided.ensures.bank c.self.invariant.1 c.in-Some.ensures.decided.0 next taken h (c.tone_before-tone.ensures x taken)
    c.self.invariant.2 c.self.invariant.3 c.step.ensures.reading c.step-2.ensures.reading c.step.ensures.stands_for
    c.step-2.ensures.stands_for) (slow_lane_stood s.tones tones s.slow_clock s.fast_clock c.step.new.self c.step-2.new.self s.fixed s.slow s.fast c.hear.new.lane
    c.hear-2.new.lane c.hear-3.new.lane s.number c.in-Some.place c.tone_before-tone.result c.step.result c.step-2.result x
    c.push-decided.ensures.bank c.self.invariant.1 c.in-Some.ensures.decided.0 next taken h (c.tone_before-tone.ensures x taken)
    c.self.invariant.2 c.self.invariant.3 c.step.ensures.reading c.step-2.ensures.reading c.step.ensures.stands_for
    c.step-2.ensures.stands_for))
    (c.hear-3.ensures.read x here (fast_reads s.tones tones s.slow_clock s.fast_clock c.step.new.self c.step-2.new.self s.fixed s.slow s.fast c.hear.new.lane
    c.hear-2.new.lane c.hear-3.new.lane s.number c.in-Some.place c.tone_before-tone.result c.step.result c.step-2.result x
    c.push-decided.ensures.bank c.self.invariant.1 c.in-Some.ensures.decided.0 next taken h (c.tone_before-tone.ensures x taken)
    c.self.invariant.2 c.self.invariant.3 c.step.ensures.reading c.step-2.ensures.reading c.step.ensures.stands_for
    c.step-2.ensures.stands_for) (fast_lane_stood s.tones tones s.slow_clock s.fast_clock c.step.new.self c.step-2.new.self s.fixed s.slow s.fast c.hear.new.lane
    c.hear-2.new.lane c.hear-3.new.lane s.number c.in-Some.place c.tone_before-tone.result c.step.result c.step-2.result x
    c.push-decided.ensures.bank c.self.invariant.1 c.in-Some.ensures.decided.0 next taken h (c.tone_before-tone.ensures x taken)
    c.self.invariant.2 c.self.invariant.3 c.step.ensures.reading c.step-2.ensures.reading c.step.ensures.stands_for
    c.step-2.ensures.stands_for))))
    c.hear-3.ensures.found

pub returns-clause-found : goal.returns-clause-found
returns-clause-found c =
    let s = c.self.inside in
    let tones = c.push-decided.new.self in
    let same : to_z w16 (of_z w16 c.args.sample) ≡ c.args.sample = to_z-of_z w16 c.args.sample c.ranges.sample in
    let count = c.push-decided.ensures.count in
    let next : places_in tones.count ≡ c.in-Some.place + 1 = ap places_in count ∙ c.in-Some.ensures.decided.1 in
    let before = c.args.found.now.items in
    let after = c.hear-3.new.found.items in
    let P : HeldBank → Type 0 = λ old. (x : List ℤ) → HasTaken old x → old.tones.count < length x
    → c.args.sample ≡ get_or x old.tones.count (pos 0)
    → AddsAmong (places_in old.tones.count) (places_in (old.tones.count + 1)) (first_lane old.tones.bank)
    (first_lane old.tones.bank + 3) x before after in
    on_ok_weaker c.hear-3.result (λ adds. subst P c.self.view_is (λ x h inside is.
    let taken = c.push-decided.ensures.has_taken x h.tones inside (same ∙ is) in
    let here = last s.tones tones s.slow_clock s.fast_clock c.step.new.self c.step-2.new.self s.fixed s.slow s.fast c.hear.new.lane
    c.hear-2.new.lane c.hear-3.new.lane s.number c.in-Some.place c.tone_before-tone.result c.step.result c.step-2.result x
    c.push-decided.ensures.bank c.self.invariant.1 c.in-Some.ensures.decided.0 next taken h (c.tone_before-tone.ensures x taken)
    c.self.invariant.2 c.self.invariant.3 c.step.ensures.reading c.step-2.ensures.reading c.step.ensures.stands_for
    c.step-2.ensures.stands_for in
    subst (λ n. AddsAmong (places_in s.tones.count) (places_in n) (first_lane s.tones.bank) (first_lane s.tones.bank + 3) x
    before after) count
    (found_place s.tones tones s.slow_clock s.fast_clock c.step.new.self c.step-2.new.self s.fixed s.slow s.fast c.hear.new.lane
    c.hear-2.new.lane c.hear-3.new.lane s.number c.in-Some.place c.tone_before-tone.result c.step.result c.step-2.result x
    c.push-decided.ensures.bank c.self.invariant.1 c.in-Some.ensures.decided.0 next taken h (c.tone_before-tone.ensures x taken)
    c.self.invariant.2 c.self.invariant.3 c.step.ensures.reading c.step-2.ensures.reading c.step.ensures.stands_for
    c.step-2.ensures.stands_for before c.hear.new.found.items c.hear-2.new.found.items after
    (c.in_ok-hear.ensures.found x here (fixed_reads s.tones tones s.slow_clock s.fast_clock c.step.new.self c.step-2.new.self s.fixed s.slow s.fast c.hear.new.lane
    c.hear-2.new.lane c.hear-3.new.lane s.number c.in-Some.place c.tone_before-tone.result c.step.result c.step-2.result x
    c.push-decided.ensures.bank c.self.invariant.1 c.in-Some.ensures.decided.0 next taken h (c.tone_before-tone.ensures x taken)
    c.self.invariant.2 c.self.invariant.3 c.step.ensures.reading c.step-2.ensures.reading c.step.ensures.stands_for
    c.step-2.ensures.stands_for) (fixed_stood s.tones tones s.slow_clock s.fast_clock c.step.new.self c.step-2.new.self s.fixed s.slow s.fast c.hear.new.lane
    c.hear-2.new.lane c.hear-3.new.lane s.number c.in-Some.place c.tone_before-tone.result c.step.result c.step-2.result x
    c.push-decided.ensures.bank c.self.invariant.1 c.in-Some.ensures.decided.0 next taken h (c.tone_before-tone.ensures x taken)
    c.self.invariant.2 c.self.invariant.3 c.step.ensures.reading c.step-2.ensures.reading c.step.ensures.stands_for
    c.step-2.ensures.stands_for))
    (c.in_ok-hear-2.ensures.found x here (slow_reads s.tones tones s.slow_clock s.fast_clock c.step.new.self c.step-2.new.self s.fixed s.slow s.fast c.hear.new.lane
    c.hear-2.new.lane c.hear-3.new.lane s.number c.in-Some.place c.tone_before-tone.result c.step.result c.step-2.result x
    c.push-decided.ensures.bank c.self.invariant.1 c.in-Some.ensures.decided.0 next taken h (c.tone_before-tone.ensures x taken)
    c.self.invariant.2 c.self.invariant.3 c.step.ensures.reading c.step-2.ensures.reading c.step.ensures.stands_for
    c.step-2.ensures.stands_for) (slow_lane_stood s.tones tones s.slow_clock s.fast_clock c.step.new.self c.step-2.new.self s.fixed s.slow s.fast c.hear.new.lane
    c.hear-2.new.lane c.hear-3.new.lane s.number c.in-Some.place c.tone_before-tone.result c.step.result c.step-2.result x
    c.push-decided.ensures.bank c.self.invariant.1 c.in-Some.ensures.decided.0 next taken h (c.tone_before-tone.ensures x taken)
    c.self.invariant.2 c.self.invariant.3 c.step.ensures.reading c.step-2.ensures.reading c.step.ensures.stands_for
    c.step-2.ensures.stands_for))
    (adds x here (fast_reads s.tones tones s.slow_clock s.fast_clock c.step.new.self c.step-2.new.self s.fixed s.slow s.fast c.hear.new.lane
    c.hear-2.new.lane c.hear-3.new.lane s.number c.in-Some.place c.tone_before-tone.result c.step.result c.step-2.result x
    c.push-decided.ensures.bank c.self.invariant.1 c.in-Some.ensures.decided.0 next taken h (c.tone_before-tone.ensures x taken)
    c.self.invariant.2 c.self.invariant.3 c.step.ensures.reading c.step-2.ensures.reading c.step.ensures.stands_for
    c.step-2.ensures.stands_for) (fast_lane_stood s.tones tones s.slow_clock s.fast_clock c.step.new.self c.step-2.new.self s.fixed s.slow s.fast c.hear.new.lane
    c.hear-2.new.lane c.hear-3.new.lane s.number c.in-Some.place c.tone_before-tone.result c.step.result c.step-2.result x
    c.push-decided.ensures.bank c.self.invariant.1 c.in-Some.ensures.decided.0 next taken h (c.tone_before-tone.ensures x taken)
    c.self.invariant.2 c.self.invariant.3 c.step.ensures.reading c.step-2.ensures.reading c.step.ensures.stands_for
    c.step-2.ensures.stands_for)))))
    c.hear-3.ensures.found

pub returns-clause-bounds : goal.returns-clause-bounds
returns-clause-bounds c = λ low under.
    let here = c.in-Some.ensures.decided.0 in
    let there = c.in-Some.ensures.decided.1 in
    let view : (n : ℕ) → n ≤ least_end c.self.inside.tones.count → n ≤ c.in-Some.place + 7 = λ n le. omega arith in
    let P : HeldBank → Type 0 = λ old. low ≤ least_end old.tones.count → low ≤ c.in-Some.place + 7 in
    let late = subst P c.self.view_is (view low) under in
    on_ok_weaker c.hear-3.result (λ bounds all.
    bounds (c.in_ok-hear-2.ensures.bounds low late (c.in_ok-hear.ensures.bounds low late all)))
    (c.hear-3.ensures.bounds low late)
