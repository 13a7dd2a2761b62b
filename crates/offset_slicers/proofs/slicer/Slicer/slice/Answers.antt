use Rattle.offset_slicers.proofs.Common.{◌≡◌, ℕ, ◌+◌, ◌%◌, ◌-◌, List, ℤ, [], ◌∷◌, ◌++◌, to_z, of_z, set, Bool, refl}
use Rattle.offset_slicers.proofs.Common.{subst, sym, ◌∙◌, to_z-of_z, w16, EndsWindow, bits, held_of, offset_from}
use Rattle.offset_slicers.proofs.Common.{StandsFor}
use Rattle.std.proofs.Common.{◌↔◌, IsSome, Option, Some, None}
use Rattle.std.proofs.lemmas.Bool.{false≢true}
use Rattle.offset_slicers.specs.Held.{Held}
use Rattle.offset_slicers.proofs.SlicerLemmas.{bits-push_none, bits-push_one, stands_before, stands_within, stands_last}
use Rattle.offset_slicers.specs.Windows.{next_window}
use Rattle.offset_slicers.proofs.SlicerLemmas.{tones_last, early_windows, same_windows, no_window, window_ends}
use Rattle.offset_slicers.proofs.SlicerLemmas.{window_next}
use Rattle.offset_slicers.proofs.slicer.Slicer.slice.Goals as goal

pub returns-then-at-self-clause-stands_for : goal.returns-then-at-self-clause-stands_for
returns-then-at-self-clause-stands_for c = λ begin x h.
    let s = c.self.inside in
    let P : Held → Type 0 = λ held. StandsFor held begin x in
    let stood = subst P (sym c.self.view_is) h in
    stands_before s.offset s.first s.position begin s.window s.line x c.args.sample _ refl stood c.if-at-self.true

pub returns-then-place-lt7-clause-stands_for : goal.returns-then-place-lt7-clause-stands_for
returns-then-place-lt7-clause-stands_for c = λ begin x h.
    let s = c.self.inside in
    let P : Held → Type 0 = λ held. StandsFor held begin x in
    let stood = subst P (sym c.self.view_is) h in
    let stored : to_z w16 (of_z w16 c.args.sample) ≡ c.args.sample = to_z-of_z w16 c.args.sample c.ranges.sample in
    let Q : ℤ → Type 0 = λ z. StandsFor (held_of s.offset s.first (s.position + 1)
    (set s.window ((s.position - s.first) % 8) z) s.line) begin (x ++ c.args.sample ∷ []) in
    subst Q (sym stored)
    (stands_within s.offset s.first s.position begin s.window s.line x c.args.sample _ refl stood c.if-at-self.false
    c.if-place-lt7.true c.self.told)

pub returns-clause-stands_for : goal.returns-clause-stands_for
returns-clause-stands_for c = λ begin x h.
    let s = c.self.inside in
    let P : Held → Type 0 = λ held. StandsFor held begin x in
    let stood = subst P (sym c.self.view_is) h in
    stands_last s.offset s.first s.position begin s.window s.line x c.args.sample _ refl stood c.if-at-self.false
    c.if-place-lt7.false c.self.told _ c.step.new.self (to_z-of_z w16 c.args.sample c.ranges.sample)
    (c.step.ensures.tone ∙ c.of-decision.ensures.tone)

pub returns-then-at-self-clause-bits : goal.returns-then-at-self-clause-bits
returns-then-at-self-clause-bits c =
    let s = c.self.inside in
    let P : Held → Type 0 = λ held. (begin : ℕ) (x : List ℤ) → StandsFor held begin x
    → bits (offset_from held.offset begin) (x ++ c.args.sample ∷ []) ≡ bits (offset_from held.offset begin) x ++ [] in
    subst P c.self.view_is (λ begin x h.
    bits-push_none (offset_from s.offset begin) x c.args.sample
    (early_windows s.offset s.first s.position begin s.window s.line x c.args.sample _ refl h c.if-at-self.true))

pub returns-then-place-lt7-clause-bits : goal.returns-then-place-lt7-clause-bits
returns-then-place-lt7-clause-bits c =
    let s = c.self.inside in
    let P : Held → Type 0 = λ held. (begin : ℕ) (x : List ℤ) → StandsFor held begin x
    → bits (offset_from held.offset begin) (x ++ c.args.sample ∷ []) ≡ bits (offset_from held.offset begin) x ++ [] in
    subst P c.self.view_is (λ begin x h.
    bits-push_none (offset_from s.offset begin) x c.args.sample
    (same_windows s.offset s.first s.position begin s.window s.line x c.args.sample _ refl h c.if-at-self.false
    c.if-place-lt7.true))

pub returns-clause-bits : goal.returns-clause-bits
returns-clause-bits c =
    let s = c.self.inside in
    let P : Held → Type 0 = λ held. (begin : ℕ) (x : List ℤ) → StandsFor held begin x
    → bits (offset_from held.offset begin) (x ++ c.args.sample ∷ [])
    ≡ bits (offset_from held.offset begin) x ++ c.step.result ∷ [] in
    subst P c.self.view_is (λ begin x h.
    bits-push_one (offset_from s.offset begin) x c.args.sample c.of-decision.result.tone c.step.result
    (tones_last s.offset s.first s.position begin s.window s.line x c.args.sample _ refl h c.if-at-self.false
    c.if-place-lt7.false c.self.told _ c.of-decision.result.tone (to_z-of_z w16 c.args.sample c.ranges.sample) c.of-decision.ensures.tone)
    (c.step.ensures.bits _ h.before))

pub returns-then-at-self-clause-ends : goal.returns-then-at-self-clause-ends
returns-then-at-self-clause-ends c =
    let s = c.self.inside in
    let none : Option Bool = None in
    let P : Held → Type 0 = λ held. (begin : ℕ) (x : List ℤ) → StandsFor held begin x
    → IsSome none ↔ EndsWindow (offset_from held.offset begin) (x ++ c.args.sample ∷ []) in
    subst P c.self.view_is (λ begin x h. (
      λ some. absurd (false≢true some),
      λ ends. absurd (no_window s.offset s.first s.position begin s.window s.line x c.args.sample _ refl h
          (early_windows s.offset s.first s.position begin s.window s.line x c.args.sample _ refl h c.if-at-self.true)
          ends),
    ))

pub returns-then-place-lt7-clause-ends : goal.returns-then-place-lt7-clause-ends
returns-then-place-lt7-clause-ends c =
    let s = c.self.inside in
    let none : Option Bool = None in
    let P : Held → Type 0 = λ held. (begin : ℕ) (x : List ℤ) → StandsFor held begin x
    → IsSome none ↔ EndsWindow (offset_from held.offset begin) (x ++ c.args.sample ∷ []) in
    subst P c.self.view_is (λ begin x h. (
      λ some. absurd (false≢true some),
      λ ends. absurd (no_window s.offset s.first s.position begin s.window s.line x c.args.sample _ refl h
          (same_windows s.offset s.first s.position begin s.window s.line x c.args.sample _ refl h c.if-at-self.false
          c.if-place-lt7.true) ends),
    ))

pub returns-clause-ends : goal.returns-clause-ends
returns-clause-ends c =
    let s = c.self.inside in
    let P : Held → Type 0 = λ held. (begin : ℕ) (x : List ℤ) → StandsFor held begin x
    → IsSome (Some c.step.result) ↔ EndsWindow (offset_from held.offset begin) (x ++ c.args.sample ∷ []) in
    subst P c.self.view_is (λ begin x h. (
      λ _. window_ends s.offset s.first s.position begin s.window s.line x c.args.sample _ refl h c.if-at-self.false
          c.if-place-lt7.false,
      λ _. refl,
    ))

pub returns-clause-window : goal.returns-clause-window
returns-clause-window c =
    let s = c.self.inside in
    let P : Held → Type 0 = λ held. (begin : ℕ) (x : List ℤ) → StandsFor held begin x
    → set s.window ((s.position - s.first) % 8) (to_z w16 (of_z w16 c.args.sample))
    ≡ next_window (offset_from held.offset begin) x (x ++ c.args.sample ∷ []) in
    subst P c.self.view_is (λ begin x h.
    window_next s.offset s.first s.position begin s.window s.line x c.args.sample _ refl h c.if-at-self.false
    c.if-place-lt7.false c.self.told _ c.of-decision.result.tone (to_z-of_z w16 c.args.sample c.ranges.sample)
    c.of-decision.ensures.tone)
