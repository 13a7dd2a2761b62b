use Rattle.resampler.proofs.Common.{rules, ◌≡◌, ◌∙◌, ◌∷◌, ◌++◌, [], ℤ, pos, List, length, ap, subst, to_z, of_z}
use Rattle.resampler.proofs.Common.{FitsSigned, w16, last_window, stuffed, to_z-of_z}
use Rattle.resampler.proofs.StuffedLemmas.{at, stuffed-more, interpolated-more}
use Rattle.resampler.proofs.interpolator.Interpolator.push.Goals as goal

pub returns-clause-stands_for : goal.returns-clause-stands_for
returns-clause-stands_for c = λ x h.
    let u : List ℤ = stuffed x in
    let w1 : c.step-first.new.self ≡ last_window (u ++ c.args.sample ∷ []) = c.step-first.ensures.window u h
    ∙ ap (λ z. last_window (u ++ z ∷ [])) (to_z-of_z w16 c.args.sample c.ranges.sample) in
    let w2 = c.step-second.ensures.window (u ++ c.args.sample ∷ []) w1 in
    let w3 = c.step-third.ensures.window ((u ++ c.args.sample ∷ []) ++ pos 0 ∷ []) w2 in
    let w4 = c.step-fourth.ensures.window (((u ++ c.args.sample ∷ []) ++ pos 0 ∷ []) ++ pos 0 ∷ []) w3 in
    let w5 = c.step-fifth.ensures.window ((((u ++ c.args.sample ∷ []) ++ pos 0 ∷ []) ++ pos 0 ∷ []) ++ pos 0 ∷ []) w4 in
    w5 ∙ ap last_window (stuffed-more x c.args.sample)

pub returns-clause-given : goal.returns-clause-given
returns-clause-given c = λ x h.
    let u : List ℤ = stuffed x in
    let sample : ℤ = c.args.sample in
    let same = to_z-of_z w16 c.args.sample c.ranges.sample in
    let w1 : c.step-first.new.self ≡ last_window (u ++ sample ∷ []) = c.step-first.ensures.window u h
    ∙ ap (λ z. last_window (u ++ z ∷ [])) same in
    let w2 = c.step-second.ensures.window (u ++ sample ∷ []) w1 in
    let w3 = c.step-third.ensures.window ((u ++ sample ∷ []) ++ pos 0 ∷ []) w2 in
    let w4 = c.step-fourth.ensures.window (((u ++ sample ∷ []) ++ pos 0 ∷ []) ++ pos 0 ∷ []) w3 in
    let f1 : FitsSigned w16 c.step-first.result = search rules in
    let f2 : FitsSigned w16 c.step-second.result = search rules in
    let f3 : FitsSigned w16 c.step-third.result = search rules in
    let f4 : FitsSigned w16 c.step-fourth.result = search rules in
    let f5 : FitsSigned w16 c.step-fifth.result = search rules in
    interpolated-more x sample _ _ _ _ _
    (to_z-of_z w16 c.step-first.result f1 ∙ c.step-first.ensures.given u h ∙ ap (λ z. at (u ++ z ∷ []) (length u)) same)
    (to_z-of_z w16 c.step-second.result f2 ∙ c.step-second.ensures.given (u ++ sample ∷ []) w1)
    (to_z-of_z w16 c.step-third.result f3 ∙ c.step-third.ensures.given ((u ++ sample ∷ []) ++ pos 0 ∷ []) w2)
    (to_z-of_z w16 c.step-fourth.result f4 ∙ c.step-fourth.ensures.given
    (((u ++ sample ∷ []) ++ pos 0 ∷ []) ++ pos 0 ∷ []) w3)
    (to_z-of_z w16 c.step-fifth.result f5 ∙ c.step-fifth.ensures.given
    ((((u ++ sample ∷ []) ++ pos 0 ∷ []) ++ pos 0 ∷ []) ++ pos 0 ∷ []) w4)
