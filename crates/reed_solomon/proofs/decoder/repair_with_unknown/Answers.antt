-- If a codeword is within reach, the word that is taken is that one.
use Rattle.reed_solomon.proofs.Common.{◌≡◌, ℕ, List, ap, subst, sym, ◌∙◌, refl, arith, false≢true, IsCodeword, distance}
use Rattle.reed_solomon.proofs.Common.{distance_outside}
use Rattle.reed_solomon.proofs.DistanceLemmas.{distance-refl}
use Rattle.reed_solomon.proofs.UnknownLemmas.{one_within_reach_outside, within_own_reach}
use Rattle.reed_solomon.proofs.decoder.repair_with_unknown.Goals as goal

pub returns-then-spent-check_count-clause-refused : goal.returns-then-spent-check_count-clause-refused
returns-then-spent-check_count-clause-refused c = λ v within.
    absurd (omega (
      arith,
      within.near,
      c.count_true-spent.ensures.value,
      c.check_count.ensures,
      c.if-spent-check_count.true,
    ))

pub returns-then-vanishes-clause-repaired : goal.returns-then-vanishes-clause-repaired
returns-then-vanishes-clause-repaired c =
    within_own_reach c.args.code.now c.args.unknown.now c.args.word.now
    (omega (arith, c.count_true-spent.ensures.value, c.check_count.ensures, c.if-spent-check_count.false))
    c.if-vanishes.ensures.octets (c.if-vanishes.ensures.value.0 refl)

pub returns-then-vanishes-clause-count : goal.returns-then-vanishes-clause-count
returns-then-vanishes-clause-count c = sym (distance-refl c.args.word.now)

pub returns-then-vanishes-clause-only : goal.returns-then-vanishes-clause-only
returns-then-vanishes-clause-only c = λ v within.
    let code = c.args.code.now in
    let word = c.args.word.now in
    one_within_reach_outside code c.args.unknown.now word v word c.requires.least c.requires.most within
    (within_own_reach code c.args.unknown.now word
    (omega (arith, c.count_true-spent.ensures.value, c.check_count.ensures, c.if-spent-check_count.false))
    c.if-vanishes.ensures.octets (c.if-vanishes.ensures.value.0 refl))

pub returns-then-not-vanishes-clause-refused : goal.returns-then-not-vanishes-clause-refused
returns-then-not-vanishes-clause-refused c = λ v within.
    let code = c.args.code.now in
    let taken : c.as_slice.result.now ≡ v = c.as_slice.ensures.value ∙ c.corrected-repaired.ensures.found v within in
    let P : List ℕ → Type 0 = λ xs. IsCodeword code xs in
    let yes = c.if-not-vanishes.ensures.value.1 (subst P (sym taken) within.codeword) in
    absurd (false≢true yes)
