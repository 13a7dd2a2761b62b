use Rattle.reed_solomon.proofs.Common.{◌≡◌, ◌≤◌, ◌-◌, ℕ, eqb, get_or, length, ap, ◌∙◌, arith, marks}
use Rattle.reed_solomon.proofs.UnknownLemmas.{length-marks}
use Rattle.reed_solomon.proofs.WordLemmas.{long, length-long}
use Rattle.reed_solomon.proofs.unknown.whole_flags.Goals as goal

pub flags_of-requires : goal.flags_of-requires
flags_of-requires c =
    let code = c.args.code.now in
    let all = marks c.args.unknown.now in
    let size = length-marks c.args.unknown.now in
    ap length (c.as_slice-2.ensures.value ∙ c.whole_word-whole.ensures.items
    ∙ ap (long code) (c.as_slice.ensures.value ∙ c.marks.ensures.items))
    ∙ length-long code all (omega (arith, size, c.requires.least)) (omega (arith, size, c.requires.most))

pub returns-clause-flags : goal.returns-clause-flags
returns-clause-flags c = λ p below.
    let code = c.args.code.now in
    let whole_is : c.as_slice-2.result.now ≡ long code (marks c.args.unknown.now) =
    c.as_slice-2.ensures.value ∙ c.whole_word-whole.ensures.items
    ∙ ap (long code) (c.as_slice.ensures.value ∙ c.marks.ensures.items) in
    c.flags_of.ensures.flags p below ∙ ap (λ xs. eqb (get_or xs (254 - p) 0) 1) whole_is
