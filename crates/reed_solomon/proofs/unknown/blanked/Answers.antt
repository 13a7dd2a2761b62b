use Rattle.reed_solomon.proofs.Common.{◌+◌, ◌++◌, [], ◌∷◌, cond, false, get_or, length, take, take_all, take_more, ap, sym}
use Rattle.reed_solomon.proofs.Common.{◌∙◌, arith, blanked}
use Rattle.reed_solomon.proofs.UnknownLemmas.{get_or-blanked, length-blanked}
use Rattle.reed_solomon.proofs.unknown.blanked.Goals as goal

pub loop-i-preserved : goal.loop-i-preserved
loop-i-preserved c =
    let unknown = c.args.unknown.now in
    let word = c.args.word.now in
    let i = c.loop-i.i in
    let all = blanked unknown word in
    record {
      items = c.push.ensures.items ∙ ap (λ xs. xs ++ c.zero_if.result ∷ []) c.loop-i.invariant.items
          ∙ ap (λ x. take i all ++ x ∷ []) (c.zero_if.ensures ∙ sym (get_or-blanked unknown word i c.requires.size))
          ∙ sym (take_more all i 0 (omega (arith, length-blanked unknown word)));
      count = omega (arith, c.push.ensures.len, c.loop-i.invariant.count);
    }

pub returns : goal.returns
returns c =
    let all = blanked c.args.unknown.now c.args.word.now in
    c.loop-i.invariant.items
    ∙ take_all c.loop-i.i all (omega (arith, length-blanked c.args.unknown.now c.args.word.now))
