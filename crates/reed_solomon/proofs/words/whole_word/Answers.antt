use Rattle.reed_solomon.proofs.Common.{◌≡◌, ℕ, ◌-◌, List, ◌++◌, length, take, drop, All, ◌<◌, ap, subst, sym, ◌∙◌}
use Rattle.reed_solomon.proofs.Common.{arith, length-take, whole_of, with_zeros}
use Rattle.reed_solomon.proofs.DistanceLemmas.{all_of_octets}
use Rattle.reed_solomon.proofs.ValueLemmas.{octets_from}
use Rattle.reed_solomon.proofs.WordLemmas.{long, Octets-long}
use Rattle.reed_solomon.proofs.words.whole_word.Goals as goal

items_is : (c : goal.After-push_all) → c.push_all.new.word.items ≡ long c.args.code.now c.args.word.now
unfolding whole_of
items_is c =
    let word = c.args.word.now in
    let code = c.args.code.now in
    let n = length word - code.check_count in
    let m = length word - c.check_count.result in
    let cut : m ≡ n = omega (arith, c.check_count.ensures) in
    let zeros : 255 - length word ≡ 255 - code.check_count - length (take n word) =
    omega (arith, length-take n word, c.requires.least) in
    let octets = c.split_at.ensures.front ∙ ap (λ k. take k word) cut in
    let check = c.split_at.ensures.back ∙ ap (λ k. drop k word) cut in
    c.push_all.ensures ∙ ap (λ xs. xs ++ c.split_at.result.1.now) (c.with_zeros-whole.ensures
    ∙ ap (λ z. with_zeros z (255 - length word) c.split_at.result.0.now) c.zeros.ensures
    ∙ ap (λ k. with_zeros code.zeros k c.split_at.result.0.now) zeros
    ∙ ap (with_zeros code.zeros (255 - code.check_count - length (take n word))) octets)
    ∙ ap (λ xs. with_zeros code.zeros (255 - code.check_count - length (take n word)) (take n word) ++ xs) check

pub returns-clause-items : goal.returns-clause-items
returns-clause-items c = items_is c

pub returns-clause-octets : goal.returns-clause-octets
returns-clause-octets c =
    let word = c.args.word.now in
    let P : List ℕ → Type 0 = λ xs. All (λ x. x < 256) xs in
    subst P (sym (items_is c)) (all_of_octets (long c.args.code.now word)
    (Octets-long c.args.code.now word (octets_from word (λ k below. (c.type_inv.word k).fits))))
