use Rattle.reed_solomon.proofs.Common.{◌≡◌, ◌+◌, ◌-◌, ◌++◌, length, take, drop, ap, sym, ◌∙◌, arith, take_rest}
use Rattle.reed_solomon.proofs.Common.{whole_of, zeros_before}
use Rattle.reed_solomon.proofs.WordLemmas.{sent_octets, sent_check}
use Rattle.reed_solomon.proofs.words.sent_word.Goals as goal

pub returns-clause-sent : goal.returns-clause-sent
unfolding whole_of
returns-clause-sent c = λ octets check size is.
    let code = c.args.code.now in
    let long = c.args.long.now in
    let count = c.check_count-count.result in
    let start = c.zeros_before-start.result in
    let n = 255 - code.check_count - length octets in
    let part = c.args.len - count in
    let same : part ≡ length octets = omega (arith, c.check_count-count.ensures) in
    let zeros : 255 - code.check_count - part ≡ n = omega arith in
    let begins : start ≡ zeros_before code.zeros n =
    c.zeros_before-start.ensures ∙ ap (zeros_before code.zeros) zeros in
    let front : take part (drop start long) ≡ octets =
    ap (λ k. take part (drop k long)) begins ∙ ap (λ xs. take part (drop (zeros_before code.zeros n) xs)) is
    ∙ sent_octets code.zeros n part octets check (sym same) in
    let back : drop (255 - count) long ≡ check =
    ap (drop (255 - count)) is
    ∙ sent_check code.zeros n (255 - count) octets check (omega
    (arith, c.check_count-count.ensures, c.requires.most)) in
    let len = start + c.args.len - count - start in
    let cut : len ≡ part = omega arith in
    c.push_all-2.ensures
    ∙ ap (λ xs. c.push_all.new.word.items ++ xs) (take_rest long (255 - count) ∙ back)
    ∙ ap (λ xs. xs ++ check) (c.push_all.ensures ∙ ap (λ xs. xs ++ take len (drop start long)) c.new-word.ensures
    ∙ ap (λ k. take k (drop start long)) cut ∙ front)
