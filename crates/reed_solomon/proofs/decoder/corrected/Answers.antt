use Rattle.reed_solomon.proofs.Common.{◌≡◌, ℕ, ◌%◌, ◌<◌, List, All, length, ap, subst, sym, ◌∙◌, arith, values_down}
use Rattle.reed_solomon.proofs.ErrorLemmas.{length-values_down}
use Rattle.reed_solomon.proofs.RegisterLemmas.{refill_all}
use Rattle.reed_solomon.proofs.UnknownLemmas.{repaired_is, same_wrong, count_whole}
use Rattle.reed_solomon.proofs.WordLemmas.{long, length-long}
use Rattle.reed_solomon.proofs.decoder.corrected.Goals as goal

-- the syndromes, however the word and its numbers are read
syndromes_same : (syndromes word now : List ℕ) (first other count : ℕ) → syndromes ≡ values_down word first count
    → word ≡ now → first ≡ other → syndromes ≡ values_down now other (length syndromes)
syndromes_same syndromes word now first other count is same same_first =
    let size : count ≡ length syndromes = sym (ap length is ∙ length-values_down word first count) in
    is ∙ ap (λ w. values_down w first count) same ∙ ap (λ n. values_down now n count) same_first
    ∙ ap (values_down now other) size

pub correct-requires : goal.correct-requires
correct-requires c =
    let code = c.args.code.now in
    let word = c.args.word.now in
    let now : c.as_mut_slice.result.now ≡ long code word =
    c.as_mut_slice.ensures.value ∙ c.whole_word-whole.ensures.items in
    let syndromes : c.as_slice-2.result.now
    ≡ values_down c.as_slice.result.now c.first_root.result c.check_count.result =
    c.as_slice-2.ensures.value ∙ c.syndromes-syndromes.ensures in
    let size : length c.as_slice-2.result.now ≡ code.check_count =
    ap length syndromes ∙ length-values_down c.as_slice.result.now c.first_root.result c.check_count.result
    ∙ c.check_count.ensures in
    let P : List ℕ → Type 0 = λ xs. All (λ x. x < 256) xs in
    record {
      first_root = omega (arith, c.first_root-2.ensures, code.root);
      count = omega (arith, size, code.most);
      few = omega (
        arith,
        c.requires.few,
        size,
        count_whole code c.args.unknown.now c.whole_flags-flags.result
            (omega (arith, c.requires.least, c.requires.flags)) (omega (arith, c.requires.most, c.requires.flags))
            c.whole_flags-flags.ensures.size c.whole_flags-flags.ensures.flags,
      );
      size = ap length now ∙ length-long code word c.requires.least c.requires.most;
      octets = subst P (sym c.as_mut_slice.ensures.value) c.whole_word-whole.ensures.octets;
      syndromes = syndromes_same c.as_slice-2.result.now c.as_slice.result.now c.as_mut_slice.result.now
          c.first_root.result c.first_root-2.result c.check_count.result syndromes
          (c.as_slice.ensures.value ∙ sym c.as_mut_slice.ensures.value)
          (c.first_root.ensures ∙ sym c.first_root-2.ensures);
    }

-- the whole word once it is corrected
now_is : (c : goal.After-as_slice-3) → c.as_slice-3.result.now ≡ c.correct.new.word
now_is c =
    c.as_slice-3.ensures.value
    ∙ refill_all _ c.whole_word-whole.result.items c.correct.new.word
    (c.correct.auto.word ∙ ap length c.as_mut_slice.ensures.value)

pub sent_word-requires-clause-size : goal.sent_word-requires-clause-size
sent_word-requires-clause-size c =
    ap length (now_is c) ∙ c.correct.auto.word
    ∙ ap length (c.as_mut_slice.ensures.value ∙ c.whole_word-whole.ensures.items)
    ∙ length-long c.args.code.now c.args.word.now c.requires.least c.requires.most

pub returns-clause-found : goal.returns-clause-found
returns-clause-found c = λ v within.
    let code = c.args.code.now in
    let word = c.args.word.now in
    let whole_is : long code word ≡ c.as_mut_slice.result.now =
    sym (c.as_mut_slice.ensures.value ∙ c.whole_word-whole.ensures.items) in
    let size : code.check_count ≡ length c.as_slice-2.result.now =
    sym (ap length (c.as_slice-2.ensures.value ∙ c.syndromes-syndromes.ensures)
    ∙ length-values_down c.as_slice.result.now c.first_root.result c.check_count.result ∙ c.check_count.ensures) in
    let is = c.as_slice-3.ensures.value
    ∙ refill_all _ c.whole_word-whole.result.items c.correct.new.word
    (c.correct.auto.word ∙ ap length c.as_mut_slice.ensures.value) in
    repaired_is code c.args.unknown.now c.whole_flags-flags.result word v c.as_slice-3.result.now
    c.sent_word.result.items c.requires.least c.requires.most c.requires.flags c.whole_flags-flags.ensures.size
    c.whole_flags-flags.ensures.flags within
    (λ u wrong. is ∙ c.correct.ensures u (same_wrong code.first_root c.first_root-2.result code.check_count
    (length c.as_slice-2.result.now) c.whole_flags-flags.result (long code word) c.as_mut_slice.result.now u (sym c.first_root-2.ensures) size
    whole_is wrong)) c.sent_word.ensures.sent
