use Rattle.reed_solomon.proofs.Common.{◌≡◌, ◌≢◌, ℕ, ◌+◌, ◌-◌, ◌/◌, ◌<◌, true, false, List, length, get_or, take}
use Rattle.reed_solomon.proofs.Common.{bit_xor, ap, sym, ◌∙◌, inl, inr, arith, cases_eq, false≢true, get_or-set_same}
use Rattle.reed_solomon.proofs.Common.{get_or-set_other, ext_get_or, IsWrong, octet_before, added}
use Rattle.reed_solomon.proofs.DistanceLemmas.{octets_of_all, all_of_octets}
use Rattle.reed_solomon.proofs.ErrorLemmas.{errors_values, error_is}
use Rattle.reed_solomon.proofs.FieldLemmas.{same_from_xor, xor_twice}
use Rattle.reed_solomon.proofs.ValueLemmas.{Octets-added, length-added}
use Rattle.reed_solomon.proofs.wrong_octets.correct.Goals.{then-places-p, else-places-p}
use Rattle.reed_solomon.proofs.wrong_octets.correct.Goals as goal

pub loop-p-preserved : goal.loop-p-preserved
loop-p-preserved c =
    let word = c.args.word.now in
    let syndromes = c.args.syndromes.now in
    let first = c.args.first_root in
    let now = c.loop-p.word in
    let p = c.loop-p.p in
    let unknown = c.args.unknown.now in
    let places = c.wrong_places-places.result in
    let octets = octets_of_all word c.requires.octets in
    let here = 254 - p in
    let place : here + p + 1 ≡ length word = omega (arith, c.requires.size) in
    let error_octets = λ (v : List ℕ) (wrong : IsWrong first (length syndromes) unknown word v).
    all_of_octets (added word v) (Octets-added word v octets (octets_of_all v wrong.octets)) in
    let error_size = λ (v : List ℕ) (wrong : IsWrong first (length syndromes) unknown word v).
    length-added word v (sym wrong.size) ∙ c.requires.size in
    let values = λ (v : List ℕ) (wrong : IsWrong first (length syndromes) unknown word v).
    c.requires.syndromes
    ∙ errors_values first (length syndromes) unknown word v wrong octets (octets_of_all v wrong.octets) in
    let flagged : (v : List ℕ) → IsWrong first (length syndromes) unknown word v → (q : ℕ) → q < 255
    → octet_before q (added word v) ≢ 0 → get_or places q false ≡ true =
    λ v wrong. c.wrong_places-places.ensures.wrong first (added word v) (error_octets v wrong) (error_size v wrong)
    (values v wrong) wrong.near in
    elim c.if-places-p.branch [
      | then-places-p w ↦
          let error = w.error_at.result in
          let wrong_by : (v : List ℕ) → IsWrong first (length syndromes) unknown word v
          → error ≡ bit_xor (get_or word here 0) (get_or v here 0) = λ v wrong.
          w.error_at.ensures (added word v) (error_octets v wrong) (error_size v wrong) (values v wrong)
          (flagged v wrong)
          ∙ error_is word v here p place wrong.size in
          record {
            done = λ v wrong n inside past.
                elim (cases_eq n here) [
                  | inl same ↦
                      ap (λ m. get_or c.if-places-p.word m 0) same ∙ ap (λ xs. get_or xs here 0) w.word-is
                      ∙ get_or-set_same now here (bit_xor (get_or now here 0) error) 0 (omega arith)
                      ∙ ap (λ m. bit_xor m error) (c.loop-p.invariant.rest here (omega arith))
                      ∙ ap (bit_xor (get_or word here 0)) (wrong_by v wrong)
                      ∙ xor_twice (get_or word here 0) (get_or v here 0) ∙ ap (λ m. get_or v m 0) (sym same)
                  | inr apart ↦
                      ap (λ xs. get_or xs n 0) w.word-is
                      ∙ get_or-set_other now here n (bit_xor (get_or now here 0) error) 0 apart
                      ∙ c.loop-p.invariant.done v wrong n inside (omega arith)
                ];
            rest = λ n before.
                ap (λ xs. get_or xs n 0) w.word-is
                ∙ get_or-set_other now here n (bit_xor (get_or now here 0) error) 0 (λ e. absurd (omega arith))
                ∙ c.loop-p.invariant.rest n (omega arith);
          }
      | else-places-p w ↦
          record {
            done = λ v wrong n inside past.
                elim (cases_eq n here) [
                  | inl same ↦
                      let right : octet_before p (added word v) ≡ 0 =
                      elim (cases_eq (octet_before p (added word v)) 0) [
                        | inl none ↦ none
                        | inr some ↦ absurd (false≢true (sym w.if-places-p.false
                            ∙ flagged v wrong p (omega arith) some))
                      ] in
                      ap (λ m. get_or c.if-places-p.word m 0) same ∙ ap (λ xs. get_or xs here 0) w.word-is
                      ∙ c.loop-p.invariant.rest here (omega arith)
                      ∙ same_from_xor (get_or word here 0) (get_or v here 0)
                      (sym (error_is word v here p place wrong.size) ∙ right) ∙ ap (λ m. get_or v m 0) (sym same)
                  | inr apart ↦
                      ap (λ xs. get_or xs n 0) w.word-is ∙ c.loop-p.invariant.done v wrong n inside (omega arith)
                ];
            rest = λ n before. ap (λ xs. get_or xs n 0) w.word-is ∙ c.loop-p.invariant.rest n (omega arith);
          }
    ]

pub returns : goal.returns
returns c = λ v wrong.
    let size = wrong.size in
    ext_get_or 0 c.loop-p.word v (omega (arith, size, c.loop-p.auto.word)) (λ n below.
    c.loop-p.invariant.done v wrong n (omega (arith, c.loop-p.auto.word, c.requires.size)) (omega arith))
