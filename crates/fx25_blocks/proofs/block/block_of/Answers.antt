use Rattle.fx25_blocks.proofs.Common.{◌≡◌, ℕ, ◌++◌, ◌<◌, List, length, take, All, ap, subst, sym, ◌∙◌, arith}
use Rattle.fx25_blocks.proofs.Common.{length-append, take_at, sent_bits, check_count, data_count}
use Rattle.reed_solomon.specs.Codeword.{IsCodewordOf}
use Rattle.reed_solomon.specs.declared.code.Zeros.{Zeros}
use Rattle.reed_solomon.specs.declared.code.Zeros.TheVariants.{Between}
use Rattle.fx25_blocks.proofs.TagFacts.{most_octets}
use Rattle.fx25_blocks.proofs.block.block_of.Goals as goal

pub check_octets-checks-requires : goal.check_octets-checks-requires
check_octets-checks-requires c = omega (
  arith,
  c.pack-block.ensures.count,
  ap length c.as_slice.ensures.value,
  c.block_code.ensures.check_count,
  c.data_count.ensures.value,
  most_octets c.args.tag c.requires.tag,
)

pub push_all-requires : goal.push_all-requires
push_all-requires c = omega (
  arith,
  c.pack-block.ensures.count,
  ap length c.as_slice-2.ensures.value,
  c.check_octets-checks.ensures.count,
  c.block_code.ensures.check_count,
  c.data_count.ensures.value,
  most_octets c.args.tag c.requires.tag,
)

pub returns : goal.returns
returns c =
    let tag = c.args.tag in
    let front = c.pack-block.result.items in
    let checks = c.check_octets-checks.result.items in
    let code = c.block_code.result in
    let whole : c.push_all.new.word.items ≡ front ++ checks =
    c.push_all.ensures ∙ ap (λ xs. front ++ xs) c.as_slice-2.ensures.value in
    let count : length front ≡ data_count tag = omega (arith, c.pack-block.ensures.count, c.data_count.ensures.value) in
    let more : length checks ≡ check_count tag = omega (
      arith,
      c.check_octets-checks.ensures.count,
      c.block_code.ensures.check_count,
    ) in
    let P : List ℕ → Type 0 = λ xs. All (λ octet. octet < 256) xs in
    let Q : ℕ → ℕ → Zeros → List ℕ → Type 0 = λ root n zeros xs. IsCodewordOf root n zeros xs in
    let word : c.as_slice.result.now ++ checks ≡ c.push_all.new.word.items =
    ap (λ xs. xs ++ checks) c.as_slice.ensures.value ∙ sym whole in
    record {
      size = omega (arith, ap length whole, length-append front checks, count, more);
      octets = subst P c.as_slice-3.ensures.value c.are_octets.ensures;
      carried = ap (λ xs. sent_bits (take (data_count tag) xs)) whole
          ∙ ap sent_bits (take_at front checks (data_count tag) count) ∙ c.pack-block.ensures.bits;
      codeword = subst (λ root. Q root (check_count tag) Between c.push_all.new.word.items)
          c.block_code.ensures.first_root
          (subst (λ n. Q code.first_root n Between c.push_all.new.word.items) c.block_code.ensures.check_count
          (subst (λ zeros. Q code.first_root code.check_count zeros c.push_all.new.word.items)
          c.block_code.ensures.zeros
          (subst (Q code.first_root code.check_count code.zeros) word c.check_octets-checks.ensures.codeword)));
    }
