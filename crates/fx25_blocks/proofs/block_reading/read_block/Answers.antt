use Rattle.fx25_blocks.proofs.Common.{◌≡◌, ℕ, ◌<◌, List, take, All, ap, subst, sym, ◌∙◌, sent_bits, data_count}
use Rattle.fx25_blocks.proofs.Common.{CarriesFrame, IsRepairOf, OpensWithFrame}
use Rattle.fx25_blocks.proofs.OptionLemmas.{none_from}
use Rattle.fx25_blocks.proofs.ReaderLemmas.{same_octet_list}
use Rattle.fx25_blocks.proofs.block_reading.read_block.Goals as goal

pub returns-in-None-clause-none : goal.returns-in-None-clause-none
returns-in-None-clause-none c = λ frame over carries.
    let tag = c.args.tag in
    let word = c.pack-word.result.items in
    let P : List ℕ → Type 0 = λ xs. All (λ octet. octet < 256) xs in
    let fit : P word = subst P c.as_slice.ensures.value c.are_octets.ensures in
    let same : carries.word ≡ word = same_octet_list carries.word word carries.octets fit
    (sym carries.bits_are ∙ sym c.pack-word.ensures.bits) in
    c.in-None.ensures.none carries.codeword
    (subst (λ xs. IsRepairOf tag xs carries.codeword) same carries.repair)

pub returns-in-Some-clause-none : goal.returns-in-Some-clause-none
returns-in-Some-clause-none c =
    let tag = c.args.tag in
    let word = c.pack-word.result.items in
    let codeword = c.in-Some.codeword.items in
    let part = take c.data_count.result c.as_slice-in-Some.result.now in
    let P : List ℕ → Type 0 = λ xs. All (λ octet. octet < 256) xs in
    let fit : P word = subst P c.as_slice.ensures.value c.are_octets.ensures in
    let part_is : part ≡ take (data_count tag) codeword =
    ap (λ n. take n c.as_slice-in-Some.result.now) c.data_count.ensures.value
    ∙ ap (take (data_count tag)) c.as_slice-in-Some.ensures.value in
    none_from c.opening_frame.result
    ((frame : List ℕ) → (over : ℕ) → ¬ OpensWithFrame (sent_bits part) frame over)
    ((frame : List ℕ) → (over : ℕ) → ¬ CarriesFrame tag c.args.bits.now frame over)
    (λ none frame over carries.
    let same : carries.word ≡ word = same_octet_list carries.word word carries.octets fit
    (sym carries.bits_are ∙ sym c.pack-word.ensures.bits) in
    let one : carries.codeword ≡ codeword = c.in-Some.ensures.only carries.codeword
    (subst (λ xs. IsRepairOf tag xs carries.codeword) same carries.repair) in
    none frame over (subst (λ xs. OpensWithFrame (sent_bits xs) frame over)
    (ap (take (data_count tag)) one ∙ sym part_is) carries.opens)) c.opening_frame.ensures.none
