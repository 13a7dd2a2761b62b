use Rattle.fx25_blocks.proofs.Common.{◌≡◌, ℕ, ◌<◌, ◌≤◌, Bool, List, length, take, ap, subst, sym, ◌∙◌, arith, sent_bits}
use Rattle.fx25_blocks.proofs.Common.{OpensWithFrame, data_count}
use Rattle.fx25_blocks.specs.UnknownOctets.{CarriesWithUnknown, IsRepairOutside}
use Rattle.fx25_blocks.proofs.OptionLemmas.{none_from}
use Rattle.fx25_blocks.proofs.TagFacts.{most_octets}
use Rattle.fx25_blocks.proofs.UnknownLaws.{same_flags}
use Rattle.fx25_blocks.proofs.unknown_octets.frame_with.Goals as goal

pub least_sure-unknown-requires : goal.least_sure-unknown-requires
least_sure-unknown-requires c =
    omega (arith, c.requires.numbers, c.requires.size, most_octets c.args.tag c.requires.tag)

-- a repair with the flags and the word as the code has them
repair_is : (tag : ℕ) (unknown flags : List Bool) (octets word codeword : List ℕ) → unknown ≡ flags → word ≡ octets
    → IsRepairOutside tag unknown octets codeword → IsRepairOutside tag flags word codeword
repair_is tag unknown flags octets word codeword same_flags same_word repair =
    subst (λ (xs : List ℕ). IsRepairOutside tag flags xs codeword) (sym same_word)
    (subst (λ (fs : List Bool). IsRepairOutside tag fs octets codeword) same_flags repair)

pub returns-in-None-clause-none : goal.returns-in-None-clause-none
returns-in-None-clause-none c = λ frame over carries.
    let flags : carries.unknown ≡ c.as_slice.result.now =
    same_flags c.args.count c.args.certainty.now carries.unknown c.least_sure-unknown.result.items carries.least_sure
    c.least_sure-unknown.ensures ∙ sym c.as_slice.ensures.value in
    c.in-None.ensures.none carries.codeword
    (repair_is c.args.tag carries.unknown c.as_slice.result.now c.args.octets.now c.word_of.result.items
    carries.codeword flags c.word_of.ensures carries.repair)

pub returns-in-Some-clause-none : goal.returns-in-Some-clause-none
returns-in-Some-clause-none c =
    let tag = c.args.tag in
    let codeword = c.in-Some.codeword.items in
    let part = take c.data_count.result c.as_slice-in-Some.result.now in
    let part_is : part ≡ take (data_count tag) codeword =
    ap (λ n. take n c.as_slice-in-Some.result.now) c.data_count.ensures.value
    ∙ ap (take (data_count tag)) c.as_slice-in-Some.ensures.value in
    none_from c.opening_frame.result
    ((frame : List ℕ) → (over : ℕ) → ¬ OpensWithFrame (sent_bits part) frame over)
    ((frame : List ℕ) → (over : ℕ)
    → ¬ CarriesWithUnknown tag c.args.count c.args.octets.now c.args.certainty.now frame over)
    (λ none frame over carries.
    let flags : carries.unknown ≡ c.as_slice.result.now =
    same_flags c.args.count c.args.certainty.now carries.unknown c.least_sure-unknown.result.items carries.least_sure
    c.least_sure-unknown.ensures ∙ sym c.as_slice.ensures.value in
    let one : carries.codeword ≡ codeword = c.in-Some.ensures.only carries.codeword
    (repair_is tag carries.unknown c.as_slice.result.now c.args.octets.now c.word_of.result.items carries.codeword flags
    c.word_of.ensures carries.repair) in
    none frame over (subst (λ xs. OpensWithFrame (sent_bits xs) frame over)
    (ap (take (data_count tag)) one ∙ sym part_is) carries.opens)) c.opening_frame.ensures.none
