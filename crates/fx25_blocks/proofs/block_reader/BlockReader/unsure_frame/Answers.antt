use Rattle.fx25_blocks.proofs.Common.{◌≡◌, ℕ, ◌+◌, ◌-◌, ◌*◌, ◌≤◌, ◌<◌, ◌++◌, Bool, List, length, drop, ap, subst, sym, refl}
use Rattle.fx25_blocks.proofs.Common.{◌∙◌, arith, false≢true, block_length, All, sent_bits}
use Rattle.fx25_blocks.specs.Held.{HasTag, StandsFor}
use Rattle.fx25_blocks.specs.HeldCertainties.{StandsFor as AreKept}
use Rattle.fx25_blocks.specs.UnknownOctets.{ReadsFrame}
use Rattle.fx25_blocks.specs.UnsureBlocks.{AreOctetCertainties, EndsUnsureBlock, block_numbers}
use Rattle.fx25_blocks.proofs.CertaintyLemmas.{same_certainties}
use Rattle.fx25_blocks.proofs.OptionLemmas.{none_from, some_from}
use Rattle.fx25_blocks.proofs.ReaderLemmas.{block_after_tag, recent_are, same_octet_list, tag_and_block_within}
use Rattle.fx25_blocks.proofs.TagFacts.{most_octets}
use Rattle.fx25_blocks.proofs.UnsureLaws.{unsure_told}
use Rattle.fx25_blocks.proofs.block_reader.BlockReader.unsure_frame.Goals as goal

pub returns-then-not-has_tag-clause-none : goal.returns-then-not-has_tag-clause-none
returns-then-not-has_tag-clause-none c = λ b numbers stands kept enough frame over ends.
    false≢true ((c.if-not-has_tag.ensures b stands).1 (unsure_told c.args.tag b numbers frame over ends).0)

-- the octets that were read are those of the last bits
octets_are : (c : goal.After-block_with_unknown) (b : List Bool) → StandsFor c.args.self.now b → HasTag c.args.tag b
    → sent_bits c.pack-octets.result.items ≡ drop (length b - 8 * block_length c.args.tag) b
octets_are c b stands has =
    let kept = stands.kept in
    let r = c.args.self.now in
    let count = c.block_length-count.result in
    let is = c.block_length-count.ensures.value in
    let most = most_octets c.args.tag c.requires in
    let within = has.within in
    c.pack-octets.ensures.bits ∙ c.as_slice.ensures.value
    ∙ recent_are r.bits r.tags r.due r.register r.next r.taken b kept c.recent-bits.result.items (8 * count)
    (omega arith) (omega arith) c.recent-bits.ensures.size c.recent-bits.ensures.each
    ∙ ap (λ n. drop (length b - 8 * n) b) is

word_fits : (c : goal.After-block_with_unknown) → All (λ octet. octet < 256) c.pack-octets.result.items
word_fits c =
    let P : List ℕ → Type 0 = λ xs. All (λ octet. octet < 256) xs in
    subst P c.as_slice-2.ensures.value c.are_octets.ensures

-- the numbers of these octets
certainties_are : (c : goal.After-block_with_unknown) (numbers : List ℕ) → AreKept c.args.certainties.now numbers
    → 8 * block_length c.args.tag ≤ length numbers
    → AreOctetCertainties (block_numbers c.args.tag numbers) c.of_octets-certainty.result.items
certainties_are c numbers kept within =
    let is = c.block_length-count.ensures.value in
    let P : ℕ → Type 0 =
    λ n. AreOctetCertainties (drop (length numbers - 8 * n) numbers) c.of_octets-certainty.result.items in
    subst P is (c.of_octets-certainty.ensures.certainties numbers kept (omega (arith, within, is)))

-- what is read of them, by their names in the code
reads_are : (tag : ℕ) (word other certainty numbers frame : List ℕ) (over : ℕ) → word ≡ other → certainty ≡ numbers
    → ReadsFrame tag word certainty frame over → ReadsFrame tag other numbers frame over
reads_are tag word other certainty numbers frame over same_word same_numbers reads =
    let P : List ℕ → Type 0 = λ xs. ReadsFrame tag xs certainty frame over in
    let Q : List ℕ → Type 0 = λ ns. ReadsFrame tag other ns frame over in
    subst Q same_numbers (subst P same_word reads)

pub returns-clause-frame : goal.returns-clause-frame
returns-clause-frame c = λ b numbers stands kept enough.
    let tag = c.args.tag in
    let has = (c.if-not-has_tag.ensures b stands).0 refl in
    let within = enough (tag_and_block_within tag b has) in
    let word = c.pack-octets.result.items in
    let certainty = c.of_octets-certainty.result.items in
    let octets = c.as_slice-3.result.now in
    let sure = c.as_slice-4.result.now in
    some_from c.block_with_unknown.result (λ found. ReadsFrame tag octets sure found.octets.items found.over)
    (λ found. EndsUnsureBlock b numbers tag found.octets.items found.over)
    (λ found reads. record {
      before = has.ends.0;
      heard = has.ends.1;
      word = word;
      certainty = certainty;
      is_tag = c.requires;
      bits_are = block_after_tag tag b has
          ∙ ap (λ xs. has.ends.0 ++ (has.ends.1 ++ xs)) (sym (octets_are c b stands has));
      near_tag = has.ends.3;
      octets = word_fits c;
      size = c.pack-octets.ensures.count ∙ c.block_length-count.ensures.value;
      certainties = certainties_are c numbers kept within;
      reads = reads_are tag octets word sure certainty found.octets.items found.over c.as_slice-3.ensures.value
          c.as_slice-4.ensures.value reads;
    }) c.block_with_unknown.ensures.frame

pub returns-clause-none : goal.returns-clause-none
returns-clause-none c = λ b numbers stands kept enough.
    let tag = c.args.tag in
    let within = enough (tag_and_block_within tag b ((c.if-not-has_tag.ensures b stands).0 refl)) in
    let word = c.pack-octets.result.items in
    let certainty = c.of_octets-certainty.result.items in
    let octets = c.as_slice-3.result.now in
    let sure = c.as_slice-4.result.now in
    none_from c.block_with_unknown.result ((frame : List ℕ) → (over : ℕ) → ¬ ReadsFrame tag octets sure frame over)
    ((frame : List ℕ) → (over : ℕ) → ¬ EndsUnsureBlock b numbers tag frame over)
    (λ none frame over ends.
    let has = unsure_told tag b numbers frame over ends in
    let same_word : ends.word ≡ octets = same_octet_list ends.word word ends.octets (word_fits c)
    (sym has.1 ∙ sym (octets_are c b stands has.0)) ∙ sym c.as_slice-3.ensures.value in
    let same_numbers : ends.certainty ≡ sure =
    same_certainties (block_numbers tag numbers) ends.certainty certainty ends.certainties
    (certainties_are c numbers kept within) ∙ sym c.as_slice-4.ensures.value in
    none frame over (reads_are tag ends.word octets ends.certainty sure frame over same_word same_numbers ends.reads))
    c.block_with_unknown.ensures.none
