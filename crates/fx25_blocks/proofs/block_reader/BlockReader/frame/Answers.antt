use Rattle.fx25_blocks.proofs.Common.{◌≡◌, ℕ, ◌+◌, ◌-◌, ◌*◌, ◌≤◌, Bool, List, length, drop, ap, subst, sym, refl, ◌∙◌}
use Rattle.fx25_blocks.proofs.Common.{arith, false≢true, block_length, EndsBlock, CarriesFrame}
use Rattle.fx25_blocks.specs.Held.{HasTag, StandsFor}
use Rattle.fx25_blocks.proofs.OptionLemmas.{none_from, some_from}
use Rattle.fx25_blocks.proofs.ReaderLemmas.{ends_from, ends_told, recent_are}
use Rattle.fx25_blocks.proofs.TagFacts.{most_octets}
use Rattle.fx25_blocks.proofs.block_reader.BlockReader.frame.Goals as goal

pub returns-then-not-has_tag-clause-none : goal.returns-then-not-has_tag-clause-none
returns-then-not-has_tag-clause-none c = λ b stands frame over ends.
    false≢true ((c.if-not-has_tag.ensures b stands).1 (ends_told c.args.tag c.requires b frame over ends).0)

-- the bits that were read are the last ones
bits_are : (c : goal.After-read_block) (b : List Bool) → StandsFor c.args.self.now b → HasTag c.args.tag b
    → c.as_slice.result.now ≡ drop (length b - 8 * block_length c.args.tag) b
bits_are c b stands has =
    let kept = stands.kept in
    let r = c.args.self.now in
    let count = c.block_length.result in
    let is = c.block_length.ensures.value in
    let most = most_octets c.args.tag c.requires in
    let within = has.within in
    c.as_slice.ensures.value
    ∙ recent_are r.bits r.tags r.due r.register r.next r.taken b kept c.recent-bits.result.items (8 * count)
    (omega arith) (omega arith) c.recent-bits.ensures.size c.recent-bits.ensures.each
    ∙ ap (λ n. drop (length b - 8 * n) b) is

pub returns-clause-frame : goal.returns-clause-frame
returns-clause-frame c = λ b stands.
    let tag = c.args.tag in
    let has = (c.if-not-has_tag.ensures b stands).0 refl in
    some_from c.read_block.result (λ found. CarriesFrame tag c.as_slice.result.now found.octets.items found.over)
    (λ found. EndsBlock b tag found.octets.items found.over)
    (λ found carries. ends_from tag c.requires b found.octets.items found.over has
    (subst (λ xs. CarriesFrame tag xs found.octets.items found.over) (bits_are c b stands has) carries))
    c.read_block.ensures.frame

pub returns-clause-none : goal.returns-clause-none
returns-clause-none c = λ b stands.
    let tag = c.args.tag in
    none_from c.read_block.result
    ((frame : List ℕ) → (over : ℕ) → ¬ CarriesFrame tag c.as_slice.result.now frame over)
    ((frame : List ℕ) → (over : ℕ) → ¬ EndsBlock b tag frame over)
    (λ none frame over ends.
    let told = ends_told tag c.requires b frame over ends in
    none frame over (subst (λ xs. CarriesFrame tag xs frame over) (sym (bits_are c b stands told.0)) told.1))
    c.read_block.ensures.none
