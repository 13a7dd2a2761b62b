use Rattle.fx25_blocks.proofs.Common.{◌≡◌, ℕ, ◌+◌, ◌-◌, ◌*◌, ◌%◌, ◌<◌, ◌≤◌, eqb, get_or, length, ap, sym, ◌∙◌, arith}
use Rattle.fx25_blocks.proofs.Common.{block_length, eqb-true, false≢true}
use Rattle.std.proofs.lemmas.Bool.{eq-eqb}
use Rattle.fx25_blocks.proofs.ReaderLemmas.{has_tag_from, has_tag_told}
use Rattle.fx25_blocks.proofs.TagFacts.{most_octets}
use Rattle.fx25_blocks.proofs.block_reader.BlockReader.has_tag.Goals as goal

pub returns-then-self-count : goal.returns-then-self-count
returns-then-self-count c = λ b stands.
    let kept = stands.kept in
    let r = c.args.self.now in (
      λ yes. absurd (false≢true yes),
      λ has.
          let told = has_tag_told r.bits r.tags r.due r.register r.next r.taken b kept c.args.tag c.requires has in
          absurd (omega (
            arith,
            told.0,
            kept.taken_is,
            c.block_length-count.ensures.value,
            c.if-self-count.true,
            most_octets c.args.tag c.requires,
          )),
    )

pub returns : goal.returns
returns c = λ b stands.
    let kept = stands.kept in
    let r = c.args.self.now in
    let tag = c.args.tag in
    let taken_is = kept.taken_is in
    let is = c.block_length-count.ensures.value in
    let place = ap (λ n. get_or r.tags ((r.next + 2048 - 8 * n) % 2048) 0) is in (
      λ yes. has_tag_from r.bits r.tags r.due r.register r.next r.taken b kept tag c.requires
          (omega (arith, c.if-self-count.false, most_octets tag c.requires, is, taken_is))
          (sym place ∙ eqb-true (get_or r.tags ((r.next + 2048 - 8 * c.block_length-count.result) % 2048) 0) tag yes),
      λ has. eq-eqb (get_or r.tags ((r.next + 2048 - 8 * c.block_length-count.result) % 2048) 0) tag
          (place ∙ (has_tag_told r.bits r.tags r.due r.register r.next r.taken b kept tag c.requires has).1),
    )
