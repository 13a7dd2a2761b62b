-- A frame has one unit, and these are its bits.
use Rattle.fx25_sender.proofs.Common.{◌≡◌, ℕ, ◌+◌, ◌*◌, ◌≤◌, Bool, List, [], ◌∷◌, ◌++◌, length, take, drop, All, Option}
use Rattle.fx25_sender.proofs.Common.{Some, None, refl, ap, subst, sym, ◌∙◌, arith, length-append, length-take}
use Rattle.fx25_sender.proofs.Common.{length-drop}
use Rattle.fx25_sender.proofs.Common.{take_at, take-append-drop, sent_bits, tag_bits, IsTag, IsTagFor, IsBlockOf}
use Rattle.fx25_sender.proofs.Common.{IsUnit}
use Rattle.fx25_sender.proofs.Common.{IsBlockUnit, IsBlockCodeword, bits_needed, data_bits, padded, check_count}
use Rattle.fx25_sender.proofs.Common.{data_count, block_octets, octets_of, unit_with, unit, last_tag, check_octets}
use Rattle.fx25_blocks.specs.Units.IsUnit.{in_block, plain}
use Rattle.fx25_blocks.proofs.BlockLaws.{code_of}
use Rattle.fx25_blocks.proofs.ReaderLemmas.{same_octet_list}
use Rattle.fx25_blocks.proofs.TagFacts.{least_checks, most_octets}
use Rattle.fx25_blocks.proofs.WriteLemmas.{length-padded}
use Rattle.reed_solomon.proofs.DistanceLemmas.{Octets-take, Octets-drop, all_of_octets, octets_of_all, one_check}
use Rattle.reed_solomon.proofs.ValueLemmas.{Octets, Octets-append}
use Rattle.fx25_sender.proofs.CheckOctets.{Octets-check_octets, checks_make_a_codeword, length-check_octets}
use Rattle.fx25_sender.proofs.OctetLemmas.{octets_pack}
use Rattle.fx25_sender.proofs.TagLemmas.{IsLast, is_tag_for, last_tag_is, one_tag}

length-data_bits : (tag : ℕ) (frame : List ℕ) → length (data_bits tag frame) ≡ 8 * data_count tag
unfolding data_bits
length-data_bits tag frame = omega (
  arith,
  length-take (8 * data_count tag) (padded frame (data_count tag)),
  length-padded frame (data_count tag),
)

-- the octets after a tag are its block
pub block_is : (checks tag : ℕ) (frame : List ℕ) → IsTagFor checks (bits_needed frame) tag
    → IsBlockOf tag frame (block_octets tag frame)
block_is checks tag frame tag_for =
    let octets = octets_of (data_bits tag frame) in
    let checks_of = check_octets (check_count tag) octets in
    let packs = octets_pack (data_count tag) (data_bits tag frame) (length-data_bits tag frame) in
    let some : 1 ≤ check_count tag = omega (arith, least_checks tag tag_for.is_tag) in
    let size = length-check_octets (check_count tag) octets some packs.octets_fit in
    let fit = Octets-check_octets (check_count tag) octets some packs.octets_fit in
    record {
      fits = tag_for.fits;
      size = omega (arith, length-append octets checks_of, size, packs.size);
      octets = all_of_octets (octets ++ checks_of) (Octets-append octets checks_of packs.octets_fit fit);
      carried = ap sent_bits (take_at octets checks_of (data_count tag) packs.size) ∙ packs.carried;
      codeword = checks_make_a_codeword tag octets tag_for.is_tag packs.octets_fit;
    }

pub unit_is : (checks : ℕ) (frame : List ℕ) → IsUnit checks frame (unit checks frame)
unfolding unit
unit_is checks frame = by_tag (last_tag checks (bits_needed frame) 11) (last_tag_is checks (bits_needed frame) 11)
  where
    by_tag : (found : Option ℕ) → IsLast checks (bits_needed frame) 11 found
        → IsUnit checks frame (unit_with found frame)
    by_tag None none = plain (λ tag is_tag. none tag is_tag.0 is_tag.1) refl
    by_tag (Some tag) is =
        let tag_for = is_tag_for checks (bits_needed frame) tag is in
        in_block (record {
          tag = tag;
          block = block_octets tag frame;
          tag_for = tag_for;
          block_of = block_is checks tag frame tag_for;
          bits_are = refl;
        })

-- a frame has one block with a tag
pub one_block_of : (tag : ℕ) (frame block other : List ℕ) → IsTag tag → IsBlockOf tag frame block
    → IsBlockOf tag frame other → block ≡ other
unfolding code_of
one_block_of tag frame block other is_tag first second =
    let d = data_count tag in
    let P : List ℕ → Type 0 = λ xs. IsBlockCodeword tag xs in
    let octets = octets_of_all block first.octets in
    let other_octets = octets_of_all other second.octets in
    let front : take d block ≡ take d other =
    same_octet_list (take d block) (take d other) (all_of_octets (take d block) (Octets-take d block octets))
    (all_of_octets (take d other) (Octets-take d other other_octets)) (first.carried ∙ sym second.carried) in
    let back : drop d block ≡ drop d other =
    one_check (code_of tag is_tag) (take d other) (drop d block) (drop d other) (Octets-take d other other_octets)
    (Octets-drop d block octets) (Octets-drop d other other_octets)
    (omega (arith, length-drop d block, first.size)) (omega (arith, length-drop d other, second.size))
    (omega (arith, length-take d other, second.size, most_octets tag is_tag))
    (subst P (sym (take-append-drop d block) ∙ ap (λ xs. xs ++ drop d block) front) first.codeword)
    (subst P (sym (take-append-drop d other)) second.codeword) in
    sym (take-append-drop d block) ∙ ap (λ xs. xs ++ drop d block) front ∙ ap (λ xs. take d other ++ xs) back
    ∙ take-append-drop d other

one_block_unit : (checks : ℕ) (frame : List ℕ) (bits other : List Bool) → IsBlockUnit checks frame bits
    → IsBlockUnit checks frame other → bits ≡ other
one_block_unit checks frame bits other first second =
    let tags : first.tag ≡ second.tag =
    one_tag checks (bits_needed frame) first.tag second.tag first.tag_for second.tag_for in
    let blocks : first.block ≡ second.block =
    one_block_of second.tag frame first.block second.block second.tag_for.is_tag
    (subst (λ tag. IsBlockOf tag frame first.block) tags first.block_of) second.block_of in
    first.bits_are ∙ ap (λ tag. tag_bits tag ++ sent_bits first.block) tags
    ∙ ap (λ block. tag_bits second.tag ++ sent_bits block) blocks ∙ sym second.bits_are

pub one_unit : (checks : ℕ) (frame : List ℕ) (bits other : List Bool) → IsUnit checks frame bits
    → IsUnit checks frame other → bits ≡ other
one_unit checks frame bits other (in_block first)
    (in_block second) = one_block_unit checks frame bits other first second
one_unit checks frame bits other (in_block first) (plain none is) =
    absurd (none first.tag first.tag_for.is_tag first.tag_for.checks_are first.tag_for.fits)
one_unit checks frame bits other (plain none is) (in_block second) =
    absurd (none second.tag second.tag_for.is_tag second.tag_for.checks_are second.tag_for.fits)
one_unit checks frame bits other (plain none is) (plain other_none other_is) = is ∙ sym other_is
