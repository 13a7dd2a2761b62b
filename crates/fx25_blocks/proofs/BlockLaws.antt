-- One block ends with a bit, and the block of a frame is heard.
use Rattle.fx25_blocks.proofs.Common.{◌≡◌, ℕ, ◌+◌, ◌-◌, ◌*◌, ◌<◌, ◌≤◌, Bool, List, ◌++◌, length, take, drop, refl, ap}
use Rattle.fx25_blocks.proofs.Common.{subst}
use Rattle.fx25_blocks.proofs.Common.{◌∙◌, sym, arith, append_assoc, length-append, drop_at, All, sent_bits, distance}
use Rattle.fx25_blocks.proofs.Common.{IsFrame}
use Rattle.fx25_blocks.proofs.Common.{IsTag, IsNearTag, IsBlockOf, IsRepairOf, EndsBlock, CarriesFrame, OpensWithFrame}
use Rattle.fx25_blocks.proofs.Common.{bits_needed, block_length, check_count, data_count}
use Rattle.hdlc_framer.proofs.BitLemmas.{length-sent_bits}
use Rattle.reed_solomon.specs.Codeword.{IsWithinReach}
use Rattle.reed_solomon.specs.declared.code.Code.{Code}
use Rattle.reed_solomon.specs.declared.code.Zeros.TheVariants.{Between}
use Rattle.reed_solomon.proofs.DistanceLemmas.{one_within_reach}
use Rattle.fx25_blocks.proofs.OpenLemmas.{data_opens, one_opening}
use Rattle.fx25_blocks.proofs.ReaderLemmas.{same_octet_list}
use Rattle.fx25_blocks.proofs.TagFacts.{even_checks, least_checks, most_checks, most_octets}

-- the code of a tag
unfoldable pub code_of : (tag : ℕ) → IsTag tag → Code
code_of tag is_tag = record {
  first_root = 1;
  check_count = check_count tag;
  zeros = Between;
  root = omega arith;
  least = omega (arith, least_checks tag is_tag);
  most = most_checks tag is_tag;
  even = even_checks tag is_tag;
}

pub reach_of : (tag : ℕ) (is_tag : IsTag tag) (word codeword : List ℕ) → IsRepairOf tag word codeword
    → IsWithinReach (code_of tag is_tag) word codeword
unfolding code_of
reach_of tag is_tag word codeword repair =
    record { size = repair.size; octets = repair.octets; codeword = repair.is_codeword; near = repair.near }

one_repair : (tag : ℕ) (word u v : List ℕ) → IsTag tag → length word ≡ block_length tag → IsRepairOf tag word u
    → IsRepairOf tag word v → u ≡ v
unfolding code_of
one_repair tag word u v is_tag size first second =
    one_within_reach (code_of tag is_tag) word u v (omega arith) (omega (arith, most_octets tag is_tag))
    (reach_of tag is_tag word u first) (reach_of tag is_tag word v second)

pub one_frame_carried : (tag : ℕ) (bits : List Bool) (frame other : List ℕ) (over other_over : ℕ) → IsTag tag
    → CarriesFrame tag bits frame over → CarriesFrame tag bits other other_over
    → (frame ≡ other) × (over ≡ other_over)
one_frame_carried tag bits frame other over other_over is_tag first second =
    let words : first.word ≡ second.word = same_octet_list first.word second.word first.octets second.octets
    (sym first.bits_are ∙ second.bits_are) in
    let codewords : first.codeword ≡ second.codeword =
    one_repair tag second.word first.codeword second.codeword is_tag second.size
    (subst (λ xs. IsRepairOf tag xs first.codeword) words first.repair) second.repair in
    one_opening (sent_bits (take (data_count tag) second.codeword)) frame other over other_over
    (subst (λ xs. OpensWithFrame (sent_bits (take (data_count tag) xs)) frame over) codewords first.opens) second.opens

-- the block is what follows the tag
block_is : (bits : List Bool) (tag : ℕ) (frame : List ℕ) (over : ℕ) (ends : EndsBlock bits tag frame over)
    → drop (length bits - 8 * block_length tag) bits ≡ ends.block
block_is bits tag frame over ends =
    let i : ℕ = length bits - 8 * block_length tag in
    let size : length ends.block ≡ 8 * block_length tag = ap length ends.carries.bits_are
    ∙ length-sent_bits ends.carries.word ∙ ap (λ n. 8 * n) ends.carries.size in
    let whole : bits ≡ (ends.before ++ ends.heard) ++ ends.block = ends.bits_are
    ∙ sym (append_assoc ends.before ends.heard ends.block) in
    ap (drop i) whole ∙ drop_at (ends.before ++ ends.heard) ends.block i (omega (
      arith,
      ap length whole,
      length-append (ends.before ++ ends.heard) ends.block,
    ))

pub one_block : (bits : List Bool) (tag : ℕ) (frame other : List ℕ) (over other_over : ℕ)
    → EndsBlock bits tag frame over → EndsBlock bits tag other other_over → (frame ≡ other) × (over ≡ other_over)
one_block bits tag frame other over other_over first second =
    let blocks : first.block ≡ second.block = sym (block_is bits tag frame over first)
    ∙ block_is bits tag other other_over second in
    one_frame_carried tag second.block frame other over other_over first.is_tag
    (subst (λ xs. CarriesFrame tag xs frame over) blocks first.carries) second.carries

pub heard_block : (before heard : List Bool) (word : List ℕ) (tag : ℕ) (frame block : List ℕ) → IsTag tag
    → IsFrame frame
    → IsBlockOf tag frame block → IsNearTag tag heard → All (λ octet. octet < 256) word → length word ≡ length block
    → 2 * distance word block ≤ check_count tag
    → EndsBlock (before ++ (heard ++ sent_bits word)) tag frame (bits_needed frame)
heard_block before heard word tag frame block is_tag is_frame block_of near octets size wrong = record {
  before = before;
  heard = heard;
  block = sent_bits word;
  is_tag = is_tag;
  bits_are = refl;
  near_tag = near;
  carries = record {
    word = word;
    codeword = block;
    bits_are = refl;
    octets = octets;
    size = size ∙ block_of.size;
    repair = record {
      size = sym size;
      octets = block_of.octets;
      is_codeword = block_of.codeword;
      near = wrong;
    };
    opens = subst (λ xs. OpensWithFrame xs frame (bits_needed frame)) (sym block_of.carried)
        (data_opens tag frame is_frame block_of.fits);
  };
}
