-- A block whose bits have numbers: it is read as one frame at most, and as its own if it is near enough as it came.
use Rattle.fx25_blocks.proofs.Common.{◌≡◌, ℕ, ◌+◌, ◌-◌, ◌*◌, ◌<◌, ◌≤◌, ◌++◌, Bool, List, length, take, drop, map, get_or, ap}
use Rattle.fx25_blocks.proofs.Common.{subst, ◌∙◌, sym, arith, length-drop, sent_bits, block_length, CarriesFrame}
use Rattle.fx25_blocks.proofs.Common.{EndsBlock}
use Rattle.hdlc_framer.proofs.BitLemmas.{length-sent_bits}
use Rattle.fx25_blocks.specs.Held.{HasTag}
use Rattle.fx25_blocks.specs.UnknownOctets.{ReadsFrame}
use Rattle.fx25_blocks.specs.UnsureBlocks.{AreOctetCertainties, EndsUnsureBlock, block_numbers, least_of}
use Rattle.fx25_blocks.proofs.CertaintyLemmas.{same_certainties, octet_certainties, are_octet_certainties}
use Rattle.fx25_blocks.proofs.ReaderLemmas.{same_octet_list, tag_and_block}
use Rattle.fx25_blocks.proofs.UnknownLaws.{near_read, one_read}

-- a block that is read has its tag in front, and its bits are the last ones
pub unsure_told : (tag : ℕ) (b : List Bool) (numbers frame : List ℕ) (over : ℕ)
    → (ends : EndsUnsureBlock b numbers tag frame over)
    → HasTag tag b × (drop (length b - 8 * block_length tag) b ≡ sent_bits ends.word)
unsure_told tag b numbers frame over ends =
    tag_and_block tag b ends.before ends.heard (sent_bits ends.word) ends.bits_are ends.near_tag
    (length-sent_bits ends.word ∙ ap (λ n. 8 * n) ends.size)

pub one_unsure : (b : List Bool) (numbers : List ℕ) (tag : ℕ) (frame other : List ℕ) (over other_over : ℕ)
    → EndsUnsureBlock b numbers tag frame over → EndsUnsureBlock b numbers tag other other_over
    → (frame ≡ other) × (over ≡ other_over)
one_unsure b numbers tag frame other over other_over first second =
    let words : first.word ≡ second.word = same_octet_list first.word second.word first.octets second.octets
    (sym (unsure_told tag b numbers frame over first).1 ∙ (unsure_told tag b numbers other other_over second).1) in
    let sure : first.certainty ≡ second.certainty =
    same_certainties (block_numbers tag numbers) first.certainty second.certainty first.certainties
    second.certainties in
    let P : List ℕ → Type 0 = λ xs. ReadsFrame tag xs first.certainty frame over in
    let Q : List ℕ → Type 0 = λ ns. ReadsFrame tag second.word ns frame over in
    one_read tag second.word second.certainty frame other over other_over first.is_tag second.size
    (subst Q sure (subst P words first.reads)) second.reads

pub near_unsure : (b : List Bool) (numbers : List ℕ) (tag : ℕ) (frame : List ℕ) (over : ℕ)
    → 8 * block_length tag ≤ length numbers → EndsBlock b tag frame over → EndsUnsureBlock b numbers tag frame over
near_unsure b numbers tag frame over within ends =
    let carries = ends.carries in
    let last = block_numbers tag numbers in
    let certainty = octet_certainties (block_length tag) last in
    let P : List Bool → Type 0 = λ bs. CarriesFrame tag bs frame over in
    record {
      before = ends.before;
      heard = ends.heard;
      word = carries.word;
      certainty = certainty;
      is_tag = ends.is_tag;
      bits_are = ends.bits_are ∙ ap (λ xs. ends.before ++ (ends.heard ++ xs)) carries.bits_are;
      near_tag = ends.near_tag;
      octets = carries.octets;
      size = carries.size;
      certainties = are_octet_certainties (block_length tag) last
          (length-drop (length numbers - 8 * block_length tag) numbers ∙ less (length numbers) (8 * block_length tag) within);
      reads = near_read tag carries.word certainty frame over ends.is_tag carries.octets
          (subst P carries.bits_are carries);
    }
  where
    less : (n m : ℕ) → m ≤ n → n - (n - m) ≡ m
    less n m within = omega arith
