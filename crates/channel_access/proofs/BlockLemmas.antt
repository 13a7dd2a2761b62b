-- The bits of a tag and a block, and how they are made of a frame.
use Rattle.channel_access.proofs.Common.{◌≡◌, ℕ, zero, suc, ◌+◌, ◌-◌, ◌*◌, ◌/◌, ◌%◌, ◌^◌, ◌<◌, ◌≤◌, Bool, true, false}
use Rattle.channel_access.proofs.Common.{bit_and, eqb, List, [], ◌∷◌, ◌++◌, length, take, drop, get_or, refl, ap, ◌∙◌}
use Rattle.channel_access.proofs.Common.{sym, arith, length-append, append_assoc, take_all, sent_bits}
use Rattle.channel_access.proofs.Common.{length-sent_bits, flags, flag, frame_bits, with_fcs, fcs_of, stuffed_is}
use Rattle.channel_access.proofs.Common.{stuffed_rest, BlockBits, StuffedBits, inl, inr, add-one}
use Rattle.std.proofs.Common.{set}
use Rattle.std.proofs.lemmas.Bool.{cases_lt}
use Rattle.std.proofs.Common.{replicate}
use Rattle.std.proofs.Math.Seq.{drop-append-add, drop-cons, take-append_seam}
use Rattle.std.proofs.lemmas.List.{drop-replicate}
use Rattle.std.proofs.lemmas.List.{drop_all, get_or_append_left, get_or-append_right, length-take-le, take_more_set, take-append-drop, take-take}
use Rattle.hdlc_framer.specs.Counted.{stuffed_from}
use Rattle.fx25_blocks.specs.Blocks.{bits_needed, data_bits, padded}
use Rattle.fx25_blocks.specs.Tags.{data_count}
use Rattle.fx25_blocks.specs.Units.{FitsNoTag, IsTagFor}
use Rattle.fx25_blocks.specs.Written.{Carries}
use Rattle.fx25_blocks.proofs.TagFacts.{most_data}
use Rattle.fx25_blocks.proofs.WriteLemmas.{padded_front}
use Rattle.fx25_sender.specs.Units.{block_octets, last_tag}
use Rattle.fx25_sender.proofs.TagLemmas.{IsLast, is_tag_for, last_tag_is, one_tag}
use Rattle.fx25_sender.proofs.UnitLemmas.{block_is, one_block_of}
use Rattle.std.specs.Prelude.{Option, Some, None}
use Rattle.channel_access.specs.DataLine.{HasPut}
use Rattle.channel_access.specs.Held.{block_bits, stuffed_start}
use Rattle.channel_access.proofs.FrameLemmas.{sent_bits-at, stuffed_rest-start}

-- ---- one bit of them

pub length-block_bits : (b : BlockBits) → length b.octets ≡ 263 → b.length ≤ 255
    → length (block_bits b) ≡ 8 * (8 + b.length)
unfolding block_bits
length-block_bits b size most =
    length-take-le (8 * (8 + b.length)) (sent_bits b.octets) (omega (arith, length-sent_bits b.octets, size))

pub block_bit : (b : BlockBits) → length b.octets ≡ 263 → b.length ≤ 255 → b.place < 8 * (8 + b.length)
    → get_or (block_bits b) b.place false ≡ eqb (bit_and (get_or b.octets (b.place / 8) 0 / 2 ^ (b.place % 8)) 1) 1
unfolding block_bits
block_bit b size most within =
    let all = sent_bits b.octets in
    let n : ℕ = 8 * (8 + b.length) in
    let front : get_or (take n all) b.place false ≡ get_or all b.place false =
    sym (ap (λ l. get_or l b.place false) (sym (take-append-drop n all))
    ∙ get_or_append_left (take n all) (drop n all) false b.place
    (omega (arith, length-take-le n all (omega (arith, length-sent_bits b.octets, size))))) in
    front ∙ ap (λ m. get_or all m false) (omega arith)
    ∙ sent_bits-at b.octets (b.place / 8) (b.place % 8) (omega (arith, size)) (omega arith)

-- ---- octets that were put one after the other

pub octets_put : (tag block first both : List ℕ) → length tag ≡ 8 → length block ≤ 255
    → first ≡ tag ++ drop (length tag) (replicate 263 0)
    → both ≡ take 8 first ++ (block ++ drop (8 + length block) first)
    → both ≡ (tag ++ block) ++ replicate (263 - length (tag ++ block)) 0
octets_put tag block first both eight most one two =
    let n : ℕ = length block in
    let zeros : first ≡ tag ++ replicate 255 0 = one
    ∙ ap (λ k. tag ++ drop k (replicate 263 0)) eight
    ∙ ap (λ l. tag ++ l) (drop-replicate 8 263 0) in
    let front : take 8 first ≡ tag = ap (take 8) zeros ∙ ap (λ k. take k (tag ++ replicate 255 0)) (sym eight)
    ∙ take-append_seam tag (replicate 255 0) in
    let back : drop (8 + n) first ≡ replicate (255 - n) 0 = ap (drop (8 + n)) zeros
    ∙ ap (λ k. drop (k + n) (tag ++ replicate 255 0)) (sym eight)
    ∙ drop-append-add tag (replicate 255 0) n
    ∙ drop-replicate n 255 0 in
    let size : 263 - length (tag ++ block) ≡ 255 - n = omega (arith, length-append tag block) in
    two ∙ ap (λ l. l ++ (block ++ drop (8 + n) first)) front ∙ ap (λ l. tag ++ (block ++ l)) back
    ∙ sym (append_assoc tag block (replicate (255 - n) 0))
    ∙ ap (λ k. (tag ++ block) ++ replicate k 0) (sym size)

-- ---- how many bits a frame has

stuffed_from-short : (bits : List Bool) (left : ℕ) → length (stuffed_from bits left) ≤ 2 * length bits
stuffed_from-short [] left = omega arith
stuffed_from-short (false ∷ bits) left = omega (arith, stuffed_from-short bits 4)
stuffed_from-short (true ∷ bits) zero = omega (arith, stuffed_from-short bits 4)
stuffed_from-short (true ∷ bits) (suc left) = omega (arith, stuffed_from-short bits left)

pub frame_bits-most : (octets : List ℕ) → length octets ≤ 1024 → length (frame_bits octets) ≤ 16416
unfolding frame_bits with_fcs
frame_bits-most octets most = omega (
  arith,
  ap length (stuffed_is (sent_bits (with_fcs octets))),
  stuffed_from-short (sent_bits (with_fcs octets)) 4,
  length-sent_bits (with_fcs octets),
  length-append octets ((fcs_of octets % 256) ∷ (fcs_of octets / 256) ∷ []),
)

-- ---- the bits of the data of a block, one more at a time

-- nothing was put
pub put_none : (octets : List ℕ) (line : List Bool) → HasPut octets line 0 (stuffed_start octets) 0
unfolding padded
put_none octets line = record {
  whole = ap (λ l. flag ++ (l ++ flags 239)) (stuffed_rest-start octets);
  few = omega arith;
  over = λ some. absurd (omega arith);
}

length-flags : (count : ℕ) → length (flags count) ≡ 8 * count
length-flags zero = refl
length-flags (suc count) = omega (arith, length-append flag (flags count), length-flags count)

-- a bit of flags
flags-at : (count place : ℕ) → place < 8 * count → get_or (flags count) place false ≡ get_or flag (place % 8) false
flags-at zero place within = absurd (omega arith)
flags-at (suc count) place within =
    elim (cases_lt place 8) [
      | inl early ↦ get_or_append_left flag (flags count) false place early
          ∙ ap (λ n. get_or flag n false) (omega arith)
      | inr later ↦ get_or-append_right flag (flags count) 8 place false refl later
          ∙ flags-at count (place - 8) (omega arith) ∙ ap (λ n. get_or flag n false) (omega arith)
    ]

-- one bit more, if it is the first of what is left
put_by : (octets : List ℕ) (line : List Bool) (place : ℕ) (bit : Bool) (left now : List Bool) → place < length line
    → left ≡ bit ∷ now → take place line ++ left ≡ padded octets 239
    → take (place + 1) (set line place bit) ++ now ≡ padded octets 239
put_by octets line place bit left now within first whole =
    ap (λ l. l ++ now) (take_more_set line place bit within) ∙ append_assoc (take place line) (bit ∷ []) now
    ∙ ap (λ l. take place line ++ l) (sym first) ∙ whole

module _ (octets : List ℕ) (line : List Bool) (place : ℕ) (frame : StuffedBits) (count : ℕ)
    (within : place < length line) (h : HasPut octets line place frame count) where
  abbrev rest : StuffedBits → List Bool
  rest f = stuffed_rest f octets

  -- a bit of the flag before the frame
  pub put_flag : place < 8
      → HasPut octets (set line place (get_or flag (place % 8) false)) (place + 1) frame count
  put_flag early =
      let bit : Bool = get_or flag (place % 8) false in
      let same : get_or flag place false ≡ bit = ap (λ n. get_or flag n false) (omega arith) in
      let cut : drop place flag ≡ bit ∷ drop (place + 1) flag = drop-cons flag place false early
      ∙ ap (λ n. get_or flag place false ∷ drop n flag) (sym (add-one place))
      ∙ ap (λ x. x ∷ drop (place + 1) flag) same in
      record {
        whole = put_by octets line place bit _ _ within (ap (λ l. l ++ (rest frame ++ drop count (flags 239))) cut)
            h.whole;
        few = omega (arith, h.few);
        over = λ some. let following = (h.over some).0 in absurd (omega arith);
      }

  -- a bit of the frame
  pub put_frame : 8 ≤ place → (bit : Bool) (following : StuffedBits) → rest frame ≡ bit ∷ rest following
      → HasPut octets (set line place bit) (place + 1) following count
  put_frame later bit following next =
      let past : drop place flag ≡ [] = drop_all place flag later in
      let still : drop (place + 1) flag ≡ [] = drop_all (place + 1) flag (omega arith) in
      record {
        whole = put_by octets line place bit _ _ within
            (ap (λ l. l ++ (rest frame ++ drop count (flags 239))) past
            ∙ ap (λ l. l ++ drop count (flags 239)) next
            ∙ ap (λ l. bit ∷ (l ++ (rest following ++ drop count (flags 239)))) (sym still)) h.whole;
        few = omega (arith, h.few);
        over = λ some. let clash : bit ∷ rest following ≡ [] = sym next ∙ (h.over some).1 in absurd (cc);
      }

  -- a bit of the flags after it
  pub put_flags : 8 ≤ place → place < 1912 → rest frame ≡ []
      → HasPut octets (set line place (get_or flag (count % 8) false)) (place + 1) frame (count + 1)
  put_flags later below over =
      let past : drop place flag ≡ [] = drop_all place flag later in
      let still : drop (place + 1) flag ≡ [] = drop_all (place + 1) flag (omega arith) in
      let bit : Bool = get_or flag (count % 8) false in
      let few = h.few in
      let inside : count < length (flags 239) = omega (arith, length-flags 239) in
      let cut : drop count (flags 239) ≡ bit ∷ drop (count + 1) (flags 239) = drop-cons (flags 239) count false inside
      ∙ ap (λ n. get_or (flags 239) count false ∷ drop n (flags 239)) (sym (add-one count))
      ∙ ap (λ x. x ∷ drop (count + 1) (flags 239)) (flags-at 239 count (omega arith)) in
      record {
        whole = put_by octets line place bit _ _ within
            (ap (λ l. l ++ (rest frame ++ drop count (flags 239))) past
            ∙ ap (λ l. l ++ drop count (flags 239)) over ∙ cut
            ∙ ap (λ l. bit ∷ (l ++ drop (count + 1) (flags 239))) (sym over)
            ∙ ap (λ l. bit ∷ (l ++ (rest frame ++ drop (count + 1) (flags 239)))) (sym still)) h.whole;
        few = omega arith;
        over = λ _. (omega arith, over);
      }

-- all of them were put
pub all_put : (octets : List ℕ) (line : List Bool) (frame : StuffedBits) (count : ℕ) → length line ≡ 1912
    → HasPut octets line 1912 frame count → line ≡ take 1912 (padded octets 239)
all_put octets line frame count size put =
    let left : List Bool = drop 1912 flag ++ (stuffed_rest frame octets ++ drop count (flags 239)) in
    let all : take 1912 line ≡ line = take_all 1912 line (omega (arith, size)) in
    sym (ap (take 1912) (sym put.whole) ∙ ap (λ l. take 1912 (l ++ left)) all
    ∙ ap (λ n. take n (line ++ left)) (sym size) ∙ take-append_seam line left)

-- ---- the tag of a frame, and its block

pub last_tag_of : (checks needed tag : ℕ) → IsTagFor checks needed tag → last_tag checks needed 11 ≡ Some tag
last_tag_of checks needed tag h = of_found (last_tag checks needed 11) (last_tag_is checks needed 11)
  where
    of_found : (found : Option ℕ) → IsLast checks needed 11 found → found ≡ Some tag
    of_found None none = absurd (none tag h.is_tag.0 h.is_tag.1 h.checks_are h.fits)
    of_found (Some other) is = ap Some (one_tag checks needed other tag (is_tag_for checks needed other is) h)

pub no_last_tag : (checks needed : ℕ) → FitsNoTag checks needed → last_tag checks needed 11 ≡ None
no_last_tag checks needed none = of_found (last_tag checks needed 11) (last_tag_is checks needed 11)
  where
    of_found : (found : Option ℕ) → IsLast checks needed 11 found → found ≡ None
    of_found None is = refl
    of_found (Some other) is =
        let found = is_tag_for checks needed other is in
        absurd (none other found.is_tag found.checks_are found.fits)

-- the first bits of the line are those of the data
pub data_of_line : (checks tag : ℕ) (octets : List ℕ) → IsTagFor checks (bits_needed octets) tag
    → take (8 * data_count tag) (take 1912 (padded octets 239)) ≡ data_bits tag octets
unfolding data_bits
data_of_line checks tag octets found =
    let most = most_data tag found.is_tag in
    take-take (8 * data_count tag) 1912 (padded octets 239) (omega arith) ∙ padded_front octets (data_count tag) 239 most

-- there is one block that carries them
pub made_block : (checks tag : ℕ) (octets block : List ℕ) → IsTagFor checks (bits_needed octets) tag
    → Carries tag (data_bits tag octets) block → block ≡ block_octets tag octets
made_block checks tag octets block found carries =
    one_block_of tag octets block (block_octets tag octets) found.is_tag (record {
      fits = found.fits;
      size = carries.size;
      octets = carries.octets;
      carried = carries.carried;
      codeword = carries.codeword;
    })
    (block_is checks tag octets found)
