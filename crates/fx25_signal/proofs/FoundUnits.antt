-- A unit that comes in samples is heard, plainly or out of its block, where it was sent.
use Rattle.fx25_signal.proofs.Common.{◌≡◌, ℕ, zero, suc, ◌+◌, ◌-◌, ◌*◌, ◌/◌, ◌%◌, ◌<◌, ◌≤◌, Bool, ℤ, List, ◌++◌}
use Rattle.fx25_signal.proofs.Common.{length, take, drop, ap, sym, ◌∙◌, subst, refl, arith, inl, inr, length-append}
use Rattle.fx25_signal.proofs.Common.{Heard, IsHeard, Comes, SentUnit, bits_at, bits_in_unit, bits_to_frame}
use Rattle.fx25_signal.proofs.Common.{frame_end, unit_end}
use Rattle.std.proofs.Math.Seq.{take-add}
use Rattle.std.proofs.lemmas.List.{length-drop, length-take}
use Rattle.hdlc_framer.specs.BitOrder.{sent_bits}
use Rattle.hdlc_framer.specs.Frames.{IsFrame, frame_bits}
use Rattle.hdlc_framer.specs.Stuffing.{flag}
use Rattle.hdlc_framer.proofs.BitLemmas.{length-sent_bits}
use Rattle.offset_slicers.specs.Windows.{bits}
use Rattle.fx25_blocks.specs.BlockEnds.{EndsBlock}
use Rattle.fx25_blocks.specs.Blocks.{bits_needed}
use Rattle.fx25_blocks.specs.Tags.{IsTag, block_length}
use Rattle.fx25_blocks.proofs.BlockLaws.{heard_block}
use Rattle.fx25_receiver.proofs.TakenLemmas.{EndsAsItCame, heard_as_it_came}
use Rattle.fx25_signal.specs.Units.{ComesInBlock, ComesPlainly}

-- an item that is heard of a unit, with its frame's octets and exactly at its ends
pub record IsFound (x : List ℤ) (unit : SentUnit) : Type 0 where
  pub item : Heard
  pub heard : IsHeard x item
  pub octets : item.octets ≡ unit.octets
  pub at : item.at ≡ frame_end unit
  pub end : item.end ≡ unit_end unit

-- so many bits from one on are those after the first ones
front_and_unit : (q n : ℕ) (all came : List Bool) → 0 < n → came ≡ take n (drop q all) → length came ≡ n
    → (q + n ≤ length all) × (take (q + n) all ≡ take q all ++ came)
front_and_unit q n all came some is size =
    let taken = ap length is in
    let few = length-take n (drop q all) in
    let left = length-drop q all in
    (omega arith, take-add q n all ∙ ap (λ u. take q all ++ u) (sym is))

-- what ends with the last bit of a unit is heard
module _ (x : List ℤ) (unit : SentUnit) (n : ℕ) (some : 0 < n) (n_is : n ≡ bits_in_unit unit.tag unit.octets) where
  abbrev lane : ℕ
  lane = unit.begin % 8

  abbrev q : ℕ
  q = unit.begin / 8

  heard_at : (tag at : ℕ) (came : List Bool) → came ≡ bits_at x unit → length came ≡ n
      → EndsAsItCame (take q (bits lane x) ++ came)
      (record { end = unit.begin + 8 * n; lane = lane; tag = tag; octets = unit.octets; at = at })
      → IsHeard x (record { end = unit.begin + 8 * n; lane = lane; tag = tag; octets = unit.octets; at = at })
  heard_at tag at came is size ends =
      let all : List Bool = bits (unit.begin % 8) x in
      let here : came ≡ take n (drop (unit.begin / 8) all) =
      is ∙ ap (λ m. take m (drop (unit.begin / 8) all)) (sym n_is) in
      let parts = front_and_unit (unit.begin / 8) n all came some here size in
      let within = parts.0 in
      let index : ℕ = unit.begin / 8 + n - 1 in
      let next : unit.begin / 8 + n ≡ index + 1 = omega arith in
      let item : Heard = record {
        end = unit.begin + 8 * n;
        lane = unit.begin % 8;
        tag = tag;
        octets = unit.octets;
        at = at;
      } in
      heard_as_it_came x item index (omega arith) (omega arith) (omega arith)
      (subst (λ b. EndsAsItCame b item) (sym parts.1 ∙ ap (λ m. take m all) next) ends)

plain_found : (x : List ℤ) (unit : SentUnit) → IsFrame unit.octets → ComesPlainly unit (bits_at x unit)
    → IsFound x unit
plain_found x unit fits (none, is) =
    let n : ℕ = bits_needed unit.octets in
    let came : List Bool = flag ++ (frame_bits unit.octets ++ flag) in
    let size : length came ≡ n = omega (
      arith,
      length-append flag (frame_bits unit.octets ++ flag),
      length-append (frame_bits unit.octets) flag,
    ) in
    let n_is : n ≡ bits_in_unit unit.tag unit.octets = ap (λ t. bits_in_unit t unit.octets) (sym none) in
    let end : ℕ = unit.begin + 8 * n in
    record {
      item = record { end = end; lane = unit.begin % 8; tag = 0; octets = unit.octets; at = end };
      heard = heard_at x unit n (omega arith) n_is 0 end came (sym is) size
          (inl (refl, refl, (take (unit.begin / 8) (bits (unit.begin % 8) x), refl, fits)));
      octets = refl;
      at = ap (λ t. unit.begin + 8 * bits_to_frame t unit.octets) (sym none);
      end = ap (λ m. unit.begin + 8 * m) n_is;
    }

-- how many bits a block has after which its frame is over, and in all
pub block_to_frame : (tag : ℕ) (octets : List ℕ) → IsTag tag → bits_to_frame tag octets ≡ 64 + bits_needed octets
block_to_frame zero octets is_tag = let least = is_tag.0 in absurd (omega arith)
block_to_frame (suc tag) octets is_tag = refl

pub block_in_unit : (tag : ℕ) (octets : List ℕ) → IsTag tag → bits_in_unit tag octets ≡ 64 + 8 * block_length tag
block_in_unit zero octets is_tag = let least = is_tag.0 in absurd (omega arith)
block_in_unit (suc tag) octets is_tag = refl

block_found : (x : List ℤ) (unit : SentUnit) → IsFrame unit.octets → ComesInBlock unit (bits_at x unit)
    → IsFound x unit
block_found x unit fits came =
    let n : ℕ = 64 + 8 * block_length unit.tag in
    let over : ℕ = bits_needed unit.octets in
    let heard : List Bool = came.heard in
    let bits_came : List Bool = heard ++ sent_bits came.word in
    let size : length bits_came ≡ n = omega (
      arith,
      length-append heard (sent_bits came.word),
      length-sent_bits came.word,
      came.near_tag.size,
      came.size,
      came.block_of.size,
    ) in
    let n_is : n ≡ bits_in_unit unit.tag unit.octets = sym (block_in_unit unit.tag unit.octets came.is_tag) in
    let before : List Bool = take (unit.begin / 8) (bits (unit.begin % 8) x) in
    let ends : EndsBlock (before ++ bits_came) unit.tag unit.octets over =
    heard_block before heard came.word unit.tag unit.octets came.block came.is_tag fits came.block_of came.near_tag
    came.octets came.size came.few_wrong in
    let at : ℕ = unit.begin + 8 * (64 + over) in
    let placed : at + 8 * (8 * block_length unit.tag) ≡ unit.begin + 8 * n + 8 * over = omega arith in
    record {
      item = record { end = unit.begin + 8 * n; lane = unit.begin % 8; tag = unit.tag; octets = unit.octets; at = at };
      heard = heard_at x unit n (omega arith) n_is unit.tag at bits_came (sym came.bits_are) size
          (inr (over, ends, placed));
      octets = refl;
      at = ap (λ m. unit.begin + 8 * m) (sym (block_to_frame unit.tag unit.octets came.is_tag));
      end = ap (λ m. unit.begin + 8 * m) n_is;
    }

pub found : (x : List ℤ) (unit : SentUnit) → Comes x unit → IsFound x unit
found x unit comes = elim comes.comes [
  | inl plain ↦ plain_found x unit comes.is_frame plain
  | inr block ↦ block_found x unit comes.is_frame block
]
