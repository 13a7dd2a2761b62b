-- The bits of a unit as FX.25 sends it: how many they are, and that the unit comes in them.
use Rattle.fx25_signal.proofs.Common.{◌≡◌, ℕ, ◌+◌, ◌*◌, Bool, true, false, List, [], ◌∷◌, ◌++◌, length, refl, ap, sym, ◌∙◌, subst, arith, inl}
use Rattle.fx25_signal.proofs.Common.{inr, ◌⊎◌, length-append, Comes, SentUnit, bits_at, bits_in_unit}
use Rattle.fx25_signal.proofs.Common.{ℤ}
use Rattle.std.specs.Prelude.{Option, Some, None}
use Rattle.hdlc_framer.specs.BitOrder.{sent_bits}
use Rattle.hdlc_framer.specs.Frames.{frame_bits}
use Rattle.hdlc_framer.specs.Stuffing.{flag}
use Rattle.hdlc_framer.proofs.BitLemmas.{length-sent_bits}
use Rattle.reed_solomon.proofs.DistanceLemmas.{distance-refl}
use Rattle.fx25_blocks.specs.Blocks.{IsBlockOf, bits_needed}
use Rattle.fx25_blocks.specs.Tags.{block_length, differing, tag_bits}
use Rattle.fx25_blocks.specs.Units.{IsUnit}
use Rattle.fx25_blocks.specs.Units.IsUnit.{in_block, plain}
use Rattle.fx25_blocks.proofs.TagDistance.{length-tag_bits}
use Rattle.fx25_sender.specs.Units.{last_tag, unit}
use Rattle.fx25_sender.proofs.TagLemmas.{IsLast, is_tag_for, last_tag_is, one_tag}
use Rattle.fx25_sender.proofs.UnitLemmas.{unit_is}
use Rattle.fx25_signal.specs.Damage.{ComesRight, IsSentBlock}
use Rattle.fx25_signal.specs.NearSignal.{number_of, tag_of}
use Rattle.fx25_signal.specs.Units.{ComesInBlock, ComesPlainly}
use Rattle.fx25_signal.proofs.FoundUnits.{block_in_unit}

-- the bits with the tag that is chosen for a frame, which is 0 if it goes plainly
abbrev pub IsSent : ℕ → List ℕ → List Bool → Type 0
IsSent tag octets bits =
    ((tag ≡ 0) × (bits ≡ flag ++ (frame_bits octets ++ flag))) ⊎ IsSentBlock tag octets bits

sent_by : (checks : ℕ) (octets : List ℕ) (bits : List Bool) (found : Option ℕ)
    → IsLast checks (bits_needed octets) 11 found → IsUnit checks octets bits → IsSent (number_of found) octets bits
sent_by checks octets bits None none (plain fits is) = inl (refl, is)
sent_by checks octets bits None none (in_block b) =
    absurd (none b.tag b.tag_for.is_tag.0 b.tag_for.is_tag.1 b.tag_for.checks_are b.tag_for.fits)
sent_by checks octets bits (Some tag) is (plain fits_none _) =
    let for = is_tag_for checks (bits_needed octets) tag is in
    absurd (fits_none tag for.is_tag for.checks_are for.fits)
sent_by checks octets bits (Some tag) is (in_block b) =
    let for = is_tag_for checks (bits_needed octets) tag is in
    let same : b.tag ≡ tag = one_tag checks (bits_needed octets) b.tag tag b.tag_for for in
    inr (record {
      is_tag = for.is_tag;
      block = b.block;
      block_of = subst (λ t. IsBlockOf t octets b.block) same b.block_of;
      bits_are = b.bits_are ∙ ap (λ t. tag_bits t ++ sent_bits b.block) same;
    })

pub unit_sent : (checks : ℕ) (octets : List ℕ) → IsSent (tag_of checks octets) octets (unit checks octets)
unit_sent checks octets =
    sent_by checks octets (unit checks octets) (last_tag checks (bits_needed octets) 11)
    (last_tag_is checks (bits_needed octets) 11) (unit_is checks octets)

pub length-sent : (tag : ℕ) (octets : List ℕ) (bits : List Bool) → IsSent tag octets bits
    → length bits ≡ bits_in_unit tag octets
length-sent tag octets bits (inl (none, is)) =
    let size : length bits ≡ bits_needed octets = omega (
      arith,
      ap length is,
      length-append flag (frame_bits octets ++ flag),
      length-append (frame_bits octets) flag,
    ) in
    size ∙ ap (λ t. bits_in_unit t octets) (sym none)
length-sent tag octets bits (inr b) =
    let size : length bits ≡ 64 + 8 * block_length tag = omega (
      arith,
      ap length b.bits_are,
      length-append (tag_bits tag) (sent_bits b.block),
      length-tag_bits tag,
      length-sent_bits b.block,
      b.block_of.size,
    ) in
    size ∙ sym (block_in_unit tag octets b.is_tag)

-- a list differs from itself nowhere
pub same_differ : (xs : List Bool) → differing xs xs ≡ 0
same_differ [] = refl
same_differ (true ∷ xs) = same_differ xs
same_differ (false ∷ xs) = same_differ xs

-- the unit comes in its bits
pub sent_comes : (unit : SentUnit) (bits : List Bool) → IsSent unit.tag unit.octets bits
    → ComesPlainly unit bits ⊎ ComesInBlock unit bits
sent_comes unit bits (inl plainly) = inl plainly
sent_comes unit bits (inr b) =
    let none_wrong = same_differ (tag_bits unit.tag) in
    let no_octet_wrong = distance-refl b.block in
    inr (record {
      is_tag = b.is_tag;
      heard = tag_bits unit.tag;
      word = b.block;
      block = b.block;
      bits_are = b.bits_are;
      near_tag = record { size = length-tag_bits unit.tag; near = omega arith };
      octets = b.block_of.octets;
      block_of = b.block_of;
      size = refl;
      few_wrong = omega arith;
    })

pub right_comes : (x : List ℤ) (unit : SentUnit) → ComesRight x unit → Comes x unit
right_comes x unit right = record { is_frame = right.is_frame; comes = sent_comes unit (bits_at x unit) (as_sent right.comes) }
  where
    as_sent : ComesPlainly unit (bits_at x unit) ⊎ IsSentBlock unit.tag unit.octets (bits_at x unit)
        → IsSent unit.tag unit.octets (bits_at x unit)
    as_sent (inl plainly) = inl plainly
    as_sent (inr block) = inr block
