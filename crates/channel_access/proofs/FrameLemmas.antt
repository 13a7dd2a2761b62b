-- The bits of a frame, one at a time.
use Rattle.channel_access.proofs.Common.{◌≡◌, ℕ, zero, suc, ◌+◌, ◌*◌, ◌/◌, ◌%◌, ◌^◌, ◌<◌, ◌≤◌, Bool, true, false, eqb}
use Rattle.channel_access.proofs.Common.{bit_and, List, [], ◌∷◌, length, get_or, refl, ap, ◌∙◌, sym, inl, inr, cond}
use Rattle.channel_access.proofs.Common.{leb, ltb, drop, Option, Some, None, subst, arith, length-append, add-one, cases_Bool, cond-true}
use Rattle.channel_access.proofs.Common.{cond-false, le-leb, lt-leb, lt-ltb, leb-true, leb-false, nat_tests, octet_bits}
use Rattle.channel_access.proofs.Common.{sent_bits, length-sent_bits, frame_bits, with_fcs, stuffed_is, FrameBits}
use Rattle.channel_access.proofs.Common.{checked, frame_start, frame_over, frame_rest, stuffed_rest, block_rest, Modem}
use Rattle.channel_access.proofs.Common.{Bell202, ShortWave, Fx25, piece, tagged, count_of, Stuffed, Block, StuffedBits}
use Rattle.channel_access.proofs.Common.{BlockBits, ◌++◌, ◌-◌, replicate, take, flat_map-append}
use Rattle.std.specs.Prelude.{option_map}
use Rattle.std.proofs.Math.Seq.{take-append_seam}
use Rattle.fx25_blocks.specs.Blocks.{bits_needed}
use Rattle.fx25_blocks.specs.Tags.{IsTag, bits_of_64, block_length, tag_bits, tag_value}
use Rattle.fx25_blocks.proofs.TagDistance.{length-bits_of_64}
use Rattle.fx25_sender.specs.Units.{last_tag, block_octets}
use Rattle.fx25_sender.proofs.TagLemmas.{IsLast, is_tag_for, last_tag_is}
use Rattle.fx25_sender.proofs.UnitLemmas.{block_is}
use Rattle.std.proofs.Math.Seq.{drop-cons}
use Rattle.std.proofs.lemmas.List.{drop_all, get_or_append_left, get_or-append_right}
use Rattle.std.proofs.lemmas.Bool.{agree_below_at, le-ltb, true≢false}
use Rattle.std.proofs.lemmas.Nat.{and_mask, shr-shr}
use Rattle.hdlc_framer.specs.BitOrder.{low_bits}
use Rattle.hdlc_framer.proofs.BitLemmas.{length-octet_bits}
use Rattle.channel_access.specs.Held.{bits_in, bit_count, after_place, next_in_frame, next_stuffed, stuffed_over}
use Rattle.channel_access.specs.Held.{stuffed_start, next_in_block, block_bits, block_over, block_start, tagged_start, tag_octets, unit_octets}
use Rattle.channel_access.specs.StandsFor.{rest_after}

low_bits-at : (count n k : ℕ) → k < count → get_or (low_bits count n) k false ≡ eqb (n / 2 ^ k % 2) 1
low_bits-at zero n k below = absurd (omega arith)
low_bits-at (suc count) n zero below = ap (λ m. eqb (m % 2) 1) (omega arith)
low_bits-at (suc count) n (suc k) below =
    low_bits-at count (n / 2) k (omega arith)
    ∙ ap (λ m. eqb (m % 2) 1) (shr-shr n 1 k ∙ ap (λ m. n / 2 ^ m) (omega arith))

octet_bits-at : (octet k : ℕ) → k < 8 → get_or (octet_bits octet) k false ≡ eqb (bit_and (octet / 2 ^ k) 1) 1
unfolding octet_bits
octet_bits-at octet k below = low_bits-at 8 octet k below ∙ ap (λ m. eqb m 1) (sym (and_mask (octet / 2 ^ k) 1))

-- bit k of octet i stands at 8 * i + k
pub sent_bits-at : (octets : List ℕ) (i k : ℕ) → i < length octets → k < 8
    → get_or (sent_bits octets) (8 * i + k) false ≡ eqb (bit_and (get_or octets i 0 / 2 ^ k) 1) 1
sent_bits-at [] i k below low = absurd (omega arith)
sent_bits-at (octet ∷ octets) zero k below low =
    let within : k < length (octet_bits octet) = omega (arith, length-octet_bits octet) in
    ap (λ m. get_or (sent_bits (octet ∷ octets)) m false) (omega arith)
    ∙ get_or_append_left (octet_bits octet) (sent_bits octets) false k within ∙ octet_bits-at octet k low
sent_bits-at (octet ∷ octets) (suc i) k below low =
    let following : 8 ≤ 8 * suc i + k = omega arith in
    get_or-append_right (octet_bits octet) (sent_bits octets) 8 (8 * suc i + k) false (length-octet_bits octet) following
    ∙ ap (λ m. get_or (sent_bits octets) m false) (omega arith) ∙ sent_bits-at octets i k (omega arith) low

-- the bit at a place of a frame
pub bits_in-at : (octets : List ℕ) (check place : ℕ) → place < 8 * (length octets + 2)
    → get_or (bits_in octets check) place false
    ≡ eqb (bit_and (get_or (checked octets check) (place / 8) 0 / 2 ^ (place % 8)) 1) 1
unfolding bits_in
bits_in-at octets check place below =
    let within : place / 8 < length (checked octets check) =
    omega (arith, length-append octets ((check % 256) ∷ (check / 256) ∷ [])) in
    ap (λ m. get_or (sent_bits (checked octets check)) m false) (omega arith)
    ∙ sent_bits-at (checked octets check) (place / 8) (place % 8) within (omega arith)

-- ---- what is left of a frame that comes plainly

-- at the first bit all of it is
pub stuffed_rest-start : (octets : List ℕ) → stuffed_rest (stuffed_start octets) octets ≡ frame_bits octets
unfolding stuffed_rest bits_in frame_bits with_fcs
stuffed_rest-start octets = sym (stuffed_is (sent_bits (with_fcs octets)))

-- a bit that is no inserted zero
rest_after-cons : (ones : ℕ) (bit : Bool) (bits : List Bool) → ones < 5
    → rest_after ones (bit ∷ bits) ≡ bit ∷ rest_after (cond bit (ones + 1) 0) bits
rest_after-cons zero true bits below = refl
rest_after-cons zero false bits below = refl
rest_after-cons (suc zero) true bits below = refl
rest_after-cons (suc zero) false bits below = refl
rest_after-cons (suc (suc zero)) true bits below = refl
rest_after-cons (suc (suc zero)) false bits below = refl
rest_after-cons (suc (suc (suc zero))) true bits below = refl
rest_after-cons (suc (suc (suc zero))) false bits below = refl
rest_after-cons (suc (suc (suc (suc zero)))) true bits below = refl
rest_after-cons (suc (suc (suc (suc zero)))) false bits below = refl
rest_after-cons (suc (suc (suc (suc (suc ones))))) bit bits below = absurd (omega arith)

length-bits_in : (octets : List ℕ) (check : ℕ) → length (bits_in octets check) ≡ 8 * (length octets + 2)
unfolding bits_in
length-bits_in octets check =
    omega (arith, length-sent_bits (checked octets check), length-append octets ((check % 256) ∷ (check / 256) ∷ []))

-- a frame that is not over gives its next bit
pub record NextStuffed (f : StuffedBits) (octets : List ℕ) : Type 0 where
  pub bit : Bool
  pub following : StuffedBits
  pub given : next_stuffed f octets ≡ Some (bit, following)
  pub rest : stuffed_rest f octets ≡ bit ∷ stuffed_rest following octets

zero_next : (f : StuffedBits) (octets : List ℕ) → 5 ≤ f.ones → NextStuffed f octets
unfolding stuffed_rest
zero_next f octets five =
    let test : leb 5 f.ones ≡ true = le-leb 5 f.ones five in
    record {
      bit = false;
      following = record f { ones = 0 };
      given = cond-true (leb 5 f.ones) _ _ test;
      rest = cond-true (leb 5 f.ones) _ _ test;
    }

bit_next : (f : StuffedBits) (octets : List ℕ) → f.ones < 5 → f.place < bit_count octets → NextStuffed f octets
unfolding stuffed_rest
bit_next f octets few within =
    let test : leb 5 f.ones ≡ false = lt-leb 5 f.ones few in
    let inside : ltb f.place (bit_count octets) ≡ true = lt-ltb f.place (bit_count octets) within in
    let bits = bits_in octets f.check in
    let bit = get_or bits f.place false in
    let below : f.place < length bits = omega (arith, length-bits_in octets f.check) in
    let cut : drop f.place bits ≡ bit ∷ drop (f.place + 1) bits =
    drop-cons bits f.place false below ∙ ap (λ n. bit ∷ drop n bits) (sym (add-one f.place)) in
    record {
      bit = bit;
      following = after_place f bit;
      given = cond-false (leb 5 f.ones) _ _ test ∙ cond-true (ltb f.place (bit_count octets)) _ _ inside;
      rest = ap (rest_after f.ones) cut ∙ rest_after-cons f.ones bit (drop (f.place + 1) bits) few;
    }

pub stuffed_given : (f : StuffedBits) (octets : List ℕ) → stuffed_over f octets ≡ false → NextStuffed f octets
stuffed_given f octets going =
    elim (cases_Bool (leb 5 f.ones)) [
      | inl five ↦ zero_next f octets (leb-true 5 f.ones five)
      | inr few ↦
          let below : f.ones < 5 = leb-false 5 f.ones few in
          let within : f.place < bit_count octets = grind (arith, nat_tests) in
          bit_next f octets below within
    ]

-- nothing is left of a frame that is over
pub stuffed_rest-over : (f : StuffedBits) (octets : List ℕ) → stuffed_over f octets ≡ true → stuffed_rest f octets ≡ []
unfolding stuffed_rest
stuffed_rest-over f octets over =
    let few : f.ones < 5 = grind (arith, nat_tests) in
    let following : bit_count octets ≤ f.place = grind (arith, nat_tests) in
    let none : drop f.place (bits_in octets f.check) ≡ [] =
    drop_all f.place (bits_in octets f.check) (omega (arith, length-bits_in octets f.check)) in
    ap (rest_after f.ones) none ∙ cond-false (leb 5 f.ones) _ _ (lt-leb 5 f.ones few)

-- a frame that is over gives none
stuffed_none : (f : StuffedBits) (octets : List ℕ) → stuffed_over f octets ≡ true → next_stuffed f octets ≡ None
stuffed_none f octets over =
    let few : f.ones < 5 = grind (arith, nat_tests) in
    let following : bit_count octets ≤ f.place = grind (arith, nat_tests) in
    cond-false (leb 5 f.ones) _ _ (lt-leb 5 f.ones few)
    ∙ cond-false (ltb f.place (bit_count octets)) _ _ (le-ltb f.place (bit_count octets) following)

none_is_some : {A : Type 0} (given : Bool × StuffedBits) → None ≡ Some given → A
none_is_some given e = absurd cc

-- what comes next is the first of what is left
pub stuffed_after : (f following : StuffedBits) (octets : List ℕ) (bit : Bool) → next_stuffed f octets ≡ Some (bit, following)
    → stuffed_rest f octets ≡ bit ∷ stuffed_rest following octets
stuffed_after f following octets bit is =
    elim (cases_Bool (stuffed_over f octets)) [
      | inl over ↦ none_is_some (bit, following) (sym (stuffed_none f octets over) ∙ is)
      | inr going ↦
          let next = stuffed_given f octets going in
          let P : Option (Bool × StuffedBits) → Type 0 = λ o. is_given o in
          subst P (sym next.given ∙ is) next.rest
    ]
  where
    is_given : Option (Bool × StuffedBits) → Type 0
    is_given None = Unit {0}
    is_given (Some given) = stuffed_rest f octets ≡ given.0 ∷ stuffed_rest given.1 octets

pub stuffed_none_left : (f : StuffedBits) (octets : List ℕ) → next_stuffed f octets ≡ None → stuffed_rest f octets ≡ []
stuffed_none_left f octets is =
    elim (cases_Bool (stuffed_over f octets)) [
      | inl over ↦ stuffed_rest-over f octets over
      | inr going ↦
          let next = stuffed_given f octets going in
          none_is_some (next.bit, next.following) (sym is ∙ next.given)
    ]

-- ---- what is left of a tag and a block

-- a block that is not over gives its next bit
record NextInBlock (b : BlockBits) : Type 0 where
  pub bit : Bool
  pub following : BlockBits
  pub given : next_in_block b ≡ Some (bit, following)
  pub rest : block_rest b ≡ bit ∷ block_rest following

block_given : (b : BlockBits) → block_over b ≡ false → NextInBlock b
unfolding block_rest block_bits
block_given b going =
    let within : b.place < length (block_bits b) = leb-false (length (block_bits b)) b.place going in
    let bit = get_or (block_bits b) b.place false in
    record {
      bit = bit;
      following = record b { place = b.place + 1 };
      given = cond-true (ltb b.place (length (block_bits b))) _ _ (lt-ltb b.place (length (block_bits b)) within);
      rest = drop-cons (block_bits b) b.place false within
          ∙ ap (λ n. bit ∷ drop n (block_bits b)) (sym (add-one b.place));
    }

block_rest-over : (b : BlockBits) → block_over b ≡ true → block_rest b ≡ []
unfolding block_rest
block_rest-over b over =
    drop_all b.place (block_bits b) (leb-true (length (block_bits b)) b.place over)

block_none : (b : BlockBits) → block_over b ≡ true → next_in_block b ≡ None
block_none b over =
    cond-false (ltb b.place (length (block_bits b))) _ _
    (le-ltb b.place (length (block_bits b)) (leb-true (length (block_bits b)) b.place over))

abbrev same_bits : List Bool → List Bool → Bool
same_bits [] [] = true
same_bits (true ∷ xs) (true ∷ ys) = same_bits xs ys
same_bits (false ∷ xs) (false ∷ ys) = same_bits xs ys
same_bits _ _ = false

same_bits-true : (xs ys : List Bool) → same_bits xs ys ≡ true → xs ≡ ys
same_bits-true [] [] is = refl
same_bits-true [] (y ∷ ys) is = absurd (true≢false (sym is))
same_bits-true (true ∷ xs) [] is = absurd (true≢false (sym is))
same_bits-true (false ∷ xs) [] is = absurd (true≢false (sym is))
same_bits-true (true ∷ xs) (true ∷ ys) is = ap (λ l. true ∷ l) (same_bits-true xs ys is)
same_bits-true (true ∷ xs) (false ∷ ys) is = absurd (true≢false (sym is))
same_bits-true (false ∷ xs) (true ∷ ys) is = absurd (true≢false (sym is))
same_bits-true (false ∷ xs) (false ∷ ys) is = ap (λ l. false ∷ l) (same_bits-true xs ys is)

-- the bits of a tag are those of its octets, by computation for each
tag_octets-sent : (tag : ℕ) → IsTag tag → sent_bits (tag_octets tag) ≡ tag_bits tag
unfolding tag_value bits_of_64 octet_bits
tag_octets-sent tag is_tag =
    let most = is_tag.1 in
    same_bits-true (sent_bits (tag_octets tag)) (tag_bits tag)
    (agree_below_at (λ j. same_bits (sent_bits (tag_octets j)) (tag_bits j)) (λ _. true) 12 tag refl (omega arith))

unit_octets-sent : (tag : ℕ) (octets : List ℕ) → IsTag tag
    → sent_bits (unit_octets tag octets) ≡ tag_bits tag ++ sent_bits (block_octets tag octets)
unfolding unit_octets
unit_octets-sent tag octets is_tag =
    flat_map-append octet_bits (tag_octets tag) (block_octets tag octets)
    ∙ ap (λ bits. bits ++ sent_bits (block_octets tag octets)) (tag_octets-sent tag is_tag)

block_rest-start : (tag : ℕ) (octets : List ℕ) → IsTag tag → length (block_octets tag octets) ≡ block_length tag
    → block_rest (block_start tag octets) ≡ tag_bits tag ++ sent_bits (block_octets tag octets)
unfolding block_rest block_bits
block_rest-start tag octets is_tag size =
    let whole = unit_octets-sent tag octets is_tag in
    let zeros : List ℕ = replicate (263 - length (unit_octets tag octets)) 0 in
    let count : length (sent_bits (unit_octets tag octets)) ≡ 8 * (8 + block_length tag) = omega (
      arith,
      ap length whole,
      length-append (tag_bits tag) (sent_bits (block_octets tag octets)),
      length-bits_of_64 (tag_value tag),
      length-sent_bits (block_octets tag octets),
      size,
    ) in
    ap (take (8 * (8 + block_length tag))) (flat_map-append octet_bits (unit_octets tag octets) zeros)
    ∙ ap (λ n. take n (sent_bits (unit_octets tag octets) ++ sent_bits zeros)) (sym count)
    ∙ take-append_seam (sent_bits (unit_octets tag octets)) (sent_bits zeros) ∙ whole

-- ---- what is left of what stands for a frame

rest-tagged : (checks : ℕ) (found : Option ℕ) (octets : List ℕ) → IsLast checks (bits_needed octets) 11 found
    → frame_rest (tagged_start found octets) octets ≡ tagged found octets
rest-tagged checks None octets is = stuffed_rest-start octets
rest-tagged checks (Some tag) octets is =
    let tag_for = is_tag_for checks (bits_needed octets) tag is in
    block_rest-start tag octets tag_for.is_tag (block_is checks tag octets tag_for).size

-- at the first bit all of it is
pub frame_rest-start : (modem : Modem) (octets : List ℕ)
    → frame_rest (frame_start modem octets) octets ≡ piece modem octets
unfolding piece
frame_rest-start Bell202 octets = stuffed_rest-start octets
frame_rest-start ShortWave octets = stuffed_rest-start octets
frame_rest-start (Fx25 checks) octets =
    rest-tagged (count_of checks) (last_tag (count_of checks) (bits_needed octets) 11) octets
    (last_tag_is (count_of checks) (bits_needed octets) 11)

-- what is not over gives its next bit
pub record NextInFrame (f : FrameBits) (octets : List ℕ) : Type 0 where
  pub bit : Bool
  pub following : FrameBits
  pub given : next_in_frame f octets ≡ Some (bit, following)
  pub rest : frame_rest f octets ≡ bit ∷ frame_rest following octets

pub next_given : (f : FrameBits) (octets : List ℕ) → frame_over f octets ≡ false → NextInFrame f octets
next_given (Stuffed s) octets going =
    let next = stuffed_given s octets going in
    record {
      bit = next.bit;
      following = Stuffed next.following;
      given = ap (option_map (λ (given : Bool × StuffedBits). (given.0, Stuffed given.1))) next.given;
      rest = next.rest;
    }
next_given (Block b) octets going =
    let next = block_given b going in
    record {
      bit = next.bit;
      following = Block next.following;
      given = ap (option_map (λ (given : Bool × BlockBits). (given.0, Block given.1))) next.given;
      rest = next.rest;
    }

-- nothing is left of what is over
pub frame_rest-over : (f : FrameBits) (octets : List ℕ) → frame_over f octets ≡ true → frame_rest f octets ≡ []
frame_rest-over (Stuffed s) octets over = stuffed_rest-over s octets over
frame_rest-over (Block b) octets over = block_rest-over b over

over_none : (f : FrameBits) (octets : List ℕ) → frame_over f octets ≡ true → next_in_frame f octets ≡ None
over_none (Stuffed s) octets over =
    ap (option_map (λ (given : Bool × StuffedBits). (given.0, Stuffed given.1))) (stuffed_none s octets over)
over_none (Block b) octets over =
    ap (option_map (λ (given : Bool × BlockBits). (given.0, Block given.1))) (block_none b over)

-- ---- how many bits are left

none_some : {A X : Type 0} (x : Option A) (a : A) → x ≡ None → x ≡ Some a → X
none_some None a none some = absurd cc
none_some (Some b) a none some = absurd cc

-- one fewer with each bit
pub fewer_left : (f following : FrameBits) (octets : List ℕ) (bit : Bool) → next_in_frame f octets ≡ Some (bit, following)
    → length (frame_rest f octets) ≡ length (frame_rest following octets) + 1
fewer_left f following octets bit is =
    elim (cases_Bool (frame_over f octets)) [
      | inl over ↦ none_some (next_in_frame f octets) (bit, following) (over_none f octets over) is
      | inr going ↦
          let next = next_given f octets going in
          let P : Option (Bool × FrameBits) → Type 0 = λ o. is_following o ≡ next.following in
          let same : following ≡ next.following = subst P (sym next.given ∙ is) refl in
          omega (arith, ap length next.rest, ap (λ b. length (frame_rest b octets)) same)
    ]
  where
    -- where the frame stands after a bit
    is_following : Option (Bool × FrameBits) → FrameBits
    is_following None = f
    is_following (Some given) = given.1

pub none_left : (f : FrameBits) (octets : List ℕ) → next_in_frame f octets ≡ None
    → length (frame_rest f octets) ≡ 0
none_left f octets is =
    elim (cases_Bool (frame_over f octets)) [
      | inl over ↦ ap length (frame_rest-over f octets over)
      | inr going ↦
          let next = next_given f octets going in
          none_some (next_in_frame f octets) (next.bit, next.following) is next.given
    ]

-- some are left exactly if it is not over
pub some_left : (f : FrameBits) (octets : List ℕ) → frame_over f octets ≡ leb (length (frame_rest f octets)) 0
some_left f octets =
    elim (cases_Bool (frame_over f octets)) [
      | inl over ↦
          over ∙ sym (le-leb (length (frame_rest f octets)) 0
          (omega (arith, ap length (frame_rest-over f octets over))))
      | inr going ↦
          let next = next_given f octets going in
          going ∙ sym (lt-leb (length (frame_rest f octets)) 0 (omega (arith, ap length next.rest)))
    ]

-- after so many bits as there may be, none is left exactly if there were no more
pub all_counted : (count most left whole : ℕ) → count ≡ most → count + left ≡ whole → leb left 0 ≡ leb whole most
all_counted count most left whole all is =
    elim (cases_Bool (leb left 0)) [
      | inl none ↦ none ∙ sym (le-leb whole most (omega (arith, leb-true left 0 none)))
      | inr some ↦ some ∙ sym (lt-leb whole most (omega (arith, leb-false left 0 some)))
    ]
