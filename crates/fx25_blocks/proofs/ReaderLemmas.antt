-- What a reader keeps after one bit more, and what that tells of blocks.
use Rattle.fx25_blocks.proofs.Common.{◌≡◌, ℕ, ◌+◌, ◌-◌, ◌*◌, ◌%◌, ◌<◌, ◌≤◌, ◌↔◌, min, Bool, false, List, [], ◌∷◌, ◌++◌}
use Rattle.std.proofs.Common.{◌≢◌}
use Rattle.fx25_blocks.proofs.Common.{length, take, drop, get_or, refl, ap, subst, ◌∙◌, sym, inl, inr, arith}
use Rattle.fx25_blocks.proofs.Common.{append_assoc}
use Rattle.fx25_blocks.proofs.Common.{append-nil, length-append, length-drop, length_push, take_all, take_at}
use Rattle.fx25_blocks.proofs.Common.{length-take, take-append-le, true, false≢true}
use Rattle.fx25_blocks.proofs.Common.{drop_at, cases_eq, All, sent_bits, IsTag, IsNearTag, EndsTag, differing, tag_bits}
use Rattle.fx25_blocks.proofs.Common.{bits_of_64, block_length, EndsBlock, CarriesFrame}
use Rattle.std.proofs.Common.{replicate, set, length-set}
use Rattle.std.proofs.Math.Seq.{drop-append-add}
use Rattle.std.proofs.lemmas.List.{take-append-drop, drop-drop, drop-append-le, ext_get_or, get_or-drop}
use Rattle.std.proofs.lemmas.List.{get_or-set_other}
use Rattle.std.proofs.lemmas.List.{get_or-set_same, get_or_append_left, get_or_push}
use Rattle.hdlc_framer.proofs.BitLemmas.{length-sent_bits, same_octets}
use Rattle.fx25_blocks.specs.Held.{HasTag, IsTagAt, Kept, MayEnd, after_zeros}
use Rattle.fx25_blocks.proofs.TagFacts.{most_octets}

pub same_octet_list : (xs ys : List ℕ) → All (λ octet. octet < 256) xs → All (λ octet. octet < 256) ys
    → sent_bits xs ≡ sent_bits ys → xs ≡ ys
same_octet_list xs ys fit also e =
    same_octets xs ys [] [] fit also (omega arith) (omega arith)
    (append-nil (sent_bits xs) ∙ e ∙ sym (append-nil (sent_bits ys)))

-- ---- tags that end with a bit

-- the last 64 bits
pub last_64 : (bits : List Bool) → 64 ≤ length bits → drop (length bits) (after_zeros bits) ≡ drop (length bits - 64) bits
unfolding after_zeros
last_64 bits least =
    let n : ℕ = length bits - 64 in
    let is : length bits ≡ 64 + n = omega arith in
    ap (λ k. drop k (after_zeros bits)) is ∙ drop-append-add (replicate 64 false) bits n

pub tag_told : (bits : List Bool) (tag : ℕ) → EndsTag bits tag
    → (64 ≤ length bits) × (differing (drop (length bits - 64) bits) (tag_bits tag) ≤ 12)
tag_told bits tag ends =
    let size : length bits ≡ length ends.0 + 64 = ap length ends.2 ∙ length-append ends.0 ends.1
    ∙ ap (λ n. length ends.0 + n) ends.3.size in
    let heard : drop (length bits - 64) bits ≡ ends.1 = ap (drop (length bits - 64)) ends.2
    ∙ drop_at ends.0 ends.1 (length bits - 64) (omega arith) in
    (omega arith, subst (λ xs. differing xs (tag_bits tag) ≤ 12) (sym heard) ends.3.near)

pub tag_from : (bits : List Bool) (tag : ℕ) → 64 ≤ length bits
    → differing (drop (length bits - 64) bits) (tag_bits tag) ≤ 12 → EndsTag bits tag
tag_from bits tag least near =
    let n : ℕ = length bits - 64 in (
      take n bits,
      drop n bits,
      sym (take-append-drop n bits),
      record { size = omega (arith, length-drop n bits); near = near },
    )

-- ---- one bit more

pub length-after_zeros : (bits : List Bool) → length (after_zeros bits) ≡ 64 + length bits
unfolding after_zeros
length-after_zeros bits = length-append (replicate 64 false) bits

after_zeros-push : (bits : List Bool) (bit : Bool) → after_zeros (bits ++ bit ∷ []) ≡ after_zeros bits ++ bit ∷ []
unfolding after_zeros
after_zeros-push bits bit = sym (append_assoc (replicate 64 false) bits (bit ∷ []))

-- the last 64 bits after one more
pub register_push : (bits : List Bool) (bit : Bool)
    → drop (length bits + 1) (after_zeros (bits ++ bit ∷ []))
    ≡ drop 1 (drop (length bits) (after_zeros bits)) ++ bit ∷ []
register_push bits bit =
    let n = length bits in
    let zeros = after_zeros bits in
    let size = length-after_zeros bits in
    let some : 1 ≤ length (drop n zeros) = omega (arith, length-drop n zeros) in
    ap (drop (n + 1)) (after_zeros-push bits bit) ∙ sym (drop-drop 1 n (zeros ++ bit ∷ []))
    ∙ ap (drop 1) (drop-append-le n zeros (bit ∷ []) (omega arith))
    ∙ drop-append-le 1 (drop n zeros) (bit ∷ []) some

pub no_tag_of_none : (n tag : ℕ) → ¬ EndsTag (take n []) tag
no_tag_of_none n tag ends =
    let none : List Bool = [] in
    let told = tag_told (take n none) tag ends in
    omega (arith, told.0, length-take n none)

pub kept_none : (ring : List Bool) (tags : List ℕ) (due : List Bool) → length ring ≡ 2048 → length tags ≡ 2048
    → length due ≡ 2048 → Kept ring tags due 0 0 0 []
unfolding after_zeros bits_of_64
kept_none ring tags due ring_size tags_size due_size = record {
  ring_size = ring_size;
  tags_size = tags_size;
  due_size = due_size;
  next_is = refl;
  taken_is = refl;
  register_is = refl;
  bits_kept = λ i below near. absurd (omega arith);
  tags_kept = λ i least most near. absurd (omega arith);
  due_kept = λ i least near tag may. absurd (no_tag_of_none (i - 8 * block_length tag) tag may.ends);
}

other_place : (i n : ℕ) → i < n → n < i + 2048 → i % 2048 ≡ n % 2048 → ⊥
other_place i n below near same = omega arith

-- ---- a tag in front of a block

-- bits that end with a tag and so many others
pub tag_and_block : (tag : ℕ) (b before heard block : List Bool) → b ≡ before ++ (heard ++ block)
    → IsNearTag tag heard → length block ≡ 8 * block_length tag
    → HasTag tag b × (drop (length b - 8 * block_length tag) b ≡ block)
tag_and_block tag b before heard block bits_are near_tag block_size =
    let i : ℕ = length b - 8 * block_length tag in
    let whole : b ≡ (before ++ heard) ++ block = bits_are ∙ sym (append_assoc before heard block) in
    let front_size : length (before ++ heard) ≡ length before + 64 =
    length-append before heard ∙ ap (λ n. length before + n) near_tag.size in
    let size : length b ≡ length before + 64 + 8 * block_length tag =
    omega (arith, ap length whole, length-append (before ++ heard) block) in
    let front : take i b ≡ before ++ heard = ap (take i) whole
    ∙ take_at (before ++ heard) block i (omega arith) in
    let back : drop i b ≡ block = ap (drop i) whole ∙ drop_at (before ++ heard) block i (omega arith) in
    (record { within = omega arith; ends = (before, heard, front, near_tag) }, back)

pub tag_and_block_within : (tag : ℕ) (b : List Bool) → HasTag tag b → 64 + 8 * block_length tag ≤ length b
tag_and_block_within tag b has =
    let i : ℕ = length b - 8 * block_length tag in
    let within = has.within in
    let least : 64 ≤ i = omega (arith, (tag_told (take i b) tag has.ends).0, length-take i b) in
    omega arith

-- and the other way
pub block_after_tag : (tag : ℕ) (b : List Bool) (has : HasTag tag b)
    → b ≡ has.ends.0 ++ (has.ends.1 ++ drop (length b - 8 * block_length tag) b)
block_after_tag tag b has =
    let i : ℕ = length b - 8 * block_length tag in
    sym (take-append-drop i b) ∙ ap (λ xs. xs ++ drop i b) has.ends.2
    ∙ append_assoc has.ends.0 has.ends.1 (drop i b)

pub ends_from : (tag : ℕ) → IsTag tag → (b : List Bool) (frame : List ℕ) (over : ℕ) → HasTag tag b
    → CarriesFrame tag (drop (length b - 8 * block_length tag) b) frame over → EndsBlock b tag frame over
ends_from tag is_tag b frame over has carries = record {
  before = has.ends.0;
  heard = has.ends.1;
  block = drop (length b - 8 * block_length tag) b;
  is_tag = is_tag;
  bits_are = block_after_tag tag b has;
  near_tag = has.ends.3;
  carries = carries;
}

pub ends_told : (tag : ℕ) → IsTag tag → (b : List Bool) (frame : List ℕ) (over : ℕ) → EndsBlock b tag frame over
    → HasTag tag b × CarriesFrame tag (drop (length b - 8 * block_length tag) b) frame over
ends_told tag is_tag b frame over ends =
    let block_size : length ends.block ≡ 8 * block_length tag = ap length ends.carries.bits_are
    ∙ length-sent_bits ends.carries.word ∙ ap (λ n. 8 * n) ends.carries.size in
    let told = tag_and_block tag b ends.before ends.heard ends.block ends.bits_are ends.near_tag block_size in
    (told.0, subst (λ xs. CarriesFrame tag xs frame over) (sym told.1) ends.carries)

module _ (ring : List Bool) (tags : List ℕ) (due : List Bool) (register next taken : ℕ) (b : List Bool)
    (kept : Kept ring tags due register next taken b) where
  pub kept_push : (bit : Bool) (after tag more : ℕ) (now_due : List Bool)
      → bits_of_64 after ≡ drop 1 (bits_of_64 register) ++ bit ∷ []
      → ((n : ℕ) → IsTag n → ((tag ≡ n) ↔ (differing (bits_of_64 after) (tag_bits n) ≤ 12)))
      → more ≡ min 2104 (taken + 1)
      → (tag ≡ 0 → now_due ≡ set due next false)
      → (tag ≢ 0 → now_due ≡ set (set due next false) (((next + 1) % 2048 + 8 * block_length tag) % 2048) true)
      → Kept (set ring next bit) (set tags ((next + 1) % 2048) tag) now_due after ((next + 1) % 2048) more
      (b ++ bit ∷ [])
  kept_push bit after tag more now_due after_is tag_is more_is none some =
      let size : length (b ++ bit ∷ []) ≡ length b + 1 = length_push b bit in
      let next_is = kept.next_is in
      let taken_is = kept.taken_is in
      let here : (next + 1) % 2048 ≡ (length b + 1) % 2048 = omega arith in
      let register_is : bits_of_64 after ≡ drop (length (b ++ bit ∷ [])) (after_zeros (b ++ bit ∷ [])) =
      after_is ∙ ap (λ xs. drop 1 xs ++ bit ∷ []) kept.register_is ∙ sym (register_push b bit)
      ∙ ap (λ n. drop n (after_zeros (b ++ bit ∷ []))) (sym size) in
      record {
        ring_size = length-set ring next bit ∙ kept.ring_size;
        tags_size = length-set tags ((next + 1) % 2048) tag ∙ kept.tags_size;
        due_size = due_size;
        next_is = here ∙ ap (λ n. n % 2048) (sym size);
        taken_is = omega arith;
        register_is = register_is;
        bits_kept = λ i below near. bit_at i (omega arith) (omega arith);
        tags_kept = λ i least most near. tag_at register_is i least (omega arith) (omega arith);
        due_kept = λ i least near n may. due_at register_is i (omega arith) n may;
      }
    where
      next_place : (n next : ℕ) → next ≡ n % 2048 → (next + 1) % 2048 ≡ (n + 1) % 2048
      next_place n next is = omega arith

      bit_at : (i : ℕ) → i < length b + 1 → length b + 1 ≤ i + 2048
          → get_or (set ring next bit) (i % 2048) false ≡ get_or (b ++ bit ∷ []) i false
      bit_at i below near =
          elim (cases_eq i (length b)) [
            | inl last ↦
                let place : i % 2048 ≡ next = ap (λ n. n % 2048) last ∙ sym kept.next_is in
                ap (λ n. get_or (set ring next bit) n false) place
                ∙ get_or-set_same ring next bit false (omega (arith, kept.next_is, kept.ring_size))
                ∙ sym (get_or_push b bit false i (sym last))
            | inr other ↦
                let apart : i % 2048 ≡ next → ⊥ = λ same. other_place i (length b) (omega arith) (omega arith)
                (same ∙ kept.next_is) in
                get_or-set_other ring next (i % 2048) bit false apart
                ∙ kept.bits_kept i (omega arith) (omega arith)
                ∙ sym (get_or_append_left b (bit ∷ []) false i (omega arith))
          ]

      tag_at : bits_of_64 after ≡ drop (length (b ++ bit ∷ [])) (after_zeros (b ++ bit ∷ []))
          → (i : ℕ) → 64 ≤ i → i ≤ length b + 1 → length b + 1 < i + 2048
          → IsTagAt (get_or (set tags ((next + 1) % 2048) tag) (i % 2048) 0) (take i (b ++ bit ∷ []))
      tag_at register_is i least most near =
          elim (cases_eq i (length b + 1)) [
            | inl last ↦
                let size : length (b ++ bit ∷ []) ≡ length b + 1 = length_push b bit in
                let place : i % 2048 ≡ (next + 1) % 2048 = omega (arith, kept.next_is) in
                let value : get_or (set tags ((next + 1) % 2048) tag) (i % 2048) 0 ≡ tag =
                ap (λ n. get_or (set tags ((next + 1) % 2048) tag) n 0) place
                ∙ get_or-set_same tags ((next + 1) % 2048) tag 0 (omega (arith, kept.tags_size)) in
                let all : take i (b ++ bit ∷ []) ≡ b ++ bit ∷ [] = take_all i (b ++ bit ∷ []) (omega arith) in
                let heard : bits_of_64 after ≡ drop (length (b ++ bit ∷ []) - 64) (b ++ bit ∷ []) = register_is
                ∙ last_64 (b ++ bit ∷ []) (omega arith) in
                λ n is_tag. (
                  λ same. subst (λ xs. EndsTag xs n) (sym all) (tag_from (b ++ bit ∷ []) n (omega arith)
                      (subst (λ xs. differing xs (tag_bits n) ≤ 12) heard ((tag_is n is_tag).0 (sym value ∙ same)))),
                  λ ends. value ∙ (tag_is n is_tag).1 (subst (λ xs. differing xs (tag_bits n) ≤ 12) (sym heard)
                      (tag_told (b ++ bit ∷ []) n (subst (λ xs. EndsTag xs n) all ends)).1),
                )
            | inr other ↦
                let apart : i % 2048 ≡ (next + 1) % 2048 → ⊥ = λ same. other_place i (length b + 1) (omega arith)
                (omega arith) (same ∙ next_place (length b) next kept.next_is) in
                let value = get_or-set_other tags ((next + 1) % 2048) (i % 2048) tag 0 apart in
                let front : take i (b ++ bit ∷ []) ≡ take i b = take-append-le i b (bit ∷ []) (omega arith) in
                let was = kept.tags_kept i least (omega arith) (omega arith) in
                λ n is_tag. (
                  λ same. subst (λ xs. EndsTag xs n) (sym front) ((was n is_tag).0 (sym value ∙ same)),
                  λ ends. value ∙ (was n is_tag).1 (subst (λ xs. EndsTag xs n) front ends),
                )
          ]

      cleared : List Bool
      cleared = set due next false

      cleared_size : length cleared ≡ 2048
      cleared_size = length-set due next false ∙ kept.due_size

      due_size : length now_due ≡ 2048
      due_size =
          elim (cases_eq tag 0) [
            | inl zero_tag ↦ ap length (none zero_tag) ∙ cleared_size
            | inr other ↦ ap length (some other)
                ∙ length-set cleared (((next + 1) % 2048 + 8 * block_length tag) % 2048) true ∙ cleared_size
          ]

      due_place : (n next i count : ℕ) → next ≡ n % 2048 → i ≡ n + 1 + count
          → i % 2048 ≡ ((next + 1) % 2048 + count) % 2048
      due_place n next i count is last = omega arith

      -- a place that was due stays so
      due_stays : (place : ℕ) → place < 2048 → get_or cleared place false ≡ true → get_or now_due place false ≡ true
      due_stays place below was =
          elim (cases_eq tag 0) [
            | inl zero_tag ↦ ap (λ xs. get_or xs place false) (none zero_tag) ∙ was
            | inr other ↦
                let end : ℕ = ((next + 1) % 2048 + 8 * block_length tag) % 2048 in
                ap (λ xs. get_or xs place false) (some other)
                ∙ elim (cases_eq place end) [
                  | inl same ↦ ap (λ n. get_or (set cleared end true) n false) same
                      ∙ get_or-set_same cleared end true false (omega (arith, cleared_size))
                  | inr apart ↦ get_or-set_other cleared end place true false apart ∙ was
                ]
          ]

      due_at : bits_of_64 after ≡ drop (length (b ++ bit ∷ [])) (after_zeros (b ++ bit ∷ []))
          → (i : ℕ) → length b + 1 ≤ i → (n : ℕ) → MayEnd n i (b ++ bit ∷ [])
          → get_or now_due (i % 2048) false ≡ true
      due_at register_is i least n may =
          let size : length (b ++ bit ∷ []) ≡ length b + 1 = length_push b bit in
          let count : ℕ = 8 * block_length n in
          let most = most_octets n may.is_tag in
          let within = may.within in
          elim (cases_eq i (length b + 1 + count)) [
            | inl last ↦
                let all : take (i - count) (b ++ bit ∷ []) ≡ b ++ bit ∷ [] =
                take_all (i - count) (b ++ bit ∷ []) (omega arith) in
                let told = tag_told (b ++ bit ∷ []) n (subst (λ xs. EndsTag xs n) all may.ends) in
                let heard : bits_of_64 after ≡ drop (length (b ++ bit ∷ []) - 64) (b ++ bit ∷ []) = register_is
                ∙ last_64 (b ++ bit ∷ []) told.0 in
                let is : tag ≡ n = (tag_is n may.is_tag).1
                (subst (λ xs. differing xs (tag_bits n) ≤ 12) (sym heard) told.1) in
                let place : i % 2048 ≡ ((next + 1) % 2048 + 8 * block_length tag) % 2048 =
                due_place (length b) next i count kept.next_is last
                ∙ ap (λ m. ((next + 1) % 2048 + 8 * block_length m) % 2048) (sym is) in
                ap (λ m. get_or now_due m false) place
                ∙ ap (λ xs. get_or xs (((next + 1) % 2048 + 8 * block_length tag) % 2048) false)
                (some (λ zero_tag. let first = may.is_tag.0 in omega arith))
                ∙ get_or-set_same cleared (((next + 1) % 2048 + 8 * block_length tag) % 2048) true false
                (omega (arith, cleared_size))
            | inr earlier ↦
                let front : take (i - count) (b ++ bit ∷ []) ≡ take (i - count) b =
                take-append-le (i - count) b (bit ∷ []) (omega arith) in
                let was : MayEnd n i b = record {
                  is_tag = may.is_tag;
                  within = omega arith;
                  ends = subst (λ xs. EndsTag xs n) front may.ends;
                } in
                let apart : i % 2048 ≡ next → ⊥ = λ same. other_place (length b) i (omega arith) (omega arith)
                (sym (same ∙ kept.next_is)) in
                due_stays (i % 2048) (omega arith)
                (get_or-set_other due next (i % 2048) false false apart
                ∙ kept.due_kept i (omega arith) (omega arith) n was)
          ]

  -- ---- blocks

  ring_place : (n m i : ℕ) → m ≤ 2040 → m ≤ n → i ≤ m → (n % 2048 + 2048 - m + i) % 2048 ≡ (n - m + i) % 2048
  ring_place n m i most within below = omega arith

  pub recent_are : (bits : List Bool) (count : ℕ) → count ≤ 2040 → count ≤ length b → length bits ≡ count
      → ((i : ℕ) → i < count → get_or bits i false ≡ get_or ring ((next + 2048 - count + i) % 2048) false)
      → bits ≡ drop (length b - count) b
  recent_are bits count most within size each =
      ext_get_or false bits (drop (length b - count) b) (omega (arith, length-drop (length b - count) b))
      (λ i below. let inside : i < count = omega arith in
      each i inside
      ∙ ap (λ n. get_or ring ((n + 2048 - count + i) % 2048) false) kept.next_is
      ∙ ap (λ n. get_or ring n false) (ring_place (length b) count i most within (omega arith))
      ∙ kept.bits_kept (length b - count + i) (omega arith) (omega arith)
      ∙ sym (get_or-drop (length b - count) b i false))

  module _ (tag : ℕ) (is_tag : IsTag tag) where
    tag_place : 8 * block_length tag ≤ length b
        → (next + 2048 - 8 * block_length tag) % 2048 ≡ (length b - 8 * block_length tag) % 2048
    tag_place within =
        let count : ℕ = 8 * block_length tag in
        let most : count ≤ 2040 = omega (arith, most_octets tag is_tag) in
        ap (λ n. (n + 2048 - count) % 2048) kept.next_is ∙ place_at (length b) count most within
      where
        place_at : (n m : ℕ) → m ≤ 2040 → m ≤ n → (n % 2048 + 2048 - m) % 2048 ≡ (n - m) % 2048
        place_at n m most within = omega arith

    pub has_tag_from : 64 + 8 * block_length tag ≤ length b
        → get_or tags ((next + 2048 - 8 * block_length tag) % 2048) 0 ≡ tag → HasTag tag b
    has_tag_from least same =
        let i : ℕ = length b - 8 * block_length tag in
        let most = most_octets tag is_tag in
        let here : get_or tags (i % 2048) 0 ≡ tag = ap (λ n. get_or tags n 0) (sym (tag_place (omega arith))) ∙ same in
        record {
          within = omega arith;
          ends = (kept.tags_kept i (omega arith) (omega arith) (omega arith) tag is_tag).0 here;
        }

    pub has_tag_told : HasTag tag b
        → (64 + 8 * block_length tag ≤ length b)
        × (get_or tags ((next + 2048 - 8 * block_length tag) % 2048) 0 ≡ tag)
    has_tag_told has =
        let i : ℕ = length b - 8 * block_length tag in
        let most = most_octets tag is_tag in
        let within = has.within in
        let least : 64 ≤ i = omega (arith, (tag_told (take i b) tag has.ends).0, length-take i b) in
        let here = (kept.tags_kept i least (omega arith) (omega arith) tag is_tag).1 has.ends in
        (omega arith, ap (λ n. get_or tags n 0) (tag_place within) ∙ here)

    pub idle_told : get_or due next false ≡ false → HasTag tag b → ⊥
    idle_told idle has =
        let i : ℕ = length b - 8 * block_length tag in
        let most = most_octets tag is_tag in
        let told = has_tag_told has in
        let same = has.ends in
        let may : MayEnd tag (length b) b = record { is_tag = is_tag; within = omega arith; ends = same } in
        false≢true (sym idle ∙ ap (λ n. get_or due n false) kept.next_is
        ∙ kept.due_kept (length b) (omega arith) (omega arith) tag may)
