-- A stretch of samples touches few windows, these few bits, and these few octets of a block.
use Rattle.fx25_receiver.proofs.Common.{◌≡◌, ℕ, zero, suc, ◌+◌, ◌-◌, ◌*◌, ◌/◌, ◌%◌, ◌<◌, ◌≤◌, ◌⊎◌, Bool, true, false, ℤ}
use Rattle.fx25_receiver.proofs.Common.{List, [], ◌∷◌, ◌++◌, length, get_or, take, drop, refl, ap, sym, ◌∙◌, subst, arith}
use Rattle.fx25_receiver.proofs.Common.{check_count, ◌≢◌, get_or-append-add, get_or_append_left}
use Rattle.fx25_receiver.proofs.Common.{inl, inr, cases_lt, All, All-cons, All-nil, append_assoc, length-append, Tone}
use Rattle.fx25_receiver.proofs.Common.{bits, tones_at, length-bits, windows_in, sent_bits, IsTag, block_length}
use Rattle.std.proofs.Common.{◌^◌, pos}
use Rattle.std.proofs.lemmas.Bool.{eq-eqb, ne_eqb}
use Rattle.reed_solomon.specs.Distance.{distance}
use Rattle.fx25_blocks.proofs.DamageLemmas.{few_octets}
use Rattle.fx25_blocks.proofs.TagFacts.{even_checks}
use Rattle.std.proofs.lemmas.List.{ext_get_or, get_or-drop, get_or-take, length-drop, length-take}
use Rattle.std.proofs.lemmas.List.{take-append-drop}
use Rattle.std.proofs.lemmas.List.FromFn.{get_or-map-range_with_len}
use Rattle.nrzi_bits.specs.Line.{bits_from, same_tone}
use Rattle.tone_table.specs.declared.tone.Tone.TheVariants.{Mark}
use Rattle.offset_slicers.specs.Decision.{tone_of}
unfoldable use Rattle.offset_slicers.specs.Windows.{window_at}
use Rattle.offset_slicers.proofs.WindowLemmas.{length-tones_at}
use Rattle.hdlc_framer.specs.BitOrder.{low_bits, number_of}
unfoldable use Rattle.hdlc_framer.specs.BitOrder.{octet_bits}
use Rattle.hdlc_framer.proofs.BitLemmas.{length-sent_bits, number_of-lt}
use Rattle.fx25_blocks.specs.Damage.{DifferWithin}
use Rattle.fx25_receiver.specs.Damage.{DifferInStretch}

-- ---- bits are octets

-- bits are the lowest of their number
bits_back : (bits : List Bool) → low_bits (length bits) (number_of bits) ≡ bits
bits_back [] = refl
bits_back (false ∷ bits) =
    let even : 2 * number_of bits % 2 ≢ 1 = omega arith in
    let half : 2 * number_of bits / 2 ≡ number_of bits = omega arith in
    ap (λ b. b ∷ low_bits (length bits) (2 * number_of bits / 2)) (ne_eqb _ _ even)
    ∙ ap (λ n. false ∷ low_bits (length bits) n) half ∙ ap (λ xs. false ∷ xs) (bits_back bits)
bits_back (true ∷ bits) =
    let odd : (2 * number_of bits + 1) % 2 ≡ 1 = omega arith in
    let half : (2 * number_of bits + 1) / 2 ≡ number_of bits = omega arith in
    ap (λ b. b ∷ low_bits (length bits) ((2 * number_of bits + 1) / 2)) (eq-eqb _ _ odd)
    ∙ ap (λ n. true ∷ low_bits (length bits) n) half ∙ ap (λ xs. true ∷ xs) (bits_back bits)

-- as many octets as there are eight bits
octets_of : (count : ℕ) (bits : List Bool) → length bits ≡ 8 * count
    → (octets : List ℕ) × (length octets ≡ count) × All (λ octet. octet < 256) octets × (bits ≡ sent_bits octets)
unfolding octet_bits
octets_of zero [] size = ([], refl, All-nil (λ octet. octet < 256), refl)
octets_of zero (bit ∷ bits) size = absurd (omega arith)
octets_of (suc count) bits size =
    let first : List Bool = take 8 bits in
    let eight : length first ≡ 8 = omega (arith, length-take 8 bits) in
    let rest = octets_of count (drop 8 bits) (omega (arith, length-drop 8 bits)) in
    let small = number_of-lt first in
    let low : number_of first < 256 = subst (λ n. number_of first < 2 ^ n) eight small in
    let back : first ≡ low_bits 8 (number_of first) =
    sym (bits_back first) ∙ ap (λ n. low_bits n (number_of first)) eight in (
      number_of first ∷ rest.0,
      omega (arith, rest.1),
      All-cons (λ octet. octet < 256) (number_of first) rest.0 low rest.2,
      sym (take-append-drop 8 bits) ∙ ap (λ xs. xs ++ drop 8 bits) back
          ∙ ap (λ xs. low_bits 8 (number_of first) ++ xs) rest.3,
    )

-- ---- windows

module _ (start count : ℕ) (x sent : List ℤ) (differ : DifferInStretch start count x sent) where
  -- a window outside the stretch
  same_window : (offset k : ℕ) → (offset + 8 * k + 8 ≤ start) ⊎ (start + count ≤ offset + 8 * k)
      → window_at offset x k ≡ window_at offset sent k
  unfolding window_at
  same_window offset k outside =
      let n : ℕ = offset + 8 * k in
      ext_get_or d (take 8 (drop n x)) (take 8 (drop n sent))
      (let size = differ.size in
      omega (arith, length-take 8 (drop n x), length-drop n x, length-take 8 (drop n sent), length-drop n sent))
      (λ i below.
      let small : i < 8 = omega (arith, length-take 8 (drop n x)) in
      get_or-take 8 (drop n x) i d small ∙ get_or-drop n x i d
      ∙ differ.same (n + i) d (moved i small outside)
      ∙ sym (get_or-take 8 (drop n sent) i d small ∙ get_or-drop n sent i d))
    where
      d : ℤ
      d = pos 0

      moved : (i : ℕ) → i < 8 → (offset + 8 * k + 8 ≤ start) ⊎ (start + count ≤ offset + 8 * k)
          → (offset + 8 * k + i < start) ⊎ (start + count ≤ offset + 8 * k + i)
      moved i small (inl before) = inl (omega arith)
      moved i small (inr past) = inr (omega arith)

  same_tone_at : (offset k : ℕ) (e : Tone) → k < windows_in offset (length sent)
      → (offset + 8 * k + 8 ≤ start) ⊎ (start + count ≤ offset + 8 * k)
      → get_or (tones_at offset x) k e ≡ get_or (tones_at offset sent) k e
  unfolding tones_at
  same_tone_at offset k e within outside =
      let size = differ.size in
      get_or-map-range_with_len (λ j. tone_of (window_at offset x j)) 0 (windows_in offset (length x)) k k e
      (omega arith) (omega arith)
      ∙ ap tone_of (same_window offset k outside)
      ∙ sym (get_or-map-range_with_len (λ j. tone_of (window_at offset sent j)) 0 (windows_in offset (length sent))
      k k e within (omega arith))

-- ---- bits

-- a bit tells of its tone and of the one before
same_bit : (a b e : Tone) (ts us : List Tone) (j : ℕ) (d : Bool) → length ts ≡ length us
    → get_or (a ∷ ts) j e ≡ get_or (b ∷ us) j e → get_or ts j e ≡ get_or us j e
    → get_or (bits_from a ts) j d ≡ get_or (bits_from b us) j d
same_bit a b e [] [] j d size before here = refl
same_bit a b e [] (u ∷ us) j d size before here = absurd (omega arith)
same_bit a b e (t ∷ ts) [] j d size before here = absurd (omega arith)
same_bit a b e (t ∷ ts) (u ∷ us) zero d size before here = ap (λ s. same_tone s t) before ∙ ap (same_tone b) here
same_bit a b e (t ∷ ts) (u ∷ us) (suc j) d size before here = same_bit t u e ts us j d (omega arith) before here

past : (xs : List Bool) (j : ℕ) → length xs ≤ j → get_or xs j false ≡ false
past [] j few = refl
past (x ∷ xs) zero few = absurd (omega arith)
past (x ∷ xs) (suc j) few = past xs j (omega arith)

module _ (start count : ℕ) (x sent : List ℤ) (differ : DifferInStretch start count x sent) (lane : ℕ) where
  -- a bit whose window and the one before lie outside the stretch
  abbrev IsOutside : ℕ → Type 0
  IsOutside j = (lane + 8 * j + 8 ≤ start) ⊎ (start + count + 8 ≤ lane + 8 * j)

  tone_before : (j : ℕ) → j < windows_in lane (length sent) → IsOutside j
      → get_or (Mark ∷ tones_at lane x) j Mark ≡ get_or (Mark ∷ tones_at lane sent) j Mark
  tone_before zero within outside = refl
  tone_before (suc j) within outside = same_tone_at start count x sent differ lane j Mark (omega arith) (earlier outside)
    where
      earlier : IsOutside (suc j) → (lane + 8 * j + 8 ≤ start) ⊎ (start + count ≤ lane + 8 * j)
      earlier (inl before) = inl (omega arith)
      earlier (inr after) = inr (omega arith)

  same_bit_at : (j : ℕ) → j < windows_in lane (length sent) → IsOutside j
      → get_or (bits lane x) j false ≡ get_or (bits lane sent) j false
  unfolding bits
  same_bit_at j within outside =
      same_bit Mark Mark Mark (tones_at lane x) (tones_at lane sent) j false
      (length-tones_at lane x ∙ ap (windows_in lane) differ.size ∙ sym (length-tones_at lane sent))
      (tone_before j within outside)
      (same_tone_at start count x sent differ lane j Mark within (here outside))
    where
      here : IsOutside j → (lane + 8 * j + 8 ≤ start) ⊎ (start + count ≤ lane + 8 * j)
      here (inl before) = inl before
      here (inr after) = inr (omega arith)

  -- ---- octets

  module _ (index tag : ℕ) (before heard : List Bool) (block : List ℕ) (is_tag : IsTag tag)
      (within : index < length (bits lane sent))
      (is : take (index + 1) (bits lane sent) ≡ before ++ (heard ++ sent_bits block)) (tag_size : length heard ≡ 64)
      (size : length block ≡ block_length tag) (fit : All (λ octet. octet < 256) block)
      (following : lane + 8 * (length before + 64) ≤ start) (few : count + 71 ≤ 32 * check_count tag) where
    front : List Bool
    front = before ++ heard

    line : List Bool
    line = take (index + 1) (bits lane x)

    pub tail : List Bool
    tail = drop (length before + 64) line

    windows : length (bits lane sent) ≡ windows_in lane (length sent)
    windows = length-bits lane sent

    pub as_many : length (bits lane x) ≡ length (bits lane sent)
    as_many = length-bits lane x ∙ ap (windows_in lane) differ.size ∙ sym (length-bits lane sent)

    whole : take (index + 1) (bits lane sent) ≡ front ++ sent_bits block
    unfolding front
    whole = is ∙ sym (append_assoc before heard (sent_bits block))

    length-front : length front ≡ length before + 64
    unfolding front
    length-front = length-append before heard ∙ ap (λ n. length before + n) tag_size

    count_is : index + 1 ≡ length before + 64 + 8 * length block
    count_is = omega (
      arith,
      length-take (index + 1) (bits lane sent),
      ap length whole,
      length-append front (sent_bits block),
      length-front,
      length-sent_bits block,
      within,
    )

    -- the bits of the line, so far as they lie outside
    line_bit : (j : ℕ) → j < index + 1 → IsOutside j
        → get_or line j false ≡ get_or (front ++ sent_bits block) j false
    unfolding line
    line_bit j below outside =
        get_or-take (index + 1) (bits lane x) j false below
        ∙ same_bit_at j (omega (arith, windows, within, below)) outside
        ∙ sym (get_or-take (index + 1) (bits lane sent) j false below)
        ∙ ap (λ xs. get_or xs j false) whole

    length-line : length line ≡ index + 1
    unfolding line
    length-line = omega (arith, length-take (index + 1) (bits lane x), as_many, within)

    -- the tag and what came before it
    front_same : take (length before + 64) line ≡ front
    front_same =
        let p : ℕ = length before + 64 in
        let n = length-take p line in
        ext_get_or false (take p line) front (omega (arith, n, length-line, length-front, count_is))
        (λ i below.
        let inside : i < p = omega (arith, n) in
        get_or-take p line i false inside ∙ line_bit i (omega (arith, count_is, inside)) (inl (omega (arith, following, inside)))
        ∙ get_or_append_left front (sent_bits block) false i (omega (arith, length-front)))

    length-tail : length tail ≡ 8 * length block
    unfolding tail
    length-tail = omega (arith, length-drop (length before + 64) line, length-line, count_is)

    pub word : (octets : List ℕ) × (length octets ≡ length block) × All (λ octet. octet < 256) octets
        × (tail ≡ sent_bits octets)
    word = octets_of (length block) tail length-tail

    -- and the bits of the block
    differ_within : DifferWithin ((start - lane) / 8 - (length before + 64)) ((count + 6) / 8 + 2) (sent_bits word.0)
        (sent_bits block)
    unfolding tail
    differ_within i outside =
        elim (cases_lt i (8 * length block)) [
          | inr after ↦
              past (sent_bits word.0) i (omega (arith, length-sent_bits word.0, word.1))
              ∙ sym (past (sent_bits block) i (omega (arith, length-sent_bits block)))
          | inl inside ↦
              let p : ℕ = length before + 64 in
              ap (λ xs. get_or xs i false) (sym word.3) ∙ get_or-drop p line i false
              ∙ line_bit (p + i) (omega (arith, count_is)) (placed outside)
              ∙ ap (λ n. get_or (front ++ sent_bits block) (n + i) false) (sym length-front)
              ∙ get_or-append-add front (sent_bits block) i false
        ]
      where
        placed : (i < (start - lane) / 8 - (length before + 64))
            ⊎ ((start - lane) / 8 - (length before + 64) + ((count + 6) / 8 + 2) ≤ i)
            → IsOutside (length before + 64 + i)
        placed (inl below) = inl (omega arith)
        placed (inr above) = inr (omega (arith, following, above))

    pub few_wrong : 2 * distance word.0 block ≤ check_count tag
    few_wrong = omega (
      arith,
      few_octets word.0 block ((start - lane) / 8 - (length before + 64)) ((count + 6) / 8 + 2) word.2 fit word.1
          differ_within,
      even_checks tag is_tag,
      few,
    )

    pub bits_are : take (index + 1) (bits lane x) ≡ before ++ (heard ++ sent_bits word.0)
    unfolding line tail front
    bits_are =
        let p : ℕ = length before + 64 in
        sym (take-append-drop p line) ∙ ap (λ xs. xs ++ drop p line) front_same
        ∙ ap (λ xs. front ++ xs) word.3 ∙ append_assoc before heard (sent_bits word.0)
