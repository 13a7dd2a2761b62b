-- What a reader that rests has read after one bit more, and that it misses no block.
use Rattle.fx25_receiver.proofs.Common.{◌≡◌, ℕ, ◌+◌, ◌*◌, ◌<◌, ◌≤◌, Bool, List, [], ◌∷◌, ◌++◌, length, take, drop, ap}
use Rattle.fx25_receiver.proofs.Common.{refl, sym, subst, ◌∙◌, arith, inl, inr, cases_eq, cases_lt, append_assoc}
use Rattle.fx25_receiver.proofs.Common.{length-append, length_push, take_all, IsTag, block_length}
use Rattle.std.proofs.Common.{◌-◌, ◌↔◌}
use Rattle.std.proofs.lemmas.List.{drop-append-le, length-take, take-append-drop, take-append-le, take_at}
use Rattle.fx25_blocks.proofs.ReaderLemmas.{last_64, register_push, tag_told}
use Rattle.fx25_blocks.proofs.TagFacts.{most_octets}
use Rattle.fx25_blocks.specs.Coming.{IsBlockComing, IsSureTag}
use Rattle.fx25_blocks.specs.Held.{StandsFor as ReaderStandsFor}
unfoldable use Rattle.fx25_blocks.specs.Held.{after_zeros}
use Rattle.fx25_blocks.specs.NearTag.{EndsTag, IsNearTag}
use Rattle.fx25_blocks.specs.Tags.{differing, tag_bits}
unfoldable use Rattle.fx25_blocks.specs.Tags.{bits_of_64}
use Rattle.fx25_blocks.specs.UnsureBlocks.{AreOctetCertainties, EndsUnsureBlock, block_numbers}
use Rattle.fx25_blocks.specs.declared.block_reader.BlockReader.{BlockReader}
use Rattle.hdlc_framer.proofs.BitLemmas.{length-sent_bits}
use Rattle.hdlc_framer.specs.BitOrder.{sent_bits}
use Rattle.fx25_receiver.specs.Resting.{AreOver, ReadsFrom, StandsButForTag, StandsFor, over_after}
use Rattle.fx25_receiver.specs.declared.resting_reader.RestingReader.{RestingReader}

-- ---- one bit more

-- a tag that ended before the last bit
tag_before : (b : List Bool) (bit : Bool) (tag place : ℕ) → place ≤ length b → EndsTag (take place (b ++ bit ∷ [])) tag
    → EndsTag (take place b) tag
tag_before b bit tag place within ends =
    subst (λ xs. EndsTag xs tag) (take-append-le place b (bit ∷ []) within) ends

-- a tag has 64 bits
tag_too_early : (place tag : ℕ) (bits : List Bool) → place < 64 → EndsTag (take place bits) tag → ⊥
tag_too_early place tag bits few ends =
    omega (arith, (tag_told (take place bits) tag ends).0, length-take place bits)

register_more : (held : RestingReader) (register : ℕ) (b : List Bool) (bit : Bool)
    → bits_of_64 register ≡ drop 1 (bits_of_64 held.register) ++ bit ∷ []
    → StandsFor held b → bits_of_64 register ≡ drop (length (b ++ bit ∷ [])) (after_zeros (b ++ bit ∷ []))
register_more held register b bit shifted s =
    shifted ∙ ap (λ xs. drop 1 xs ++ bit ∷ []) s.register_is ∙ sym (register_push b bit)
    ∙ ap (λ n. drop n (after_zeros (b ++ bit ∷ []))) (sym (length_push b bit))

-- a whole reader takes the bit
pub reads_more : (start : ℕ) (reader now : BlockReader) (b : List Bool) (bit : Bool)
    → ((bits : List Bool) → ReaderStandsFor reader bits → ReaderStandsFor now (bits ++ bit ∷ []))
    → ReadsFrom start reader b → ReadsFrom start now (b ++ bit ∷ [])
reads_more start reader now b bit takes reads =
    let size = length_push b bit in
    let within = reads.within in
    record {
      within = omega arith;
      enough = λ some. let least = reads.enough some in omega arith;
      reader_stands = subst (ReaderStandsFor now) (sym (drop-append-le start b (bit ∷ []) within))
          (takes (drop start b) reads.reader_stands);
      missed = λ tag place is_tag below most ends. missed_more tag place is_tag below most ends;
    }
  where
    missed_more : AreOver (start + 64) (length (b ++ bit ∷ [])) (b ++ bit ∷ [])
    missed_more tag place is_tag below most ends =
        let size = length_push b bit in
        let told = tag_told (take place (b ++ bit ∷ [])) tag ends in
        let early : place ≤ length b = elim (cases_eq start 0) [
          | inl zero_start ↦ absurd (tag_too_early place tag (b ++ bit ∷ []) (omega arith) ends)
          | inr some ↦ (let least = reads.enough (omega arith) in omega arith)
        ] in
        let was = reads.missed tag place is_tag below early (tag_before b bit tag place early ends) in
        omega arith

-- the reader after the bit, but for a tag that ends with it
pub taken_awake : (held : RestingReader) (register : ℕ) (now : BlockReader) (b : List Bool) (bit : Bool) → 0 < held.awake
    → bits_of_64 register ≡ drop 1 (bits_of_64 held.register) ++ bit ∷ []
    → ((bits : List Bool) → ReaderStandsFor held.reader bits → ReaderStandsFor now (bits ++ bit ∷ []))
    → StandsFor held b
    → StandsButForTag (record { reader = now; register = register; awake = held.awake - 1 }) (b ++ bit ∷ [])
taken_awake held register now b bit awake shifted takes s =
    let size = length_push b bit in
    let enough = s.enough in
    record {
      register_is = register_more held register b bit shifted s;
      enough = omega arith;
      quiet = λ tag place is_tag below most ends. let was = s.quiet tag place is_tag (omega arith) (omega arith)
          (tag_before b bit tag place (omega arith) ends) in omega arith;
      reads = λ some. let reads = s.reads awake in
          (reads.0, reads_more reads.0 held.reader now b bit takes reads.1);
    }

pub taken_resting : (held : RestingReader) (register : ℕ) (b : List Bool) (bit : Bool) → held.awake ≡ 0
    → bits_of_64 register ≡ drop 1 (bits_of_64 held.register) ++ bit ∷ []
    → StandsFor held b
    → StandsButForTag (record { reader = held.reader; register = register; awake = held.awake }) (b ++ bit ∷ [])
taken_resting held register b bit rests shifted s =
    let size = length_push b bit in
    let enough = s.enough in
    record {
      register_is = register_more held register b bit shifted s;
      enough = omega arith;
      quiet = λ tag place is_tag below most ends. let was = s.quiet tag place is_tag (omega arith) (omega arith)
          (tag_before b bit tag place (omega arith) ends) in omega arith;
      reads = λ some. absurd (omega arith);
    }

-- before the first bit
pub new_stands : (reader : BlockReader) → ReaderStandsFor reader []
    → StandsFor (record { reader = reader; register = 0; awake = 64 }) []
unfolding after_zeros bits_of_64
new_stands reader stands = record {
  register_is = refl;
  enough = omega arith;
  quiet = λ tag place is_tag below most ends. absurd (tag_too_early place tag [] (omega arith) ends);
  reads = λ some. (
    0,
    record {
      within = omega arith;
      enough = λ more. absurd (omega arith);
      reader_stands = stands;
      missed = λ tag place is_tag below most ends. absurd (tag_too_early place tag [] (omega arith) ends);
    },
  );
}

-- ---- a tag that ends with the last bit

-- no tag ends with it
pub no_tag : (held : RestingReader) (b : List Bool) (near : ℕ) → near ≡ 0
    → ((tag : ℕ) → IsTag tag → ((near ≡ tag) ↔ (differing (bits_of_64 held.register) (tag_bits tag) ≤ 12)))
    → StandsButForTag held b → StandsFor held b
no_tag held b near none near_is s = record {
  register_is = s.register_is;
  enough = s.enough;
  quiet = λ tag place is_tag below most ends. elim (cases_eq place (length b)) [
    | inl last ↦
        let all : take place b ≡ b = take_all place b (omega arith) in
        let told = tag_told b tag (subst (λ xs. EndsTag xs tag) all ends) in
        let here : bits_of_64 held.register ≡ drop (length b - 64) b = s.register_is ∙ last_64 b told.0 in
        let is : near ≡ tag = (near_is tag is_tag).1 (subst (λ xs. differing xs (tag_bits tag) ≤ 12) (sym here) told.1) in
        let first = is_tag.0 in
        absurd (omega arith)
    | inr earlier ↦ s.quiet tag place is_tag (omega arith) most ends
  ];
  reads = s.reads;
}

-- the reader that is awake stays so
pub stays_awake : (held : RestingReader) (b : List Bool) → 0 < held.awake → StandsButForTag held b
    → StandsFor (record { reader = held.reader; register = held.register; awake = over_after }) b
stays_awake held b awake s = record {
  register_is = s.register_is;
  enough = omega arith;
  quiet = λ tag place is_tag below most ends. omega arith;
  reads = λ some. s.reads awake;
}

-- and one that rests begins with the last 64 bits
pub wakes : (held : RestingReader) (reader : BlockReader) (b : List Bool) → held.awake ≡ 0
    → ReaderStandsFor reader (bits_of_64 held.register) → StandsButForTag held b
    → StandsFor (record { reader = reader; register = held.register; awake = over_after }) b
wakes held reader b rests reads s =
    let start : ℕ = length b - 64 in
    let enough = s.enough in
    let last : bits_of_64 held.register ≡ drop start b = s.register_is ∙ last_64 b (omega arith) in
    record {
      register_is = s.register_is;
      enough = omega arith;
      quiet = λ tag place is_tag below most ends. omega arith;
      reads = λ some. (
        start,
        record {
          within = omega arith;
          enough = λ more. omega arith;
          reader_stands = subst (ReaderStandsFor reader) last reads;
          missed = λ tag place is_tag below most ends. let was = s.quiet tag place is_tag (omega arith) most ends in
              omega arith;
        },
      );
    }

-- ---- blocks

-- where a tag stands in bits
tag_at : (bits before heard rest : List Bool) (tag : ℕ) → bits ≡ before ++ (heard ++ rest) → IsNearTag tag heard
    → EndsTag (take (length before + 64) bits) tag × (length bits ≡ length before + 64 + length rest)
tag_at bits before heard rest tag are near =
    let whole : bits ≡ (before ++ heard) ++ rest = are ∙ sym (append_assoc before heard rest) in
    let size : length (before ++ heard) ≡ length before + 64 = length-append before heard
    ∙ ap (λ n. length before + n) near.size in
    let front : take (length before + 64) bits ≡ before ++ heard = ap (take (length before + 64)) whole
    ∙ take_at (before ++ heard) rest (length before + 64) size in (
      (before, heard, front, near),
      ap length whole ∙ length-append (before ++ heard) rest ∙ ap (λ n. n + length rest) size,
    )

module _ (held : RestingReader) (bits : List Bool) (s : StandsFor held bits) where
  module _ (before heard rest : List Bool) (tag : ℕ) (is_tag : IsTag tag) (are : bits ≡ before ++ (heard ++ rest))
      (near : IsNearTag tag heard) (few : length rest < over_after) where
    -- the reader is awake if a tag is not over
    awake_for : 0 < held.awake
    awake_for =
        let at = tag_at bits before heard rest tag are near in
        let size = at.1 in
        let over = s.quiet tag (length before + 64) is_tag (omega arith) (omega arith) at.0 in
        omega arith

    -- and the bits that the whole reader has taken begin no later
    rest_of : (start : ℕ) → ReadsFrom start held.reader bits → drop start bits ≡ drop start before ++ (heard ++ rest)
    rest_of start reads =
        let at = tag_at bits before heard rest tag are near in
        let size = at.1 in
        elim (cases_lt (length before) start) [
          | inl early ↦
              let over = reads.missed tag (length before + 64) is_tag (omega arith) (omega arith) at.0 in
              absurd (omega arith)
          | inr within ↦ ap (drop start) are ∙ drop-append-le start before (heard ++ rest) (omega arith)
        ]

  few_in_unsure : (numbers : List ℕ) (tag : ℕ) (frame : List ℕ) (over : ℕ)
      (ends : EndsUnsureBlock bits numbers tag frame over) → length (sent_bits ends.word) < over_after
  few_in_unsure numbers tag frame over ends =
      let most = most_octets tag ends.is_tag in
      let size : length (sent_bits ends.word) ≡ 8 * block_length tag =
      length-sent_bits ends.word ∙ ap (λ n. 8 * n) ends.size in
      omega arith

  pub awake_for_unsure : (numbers : List ℕ) (tag : ℕ) (frame : List ℕ) (over : ℕ)
      → EndsUnsureBlock bits numbers tag frame over → 0 < held.awake
  awake_for_unsure numbers tag frame over ends =
      awake_for ends.before ends.heard (sent_bits ends.word) tag ends.is_tag ends.bits_are ends.near_tag
      (few_in_unsure numbers tag frame over ends)

  -- the bits that the whole reader has taken end with the tag and the block
  pub unsure_rest : (numbers : List ℕ) (start tag : ℕ) (frame : List ℕ) (over : ℕ) → ReadsFrom start held.reader bits
      → (ends : EndsUnsureBlock bits numbers tag frame over)
      → drop start bits ≡ drop start ends.before ++ (ends.heard ++ sent_bits ends.word)
  unsure_rest numbers start tag frame over reads ends =
      rest_of ends.before ends.heard (sent_bits ends.word) tag ends.is_tag ends.bits_are ends.near_tag
      (few_in_unsure numbers tag frame over ends) start reads

  pub unsure_inside : (numbers known : List ℕ) (start tag : ℕ) (frame : List ℕ) (over : ℕ)
      → ReadsFrom start held.reader bits → block_numbers tag numbers ≡ block_numbers tag known
      → EndsUnsureBlock bits numbers tag frame over → EndsUnsureBlock (drop start bits) known tag frame over
  unsure_inside numbers known start tag frame over reads same ends = record {
    before = drop start ends.before;
    heard = ends.heard;
    word = ends.word;
    certainty = ends.certainty;
    is_tag = ends.is_tag;
    bits_are = unsure_rest numbers start tag frame over reads ends;
    near_tag = ends.near_tag;
    octets = ends.octets;
    size = ends.size;
    certainties = subst (λ (ns : List ℕ). AreOctetCertainties ns ends.certainty) same ends.certainties;
    reads = ends.reads;
  }

  sure_is_near : (tag : ℕ) (heard : List Bool) → IsSureTag tag heard → IsNearTag tag heard
  sure_is_near tag heard sure = let near = sure.near in record { size = sure.size; near = omega arith }

  few_coming : (comes : IsBlockComing bits) → length comes.rest < over_after
  few_coming comes =
      let most = most_octets comes.tag comes.is_tag in
      let within = comes.within in
      omega arith

  pub awake_for_coming : IsBlockComing bits → 0 < held.awake
  awake_for_coming comes =
      awake_for comes.before comes.heard comes.rest comes.tag comes.is_tag comes.bits_are
      (sure_is_near comes.tag comes.heard comes.sure) (few_coming comes)

  pub coming_inside : (start : ℕ) → ReadsFrom start held.reader bits → IsBlockComing bits
      → IsBlockComing (drop start bits)
  coming_inside start reads comes = record {
    tag = comes.tag;
    before = drop start comes.before;
    heard = comes.heard;
    rest = comes.rest;
    is_tag = comes.is_tag;
    bits_are = rest_of comes.before comes.heard comes.rest comes.tag comes.is_tag comes.bits_are
        (sure_is_near comes.tag comes.heard comes.sure) (few_coming comes) start reads;
    sure = comes.sure;
    within = comes.within;
  }

-- what ends or comes in the last bits does so in all
whole_of : (start : ℕ) (bits before rest : List Bool) → drop start bits ≡ before ++ rest
    → bits ≡ (take start bits ++ before) ++ rest
whole_of start bits before rest are =
    sym (take-append-drop start bits) ∙ ap (λ xs. take start bits ++ xs) are
    ∙ sym (append_assoc (take start bits) before rest)

pub unsure_outside : (numbers known : List ℕ) (start : ℕ) (bits : List Bool) (tag : ℕ) (frame : List ℕ) (over : ℕ)
    → block_numbers tag known ≡ block_numbers tag numbers
    → EndsUnsureBlock (drop start bits) known tag frame over → EndsUnsureBlock bits numbers tag frame over
unsure_outside numbers known start bits tag frame over same ends = record {
  before = take start bits ++ ends.before;
  heard = ends.heard;
  word = ends.word;
  certainty = ends.certainty;
  is_tag = ends.is_tag;
  bits_are = whole_of start bits ends.before (ends.heard ++ sent_bits ends.word) ends.bits_are;
  near_tag = ends.near_tag;
  octets = ends.octets;
  size = ends.size;
  certainties = subst (λ (ns : List ℕ). AreOctetCertainties ns ends.certainty) same ends.certainties;
  reads = ends.reads;
}

pub coming_outside : (start : ℕ) (bits : List Bool) → IsBlockComing (drop start bits) → IsBlockComing bits
coming_outside start bits comes = record {
  tag = comes.tag;
  before = take start bits ++ comes.before;
  heard = comes.heard;
  rest = comes.rest;
  is_tag = comes.is_tag;
  bits_are = whole_of start bits comes.before (comes.heard ++ comes.rest) comes.bits_are;
  sure = comes.sure;
  within = comes.within;
}
