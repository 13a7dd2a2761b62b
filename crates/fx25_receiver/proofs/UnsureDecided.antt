-- Whether a block ends with the last of some bits that have numbers can be decided: all that it asks can be searched for.
use Rattle.fx25_receiver.proofs.Common.{◌≡◌, ℕ, zero, suc, ◌+◌, ◌-◌, ◌*◌, ◌/◌, ◌<◌, ◌≤◌, ◌⊎◌, Bool, false, List, ◌++◌, map}
use Rattle.fx25_receiver.proofs.Common.{length, take, drop, refl, ap, sym, ◌∙◌, subst, arith, inl, inr, cases_eq}
use Rattle.fx25_receiver.proofs.Common.{IsTag, block_length, check_count, data_count, sent_bits, length-append, nat_lt}
use Rattle.std.proofs.lemmas.List.{length-drop, length-take, take-append-drop, take_at, drop_at}
use Rattle.std.proofs.lemmas.List.FromFn.{get_or-map-range_with_len, length-map-range_with_len}
use Rattle.std.proofs.Common.{append_assoc}
use Rattle.std.specs.List.{range_with_len}
use Rattle.hdlc_framer.proofs.BitLemmas.{length-sent_bits}
use Rattle.reed_solomon.specs.Erasures.{count_true, distance_outside}
use Rattle.fx25_blocks.specs.Blocks.{IsBlockCodeword}
use Rattle.fx25_blocks.specs.LeastSure.{AreLeastSure, rank}
use Rattle.fx25_blocks.specs.Tags.{differing, tag_bits}
use Rattle.fx25_blocks.specs.UnknownOctets.{CarriesWithUnknown, ReadsFrame}
use Rattle.fx25_blocks.specs.UnsureBlocks.{EndsUnsureBlock, block_numbers}
use Rattle.fx25_blocks.proofs.CertaintyLemmas.{are_octet_certainties, octet_certainties, same_certainties}
use Rattle.fx25_blocks.proofs.UnknownLaws.{same_flags}
use Rattle.fx25_receiver.proofs.BlockDecided.{Decided, Opens, SomeOctets, at_most, both, codeword, opens, same_bits, some_octets, told}

-- the least sure octets, so many
least_sure : ℕ → List ℕ → List Bool
least_sure count certainty = map (λ place. nat_lt (rank certainty place) count) (range_with_len 0 (length certainty))

are_least_sure : (count : ℕ) (certainty : List ℕ) → AreLeastSure count certainty (least_sure count certainty)
unfolding least_sure
are_least_sure count certainty =
    let f = λ (place : ℕ). nat_lt (rank certainty place) count in
    record {
      size = length-map-range_with_len f 0 (length certainty);
      flags = λ place below.
          get_or-map-range_with_len f 0 (length certainty) place place false (omega arith) (omega arith);
    }

-- a word whose octets are as sure as some numbers say
module _ (tag : ℕ) (word certainty : List ℕ) where
  -- it carries a frame if so many octets are unknown
  abbrev Carries : ℕ → Type 0
  Carries count = (frame : List ℕ) × (over : ℕ) × CarriesWithUnknown tag count word certainty frame over

  -- a codeword that is near enough outside the unknown octets and opens with a frame
  abbrev IsRepair : ℕ → List ℕ → Type 0
  IsRepair count right = IsBlockCodeword tag right
      × ((count_true (least_sure count certainty) + 2 * distance_outside (least_sure count certainty) word right ≤ check_count tag)
      × Opens (sent_bits (take (data_count tag) right)))

  carries : (count : ℕ) → Decided (Carries count)
  carries count =
      told to from (some_octets (length word) (IsRepair count) (λ right. both (codeword tag right)
      (both (at_most (count_true (least_sure count certainty) + 2 * distance_outside (least_sure count certainty) word right)
      (check_count tag)) (opens (sent_bits (take (data_count tag) right))))))
    where
      to : SomeOctets (length word) (IsRepair count) → Carries count
      to (right, size, fit, (is_right, (near, (frame, over, opening)))) = (
        frame,
        over,
        record {
          unknown = least_sure count certainty;
          codeword = right;
          least_sure = are_least_sure count certainty;
          repair = record {
            size = size;
            octets = fit;
            is_codeword = is_right;
            near = near;
          };
          opens = opening;
        },
      )

      from : Carries count → SomeOctets (length word) (IsRepair count)
      from (frame, over, c) =
          let r = c.repair in
          let flags : c.unknown ≡ least_sure count certainty =
          same_flags count certainty c.unknown (least_sure count certainty) c.least_sure (are_least_sure count certainty) in (
            c.codeword,
            r.size,
            r.octets,
            (
              r.is_codeword,
              (
                subst (λ u. count_true u + 2 * distance_outside u word c.codeword ≤ check_count tag) flags r.near,
                (frame, over, c.opens),
              ),
            ),
          )

  abbrev eighth : ℕ
  eighth = check_count tag / 8

  -- it is read as a frame
  abbrev Reads : Type 0
  Reads = (frame : List ℕ) × (over : ℕ) × ReadsFrame tag word certainty frame over

  -- from so many eighths on, fewer of which make it carry none
  reads_from : (left eighths : ℕ) → eighths + left ≡ 5
      → ((fewer : ℕ) → fewer < eighths → Carries (fewer * (check_count tag / 8)) → ⊥) → Decided Reads
  reads_from zero eighths all none = inr (λ r.
      let most = r.2.most in
      none r.2.eighths (omega arith) (r.0, r.1, r.2.carries))
  reads_from (suc left) eighths all none = elim (carries (eighths * (check_count tag / 8))) [
    | inl found ↦ inl (
      found.0,
      found.1,
      record {
        eighths = eighths;
        most = omega arith;
        carries = found.2;
        is_first = λ fewer below other other_over c. none fewer below (other, other_over, c);
      },
    )
    | inr never ↦ reads_from left (eighths + 1) (omega arith) (λ fewer below c. elim (cases_eq fewer eighths) [
      | inl same ↦ never (subst (λ e. Carries (e * (check_count tag / 8))) same c)
      | inr other ↦ none fewer (omega arith) c
    ])
  ]

  reads : Decided Reads
  reads = reads_from 5 0 refl (λ fewer below c. absurd (omega arith))

-- A block of a tag ends with the last bit, or none does.
module _ (tag : ℕ) (is_tag : IsTag tag) (bits : List Bool) (numbers : List ℕ) where
  abbrev start : ℕ
  start = length bits - 8 * block_length tag

  abbrev heard : List Bool
  heard = drop (start - 64) (take start bits)

  -- the numbers of the block's bits, and of how many octets they are
  abbrev last : List ℕ
  last = block_numbers tag numbers

  abbrev count : ℕ
  count = length last / 8

  abbrev Ends : Type 0
  Ends = (frame : List ℕ) × (over : ℕ) × EndsUnsureBlock bits numbers tag frame over

  abbrev IsWord : List ℕ → Type 0
  IsWord word = (drop start bits ≡ sent_bits word) × Reads tag word (octet_certainties count last)

  abbrev Parts : Type 0
  Parts = (64 + 8 * block_length tag ≤ length bits)
      × ((differing heard (tag_bits tag) ≤ 12) × ((length last ≡ 8 * count) × SomeOctets (block_length tag) IsWord))

  pub unsure_block_or_none : Ends ⊎ (Ends → ⊥)
  unsure_block_or_none =
      told to from (both (at_most (64 + 8 * block_length tag) (length bits))
      (both (at_most (differing heard (tag_bits tag)) 12) (both (cases_eq (length last) (8 * count))
      (some_octets (block_length tag) IsWord (λ word. both (same_bits (drop start bits) (sent_bits word))
      (reads tag word (octet_certainties count last)))))))
    where
      to : Parts → Ends
      to (least, (near, (whole, (word, size, fit, (is, (frame, over, read)))))) =
          let i : ℕ = length bits - 8 * block_length tag in
          let front = take i bits in
          let taken = length-take i bits in
          let dropped = length-drop (i - 64) front in (
            frame,
            over,
            record {
              before = take (i - 64) front;
              heard = drop (i - 64) front;
              word = word;
              certainty = octet_certainties count last;
              is_tag = is_tag;
              bits_are = sym (take-append-drop i bits)
                  ∙ ap (λ xs. xs ++ drop i bits) (sym (take-append-drop (i - 64) front))
                  ∙ append_assoc (take (i - 64) front) (drop (i - 64) front) (drop i bits)
                  ∙ ap (λ xs. take (i - 64) front ++ (drop (i - 64) front ++ xs)) is;
              near_tag = record { size = omega arith; near = near };
              octets = fit;
              size = size;
              certainties = are_octet_certainties count last whole;
              reads = read;
            },
          )

      from : Ends → Parts
      from (frame, over, ends) =
          let i : ℕ = length bits - 8 * block_length tag in
          let front = ends.before ++ ends.heard in
          let block = sent_bits ends.word in
          let block_size : length block ≡ 8 * block_length tag =
          length-sent_bits ends.word ∙ ap (λ n. 8 * n) ends.size in
          let all_bits : bits ≡ front ++ block = ends.bits_are ∙ sym (append_assoc ends.before ends.heard block) in
          let all = ap length all_bits ∙ length-append front block in
          let parts = length-append ends.before ends.heard in
          let tag_size = ends.near_tag.size in
          let first : take i bits ≡ front = ap (take i) all_bits ∙ take_at front block i (omega arith) in
          let last_bits : drop i bits ≡ block = ap (drop i) all_bits ∙ drop_at front block i (omega arith) in
          let tag_is : drop (i - 64) (take i bits) ≡ ends.heard = ap (drop (i - 64)) first
          ∙ drop_at ends.before ends.heard (i - 64) (omega arith) in
          let many = ends.certainties.size in
          let whole : length last ≡ 8 * count = of_eight (length last) (length ends.certainty) many in
          let sure : ends.certainty ≡ octet_certainties count last =
          same_certainties last ends.certainty (octet_certainties count last) ends.certainties
          (are_octet_certainties count last whole) in (
            omega arith,
            (
              subst (λ xs. differing xs (tag_bits tag) ≤ 12) (sym tag_is) ends.near_tag.near,
              (
                whole,
                (
                  ends.word,
                  ends.size,
                  ends.octets,
                  (
                    last_bits,
                    (frame, over, subst (λ ns. ReadsFrame tag ends.word ns frame over) sure ends.reads),
                  ),
                ),
              ),
            ),
          )
        where
          of_eight : (n m : ℕ) → n ≡ 8 * m → n ≡ 8 * (n / 8)
          of_eight n m e = omega arith
