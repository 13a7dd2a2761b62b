-- A block with octets of any certainty is read as one frame at most; one that is near enough as it came, as its own.
use Rattle.fx25_blocks.proofs.Common.{◌≡◌, ℕ, ◌+◌, ◌*◌, ◌/◌, ◌<◌, ◌≤◌, Bool, false, List, length, take, replicate, get_or}
use Rattle.fx25_blocks.proofs.Common.{All, ap, subst, refl, ◌∙◌, sym, inl, inr, arith, cases_lt, sent_bits}
use Rattle.fx25_blocks.proofs.Common.{IsTag, IsRepairOf, CarriesFrame, OpensWithFrame, block_length, check_count}
use Rattle.fx25_blocks.proofs.Common.{data_count}
use Rattle.fx25_blocks.specs.LeastSure.{AreLeastSure, rank}
use Rattle.fx25_blocks.specs.UnknownOctets.{CarriesWithUnknown, IsRepairOutside, ReadsFrame}
use Rattle.reed_solomon.specs.Erasures.{IsWithinReachOutside}
use Rattle.reed_solomon.proofs.UnknownLemmas.{one_within_reach_outside, reach_of_known}
use Rattle.std.proofs.lemmas.Bool.{le-ltb}
use Rattle.std.proofs.lemmas.List.{ext_get_or, get_or-replicate, length-replicate}
use Rattle.fx25_blocks.proofs.BlockLaws.{code_of, reach_of}
use Rattle.fx25_blocks.proofs.OpenLemmas.{one_opening}
use Rattle.fx25_blocks.proofs.ReaderLemmas.{same_octet_list}
use Rattle.fx25_blocks.proofs.TagFacts.{most_octets}

reach_outside : (tag : ℕ) (is_tag : IsTag tag) (unknown : List Bool) (word codeword : List ℕ)
    → IsRepairOutside tag unknown word codeword → IsWithinReachOutside (code_of tag is_tag) unknown word codeword
unfolding code_of
reach_outside tag is_tag unknown word codeword repair =
    record { size = repair.size; octets = repair.octets; codeword = repair.is_codeword; near = repair.near }

pub one_repair_outside : (tag : ℕ) (unknown : List Bool) (word u v : List ℕ) → IsTag tag
    → length word ≡ block_length tag → IsRepairOutside tag unknown word u → IsRepairOutside tag unknown word v → u ≡ v
unfolding code_of
one_repair_outside tag unknown word u v is_tag size first second =
    one_within_reach_outside (code_of tag is_tag) unknown word u v (omega arith)
    (omega (arith, most_octets tag is_tag)) (reach_outside tag is_tag unknown word u first)
    (reach_outside tag is_tag unknown word v second)

pub same_flags : (count : ℕ) (certainty : List ℕ) (u v : List Bool) → AreLeastSure count certainty u
    → AreLeastSure count certainty v → u ≡ v
same_flags count certainty u v first second =
    ext_get_or false u v (first.size ∙ sym second.size) (λ n below.
    first.flags n (omega (arith, first.size)) ∙ sym (second.flags n (omega (arith, first.size))))

one_with_unknown : (tag count : ℕ) (word certainty frame other : List ℕ) (over other_over : ℕ) → IsTag tag
    → length word ≡ block_length tag → CarriesWithUnknown tag count word certainty frame over
    → CarriesWithUnknown tag count word certainty other other_over → (frame ≡ other) × (over ≡ other_over)
one_with_unknown tag count word certainty frame other over other_over is_tag size first second =
    let flags : first.unknown ≡ second.unknown =
    same_flags count certainty first.unknown second.unknown first.least_sure second.least_sure in
    let codewords : first.codeword ≡ second.codeword =
    one_repair_outside tag second.unknown word first.codeword second.codeword is_tag size
    (subst (λ (fs : List Bool). IsRepairOutside tag fs word first.codeword) flags first.repair) second.repair in
    one_opening (sent_bits (take (data_count tag) second.codeword)) frame other over other_over
    (subst (λ xs. OpensWithFrame (sent_bits (take (data_count tag) xs)) frame over) codewords first.opens) second.opens

pub one_read : (tag : ℕ) (word certainty frame other : List ℕ) (over other_over : ℕ) → IsTag tag
    → length word ≡ block_length tag → ReadsFrame tag word certainty frame over
    → ReadsFrame tag word certainty other other_over → (frame ≡ other) × (over ≡ other_over)
one_read tag word certainty frame other over other_over is_tag size first second =
    elim (cases_lt first.eighths second.eighths) [
      | inl before ↦ absurd (second.is_first first.eighths before frame over first.carries)
      | inr not_before ↦
          elim (cases_lt second.eighths first.eighths) [
            | inl later ↦ absurd (first.is_first second.eighths later other other_over second.carries)
            | inr not_later ↦
                let same : first.eighths ≡ second.eighths = omega arith in
                one_with_unknown tag (second.eighths * (check_count tag / 8)) word certainty frame other over other_over
                is_tag size
                (subst (λ (n : ℕ). CarriesWithUnknown tag (n * (check_count tag / 8)) word certainty frame over) same
                first.carries) second.carries
          ]
    ]

-- no octet is one of the 0 least sure
none_least_sure : (certainty : List ℕ) → AreLeastSure 0 certainty (replicate (length certainty) false)
none_least_sure certainty = record {
  size = length-replicate {A = Bool} (length certainty) false;
  flags = λ place below. get_or-replicate (length certainty) place false false below
      ∙ sym (le-ltb (rank certainty place) 0 (omega arith));
}

near_outside : (tag n : ℕ) (is_tag : IsTag tag) (word codeword : List ℕ) → IsRepairOf tag word codeword
    → IsRepairOutside tag (replicate n false) word codeword
unfolding code_of
near_outside tag n is_tag word codeword repair =
    let within = (reach_of_known (code_of tag is_tag) n word codeword).1 (reach_of tag is_tag word codeword repair) in
    record { size = within.size; octets = within.octets; is_codeword = within.codeword; near = within.near }

pub near_read : (tag : ℕ) (word certainty frame : List ℕ) (over : ℕ) → IsTag tag → All (λ octet. octet < 256) word
    → CarriesFrame tag (sent_bits word) frame over → ReadsFrame tag word certainty frame over
near_read tag word certainty frame over is_tag octets carries =
    let same : carries.word ≡ word = same_octet_list carries.word word carries.octets octets (sym carries.bits_are) in
    let none : ℕ = 0 in
    let count : none ≡ none * (check_count tag / 8) = omega arith in
    let plain : CarriesWithUnknown tag none word certainty frame over = record {
      unknown = replicate (length certainty) false;
      codeword = carries.codeword;
      least_sure = none_least_sure certainty;
      repair = near_outside tag (length certainty) is_tag word carries.codeword
          (subst (λ xs. IsRepairOf tag xs carries.codeword) same carries.repair);
      opens = carries.opens;
    } in
    record {
      eighths = none;
      most = omega arith;
      carries = subst (λ (n : ℕ). CarriesWithUnknown tag n word certainty frame over) count plain;
      is_first = λ fewer below other other_over. absurd (omega arith);
    }
