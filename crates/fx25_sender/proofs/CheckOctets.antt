-- Data octets and the check octets of a division make a codeword.
use Rattle.fx25_sender.proofs.Common.{◌≡◌, ℕ, ◌+◌, ◌-◌, ◌≤◌, List, ◌++◌, length, replicate, fold, subst, ap, ◌∙◌, sym}
use Rattle.fx25_sender.proofs.Common.{arith, length-replicate, IsTag, IsBlockCodeword, Vanishes, Code, Between}
use Rattle.fx25_sender.proofs.Common.{whole_of}
use Rattle.fx25_sender.proofs.Common.{check_count, data_count, check_octets, generator_of, taken}
use Rattle.reed_solomon.proofs.DistanceLemmas.{codeword_parts}
use Rattle.reed_solomon.proofs.GeneratorLemmas.{length-generator_of, Octets-generator_of, generator_vanishes}
use Rattle.reed_solomon.proofs.RegisterLemmas.{length-register, Octets-register, register_checks, value_at-with_zeros}
use Rattle.reed_solomon.proofs.ValueLemmas.{Octets, Octets-append, Octets-replicate}
use Rattle.reed_solomon.specs.Values.{value_at}
use Rattle.fx25_blocks.proofs.BlockLaws.{code_of}
use Rattle.fx25_blocks.proofs.TagFacts.{least_checks}

module _ (count : ℕ) (octets : List ℕ) (some : 1 ≤ count) (all : Octets octets) where
  abbrev generator : List ℕ
  generator = generator_of 1 count

  abbrev division : List ℕ
  division = octets ++ replicate (255 - count - length octets) 0

  size_of : length generator ≡ count
  size_of = length-generator_of 1 count

  start : length (replicate {A = ℕ} count 0) ≡ length generator
  start = length-replicate {A = ℕ} count 0 ∙ sym size_of

  pub length-check_octets : length (check_octets count octets) ≡ count
  unfolding check_octets
  length-check_octets =
      length-register generator (replicate count 0) division start (omega (arith, size_of)) ∙ size_of

  pub Octets-check_octets : Octets (check_octets count octets)
  unfolding check_octets
  Octets-check_octets =
      Octets-register generator (replicate count 0) division start (omega (arith, size_of))
      (Octets-generator_of 1 count)
      (Octets-replicate count)

  pub checks_vanish : Vanishes 1 count (whole_of Between count octets (check_octets count octets))
  unfolding check_octets whole_of
  checks_vanish = λ j from below.
      let zeros = replicate (255 - count - length octets) 0 in
      let division_octets = Octets-append octets zeros all (Octets-replicate (255 - count - length octets)) in
      ap (λ n. value_at j (division ++ fold (taken generator) (replicate n 0) division)) (sym size_of)
      ∙ register_checks j generator division (omega (arith, size_of)) (Octets-generator_of 1 count) division_octets
      (generator_vanishes 1 count j from below)

-- the octets of a tag, in as many as it has data octets
pub checks_make_a_codeword : (tag : ℕ) (octets : List ℕ) → IsTag tag → Octets octets
    → IsBlockCodeword tag (octets ++ check_octets (check_count tag) octets)
unfolding code_of
checks_make_a_codeword tag octets is_tag all =
    let count = check_count tag in
    let some : 1 ≤ count = omega (arith, least_checks tag is_tag) in
    (codeword_parts (code_of tag is_tag) (λ xs check. Vanishes 1 count (whole_of Between count xs check)) octets
    (check_octets count octets) (length-check_octets count octets some all)).1 (checks_vanish count octets some all)
