-- The numbers that a block asks for are kept, and remain so with one bit more.
use Rattle.fx25_receiver.proofs.Common.{◌≡◌, ℕ, ◌+◌, ◌*◌, ◌<◌, ◌≤◌, Bool, List, [], ◌∷◌, ◌++◌, length, drop, ap, sym, ◌∙◌}
use Rattle.fx25_receiver.proofs.Common.{arith, append-nil, append_assoc, cases_eq, inl, inr, length-append, length_push}
use Rattle.fx25_receiver.proofs.Common.{subst, IsTag, block_length}
use Rattle.std.proofs.Common.{◌-◌, max}
use Rattle.std.proofs.Math.Seq.{drop-append-add}
use Rattle.std.proofs.lemmas.List.{drop-append-le, drop-drop, drop_all, length-drop}
use Rattle.fx25_blocks.proofs.TagFacts.{most_octets}
use Rattle.fx25_blocks.specs.Held.{StandsFor as ReaderStandsFor}
use Rattle.fx25_blocks.specs.HeldCertainties.{StandsFor as AreKept}
use Rattle.fx25_blocks.specs.UnsureBlocks.{block_numbers}
use Rattle.fx25_blocks.specs.declared.certainties.Certainties.{Certainties}
use Rattle.fx25_receiver.specs.Known.{KnowsNumbers}
use Rattle.fx25_receiver.specs.declared.resting_reader.RestingReader.{RestingReader}

-- all that is kept, the last numbers at its end
abbrev pub all_kept : (held : RestingReader) (certainties : Certainties) (numbers : List ℕ)
    → KnowsNumbers held certainties numbers → List ℕ
all_kept held certainties numbers known = known.earlier ++ drop (length numbers - known.count) numbers

module _ (held : RestingReader) (certainties : Certainties) (numbers : List ℕ)
    (known : KnowsNumbers held certainties numbers) (bits : List Bool) (tag : ℕ) (is_tag : IsTag tag) where
  -- a block that fits into what the whole reader has taken has its numbers
  pub count_enough : 0 < held.awake → ReaderStandsFor held.reader bits → 64 + 8 * block_length tag ≤ length bits
      → 8 * block_length tag ≤ known.count
  count_enough awake stands fits =
      omega (arith, known.enough awake, stands.kept.taken_is, most_octets tag is_tag, fits)

  pub kept_enough : 8 * block_length tag ≤ known.count
      → 8 * block_length tag ≤ length (all_kept held certainties numbers known)
  kept_enough within =
      omega (
        arith,
        within,
        known.within,
        length-append known.earlier (drop (length numbers - known.count) numbers),
        length-drop (length numbers - known.count) numbers,
      )

  pub same_numbers : 8 * block_length tag ≤ known.count
      → block_numbers tag (all_kept held certainties numbers known) ≡ block_numbers tag numbers
  same_numbers within =
      let m : ℕ = 8 * block_length tag in
      let last : List ℕ = drop (length numbers - known.count) numbers in
      let all_within = known.within in
      let size : length last ≡ known.count = omega (arith, length-drop (length numbers - known.count) numbers) in
      let place : length (known.earlier ++ last) - m ≡ length known.earlier + (known.count - m) =
      omega (arith, length-append known.earlier last) in
      let back : length numbers - known.count + (known.count - m) ≡ length numbers - m = omega arith in
      ap (λ n. drop n (known.earlier ++ last)) place ∙ drop-append-add known.earlier last (known.count - m)
      ∙ drop-drop (known.count - m) (length numbers - known.count) numbers ∙ ap (λ n. drop n numbers) back

-- ---- one bit more

-- before the first bit
pub none_known : (held : RestingReader) (certainties : Certainties) → AreKept certainties []
    → held.reader.taken ≡ 0 → KnowsNumbers held certainties []
none_known held certainties kept none = record {
  count = 0;
  earlier = [];
  within = omega arith;
  enough = λ awake. omega arith;
  kept = kept;
}

-- while a reader rests it owes no numbers
pub rests_known : (now : RestingReader) (certainties : Certainties) (kept more : List ℕ) → AreKept certainties kept
    → (0 < now.awake → now.reader.taken ≤ 64) → KnowsNumbers now certainties more
rests_known now certainties kept more are few =
    let none : drop (length more - 0) more ≡ [] = drop_all (length more - 0) more (omega arith) in
    record {
      count = 0;
      earlier = kept;
      within = omega arith;
      enough = λ awake. (let most = few awake in omega arith);
      kept = subst (AreKept certainties) (sym (ap (λ ns. kept ++ ns) none ∙ append-nil kept)) are;
    }

pub known_at_rest : (held now : RestingReader) (certainties : Certainties) (numbers more : List ℕ)
    → KnowsNumbers held certainties numbers → (0 < now.awake → now.reader.taken ≤ 64)
    → KnowsNumbers now certainties more
known_at_rest held now certainties numbers more known few =
    rests_known now certainties (all_kept held certainties numbers known) more known.kept few

-- a reader that is awake has the number of the next bit, too
pub known_more : (held now : RestingReader) (certainties next : Certainties) (numbers : List ℕ) (number : ℕ)
    → KnowsNumbers held certainties numbers → 0 < held.awake
    → now.reader.taken ≤ max 64 (held.reader.taken + 1)
    → ((ns : List ℕ) → AreKept certainties ns → AreKept next (ns ++ number ∷ []))
    → KnowsNumbers now next (numbers ++ number ∷ [])
known_more held now certainties next numbers number known awake most push =
    let c : ℕ = known.count in
    let size = length_push numbers number in
    let within = known.within in
    let had = known.enough awake in
    let last : List ℕ = drop (length numbers - c) numbers in
    let place : length (numbers ++ number ∷ []) - (c + 1) ≡ length numbers - c = omega arith in
    let more : drop (length (numbers ++ number ∷ []) - (c + 1)) (numbers ++ number ∷ []) ≡ last ++ number ∷ [] =
    ap (λ n. drop n (numbers ++ number ∷ [])) place
    ∙ drop-append-le (length numbers - c) numbers (number ∷ []) (omega arith) in
    record {
      count = c + 1;
      earlier = known.earlier;
      within = omega arith;
      enough = λ some. omega arith;
      kept = subst (AreKept next) (append_assoc known.earlier last (number ∷ [])
          ∙ ap (λ ns. known.earlier ++ ns) (sym more)) (push (known.earlier ++ last) known.kept);
    }

-- a lane that keeps a number and then takes the bit
pub known_after : (held noted now : RestingReader) (certainties next last : Certainties) (number : ℕ) → noted ≡ held
    → ((ns : List ℕ) → AreKept certainties ns → AreKept next (ns ++ number ∷ [])) → last ≡ next
    → (0 < noted.awake → now.reader.taken ≤ max 64 (noted.reader.taken + 1))
    → (noted.awake ≡ 0 → 0 < now.awake → now.reader.taken ≤ 64)
    → (numbers : List ℕ) → KnowsNumbers held certainties numbers → KnowsNumbers now last (numbers ++ number ∷ [])
known_after held noted now certainties next last number same push as_noted more woken numbers known =
    let awake_same : noted.awake ≡ held.awake = ap (λ r. r.awake) same in
    let taken_same : noted.reader.taken ≡ held.reader.taken = ap (λ r. r.reader.taken) same in
    let all : List ℕ = all_kept held certainties numbers known in
    subst (λ cs. KnowsNumbers now cs (numbers ++ number ∷ [])) (sym as_noted) (elim (cases_eq held.awake 0) [
      | inl rests ↦
          rests_known now next (all ++ number ∷ []) (numbers ++ number ∷ []) (push all known.kept)
          (woken (awake_same ∙ rests))
      | inr some ↦
          (let awake : 0 < held.awake = omega arith in
          let most = more (omega arith) in
          known_more held now certainties next numbers number known awake (omega arith) push)
    ])
