-- Chunks one by one.
use Rattle.std.proofs.Common.{◌≡◌, ℕ, zero, suc, ◌+◌, ◌<◌, ◌≤◌, ltb, cond, List, [], ◌∷◌, length, drop, refl, ap, ◌∙◌}
use Rattle.std.proofs.Common.{sym, inl, inr, arith, length-drop}
use Rattle.std.proofs.lemmas.Bool.{cond-true, cond-false, lt-ltb, le-ltb, cases_lt}
use Rattle.wav_file.specs.Chunks.{Chunk, chunk_at, chunks, chunks_upto, padded}

-- what chunks_upto does with one chunk more
abbrev pub one_more : ℕ → ℕ → List ℕ → List Chunk
one_more most place octets =
    cond (ltb (length octets) 8) [] (chunk_at place octets ∷ chunks_upto most
    (place + 8 + padded (chunk_at place octets).size)
    (drop (padded (chunk_at place octets).size) (chunk_at place octets).trailing))

short_more : (most place : ℕ) (octets : List ℕ) → length octets < 8 → one_more most place octets ≡ []
short_more most place octets short = cond-true _ _ _ (lt-ltb (length octets) 8 short)

whole_more : (most place : ℕ) (octets : List ℕ) → 8 ≤ length octets
    → one_more most place octets ≡ chunk_at place octets ∷ chunks_upto most
    (place + 8 + padded (chunk_at place octets).size)
    (drop (padded (chunk_at place octets).size) (chunk_at place octets).trailing)
whole_more most place octets whole = cond-false _ _ _ (le-ltb (length octets) 8 whole)

-- after a chunk there are fewer octets
rest_le : (skip most : ℕ) (octets : List ℕ) → 8 ≤ length octets → length octets ≤ suc most
    → length (drop skip (drop 8 octets)) ≤ most
rest_le skip most octets whole fits = omega (arith, length-drop skip (drop 8 octets), length-drop 8 octets)

-- so the most does not matter if it is enough
enough : (m n place : ℕ) (octets : List ℕ) → length octets ≤ m → length octets ≤ n
    → chunks_upto m place octets ≡ chunks_upto n place octets
enough zero zero place octets first second = refl
enough zero (suc n) place octets first second = sym (short_more n place octets (omega arith))
enough (suc m) zero place octets first second = short_more m place octets (omega arith)
enough (suc m) (suc n) place octets first second =
    elim (cases_lt (length octets) 8) [
      | inl short ↦ short_more m place octets short ∙ sym (short_more n place octets short)
      | inr whole ↦
          let chunk : Chunk = chunk_at place octets in
          let skip : ℕ = padded chunk.size in
          whole_more m place octets whole
          ∙ ap (λ others. chunk ∷ others)
          (enough m n (place + 8 + skip) (drop skip chunk.trailing) (rest_le skip m octets whole first)
          (rest_le skip n octets whole second))
          ∙ sym (whole_more n place octets whole)
    ]

-- fewer octets than a head are no chunk
pub chunks_short : (place : ℕ) (octets : List ℕ) → length octets < 8 → chunks place octets ≡ []
unfolding chunks
chunks_short place octets short = enough (length octets) (suc (length octets)) place octets (omega arith) (omega arith)
    ∙ short_more (length octets) place octets short

-- the chunk at the front, and those after it
pub chunks_whole : (place : ℕ) (octets : List ℕ) → 8 ≤ length octets
    → chunks place octets ≡ chunk_at place octets ∷ chunks (place + 8 + padded (chunk_at place octets).size)
    (drop (padded (chunk_at place octets).size) (drop 8 octets))
unfolding chunks
chunks_whole place octets whole =
    let skip : ℕ = padded (chunk_at place octets).size in
    let rest : List ℕ = drop skip (drop 8 octets) in
    enough (length octets) (suc (length octets)) place octets (omega arith) (omega arith)
    ∙ whole_more (length octets) place octets whole
    ∙ ap (λ others. chunk_at place octets ∷ others)
    (enough (length octets) (length rest) (place + 8 + skip) rest
    (rest_le skip (length octets) octets whole (omega arith)) (omega arith))
