-- Messages one by one.
use Rattle.std.proofs.Common.{◌≡◌, ℕ, zero, suc, ◌+◌, ◌<◌, ◌≤◌, ltb, cond, List, [], ◌++◌, length, take, drop, refl, ap}
use Rattle.std.proofs.Common.{◌∙◌, sym, inl, inr, arith, length-drop, length-append, Some, None}
use Rattle.std.proofs.lemmas.Bool.{cond-true, cond-false, lt-ltb, le-ltb, cases_lt}
use Rattle.std.proofs.lemmas.List.{take_at, drop_at}
use Rattle.agwpe_port.specs.Messages.{Reading, and_then, told_length, message_of, reading, reading_upto}

-- nothing is whole yet
abbrev pub nothing : Reading
nothing = record { messages = []; bad = None }

-- what a header and what stands after it are read as, if the next messages are read so
abbrev pub following_header : (List ℕ → Reading) → List ℕ → List ℕ → Reading
following_header next header following =
    cond (ltb 4096 (told_length header)) (record { messages = []; bad = Some (told_length header) })
    (cond (ltb (length following) (told_length header)) nothing
    (and_then (message_of header (take (told_length header) following)) (next (drop (told_length header) following))))

-- with one message more
abbrev one_more : ℕ → List ℕ → Reading
one_more most stream = cond (ltb (length stream) 36) nothing
    (following_header (reading_upto most) (take 36 stream) (drop 36 stream))

short_more : (most : ℕ) (stream : List ℕ) → length stream < 36 → one_more most stream ≡ nothing
short_more most stream short = cond-true _ _ _ (lt-ltb (length stream) 36 short)

header_more : (most : ℕ) (stream : List ℕ) → 36 ≤ length stream
    → one_more most stream ≡ following_header (reading_upto most) (take 36 stream) (drop 36 stream)
header_more most stream whole = cond-false _ _ _ (le-ltb (length stream) 36 whole)

-- two ways to read what follows that agree there
same_next : (first second : List ℕ → Reading) (header following : List ℕ)
    → first (drop (told_length header) following) ≡ second (drop (told_length header) following)
    → following_header first header following ≡ following_header second header following
same_next first second header following same =
    ap (λ r. cond (ltb 4096 (told_length header)) (record { messages = []; bad = Some (told_length header) })
    (cond (ltb (length following) (told_length header)) nothing
    (and_then (message_of header (take (told_length header) following)) r))) same

rest_le : (count most : ℕ) (stream : List ℕ) → 36 ≤ length stream → length stream ≤ suc most
    → length (drop count (drop 36 stream)) ≤ most
rest_le count most stream whole fits = omega (arith, length-drop count (drop 36 stream), length-drop 36 stream)

-- so the most does not matter if it is enough
enough : (m n : ℕ) (stream : List ℕ) → length stream ≤ m → length stream ≤ n
    → reading_upto m stream ≡ reading_upto n stream
enough zero zero stream first second = refl
enough zero (suc n) stream first second = sym (short_more n stream (omega arith))
enough (suc m) zero stream first second = short_more m stream (omega arith)
enough (suc m) (suc n) stream first second =
    elim (cases_lt (length stream) 36) [
      | inl short ↦ short_more m stream short ∙ sym (short_more n stream short)
      | inr whole ↦
          let header : List ℕ = take 36 stream in
          header_more m stream whole
          ∙ same_next (reading_upto m) (reading_upto n) header (drop 36 stream)
          (enough m n (drop (told_length header) (drop 36 stream)) (rest_le (told_length header) m stream whole first)
          (rest_le (told_length header) n stream whole second))
          ∙ sym (header_more n stream whole)
    ]

-- fewer octets than a header
pub reading_short : (stream : List ℕ) → length stream < 36 → reading stream ≡ nothing
unfolding reading
reading_short stream short = enough (length stream) (suc (length stream)) stream (omega arith) (omega arith)
    ∙ short_more (length stream) stream short

-- a header, and what stands after it
pub reading_header : (header following : List ℕ) → length header ≡ 36
    → reading (header ++ following) ≡ following_header reading header following
unfolding reading
reading_header header following size =
    let stream : List ℕ = header ++ following in
    let count : length stream ≡ length header + length following = length-append header following in
    let rest : List ℕ = drop (told_length header) following in
    let front : take 36 stream ≡ header = take_at header following 36 size in
    let back : drop 36 stream ≡ following = drop_at header following 36 size in
    enough (length stream) (suc (length stream)) stream (omega arith) (omega arith)
    ∙ header_more (length stream) stream (omega arith)
    ∙ ap (λ h. following_header (reading_upto (length stream)) h (drop 36 stream)) front
    ∙ ap (λ xs. following_header (reading_upto (length stream)) header xs) back
    ∙ same_next (reading_upto (length stream)) reading header following
    (enough (length stream) (length rest) rest (omega (arith, length-drop (told_length header) following)) (omega arith))

-- a header that tells too long a body
pub reading_bad : (header following : List ℕ) → length header ≡ 36 → 4096 < told_length header
    → reading (header ++ following) ≡ record { messages = []; bad = Some (told_length header) }
reading_bad header following size long = reading_header header following size
    ∙ cond-true _ _ _ (lt-ltb 4096 (told_length header) long)

-- a header whose body is not there to its end
pub reading_open : (header body : List ℕ) → length header ≡ 36 → told_length header ≤ 4096
    → length body < told_length header → reading (header ++ body) ≡ nothing
reading_open header body size fits short =
    reading_header header body size
    ∙ cond-false _ _ _ (le-ltb 4096 (told_length header) fits)
    ∙ cond-true _ _ _ (lt-ltb (length body) (told_length header) short)

-- a whole message, and what stands after it
pub reading_whole : (header body more : List ℕ) → length header ≡ 36 → told_length header ≤ 4096
    → length body ≡ told_length header
    → reading (header ++ (body ++ more)) ≡ and_then (message_of header body) (reading more)
reading_whole header body more size fits whole =
    let len : ℕ = told_length header in
    reading_header header (body ++ more) size
    ∙ cond-false _ _ _ (le-ltb 4096 len fits)
    ∙ cond-false _ _ _ (le-ltb (length (body ++ more)) len (omega (arith, length-append body more)))
    ∙ ap (λ xs. and_then (message_of header xs) (reading (drop len (body ++ more)))) (take_at body more len whole)
    ∙ ap (λ xs. and_then (message_of header body) (reading xs)) (drop_at body more len whole)
