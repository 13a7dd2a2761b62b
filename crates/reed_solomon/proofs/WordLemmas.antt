-- Words as they are sent, and whole.
use Rattle.reed_solomon.proofs.Common.{◌≡◌, ℕ, ◌+◌, ◌-◌, ◌<◌, ◌≤◌, List, ◌++◌, length, take, drop, replicate}
use Rattle.reed_solomon.proofs.Common.{ap, ◌∙◌, sym, arith, length-replicate, length-take, length-drop, take_at}
use Rattle.reed_solomon.proofs.Common.{drop_at, append_assoc, take-append-drop, Code, Zeros, Leading, Between}
use Rattle.reed_solomon.proofs.Common.{with_zeros, distance, whole, zeros_before}
use Rattle.reed_solomon.proofs.DistanceLemmas.{length-with_zeros, length-whole, Octets-whole, distance-whole}
use Rattle.reed_solomon.proofs.DistanceLemmas.{distance-append, Octets-take, Octets-drop}
use Rattle.reed_solomon.proofs.ValueLemmas.{Octets}

-- ---- the sent part of a whole word

pub sent_octets : (zeros : Zeros) (n m : ℕ) (octets check : List ℕ) → length octets ≡ m
    → take m (drop (zeros_before zeros n) (with_zeros zeros n octets ++ check)) ≡ octets
sent_octets Leading n m octets check size =
    ap (λ xs. take m (drop n xs)) (append_assoc (replicate n 0) octets check)
    ∙ ap (take m) (drop_at (replicate n 0) (octets ++ check) n (length-replicate {A = ℕ} n 0))
    ∙ take_at octets check m size
sent_octets Between n m octets check size =
    ap (take m) (append_assoc octets (replicate n 0) check) ∙ take_at octets (replicate n 0 ++ check) m size

pub sent_check : (zeros : Zeros) (n m : ℕ) (octets check : List ℕ) → n + length octets ≡ m
    → drop m (with_zeros zeros n octets ++ check) ≡ check
sent_check zeros n m octets check size =
    drop_at (with_zeros zeros n octets) check m (length-with_zeros zeros n octets ∙ size)

-- ---- a word and a codeword within reach, whole

abbrev pub data_part : Code → List ℕ → List ℕ
data_part code word = take (length word - code.check_count) word

abbrev pub check_part : Code → List ℕ → List ℕ
check_part code word = drop (length word - code.check_count) word

-- a word as 255 octets
abbrev pub long : Code → List ℕ → List ℕ
long code word = whole code (data_part code word) (check_part code word)

pub length-data_part : (code : Code) (word : List ℕ) → code.check_count ≤ length word
    → length (data_part code word) + code.check_count ≡ length word
length-data_part code word least = omega (arith, length-take (length word - code.check_count) word)

length-check_part : (code : Code) (word : List ℕ) → code.check_count ≤ length word
    → length (check_part code word) ≡ code.check_count
length-check_part code word least = omega (arith, length-drop (length word - code.check_count) word)

pub length-long : (code : Code) (word : List ℕ) → code.check_count ≤ length word → length word ≤ 255
    → length (long code word) ≡ 255
length-long code word least most =
    length-whole code (data_part code word) (check_part code word) (omega (arith, length-data_part code word least))
    (length-check_part code word least)

pub distance-long : (code : Code) (u v : List ℕ) → code.check_count ≤ length u → length u ≡ length v
    → distance (long code u) (long code v) ≡ distance u v
distance-long code u v least size =
    let n = length u - code.check_count in
    let m = length v - code.check_count in
    let same : m ≡ n = omega arith in
    let parts : length (take n u) ≡ length (take m v) = omega (arith, length-take n u, length-take m v) in
    distance-whole code (take n u) (take m v) (drop n u) (drop m v) parts
    ∙ sym (distance-append (take n u) (drop n u) (take m v) (drop m v) parts)
    ∙ ap (λ xs. distance xs (take m v ++ drop m v)) (take-append-drop n u)
    ∙ ap (distance u) (take-append-drop m v)

-- a word by its parts
pub parts : (code : Code) (word : List ℕ) → data_part code word ++ check_part code word ≡ word
parts code word = take-append-drop (length word - code.check_count) word

pub Octets-long : (code : Code) (word : List ℕ) → Octets word → Octets (long code word)
Octets-long code word octets =
    let n = length word - code.check_count in
    Octets-whole code (take n word) (drop n word) (Octets-take n word octets) (Octets-drop n word octets)
