-- Octets in a ring, cut into pieces.
use Rattle.host_ports.proofs.Common.{◌≡◌, refl, ℕ, ◌+◌, ◌-◌, ◌<◌, ◌≤◌, [], ◌++◌, length, take, drop, set, sum, sym, ap}
use Rattle.host_ports.proofs.Common.{◌∙◌, arith, subst, take-append-drop, take-append-le, length-drop, length-take-le}
use Rattle.host_ports.proofs.Common.{take-length, cut, octets_of, with_piece, front_of, after_sending, following}
use Rattle.std.proofs.Common.{List, ◌∷◌, All, suc}
use Rattle.std.proofs.lemmas.List.{drop-append-le, drop-take, drop-drop}
use Rattle.std.proofs.lemmas.List.Sums.{sum_by-cons}
use Rattle.std.proofs.Math.Seq.{drop-length, take-append-add}

pub empty_of_no_length : (octets : List ℕ) → 0 ≡ length octets → octets ≡ []
empty_of_no_length [] none = refl
empty_of_no_length (octet ∷ octets) none = absurd (omega arith)

-- the octets that are left when the front piece is cut off
pub rest_counted : (len : ℕ) (lens octets : List ℕ) → sum (len ∷ lens) ≡ length octets
    → sum lens ≡ length (drop len octets)
rest_counted len lens octets all =
    let parts : len + sum lens ≡ length octets = sym (sum_by-cons (λ n. n) len lens) ∙ all in
    let l : length (drop len octets) ≡ length octets - len = length-drop len octets in
    omega arith

-- all octets that wait are those in the ring
pub octets_of-cut : (lens octets : List ℕ) → sum lens ≡ length octets → octets_of (cut lens octets) ≡ octets
octets_of-cut [] octets all = sym (empty_of_no_length octets all)
octets_of-cut (len ∷ lens) octets all =
    ap (λ rest. take len octets ++ rest) (octets_of-cut lens (drop len octets) (rest_counted len lens octets all))
    ∙ take-append-drop len octets

-- a piece more
pub cut-append : (lens octets piece : List ℕ) → sum lens ≡ length octets
    → cut (lens ++ length piece ∷ []) (octets ++ piece) ≡ cut lens octets ++ piece ∷ []
cut-append [] [] piece all = ap (λ first. first ∷ []) (take-length piece)
cut-append [] (octet ∷ octets) piece all = absurd (omega arith)
cut-append (len ∷ lens) octets piece all =
    let parts : len + sum lens ≡ length octets = sym (sum_by-cons (λ n. n) len lens) ∙ all in
    let within : len ≤ length octets = omega arith in
    ap (λ f. f ∷ cut (lens ++ length piece ∷ []) (drop len (octets ++ piece))) (take-append-le len octets piece within)
    ∙ ap (λ o. take len octets ∷ cut (lens ++ length piece ∷ []) o) (drop-append-le len octets piece within)
    ∙ ap (λ o. take len octets ∷ o) (cut-append lens (drop len octets) piece (rest_counted len lens octets all))

-- the length of the front piece
abbrev pub front_len : List ℕ → ℕ
front_len [] = 0
front_len (len ∷ lens) = len

pub front_of-cut : (lens octets : List ℕ) → front_of (cut lens octets) ≡ take (front_len lens) octets
front_of-cut [] octets = refl
front_of-cut (len ∷ lens) octets = refl

-- the whole front piece is sent
pub cut-all_sent : (lens octets : List ℕ) → sum lens ≡ length octets
    → cut (drop 1 lens) (drop (front_len lens) octets) ≡ after_sending (front_len lens) (cut lens octets)
cut-all_sent [] octets all = refl
cut-all_sent (len ∷ lens) octets all =
    let parts : len + sum lens ≡ length octets = sym (sum_by-cons (λ n. n) len lens) ∙ all in
    let within : len ≤ length octets = omega arith in
    let long : length (take len octets) ≡ len = length-take-le len octets within in
    let nothing : drop len (take len octets) ≡ [] = subst (λ n. drop n (take len octets) ≡ []) long
    (drop-length (take len octets)) in
    ap (λ left. following left (cut lens (drop len octets))) (sym nothing)

-- a part of the front piece is sent
pub after_some : (left : List ℕ) (pieces : List (List ℕ)) → 0 < length left → following left pieces ≡ left ∷ pieces
after_some [] pieces some = absurd (omega arith)
after_some (octet ∷ octets) pieces some = refl

pub cut-part_sent : (count len : ℕ) (lens octets : List ℕ) → count < len → sum (len ∷ lens) ≡ length octets
    → cut ((len - count) ∷ lens) (drop count octets) ≡ after_sending count (cut (len ∷ lens) octets)
cut-part_sent count len lens octets part all =
    let split : count + (len - count) ≡ len = omega arith in
    let parts : len + sum lens ≡ length octets = sym (sum_by-cons (λ n. n) len lens) ∙ all in
    let within : len ≤ length octets = omega arith in
    let left : drop count (take len octets) ≡ take (len - count) (drop count octets) =
    subst (λ n. drop count (take n octets) ≡ take (len - count) (drop count octets)) split
    (drop-take count (len - count) octets) in
    let others : drop (len - count) (drop count octets) ≡ drop len octets =
    drop-drop (len - count) count octets ∙ ap (λ n. drop n octets) split in
    let long : length (take (len - count) (drop count octets)) ≡ len - count =
    length-take-le (len - count) (drop count octets) (let l : length (drop count octets) ≡ length octets - count =
    length-drop count octets in omega arith) in
    ap (λ o. take (len - count) (drop count octets) ∷ cut lens o) others
    ∙ sym (after_some (take (len - count) (drop count octets)) (cut lens (drop len octets)) (omega arith))
    ∙ ap (λ l. following l (cut lens (drop len octets))) (sym left)

pub whole_of : (lens octets : List ℕ) (pieces : List (List ℕ)) → sum lens ≡ length octets → cut lens octets ≡ pieces
    → octets_of pieces ≡ octets
whole_of lens octets pieces all view = sym (ap octets_of view) ∙ octets_of-cut lens octets all

pub front_is : (lens octets : List ℕ) (pieces : List (List ℕ)) → cut lens octets ≡ pieces
    → front_of pieces ≡ take (front_len lens) octets
front_is lens octets pieces view = sym (ap front_of view) ∙ front_of-cut lens octets

-- two parts that follow one another, the second cut off
pub parts_cut : (first second octets : List ℕ) (len : ℕ) → first ++ second ≡ octets → length first ≤ len
    → first ++ take (len - length first) second ≡ take len octets
parts_cut first second octets len parts more =
    let sum_is : length first + (len - length first) ≡ len = omega arith in
    sym (take-append-add first second (len - length first)) ∙ ap (λ n. take n (first ++ second)) sum_is
    ∙ ap (λ o. take len o) parts

-- a piece with octets waits as it is
pub some_piece : (piece : List ℕ) (pieces : List (List ℕ)) → 0 < length piece
    → with_piece piece pieces ≡ pieces ++ piece ∷ []
some_piece [] pieces some = absurd (omega arith)
some_piece (octet ∷ octets) pieces some = refl

-- ---- the ring after a send

pub front_within : (lens octets : List ℕ) → sum lens ≡ length octets → front_len lens ≤ length octets
front_within [] octets all = omega arith
front_within (len ∷ lens) octets all =
    let parts : len + sum lens ≡ length octets = sym (sum_by-cons (λ n. n) len lens) ∙ all in
    omega arith

pub front_long : (lens octets : List ℕ) (pieces : List (List ℕ)) → sum lens ≡ length octets → cut lens octets ≡ pieces
    → length (front_of pieces) ≡ front_len lens
front_long lens octets pieces all view =
    ap length (front_is lens octets pieces view) ∙ length-take-le (front_len lens) octets (front_within lens octets all)

-- octets at the front are taken off, at most those of the front piece
pub record Drops (count front : ℕ) (lens octets left : List ℕ) : Type 0 where
  pub front_is : front ≡ front_len lens
  pub within : front_len lens ≤ length octets
  pub asked : count ≤ front_len lens
  pub left_is : left ≡ drop count octets

pub drops : (count front counted : ℕ) (lens octets left : List ℕ) (pieces : List (List ℕ)) → sum lens ≡ length octets
    → cut lens octets ≡ pieces → front ≡ length (front_of pieces) → count ≤ length (front_of pieces)
    → counted ≡ length octets → left ≡ drop (length octets - (counted - count)) octets
    → Drops count front lens octets left
drops count front counted lens octets left pieces all view is asked counts left_is =
    let long : length (front_of pieces) ≡ front_len lens = front_long lens octets pieces all view in
    let within : front_len lens ≤ length octets = front_within lens octets all in
    let place : length octets - (counted - count) ≡ count = omega arith in
    record {
      front_is = is ∙ long;
      within = within;
      asked = omega arith;
      left_is = left_is ∙ ap (λ n. drop n octets) place;
    }

pub all_sent_sum : (lens octets : List ℕ) → sum lens ≡ length octets
    → sum (drop 1 lens) ≡ length (drop (front_len lens) octets)
all_sent_sum [] octets all = all
all_sent_sum (len ∷ lens) octets all = rest_counted len lens octets all

pub part_sent_sum : (count : ℕ) (lens octets : List ℕ) → count < front_len lens → sum lens ≡ length octets
    → sum (set lens 0 (front_len lens - count)) ≡ length (drop count octets)
part_sent_sum count [] octets part all = absurd (omega arith)
part_sent_sum count (len ∷ lens) octets part all =
    let parts : len + sum lens ≡ length octets = sym (sum_by-cons (λ n. n) len lens) ∙ all in
    let now : sum ((len - count) ∷ lens) ≡ (len - count) + sum lens = sum_by-cons (λ n. n) (len - count) lens in
    let long : length (drop count octets) ≡ length octets - count = length-drop count octets in
    omega arith

pub part_sent : (count : ℕ) (lens octets : List ℕ) (pieces : List (List ℕ)) → count < front_len lens
    → sum lens ≡ length octets → cut lens octets ≡ pieces
    → cut (set lens 0 (front_len lens - count)) (drop count octets) ≡ after_sending count pieces
part_sent count [] octets pieces part all view = absurd (omega arith)
part_sent count (len ∷ lens) octets pieces part all view = cut-part_sent count len lens octets part all
    ∙ ap (after_sending count) view

pub octets_split : (old new : List (List ℕ)) (octets : List ℕ) (count : ℕ) → octets_of old ≡ octets
    → octets_of new ≡ drop count octets → octets_of old ≡ take count (octets_of old) ++ octets_of new
octets_split old new octets count is_old is_new =
    is_old ∙ sym (take-append-drop count octets) ∙ ap (λ o. take count o ++ drop count octets) (sym is_old)
    ∙ ap (λ o. take count (octets_of old) ++ o) (sym is_new)

pub positive_rest : (lens : List ℕ) → All (λ len. 0 < len) lens → All (λ len. 0 < len) (drop 1 lens)
positive_rest [] each = each
positive_rest (len ∷ lens) each = λ k d within. each (suc k) d (omega (arith, within))
