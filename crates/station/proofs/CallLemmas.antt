-- The call of a text, as it is defined and as it is parsed.
use Rattle.station.proofs.Common.{◌≡◌, ℕ, zero, suc, ◌+◌, ◌<◌, ◌≤◌, ◌==◌, nat_lt, Bool, true, false, ◌&&◌, cond, List}
use Rattle.station.proofs.Common.{[], ◌∷◌, length, map, take, drop, find, option_map, Option, Some, None, All, refl}
use Rattle.station.proofs.Common.{range_with_len, sym, ◌∙◌, ap, subst, arith, get_or, inl, inr, cases_lt, cond-true}
use Rattle.station.proofs.Common.{cond-false, false≢true, nat_tests, take-append-drop, Callsign, IsCallText}
use Rattle.std.specs.Prelude.{nat_le}
use Rattle.std.specs.Char.{to_ascii_uppercase}
use Rattle.std.specs.List.{list_all}
use Rattle.std.specs.Str.{bytes_eq, IsAscii, IsUtf8}
use Rattle.std.specs.Fmt.{decimal}
use Rattle.std.proofs.lemmas.Bool.{and_from, and_parts}
use Rattle.std.proofs.lemmas.Fmt.{IsAscii-decimal, decimal_injective}
use Rattle.std.proofs.lemmas.List.FromFn.{length-range_with_len, get_or-range_with_len}
use Rattle.station.proofs.Searches.{find_at}
use Rattle.std.proofs.lemmas.List.Sums.{AllPass-from_list_all, list_all-from_AllPass}
use Rattle.std.proofs.lemmas.Slice.Eq.{bytes_eq-Decides}
use Rattle.std.proofs.lemmas.Str.{IsAscii-append, IsUtf8-from_ascii}
use Rattle.ax25_address.specs.Callsign.{IsName, IsCallCharacter}
use Rattle.ax25_address.specs.CallText.{TellsSsid, name_part, ssid_part, ssid_suffix, dash_place}
use Rattle.station.specs.CallFields.{is_call_character, is_name, told_ssid, named, call_of_text}

-- ---- names

character_from : (c : ℕ) → IsCallCharacter c → is_call_character c ≡ true
character_from c (inl capital) = grind (arith, nat_tests)
character_from c (inr digit) = grind (arith, nat_tests)

none_past : (c : ℕ) → 91 ≤ c → is_call_character c ≡ false
none_past c h = grind (arith, nat_tests)

none_between : (c : ℕ) → 58 ≤ c → c < 65 → is_call_character c ≡ false
none_between c h g = grind (arith, nat_tests)

none_below : (c : ℕ) → c < 48 → is_call_character c ≡ false
none_below c h = grind (arith, nat_tests)

is_character : (c : ℕ) → is_call_character c ≡ true → IsCallCharacter c
is_character c h = elim (cases_lt c 91) [
  | inr past ↦ absurd (false≢true (sym (none_past c past) ∙ h))
  | inl less ↦ elim (cases_lt c 65) [
    | inr from ↦ inl (from, omega arith)
    | inl small ↦ elim (cases_lt c 58) [
      | inr past ↦ absurd (false≢true (sym (none_between c past small) ∙ h))
      | inl low ↦ elim (cases_lt c 48) [
        | inl below ↦ absurd (false≢true (sym (none_below c below) ∙ h))
        | inr from ↦ inr (from, omega arith)
      ]
    ]
  ]
]

is_name-true : (name : List ℕ) → IsName name → is_name name ≡ true
is_name-true name h =
    and_from (nat_lt 0 (length name)) (nat_le (length name) 6 && list_all is_call_character name)
    (let some = h.shortest in grind (arith, nat_tests))
    (and_from (nat_le (length name) 6) (list_all is_call_character name)
    (let few = h.longest in grind (arith, nat_tests))
    (list_all-from_AllPass is_call_character name (λ k d within.
    character_from (get_or name k d) (h.characters k d within))))

IsName-true : (name : List ℕ) → is_name name ≡ true → IsName name
IsName-true name e =
    let one = and_parts (nat_lt 0 (length name)) (nat_le (length name) 6 && list_all is_call_character name) e in
    let two = and_parts (nat_le (length name) 6) (list_all is_call_character name) one.1 in
    let some = one.0 in
    let few = two.0 in
    record {
      shortest = grind (arith, nat_tests);
      longest = grind (arith, nat_tests);
      characters = λ k d within. is_character (get_or name k d)
          (AllPass-from_list_all is_call_character name two.1 k d within);
    }

-- ---- SSIDs

-- the text of one SSID is no other's
other_suffix : (j k : ℕ) → j < k → k < 16 → bytes_eq (ssid_suffix k) (ssid_suffix j) ≡ false
other_suffix j k less small = by_test (bytes_eq (ssid_suffix k) (ssid_suffix j)) refl
  where
    by_test : (same : Bool) → bytes_eq (ssid_suffix k) (ssid_suffix j) ≡ same
        → bytes_eq (ssid_suffix k) (ssid_suffix j) ≡ false
    by_test false is = is
    by_test true is =
        let suffix : ssid_suffix k ≡ ssid_suffix j = (bytes_eq-Decides (ssid_suffix k) (ssid_suffix j)).0 is in
        let digits : decimal k ≡ decimal j = ap (λ (xs : List ℕ). drop 1 xs) suffix in
        let one : k ≡ j = decimal_injective k j (omega arith) (omega arith) digits in
        absurd (omega arith)

no_zero : (n : ℕ) → (suc n == 0) ≡ false
no_zero n = grind (arith, nat_tests)

from_zero : (n : ℕ) → 0 + n ≡ n
from_zero n = omega arith

found : (ssid : ℕ) → ssid < 16 → told_ssid (ssid_suffix ssid) ≡ Some ssid
found ssid small =
    let p : ℕ → Bool = λ n. bytes_eq (ssid_suffix ssid) (ssid_suffix n) in
    let place : (j : ℕ) → j < 16 → get_or (range_with_len 0 16) j 0 ≡ j = λ j less. get_or-range_with_len 0 16 j 0 less
    ∙ from_zero j in
    cond-false (length (ssid_suffix ssid) == 0) (Some 0) (find p (range_with_len 0 16))
    (no_zero (length (decimal ssid)))
    ∙ find_at p (range_with_len 0 16) ssid 0 (omega (arith, length-range_with_len 0 16))
    (λ j less. ap p (place j (omega arith)) ∙ other_suffix j ssid less small)
    (ap p (place ssid small) ∙ (bytes_eq-Decides (ssid_suffix ssid) (ssid_suffix ssid)).1 refl)
    ∙ ap Some (place ssid small)

told_ssid-from : (tail : List ℕ) (ssid : ℕ) → ssid < 16 → TellsSsid tail ssid → told_ssid tail ≡ Some ssid
told_ssid-from tail ssid small (inl none) = ap told_ssid none.0 ∙ ap Some (sym none.1)
told_ssid-from tail ssid small (inr is) = ap told_ssid is ∙ found ssid small

-- what the search finds passes, and is one of the numbers
find_from : (p : ℕ → Bool) (from count n : ℕ) → find p (range_with_len from count) ≡ Some n
    → (n < from + count) × (p n ≡ true)
find_from p from zero n e = absurd cc
find_from p from (suc count) n e = by_test (p from) refl e (find_from p (from + 1) count n)
  where
    by_test : (passes : Bool) → p from ≡ passes → cond passes (Some from) (find p (range_with_len (from + 1) count))
        ≡ Some n
        → (find p (range_with_len (from + 1) count) ≡ Some n → (n < from + 1 + count) × (p n ≡ true))
        → (n < from + suc count) × (p n ≡ true)
    by_test true is e rest = let same : from ≡ n = cc in (omega arith, ap p (sym same) ∙ is)
    by_test false is e rest = let h = rest e in (let less = h.0 in omega arith, h.1)

tells_from : (tail : List ℕ) (ssid : ℕ) → told_ssid tail ≡ Some ssid → (ssid < 16) × TellsSsid tail ssid
tells_from [] ssid e = (let none : 0 ≡ ssid = cc in omega arith, inl (refl, let none : 0 ≡ ssid = cc in sym none))
tells_from (x ∷ xs) ssid e =
    let p : ℕ → Bool = λ n. bytes_eq (x ∷ xs) (ssid_suffix n) in
    let h = find_from p 0 16 ssid (sym (cond-false (length (x ∷ xs) == 0) (Some 0) (find p (range_with_len 0 16))
    (no_zero (length xs))) ∙ e) in
    (h.0, inr ((bytes_eq-Decides (x ∷ xs) (ssid_suffix ssid)).0 h.1))

-- ---- the call

-- a text of a call has that call
pub call_of_text-is : (text : List ℕ) (call : Callsign) → IsCallText text call → call_of_text text ≡ Some call
unfolding call_of_text
call_of_text-is text call h =
    let name = name_part text in
    cond-true (is_name name) (option_map (named name) (told_ssid (ssid_part text))) None (ap is_name h.name
    ∙ is_name-true call.name h.valid.name)
    ∙ ap (λ (ssid : Option ℕ). option_map (named name) ssid)
    (told_ssid-from (ssid_part text) call.ssid h.valid.ssid h.ssid)
    ∙ ap (λ (n : List ℕ). Some (named n call.ssid)) h.name

-- and no other text has one
pub IsCallText-from : (text : List ℕ) (call : Callsign) → call_of_text text ≡ Some call → IsCallText text call
unfolding call_of_text
IsCallText-from text call e = by_name (is_name (name_part text)) refl e
  where
    by_ssid : (ssid : Option ℕ) → told_ssid (ssid_part text) ≡ ssid → IsName (name_part text)
        → option_map (named (name_part text)) ssid ≡ Some call → IsCallText text call
    by_ssid None is good e = absurd cc
    by_ssid (Some ssid) is good e =
        let same : named (name_part text) ssid ≡ call = cc in
        let tells = tells_from (ssid_part text) ssid is in
        subst (λ (c : Callsign). IsCallText text c) same (record {
          valid = record { name = good; ssid = tells.0 };
          name = refl;
          ssid = tells.1;
        })

    by_name : (good : Bool) → is_name (name_part text) ≡ good
        → cond good (option_map (named (name_part text)) (told_ssid (ssid_part text))) None ≡ Some call
        → IsCallText text call
    by_name true is e = by_ssid (told_ssid (ssid_part text)) refl (IsName-true (name_part text) is) e
    by_name false is e = absurd cc

pub call_of_text-none : (text : List ℕ) → ((call : Callsign) → ¬ IsCallText text call) → call_of_text text ≡ None
call_of_text-none text other = by_call (call_of_text text) refl
  where
    by_call : (call : Option Callsign) → call_of_text text ≡ call → call_of_text text ≡ None
    by_call None is = is
    by_call (Some call) is = absurd (other call (IsCallText-from text call is))

-- ---- its octets

small_capital : (c : ℕ) → to_ascii_uppercase c < 128 → c < 128
small_capital c h = elim (cases_lt c 123) [
  | inl less ↦ omega arith
  | inr past ↦ (let same : to_ascii_uppercase c ≡ c = grind (arith, nat_tests) in omega arith)
]

ascii_capitals : (xs : List ℕ) → All IsCallCharacter (map to_ascii_uppercase xs) → IsAscii xs
ascii_capitals [] h i = omega arith
ascii_capitals (x ∷ xs) h zero = small_capital x (small (to_ascii_uppercase x) (h 0 0 (omega arith)))
  where
    small : (c : ℕ) → IsCallCharacter c → c < 128
    small c (inl capital) = omega arith
    small c (inr digit) = omega arith
ascii_capitals (x ∷ xs) h (suc i) = ascii_capitals xs (λ k d within. h (suc k) d (omega arith)) i

ascii_ssid : (tail : List ℕ) (ssid : ℕ) → ssid < 16 → TellsSsid tail ssid → IsAscii tail
ascii_ssid tail ssid small (inl none) = subst (λ (xs : List ℕ). IsAscii xs) (sym none.0) (λ i. omega arith)
ascii_ssid tail ssid small (inr is) = subst (λ (xs : List ℕ). IsAscii xs) (sym is)
    (dash (IsAscii-decimal ssid (omega arith)))
  where
    dash : IsAscii (decimal ssid) → IsAscii (45 ∷ decimal ssid)
    dash h zero = omega arith
    dash h (suc i) = h i

-- a text of a call is ASCII
pub IsAscii-call : (text : List ℕ) (call : Callsign) → IsCallText text call → IsAscii text
IsAscii-call text call h =
    subst (λ (xs : List ℕ). IsAscii xs) (take-append-drop (dash_place text) text)
    (IsAscii-append (take (dash_place text) text) (drop (dash_place text) text)
    (ascii_capitals (take (dash_place text) text) (subst (λ (xs : List ℕ). All IsCallCharacter xs) (sym h.name)
    h.valid.name.characters))
    (ascii_ssid (drop (dash_place text) text) call.ssid h.valid.ssid h.ssid))

-- octets that are no text have no call
pub call_of_text-octets : (text : List ℕ) → ¬ IsUtf8 text → call_of_text text ≡ None
call_of_text-octets text other = call_of_text-none text
    (λ call h. other (IsUtf8-from_ascii text (IsAscii-call text call h)))
