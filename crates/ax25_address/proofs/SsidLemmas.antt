-- What tells an SSID, octet by octet.
use Rattle.ax25_address.proofs.Common.{◌≡◌, ℕ, ◌+◌, ◌-◌, ◌/◌, ◌%◌, ◌++◌, ◌<◌, ◌≤◌, ◌⊎◌, List, [], ◌∷◌, length, get_or}
use Rattle.ax25_address.proofs.Common.{sym, ap, arith, inl, inr, ◌∙◌, decimal_digit, cases_lt, TellsSsid, ssid_suffix}
use Rattle.std.specs.Fmt.{decimal}
use Rattle.std.proofs.lemmas.Fmt.{decimal_step}

-- a number from 10 to 15 has a 1 and one more digit
pub decimal_two_digits : (n : ℕ) → 10 ≤ n → n < 16 → decimal n ≡ 49 ∷ (48 + (n - 10)) ∷ []
decimal_two_digits n large small =
    let tens : n / 10 ≡ 1 = omega arith in
    let ones : n % 10 ≡ n - 10 = omega arith in
    decimal_step n large (omega arith) ∙ ap (λ t. decimal t ++ (48 + n % 10) ∷ []) tens
    ∙ ap (λ x. x ++ (48 + n % 10) ∷ []) (decimal_digit 1 (omega arith)) ∙ ap (λ o. 49 ∷ (48 + o) ∷ []) ones

-- a dash and one digit
pub record IsOneDigit (tail : List ℕ) (n : ℕ) : Type 0 where
  pub len : length tail ≡ 2
  pub small : n < 10
  pub dash : get_or tail 0 0 ≡ 45
  pub digit : get_or tail 1 0 ≡ 48 + n

-- a dash, a 1 and another digit
pub record IsTwoDigits (tail : List ℕ) (n : ℕ) : Type 0 where
  pub len : length tail ≡ 3
  pub large : 10 ≤ n
  pub dash : get_or tail 0 0 ≡ 45
  pub ten : get_or tail 1 0 ≡ 49
  pub digit : get_or tail 2 0 ≡ 38 + n

abbrev pub SsidOctets : List ℕ → ℕ → Type 0
SsidOctets tail n = ((length tail ≡ 0) × (n ≡ 0)) ⊎ (IsOneDigit tail n ⊎ IsTwoDigits tail n)

one_digit : (n : ℕ) → n < 10 → (tail : List ℕ) → tail ≡ 45 ∷ (48 + n) ∷ [] → IsOneDigit tail n
one_digit n h tail e = record {
  len = ap length e;
  small = h;
  dash = ap (λ xs. get_or xs 0 0) e;
  digit = ap (λ xs. get_or xs 1 0) e;
}

two_digits : (k : ℕ) (n : ℕ) → n ≡ 10 + k → (tail : List ℕ) → tail ≡ 45 ∷ 49 ∷ (48 + k) ∷ [] → IsTwoDigits tail n
two_digits k n same tail e =
    let d : get_or tail 2 0 ≡ 48 + k = ap (λ xs. get_or xs 2 0) e in
    record {
      len = ap length e;
      large = omega arith;
      dash = ap (λ xs. get_or xs 0 0) e;
      ten = ap (λ xs. get_or xs 1 0) e;
      digit = omega arith;
    }

suffix_octets : (tail : List ℕ) (n : ℕ) → n < 16 → tail ≡ ssid_suffix n → IsOneDigit tail n ⊎ IsTwoDigits tail n
suffix_octets tail n h e =
    elim (cases_lt n 10) [
      | inl small ↦ inl (one_digit n small tail (e ∙ ap (λ xs. 45 ∷ xs) (decimal_digit n small)))
      | inr large ↦ inr (let same : n ≡ 10 + (n - 10) = omega arith in
          two_digits (n - 10) n same tail (e ∙ ap (λ xs. 45 ∷ xs) (decimal_two_digits n large h)))
    ]

-- what tells an SSID, read octet by octet
pub octets_from_tells : (tail : List ℕ) (n : ℕ) → n < 16 → TellsSsid tail n → SsidOctets tail n
octets_from_tells tail n h t = elim t [
  | inl none ↦ inl (ap length none.0, none.1)
  | inr e ↦ inr
      (suffix_octets tail n h e)
]

same_pair : (tail : List ℕ) (a b : ℕ) → length tail ≡ 2 → get_or tail 0 0 ≡ a → get_or tail 1 0 ≡ b → tail ≡ a ∷ b ∷ []
same_pair (x ∷ y ∷ []) a b l p q = cc
same_pair [] a b l p q = absurd (omega arith)
same_pair (x ∷ []) a b l p q = absurd (omega arith)
same_pair (x ∷ y ∷ z ∷ w) a b l p q = absurd (omega arith)

same_triple : (tail : List ℕ) (a b d : ℕ) → length tail ≡ 3 → get_or tail 0 0 ≡ a → get_or tail 1 0 ≡ b
    → get_or tail 2 0 ≡ d → tail ≡ a ∷ b ∷ d ∷ []
same_triple (x ∷ y ∷ z ∷ []) a b d l p q r = cc
same_triple [] a b d l p q r = absurd (omega arith)
same_triple (x ∷ []) a b d l p q r = absurd (omega arith)
same_triple (x ∷ y ∷ []) a b d l p q r = absurd (omega arith)
same_triple (x ∷ y ∷ z ∷ w ∷ v) a b d l p q r = absurd (omega arith)

-- and back
pub tells_one_digit : (tail : List ℕ) (n : ℕ) → IsOneDigit tail n → TellsSsid tail n
tells_one_digit tail n h = inr (same_pair tail 45 (48 + n) h.len h.dash h.digit
    ∙ ap (λ xs. 45 ∷ xs) (sym (decimal_digit n h.small)))

pub tells_two_digits : (tail : List ℕ) (n : ℕ) → n < 16 → IsTwoDigits tail n → TellsSsid tail n
tells_two_digits tail n lt h =
    inr (same_triple tail 45 49 (48 + (n - 10)) h.len h.dash h.ten (omega (arith, h.digit, h.large))
    ∙ ap (λ xs. 45 ∷ xs) (sym (decimal_two_digits n h.large lt)))
