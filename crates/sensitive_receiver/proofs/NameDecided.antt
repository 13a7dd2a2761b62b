-- Whether a call's name is read at a field of an address can be decided.
use Rattle.sensitive_receiver.proofs.Common.{◌≡◌, ℕ, zero, suc, ◌*◌, ◌/◌, ◌<◌, ◌⊎◌, Bool, List, [], ◌∷◌, length, get_or}
use Rattle.sensitive_receiver.proofs.Common.{take, drop, map, refl, ap, sym, subst, ◌∙◌, arith, inl, inr, All, cases_lt}
use Rattle.sensitive_receiver.proofs.Common.{cases_eq, get_or-map, length-map, length-take-le, take-take, All-nil}
use Rattle.sensitive_receiver.proofs.Common.{All-cons, All-head, All-tail, IsField, Callsign, field_at, whole_field}
use Rattle.std.proofs.lemmas.List.{ext_get_or, get_or-take, length-drop, take_at}
use Rattle.ax25_address.specs.AddressField.{ssid_octet}
use Rattle.ax25_address.specs.Callsign.{IsName, IsCallCharacter, padded}
use Rattle.ax25_address.proofs.FieldLemmas.{length-padded, padded-name, field_octet}

-- it is so, or it is not
abbrev pub Decided : Type 0 → Type 0
Decided P = P ⊎ (P → ⊥)

is_character : (c : ℕ) → Decided (IsCallCharacter c)
is_character c = elim (cases_lt c 65) [
  | inr letter ↦ elim (cases_lt 90 c) [
    | inr within ↦ inl (inl (letter, within))
    | inl past ↦ inr (λ h. elim h [
      | inl capital ↦ (let most = capital.1 in omega arith)
      | inr digit ↦
          (let most = digit.1 in omega arith)
    ])
  ]
  | inl low ↦ elim (cases_lt c 48) [
    | inl under ↦ inr (λ h. elim h [
      | inl capital ↦ (let least = capital.0 in omega arith)
      | inr digit ↦
          (let least = digit.0 in omega arith)
    ])
    | inr from ↦ elim (cases_lt 57 c) [
      | inr within ↦ inl (inr (from, within))
      | inl past ↦ inr (λ h. elim h [
        | inl capital ↦ (let least = capital.0 in omega arith)
        | inr digit ↦
            (let most = digit.1 in omega arith)
      ])
    ]
  ]
]

all_characters : (cs : List ℕ) → Decided (All IsCallCharacter cs)
all_characters [] = inl (All-nil IsCallCharacter)
all_characters (c ∷ cs) = elim (is_character c) [
  | inr against ↦ inr (λ all. against (All-head IsCallCharacter c cs all))
  | inl here ↦ elim (all_characters cs) [
    | inl rest ↦ inl (All-cons IsCallCharacter c cs here rest)
    | inr against ↦ inr (λ all. against (All-tail IsCallCharacter c cs all))
  ]
]

same_numbers : (a b : List ℕ) → Decided (a ≡ b)
same_numbers [] [] = inl refl
same_numbers [] (y ∷ b) = inr (λ e. cc e)
same_numbers (x ∷ a) [] = inr (λ e. cc e)
same_numbers (x ∷ a) (y ∷ b) = elim (cases_eq x y) [
  | inr differ ↦ inr (λ e. differ (let same : x ≡ y = cc e in same))
  | inl head ↦ elim (same_numbers a b) [
    | inl tail ↦ inl (λ i. head i ∷ tail i)
    | inr differ ↦ inr (λ e. differ (let same : a ≡ b = cc e in same))
  ]
]

-- the first octets of a field, halved
pub name_in : List ℕ → ℕ → ℕ → List ℕ
name_in octets k n = map (λ o. o / 2) (take n (drop (7 * k) octets))

-- a name of so many characters is read at a field, with spaces after it
pub record IsNamed (octets : List ℕ) (k n : ℕ) : Type 0 where
  pub name : IsName (name_in octets k n)
  pub spelling : take 6 (drop (7 * k) octets) ≡ map (λ c. 2 * c) (padded (name_in octets k n))

is_named : (octets : List ℕ) (k n : ℕ) → Decided (IsNamed octets k n)
is_named octets k n = elim (all_characters (name_in octets k n)) [
  | inr against ↦ inr (λ h. against h.name.characters)
  | inl all ↦ elim (cases_lt 0 (length (name_in octets k n))) [
    | inr none ↦ inr (λ h. let some = h.name.shortest in omega arith)
    | inl some ↦ elim (cases_lt 6 (length (name_in octets k n))) [
      | inl long ↦ inr (λ h. let most = h.name.longest in omega arith)
      | inr fits ↦ elim (same_numbers (take 6 (drop (7 * k) octets)) (map (λ c. 2 * c) (padded (name_in octets k n)))) [
        | inl same ↦ inl (record {
          name = record { shortest = some; longest = fits; characters = all };
          spelling = same;
        })
        | inr differ ↦ inr (λ h. differ h.spelling)
      ]
    ]
  ]
]

-- a name of fewer than so many characters is read, or none
pub named_below : (octets : List ℕ) (k m : ℕ)
    → ((n : ℕ) × IsNamed octets k n) ⊎ ((n : ℕ) → n < m → IsNamed octets k n → ⊥)
named_below octets k zero = inr (λ n l h. omega arith)
named_below octets k (suc m) = elim (named_below octets k m) [
  | inl found ↦ inl found
  | inr none ↦ elim (is_named octets k m) [
    | inl here ↦ inl (m, here)
    | inr against ↦ inr (λ n l h. elim
        (cases_eq n m) [ inl same ↦ against (subst (IsNamed octets k) same h) | inr other ↦ none n (omega arith) h ])
  ]
]

-- the name of a field is read there
pub named_field : (call : Callsign) (top last : Bool) (octets : List ℕ) (k : ℕ)
    → IsField call top last (field_at octets k) → IsNamed octets k (length call.name)
unfolding name_in
named_field call top last octets k h =
    let rest : List ℕ = drop (7 * k) octets in
    let n : ℕ = length call.name in
    let six = h.valid.name.longest in
    let whole = whole_field call top last octets k h in
    let size : length (take n rest) ≡ n = length-take-le n rest (omega (arith, length-drop (7 * k) octets)) in
    let same : map (λ o. o / 2) (take n rest) ≡ call.name =
    ext_get_or 0 (map (λ o. o / 2) (take n rest)) call.name (length-map (take n rest) (λ o. o / 2) ∙ size)
    (λ i below.
    let inside : i < n = (let m = length-map (take n rest) (λ o. o / 2) in omega arith) in
    let doubled : get_or rest i 0 ≡ 2 * get_or call.name i 0
    = sym (get_or-take 7 rest i 0 (omega arith)) ∙ field_octet call top last (field_at octets k) h i (omega arith)
    ∙ ap (λ c. 2 * c) (padded-name call.name i inside) in
    get_or-map (λ o. o / 2) (take n rest) i 0 0 (omega arith)
    ∙ ap (λ o. o / 2) (get_or-take n rest i 0 inside ∙ doubled) ∙ omega arith) in
    let spelled : take 6 rest ≡ map (λ c. 2 * c) (padded call.name)
    = sym (take-take 6 7 rest (omega arith)) ∙ ap (λ xs. take 6 xs) h.spelling
    ∙ take_at (map (λ c. 2 * c) (padded call.name)) (ssid_octet top h.reserved call.ssid last ∷ []) 6
    (length-map (padded call.name) (λ c. 2 * c) ∙ length-padded call.name six) in
    record {
      name = subst IsName (sym same) h.valid.name;
      spelling = spelled ∙ ap (λ name. map (λ c. 2 * c) (padded name)) (sym same);
    }
