-- Facts on names and on their faults.
use Rattle.ax25_address.proofs.Common.{◌≡◌, ℕ, suc, ◌+◌, ◌-◌, ◌<◌, ◌≤◌, ◌++◌, List, [], ◌∷◌, length, get_or, take}
use Rattle.ax25_address.proofs.Common.{replicate, refl, sym, ap, subst, ◌∙◌, arith, Some, inl, inr, take_at, take_all}
use Rattle.ax25_address.proofs.Common.{take_more, length-take-le, length-replicate, get_or_default, cases_lt, IsName}
use Rattle.ax25_address.proofs.Common.{IsCallCharacter, padded, IsHeld, IsFaultOf, CallFault, TooLong, BadSsid}
use Rattle.std.proofs.Common.{set, None, append_assoc, length-append}
use Rattle.std.proofs.lemmas.List.{set_at}
use Rattle.ax25_address.specs.CallText.{IsFirstBadCharacter}
use Rattle.ax25_address.specs.declared.call.CallFault.TheVariants.{Empty, BadChar}

-- the first n characters of a name are good, and stand in six characters before nothing but spaces
pub record IsFilling (name characters : List ℕ) (n : ℕ) : Type 0 where
  pub good : (k : ℕ) → k < n → IsCallCharacter (get_or name k 0)
  pub filled : characters ≡ take n name ++ replicate (6 - n) 32

-- a fault of a name alone is one of the name with any SSID
pub fault_of_name : (name : List ℕ) (P : Type 0) (fault : CallFault) → IsFaultOf name ⊥ fault → IsFaultOf name P fault
fault_of_name name P Empty h = h
fault_of_name name P TooLong h = h
fault_of_name name P (BadChar index) h = h
fault_of_name name P BadSsid h = absurd h.1

pub none_is_not_some : (n : ℕ) → None ≡ Some n → ⊥
none_is_not_some n e = cc

two_bad : (name : List ℕ) (i j : ℕ) → IsFirstBadCharacter name i → IsFirstBadCharacter name j → i < j → ⊥
two_bad name i j h g earlier = h.here (g.before i earlier)

same_bad : (name : List ℕ) (i j : ℕ) → IsFirstBadCharacter name i → IsFirstBadCharacter name j → i ≡ j
same_bad name i j h g = elim (cases_lt i j) [
  | inl earlier ↦ absurd (two_bad name i j h g earlier)
  | inr from ↦ elim (cases_lt j i) [ inl earlier ↦ absurd (two_bad name j i g h earlier) | inr equal ↦ omega arith ]
]

good_is_not_bad : (name : List ℕ) (i : ℕ) → IsName name → IsFirstBadCharacter name i → ⊥
good_is_not_bad name i h g = g.here (h.characters i 0 g.within)

-- a name shows at most one fault
pub IsFaultOf-same : (name : List ℕ) (P : Type 0) (a b : CallFault) → IsFaultOf name P a → IsFaultOf name P b → a ≡ b
IsFaultOf-same name P Empty Empty h g = refl
IsFaultOf-same name P Empty TooLong h g = absurd (let n : length name ≡ 0 = ap length h in omega arith)
IsFaultOf-same name P Empty (BadChar j) h g = absurd (let n : length name ≡ 0 = ap length h in
    omega (arith, g.1.within))
IsFaultOf-same name P Empty BadSsid h g = absurd (let n : length name ≡ 0 = ap length h in omega (arith, g.0.shortest))
IsFaultOf-same name P TooLong Empty h g = absurd (let n : length name ≡ 0 = ap length g in omega arith)
IsFaultOf-same name P TooLong TooLong h g = refl
IsFaultOf-same name P TooLong (BadChar j) h g = absurd (omega arith)
IsFaultOf-same name P TooLong BadSsid h g = absurd (omega (arith, g.0.longest))
IsFaultOf-same name P (BadChar i) Empty h g = absurd (let n : length name ≡ 0 = ap length g in
    omega (arith, h.1.within))
IsFaultOf-same name P (BadChar i) TooLong h g = absurd (omega arith)
IsFaultOf-same name P (BadChar i) (BadChar j) h g = ap BadChar (same_bad name i j h.1 g.1)
IsFaultOf-same name P (BadChar i) BadSsid h g = absurd (good_is_not_bad name i g.0 h.1)
IsFaultOf-same name P BadSsid Empty h g = absurd (let n : length name ≡ 0 = ap length g in omega (arith, h.0.shortest))
IsFaultOf-same name P BadSsid TooLong h g = absurd (omega (arith, h.0.longest))
IsFaultOf-same name P BadSsid (BadChar j) h g = absurd (good_is_not_bad name j h.0 g.1)
IsFaultOf-same name P BadSsid BadSsid h g = refl

-- and none if it is one and its SSID is not bad
pub name_has_no_fault : (name : List ℕ) (P : Type 0) (fault : CallFault) → IsName name → (P → ⊥)
    → IsFaultOf name P fault → ⊥
name_has_no_fault name P Empty h good g = let n : length name ≡ 0 = ap length g in omega (arith, h.shortest)
name_has_no_fault name P TooLong h good g = omega (arith, h.longest)
name_has_no_fault name P (BadChar i) h good g = good_is_not_bad name i h g.1
name_has_no_fault name P BadSsid h good g = good g.1

-- a good character more
pub IsFilling-more : (name characters : List ℕ) (n : ℕ) → n < length name → n < 6 → IsCallCharacter (get_or name n 0)
    → IsFilling name characters n → IsFilling name (set characters n (get_or name n 0)) (n + 1)
IsFilling-more name characters n inside six letter h =
    let x : ℕ = get_or name n 0 in
    let rest : List ℕ = replicate (6 - (n + 1)) 32 in
    let spaces : replicate (6 - n) 32 ≡ 32 ∷ rest = let e : 6 - n ≡ suc (6 - (n + 1)) = omega arith in
    ap (λ m. replicate m 32) e in
    record {
      good = λ k below. elim (cases_lt k n) [
        | inl earlier ↦ h.good k earlier
        | inr from ↦ (let here : n ≡ k = omega arith in subst (λ (j : ℕ). IsCallCharacter (get_or name j 0))
            here letter)
      ];
      filled = ap (λ xs. set xs n x) h.filled ∙ ap (λ r. set (take n name ++ r) n x) spaces
          ∙ set_at (take n name) 32 rest x n (length-take-le n name (omega arith))
          ∙ sym (append_assoc (take n name) (x ∷ []) rest) ∙ ap (λ t. t ++ rest) (sym (take_more name n 0 inside));
    }

-- a name whose characters are all good is held by its six characters
pub IsHeld-filling : (name characters : List ℕ) (n : ℕ) → 0 < length name → length name ≤ 6 → n ≡ length name
    → IsFilling name characters n → IsHeld characters (length name) 0
IsHeld-filling name characters n some six all h =
    let whole : characters ≡ padded name = h.filled ∙ ap (λ k. take k name ++ replicate (6 - k) 32) all
    ∙ ap (λ t. t ++ replicate (6 - length name) 32) (take_all (length name) name (omega arith)) in
    let front : take (length name) characters ≡ name = ap (λ xs. take (length name) xs) whole
    ∙ take_at name (replicate (6 - length name) 32) (length name) refl in
    record {
      size = ap length whole ∙ length-append name (replicate (6 - length name) 32)
          ∙ ap (λ k. length name + k) (length-replicate (6 - length name) 32) ∙ omega arith;
      fits = six;
      name = subst (λ (xs : List ℕ). IsName xs) (sym front)
          (record {
            shortest = some;
            longest = six;
            characters = λ k d below.
                subst (λ (c : ℕ). IsCallCharacter c) (get_or_default name k 0 d below) (h.good k (omega arith));
          });
      filled = whole ∙ ap (λ xs. padded xs) (sym front);
      ssid = omega arith;
    }
