-- Octets spell at most one path, or show one fault, but not both.
use Rattle.ax25_address.proofs.Common.{◌≡◌, ℕ, suc, ◌+◌, ◌-◌, ◌*◌, ◌/◌, ◌%◌, ◌<◌, ◌≤◌, ◌⊎◌, List, length, get_or, take}
use Rattle.ax25_address.proofs.Common.{refl, sym, ap, subst, arith, inl, inr, ◌∙◌, Bool, true, false, eqb, Result, Err}
use Rattle.ax25_address.proofs.Common.{ext_get_or, length-take-le, cases_lt, nat_tests, Callsign, bit, ssid_octet}
use Rattle.ax25_address.proofs.Common.{IsField, field_at, IsPath, BeginsWithPath, repeater_count, destination_bit}
use Rattle.ax25_address.proofs.Common.{source_bit, GoesOnFor, ShowsFault, Hop, Path, AddrFault, Short, BadChar}
use Rattle.ax25_address.proofs.Common.{OneAddress, NoEnd}
use Rattle.std.proofs.Common.{zero, Ok, IfOk, IfErr}
use Rattle.std.proofs.lemmas.List.{same_lists}
use Rattle.ax25_address.specs.SameCall.{call_same}
use Rattle.ax25_address.specs.PathFault.{GoesOn}
use Rattle.ax25_address.specs.declared.path.Role.{Role}
use Rattle.ax25_address.specs.declared.path.Role.TheVariants.{Command, Response, Old}
use Rattle.ax25_address.proofs.FieldLemmas.{bit_small, bit_same, field_octet, last_octet, padded-name, padded-space}
use Rattle.ax25_address.proofs.FieldLemmas.{HasNameUpTo-field, field_end}
use Rattle.ax25_address.proofs.PathLemmas.{field_at-take}

-- a name that ends earlier has a space where the other has a character
not_shorter : (a b : Callsign) (ta la tb lb : Bool) (octets : List ℕ) → IsField a ta la octets → IsField b tb lb octets
    → length a.name < length b.name → ⊥
not_shorter a b ta la tb lb octets h g short =
    let k : ℕ = length a.name in
    let below : k < 6 = omega (arith, g.valid.name.longest) in
    let blank : get_or octets k 0 ≡ 64 = field_octet a ta la octets h k below
    ∙ ap (λ c. 2 * c) (padded-space a.name k (omega arith) below) in
    let letter : get_or octets k 0 ≡ 2 * get_or b.name k 0 = field_octet b tb lb octets g k below
    ∙ ap (λ c. 2 * c) (padded-name b.name k short) in
    elim (g.valid.name.characters k 0 short) [ inl capital ↦ omega arith | inr digit ↦ omega arith ]

-- octets are the field of one call with one bit 7 and one end bit
pub record IsSameField (a : Callsign) (ta la : Bool) (b : Callsign) (tb lb : Bool) : Type 0 where
  pub call : a ≡ b
  pub top : ta ≡ tb
  pub last : la ≡ lb

pub field_same : (a : Callsign) (ta la : Bool) (b : Callsign) (tb lb : Bool) (octets : List ℕ) → IsField a ta la octets
    → IsField b tb lb octets → IsSameField a ta la b tb lb
field_same a ta la b tb lb octets h g =
    let octet : ssid_octet ta h.reserved a.ssid la ≡ ssid_octet tb g.reserved b.ssid lb =
    sym (last_octet a ta la octets h) ∙ last_octet b tb lb octets g in
    let p = bit_small ta in
    let q = bit_small la in
    let r = bit_small tb in
    let s = bit_small lb in
    let n : length a.name ≡ length b.name = elim (cases_lt (length a.name) (length b.name)) [
      | inl short ↦ absurd (not_shorter a b ta la tb lb octets h g short)
      | inr long ↦ elim (cases_lt (length b.name) (length a.name)) [
        | inl short ↦ absurd (not_shorter b a tb lb ta la octets g h short)
        | inr equal ↦ omega arith
      ]
    ] in
    record {
      call = call_same a b
          (ext_get_or 0 a.name b.name n (λ k below.
          let six : k < 6 = omega (arith, h.valid.name.longest) in
          let x : get_or octets k 0 ≡ 2 * get_or a.name k 0 = field_octet a ta la octets h k six
          ∙ ap (λ c. 2 * c) (padded-name a.name k below) in
          let y : get_or octets k 0 ≡ 2 * get_or b.name k 0 = field_octet b tb lb octets g k six
          ∙ ap (λ c. 2 * c) (padded-name b.name k (omega arith)) in
          omega arith))
          (omega (arith, octet, h.valid.ssid, g.valid.ssid, h.two_bits, g.two_bits));
      top = bit_same ta tb (omega (arith, octet, h.valid.ssid, g.valid.ssid, h.two_bits, g.two_bits));
      last = bit_same la lb (omega (arith, octet, h.valid.ssid, g.valid.ssid, h.two_bits, g.two_bits));
    }

role_same : (r s : Role) → destination_bit r ≡ destination_bit s → source_bit r ≡ source_bit s → r ≡ s
role_same Command Command p q = refl
role_same Command Response p q = cc
role_same Command (Old c) p q = cc
role_same Response Command p q = cc
role_same Response Response p q = refl
role_same Response (Old c) p q = cc
role_same (Old c) Command p q = cc
role_same (Old c) Response p q = cc
role_same (Old c) (Old d) p q = ap Old p

hop_same : (a b : Hop) → a.call ≡ b.call → a.done ≡ b.done → a ≡ b
hop_same a b call done =
    let hop : Callsign → Bool → Hop = λ c d. record { call = c; done = d } in
    ap (λ c. hop c a.done) call ∙ ap (λ d. hop b.call d) done

path_same : (p q : Path) → p.dest ≡ q.dest → p.source ≡ q.source → p.repeaters.items ≡ q.repeaters.items
    → p.role ≡ q.role → p ≡ q
path_same p q dest source hops role =
    let path : Callsign → Callsign → List Hop → Role → Path =
    λ d s h r. record { dest = d; source = s; repeaters = record { items = h }; role = r } in
    ap (λ d. path d p.source p.repeaters.items p.role) dest ∙ ap (λ s. path q.dest s p.repeaters.items p.role) source
    ∙ ap (λ h. path q.dest q.source h p.role) hops ∙ ap (λ r. path q.dest q.source q.repeaters.items r) role

-- octets spell at most one path
pub IsPath-same : (p q : Path) (octets : List ℕ) → IsPath p octets → IsPath q octets → p ≡ q
IsPath-same p q octets h g =
    let n : repeater_count p ≡ repeater_count q = omega (arith, h.size, g.size) in
    let dest = field_same _ _ _ _ _ _ (field_at octets 0) h.destination g.destination in
    let source = field_same _ _ _ _ _ _ (field_at octets 1) h.source g.source in
    path_same p q dest.call source.call
    (same_lists p.repeaters.items q.repeaters.items n (λ k d below.
    let hop = field_same _ _ _ _ _ _ (field_at octets (k + 2)) (h.repeaters k d below) (g.repeaters k d (omega arith))
    in
    hop_same (get_or p.repeaters.items k d) (get_or q.repeaters.items k d) hop.call hop.top))
    (role_same p.role q.role dest.top source.top)

-- a reading ends at a place where the octets do not go on
pub record StopsAt (octets : List ℕ) (place : ℕ) : Type 0 where
  pub within : place ≤ length octets
  pub few : place ≤ 70
  pub before : GoesOnFor octets place
  pub stops : (place ≡ length octets) ⊎ ((place ≡ 70) ⊎ ¬ GoesOn octets place)

not_later : (octets : List ℕ) (p q : ℕ) → StopsAt octets p → StopsAt octets q → p < q → ⊥
not_later octets p q h g later = elim h.stops [
  | inl all ↦ omega (arith, g.within)
  | inr (inl most) ↦ omega (arith, g.few)
  | inr (inr bad) ↦ bad (g.before p later)
]

-- which is one place
same_place : (octets : List ℕ) (p q : ℕ) → StopsAt octets p → StopsAt octets q → p ≡ q
same_place octets p q h g = elim (cases_lt p q) [
  | inl later ↦ absurd (not_later octets p q h g later)
  | inr from ↦ elim (cases_lt q p) [ inl later ↦ absurd (not_later octets q p g h later) | inr equal ↦ omega arith ]
]

-- the last octet of a path is its end bit's
pub record EndsAt (octets : List ℕ) (len : ℕ) : Type 0 where
  pub least : 14 ≤ len
  pub most : len ≤ 70
  pub fields : len % 7 ≡ 0
  pub whole : len ≤ length octets
  pub before : GoesOnFor octets (len - 1)
  pub end_bit : get_or octets (len - 1) 0 % 2 ≡ 1

-- some call's field stands at each place of a path
any_field : (octets : List ℕ) (path : Path) (len k : ℕ) → BeginsWithPath octets path len → k < 2 + repeater_count path
    → (call : Callsign) × (top : Bool) × IsField call top (eqb (k + 1) (2 + repeater_count path)) (field_at octets k)
any_field octets path len zero h below =
    let size : 14 ≤ len = omega (arith, h.1.size, length-take-le len octets h.0) in
    let open_field : eqb (0 + 1) (2 + repeater_count path) ≡ false = grind (arith, nat_tests) in
    (path.dest, destination_bit path.role, rw (open_field, ← field_at-take octets len 0 (omega arith)) h.1.destination)
any_field octets path len (suc zero) h below =
    let size : 14 ≤ len = omega (arith, h.1.size, length-take-le len octets h.0) in
    let flag : eqb (1 + 1) (2 + repeater_count path) ≡ eqb (repeater_count path) 0 = grind (arith, nat_tests) in
    (path.source, source_bit path.role, rw (flag, ← field_at-take octets len 1 (omega arith)) h.1.source)
any_field octets path len (suc (suc k)) h below =
    let size : len ≡ 14 + 7 * repeater_count path = omega (arith, h.1.size, length-take-le len octets h.0) in
    let hop : Hop = get_or path.repeaters.items k (record { call = path.dest; done = false }) in
    let flag : eqb (suc (suc k) + 1) (2 + repeater_count path) ≡ eqb (k + 1) (repeater_count path) =
    grind (arith, nat_tests) in
    let place : suc (suc k) ≡ k + 2 = omega arith in (
      hop.call,
      hop.done,
      rw (flag, place, ← field_at-take octets len (k + 2) (omega arith))
          (h.1.repeaters k (record { call = path.dest; done = false }) (omega arith)),
    )

EndsAt-path : (octets : List ℕ) (path : Path) (len : ℕ) → BeginsWithPath octets path len → EndsAt octets len
EndsAt-path octets path len h =
    let count : ℕ = repeater_count path in
    let size : len ≡ 14 + 7 * count = omega (arith, h.1.size, length-take-le len octets h.0) in
    record {
      least = omega arith;
      most = omega (arith, h.1.count);
      fields = omega arith;
      whole = h.0;
      before = λ at below.
          let k : ℕ = at / 7 in
          let f = any_field octets path len k h (omega arith) in
          record {
            character = λ name. HasNameUpTo-field f.0 f.1 _ octets k f.2 at (omega arith) (omega arith) (omega arith);
            end_bit = λ six.
                let here : at ≡ 7 * k + 6 = omega arith in
                let open_field : eqb (k + 1) (2 + count) ≡ false = let inside : k + 1 < 2 + count = omega arith in
                grind (arith, nat_tests) in
                ap (λ n. get_or octets n 0 % 2) here ∙ field_end f.0 f.1 _ octets k f.2 ∙ ap bit open_field;
          };
      end_bit =
          let f = any_field octets path len (1 + count) h (omega arith) in
          let ends : eqb (1 + count + 1) (2 + count) ≡ true = grind (arith, nat_tests) in
          let here : len - 1 ≡ 7 * (1 + count) + 6 = omega arith in
          ap (λ n. get_or octets n 0 % 2) here ∙ field_end f.0 f.1 _ octets (1 + count) f.2 ∙ ap bit ends;
    }

StopsAt-path : (octets : List ℕ) (len : ℕ) → EndsAt octets len → StopsAt octets (len - 1)
StopsAt-path octets len h = record {
  within = omega (arith, h.whole);
  few = omega (arith, h.most);
  before = h.before;
  stops = inr (inr (λ on. let even : get_or octets (len - 1) 0 % 2 ≡ 0 =
      on.end_bit (omega (arith, h.fields, h.least)) in omega (arith, h.end_bit)));
}

-- where a fault stops
fault_place : AddrFault → ℕ
fault_place (Short at) = at
fault_place (BadChar at) = at
fault_place OneAddress = 6
fault_place NoEnd = 70

StopsAt-fault : (octets : List ℕ) (fault : AddrFault) → ShowsFault octets fault → StopsAt octets (fault_place fault)
unfolding fault_place
StopsAt-fault octets (Short at) h = record { within = omega arith; few = omega arith; before = h.2; stops = inl h.0 }
StopsAt-fault octets (BadChar at) h = record {
  within = omega arith;
  few = omega arith;
  before = h.3;
  stops = inr (inr (λ on. h.4 (on.character h.2)));
}
StopsAt-fault octets OneAddress h = record {
  within = omega arith;
  few = omega arith;
  before = h.1;
  stops = inr (inr (λ on. let even : get_or octets 6 0 % 2 ≡ 0 = on.end_bit (omega arith) in omega arith));
}
StopsAt-fault octets NoEnd h = record { within = omega arith; few = omega arith; before = h.1; stops = inr (inl refl) }

one_fault : (octets : List ℕ) (a b : AddrFault) → ShowsFault octets a → ShowsFault octets b
    → fault_place a ≡ fault_place b → a ≡ b
unfolding fault_place
one_fault octets (Short at) (Short to) h g e = ap Short e
one_fault octets (Short at) (BadChar to) h g e = absurd (omega arith)
one_fault octets (Short at) OneAddress h g e = absurd (omega arith)
one_fault octets (Short at) NoEnd h g e = absurd (omega arith)
one_fault octets (BadChar at) (Short to) h g e = absurd (omega arith)
one_fault octets (BadChar at) (BadChar to) h g e = ap BadChar e
one_fault octets (BadChar at) OneAddress h g e = absurd (omega arith)
one_fault octets (BadChar at) NoEnd h g e = absurd (omega arith)
one_fault octets OneAddress (Short to) h g e = absurd (omega arith)
one_fault octets OneAddress (BadChar to) h g e = absurd (omega arith)
one_fault octets OneAddress OneAddress h g e = refl
one_fault octets OneAddress NoEnd h g e = absurd (omega arith)
one_fault octets NoEnd (Short to) h g e = absurd (omega arith)
one_fault octets NoEnd (BadChar to) h g e = absurd (omega arith)
one_fault octets NoEnd OneAddress h g e = absurd (omega arith)
one_fault octets NoEnd NoEnd h g e = refl

-- octets show at most one fault
pub ShowsFault-same : (octets : List ℕ) (a b : AddrFault) → ShowsFault octets a → ShowsFault octets b → a ≡ b
ShowsFault-same octets a b h g = one_fault octets a b h g
    (same_place octets _ _ (StopsAt-fault octets a h) (StopsAt-fault octets b g))

end_is_no_fault : (octets : List ℕ) (len : ℕ) (fault : AddrFault) → EndsAt octets len → ShowsFault octets fault
    → len - 1 ≡ fault_place fault → ⊥
unfolding fault_place
end_is_no_fault octets len (Short at) h g e = omega (arith, h.whole, h.least)
end_is_no_fault octets len (BadChar at) h g e = omega (arith, h.fields, h.least)
end_is_no_fault octets len OneAddress h g e = omega (arith, h.least)
end_is_no_fault octets len NoEnd h g e = omega (arith, h.most)

-- and none if they begin with a path
pub no_fault : (octets : List ℕ) (path : Path) (len : ℕ) (fault : AddrFault) → BeginsWithPath octets path len
    → ShowsFault octets fault → ⊥
no_fault octets path len fault h g =
    let end : EndsAt octets len = EndsAt-path octets path len h in
    end_is_no_fault octets len fault end g (same_place octets _ _ (StopsAt-path octets len end)
    (StopsAt-fault octets fault g))

-- octets begin with at most one path
pub BeginsWithPath-same : (octets : List ℕ) (p q : Path) (m n : ℕ) → BeginsWithPath octets p m
    → BeginsWithPath octets q n → (p ≡ q) × (m ≡ n)
BeginsWithPath-same octets p q m n h g =
    let a : EndsAt octets m = EndsAt-path octets p m h in
    let b : EndsAt octets n = EndsAt-path octets q n g in
    let place : m - 1 ≡ n - 1 = same_place octets _ _ (StopsAt-path octets m a) (StopsAt-path octets n b) in
    let len : n ≡ m = omega (arith, a.least, b.least) in
    (IsPath-same p q (take m octets) h.1 (subst (λ (l : ℕ). IsPath q (take l octets)) len g.1), sym len)

-- what `read_path` answers
abbrev pub Reading : Type 0
Reading = Result (Path × ℕ) AddrFault

-- an answer that is right, and the only one
pub record IsOneReading (octets : List ℕ) (reading : Reading) : Type 0 where
  pub path : IfOk reading (λ r. BeginsWithPath octets r.0 r.1)
  pub fault : IfErr reading (ShowsFault octets)
  pub each_path : (path : Path) (len : ℕ) → BeginsWithPath octets path len → reading ≡ Ok (path, len)
  pub each_fault : (fault : AddrFault) → ShowsFault octets fault → reading ≡ Err fault

pub IsOneReading-path : (octets : List ℕ) (p : Path) (m : ℕ) → BeginsWithPath octets p m
    → IsOneReading octets (Ok (p, m))
IsOneReading-path octets p m h =
    let ok : Path → ℕ → Reading = λ q n. Ok (q, n) in
    record {
      path = h;
      fault = tt;
      each_path = λ path len g. let same = BeginsWithPath-same octets p path m len h g in ap (λ q. ok q m) same.0
          ∙ ap (λ n. ok path n) same.1;
      each_fault = λ fault g. absurd (no_fault octets p m fault h g);
    }

pub IsOneReading-fault : (octets : List ℕ) (a : AddrFault) → ShowsFault octets a → IsOneReading octets (Err a)
IsOneReading-fault octets a h =
    let err : AddrFault → Reading = λ f. Err f in
    record {
      path = tt;
      fault = h;
      each_path = λ path len g. absurd (no_fault octets path len a g h);
      each_fault = λ fault g. ap err (ShowsFault-same octets a fault h g);
    }
