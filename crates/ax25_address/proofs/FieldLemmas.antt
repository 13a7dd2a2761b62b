-- Address fields octet by octet.
use Rattle.ax25_address.proofs.Common.{◌≡◌, ℕ, ◌+◌, ◌-◌, ◌*◌, ◌/◌, ◌%◌, ◌<◌, ◌≤◌, ◌++◌, List, [], ◌∷◌, length, get_or}
use Rattle.ax25_address.proofs.Common.{take, drop, map, replicate, refl, sym, ap, subst, arith, inl, inr, ◌∙◌, Bool}
use Rattle.ax25_address.proofs.Common.{true, false, leb, eqb, length-append, length-map, length-replicate}
use Rattle.ax25_address.proofs.Common.{get_or_append_left, get_or-append_right, get_or-map, length-take-le, ext_get_or}
use Rattle.ax25_address.proofs.Common.{get_or_default, take_more, take-take, take_at, cases_lt, nat_tests, bit}
use Rattle.ax25_address.proofs.Common.{ssid_octet, IsField, field_at, Callsign, IsName, IsCall, IsCallCharacter, padded}
use Rattle.ax25_address.proofs.Common.{IsHeld, GoesOnFor, ShowsFault, AddrFault, Short, BadChar, OneAddress, NoEnd}
use Rattle.std.proofs.lemmas.List.{get_or-replicate, get_or-take, get_or-drop, length-take, length-drop, get_or_at}
use Rattle.ax25_address.specs.PathFault.{IsNamePlace}
use Rattle.ax25_address.specs.FieldFault.{HasNameUpTo, IsShiftedCharacter, IsFieldFault}

-- the first i octets of a field that begins at start are the first i of six characters, of which the first len are no
-- padding
pub record IsNameSoFar (octets : List ℕ) (start : ℕ) (characters : List ℕ) (len i : ℕ) : Type 0 where
  pub size : length characters ≡ 6
  pub below : len ≤ i
  pub within : i ≤ 6
  pub begun : 0 < i → 0 < len
  pub letters : (k : ℕ) → k < len → IsCallCharacter (get_or characters k 0)
  pub spaces : (k : ℕ) → len ≤ k → k < 6 → get_or characters k 0 ≡ 32
  pub same : (k : ℕ) → k < i → get_or octets (start + k) 0 ≡ 2 * get_or characters k 0
  pub there : start + i ≤ length octets

-- what has been read stands in its place
pub HasNameUpTo-so_far : (octets : List ℕ) (start : ℕ) (characters : List ℕ) (len i : ℕ) → start % 7 ≡ 0
    → IsNameSoFar octets start characters len i → HasNameUpTo octets start (start + i)
HasNameUpTo-so_far octets start characters len i aligned h at from below six =
    let k : ℕ = at - start in
    let there : start + k ≡ at = omega arith in
    let twice : get_or octets at 0 ≡ 2 * get_or characters k 0 = ap (λ n. get_or octets n 0) (sym there)
    ∙ h.same k (omega arith) in
    elim (cases_lt k len) [
      | inl letter ↦ inl (record {
        character = get_or characters k 0;
        allowed = h.letters k letter;
        shifted = twice;
        unspaced = λ later e.
            let before : get_or octets (at - 1) 0 ≡ 2 * get_or characters (k - 1) 0 =
            ap (λ n. get_or octets n 0) (omega arith) ∙ h.same (k - 1) (omega arith) in
            elim (h.letters (k - 1) (omega arith)) [ inl capital ↦ omega arith | inr digit ↦ omega arith ];
      })
      | inr space ↦ inr (record {
        padding = let begun : 0 < len = h.begun (omega arith) in omega arith;
        shifted = let blank : get_or characters k 0 ≡ 32 = h.spaces k space (omega arith) in omega arith;
      })
    ]

-- an octet that is neither a space after a name nor a character after no space is out of place
pub bad_place : (octets : List ℕ) (start : ℕ) (characters : List ℕ) (len i : ℕ) → start % 7 ≡ 0 → i < 6
    → IsNameSoFar octets start characters len i → (get_or octets (start + i) 0 ≡ 64 → 0 < i → ⊥)
    → (IsShiftedCharacter (get_or octets (start + i) 0) → i ≤ len → ⊥) → ¬ IsNamePlace octets (start + i)
bad_place octets start characters len i aligned six h no_space no_letter place =
    elim place [
      | inl ch ↦ elim (cases_lt len i) [
        | inl spaced ↦ ch.unspaced (omega arith)
            (let blank : get_or characters (i - 1) 0 ≡ 32 = h.spaces (i - 1) (omega arith) (omega arith) in
            let before : get_or octets (start + i - 1) 0 ≡ 2 * get_or characters (i - 1) 0 =
            ap (λ n. get_or octets n 0) (omega arith) ∙ h.same (i - 1) (omega arith) in
            omega arith)
        | inr fits ↦ no_letter (ch.character, ch.allowed, ch.shifted) fits
      ]
      | inr sp ↦ no_space sp.shifted (omega (arith, sp.padding))
    ]

-- a padded name has six characters
pub length-padded : (name : List ℕ) → length name ≤ 6 → length (padded name) ≡ 6
length-padded name h = length-append name (replicate (6 - length name) 32)
    ∙ ap (λ n. length name + n) (length-replicate (6 - length name) 32) ∙ omega arith

-- which begin with the name
pub padded-name : (name : List ℕ) (k : ℕ) → k < length name → get_or (padded name) k 0 ≡ get_or name k 0
padded-name name k h = get_or_append_left name (replicate (6 - length name) 32) 0 k h

-- and are spaces after it
pub padded-space : (name : List ℕ) (k : ℕ) → length name ≤ k → k < 6 → get_or (padded name) k 0 ≡ 32
padded-space name k from below =
    get_or-append_right name (replicate (6 - length name) 32) (length name) k 0 refl from
    ∙ get_or-replicate (6 - length name) (k - length name) 32 0 (omega arith)

-- six characters that have been read are a name with its padding
so_far-padded : (octets : List ℕ) (start : ℕ) (characters : List ℕ) (len i : ℕ) → 6 ≤ i
    → IsNameSoFar octets start characters len i → characters ≡ padded (take len characters)
so_far-padded octets start characters len i all h =
    let size : length (take len characters) ≡ len = length-take-le len characters
    (omega (arith, h.size, h.below, h.within)) in
    ext_get_or 0 characters (padded (take len characters)) (h.size
    ∙ sym (length-padded (take len characters) (omega (arith, size, h.below, h.within))))
    (λ k below. elim (cases_lt k len) [
      | inl letter ↦ sym (padded-name (take len characters) k (omega (arith, size))
          ∙ get_or-take len characters k 0 letter)
      | inr space ↦ h.spaces k space (omega (arith, h.size))
          ∙ sym (padded-space (take len characters) k (omega (arith, size)) (omega (arith, h.size)))
    ])

-- and make a call
pub IsHeld-so_far : (octets : List ℕ) (start : ℕ) (characters : List ℕ) (len i : ℕ) → 6 ≤ i
    → IsNameSoFar octets start characters len i → IsHeld characters len 0
IsHeld-so_far octets start characters len i all h =
    let size : length (take len characters) ≡ len = length-take-le len characters
    (omega (arith, h.size, h.below, h.within)) in
    record {
      size = h.size;
      fits = omega (arith, h.below, h.within);
      name = record {
        shortest = let begun : 0 < len = h.begun (omega arith) in omega arith;
        longest = omega (arith, h.below, h.within);
        characters = λ k d below. subst (λ (c : ℕ). IsCallCharacter c)
            (sym (get_or_default (take len characters) k d 0 below ∙ get_or-take len characters k 0 (omega arith)))
            (h.letters k (omega arith));
      };
      filled = so_far-padded octets start characters len i all h;
      ssid = omega arith;
    }

-- whose octets were read
pub so_far-octets : (octets : List ℕ) (start : ℕ) (characters : List ℕ) (len i : ℕ) → 6 ≤ i
    → IsNameSoFar octets start characters len i → take 6 (drop start octets)
    ≡ map (λ c. 2 * c) (padded (take len characters))
so_far-octets octets start characters len i all h =
    let there : 6 ≤ length (drop start octets) = omega (arith, length-drop start octets, h.there) in
    let size : length (take 6 (drop start octets)) ≡ 6 = length-take-le 6 (drop start octets) there in
    ext_get_or 0 (take 6 (drop start octets)) (map (λ c. 2 * c) characters) (size
    ∙ sym (length-map characters (λ c. 2 * c) ∙ h.size))
    (λ k below.
    get_or-take 6 (drop start octets) k 0 (omega arith) ∙ get_or-drop start octets k 0 ∙ h.same k (omega arith)
    ∙ sym (get_or-map (λ c. 2 * c) characters k 0 0 (omega (arith, h.size))))
    ∙ ap (λ xs. map (λ c. 2 * c) xs) (so_far-padded octets start characters len i all h)

pub bit_small : (b : Bool) → bit b ≤ 1
bit_small true = omega arith
bit_small false = omega arith

-- one bit stands for one truth value
pub bit_same : (b d : Bool) → bit b ≡ bit d → b ≡ d
bit_same true true e = refl
bit_same false false e = refl
bit_same true false e = absurd (omega arith)
bit_same false true e = absurd (omega arith)

-- bit 7 of an octet
top_bit : (o : ℕ) → o < 256 → bit (leb 128 o) ≡ o / 128
top_bit o h = elim (cases_lt o 128) [
  | inl low ↦ (let e : leb 128 o ≡ false = grind (arith, nat_tests) in ap bit e ∙ omega arith)
  | inr high ↦ (let e : leb 128 o ≡ true = grind (arith, nat_tests) in ap bit e ∙ omega arith)
]

-- bit 0 of an octet
low_bit : (o : ℕ) → bit (eqb (o % 2) 1) ≡ o % 2
low_bit o = elim (cases_lt (o % 2) 1) [
  | inl even ↦ (let e : eqb (o % 2) 1 ≡ false = grind (arith, nat_tests) in ap bit e ∙ omega arith)
  | inr odd ↦ (let e : eqb (o % 2) 1 ≡ true = grind (arith, nat_tests) in ap bit e ∙ omega arith)
]

-- the parts of an SSID octet
pub ssid_octet-parts : (o : ℕ) → o < 256 → o ≡ ssid_octet (leb 128 o) (o / 32 % 4) (o / 2 % 16) (eqb (o % 2) 1)
ssid_octet-parts o h = omega (arith, top_bit o h, low_bit o)

-- six characters and an SSID octet are a field
pub IsField-read : (octets : List ℕ) (k : ℕ) (call : Callsign) → IsCall call
    → take 6 (drop (7 * k) octets) ≡ map (λ c. 2 * c) (padded call.name) → 7 * k + 7 ≤ length octets
    → get_or octets (7 * k + 6) 0 < 256 → let o = get_or octets (7 * k + 6) 0 in
    IsField (record call { ssid = o / 2 % 16 }) (leb 128 o) (eqb (o % 2) 1) (field_at octets k)
IsField-read octets k call valid name whole small =
    let o : ℕ = get_or octets (7 * k + 6) 0 in
    let there : 6 < length (drop (7 * k) octets) = omega (arith, length-drop (7 * k) octets) in
    record {
      valid = record { name = valid.name; ssid = omega arith };
      reserved = o / 32 % 4;
      two_bits = omega arith;
      spelling =
          take_more (drop (7 * k) octets) 6 0 there ∙ ap (λ xs. xs ++ get_or (drop (7 * k) octets) 6 0 ∷ []) name
          ∙ ap (λ x. map (λ c. 2 * c) (padded call.name) ++ x ∷ []) (get_or-drop (7 * k) octets 6 0
          ∙ ssid_octet-parts o small);
    }

-- the characters of a field, octet by octet
named_octet : (octets : List ℕ) (start : ℕ) (name : List ℕ) → length name ≤ 6
    → take 6 (drop start octets) ≡ map (λ c. 2 * c) (padded name) → (k : ℕ) → k < 6
    → get_or octets (start + k) 0 ≡ 2 * get_or (padded name) k 0
named_octet octets start name six e k below =
    sym (get_or-take 6 (drop start octets) k 0 below ∙ get_or-drop start octets k 0) ∙ ap (λ xs. get_or xs k 0) e
    ∙ get_or-map (λ c. 2 * c) (padded name) k 0 0 (omega (arith, length-padded name six))

-- a name with its padding has its characters in their places
pub HasNameUpTo-name : (octets : List ℕ) (start : ℕ) (name : List ℕ) → start % 7 ≡ 0 → IsName name
    → take 6 (drop start octets) ≡ map (λ c. 2 * c) (padded name) → HasNameUpTo octets start (start + 6)
HasNameUpTo-name octets start name aligned h e at from below six =
    let k : ℕ = at - start in
    let there : start + k ≡ at = omega arith in
    let now : get_or octets at 0 ≡ 2 * get_or (padded name) k 0 =
    ap (λ n. get_or octets n 0) (sym there) ∙ named_octet octets start name h.longest e k (omega arith) in
    elim (cases_lt k (length name)) [
      | inl letter ↦ inl (record {
        character = get_or name k 0;
        allowed = h.characters k 0 letter;
        shifted = now ∙ ap (λ c. 2 * c) (padded-name name k letter);
        unspaced = λ later blank.
            let earlier : k - 1 < length name = omega arith in
            let before : get_or octets (at - 1) 0 ≡ 2 * get_or name (k - 1) 0 =
            ap (λ n. get_or octets n 0) (omega arith) ∙ named_octet octets start name h.longest e (k - 1) (omega arith)
            ∙ ap (λ c. 2 * c) (padded-name name (k - 1) earlier) in
            elim (h.characters (k - 1) 0 earlier) [ inl capital ↦ omega arith | inr digit ↦ omega arith ];
      })
      | inr space ↦ inr (record {
        padding = omega (arith, h.shortest);
        shifted = now ∙ ap (λ c. 2 * c) (padded-space name k space (omega arith));
      })
    ]

-- a field has seven octets
pub length-field : (call : Callsign) (top last : Bool) (octets : List ℕ) → IsField call top last octets
    → length octets ≡ 7
length-field call top last octets h =
    ap length h.spelling ∙ length-append (map (λ c. 2 * c) (padded call.name))
    (ssid_octet top h.reserved call.ssid last ∷ [])
    ∙ ap (λ n. n + 1) (length-map (padded call.name) (λ c. 2 * c) ∙ length-padded call.name h.valid.name.longest)

-- six characters
pub field_octet : (call : Callsign) (top last : Bool) (octets : List ℕ) → IsField call top last octets → (k : ℕ) → k < 6
    → get_or octets k 0 ≡ 2 * get_or (padded call.name) k 0
field_octet call top last octets h k below =
    let six : length (padded call.name) ≡ 6 = length-padded call.name h.valid.name.longest in
    ap (λ xs. get_or xs k 0) h.spelling
    ∙ get_or_append_left (map (λ c. 2 * c) (padded call.name)) (ssid_octet top h.reserved call.ssid last ∷ []) 0 k
    (omega (arith, length-map (padded call.name) (λ c. 2 * c)))
    ∙ get_or-map (λ c. 2 * c) (padded call.name) k 0 0 (omega arith)

-- and an SSID octet
pub last_octet : (call : Callsign) (top last : Bool) (octets : List ℕ) (h : IsField call top last octets)
    → get_or octets 6 0 ≡ ssid_octet top h.reserved call.ssid last
last_octet call top last octets h =
    ap (λ xs. get_or xs 6 0) h.spelling
    ∙ get_or_at (map (λ c. 2 * c) (padded call.name)) (ssid_octet top h.reserved call.ssid last) [] 0 6
    (length-map (padded call.name) (λ c. 2 * c) ∙ length-padded call.name h.valid.name.longest)

-- so its octets are there
pub whole_field : (call : Callsign) (top last : Bool) (octets : List ℕ) (k : ℕ)
    → IsField call top last (field_at octets k) → 7 * k + 7 ≤ length octets
whole_field call top last octets k h =
    omega (
      arith,
      length-field call top last (field_at octets k) h,
      length-take 7 (drop (7 * k) octets),
      length-drop (7 * k) octets,
    )

-- the six characters of a field
field_name : (call : Callsign) (top last : Bool) (octets : List ℕ) (k : ℕ) → IsField call top last (field_at octets k)
    → take 6 (drop (7 * k) octets) ≡ map (λ c. 2 * c) (padded call.name)
field_name call top last octets k h =
    sym (take-take 6 7 (drop (7 * k) octets) (omega arith)) ∙ ap (λ xs. take 6 xs) h.spelling
    ∙ take_at (map (λ c. 2 * c) (padded call.name)) (ssid_octet top h.reserved call.ssid last ∷ []) 6
    (length-map (padded call.name) (λ c. 2 * c) ∙ length-padded call.name h.valid.name.longest)

-- its SSID octet
pub field_ssid : (call : Callsign) (top last : Bool) (octets : List ℕ) (k : ℕ)
    (h : IsField call top last (field_at octets k)) → get_or octets (7 * k + 6) 0
    ≡ ssid_octet top h.reserved call.ssid last
field_ssid call top last octets k h =
    sym (get_or-take 7 (drop (7 * k) octets) 6 0 (omega arith) ∙ get_or-drop (7 * k) octets 6 0)
    ∙ last_octet call top last (field_at octets k) h

-- its end bit
pub field_end : (call : Callsign) (top last : Bool) (octets : List ℕ) (k : ℕ)
    → IsField call top last (field_at octets k) → get_or octets (7 * k + 6) 0 % 2 ≡ bit last
field_end call top last octets k h = omega (arith, field_ssid call top last octets k h, bit_small last)

-- and the places of its characters
pub HasNameUpTo-field : (call : Callsign) (top last : Bool) (octets : List ℕ) (k : ℕ)
    → IsField call top last (field_at octets k) → HasNameUpTo octets (7 * k) (7 * k + 6)
HasNameUpTo-field call top last octets k h = HasNameUpTo-name octets (7 * k) call.name (omega arith) h.valid.name
    (field_name call top last octets k h)

-- the path goes on over a field without the end bit
pub GoesOnFor-field : (call : Callsign) (top : Bool) (octets : List ℕ) (k : ℕ) → GoesOnFor octets (7 * k)
    → IsField call top false (field_at octets k) → GoesOnFor octets (7 * k + 7)
GoesOnFor-field call top octets k before h at below =
    elim (cases_lt at (7 * k)) [
      | inl earlier ↦ before at earlier
      | inr from ↦ record {
        character = λ name. HasNameUpTo-field call top false octets k h at from (omega arith) (omega arith);
        end_bit = λ six. let here : at ≡ 7 * k + 6 = omega arith in ap (λ n. get_or octets n 0 % 2) here
            ∙ field_end call top false octets k h;
      }
    ]

-- and over the characters of a field
pub GoesOnFor-name : (octets : List ℕ) (k n : ℕ) → GoesOnFor octets (7 * k) → n ≤ 7 * k + 6
    → HasNameUpTo octets (7 * k) n → GoesOnFor octets n
GoesOnFor-name octets k n before bound h at below =
    elim (cases_lt at (7 * k)) [
      | inl earlier ↦ before at earlier
      | inr from ↦ record {
        character = λ name. h at from below (omega arith);
        end_bit = λ six. absurd (omega arith);
      }
    ]

-- the fault of a field is one of the path
pub ShowsFault-field : (octets : List ℕ) (k : ℕ) (fault : AddrFault) → k < 10 → GoesOnFor octets (7 * k)
    → IsFieldFault octets (7 * k) fault → ShowsFault octets fault
ShowsFault-field octets k (Short at) few before h =
    (h.0, omega (arith, h.2), GoesOnFor-name octets k at before (omega (arith, h.2)) h.3)
ShowsFault-field octets k (BadChar at) few before h =
    (h.0, omega (arith, h.2), omega (arith, h.1, h.2), GoesOnFor-name octets k at before (omega (arith, h.2)) h.3, h.4)
ShowsFault-field octets k OneAddress few before h = absurd h
ShowsFault-field octets k NoEnd few before h = absurd h
