-- Whether octets begin with a path can be decided.
use Rattle.sensitive_receiver.proofs.Common.{◌≡◌, ℕ, zero, suc, ◌+◌, ◌*◌, ◌/◌, ◌%◌, ◌<◌, ◌≤◌, ◌⊎◌, Bool, true, false}
use Rattle.sensitive_receiver.proofs.Common.{List, [], ◌∷◌, ◌++◌, length, get_or, refl, sym, subst, ◌∙◌, arith, inl}
use Rattle.sensitive_receiver.proofs.Common.{inr, cases_lt, cases_eq, get_or_append_left, length_push, length-take-le}
use Rattle.sensitive_receiver.proofs.Common.{IsField, Callsign, field_at, whole_field, HasPath}
use Rattle.std.proofs.Common.{leb, eqb}
use Rattle.std.proofs.lemmas.List.{get_or_push}
use Rattle.ax25_address.specs.FramePath.{BeginsWithPath, repeater_count, destination_bit, source_bit}
use Rattle.ax25_address.specs.declared.path.Hop.{Hop}
use Rattle.ax25_address.specs.declared.path.Path.{Path}
use Rattle.ax25_address.specs.declared.path.Role.{Role}
use Rattle.ax25_address.specs.declared.path.Role.TheVariants.{Command, Response, Old}
use Rattle.ax25_address.proofs.FieldLemmas.{bit_small, field_ssid, IsField-read}
use Rattle.ax25_address.proofs.OneReading.{field_same}
use Rattle.ax25_address.proofs.PathLemmas.{field_at-take, BeginsWithPath-fields}
use Rattle.sensitive_receiver.proofs.NameDecided.{Decided, name_in, named_below, named_field}

-- ---- one field

-- some call's field with an end bit stands at a place
abbrev FieldAt : List ℕ → ℕ → Bool → Type 0
FieldAt octets k last = (call : Callsign) × (top : Bool) × IsField call top last (field_at octets k)

same_bit : (a b : Bool) → Decided (a ≡ b)
same_bit true true = inl refl
same_bit false false = inl refl
same_bit true false = inr (λ e. cc e)
same_bit false true = inr (λ e. cc e)

decide_field : (octets : List ℕ) (k : ℕ) (last : Bool) → Decided (FieldAt octets k last)
decide_field octets k last = elim (cases_lt (length octets) (7 * k + 7)) [
  | inl short ↦ inr (λ f. let whole = whole_field f.0 f.1 last octets k f.2 in omega arith)
  | inr whole ↦ elim (cases_lt (get_or octets (7 * k + 6) 0) 256) [
    | inr large ↦ inr (λ f.
        let octet = field_ssid f.0 f.1 last octets k f.2 in
        let a = bit_small f.1 in
        let b = bit_small last in
        let c = f.2.two_bits in
        let d = f.2.valid.ssid in
        omega arith)
    | inl small ↦ elim (named_below octets k 7) [
      | inr none ↦ inr (λ f. let six = f.2.valid.name.longest in
          none (length f.0.name) (omega arith) (named_field f.0 f.1 last octets k f.2))
      | inl named ↦
          let o : ℕ = get_or octets (7 * k + 6) 0 in
          let call : Callsign = record { name = name_in octets k named.0; ssid = 0 } in
          let read : IsField (record call { ssid = o / 2 % 16 }) (leb 128 o) (eqb (o % 2) 1) (field_at octets k)
          = IsField-read octets k call
          (record { name = named.1.name; ssid = omega arith }) named.1.spelling whole small in
          elim (same_bit (eqb (o % 2) 1) last) [
            | inl same ↦ inl (
              record call { ssid = o / 2 % 16 },
              leb 128 o,
              subst
                  (λ l. IsField (record call { ssid = o / 2 % 16 }) (leb 128 o) l (field_at octets k)) same read,
            )
            | inr differ ↦ inr (λ f. differ
                (field_same (record call { ssid = o / 2 % 16 }) (leb 128 o) (eqb (o % 2) 1) f.0 f.1 last
                (field_at octets k) read f.2).last)
          ]
    ]
  ]
]

-- ---- the repeaters

-- so many of the repeaters of a path that has so many
pub record AreHops (octets : List ℕ) (count m : ℕ) : Type 0 where
  pub hops : List Hop
  pub size : length hops ≡ m
  pub fields : (k : ℕ) (d : Hop) → k < m → IsField (get_or hops k d).call (get_or hops k d).done (eqb (k + 1) count)
      (field_at octets (k + 2))

one_more : (octets : List ℕ) (count m : ℕ) → AreHops octets count m → FieldAt octets (m + 2) (eqb (m + 1) count)
    → AreHops octets count (suc m)
one_more octets count m h field =
    let hop : Hop = record { call = field.0; done = field.1 } in
    let P : ℕ → Hop → Type 0 = λ k here. IsField here.call here.done (eqb (k + 1) count) (field_at octets (k + 2)) in
    let size = h.size in
    record {
      hops = h.hops ++ hop ∷ [];
      size = length_push h.hops hop ∙ omega arith;
      fields = λ k d l. elim (cases_lt k m) [
        | inl lt ↦ subst (P k) (sym (get_or_append_left h.hops (hop ∷ []) d k (omega arith))) (h.fields k d lt)
        | inr ge ↦ (let last : k ≡ m = omega arith in
            subst (P k) (sym (get_or_push h.hops hop d k (size ∙ sym last))) (subst (λ j. P j hop) (sym last) field.2))
      ];
    }

decide_hops : (octets : List ℕ) (count m : ℕ)
    → AreHops octets count m ⊎ (((k : ℕ) → k < m → FieldAt octets (k + 2) (eqb (k + 1) count)) → ⊥)
decide_hops octets count zero = inl (record { hops = []; size = refl; fields = λ k d l. absurd (omega arith) })
decide_hops octets count (suc m) = elim (decide_hops octets count m) [
  | inr none ↦ inr (λ each. none (λ k l. each k (omega arith)))
  | inl hops ↦ elim (decide_field octets (m + 2) (eqb (m + 1) count)) [
    | inr none ↦ inr (λ each. none (each m (omega arith)))
    | inl field ↦ inl (one_more octets count m hops field)
  ]
]

-- ---- the path

role_of : (d s : Bool) → (role : Role) × (destination_bit role ≡ d) × (source_bit role ≡ s)
role_of true false = (Command, refl, refl)
role_of false true = (Response, refl, refl)
role_of true true = (Old true, refl, refl)
role_of false false = (Old false, refl, refl)

-- the octets begin with no path of so many repeaters
abbrev NoneOf : List ℕ → ℕ → Type 0
NoneOf octets count = (path : Path) (len : ℕ) → BeginsWithPath octets path len → repeater_count path ≡ count → ⊥

whole_path : (octets : List ℕ) (path : Path) (len : ℕ) → BeginsWithPath octets path len
    → len ≡ 14 + 7 * repeater_count path
whole_path octets path len h = let size = h.1.size in let taken = length-take-le len octets h.0 in omega arith

of_count : (octets : List ℕ) (count : ℕ) → count ≤ 8 → HasPath octets ⊎ NoneOf octets count
of_count octets count few = elim (cases_lt (length octets) (14 + 7 * count)) [
  | inl short ↦ inr (λ path len h same. let size = whole_path octets path len h in let within = h.0 in omega arith)
  | inr whole ↦ elim (decide_field octets 0 false) [
    | inr none ↦ inr (λ path len h same.
        let size = whole_path octets path len h in
        none (
          path.dest,
          destination_bit path.role,
          subst (IsField path.dest (destination_bit path.role) false)
              (field_at-take octets len 0 (omega arith)) h.1.destination,
        ))
    | inl dest ↦ elim (decide_field octets 1 (eqb count 0)) [
      | inr none ↦ inr (λ path len h same.
          let size = whole_path octets path len h in
          none (
            path.source,
            source_bit path.role,
            subst (λ c. IsField path.source (source_bit path.role) (eqb c 0) (field_at octets 1)) same
                (subst (IsField path.source (source_bit path.role) (eqb (repeater_count path) 0))
                (field_at-take octets len 1 (omega arith)) h.1.source),
          ))
      | inl source ↦ elim (decide_hops octets count count) [
        | inr none ↦ inr (λ path len h same.
            let size = whole_path octets path len h in
            none (λ k l.
            let hop : Hop = get_or path.repeaters.items k (record { call = path.dest; done = false }) in (
              hop.call,
              hop.done,
              subst (λ c. IsField hop.call hop.done (eqb (k + 1) c) (field_at octets (k + 2))) same
                  (subst (IsField hop.call hop.done (eqb (k + 1) (repeater_count path)))
                  (field_at-take octets len (k + 2) (omega arith))
                  (h.1.repeaters k (record { call = path.dest; done = false }) (omega arith))),
            )))
        | inl hops ↦
            let role = role_of dest.1 source.1 in
            let path : Path = record {
              dest = dest.0;
              source = source.0;
              repeaters = record { items = hops.hops };
              role
                  = role.0;
            } in
            let size : length hops.hops ≡ count = hops.size in
            inl (record {
              path = path;
              len = 14 + 7 * count;
              begins = BeginsWithPath-fields octets path (14 + 7 * count) (omega arith) (omega arith) whole
                  (subst (λ b. IsField dest.0 b false (field_at octets 0)) (sym role.1) dest.2)
                  (subst (λ c. IsField source.0 (source_bit role.0) (eqb c 0) (field_at octets 1)) (sym size)
                  (subst (λ b. IsField source.0 b (eqb count 0) (field_at octets 1)) (sym role.2) source.2))
                  (λ k d l. subst (λ c. IsField (get_or hops.hops k d).call (get_or hops.hops k d).done (eqb (k + 1) c)
                  (field_at octets (k + 2))) (sym size) (hops.fields k d (omega arith)));
            })
      ]
    ]
  ]
]

below : (octets : List ℕ) (m : ℕ) → m ≤ 9 → HasPath octets ⊎ ((count : ℕ) → count < m → NoneOf octets count)
below octets zero few = inr (λ count l path len h same. omega arith)
below octets (suc m) few = elim (below octets m (omega arith)) [
  | inl found ↦ inl found
  | inr none ↦ elim (of_count octets m (omega arith)) [
    | inl here ↦ inl here
    | inr against ↦ inr (λ count l. elim
        (cases_eq count m) [
          | inl same ↦ subst (NoneOf octets) (sym same) against
          | inr other ↦ none count
              (omega arith)
        ])
  ]
]

pub path_or_none : (octets : List ℕ) → Decided (HasPath octets)
path_or_none octets = elim (below octets 9 (omega arith)) [
  | inl found ↦ inl found
  | inr none ↦ inr (λ h. let few = h.begins.1.count in
      none (repeater_count h.path) (omega arith) h.path h.len h.begins refl)
]
