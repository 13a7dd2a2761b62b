-- Paths field by field.
use Rattle.ax25_address.proofs.Common.{◌≡◌, ℕ, ◌+◌, ◌-◌, ◌*◌, ◌<◌, ◌≤◌, ◌++◌, List, [], ◌∷◌, length, get_or, take, drop}
use Rattle.ax25_address.proofs.Common.{sym, ap, arith, inl, inr, ◌∙◌, Bool, true, false, eqb, get_or_append_left}
use Rattle.ax25_address.proofs.Common.{take-take, length-take-le, cases_lt, nat_tests, Callsign, IsField, field_at}
use Rattle.ax25_address.proofs.Common.{BeginsWithPath, repeater_count, destination_bit, source_bit, Path, GoesOnFor}
use Rattle.ax25_address.proofs.Common.{Hop}
use Rattle.std.proofs.lemmas.List.{length_push, get_or_push, drop-take}
use Rattle.ax25_address.specs.Repeaters.{AreRepeaters}
use Rattle.ax25_address.proofs.FieldLemmas.{GoesOnFor-field, whole_field}

-- the fields from the third to field k are these repeaters, and none has the end bit
pub record AreOpenRepeaters (hops : List Hop) (k : ℕ) (octets : List ℕ) : Type 0 where
  pub count : length hops + 2 ≡ k
  pub few : k ≤ 10
  pub whole : 7 * k ≤ length octets
  pub fields : (j : ℕ) (d : Hop) → j < length hops → let hop = get_or hops j d in
      IsField hop.call hop.done false (field_at octets (j + 2))
  pub goes_on : GoesOnFor octets (7 * k)

last_flag : (j : ℕ) (hops : List Hop) (new : Hop) → j < length hops → eqb (j + 1) (length (hops ++ new ∷ [])) ≡ false
last_flag j hops new earlier = let n : length (hops ++ new ∷ []) ≡ length hops + 1 = length_push hops new in
    grind (arith, nat_tests)

end_flag : (j : ℕ) (hops : List Hop) (new : Hop) → j ≡ length hops → eqb (j + 1) (length (hops ++ new ∷ [])) ≡ true
end_flag j hops new here = let n : length (hops ++ new ∷ []) ≡ length hops + 1 = length_push hops new in
    grind (arith, nat_tests)

-- a field with the end bit ends the repeaters
pub AreRepeaters-push : (hops : List Hop) (k : ℕ) (octets : List ℕ) (call : Callsign) (top : Bool)
    → AreOpenRepeaters hops k octets → k < 10 → IsField call top true (field_at octets k)
    → let new : Hop = record { call = call; done = top } in AreRepeaters (hops ++ new ∷ []) (7 * k + 7) octets
AreRepeaters-push hops k octets call top h few field =
    let new : Hop = record { call = call; done = top } in
    let n : length (hops ++ new ∷ []) ≡ length hops + 1 = length_push hops new in
    record {
      some = omega arith;
      count = omega (arith, h.count);
      size = omega (arith, h.count);
      whole = whole_field call top true octets k field;
      fields = λ j d below. elim (cases_lt j (length hops)) [
        | inl earlier ↦ rw (get_or_append_left hops (new ∷ []) d j earlier, last_flag j hops new earlier)
            (h.fields j d earlier)
        | inr from ↦ (let here : j ≡ length hops = omega arith in
            let place : j + 2 ≡ k = omega (arith, h.count) in
            rw (get_or_push hops new d j (sym here), end_flag j hops new here, place) field)
      ];
    }

-- a field without it goes on
pub AreOpenRepeaters-push : (hops : List Hop) (k : ℕ) (octets : List ℕ) (call : Callsign) (top : Bool)
    → AreOpenRepeaters hops k octets → k < 10 → IsField call top false (field_at octets k)
    → let new : Hop = record { call = call; done = top } in AreOpenRepeaters (hops ++ new ∷ []) (k + 1) octets
AreOpenRepeaters-push hops k octets call top h few field =
    let new : Hop = record { call = call; done = top } in
    let n : length (hops ++ new ∷ []) ≡ length hops + 1 = length_push hops new in
    let there : 7 * k + 7 ≤ length octets = whole_field call top false octets k field in
    record {
      count = omega (arith, h.count);
      few = omega arith;
      whole = omega arith;
      fields = λ j d below. elim (cases_lt j (length hops)) [
        | inl earlier ↦ rw (get_or_append_left hops (new ∷ []) d j earlier) (h.fields j d earlier)
        | inr from ↦ (let here : j ≡ length hops = omega arith in
            let place : j + 2 ≡ k = omega (arith, h.count) in
            rw (get_or_push hops new d j (sym here), place) field)
      ];
      goes_on = λ at below. GoesOnFor-field call top octets k h.goes_on field at (omega arith);
    }

-- a field of the first octets is one of all of them
pub field_at-take : (octets : List ℕ) (len k : ℕ) → 7 * k + 7 ≤ len → field_at (take len octets) k ≡ field_at octets k
field_at-take octets len k h =
    let parts : 7 * k + (len - 7 * k) ≡ len = omega arith in
    ap (λ n. take 7 (drop (7 * k) (take n octets))) (sym parts)
    ∙ ap (λ xs. take 7 xs) (drop-take (7 * k) (len - 7 * k) octets)
    ∙ take-take 7 (len - 7 * k) (drop (7 * k) octets) (omega arith)

-- the fields at the front of the octets are a path that they begin with
pub BeginsWithPath-fields : (octets : List ℕ) (path : Path) (len : ℕ) → repeater_count path ≤ 8
    → len ≡ 14 + 7 * repeater_count path → len ≤ length octets
    → IsField path.dest (destination_bit path.role) false (field_at octets 0)
    → IsField path.source (source_bit path.role) (eqb (repeater_count path) 0) (field_at octets 1)
    → ((k : ℕ) (d : Hop) → k < repeater_count path → let hop = get_or path.repeaters.items k d in
    IsField hop.call hop.done (eqb (k + 1) (repeater_count path)) (field_at octets (k + 2)))
    → BeginsWithPath octets path len
BeginsWithPath-fields octets path len few size whole dest source hops = (
  whole,
  record {
    count = few;
    size = length-take-le len octets whole ∙ size;
    destination = rw (field_at-take octets len 0 (omega arith)) dest;
    source = rw (field_at-take octets len 1 (omega arith)) source;
    repeaters = λ k d below. rw (field_at-take octets len (k + 2) (omega arith)) (hops k d below);
  },
)
