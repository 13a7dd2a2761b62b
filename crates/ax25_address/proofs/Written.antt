-- Paths as they are written.
use Rattle.ax25_address.proofs.Common.{◌≡◌, ℕ, ◌+◌, ◌*◌, ◌<◌, ◌≤◌, ◌++◌, List, [], length, get_or, take, refl, sym, ap}
use Rattle.ax25_address.proofs.Common.{subst, arith, inl, inr, ◌∙◌, Bool, false, eqb, length-append, take_at, take_all}
use Rattle.ax25_address.proofs.Common.{drop_at, cases_lt, Callsign, IsCall, field_octets, IsField, field_at, IsPath}
use Rattle.ax25_address.proofs.Common.{BeginsWithPath, repeater_count, destination_bit, source_bit, Hop, Path}
use Rattle.ax25_address.specs.AddressField.{IsWrittenField}
use Rattle.ax25_address.specs.FramePath.{IsWrittenPath}
use Rattle.ax25_address.proofs.FieldLemmas.{length-field}
use Rattle.ax25_address.proofs.PathLemmas.{field_at-take}

-- what is written can be read
pub IsField-written : (call : Callsign) (top last : Bool) (octets : List ℕ) → IsWrittenField call top last octets
    → IsField call top last octets
IsField-written call top last octets h = record {
  valid = h.valid;
  reserved = 3;
  two_bits = omega arith;
  spelling = h.spelling;
}

written_field : (call : Callsign) (top last : Bool) → IsCall call
    → IsWrittenField call top last (field_octets call top 3 last)
written_field call top last valid = record { valid = valid; spelling = refl }

length-written : (call : Callsign) (top last : Bool) → IsCall call → length (field_octets call top 3 last) ≡ 7
length-written call top last valid = length-field call top last _
    (IsField-written call top last _ (written_field call top last valid))

-- a field stays where it is
field_at-kept : (octets more : List ℕ) (k : ℕ) → 7 * k + 7 ≤ length octets
    → field_at (octets ++ more) k ≡ field_at octets k
field_at-kept octets more k h =
    sym (field_at-take (octets ++ more) (length octets) k h)
    ∙ ap (λ xs. field_at xs k) (take_at octets more (length octets) refl)

-- and one more stands after it
field_at-new : (octets new : List ℕ) (k : ℕ) → length octets ≡ 7 * k → length new ≡ 7 → field_at (octets ++ new) k ≡ new
field_at-new octets new k size seven = ap (λ xs. take 7 xs) (drop_at octets new (7 * k) size)
    ∙ take_all 7 new (omega arith)

-- the path's ends and its first k repeaters are written
pub record AreWrittenSoFar (path : Path) (octets : List ℕ) (k : ℕ) : Type 0 where
  pub size : length octets ≡ 14 + 7 * k
  pub destination : IsWrittenField path.dest (destination_bit path.role) false (field_at octets 0)
  pub source : IsWrittenField path.source (source_bit path.role) (eqb (repeater_count path) 0) (field_at octets 1)
  pub repeaters : (j : ℕ) (d : Hop) → j < k → let hop = get_or path.repeaters.items j d in
      IsWrittenField hop.call hop.done (eqb (j + 1) (repeater_count path)) (field_at octets (j + 2))

pub AreWrittenSoFar-ends : (path : Path) → IsCall path.dest → IsCall path.source
    → AreWrittenSoFar path (field_octets path.dest (destination_bit path.role) 3 false
    ++ field_octets path.source (source_bit path.role) 3 (eqb (repeater_count path) 0)) 0
AreWrittenSoFar-ends path d s =
    let db = destination_bit path.role in
    let sb = source_bit path.role in
    let end : Bool = eqb (repeater_count path) 0 in
    let first : List ℕ = field_octets path.dest db 3 false in
    let second : List ℕ = field_octets path.source sb 3 end in
    let m : length first ≡ 7 = length-written path.dest db false d in
    let n : length second ≡ 7 = length-written path.source sb end s in
    record {
      size = omega (arith, length-append first second);
      destination = rw (field_at-kept first second 0 (omega arith))
          (subst (λ (xs : List ℕ). IsWrittenField path.dest db false xs) (sym (take_all 7 first (omega arith)))
          (written_field path.dest db false d));
      source = rw (field_at-new first second 1 (omega arith) n) (written_field path.source sb end s);
      repeaters = λ j hop below. absurd (omega arith);
    }

-- the same, as two fields come one after the other
pub AreWrittenSoFar-two : (path : Path) (none first second : List ℕ) (db sb end : Bool) → IsCall path.dest
    → IsCall path.source → none ≡ [] → db ≡ destination_bit path.role → sb ≡ source_bit path.role
    → end ≡ eqb (repeater_count path) 0 → first ≡ none ++ field_octets path.dest db 3 false
    → second ≡ first ++ field_octets path.source sb 3 end → AreWrittenSoFar path second 0
AreWrittenSoFar-two path none first second db sb end d s empty dest source last one two =
    let front : first ≡ field_octets path.dest (destination_bit path.role) 3 false = one
    ∙ ap (λ xs. xs ++ field_octets path.dest db 3 false) empty ∙ ap (λ b. field_octets path.dest b 3 false) dest in
    let all : second ≡ field_octets path.dest (destination_bit path.role) 3 false
    ++ field_octets path.source (source_bit path.role) 3 (eqb (repeater_count path) 0) =
    two ∙ ap (λ xs. xs ++ field_octets path.source sb 3 end) front
    ∙ ap (λ b. field_octets path.dest (destination_bit path.role) 3 false ++ field_octets path.source b 3 end)
    source
    ∙ ap (λ b. field_octets path.dest (destination_bit path.role) 3 false
    ++ field_octets path.source (source_bit path.role) 3 b) last in
    subst (λ (xs : List ℕ). AreWrittenSoFar path xs 0) (sym all) (AreWrittenSoFar-ends path d s)

pub AreWrittenSoFar-push : (path : Path) (octets : List ℕ) (k : ℕ) (call : Callsign) (top : Bool) → IsCall call
    → ((d : Hop) → (get_or path.repeaters.items k d).call ≡ call)
    → ((d : Hop) → (get_or path.repeaters.items k d).done ≡ top) → AreWrittenSoFar path octets k
    → AreWrittenSoFar path (octets ++ field_octets call top 3 (eqb (k + 1) (repeater_count path))) (k + 1)
AreWrittenSoFar-push path octets k call top valid is_call is_done h =
    let last : Bool = eqb (k + 1) (repeater_count path) in
    let new : List ℕ = field_octets call top 3 last in
    let seven : length new ≡ 7 = length-written call top last valid in
    record {
      size = omega (arith, length-append octets new, h.size);
      destination = rw (field_at-kept octets new 0 (omega (arith, h.size))) h.destination;
      source = rw (field_at-kept octets new 1 (omega (arith, h.size))) h.source;
      repeaters = λ j d below. elim (cases_lt j k) [
        | inl earlier ↦ rw (field_at-kept octets new (j + 2) (omega (arith, h.size))) (h.repeaters j d earlier)
        | inr from ↦ (let here : j ≡ k = omega arith in
            rw (here, is_call d, is_done d, field_at-new octets new (k + 2) (omega (arith, h.size)) seven)
            (written_field call top last valid))
      ];
    }

pub IsWrittenPath-so_far : (path : Path) (octets : List ℕ) (k : ℕ) → repeater_count path ≤ 8 → k ≡ repeater_count path
    → AreWrittenSoFar path octets k → IsWrittenPath path octets
IsWrittenPath-so_far path octets k few all h = record {
  count = few;
  size = omega (arith, h.size);
  destination = h.destination;
  source = h.source;
  repeaters = λ j d below. h.repeaters j d (omega arith);
}

-- what is written spells the path
pub IsPath-written : (path : Path) (octets : List ℕ) → IsWrittenPath path octets → IsPath path octets
IsPath-written path octets h = record {
  count = h.count;
  size = h.size;
  destination = IsField-written _ _ _ _ h.destination;
  source = IsField-written _ _ _ _ h.source;
  repeaters = λ k d below. IsField-written _ _ _ _ (h.repeaters k d below);
}

-- whatever stands after it
pub BeginsWithPath-written : (path : Path) (octets rest : List ℕ) → IsWrittenPath path octets
    → BeginsWithPath (octets ++ rest) path (length octets)
BeginsWithPath-written path octets rest h = (
  omega (arith, length-append octets rest),
  subst (λ (xs : List ℕ). IsPath path xs)
      (sym (take_at octets rest (length octets) refl)) (IsPath-written path octets h),
)
