-- The last range grows by one id.
use Rattle.host_ports.proofs.Common.{zero, suc, ◌==◌, ◌&&◌, ◌||◌, Bool, true, false, List, ◌∷◌, ◌∙◌, ap, arith, get_or}
use Rattle.host_ports.proofs.Common.{set, nat_tests, is_within}
use Rattle.std.specs.Prelude.{◌≡◌, ℕ, ◌+◌, ◌-◌, ◌<◌, ◌≤◌, nat_le, [], length, refl}
use Rattle.host_ports.specs.declared.id_range.IdRange.{IdRange}
use Rattle.host_ports.specs.IdRanges.{is_in_range}

in_longer : (first last id other : ℕ) → first ≤ last → last + 1 ≡ id
    → (nat_le first other && nat_le other id) ≡ ((nat_le first other && nat_le other last) || (id == other))
in_longer first last id other below next = grind (arith, nat_tests)

or_swapped : (a b c : Bool) → ((a || b) || c) ≡ ((a || c) || b)
or_swapped true b c = refl
or_swapped false true true = refl
or_swapped false true false = refl
or_swapped false false true = refl
or_swapped false false false = refl

or_assoc : (a b c : Bool) → (a || (b || c)) ≡ ((a || b) || c)
or_assoc true b c = refl
or_assoc false b c = refl

-- the range at a place that has none after it
longer_at : (ranges : List IdRange) (place : ℕ) (range : IdRange) (id other : ℕ) → length ranges ≡ suc place
    → range ≡ get_or ranges place range → range.first ≤ range.last → range.last + 1 ≡ id
    → is_within other (set ranges place (record { first = range.first; last = id }))
    ≡ (is_within other ranges || (id == other))
longer_at [] place range id other long last below next = absurd (omega arith)
longer_at (one ∷ []) zero range id other long last below next =
    ap (λ t. t || false) (in_longer range.first range.last id other below next)
    ∙ or_swapped (is_in_range other range) (id == other) false
    ∙ ap (λ (r : IdRange). (is_in_range other r || false) || (id == other)) last
longer_at (one ∷ two ∷ ranges) zero range id other long last below next = absurd (omega arith)
longer_at (one ∷ ranges) (suc place) range id other long last below next =
    ap (λ t. is_in_range other one || t) (longer_at ranges place range id other (omega (arith, long)) last below next)
    ∙ or_assoc (is_in_range other one) (is_within other ranges) (id == other)

pub range_longer : (ranges : List IdRange) (place : ℕ) (range : IdRange) (id other : ℕ) → 0 < length ranges
    → place ≡ length ranges - 1 → range ≡ get_or ranges place range → range.first ≤ range.last → range.last + 1 ≡ id
    → is_within other (set ranges place (record { first = range.first; last = id }))
    ≡ (is_within other ranges || (id == other))
range_longer ranges place range id other some is last below next =
    longer_at ranges place range id other (omega arith) last below next
