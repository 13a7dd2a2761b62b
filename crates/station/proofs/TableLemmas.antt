-- What a change of one place makes of a table of links.
use Rattle.station.proofs.Common.{◌≡◌, ◌≢◌, ℕ, ◌+◌, ◌<◌, true, false, List, [], ◌∷◌, suc, length, count_by}
use Rattle.station.proofs.Common.{is_some, cond, Option, Some, None, Result, Ok, Err, OnOk, refl, sym, ◌∙◌, ap, subst}
use Rattle.station.proofs.Common.{arith, get_or, set}
use Rattle.station.proofs.Common.{cond-true, cond-false, get_or-set_other, length-set, OutOfMemory, OwnedLink}
use Rattle.station.proofs.Common.{HeldLinks, IsTable, IsVacant, is_idle, Link, StandsForLink, StandsForPlace, place_at}
use Rattle.station.proofs.Common.{HasAt, IsSetAt, settled_at}
use Rattle.std.proofs.lemmas.List.Sums.{sum_by-cons, sum_by-set}
use Rattle.station.proofs.Places.{within_slots}

-- what is at a key stands for the link there
pub at_place : (held : HeldLinks) (key : ℕ) (link : Link) (slot : Option OwnedLink) → slot ≡ place_at key held
    → HasAt key held link → StandsForPlace slot (Some link)
at_place held key link slot is here = subst (λ (place : Option OwnedLink). StandsForPlace place (Some link))
    (sym is) here

abbrev pub one_if : Option OwnedLink → ℕ
one_if slot = cond (is_some slot) 1 0

-- how many links there are if one place was written
pub count_set : (slots : List (Option OwnedLink)) (key : ℕ) (slot had : Option OwnedLink) → key < length slots
    → get_or slots key None ≡ had → count_by is_some (set slots key slot) + one_if had
    ≡ count_by is_some slots + one_if slot
count_set slots key slot had within e =
    let changed = sum_by-set one_if slots key slot None within in
    let was : one_if (get_or slots key None) ≡ one_if had = ap one_if e in
    omega (arith, changed, was)

-- every place has a link
pub all_counted : (slots : List (Option OwnedLink)) → ((k : ℕ) → k < length slots → is_some (get_or slots k None)
    ≡ true)
    → count_by is_some slots ≡ length slots
all_counted [] each = refl
all_counted (slot ∷ slots) each =
    let here : one_if slot ≡ 1 = ap (λ some. cond some 1 0) (each 0 (omega arith)) in
    let rest = all_counted slots (λ k within. each (suc k) (omega (arith, within))) in
    omega (arith, here, rest, sum_by-cons one_if slot slots)

-- a table in which the link of a key was written
pub IsTable-written : (held : HeldLinks) (key : ℕ) (old new : OwnedLink) → IsTable held → place_at key held ≡ Some old
    → IsTable (record held { places = set held.places key (Some new) })
IsTable-written held key old new h e =
    let within : key < length held.places = within_slots held.places key old e in
    let count = count_set held.places key (Some new) (Some old) within e in
    record {
      size = length-set held.places key (Some new) ∙ h.size;
      room = λ few.
          let vacant : IsVacant held.next held.places = h.room (omega (arith, count, few)) in
          let other : held.next ≢ key = λ same. let clash : None ≡ Some old = sym vacant.none
          ∙ ap (λ n. get_or held.places n None) same ∙ e in absurd (cc) in
          record {
            within = vacant.within;
            none = get_or-set_other held.places key held.next (Some new) None other ∙ vacant.none;
          };
    }

-- the table after an event of the link of a key
pub IsSetAt-written : (held : HeldLinks) (key : ℕ) (new : OwnedLink) (link : Link) (A : Type 0)
    (result : Result A OutOfMemory) → OnOk result (StandsForLink new link)
    → OnOk result (IsSetAt key held (record held { places = set held.places key (Some new) }) link)
IsSetAt-written held key new link A (Err fault) stands = tt
IsSetAt-written held key new link A (Ok value) stands =
    record { held = new; stands = stands; places = refl; next = refl }

-- the table after a removal is the settled one of an idle link
pub settled-removed : (held : HeldLinks) (key : ℕ) (value : OwnedLink) (link : Link) → StandsForLink value link
    → is_idle value.machine.control.state ≡ true
    → record { places = set held.places key None; next = key } ≡ settled_at key held link.machine.control.state
settled-removed held key value link stands idle =
    sym (cond-true (is_idle link.machine.control.state) (record { places = set held.places key None; next = key }) held
    (ap (λ c. is_idle c.state) (sym stands.machine.control) ∙ idle))

-- and one that is not idle stays
pub settled-kept : (held : HeldLinks) (key : ℕ) (value : OwnedLink) (link : Link) → StandsForLink value link
    → is_idle value.machine.control.state ≡ false → held ≡ settled_at key held link.machine.control.state
settled-kept held key value link stands busy =
    sym (cond-false (is_idle link.machine.control.state) (record { places = set held.places key None; next = key }) held
    (ap (λ c. is_idle c.state) (sym stands.machine.control) ∙ busy))
