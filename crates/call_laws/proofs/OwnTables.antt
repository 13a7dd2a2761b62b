-- The table of links of a station, and the owner of its link between two calls.
use Rattle.station_laws.proofs.Common.{◌≡◌, ◌≢◌, ℕ, ◌<◌, ◌==◌, Bool, true, false, length, cond, Option, Some, None}
use Rattle.station_laws.proofs.Common.{get_or, set, refl, sym, ap, ◌∙◌, subst, arith, ⊤, get_or-set_same, Machine}
use Rattle.station_laws.proofs.Common.{LinkState, Idle, Calling, Up, Releasing, settled_link, without_owner, Link}
use Rattle.station_laws.proofs.Common.{Links, IsNewKey, link_at, most_links, with_link, with_new_link, is_number}
use Rattle.station_laws.proofs.Common.{Choice, first_chosen, eqb-true}
use Rattle.std.specs.List.{AllByRecursion as Each}
use Rattle.std.proofs.lemmas.Bool.{false_from_ne_true}
use Rattle.std.proofs.lemmas.List.{length-set}
use Rattle.ax25_address.specs.Callsign.{IsCall}
use Rattle.station.specs.LinkEvents.{is_idle}
use Rattle.station.specs.Links.{without_link}
use Rattle.station_laws.proofs.Standing.{LooksAtCalls}
use Rattle.station_laws.proofs.Tables.{ChoosesOne, not_both, none_chosen, one_of_none, chosen_at, each_set, each_get}
use Rattle.station_laws.proofs.Tables.{other_first, other_one, chosen_set, chosen_goes, chosen_comes, none_of_first}

-- a link between calls
pub record HasValidCalls (link : Link) : Type 0 where
  pub local_valid : IsCall link.local
  pub remote_valid : IsCall link.remote

abbrev pub IsValidPlace : Option Link → Type 0
IsValidPlace None = ⊤
IsValidPlace (Some link) = HasValidCalls link

-- the machine of the link that is meant, and whether a connection owns it; if there is none, it is idle
abbrev pub IsOwnPlace : ℕ → Bool → Machine → Option Link → Type 0
IsOwnPlace id own m None = m.control.state ≡ Idle
IsOwnPlace id own m (Some link) = (link.machine ≡ m) × (is_number id link.owner ≡ own)

pub record OwnTable (id : ℕ) (chosen : Choice) (own : Bool) (m : Machine) (links : Links) : Type 0 where
  pub size : length links.places ≡ most_links
  pub valid : Each IsValidPlace links.places
  pub one : ChoosesOne chosen links.places
  pub place : IsOwnPlace id own m (first_chosen chosen links.places)

pub valid_at :
    (id : ℕ) (chosen : Choice) (own : Bool) (m : Machine) (links : Links) (key : ℕ) (link : Link)
    → OwnTable id chosen own m links → link_at key links ≡ Some link → HasValidCalls link
valid_at id chosen own m links key link table at =
    subst IsValidPlace at (each_get IsValidPlace links.places key tt table.valid)

-- the link that is meant, at its key
pub own_at :
    (id : ℕ) (chosen : Choice) (own : Bool) (m : Machine) (links : Links) (key : ℕ) (link : Link)
    → LooksAtCalls chosen → OwnTable id chosen own m links → link_at key links ≡ Some link → chosen (Some link) ≡ true
    → (link.machine ≡ m) × (is_number id link.owner ≡ own)
own_at id chosen own m links key link looks table at is =
    subst (IsOwnPlace id own m) (chosen_at chosen links.places key table.one looks.empty (ap chosen at ∙ is) ∙ at)
    table.place

idle_state : (state : LinkState) → is_idle state ≡ true → state ≡ Idle
idle_state Idle is = refl
idle_state Calling is = absurd (not_both true refl (sym is))
idle_state Up is = absurd (not_both true refl (sym is))
idle_state Releasing is = absurd (not_both true refl (sym is))

-- a place that is not meant changes
other_place :
    (id : ℕ) (chosen : Choice) (own : Bool) (m : Machine) (links : Links) (key : ℕ) (place : Option Link)
    (freed : Option ℕ)
    → OwnTable id chosen own m links → chosen (get_or links.places key None) ≡ false → chosen place ≡ false
    → IsValidPlace place
    → OwnTable id chosen own m (record { places = set links.places key place; freed = freed })
other_place id chosen own m links key place freed table was is valid = record {
  size = length-set links.places key place ∙ table.size;
  valid = each_set IsValidPlace links.places key place table.valid valid;
  one = other_one chosen links.places key place is table.one;
  place = subst (IsOwnPlace id own m) (sym (other_first chosen links.places key place was is)) table.place;
}

-- the place that is meant changes
own_place :
    (id : ℕ) (chosen : Choice) (own mine : Bool) (m now : Machine) (links : Links) (key : ℕ) (next : Link)
    (freed : Option ℕ) → LooksAtCalls chosen
    → OwnTable id chosen own m links → chosen (get_or links.places key None) ≡ true → chosen (Some next) ≡ true
    → HasValidCalls next → next.machine ≡ now → is_number id next.owner ≡ mine
    → OwnTable id chosen mine now (record { places = set links.places key (Some next); freed = freed })
own_place id chosen own mine m now links key next freed looks table was is valid machine owner =
    let there = chosen_set chosen links.places key (Some next) table.one looks.empty was is in
    record {
      size = length-set links.places key (Some next) ∙ table.size;
      valid = each_set IsValidPlace links.places key (Some next) table.valid valid;
      one = there.1;
      place = subst (IsOwnPlace id mine now) (sym there.0) (machine, owner);
    }

-- ---- an event

pub own_event :
    (id : ℕ) (chosen : Choice) (own : Bool) (m : Machine) (links : Links) (key : ℕ) (link : Link) (now : Machine)
    → LooksAtCalls chosen → OwnTable id chosen own m links → link_at key links ≡ Some link
    → chosen (Some link) ≡ true → OwnTable id chosen (is_number id link.owner) now (settled_link key link now links)
own_event id chosen own m links key link now looks table at is = go (is_idle now.control.state) refl
  where
    was : chosen (get_or links.places key None) ≡ true
    was = ap chosen at ∙ is

    valid : HasValidCalls (record link { machine = now })
    valid = let v = valid_at id chosen own m links key link table at in
        record { local_valid = v.local_valid; remote_valid = v.remote_valid }

    go : (b : Bool) → is_idle now.control.state ≡ b
        → OwnTable id chosen (is_number id link.owner) now
        (cond b (without_link key links) (with_link key (record link { machine = now }) links))
    go true idle =
        let gone = chosen_goes chosen links.places key table.one looks.empty was in
        record {
          size = length-set links.places key None ∙ table.size;
          valid = each_set IsValidPlace links.places key None table.valid tt;
          one = one_of_none chosen (set links.places key None) gone;
          place = subst (IsOwnPlace id (is_number id link.owner) now)
              (sym (none_chosen chosen (set links.places key None) gone)) (idle_state now.control.state idle);
        }
    go false busy =
        own_place id chosen own (is_number id link.owner) m now links key (record link { machine = now }) links.freed
        looks table was (looks.calls link (record link { machine = now }) refl refl ∙ is) valid refl refl

pub other_event :
    (id : ℕ) (chosen : Choice) (own : Bool) (m : Machine) (links : Links) (key : ℕ) (link : Link) (now : Machine)
    → LooksAtCalls chosen → OwnTable id chosen own m links → link_at key links ≡ Some link
    → chosen (Some link) ≡ false → OwnTable id chosen own m (settled_link key link now links)
other_event id chosen own m links key link now looks table at is = go (is_idle now.control.state)
  where
    was : chosen (get_or links.places key None) ≡ false
    was = ap chosen at ∙ is

    valid : HasValidCalls (record link { machine = now })
    valid = let v = valid_at id chosen own m links key link table at in
        record { local_valid = v.local_valid; remote_valid = v.remote_valid }

    go : (b : Bool) → OwnTable id chosen own m
        (cond b (without_link key links) (with_link key (record link { machine = now }) links))
    go true = other_place id chosen own m links key None (Some key) table was looks.empty tt
    go false = other_place id chosen own m links key (Some (record link { machine = now })) links.freed table was
        (looks.calls link (record link { machine = now }) refl refl ∙ is) valid

-- ---- another connection leaves

pub owner_gone :
    (id host : ℕ) (chosen : Choice) (own : Bool) (m : Machine) (links : Links) (key : ℕ) (link : Link)
    → LooksAtCalls chosen → OwnTable id chosen own m links → link_at key links ≡ Some link → host ≢ id
    → is_number host link.owner ≡ true → OwnTable id chosen own m (with_link key (without_owner link) links)
owner_gone id host chosen own m links key link looks table at other owned = go (chosen (Some link)) refl
  where
    not_own : (owner : Option ℕ) → is_number host owner ≡ true → is_number id owner ≡ false
    not_own None is = refl
    not_own (Some n) is = false_from_ne_true (n == id) (λ e. other (sym (eqb-true n host is) ∙ eqb-true n id e))

    valid : HasValidCalls (without_owner link)
    valid = let v = valid_at id chosen own m links key link table at in
        record { local_valid = v.local_valid; remote_valid = v.remote_valid }

    go : (b : Bool) → chosen (Some link) ≡ b → OwnTable id chosen own m (with_link key (without_owner link) links)
    go true is =
        let here = own_at id chosen own m links key link looks table at is in
        own_place id chosen own own m m links key (without_owner link) links.freed looks table (ap chosen at ∙ is)
        (looks.calls link (without_owner link) refl refl ∙ is) valid here.0
        (sym (not_own link.owner owned) ∙ here.1)
    go false is =
        other_place id chosen own m links key (Some (without_owner link)) links.freed table (ap chosen at ∙ is)
        (looks.calls link (without_owner link) refl refl ∙ is) valid

-- ---- a link is made

pub made_own :
    (id : ℕ) (chosen : Choice) (own : Bool) (m : Machine) (links : Links) (key : ℕ) (link : Link)
    → LooksAtCalls chosen → OwnTable id chosen own m links → IsNewKey key links
    → first_chosen chosen links.places ≡ None → chosen (Some link) ≡ true → HasValidCalls link
    → OwnTable id chosen (is_number id link.owner) link.machine (with_new_link key link links)
made_own id chosen own m links key link looks table new none is valid =
    let within : key < length links.places = let low = new.within in let size = table.size in omega arith in
    let there = chosen_comes chosen links.places key (Some link) (none_of_first chosen links.places looks.empty none)
    within is in
    record {
      size = length-set links.places key (Some link) ∙ table.size;
      valid = each_set IsValidPlace links.places key (Some link) table.valid valid;
      one = there.1;
      place = subst (IsOwnPlace id (is_number id link.owner) link.machine) (sym there.0) (refl, refl);
    }

pub made_other :
    (id : ℕ) (chosen : Choice) (own : Bool) (m : Machine) (links : Links) (key : ℕ) (link : Link)
    → LooksAtCalls chosen → OwnTable id chosen own m links → IsNewKey key links
    → chosen (Some link) ≡ false → HasValidCalls link
    → OwnTable id chosen own m (with_new_link key link links)
made_other id chosen own m links key link looks table new is valid =
    other_place id chosen own m links key (Some link) None table (ap chosen new.vacant ∙ looks.empty) is valid

pub made_at :
    (id : ℕ) (chosen : Choice) (own : Bool) (m : Machine) (links : Links) (key : ℕ) (link : Link)
    → OwnTable id chosen own m links → IsNewKey key links → link_at key (with_new_link key link links) ≡ Some link
made_at id chosen own m links key link table new =
    let within : key < length links.places = let low = new.within in let size = table.size in omega arith in
    get_or-set_same links.places key (Some link) None within
