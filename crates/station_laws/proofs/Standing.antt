-- The table of links of a station, and the machine of the end that stands for its link between two calls.
use Rattle.station_laws.proofs.Common.{◌≡◌, ℕ, ◌<◌, Bool, true, false, ◌&&◌, length, cond, Option, Some, None, get_or}
use Rattle.station_laws.proofs.Common.{set, refl, sym, ap, ◌∙◌, subst, arith, ⊤, and_parts, get_or-set_same, Callsign}
use Rattle.station_laws.proofs.Common.{Path, Params, LinkState, Idle, Calling, Up, Releasing, Event, Machine, step}
use Rattle.station_laws.proofs.Common.{step_keeps, settled_link, without_owner, Link, Links, IsNewKey, is_between}
use Rattle.station_laws.proofs.Common.{link_at, most_links, with_link, with_new_link, Choice, first_chosen, IsMachineOf}
use Rattle.std.specs.List.{AllByRecursion as Each}
use Rattle.std.proofs.lemmas.List.{length-set}
use Rattle.ax25_address.specs.SameCall.{is_same_call, is_same_call-Decides}
use Rattle.link_world.specs.Held.{IsCounting}
use Rattle.station.specs.LinkEvents.{is_idle}
use Rattle.station.specs.Links.{without_link}
use Rattle.station_laws.proofs.Addresses.{IsGoodPath}
use Rattle.station_laws.proofs.PathStays.{step_stays}
use Rattle.station_laws.proofs.Tables.{ChoosesOne, not_both, none_chosen, one_of_none, chosen_at, each_set, each_get}
use Rattle.station_laws.proofs.Tables.{other_first, other_one, chosen_set, chosen_goes, chosen_comes, none_of_first}

-- a link whose path can be written, between its calls
pub record IsGoodLink (params : Params) (link : Link) : Type 0 where
  pub path : IsGoodPath link.machine.path
  pub source : link.machine.path.source ≡ link.local
  pub dest : link.machine.path.dest ≡ link.remote
  pub params_are : link.machine.params ≡ params
  pub counts : IsCounting link.machine

abbrev pub IsGoodPlace : Params → Option Link → Type 0
IsGoodPlace params None = ⊤
IsGoodPlace params (Some link) = IsGoodLink params link

-- the table, and the machine of the chosen link
pub record IsTable (params : Params) (chosen : Choice) (links : Links) (machine : Machine) : Type 0 where
  pub size : length links.places ≡ most_links
  pub good : Each (IsGoodPlace params) links.places
  pub one : ChoosesOne chosen links.places
  pub machine_is : IsMachineOf (first_chosen chosen links.places) machine

-- a test of links looks at their calls alone, and takes none for none
pub record LooksAtCalls (chosen : Choice) : Type 0 where
  pub empty : chosen None ≡ false
  pub calls : (link next : Link) → next.local ≡ link.local → next.remote ≡ link.remote
      → chosen (Some next) ≡ chosen (Some link)

pub between_calls : (local remote : Callsign) → LooksAtCalls (is_between local remote)
between_calls local remote = record {
  empty = refl;
  calls = λ link next l r. ap (λ (c : Callsign). is_same_call c local && is_same_call next.remote remote) l
      ∙ ap (λ (c : Callsign). is_same_call link.local local && is_same_call c remote) r;
}

-- the calls of the chosen link
pub record HasCalls (local remote : Callsign) (link : Link) : Type 0 where
  pub local_is : link.local ≡ local
  pub remote_is : link.remote ≡ remote

pub chosen_calls : (local remote : Callsign) (link : Link) → is_between local remote (Some link) ≡ true
    → HasCalls local remote link
chosen_calls local remote link is =
    let both = and_parts (is_same_call link.local local) (is_same_call link.remote remote) is in
    record {
      local_is = (is_same_call-Decides link.local local).0 both.0;
      remote_is = (is_same_call-Decides link.remote remote).0 both.1;
    }

pub calls_chosen : (local remote : Callsign) (link : Link) → link.local ≡ local → link.remote ≡ remote
    → is_between local remote (Some link) ≡ true
calls_chosen local remote link l r =
    ap (λ b. b && is_same_call link.remote remote) ((is_same_call-Decides link.local local).1 l)
    ∙ (is_same_call-Decides link.remote remote).1 r

-- ---- an event of a link

-- a link is good after its event
pub good_stepped :
    (params : Params) (link : Link) (event : Event) → IsGoodLink params link
    → IsGoodLink params (record link { machine = (step link.machine event).now })
good_stepped params link event good =
    let stays = step_stays link.machine event in
    record {
      path = subst IsGoodPath (sym stays.path) good.path;
      source = ap (λ (p : Path). p.source) stays.path ∙ good.source;
      dest = ap (λ (p : Path). p.dest) stays.path ∙ good.dest;
      params_are = stays.params ∙ good.params_are;
      counts = (step_keeps link.machine event good.counts).counts;
    }

pub good_at :
    (params : Params) (chosen : Choice) (links : Links) (machine : Machine) (key : ℕ) (link : Link)
    → IsTable params chosen links machine → link_at key links ≡ Some link → IsGoodLink params link
good_at params chosen links machine key link table at =
    subst (IsGoodPlace params) at (each_get (IsGoodPlace params) links.places key tt table.good)

-- an end that is idle is in that state
idle_state : (state : LinkState) → is_idle state ≡ true → state ≡ Idle
idle_state Idle is = refl
idle_state Calling is = absurd (not_both true refl (sym is))
idle_state Up is = absurd (not_both true refl (sym is))
idle_state Releasing is = absurd (not_both true refl (sym is))

-- the chosen link
pub own_table :
    (params : Params) (chosen : Choice) (links : Links) (before : Machine) (key : ℕ) (link : Link) (now : Machine)
    → LooksAtCalls chosen → IsTable params chosen links before → link_at key links ≡ Some link
    → chosen (Some link) ≡ true → IsGoodLink params (record link { machine = now })
    → IsTable params chosen (settled_link key link now links) now
own_table params chosen links before key link now looks table at is good = go (is_idle now.control.state) refl
  where
    next : Link
    next = record link { machine = now }

    was : chosen (get_or links.places key None) ≡ true
    was = ap chosen at ∙ is

    go : (b : Bool) → is_idle now.control.state ≡ b
        → IsTable params chosen (cond b (without_link key links) (with_link key next links)) now
    go true idle =
        let gone = chosen_goes chosen links.places key table.one looks.empty was in
        record {
          size = length-set links.places key None ∙ table.size;
          good = each_set (IsGoodPlace params) links.places key None table.good tt;
          one = one_of_none chosen (set links.places key None) gone;
          machine_is = subst (λ place. IsMachineOf place now)
              (sym (none_chosen chosen (set links.places key None) gone))
              (idle_state now.control.state idle);
        }
    go false busy =
        let there = chosen_set chosen links.places key (Some next) table.one looks.empty was
        (looks.calls link next refl refl ∙ is) in
        record {
          size = length-set links.places key (Some next) ∙ table.size;
          good = each_set (IsGoodPlace params) links.places key (Some next) table.good good;
          one = there.1;
          machine_is = subst (λ place. IsMachineOf place now) (sym there.0) refl;
        }

-- a place that is not chosen changes
other_place :
    (params : Params) (chosen : Choice) (links : Links) (machine : Machine) (key : ℕ) (place : Option Link)
    (freed : Option ℕ)
    → IsTable params chosen links machine → chosen (get_or links.places key None) ≡ false → chosen place ≡ false
    → IsGoodPlace params place
    → IsTable params chosen (record { places = set links.places key place; freed = freed }) machine
other_place params chosen links machine key place freed table was is good = record {
  size = length-set links.places key place ∙ table.size;
  good = each_set (IsGoodPlace params) links.places key place table.good good;
  one = other_one chosen links.places key place is table.one;
  machine_is = subst (λ p. IsMachineOf p machine) (sym (other_first chosen links.places key place was is))
      table.machine_is;
}

-- another link
pub other_table :
    (params : Params) (chosen : Choice) (links : Links) (machine : Machine) (key : ℕ) (link : Link) (now : Machine)
    → LooksAtCalls chosen → IsTable params chosen links machine → link_at key links ≡ Some link
    → chosen (Some link) ≡ false → IsGoodLink params (record link { machine = now })
    → IsTable params chosen (settled_link key link now links) machine
other_table params chosen links machine key link now looks table at is good = go (is_idle now.control.state)
  where
    next : Link
    next = record link { machine = now }

    was : chosen (get_or links.places key None) ≡ false
    was = ap chosen at ∙ is

    go : (b : Bool) → IsTable params chosen (cond b (without_link key links) (with_link key next links)) machine
    go true = other_place params chosen links machine key None (Some key) table was looks.empty tt
    go false =
        other_place params chosen links machine key (Some next) links.freed table was (looks.calls link next refl refl
        ∙ is) good

-- a link that nobody owns any more
pub owner_table :
    (params : Params) (chosen : Choice) (links : Links) (machine : Machine) (key : ℕ) (link : Link)
    → LooksAtCalls chosen → IsTable params chosen links machine → link_at key links ≡ Some link
    → IsTable params chosen (with_link key (without_owner link) links) machine
owner_table params chosen links machine key link looks table at = go (chosen (Some link)) refl
  where
    next : Link
    next = without_owner link

    good : IsGoodLink params next
    good = let g = good_at params chosen links machine key link table at in
        record { path = g.path; source = g.source; dest = g.dest; params_are = g.params_are; counts = g.counts }

    go : (b : Bool) → chosen (Some link) ≡ b → IsTable params chosen (with_link key next links) machine
    go true is =
        let was : chosen (get_or links.places key None) ≡ true = ap chosen at ∙ is in
        let there = chosen_set chosen links.places key (Some next) table.one looks.empty was
        (looks.calls link next refl refl ∙ is) in
        let same : IsMachineOf (Some link) machine =
        subst (λ place. IsMachineOf place machine) (chosen_at chosen links.places key table.one looks.empty was ∙ at)
        table.machine_is in
        record {
          size = length-set links.places key (Some next) ∙ table.size;
          good = each_set (IsGoodPlace params) links.places key (Some next) table.good good;
          one = there.1;
          machine_is = subst (λ place. IsMachineOf place machine) (sym there.0) same;
        }
    go false is =
        other_place params chosen links machine key (Some next) links.freed table (ap chosen at ∙ is)
        (looks.calls link next refl refl ∙ is) good

-- ---- a link that is made

-- the chosen one, if there was none
pub made_table :
    (params : Params) (chosen : Choice) (links : Links) (before : Machine) (key : ℕ) (link : Link)
    → LooksAtCalls chosen → IsTable params chosen links before → IsNewKey key links
    → first_chosen chosen links.places ≡ None → chosen (Some link) ≡ true → IsGoodLink params link
    → IsTable params chosen (with_new_link key link links) link.machine
made_table params chosen links before key link looks table new none is good =
    let within : key < length links.places = let low = new.within in let size = table.size in omega arith in
    let there = chosen_comes chosen links.places key (Some link) (none_of_first chosen links.places looks.empty none)
    within is in
    record {
      size = length-set links.places key (Some link) ∙ table.size;
      good = each_set (IsGoodPlace params) links.places key (Some link) table.good good;
      one = there.1;
      machine_is = subst (λ place. IsMachineOf place link.machine) (sym there.0) refl;
    }

-- another one
pub made_other :
    (params : Params) (chosen : Choice) (links : Links) (machine : Machine) (key : ℕ) (link : Link)
    → LooksAtCalls chosen → IsTable params chosen links machine → IsNewKey key links
    → chosen (Some link) ≡ false → IsGoodLink params link
    → IsTable params chosen (with_new_link key link links) machine
made_other params chosen links machine key link looks table new is good =
    other_place params chosen links machine key (Some link) None table (ap chosen new.vacant ∙ looks.empty) is good

-- it is at its key
pub made_at :
    (params : Params) (chosen : Choice) (links : Links) (machine : Machine) (key : ℕ) (link : Link)
    → IsTable params chosen links machine → IsNewKey key links → link_at key (with_new_link key link links) ≡ Some link
made_at params chosen links machine key link table new =
    let within : key < length links.places = let low = new.within in let size = table.size in omega arith in
    get_or-set_same links.places key (Some link) None within
