-- A station after an event of one of its links.
use Rattle.station.proofs.Common.{◌≡◌, ◌≢◌, ℕ, zero, suc, ◌<◌, Bool, true, false, inl, inr, List, [], ◌∷◌, length, cond}
use Rattle.station.proofs.Common.{Option, is_some}
use Rattle.station.proofs.Common.{Some, None, IfSome, refl, AllZip, sym, ◌∙◌, ap, subst, arith, get_or, set}
use Rattle.station.proofs.Common.{get_or-set_same, get_or-set_other, length-set, Machine, OwnedLink, Parts, HeldLinks}
use Rattle.station.proofs.Common.{is_idle, settled_link, with_links, Link, Links, link_at, with_link, StandsForPlace}
use Rattle.station.proofs.Common.{StandsForLinks, IsFreed, Shows, HasAt, IsSetAt, settled_at, Out, Turn, changing}
use Rattle.std.proofs.lemmas.Bool.{cases_eq}
use Rattle.station.specs.Links.{without_link}
use Rattle.station.proofs.Places.{within_slots}
use Rattle.station.proofs.Standing.{AllZip-length}

-- places stand for places at each key
pub places-at : (held : List (Option OwnedLink)) (places : List (Option Link)) (key : ℕ)
    → AllZip StandsForPlace held places → StandsForPlace (get_or held key None) (get_or places key None)
places-at [] [] key h = tt
places-at [] (y ∷ ys) key h = absurd h
places-at (x ∷ xs) [] key h = absurd h
places-at (x ∷ xs) (y ∷ ys) zero h = h.0
places-at (x ∷ xs) (y ∷ ys) (suc key) h = places-at xs ys key h.1

-- and still do if one of them is changed alike
pub AllZip-set : {A B : Type 0} (R : A → B → Type 0) (xs : List A) (ys : List B) (k : ℕ) (a : A) (b : B)
    → AllZip R xs ys → R a b → AllZip R (set xs k a) (set ys k b)
AllZip-set R [] [] k a b h r = h
AllZip-set R [] (y ∷ ys) k a b h r = absurd h
AllZip-set R (x ∷ xs) [] k a b h r = absurd h
AllZip-set R (x ∷ xs) (y ∷ ys) zero a b h r = (r, h.1)
AllZip-set R (x ∷ xs) (y ∷ ys) (suc k) a b h r = (h.0, AllZip-set R xs ys k a b h.1 r)

set-twice : {A : Type 0} (xs : List A) (k : ℕ) (a b : A) → set (set xs k a) k b ≡ set xs k b
set-twice [] k a b = refl
set-twice (x ∷ xs) zero a b = refl
set-twice (x ∷ xs) (suc k) a b = ap (λ rest. x ∷ rest) (set-twice xs k a b)

other_key : (places : List (Option Link)) (key k : ℕ) (link : Link) → get_or places key None ≡ Some link
    → get_or places k None ≡ None → k ≢ key
other_key places key k link some none = λ same. let clash : None ≡ Some link = sym none
    ∙ ap (λ n. get_or places n None) same ∙ some in absurd (cc)

-- the key that was freed last stays vacant if another link is written
pub freed-kept : (old new : HeldLinks) (links : Links) (key : ℕ) (link next : Link) (freed : Option ℕ)
    → link_at key links ≡ Some link → new.next ≡ old.next → IfSome freed (IsFreed old links)
    → IfSome freed (IsFreed new (with_link key next links))
freed-kept old new links key link next None at same h = tt
freed-kept old new links key link next (Some k) at same h = record {
  next = same ∙ h.next;
  within = h.within;
  vacant = get_or-set_other links.places key k (Some next) None (other_key links.places key k link at h.vacant)
      ∙ h.vacant;
}

-- a key that has a link still has one if another link is written
pub some-kept : (places : List (Option Link)) (key lower : ℕ) (link next : Link) → get_or places key None ≡ Some link
    → is_some (get_or places lower None) ≡ true → is_some (get_or (set places key (Some next)) lower None) ≡ true
some-kept places key lower link next at some = elim (cases_eq lower key) [
  | inl same ↦ ap (λ k. is_some (get_or (set places key (Some next)) k None)) same
      ∙ ap is_some (get_or-set_same places key (Some next) None (within_slots places key link at))
  | inr other ↦ ap is_some (get_or-set_other places key lower (Some next) None other) ∙ some
]

-- the links after an event of one of them
settled_links : (old new : HeldLinks) (links : Links) (key : ℕ) (link : Link) (machine : Machine) (idle : Bool)
    → StandsForLinks old links → link_at key links ≡ Some link → IsSetAt key old new (record link { machine = machine })
    → StandsForLinks (cond idle (record { places = set new.places key None; next = key }) new)
    (cond idle (without_link key links) (with_link key (record link { machine = machine }) links))
settled_links old new links key link machine true h at is =
    let within : key < length links.places = within_slots links.places key link at in
    record {
      places = subst (λ held. AllZip StandsForPlace held (set links.places key None))
          (sym (ap (λ xs. set xs key None) is.places ∙ set-twice old.places key (Some is.held) None))
          (AllZip-set StandsForPlace old.places links.places key None None h.places tt);
      size = length-set links.places key None ∙ h.size;
      freed = record {
        next = refl;
        within = omega (arith, within, h.size);
        vacant = get_or-set_same links.places key None None within;
      };
      least = λ none. let clash : Some key ≡ None = none in absurd (cc);
    }
settled_links old new links key link machine false h at is = record {
  places = subst (λ held. AllZip StandsForPlace held (set links.places key (Some (record link { machine = machine }))))
      (sym is.places) (AllZip-set StandsForPlace old.places links.places key (Some is.held)
      (Some (record link { machine = machine })) h.places is.stands);
  size = length-set links.places key (Some (record link { machine = machine })) ∙ h.size;
  freed = freed-kept old new links key link (record link { machine = machine }) links.freed at is.next h.freed;
  least = λ none lower less. some-kept links.places key lower link (record link { machine = machine }) at
      (h.least none lower (subst (λ (k : ℕ). lower < k) is.next less));
}

-- what is set is there
pub HasAt-set : (old new : HeldLinks) (links : Links) (key : ℕ) (link next : Link) → StandsForLinks old links
    → link_at key links ≡ Some link → IsSetAt key old new next → HasAt key new next
HasAt-set old new links key link next h at is =
    let within : key < length links.places = within_slots links.places key link at in
    let inside : key < length old.places = omega (
      arith,
      within,
      AllZip-length StandsForPlace old.places links.places h.places,
    ) in
    subst (λ (place : Option OwnedLink). StandsForPlace place (Some next))
    (sym (ap (λ xs. get_or xs key None) is.places ∙ get_or-set_same old.places key (Some is.held) None inside))
    is.stands

-- the station with the link after its event
pub shows-settled : (parts : Parts) (out : Out) (turn : Turn) (set_links settled : HeldLinks) (key : ℕ) (link : Link)
    (machine : Machine) → Shows parts out turn → link_at key turn.now.links ≡ Some link
    → IsSetAt key parts.links set_links (record link { machine = machine })
    → settled ≡ settled_at key set_links machine.control.state
    → Shows (record parts { links = settled }) out (changing (with_links (settled_link key link machine)) turn)
shows-settled parts out turn set_links settled key link machine shows at is same =
    let h = shows.holds in
    record {
      holds = record {
        parameters = h.parameters;
        digi = h.digi;
        paclen = h.paclen;
        connections = h.connections;
        ids = h.ids;
        registrations = h.registrations;
        links = subst (λ (held : HeldLinks). StandsForLinks held (settled_link key link machine turn.now.links))
            (sym same)
            (settled_links parts.links set_links turn.now.links key link machine (is_idle machine.control.state)
            h.links at is);
        channel = h.channel;
        askers = h.askers;
        owners = h.owners;
        heard = h.heard;
        dropped = h.dropped;
        ticks = h.ticks;
        asked = h.asked;
      };
      gave = shows.gave;
    }
