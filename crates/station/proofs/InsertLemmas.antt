-- A table of links in which one is put into a vacant place.
use Rattle.station.proofs.Common.{◌≡◌, ℕ, ◌<◌, true, Option, Some, None, IfSome, is_some, AllZip, refl, sym, ◌∙◌, subst}
use Rattle.station.proofs.Common.{get_or, set, Callsign, Path}
use Rattle.station.proofs.Common.{OwnedLink, Parts, HeldLinks, Link, Links, IsNewKey, link_at, making}
use Rattle.station.proofs.Common.{StandsForLink, StandsForPlace, IsFreed, Shows, place_at, Out, Turn, length-set}
use Rattle.station.specs.NewLinks.{idle_link}
use Rattle.station.proofs.EventLemmas.{places-at, AllZip-set}

none_place : (place : Option Link) → StandsForPlace None place → place ≡ None
none_place None h = λ i. None
none_place (Some link) h = absurd h

-- a link stands where one is kept
same_some : (held : Option OwnedLink) (place : Option Link) → StandsForPlace held place → is_some held ≡ true
    → is_some place ≡ true
same_some None None h e = e
same_some None (Some link) h e = absurd h
same_some (Some held) None h e = absurd h
same_some (Some held) (Some link) h e = refl

next_freed : (held : HeldLinks) (links : Links) (key : ℕ) (freed : Option ℕ) → key ≡ held.next
    → IfSome freed (IsFreed held links) → IfSome freed (λ last. key ≡ last)
next_freed held links key None next h = tt
next_freed held links key (Some last) next h = next ∙ h.next

-- a station with a link that is made
pub shows_made : (parts : Parts) (out : Out) (turn : Turn) (key id pid : ℕ) (local remote : Callsign) (path : Path)
    (held : OwnedLink) (links : HeldLinks) → Shows parts out turn → key ≡ parts.links.next → key < 64
    → place_at key parts.links ≡ None → links.places ≡ set parts.links.places key (Some held)
    → StandsForLink held (idle_link id pid local remote path turn.now.parameters)
    → ((lower : ℕ) → lower < links.next → is_some (place_at lower links) ≡ true)
    → IsNewKey key turn.now.links × Shows (record parts { links = links }) out
    (making key id pid local remote path turn)
shows_made parts out turn key id pid local remote path held links shows next below vacant places stands least =
    let h = shows.holds in
    let link : Link = idle_link id pid local remote path turn.now.parameters in
    let stand : AllZip StandsForPlace links.places (set turn.now.links.places key (Some link)) =
    subst (λ xs. AllZip StandsForPlace xs (set turn.now.links.places key (Some link))) (sym places)
    (AllZip-set StandsForPlace parts.links.places turn.now.links.places key (Some held) (Some link) h.links.places
    stands) in (
      record {
        within = below;
        vacant = none_place (link_at key turn.now.links)
            (subst (λ (slot : Option OwnedLink). StandsForPlace slot (link_at key turn.now.links)) vacant
            (places-at parts.links.places turn.now.links.places key h.links.places));
        freed = next_freed parts.links turn.now.links key turn.now.links.freed next h.links.freed;
        least = λ none lower less. h.links.least none lower (subst (λ (k : ℕ). lower < k) next less);
      },
      record {
        holds = record {
          parameters = h.parameters;
          digi = h.digi;
          paclen = h.paclen;
          connections = h.connections;
          ids = h.ids;
          registrations = h.registrations;
          links = record {
            places = stand;
            size = length-set turn.now.links.places key (Some link) ∙ h.links.size;
            freed = tt;
            least = λ none lower less.
                same_some (place_at lower links) (get_or (set turn.now.links.places key (Some link)) lower None)
                (places-at links.places (set turn.now.links.places key (Some link)) lower stand) (least lower less);
          };
          channel = h.channel;
          askers = h.askers;
          owners = h.owners;
          heard = h.heard;
          dropped = h.dropped;
          ticks = h.ticks;
          asked = h.asked;
        };
        gave = shows.gave;
      },
    )
