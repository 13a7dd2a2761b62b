-- The link that a connection speaks of.
use Rattle.station.proofs.Common.{◌≡◌, ℕ, false, Option, Some, None, refl, sym, ap, subst, OwnedLink, HeldLinks, Link}
use Rattle.station.proofs.Common.{Links, link_at, is_number, StandsForPlace, StandsForLinks, place_at}
use Rattle.station.specs.AgwRequests.{data_pid, is_owner}
use Rattle.station.specs.NewLinks.{pid_or}
use Rattle.station.proofs.EventLemmas.{places-at}

-- what is at a key stands for the link there
pub stands_at : (held : HeldLinks) (links : Links) (key : ℕ) (slot : Option OwnedLink) → StandsForLinks held links
    → slot ≡ place_at key held → StandsForPlace slot (link_at key links)
stands_at held links key slot h is = subst (λ (place : Option OwnedLink). StandsForPlace place (link_at key links))
    (sym is) (places-at held.places links.places key h.places)

-- and has its owner
pub owner_held : (id : ℕ) (held : OwnedLink) (place : Option Link) → StandsForPlace (Some held) place
    → is_number id held.owner ≡ is_owner id place
owner_held id held None h = absurd h
owner_held id held (Some link) h = ap (is_number id) h.owner

pub no_owner : (id : ℕ) (place : Option Link) → StandsForPlace None place → false ≡ is_owner id place
no_owner id None h = refl
no_owner id (Some link) h = absurd h

-- and its PID
pub pid_held : (pid : ℕ) (held : OwnedLink) (place : Option Link) → StandsForPlace (Some held) place
    → pid_or held.pid pid ≡ data_pid pid place
pid_held pid held None h = absurd h
pid_held pid held (Some link) h = ap (λ other. pid_or other pid) h.pid

pub no_pid : (pid : ℕ) (place : Option Link) → StandsForPlace None place → pid ≡ data_pid pid place
no_pid pid None h = refl
no_pid pid (Some link) h = absurd h
