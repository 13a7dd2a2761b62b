-- A frame that is heard by a link, or by none.
use Rattle.station.proofs.Common.{◌≡◌, ℕ, ◌+◌, true, false, ◌&&◌, List, [], ◌∷◌, count_by, is_some, cond, position}
use Rattle.station.proofs.Common.{Option, Some, None, MatchBool, refl, AllZip, sym, ◌∙◌, ap, subst, Callsign}
use Rattle.station.proofs.Common.{is_same_call, way_back, Command, Frame, modulus_named, Hear, OwnedLink, may_make}
use Rattle.station.proofs.Common.{HeldLinks, is_held_between, event_at, held_modulus, Link, Links, IsNewKey}
use Rattle.station.proofs.Common.{key_between, count_of_links, link_modulus, making, no_layer_3, StandsForPlace}
use Rattle.station.proofs.Common.{StandsForLinks, Turn}
use Rattle.std.proofs.lemmas.List.Sums.{sum_by-cons}
use Rattle.station.specs.Heard.{IsHeardAnew}
use Rattle.station.specs.Links.{is_between}
use Rattle.station.proofs.Searches.{position-AllZip}
use Rattle.station.proofs.Standing.{AllZip-length}

-- a link has the modulus of the one that it stands for
pub same_modulus : (held : Option OwnedLink) (place : Option Link) → StandsForPlace held place
    → held_modulus held ≡ link_modulus place
same_modulus None None h = refl
same_modulus None (Some link) h = absurd h
same_modulus (Some held) None h = absurd h
same_modulus (Some held) (Some link) h = ap modulus_named h.machine.incoming.modulus

same_ends : (local remote : Callsign) (held : Option OwnedLink) (place : Option Link) → StandsForPlace held place
    → is_held_between local remote held ≡ is_between local remote place
same_ends local remote None None h = refl
same_ends local remote None (Some link) h = absurd h
same_ends local remote (Some held) None h = absurd h
same_ends local remote (Some held) (Some link) h =
    ap (λ (call : Callsign). is_same_call call local && is_same_call held.remote remote) h.local
    ∙ ap (λ (call : Callsign). is_same_call link.local local && is_same_call call remote) h.remote

-- the key of the link between two calls
pub key_found : (held : HeldLinks) (links : Links) (local remote : Callsign) → StandsForLinks held links
    → position (is_held_between local remote) held.places ≡ key_between local remote links
key_found held links local remote h =
    position-AllZip StandsForPlace (is_held_between local remote) (is_between local remote) (same_ends local remote)
    held.places links.places h.places
    (AllZip-length StandsForPlace held.places links.places h.places)

one_each : (held : Option OwnedLink) (place : Option Link) → StandsForPlace held place → is_some held ≡ is_some place
one_each None None h = refl
one_each None (Some link) h = absurd h
one_each (Some held) None h = absurd h
one_each (Some held) (Some link) h = refl

same_count : (held : List (Option OwnedLink)) (places : List (Option Link)) → AllZip StandsForPlace held places
    → count_by is_some held ≡ count_by is_some places
same_count [] [] h = refl
same_count [] (y ∷ ys) h = absurd h
same_count (x ∷ xs) [] h = absurd h
same_count (x ∷ xs) (y ∷ ys) h =
    sum_by-cons (λ (slot : Option OwnedLink). cond (is_some slot) 1 0) x xs
    ∙ ap (λ there. cond there 1 0 + count_by is_some xs) (one_each x y h.0)
    ∙ ap (λ n. cond (is_some y) 1 0 + n) (same_count xs ys h.1)
    ∙ sym (sum_by-cons (λ (place : Option Link). cond (is_some place) 1 0) y ys)

-- as many links as there are
pub links_counted : (held : HeldLinks) (links : Links) → StandsForLinks held links
    → count_by is_some held.places ≡ count_of_links links
links_counted held links h = same_count held.places links.places h.places

-- no link is made for the frame
pub heard_passed : (id : ℕ) (frame : Frame) (turn : Turn) (registered : Option ℕ) → Some id ≡ registered
    → may_make frame.kind turn.now.links ≡ false → IsHeardAnew registered frame turn turn
heard_passed id frame turn registered e may =
    subst (λ (owner : Option ℕ). IsHeardAnew owner frame turn turn) e
    (subst (λ may. MatchBool may ((key : ℕ) × IsNewKey key turn.now.links
    × (turn ≡ event_at key (Hear frame) (making key id no_layer_3 frame.path.dest frame.path.source
    (way_back frame.path Command) turn))) (turn ≡ turn)) (sym may) refl)

-- one is made
pub heard_made : (id key : ℕ) (frame : Frame) (turn after : Turn) (registered : Option ℕ) → Some id ≡ registered
    → may_make frame.kind turn.now.links ≡ true → IsNewKey key turn.now.links
    → after ≡ event_at key (Hear frame) (making key id no_layer_3 frame.path.dest frame.path.source
    (way_back frame.path Command) turn) → IsHeardAnew registered frame turn after
heard_made id key frame turn after registered e may new is =
    subst (λ (owner : Option ℕ). IsHeardAnew owner frame turn after) e
    (subst (λ may. MatchBool may ((key : ℕ) × IsNewKey key turn.now.links
    × (after ≡ event_at key (Hear frame) (making key id no_layer_3 frame.path.dest frame.path.source
    (way_back frame.path Command) turn))) (after ≡ turn)) (sym may) (key, new, is))
