-- Which link is asked for a frame.
use Rattle.station.proofs.Common.{◌≡◌, ℕ, ◌<◌, Bool, true, false, Option, Some, None, refl, ◌∙◌, ap}
use Rattle.station.proofs.Common.{arith, get_or, range_with_len, cond-true, cond-false, most_links, Links}
use Rattle.station.proofs.Common.{OwnedLink, Link, StandsForLink, StandsForPlace}
use Rattle.station.proofs.Common.{event_at, Turn, changing}
use Rattle.std.proofs.lemmas.List.FromFn.{get_or-range_with_len, length-range_with_len}
use Rattle.link_machine.specs.Wants.{wants}
use Rattle.channel_access.specs.Channel.{takes_frame}
use Rattle.station.specs.Asking.{link_wants, wants_from, asking_at, next_wanting}
use Rattle.station.specs.Asking.{with_asked, seizing, asking}
unfoldable use Rattle.station.specs.Asking.{first_wanting}
use Rattle.station.proofs.Searches.{find_at as find_first, find_none}

-- a link that is held wants what it stands for wants
pub place_wants : (told : Bool) (held : OwnedLink) (place : Option Link) → StandsForPlace (Some held) place
    → ((link : Link) → StandsForLink held link → told ≡ wants link.machine) → told ≡ link_wants place
place_wants told held None h is = absurd h
place_wants told held (Some link) h is = is link h

pub none_wants : (place : Option Link) → StandsForPlace None place → false ≡ link_wants place
none_wants None h = refl
none_wants (Some link) h = absurd h

key_there : (key : ℕ) → key < most_links → get_or (range_with_len 0 most_links) key 0 ≡ key
key_there key within = get_or-range_with_len 0 most_links key 0 within ∙ omega arith

-- the first link that wants to send, if none before it does
pub first_found : (start : ℕ) (links : Links) (key : ℕ) → key < most_links
    → ((k : ℕ) → k < key → wants_from start links k ≡ false) → wants_from start links key ≡ true
    → first_wanting start links ≡ Some key
unfolding first_wanting
first_found start links key within before here =
    find_first (wants_from start links) (range_with_len 0 most_links) key 0
    (omega (arith, within, length-range_with_len 0 most_links))
    (λ k less. ap (wants_from start links) (key_there k (omega (arith, less, within))) ∙ before k less)
    (ap (wants_from start links) (key_there key within) ∙ here)
    ∙ ap (λ k. Some k) (key_there key within)

-- or none at all
pub first_none : (start : ℕ) (links : Links) (all : ℕ) → most_links ≡ all
    → ((k : ℕ) → k < all → wants_from start links k ≡ false) → first_wanting start links ≡ None
unfolding first_wanting
first_none start links all is fails =
    find_none (wants_from start links) (range_with_len 0 most_links) 0
    (λ k less.
    let within : k < most_links = omega (arith, less, length-range_with_len 0 most_links) in
    ap (wants_from start links) (key_there k within) ∙ fails k (omega (arith, within, is)))

-- ---- what is asked

pub none_taken : (turn : Turn) → takes_frame turn.now.channel ≡ false → asking turn ≡ turn
none_taken turn none =
    ap (λ key. asking_at key (seizing turn.now) turn) (cond-false (takes_frame turn.now.channel) _ None none)

pub none_asked : (turn : Turn) → takes_frame turn.now.channel ≡ true
    → next_wanting turn.now.asked turn.now.links ≡ None → asking turn ≡ turn
none_asked turn takes none =
    ap (λ key. asking_at key (seizing turn.now) turn) (cond-true (takes_frame turn.now.channel) _ None takes ∙ none)

pub one_asked : (turn : Turn) (key : ℕ) → takes_frame turn.now.channel ≡ true
    → next_wanting turn.now.asked turn.now.links ≡ Some key
    → asking turn ≡ event_at key (seizing turn.now) (changing (with_asked key) turn)
one_asked turn key takes is =
    ap (λ k. asking_at k (seizing turn.now) turn) (cond-true (takes_frame turn.now.channel) _ None takes ∙ is)
