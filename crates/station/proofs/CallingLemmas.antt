-- A call that is made, or refused.
use Rattle.station.proofs.Common.{◌≡◌, ℕ, ◌&&◌, Bool, true, false, nat_lt, is_some, Option, Some, None, MatchBool, refl}
use Rattle.station.proofs.Common.{sym, ◌∙◌, ap, subst, false≢true, AgwMessage, spelling, IsCallMade, may_call}
use Rattle.station.proofs.Common.{refused_reply, replying, key_between, count_of_links, most_links, is_number}
use Rattle.station.proofs.Common.{registrar, Route, Shows, StationState, Out, Turn, Parts}
use Rattle.std.specs.Prelude.{is_none}
use Rattle.station.specs.AgwRequests.{IsCall, called_pid}
use Rattle.station.specs.Turn.{with_piece}

none_there : (key : Option ℕ) → is_some key ≡ true → is_none key ≡ false
none_there None h = absurd (false≢true h)
none_there (Some key) h = refl

some_there : (key : Option ℕ) → is_some key ≡ false → is_none key ≡ true
some_there None h = refl
some_there (Some key) h = absurd (false≢true (sym h))

-- the connection has not registered the call
pub call-unregistered : (id : ℕ) (route : Route) (s : StationState)
    → is_number id (registrar route.local s.registrations) ≡ false → false ≡ may_call id route s
call-unregistered id route s other =
    ap (λ registered. registered && (is_none (key_between route.local route.remote s.links)
    && nat_lt (count_of_links s.links) most_links)) (sym other)

-- that link exists
pub call-linked : (id : ℕ) (route : Route) (s : StationState)
    → is_number id (registrar route.local s.registrations) ≡ true
    → is_some (key_between route.local route.remote s.links) ≡ true → false ≡ may_call id route s
call-linked id route s own linked =
    ap (λ vacant. vacant && nat_lt (count_of_links s.links) most_links)
    (sym (none_there (key_between route.local route.remote s.links) linked))
    ∙ ap (λ registered. registered && (is_none (key_between route.local route.remote s.links)
    && nat_lt (count_of_links s.links) most_links)) (sym own)

-- else what counts is whether there is room
pub call-free : (id : ℕ) (route : Route) (s : StationState)
    → is_number id (registrar route.local s.registrations) ≡ true
    → is_some (key_between route.local route.remote s.links) ≡ false
    → nat_lt (count_of_links s.links) most_links ≡ may_call id route s
call-free id route s own free =
    ap (λ vacant. vacant && nat_lt (count_of_links s.links) most_links)
    (sym (some_there (key_between route.local route.remote s.links) free))
    ∙ ap (λ registered. registered && (is_none (key_between route.local route.remote s.links)
    && nat_lt (count_of_links s.links) most_links)) (sym own)

-- a message that tells no route is refused
pub call-astray : (id : ℕ) (message : AgwMessage) (called : Option Route) (turn : Turn) → None ≡ called
    → IsCall id message called turn (replying id (refused_reply message) turn)
call-astray id message called turn none =
    subst (λ (route : Option Route). IsCall id message route turn (replying id (refused_reply message) turn)) none refl

-- and so is one that may not call
pub call-refused : (id : ℕ) (message : AgwMessage) (route : Route) (called : Option Route) (turn : Turn)
    → Some route ≡ called → may_call id route turn.now ≡ false
    → IsCall id message called turn (replying id (refused_reply message) turn)
call-refused id message route called turn told may =
    let after : Turn = replying id (refused_reply message) turn in
    subst (λ (route : Option Route). IsCall id message route turn after) told
    (subst (λ (may : Bool). MatchBool may (IsCallMade id (called_pid message) route turn after) (after ≡ after))
    (sym may) refl)

-- one that may is made
pub call-made : (id : ℕ) (message : AgwMessage) (route : Route) (called : Option Route) (turn after : Turn)
    → Some route ≡ called → may_call id route turn.now ≡ true → IsCallMade id (called_pid message) route turn after
    → IsCall id message called turn after
call-made id message route called turn after told may made =
    subst (λ (route : Option Route). IsCall id message route turn after) told
    (subst (λ (may : Bool). MatchBool may (IsCallMade id (called_pid message) route turn after)
    (after ≡ replying id (refused_reply message) turn)) (sym may) made)

-- what the connection is told then
pub shows-refused : (parts : Parts) (old new : Out) (turn : Turn) (id : ℕ) (message : AgwMessage) → Shows parts old turn
    → new ≡ with_piece id (spelling (refused_reply message)) old
    → Shows parts new (replying id (refused_reply message) turn)
shows-refused parts old new turn id message shows is = record {
  holds = shows.holds;
  gave = is ∙ ap (with_piece id (spelling (refused_reply message))) shows.gave;
}
