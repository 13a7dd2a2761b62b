-- Whether an event is quiet is known before it: by whether its link asks, and what is in flight.
use Rattle.link_world.proofs.Common.{◌≡◌, ℕ, ◌+◌, Bool, true, false, ◌&&◌, not, ◌==◌, refl, ap, sym, ◌∙◌, arith, List}
use Rattle.link_world.proofs.Common.{None, eqb-true, eqb-false, ne_eqb, Event, Happening, EndTurn, end_turn, seen}
use Rattle.link_world.proofs.Common.{hears_ask, following, RecordedEnd, World, near_turn, staying, is_alone, sends_alone}
use Rattle.link_world.proofs.Common.{asks_in, answers_in, step, InFlight, all_in_flight, asking, answering, near_cause}
use Rattle.link_world.proofs.Common.{refused_by, is_quiet_between}
use Rattle.std.proofs.lemmas.Bool.{eq-eqb}
use Rattle.link_machine.specs.Asks.{asks}
use Rattle.link_world.specs.Faults.{cause_by}
use Rattle.link_world.proofs.Asking.{one, step_asks}
use Rattle.link_world.proofs.Happens.{IsAsked, cause_is}
use Rattle.link_world.proofs.TagLemmas.{asks_in-flight, answers_in-flight}
use Rattle.link_world.proofs.law.runs.WorldSteps.{asks_sent}

-- an end sends one SABM, SABME or DISC, or none
turn_asks : (h : Happening) (r : RecordedEnd) → asks_in (end_turn h r).sent ≡ one (asks r.machine (seen h))
turn_asks h r =
    let turn = step r.machine (seen h) in
    asks_sent (hears_ask h) (following h r turn) turn.sent ∙ step_asks r.machine (seen h)

-- one is alone if nothing is ahead of it
alone_by : (b : Bool) (ahead : ℕ) → is_alone (one b) ahead ≡ not (b && not (ahead == 0))
alone_by false ahead = refl
alone_by true ahead = go (ahead == 0) refl
  where
    go : (none : Bool) → (ahead == 0) ≡ none → (1 + ahead == 1) ≡ not (not none)
    go true is = let e = eqb-true ahead 0 is in eq-eqb (1 + ahead) 1 (omega (arith, e))
    go false is = let e = eqb-false ahead 0 is in ne_eqb (1 + ahead) 1 (λ same. e (omega (arith, same)))

pub alone_is :
    (event : Event) (h : Happening) (w : World) → near_turn event w ≡ end_turn h w.a.end
    → sends_alone w event ≡ not (asks w.a.end.machine (seen h)
    && not (asks_in w.b.towards + answers_in (staying event w.a.towards) == 0))
alone_is event h w is =
    let ahead = asks_in w.b.towards + answers_in (staying event w.a.towards) in
    ap (λ (t : EndTurn). is_alone (asks_in t.sent) ahead) is
    ∙ ap (λ n. is_alone n ahead) (turn_asks h w.a.end)
    ∙ alone_by (asks w.a.end.machine (seen h)) ahead

-- the same by what two sides keep
known_before :
    (event : Event) (h : Happening) (w : World) (ahead back : List InFlight)
    → IsAsked event h w back → ahead ≡ all_in_flight w.b.towards
    → sends_alone w event ≡ not (asks w.a.end.machine (seen h) && not (is_quiet_between ahead back))
known_before event h w ahead back is e =
    let to_other : asks_in w.b.towards ≡ asking ahead = asks_in-flight w.b.towards ∙ ap asking (sym e) in
    let here : answers_in (staying event w.a.towards) ≡ answering back =
    answers_in-flight (staying event w.a.towards) ∙ ap answering (sym is.following) in
    let b = asks w.a.end.machine (seen h) in
    alone_is event h w is.turn
    ∙ ap (λ n. not (b && not (n + answers_in (staying event w.a.towards) == 0))) to_other
    ∙ ap (λ n. not (b && not (asking ahead + n == 0))) here

-- an event that the link does not refuse is refused exactly if its link asks, and the channel is not quiet
pub cause_before :
    (event : Event) (h : Happening) (number : ℕ) (w : World) (ahead back : List InFlight) (noisy : Bool)
    → IsAsked event h w back → refused_by event w.a.end.machine ≡ None → ahead ≡ all_in_flight w.b.towards
    → noisy ≡ (asks w.a.end.machine (seen h) && not (is_quiet_between ahead back))
    → near_cause number event w ≡ cause_by None (not noisy) number
cause_before event h number w ahead back noisy is free e known =
    cause_is number event w None (not noisy) is.there free (known_before event h w ahead back is e ∙ ap not (sym known))
