-- The law of two links: in every quiet run from a new world whose windows fit, what each set-up got is a prefix of
-- what the other end was given in its origin, which has the same modulus, origins rise strictly, all that a set-up
-- acted on is of one set-up of the other end, and no number is invalid.
use Rattle.link_world.proofs.Common.{◌≡◌, true, List, [], ◌∷◌, Option, Some, None, refl, IsTrue, Frame, Params}
use Rattle.link_world.proofs.Common.{RecordedEnd, seen, Connects, Sends, Disconnects, Ticks, Seizes, Hears, Tagged}
use Rattle.link_world.proofs.Common.{Side, World}
use Rattle.link_world.proofs.Common.{read_in, hearing_as, turn_of, near_step, seen_from, end_of, run, new_world}
use Rattle.link_world.proofs.Common.{IsQuietRun, WindowsFit, hears_valid, A, B, Event, Connect, Send, Disconnect, Tick}
use Rattle.link_world.proofs.Common.{Seize}
use Rattle.link_world.proofs.Common.{Hear, Lose}
use Rattle.std.specs.List.{AllByRecursion as Each}
use Rattle.link_machine.specs.Step.{step as link_step}
use Rattle.link_world.specs.World.{step}
use Rattle.link_world.specs.Origin.{GotInOrder}
use Rattle.link_world.specs.Law.{NumbersAreValid, PrefixLaw}
use Rattle.link_world.specs.declared.end.End.{End as Name}
use Rattle.link_world.proofs.law.runs.WorldSteps.{ShowsWorld, shows_mirror}
use Rattle.link_world.proofs.law.runs.Runs.{run_shows, new_shows, step_shows, fit_mirror}
use Rattle.link_world.proofs.law.runs.ActedOn.{ActedOnMate, acted_after, acted_sends, acted_hears, one_source_holds}
use Rattle.link_world.proofs.law.runs.ValidNumbers.{near_valid}
use Rattle.link_world.proofs.law.runs.Conclusion.{GotPrefixes, near_got}

-- what the set-ups of both ends acted on
pub record ActedWorld (w : World) : Type 0 where
  pub near : Each ActedOnMate w.a.end.set_ups
  pub far : Each ActedOnMate w.b.end.set_ups

pub acted_mirror : {w : World} → ActedWorld w → ActedWorld (seen_from B w)
acted_mirror h = record { near = h.far; far = h.near }

hear_acted :
    {a b : Params} (r : RecordedEnd) (towards : List Tagged) (far : Side) (e : Name)
    → let w : World = record { a = record { end = r; towards = towards }; b = far } in
    ShowsWorld a b w → ActedWorld w → ActedWorld (near_step (Hear e) w)
hear_acted r [] far e s h = record { near = h.near; far = h.far }
hear_acted r (f ∷ rest) far e s h = record { near = go (read_in r.machine.incoming.modulus f) refl; far = h.far }
  where
    go : (o : Option Frame) → read_in r.machine.incoming.modulus f ≡ o
        → Each ActedOnMate (turn_of (hearing_as f o) r).now.set_ups
    go None is = h.near
    go (Some frame) is =
        let heard = Hears (record f { frame = frame }) in
        acted_after heard r (link_step r.machine (seen heard))
        (acted_hears frame s.near s.near_written.0 is s.holds h.near)

pub near_acted :
    {a b : Params} {w : World} (event : Event) → ShowsWorld a b w → ActedWorld w → ActedWorld (near_step event w)
near_acted {w} (Connect e) s h = record {
  near = acted_after Connects w.a.end (link_step w.a.end.machine (seen Connects)) h.near;
  far = h.far;
}
near_acted {w} (Send e packet) s h = record {
  near = acted_after (Sends packet) w.a.end (link_step w.a.end.machine (seen (Sends packet)))
      (acted_sends packet w.a.end h.near);
  far = h.far;
}
near_acted {w} (Disconnect e) s h = record {
  near = acted_after Disconnects w.a.end (link_step w.a.end.machine (seen Disconnects)) h.near;
  far = h.far;
}
near_acted {w} (Tick e waiting) s h = record {
  near = acted_after (Ticks waiting) w.a.end (link_step w.a.end.machine (seen (Ticks waiting))) h.near;
  far = h.far;
}
near_acted {w} (Seize e last full) s h = record {
  near = acted_after (Seizes last full) w.a.end (link_step w.a.end.machine (seen (Seizes last full))) h.near;
  far = h.far;
}
near_acted {w} (Hear e) s h = hear_acted w.a.end w.a.towards w.b e s h
near_acted (Lose e index) s h = record { near = h.near; far = h.far }

pub step_acted : {a b : Params} {w : World} (event : Event) → ShowsWorld a b w → ActedWorld w
    → ActedWorld (step w event)
step_acted {w} event s h = go (end_of event)
  where
    go : (e : Name) → ActedWorld (seen_from e (near_step event (seen_from e w)))
    go A = near_acted event s h
    go B = acted_mirror (near_acted event (shows_mirror s) (acted_mirror h))

run_acted :
    {a b : Params} (w : World) (events : List Event) → WindowsFit a b → IsQuietRun w events → ShowsWorld a b w
    → ActedWorld w → ActedWorld (run w events)
run_acted w [] fit quiet s h = h
run_acted w (event ∷ events) fit quiet s h =
    run_acted (step w event) events fit quiet.1 (step_shows event fit quiet.0 s) (step_acted event s h)

-- what an end reads in an event
pub step_valid :
    {a b : Params} {w : World} (event : Event) → WindowsFit a b → ShowsWorld a b w
    → IsTrue (hears_valid event (seen_from (end_of event) w))
step_valid {a} {b} {w} event fit s = go (end_of event)
  where
    go : (e : Name) → hears_valid event (seen_from e w) ≡ true
    go A = near_valid event fit s
    go B = near_valid event (fit_mirror a b fit) (shows_mirror s)

run_valid :
    {a b : Params} (w : World) (events : List Event) → WindowsFit a b → IsQuietRun w events → ShowsWorld a b w
    → NumbersAreValid w events
run_valid w [] fit quiet s = tt
run_valid w (event ∷ events) fit quiet s = (
  step_valid event fit s,
  run_valid (step w event) events fit quiet.1 (step_shows event fit quiet.0 s),
)

pub in_order : {near far : RecordedEnd} → GotPrefixes near far → Each ActedOnMate near.set_ups → GotInOrder near far
in_order {near} got acted = record {
  prefixes = got.prefixes;
  origins_rise = got.origins_rise;
  one_source = one_source_holds near.set_ups acted;
}

-- the law
pub prefix_law_holds : PrefixLaw
prefix_law_holds to_b to_a a b fit events quiet =
    let start = new_world to_b to_a a b in
    let first : ShowsWorld a b start = new_shows to_b to_a fit in
    let w = run start events in
    let s : ShowsWorld a b w = run_shows start events fit quiet first in
    let acted : ActedWorld w = run_acted start events fit quiet first (record { near = tt; far = tt }) in
    record {
      a = in_order (near_got s) acted.near;
      b = in_order (near_got (shows_mirror s)) acted.far;
      numbers = run_valid start events fit quiet first;
    }
