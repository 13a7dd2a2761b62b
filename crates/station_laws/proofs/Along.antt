-- The changes of a world as the end sees them to which they happen, and acts of a station one after another.
use Rattle.station_laws.proofs.Common.{◌≡◌, ℕ, ◌+◌, Bool, List, [], ◌∷◌, ◌++◌, length, map, Option, Some, None, refl}
use Rattle.station_laws.proofs.Common.{sym, ap, ◌∙◌, subst, Path, ⊤, End, A, B, Change, changed, run_changes, near_made}
use Rattle.station_laws.proofs.Common.{near_kept, Makes, Keeps, Tagged, World, near_turn, seen_from, other, staying}
use Rattle.station_laws.proofs.Common.{Turn, Pair, Pairs, heard_at, marks_from, event_at_end, makes}
use Rattle.station_laws.proofs.Common.{changes_by, all_changes_by, FollowsAll, LinkStep}
use Rattle.link_machine.specs.Step.{step as link_turn}
use Rattle.link_machine.specs.Event.{Event as LinkEvent}
use Rattle.link_machine.specs.Event.Event.{Connect as LinkConnect, Send as LinkSend, Disconnect as LinkDisconnect}
use Rattle.link_machine.specs.Event.Event.{Hear as LinkHear, Seize as LinkSeize, Tick as LinkTick}
use Rattle.station_laws.proofs.Acts.{Setting, Holds, ReadsFront, is_asking, asks_when_sent}

-- ---- changes as their end sees them

abbrev pub makes_near : Option Path → World → World
makes_near None w = w
makes_near (Some path) w = near_made path w

abbrev pub near_by : End → List Pair → ℕ → LinkStep → World → World
near_by e pairs earlier step w =
    near_kept (event_at_end e step.event) (marks_from pairs (earlier + step.first) step.joined) (makes_near step.anew w)

abbrev pub near_all : End → List Pair → ℕ → List LinkStep → World → World
near_all e pairs earlier [] w = w
near_all e pairs earlier (step ∷ steps) w = near_all e pairs earlier steps (near_by e pairs earlier step w)

pub near_all-append :
    (e : End) (pairs : List Pair) (n : ℕ) (first second : List LinkStep) (w : World)
    → near_all e pairs n (first ++ second) w ≡ near_all e pairs n second (near_all e pairs n first w)
near_all-append e pairs n [] second w = refl
near_all-append e pairs n (step ∷ first) second w = near_all-append e pairs n first second (near_by e pairs n step w)

pub run_changes-append :
    (first second : List Change) (w : World) → run_changes w (first ++ second)
    ≡ run_changes (run_changes w first) second
run_changes-append [] second w = refl
run_changes-append (change ∷ first) second w = run_changes-append first second (changed w change)

kept_seen :
    (e : End) (event : LinkEvent) (ms : List Bool) (w : World)
    → seen_from e (changed w (Keeps (event_at_end e event) ms)) ≡ near_kept (event_at_end e event) ms (seen_from e w)
kept_seen A LinkConnect ms w = refl
kept_seen A (LinkSend packet) ms w = refl
kept_seen A LinkDisconnect ms w = refl
kept_seen A (LinkHear frame) ms w = refl
kept_seen A (LinkTick waiting) ms w = refl
kept_seen A (LinkSeize last full) ms w = refl
kept_seen B LinkConnect ms w = refl
kept_seen B (LinkSend packet) ms w = refl
kept_seen B LinkDisconnect ms w = refl
kept_seen B (LinkHear frame) ms w = refl
kept_seen B (LinkTick waiting) ms w = refl
kept_seen B (LinkSeize last full) ms w = refl

made_seen : (e : End) (path : Path) (w : World) → seen_from e (changed w (Makes e path))
    ≡ near_made path (seen_from e w)
made_seen A path w = refl
made_seen B path w = refl

pub by_seen :
    (e : End) (pairs : Pairs) (n : ℕ) (step : LinkStep) (anew : Option Path) (w : World)
    → seen_from e (run_changes w (makes e anew ++ Keeps (event_at_end e step.event)
    (marks_from (heard_at (other e) pairs) (n + step.first) step.joined) ∷ []))
    ≡ near_kept (event_at_end e step.event) (marks_from (heard_at (other e) pairs) (n + step.first) step.joined)
    (makes_near anew (seen_from e w))
by_seen e pairs n step None w = kept_seen e step.event
    (marks_from (heard_at (other e) pairs) (n + step.first) step.joined) w
by_seen e pairs n step (Some path) w =
    let ms = marks_from (heard_at (other e) pairs) (n + step.first) step.joined in
    kept_seen e step.event ms (changed w (Makes e path))
    ∙ ap (near_kept (event_at_end e step.event) ms) (made_seen e path w)

-- all changes of a step
pub changes_seen :
    (e : End) (pairs : Pairs) (n : ℕ) (steps : List LinkStep) (w : World)
    → seen_from e (run_changes w (all_changes_by e pairs n steps))
    ≡ near_all e (heard_at (other e) pairs) n steps (seen_from e w)
changes_seen e pairs n [] w = refl
changes_seen e pairs n (step ∷ steps) w =
    ap (seen_from e) (run_changes-append (changes_by e pairs n step) (all_changes_by e pairs n steps) w)
    ∙ changes_seen e pairs n steps (run_changes w (changes_by e pairs n step))
    ∙ ap (near_all e (heard_at (other e) pairs) n steps) (by_seen e pairs n step step.anew w)

-- an end follows its link, as it sees the world itself
pub record FollowsNear (e : End) (back : List Tagged) (step : LinkStep) (w : World) : Type 0 where
  pub machine : w.a.end.machine ≡ step.link.machine
  pub told : (near_turn (event_at_end e step.event) w).told ≡ (link_turn step.link.machine step.event).told
  -- what stays in flight back to it
  pub stays : staying (event_at_end e step.event) w.a.towards ≡ back
  -- which of the frames sent are SABM, SABME or DISC
  pub asking :
      map is_asking (near_turn (event_at_end e step.event) w).sent
      ≡ map asks_when_sent (link_turn step.link.machine step.event).sent
  -- what its machine is then
  pub next : (near_turn (event_at_end e step.event) w).now.machine ≡ (link_turn step.link.machine step.event).now
  pub reads : ReadsFront step.event w

abbrev pub AllFollowNear : End → List Tagged → List Pair → ℕ → List LinkStep → World → Type 0
AllFollowNear e back pairs earlier [] w = ⊤
AllFollowNear e back pairs earlier (step ∷ steps) w =
    FollowsNear e back step (makes_near step.anew w)
    × AllFollowNear e back pairs earlier steps (near_by e pairs earlier step w)

follow-append :
    (e : End) (back : List Tagged) (pairs : List Pair) (n : ℕ) (first second : List LinkStep) (w : World)
    → AllFollowNear e back pairs n first w → AllFollowNear e back pairs n second (near_all e pairs n first w)
    → AllFollowNear e back pairs n (first ++ second) w
follow-append e back pairs n [] second w h k = k
follow-append e back pairs n (step ∷ first) second w h k =
    (h.0, follow-append e back pairs n first second (near_by e pairs n step w) h.1 k)

pub makes_seen : (e : End) (anew : Option Path) (w : World)
    → seen_from e (run_changes w (makes e anew)) ≡ makes_near anew (seen_from e w)
makes_seen e None w = refl
makes_seen e (Some path) w = made_seen e path w

pub follow_seen :
    (e : End) (back : List Tagged) (pairs : Pairs) (n : ℕ) (steps : List LinkStep) (w : World)
    → AllFollowNear e back (heard_at (other e) pairs) n steps (seen_from e w) → FollowsAll e pairs n steps w
follow_seen e back pairs n [] w h = tt
follow_seen e back pairs n (step ∷ steps) w h =
    let here : FollowsNear e back step (seen_from e (run_changes w (makes e step.anew))) =
    subst (FollowsNear e back step) (sym (makes_seen e step.anew w)) h.0 in (
      record { machine = here.machine; told = here.told },
      follow_seen e back pairs n steps (run_changes w (changes_by e pairs n step))
          (subst (AllFollowNear e back (heard_at (other e) pairs) n steps) (sym (by_seen e pairs n step step.anew w))
          h.1),
    )

-- ---- acts one after another

-- what holds after steps of the link, and that its end follows
abbrev pub Kept : Setting → End → List Tagged → Turn → List LinkStep → World → Type 0
Kept s e back after steps w =
    Holds s back after (near_all e (s.done ++ s.rest) (length s.earlier) steps w)
    × AllFollowNear e back (s.done ++ s.rest) (length s.earlier) steps w

-- what an act does to the link keeps what holds
abbrev pub Goes : Setting → End → List Tagged → Turn → List LinkStep → Turn → Type 0
Goes s e back turn steps after =
    (w : World) → Holds s back turn w → Kept s e back after steps w

pub goes_on :
    (s : Setting) (e : End) (back : List Tagged) (turn between after : Turn) (first second : List LinkStep)
    → Goes s e back turn first between → Goes s e back between second after → Goes s e back turn (first ++ second) after
goes_on s e back turn between after first second one two w h =
    let pairs = s.done ++ s.rest in
    let n = length s.earlier in
    let before = one w h in
    let then = two (near_all e pairs n first w) before.0 in (
      subst (Holds s back after) (sym (near_all-append e pairs n first second w)) then.0,
      follow-append e back pairs n first second w before.1 then.1,
    )
