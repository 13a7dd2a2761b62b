-- A quiet run keeps what holds, from a new world on.
use Rattle.link_world.proofs.Common.{◌≡◌, ℕ, ◌+◌, Option, Some, None, Bool, true, ◌&&◌, ◌||◌, not, ◌==◌, List, [], ◌∷◌}
use Rattle.link_world.proofs.Common.{◌++◌, ◌⊎◌, inl, inr, refl, sym, ap, ◌∙◌, IsTrue, and_parts, eqb-true, Path, Frame}
use Rattle.link_world.proofs.Common.{Params, mode_in, window_in, HasWindows, LinkState, Tagged, asks_in, answers_in}
use Rattle.link_world.proofs.Common.{RecordedEnd}
use Rattle.link_world.proofs.Common.{Connects, Sends, Disconnects, Ticks, Side, World, read_in, hearing_as, turn_of}
use Rattle.link_world.proofs.Common.{near_step, seen_from, end_of, run, new_world, is_alone, sends_alone, called_alone}
use Rattle.link_world.proofs.Common.{is_quiet, IsQuietRun, WindowsFit, AreHalves, IsHalf, A, B, Event, Connect, Send}
use Rattle.link_world.proofs.Common.{Disconnect, Tick, Seize, Hear, Lose, Seizes}
use Rattle.selective_reject.specs.declared.window.Mode.TheVariants.{Srej as SrejMode}
use Rattle.link_machine.specs.declared.state.LinkState.TheVariants.{Idle as IdleState}
use Rattle.link_world.proofs.law.reduced.CoreMoves.{new_end}
use Rattle.link_world.specs.World.{step}
use Rattle.link_world.specs.Quiet.{is_idle}
use Rattle.link_world.specs.declared.end.End.{End as Name}
use Rattle.link_world.proofs.law.showing.PlacesFit.{HasRoom, sound_new}
use Rattle.link_world.proofs.law.moves.Kept.{new_holds}
use Rattle.link_world.proofs.law.showing.Shown.Shown.{ShownIdle}
use Rattle.link_world.proofs.law.runs.WorldSteps.{ShowsWorld, shows_mirror, near_asks, near_hears, near_loses}

-- an idle end is called only while no SABM or DISC of its own is in flight
called_by :
    {state : LinkState} {sabm : Bool} (n : ℕ) → not (is_idle state && sabm) || (n == 0) ≡ true → state ≡ IdleState
    → sabm ≡ true → n ≡ 0
called_by {state} {sabm} n h idle is =
    let both : is_idle state && sabm ≡ true = ap (λ s. is_idle s && sabm) idle ∙ is in
    let only : (n == 0) ≡ true = sym (ap (λ b. not b || (n == 0)) both) ∙ h in
    eqb-true n 0 only

-- the frame in front is heard, if there is one, and if it is not refused
near_hear :
    {a b : Params} (r : RecordedEnd) (towards : List Tagged) (far : Side) (e : Name) → WindowsFit a b
    → let w : World = record { a = record { end = r; towards = towards }; b = far } in
    sends_alone w (Hear e) ≡ true → called_alone w (Hear e) ≡ true → ShowsWorld a b w
    → ShowsWorld a b (near_step (Hear e) w)
near_hear r [] far e fit alone called s = near_loses 0 s
near_hear {a} {b} r (f ∷ rest) far e fit alone called s = go (read_in r.machine.incoming.modulus f) refl alone
  where
    w : World
    w = record { a = record { end = r; towards = f ∷ rest }; b = far }

    go : (o : Option Frame) → read_in r.machine.incoming.modulus f ≡ o
        → is_alone (asks_in (turn_of (hearing_as f o) r).sent) (asks_in far.towards + answers_in rest) ≡ true
        → ShowsWorld a b (record {
          a = record { end = (turn_of (hearing_as f o) r).now; towards = rest };
          b = record far { towards = far.towards ++ (turn_of (hearing_as f o) r).sent };
        })
    go None is alone = near_loses 0 s
    go (Some frame) is alone = near_hears s f frame fit refl is alone (called_by (asks_in far.towards) called)

-- an event of the near end
pub near_shows :
    {a b : Params} {w : World} (event : Event) → WindowsFit a b → sends_alone w event ≡ true
    → called_alone w event ≡ true → ShowsWorld a b w → ShowsWorld a b (near_step event w)
near_shows (Connect e) fit alone called s = near_asks s Connects tt alone
near_shows (Send e packet) fit alone called s = near_asks s (Sends packet) tt alone
near_shows (Disconnect e) fit alone called s = near_asks s Disconnects tt alone
near_shows (Tick e waiting) fit alone called s = near_asks s (Ticks waiting) tt alone
near_shows (Seize e last full) fit alone called s = near_asks s (Seizes last full) tt alone
near_shows {w} (Hear e) fit alone called s = near_hear w.a.end w.a.towards w.b e fit alone called s
near_shows (Lose e index) fit alone called s = near_loses index s

-- the windows fit seen from either end
pub fit_mirror : (a b : Params) → WindowsFit a b → WindowsFit b a
fit_mirror a b fit = record {
  of_a = fit.of_b;
  of_b = fit.of_a;
  narrow = swap 8 fit.narrow;
  wide = swap 128 fit.wide;
}
  where
    swap :
        (modulus : ℕ) → AreHalves modulus a b → (mode_in modulus b ≡ SrejMode) ⊎ (mode_in modulus a ≡ SrejMode)
        → IsHalf modulus b × IsHalf modulus a
    swap modulus halves (inl is) = let h = halves (inr is) in (h.1, h.0)
    swap modulus halves (inr is) = let h = halves (inl is) in (h.1, h.0)

-- an event of either
pub step_shows :
    {a b : Params} {w : World} (event : Event) → WindowsFit a b → IsTrue (is_quiet w event) → ShowsWorld a b w
    → ShowsWorld a b (step w event)
step_shows {a} {b} {w} event fit quiet s = go (end_of event) (and_parts _ _ quiet)
  where
    go : (e : Name) → (sends_alone (seen_from e w) event ≡ true) × (called_alone (seen_from e w) event ≡ true)
        → ShowsWorld a b (seen_from e (near_step event (seen_from e w)))
    go A both = near_shows event fit both.0 both.1 s
    go B both = shows_mirror (near_shows event (fit_mirror a b fit) both.0 both.1 (shows_mirror s))

-- a run
pub run_shows :
    {a b : Params} (w : World) (events : List Event) → WindowsFit a b → IsQuietRun w events → ShowsWorld a b w
    → ShowsWorld a b (run w events)
run_shows w [] fit quiet s = s
run_shows w (event ∷ events) fit quiet s = run_shows (step w event) events fit quiet.1 (step_shows event fit quiet.0 s)

has_room : {p : Params} → HasWindows p → HasRoom p
has_room h = record { narrow = h.0.0; wide = h.1.0 }

-- a new world
pub new_shows : (to_b to_a : Path) {a b : Params} → WindowsFit a b → ShowsWorld a b (new_world to_b to_a a b)
new_shows to_b to_a {a} {b} fit = record {
  x = new_end 8 (λ modulus. window_in modulus a);
  y = new_end 8 (λ modulus. window_in modulus b);
  near = ShownIdle refl refl refl;
  far = ShownIdle refl refl refl;
  near_params = refl;
  far_params = refl;
  near_sound = sound_new 8 (inl refl) (has_room fit.of_a);
  far_sound = sound_new 8 (inl refl) (has_room fit.of_b);
  holds = new_holds 8 (λ modulus. window_in modulus a) (λ modulus. window_in modulus b);
  near_written = tt;
  far_written = tt;
}
