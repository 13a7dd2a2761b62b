-- Links that are made anew while they are idle, and frames that are lost as they are sent, keep what holds of a world.
use Rattle.link_world.proofs.Common.{◌≡◌, ℕ, Bool, true, false, List, [], ◌∷◌, ◌++◌, inl, refl, sym, ◌∙◌, subst, IsTrue}
use Rattle.link_world.proofs.Common.{◌↔◌, and_parts, map-append, Path, Params, LinkState, Machine, A, B, Event, Tagged}
use Rattle.link_world.proofs.Common.{RecordedEnd, sends_alone, called_alone, IsQuietRun, WindowsFit, Side, World}
use Rattle.link_world.proofs.Common.{seen_from, end_of, new_world, near_step, near_turn, staying, run}
use Rattle.std.specs.Prelude.{map}
use Rattle.std.proofs.lemmas.List.{append_assoc}
use Rattle.link_machine.specs.declared.state.LinkState.TheVariants.{Idle as IdleState, Calling as CallingState}
use Rattle.link_machine.specs.declared.state.LinkState.TheVariants.{Up as UpState, Releasing as ReleasingState}
use Rattle.link_machine.specs.Machine.{new_machine}
use Rattle.link_world.specs.declared.end.End.{End as Name}
use Rattle.link_world.specs.Changes.{Change, kept, made_in, near_made, near_kept, changed, run_changes, is_quiet_change}
use Rattle.link_world.specs.Changes.{AreQuiet, hears_valid_in, ChangesAreValid, ChangesLaw}
use Rattle.link_world.specs.Changes.Change.{Makes, Happens, Keeps}
use Rattle.link_world.proofs.law.reduced.Core.{End, SetUp as CoreSetUp, Tagged as CoreTagged, Kind, between}
use Rattle.link_world.proofs.law.reduced.Core.Kind.{Sabm, Disc, Ua, Dm, IsNumbered}
use Rattle.link_world.proofs.law.reduced.Core.Standing.{Idle}
use Rattle.link_world.proofs.law.reduced.CoreMoves.{now}
use Rattle.link_world.proofs.law.reduced.CoreOf.{end_following}
use Rattle.link_world.proofs.law.Each.{each_weaker, each_removed}
use Rattle.link_world.proofs.law.invariant.Invariant.{Invariant, CallsIn}
use Rattle.link_world.proofs.law.moves.Losing.{lose_keeps}
use Rattle.link_world.proofs.law.showing.PlacesFit.{sound_new}
use Rattle.link_world.proofs.law.showing.Shown.{core_set_ups, core_flight, core_tagged, Shown, IsWritten}
use Rattle.link_world.proofs.law.showing.Shown.Shown.{ShownIdle, ShownCalling, ShownUp, ShownReleasing}
use Rattle.link_world.proofs.law.runs.WorldSteps.{ShowsWorld, shows_mirror}
use Rattle.link_world.proofs.law.runs.Runs.{near_shows, new_shows, step_shows, fit_mirror}
use Rattle.link_world.proofs.law.runs.Conclusion.{near_got}
use Rattle.link_world.proofs.law.runs.WorldLaw.{ActedWorld, acted_mirror, near_acted, step_acted, step_valid, in_order}

-- ---- an idle end with a new link

-- while an end is idle its modulus does not matter
calls_of_idle : (own other : ℕ) (k : Kind) → CallsIn Idle own k → CallsIn Idle other k
calls_of_idle own other (Sabm modulus) h = tt
calls_of_idle own other Disc h = tt
calls_of_idle own other Ua h = tt
calls_of_idle own other (Dm answers) h = tt
calls_of_idle own other (IsNumbered modulus n) h = tt

renewed_holds :
    (m : Machine) (path : Path) (qs : List CoreSetUp) {y : End} {to_x to_y : List CoreTagged}
    → Invariant (between (now Idle (end_following m qs)) y to_x to_y)
    → Invariant (between (now Idle (end_following (new_machine path m.params) qs)) y to_x to_y)
renewed_holds m path qs {to_y} h = record {
  x_hears = record {
    tags = h.x_hears.tags;
    one_exchange = h.x_hears.one_exchange;
    mates = h.x_hears.mates;
    keeps = h.x_hears.keeps;
    numbers = h.x_hears.numbers;
    packets = h.x_hears.packets;
    moduli = record {
      window = refl;
      own = tt;
      frames = h.x_hears.moduli.frames;
      calls = h.x_hears.moduli.calls;
      same = h.x_hears.moduli.same;
      mate = h.x_hears.moduli.mate;
      origins = h.x_hears.moduli.origins;
    };
  };
  y_hears = record {
    tags = h.y_hears.tags;
    one_exchange = h.y_hears.one_exchange;
    mates = h.y_hears.mates;
    keeps = h.y_hears.keeps;
    numbers = h.y_hears.numbers;
    packets = h.y_hears.packets;
    moduli = record {
      window = h.y_hears.moduli.window;
      own = h.y_hears.moduli.own;
      frames = h.y_hears.moduli.frames;
      calls = each_weaker _ _ (λ f c. calls_of_idle m.incoming.modulus 8 f.kind c) to_y h.y_hears.moduli.calls;
      same = h.y_hears.moduli.same;
      mate = h.y_hears.moduli.mate;
      origins = h.y_hears.moduli.origins;
    };
  };
}

-- how an idle end shows with a new link, and what then holds
record Renewed (r : RecordedEnd) (path : Path) (y : End) (to_x to_y : List CoreTagged) : Type 0 where
  x : End
  shown : Shown (record r { machine = new_machine path r.machine.params }) x
  holds : Invariant (between x y to_x to_y)

renewed :
    {r : RecordedEnd} {path : Path} {x y : End} {to_x to_y : List CoreTagged} → r.machine.control.state ≡ IdleState
    → Shown r x → Invariant (between x y to_x to_y) → Renewed r path y to_x to_y
renewed {r} {path} {x} idle (ShownIdle state packets waiting) inv = record {
  x = now Idle (end_following (new_machine path r.machine.params) (core_set_ups r.set_ups));
  shown = ShownIdle refl refl waiting;
  holds = renewed_holds r.machine path (core_set_ups r.set_ups) inv;
}
renewed idle (ShownCalling state waiting) inv = absurd (let e : IdleState ≡ CallingState = sym idle ∙ state in cc)
renewed idle (ShownUp ended last l state waiting) inv = absurd (let e : IdleState ≡ UpState = sym idle ∙ state in cc)
renewed idle (ShownReleasing state packets waiting) inv =
    absurd (let e : IdleState ≡ ReleasingState = sym idle ∙ state in cc)

made_shows :
    {a b : Params} {r : RecordedEnd} {towards : List Tagged} {far : Side} (path : Path) (state : LinkState)
    → r.machine.control.state ≡ state → ShowsWorld a b (record { a = record { end = r; towards = towards }; b = far })
    → ShowsWorld a b (record { a = record { end = made_in state path r; towards = towards }; b = far })
made_shows {far} path IdleState is s =
    let made = renewed is s.near s.holds in
    record {
      x = made.x;
      y = s.y;
      near = made.shown;
      far = s.far;
      near_params = s.near_params;
      far_params = s.far_params;
      near_sound = sound_new 8 (inl refl) s.near_sound.room;
      far_sound = s.far_sound;
      holds = made.holds;
      near_written = s.near_written;
      far_written = s.far_written;
    }
made_shows path CallingState is s = s
made_shows path UpState is s = s
made_shows path ReleasingState is s = s

near_made_shows : {a b : Params} {w : World} (path : Path) → ShowsWorld a b w → ShowsWorld a b (near_made path w)
near_made_shows {w} path s = made_shows path w.a.end.machine.control.state refl s

made_acted :
    {w : World} (path : Path) (state : LinkState) → ActedWorld w
    → ActedWorld (record w { a = record w.a { end = made_in state path w.a.end } })
made_acted path IdleState h = record { near = h.near; far = h.far }
made_acted path CallingState h = record { near = h.near; far = h.far }
made_acted path UpState h = record { near = h.near; far = h.far }
made_acted path ReleasingState h = record { near = h.near; far = h.far }

-- ---- frames that are lost as they are sent

-- what holds whatever element goes holds of those that are kept
kept_keeps :
    (P : List Tagged → Type 0)
    → ((before : List Tagged) (f : Tagged) (after : List Tagged) → P (before ++ f ∷ after) → P (before ++ after))
    → (marks : List Bool) (before sent : List Tagged) → P (before ++ sent) → P (before ++ kept marks sent)
kept_keeps P loses [] before [] h = h
kept_keeps P loses [] before (f ∷ fs) h = kept_keeps P loses [] before fs (loses before f fs h)
kept_keeps P loses (mark ∷ marks) before [] h = h
kept_keeps P loses (true ∷ marks) before (f ∷ fs) h = subst P (append_assoc before (f ∷ []) (kept marks fs))
    (kept_keeps P loses marks (before ++ f ∷ []) fs (subst P (sym (append_assoc before (f ∷ []) fs)) h))
kept_keeps P loses (false ∷ marks) before (f ∷ fs) h = kept_keeps P loses marks before fs (loses before f fs h)

-- a frame towards the far end is lost
far_loses :
    {a b : Params} {near : Side} {far : RecordedEnd} (before : List Tagged) (f : Tagged) (after : List Tagged)
    → ShowsWorld a b (record { a = near; b = record { end = far; towards = before ++ f ∷ after } })
    → ShowsWorld a b (record { a = near; b = record { end = far; towards = before ++ after } })
far_loses {near} {far} before f after s =
    let inv = subst (λ fs. Invariant (between s.x s.y (core_flight near.towards) fs))
    (map-append core_tagged before (f ∷ after)) s.holds in
    let lost = lose_keeps (core_flight before) (core_tagged f) (core_flight after)
    (record { x_hears = inv.y_hears; y_hears = inv.x_hears }) in
    record {
      x = s.x;
      y = s.y;
      near = s.near;
      far = s.far;
      near_params = s.near_params;
      far_params = s.far_params;
      near_sound = s.near_sound;
      far_sound = s.far_sound;
      holds = subst (λ fs. Invariant (between s.x s.y (core_flight near.towards) fs))
          (sym (map-append core_tagged before after)) (record { x_hears = lost.y_hears; y_hears = lost.x_hears });
      near_written = s.near_written;
      far_written = each_removed IsWritten before f after s.far_written;
    }

kept_shows :
    {a b : Params} (w : World) (event : Event) (marks : List Bool) → ShowsWorld a b (near_step event w)
    → ShowsWorld a b (near_kept event marks w)
kept_shows {a} {b} w event marks s =
    let turn = near_turn event w in
    let near : Side = record { end = turn.now; towards = staying event w.a.towards } in
    kept_keeps (λ fs. ShowsWorld a b (record { a = near; b = record { end = w.b.end; towards = fs } }))
    (far_loses) marks w.b.towards turn.sent s

-- ---- a change of either end

change_shows :
    {a b : Params} {w : World} (change : Change) → WindowsFit a b → IsTrue (is_quiet_change w change) → ShowsWorld a b w
    → ShowsWorld a b (changed w change)
change_shows (Makes A path) fit quiet s = near_made_shows path s
change_shows (Makes B path) fit quiet s = shows_mirror (near_made_shows path (shows_mirror s))
change_shows (Happens event) fit quiet s = step_shows event fit quiet s
change_shows {a} {b} {w} (Keeps event marks) fit quiet s = go (end_of event) (and_parts _ _ quiet)
  where
    go : (e : Name) → (sends_alone (seen_from e w) event ≡ true) × (called_alone (seen_from e w) event ≡ true)
        → ShowsWorld a b (seen_from e (near_kept event marks (seen_from e w)))
    go A both = kept_shows w event marks (near_shows event fit both.0 both.1 s)
    go B both = shows_mirror (kept_shows (seen_from B w) event marks
        (near_shows event (fit_mirror a b fit) both.0 both.1 (shows_mirror s)))

change_acted :
    {a b : Params} {w : World} (change : Change) → ShowsWorld a b w → ActedWorld w → ActedWorld (changed w change)
change_acted {w} (Makes A path) s h = made_acted path w.a.end.machine.control.state h
change_acted {w} (Makes B path) s h = acted_mirror
    (made_acted path w.b.end.machine.control.state (acted_mirror h))
change_acted (Happens event) s h = step_acted event s h
change_acted {w} (Keeps event marks) s h = go (end_of event)
  where
    go : (e : Name) → ActedWorld (seen_from e (near_kept event marks (seen_from e w)))
    go A = let acted = near_acted event s h in record { near = acted.near; far = acted.far }
    go B = let acted = near_acted event (shows_mirror s) (acted_mirror h) in
        record { near = acted.far; far = acted.near }

change_valid :
    {a b : Params} {w : World} (change : Change) → WindowsFit a b → ShowsWorld a b w → IsTrue (hears_valid_in change w)
change_valid (Makes end path) fit s = refl
change_valid (Happens event) fit s = step_valid event fit s
change_valid (Keeps event marks) fit s = step_valid event fit s

-- ---- a list of changes

changes_show :
    {a b : Params} (w : World) (changes : List Change) → WindowsFit a b → AreQuiet w changes → ShowsWorld a b w
    → ShowsWorld a b (run_changes w changes)
changes_show w [] fit quiet s = s
changes_show w (change ∷ changes) fit quiet s =
    changes_show (changed w change) changes fit quiet.1 (change_shows change fit quiet.0 s)

changes_acted :
    {a b : Params} (w : World) (changes : List Change) → WindowsFit a b → AreQuiet w changes → ShowsWorld a b w
    → ActedWorld w → ActedWorld (run_changes w changes)
changes_acted w [] fit quiet s h = h
changes_acted w (change ∷ changes) fit quiet s h =
    changes_acted (changed w change) changes fit quiet.1 (change_shows change fit quiet.0 s) (change_acted change s h)

changes_valid :
    {a b : Params} (w : World) (changes : List Change) → WindowsFit a b → AreQuiet w changes → ShowsWorld a b w
    → ChangesAreValid w changes
changes_valid w [] fit quiet s = tt
changes_valid w (change ∷ changes) fit quiet s = (
  change_valid change fit s,
  changes_valid (changed w change) changes fit quiet.1 (change_shows change fit quiet.0 s),
)

-- the law
pub changes_law_holds : ChangesLaw
changes_law_holds to_b to_a a b fit changes quiet =
    let start = new_world to_b to_a a b in
    let first : ShowsWorld a b start = new_shows to_b to_a fit in
    let w = run_changes start changes in
    let s : ShowsWorld a b w = changes_show start changes fit quiet first in
    let acted : ActedWorld w = changes_acted start changes fit quiet first (record { near = tt; far = tt }) in
    record {
      a = in_order (near_got s) acted.near;
      b = in_order (near_got (shows_mirror s)) acted.far;
      numbers = changes_valid start changes fit quiet first;
    }

-- events alone make the run of the world
pub changes-events : (w : World) (events : List Event) → run_changes w (map Happens events) ≡ run w events
changes-events w [] = refl
changes-events w (event ∷ events) = changes-events (changed w (Happens event)) events

-- and a quiet one is quiet
pub quiet-events : (w : World) (events : List Event) → AreQuiet w (map Happens events) ↔ IsQuietRun w events
quiet-events w [] = (λ h. h, λ h. h)
quiet-events w (event ∷ events) =
    let rest = quiet-events (changed w (Happens event)) events in
    (λ h. (h.0, rest.0 h.1), λ h. (h.0, rest.1 h.1))
