-- The events of a link at a station, each with the machine that the event before it left: what they tell, and how the
-- link stands then.
use Rattle.station_laws.proofs.Common.{◌≡◌, ◌||◌, Bool, true, false, List, [], ◌∷◌, ◌++◌, map, if◌then◌else◌, cond}
use Rattle.station_laws.proofs.Common.{Option, Some, None, refl, sym, ap, ◌∙◌, subst, ⊤, or_left, or_right, Path}
use Rattle.station_laws.proofs.Common.{Packet, Told, Opened, Given, Ended, Control, LinkState, Idle, Calling, Up}
use Rattle.station_laws.proofs.Common.{Releasing, Event, Machine, new_machine, begin, LinkStep, RunsIn, runs_after}
use Rattle.station_laws.proofs.Common.{runs_following}
use Rattle.std.specs.List.{AllByRecursion as Each}
use Rattle.link_machine.specs.Step.{step as link_turn}
use Rattle.link_machine.specs.Turn.{Turn}
use Rattle.station_laws.specs.RunsTell.{AllToldInOne, told_in}
use Rattle.station_laws.proofs.LinkDid.{Closes, DidIn, HearsAsk, HearsWrong, IsOfLink, Steps, is_connect, is_disconnect}
use Rattle.station_laws.proofs.LinkDid.{step_steps}
use Rattle.station_laws.proofs.LinkDid.Closes.{releases, stays}
use Rattle.station_laws.proofs.LinkDid.Did.{abandons, calls, ends, gives, is_called, opens, resets, wishes}
use Rattle.station_laws.proofs.LinkDid.Steps.{made, refused}
use Rattle.station_laws.proofs.LinkTells.{links_tell_holds}

-- ---- machines one after another

-- a link that is made for an event is new, if there was none
abbrev pub made_of : LinkState → Path → Machine → Machine
made_of Idle path m = new_machine path m.params
made_of Calling path m = m
made_of Up path m = m
made_of Releasing path m = m

abbrev pub made_by : Option Path → Machine → Machine
made_by None m = m
made_by (Some path) m = made_of m.control.state path m

-- each event finds the machine that the one before it left
abbrev pub IsChain : Machine → List LinkStep → Type 0
IsChain m [] = ⊤
IsChain m (step ∷ steps) =
    (made_by step.anew m ≡ step.link.machine) × IsChain (link_turn step.link.machine step.event).now steps

abbrev pub last_machine : Machine → List LinkStep → Machine
last_machine m [] = m
last_machine m (step ∷ steps) = last_machine (link_turn step.link.machine step.event).now steps

pub chain_append :
    (m : Machine) (first second : List LinkStep) → IsChain m first → IsChain (last_machine m first) second
    → IsChain m (first ++ second)
chain_append m [] second h k = k
chain_append m (step ∷ first) second h k =
    (h.0, chain_append (link_turn step.link.machine step.event).now first second h.1 k)

pub chain_parts :
    (m : Machine) (first second : List LinkStep) → IsChain m (first ++ second)
    → IsChain m first × IsChain (last_machine m first) second
chain_parts m [] second h = (tt, h)
chain_parts m (step ∷ first) second h =
    let rest = chain_parts (link_turn step.link.machine step.event).now first second h.1 in ((h.0, rest.0), rest.1)

pub last_append :
    (m : Machine) (first second : List LinkStep)
    → last_machine m (first ++ second) ≡ last_machine (last_machine m first) second
last_append m [] second = refl
last_append m (step ∷ first) second = last_append (link_turn step.link.machine step.event).now first second

-- what looks at the state and the wish to disconnect of a machine that is new when it is idle
pub made_like :
    (P : LinkState → Bool → Type 0) → P Idle false → (anew : Option Path) (m : Machine)
    → P m.control.state m.control.quit → P (made_by anew m).control.state (made_by anew m).control.quit
made_like P idle None m h = h
made_like P idle (Some path) m h = go m.control.state
  where
    go : (state : LinkState) → P (made_of state path m).control.state (made_of state path m).control.quit
    go Idle = idle
    go Calling = h
    go Up = h
    go Releasing = h

-- ---- whether a set-up runs

-- a link that is made is idle, as the one before it
made_runs :
    (runs : Bool) (anew : Option Path) (m : Machine) → RunsIn runs m.control.state
    → RunsIn runs (made_by anew m).control.state
made_runs runs None m h = h
made_runs runs (Some path) m h = go m.control.state refl
  where
    go : (state : LinkState) → m.control.state ≡ state → RunsIn runs (made_of state path m).control.state
    go Idle is = subst (RunsIn runs) is h
    go Calling is = h
    go Up is = h
    go Releasing is = h

pub record ChainTells (runs : Bool) (m : Machine) (steps : List LinkStep) : Type 0 where
  pub told : AllToldInOne runs steps
  pub now : RunsIn (runs_following runs steps) (last_machine m steps).control.state

pub chain_tells : (runs : Bool) (m : Machine) (steps : List LinkStep) → IsChain m steps → RunsIn runs m.control.state
    → ChainTells runs m steps
chain_tells runs m [] chain h = record { told = tt; now = h }
chain_tells runs m (step ∷ steps) chain h =
    let there : RunsIn runs step.link.machine.control.state =
    subst (λ (x : Machine). RunsIn runs x.control.state) chain.0 (made_runs runs step.anew m h) in
    let one = links_tell_holds step.link.machine step.event runs there in
    let next = (link_turn step.link.machine step.event).now in
    let rest = chain_tells (runs_after runs (told_in step)) next steps chain.1 one.now in
    record { told = (one.told, rest.told); now = rest.now }

pub told_append :
    (runs : Bool) (first second : List LinkStep) → AllToldInOne runs (first ++ second)
    → AllToldInOne (runs_following runs first) second
told_append runs [] second h = h
told_append runs (step ∷ first) second h = told_append (runs_after runs (told_in step)) first second h.1

pub after_append :
    (runs : Bool) (first second : List LinkStep)
    → runs_following runs (first ++ second) ≡ runs_following (runs_following runs first) second
after_append runs [] second = refl
after_append runs (step ∷ first) second = after_append (runs_after runs (told_in step)) first second

-- ---- what is told

abbrev pub opened_in : List Told → Bool
opened_in [] = false
opened_in (Opened ours ∷ told) = true
opened_in (Given packet ∷ told) = opened_in told
opened_in (Ended why ∷ told) = opened_in told

abbrev pub ended_in : List Told → Bool
ended_in [] = false
ended_in (Opened ours ∷ told) = ended_in told
ended_in (Given packet ∷ told) = ended_in told
ended_in (Ended why ∷ told) = true

given_opens : (packets : List Packet) → opened_in (map Given packets) ≡ false
given_opens [] = refl
given_opens (packet ∷ packets) = given_opens packets

given_ends : (packets : List Packet) → ended_in (map Given packets) ≡ false
given_ends [] = refl
given_ends (packet ∷ packets) = given_ends packets

-- ---- a wish to disconnect

-- whether a disconnect was asked for in the set-up that runs
abbrev pub asked_after : Bool → Bool → List Told → Bool
asked_after asked disconnects told = if opened_in told || ended_in told then false else asked || disconnects

-- A link wishes to disconnect, or is released, only if that was asked for, and never while it is idle or calls.
abbrev pub StandsAsked : Bool → LinkState → Bool → Type 0
StandsAsked asked Idle quit = quit ≡ false
StandsAsked asked Calling quit = quit ≡ false
StandsAsked asked Up quit = quit ≡ true → asked ≡ true
StandsAsked asked Releasing quit = asked ≡ true

abbrev pub HasSetUp : LinkState → Type 0
HasSetUp Idle = ⊥
HasSetUp Calling = ⊥
HasSetUp Up = ⊤
HasSetUp Releasing = ⊤

stands_more : (asked more : Bool) (state : LinkState) (quit : Bool) → (asked ≡ true → more ≡ true)
    → StandsAsked asked state quit → StandsAsked more state quit
stands_more asked more Idle quit grows h = h
stands_more asked more Calling quit grows h = h
stands_more asked more Up quit grows h = λ wish. grows (h wish)
stands_more asked more Releasing quit grows h = grows h

stands_at :
    (asked : Bool) (c : Control) (state : LinkState) (quit : Bool) → c.state ≡ state → c.quit ≡ quit
    → StandsAsked asked state quit → StandsAsked asked c.state c.quit
stands_at asked c state quit s q h =
    subst (λ x. StandsAsked asked x c.quit) (sym s) (subst (StandsAsked asked state) (sym q) h)

-- with nothing told of the set-up, what was asked for stays
asked_stays : (asked disconnects : Bool) (told : List Told) → opened_in told ≡ false → ended_in told ≡ false
    → asked_after asked disconnects told ≡ asked || disconnects
asked_stays asked disconnects told opened ended =
    ap (λ b. cond (b || ended_in told) false (asked || disconnects)) opened
    ∙ ap (λ b. cond b false (asked || disconnects)) ended

was_asked : (asked disconnects : Bool) (told : List Told) → opened_in told ≡ false → ended_in told ≡ false
    → asked ≡ true → asked_after asked disconnects told ≡ true
was_asked asked disconnects told opened ended is =
    asked_stays asked disconnects told opened ended ∙ or_left asked disconnects is

up_false : (asked quit : Bool) → quit ≡ false → StandsAsked asked Up quit
up_false asked quit q = λ wish. absurd (cc)

-- a wish in a set-up
wish_stands : (state : LinkState) (quit : Bool) → HasSetUp state → StandsAsked true state quit
wish_stands Idle quit has = absurd has
wish_stands Calling quit has = absurd has
wish_stands Up quit has = λ wish. refl
wish_stands Releasing quit has = refl

quit_calling : (asked : Bool) (state : LinkState) (quit : Bool) → state ≡ Calling → StandsAsked asked state quit
    → quit ≡ false
quit_calling asked state quit is h = subst (λ x. StandsAsked asked x quit) is h

quit_idle : (asked : Bool) (state : LinkState) (quit : Bool) → state ≡ Idle → StandsAsked asked state quit
    → quit ≡ false
quit_idle asked state quit is h = subst (λ x. StandsAsked asked x quit) is h

asked_did :
    (m : Machine) (event : Event) (t : Turn) (asked : Bool) → (is_disconnect event ≡ true → HasSetUp m.control.state)
    → StandsAsked asked m.control.state m.control.quit → DidIn m event (begin m) t
    → StandsAsked (asked_after asked (is_disconnect event) t.told) t.now.control.state t.now.control.quit
asked_did m event t asked up h (gives k) =
    let more = asked_after asked (is_disconnect event) t.told in
    let opened : opened_in t.told ≡ false = ap opened_in k.told ∙ given_opens k.packets in
    let ended : ended_in t.told ≡ false = ap ended_in k.told ∙ given_ends k.packets in
    stands_at more t.now.control m.control.state m.control.quit k.state k.quit
    (stands_more asked more m.control.state m.control.quit
    (was_asked asked (is_disconnect event) t.told opened ended) h)
asked_did m event t asked up h (wishes wish told state) =
    let more = asked_after asked (is_disconnect event) t.told in
    let is : more ≡ true =
    asked_stays asked (is_disconnect event) t.told (ap opened_in told) (ap ended_in told)
    ∙ or_right asked (is_disconnect event) wish in
    subst (λ b. StandsAsked b t.now.control.state t.now.control.quit) (sym is)
    (subst (λ s. StandsAsked true s t.now.control.quit) (sym state)
    (wish_stands m.control.state t.now.control.quit (up wish)))
asked_did m event t asked up h (abandons wish told was state) =
    let more = asked_after asked (is_disconnect event) t.told in
    let is : more ≡ true =
    asked_stays asked (is_disconnect event) t.told (ap opened_in told) (ap ended_in told)
    ∙ or_right asked (is_disconnect event) wish in
    subst (λ s. StandsAsked more s t.now.control.quit) (sym state) is
asked_did m event t asked up h (calls connects told idle state quit) =
    stands_at (asked_after asked (is_disconnect event) t.told) t.now.control Calling false state
    (quit ∙ quit_idle asked m.control.state m.control.quit idle h) refl
asked_did m event t asked up h (ends why told state quit) =
    stands_at (asked_after asked (is_disconnect event) t.told) t.now.control Idle false state quit refl
asked_did m event t asked up h (opens calling told state quit) =
    let more = asked_after asked (is_disconnect event) t.told in
    stands_at more t.now.control Up false state (quit ∙ quit_calling asked m.control.state m.control.quit calling h)
    (up_false more false refl)
asked_did m event t asked up h (is_called called told is state quit) =
    let more = asked_after asked (is_disconnect event) t.told in
    stands_at more t.now.control Up false state quit (up_false more false refl)
asked_did m event t asked up h (resets wrong told is state quit) =
    stands_at (asked_after asked (is_disconnect event) t.told) t.now.control Calling false state quit refl

asked_closes :
    (asked : Bool) (t u : Turn) → StandsAsked asked t.now.control.state t.now.control.quit → Closes t u
    → StandsAsked asked u.now.control.state u.now.control.quit
asked_closes asked t u h (stays told state quit) =
    stands_at asked u.now.control t.now.control.state t.now.control.quit state quit h
asked_closes asked t u h (releases told up quit state) =
    let wish : t.now.control.quit ≡ true → asked ≡ true = subst (λ s. StandsAsked asked s t.now.control.quit) up h in
    subst (λ s. StandsAsked asked s u.now.control.quit) (sym state) (wish quit)

closes_told : (t u : Turn) → Closes t u → u.told ≡ t.told
closes_told t u (stays told state quit) = told
closes_told t u (releases told up quit state) = told

pub asked_step :
    (m : Machine) (event : Event) (asked : Bool) → (is_disconnect event ≡ true → HasSetUp m.control.state)
    → StandsAsked asked m.control.state m.control.quit
    → let u = link_turn m event in
    StandsAsked (asked_after asked (is_disconnect event) u.told) u.now.control.state u.now.control.quit
asked_step m event asked up h = go (link_turn m event) (step_steps m event)
  where
    go : (u : Turn) → Steps m event u
        → StandsAsked (asked_after asked (is_disconnect event) u.told) u.now.control.state u.now.control.quit
    go u (refused is) =
        subst (λ (x : Turn). StandsAsked (asked_after asked (is_disconnect event) x.told)
        x.now.control.state x.now.control.quit)
        (sym is)
        (stands_more asked (asked || is_disconnect event) m.control.state m.control.quit
        (or_left asked (is_disconnect event)) h)
    go u (made t did closes) =
        subst (λ told. StandsAsked (asked_after asked (is_disconnect event) told)
        u.now.control.state u.now.control.quit)
        (sym (closes_told t u closes))
        (asked_closes (asked_after asked (is_disconnect event) t.told) t u (asked_did m event t asked up h did) closes)

-- the events of a link, in which a disconnect is asked for only in a set-up
abbrev pub AsksInSetUp : LinkStep → Type 0
AsksInSetUp step = is_disconnect step.event ≡ true → HasSetUp step.link.machine.control.state

abbrev pub asked_following : Bool → List LinkStep → Bool
asked_following asked [] = asked
asked_following asked (step ∷ steps) = asked_following (asked_after asked (is_disconnect step.event) (told_in step)) steps

pub asked_append :
    (asked : Bool) (first second : List LinkStep)
    → asked_following asked (first ++ second) ≡ asked_following (asked_following asked first) second
asked_append asked [] second = refl
asked_append asked (step ∷ first) second =
    asked_append (asked_after asked (is_disconnect step.event) (told_in step)) first second

pub chain_asked :
    (asked : Bool) (m : Machine) (steps : List LinkStep) → IsChain m steps → Each AsksInSetUp steps
    → StandsAsked asked m.control.state m.control.quit
    → let last = last_machine m steps in StandsAsked (asked_following asked steps) last.control.state last.control.quit
chain_asked asked m [] chain up h = h
chain_asked asked m (step ∷ steps) chain up h =
    let there : StandsAsked asked step.link.machine.control.state step.link.machine.control.quit =
    subst (λ (x : Machine). StandsAsked asked x.control.state x.control.quit) chain.0
    (made_like (StandsAsked asked) refl step.anew m h) in
    chain_asked (asked_after asked (is_disconnect step.event) (told_in step))
    (link_turn step.link.machine step.event).now
    steps chain.1 up.1 (asked_step step.link.machine step.event asked up.0 there)

-- ---- a link that its own host called

-- whether the link was called and has not ended since
abbrev pub called_after : Bool → Bool → List Told → Bool
called_after called connects told = if ended_in told then false else called || connects

-- a link that is not idle was called
abbrev pub StandsCalled : Bool → LinkState → Type 0
StandsCalled called Idle = ⊤
StandsCalled called Calling = called ≡ true
StandsCalled called Up = called ≡ true
StandsCalled called Releasing = called ≡ true

-- a frame that is heard neither calls nor makes the link call anew
abbrev pub HearsWell : LinkStep → Type 0
HearsWell step = (HearsAsk step.event → ⊥) × (HearsWrong step.link.machine step.event → ⊥)

-- what is heard is a frame of a link
abbrev pub OfLink : LinkStep → Type 0
OfLink step = IsOfLink step.event

called_more : (called more : Bool) (state : LinkState) → (called ≡ true → more ≡ true) → StandsCalled called state
    → StandsCalled more state
called_more called more Idle grows h = tt
called_more called more Calling grows h = grows h
called_more called more Up grows h = grows h
called_more called more Releasing grows h = grows h

is_called_all : (called : Bool) (state : LinkState) → called ≡ true → StandsCalled called state
is_called_all called Idle is = tt
is_called_all called Calling is = is
is_called_all called Up is = is
is_called_all called Releasing is = is

called_stays : (called connects : Bool) (told : List Told) → ended_in told ≡ false
    → called_after called connects told ≡ called || connects
called_stays called connects told ended = ap (λ b. cond b false (called || connects)) ended

-- what an event tells of a link that stands called
pub record TellsCalled (called connects : Bool) (t : Turn) : Type 0 where
  pub stands : StandsCalled (called_after called connects t.told) t.now.control.state
  pub opens : opened_in t.told ≡ true → called ≡ true

no_opening : (told : List Told) (called : Bool) → opened_in told ≡ false → opened_in told ≡ true → called ≡ true
no_opening told called none some = absurd (cc)

called_did :
    (m : Machine) (event : Event) (t : Turn) (called : Bool) → (HearsAsk event → ⊥) → (HearsWrong m event → ⊥)
    → StandsCalled called m.control.state → DidIn m event (begin m) t → TellsCalled called (is_connect event) t
called_did m event t called no_ask right h (gives k) =
    let ended : ended_in t.told ≡ false = ap ended_in k.told ∙ given_ends k.packets in
    let more : called ≡ true → called_after called (is_connect event) t.told ≡ true =
    λ is. called_stays called (is_connect event) t.told ended ∙ or_left called (is_connect event) is in
    record {
      stands = subst (StandsCalled (called_after called (is_connect event) t.told)) (sym k.state)
          (called_more called (called_after called (is_connect event) t.told) m.control.state more h);
      opens = no_opening t.told called (ap opened_in k.told ∙ given_opens k.packets);
    }
called_did m event t called no_ask right h (wishes wish told state) =
    let more : called ≡ true → called_after called (is_connect event) t.told ≡ true =
    λ is. called_stays called (is_connect event) t.told (ap ended_in told) ∙ or_left called (is_connect event) is in
    record {
      stands = subst (StandsCalled (called_after called (is_connect event) t.told)) (sym state)
          (called_more called (called_after called (is_connect event) t.told) m.control.state more h);
      opens = no_opening t.told called (ap opened_in told);
    }
called_did m event t called no_ask right h (abandons wish told up state) =
    let was : called ≡ true = subst (StandsCalled called) up h in
    let more : called_after called (is_connect event) t.told ≡ true =
    called_stays called (is_connect event) t.told (ap ended_in told) ∙ or_left called (is_connect event) was in
    record {
      stands = is_called_all (called_after called (is_connect event) t.told) t.now.control.state more;
      opens = no_opening t.told called (ap opened_in told);
    }
called_did m event t called no_ask right h (calls connects told idle state quit) =
    let more : called_after called (is_connect event) t.told ≡ true =
    called_stays called (is_connect event) t.told (ap ended_in told) ∙ or_right called (is_connect event) connects in
    record {
      stands = is_called_all (called_after called (is_connect event) t.told) t.now.control.state more;
      opens = no_opening t.told called (ap opened_in told);
    }
called_did m event t called no_ask right h (ends why told state quit) =
    record {
      stands = subst (StandsCalled (called_after called (is_connect event) t.told)) (sym state) tt;
      opens = no_opening t.told called (ap opened_in told);
    }
called_did m event t called no_ask right h (opens calling told state quit) =
    let was : called ≡ true = subst (StandsCalled called) calling h in
    let more : called_after called (is_connect event) t.told ≡ true =
    called_stays called (is_connect event) t.told (ap ended_in told) ∙ or_left called (is_connect event) was in
    record {
      stands = is_called_all (called_after called (is_connect event) t.told) t.now.control.state more;
      opens = λ some. was;
    }
called_did m event t called no_ask right h (is_called asks told is state quit) = absurd (no_ask asks)
called_did m event t called no_ask right h (resets wrong told is state quit) = absurd (right wrong)

called_closes :
    (called connects : Bool) (t u : Turn) → TellsCalled called connects t → Closes t u → TellsCalled called connects u
called_closes called connects t u h (stays told state quit) = record {
  stands = subst (StandsCalled (called_after called connects u.told)) (sym state)
      (subst (λ xs. StandsCalled (called_after called connects xs) t.now.control.state) (sym told) h.stands);
  opens = λ some. h.opens (sym (ap opened_in told) ∙ some);
}
called_closes called connects t u h (releases told up quit state) = record {
  stands = subst (StandsCalled (called_after called connects u.told)) (sym state)
      (subst (λ xs. called_after called connects xs ≡ true) (sym told)
      (subst (StandsCalled (called_after called connects t.told)) up h.stands));
  opens = λ some. h.opens (sym (ap opened_in told) ∙ some);
}

pub called_step :
    (m : Machine) (event : Event) (called : Bool) → (HearsAsk event → ⊥) → (HearsWrong m event → ⊥)
    → StandsCalled called m.control.state → TellsCalled called (is_connect event) (link_turn m event)
called_step m event called no_ask right h = go (link_turn m event) (step_steps m event)
  where
    go : (u : Turn) → Steps m event u → TellsCalled called (is_connect event) u
    go u (refused is) =
        subst (TellsCalled called (is_connect event)) (sym is) (record {
          stands = called_more called (called || is_connect event) m.control.state (or_left called (is_connect event))
              h;
          opens = λ some. absurd (cc);
        })
    go u (made t did closes) =
        called_closes called (is_connect event) t u (called_did m event t called no_ask right h did) closes

abbrev pub called_following : Bool → List LinkStep → Bool
called_following called [] = called
called_following called (step ∷ steps) = called_following (called_after called (is_connect step.event) (told_in step)) steps

pub called_append :
    (called : Bool) (first second : List LinkStep)
    → called_following called (first ++ second) ≡ called_following (called_following called first) second
called_append called [] second = refl
called_append called (step ∷ first) second =
    called_append (called_after called (is_connect step.event) (told_in step)) first second

-- each event that opens finds the link called
abbrev pub AllOpenCalled : Bool → List LinkStep → Type 0
AllOpenCalled called [] = ⊤
AllOpenCalled called (step ∷ steps) =
    (opened_in (told_in step) ≡ true → called ≡ true)
    × AllOpenCalled (called_after called (is_connect step.event) (told_in step)) steps

pub record ChainCalled (called : Bool) (m : Machine) (steps : List LinkStep) : Type 0 where
  pub opens : AllOpenCalled called steps
  pub now : StandsCalled (called_following called steps) (last_machine m steps).control.state

pub chain_called :
    (called : Bool) (m : Machine) (steps : List LinkStep) → IsChain m steps → Each HearsWell steps
    → StandsCalled called m.control.state → ChainCalled called m steps
chain_called called m [] chain well h = record { opens = tt; now = h }
chain_called called m (step ∷ steps) chain well h =
    let there : StandsCalled called step.link.machine.control.state =
    subst (λ (x : Machine). StandsCalled called x.control.state) chain.0
    (made_like (λ state quit. StandsCalled called state) tt step.anew m h) in
    let one = called_step step.link.machine step.event called well.0.0 well.0.1 there in
    let rest = chain_called (called_after called (is_connect step.event) (told_in step))
    (link_turn step.link.machine step.event).now steps chain.1 well.1 one.stands in
    record { opens = (one.opens, rest.opens); now = rest.now }
