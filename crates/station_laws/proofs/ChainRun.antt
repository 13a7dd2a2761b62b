-- In a joint run that is heard in order the events of a link at a station are a chain: each finds the machine that the
-- one before it left. If only A calls and no N(R) is invalid, A hears no SABM, SABME or DISC, and no frame that resets
-- its link.
use Rattle.station_laws.proofs.Common.{◌≡◌, ℕ, ◌+◌, Bool, true, false, List, [], ◌∷◌, ◌++◌, length, Option, Some, None}
use Rattle.station_laws.proofs.Common.{refl, sym, ap, ◌∙◌, subst, arith, ⊤, Path, Params, LinkState, Idle, Calling, Up}
use Rattle.station_laws.proofs.Common.{Releasing, Machine, modulus_named, End, A, B, Change, ChangesAreValid, changed}
use Rattle.station_laws.proofs.Common.{made_in, run_changes, Keeps, Tagged, asks, asks_in, hears_valid, RecordedEnd}
use Rattle.station_laws.proofs.Common.{World, other, seen_from, each_append, Config, AreHeardInOrder, Pair, Step}
use Rattle.station_laws.proofs.Common.{Stations, IsJointRun, at_end, new_stations, stepped, Calls, Counts, Pairs}
use Rattle.station_laws.proofs.Common.{all_changes_by, changes_by, changes_from, count_at, event_at_end, first_world}
use Rattle.station_laws.proofs.Common.{heard_at, link_at_end, makes, marks_from, with_more, LinkStep, steps_of}
use Rattle.station_laws.proofs.Common.{IsOfNoHost, link_steps_at}
use Rattle.std.specs.List.{AllByRecursion as Each}
use Rattle.link_machine.specs.Event.{Event as LinkEvent}
use Rattle.link_machine.specs.Event.Event.{Connect as LinkConnect, Send as LinkSend, Disconnect as LinkDisconnect}
use Rattle.link_machine.specs.Event.Event.{Hear as LinkHear, Seize as LinkSeize, Tick as LinkTick}
use Rattle.link_machine.specs.Step.{step as link_turn}
use Rattle.station_laws.proofs.Acts.{ReadsFront, is_asking}
use Rattle.station_laws.proofs.Along.{AllFollowNear, FollowsNear, by_seen, changes_seen, makes_near, makes_seen}
use Rattle.station_laws.proofs.Along.{near_all, near_by, run_changes-append}
use Rattle.station_laws.proofs.Calm.{HearsValid, IsCalm, StaysCalm, calm_step}
use Rattle.station_laws.proofs.Chains.{HearsWell, IsChain, OfLink, chain_append, last_append, last_machine, made_by}
use Rattle.station_laws.proofs.Chains.{made_of}
use Rattle.station_laws.proofs.Counts.{count_cons, count_take, one}
use Rattle.station_laws.proofs.LinkDid.{HearsAsk, HearsWrong, IsOfLink}
use Rattle.station_laws.proofs.NearQuiet.{back_all, back_by, made_towards, sends_none, sent_near, towards_by, far_end}
use Rattle.station_laws.proofs.ReadKinds.{frame_test}
use Rattle.station_laws.proofs.Tables.{not_both}
use Rattle.station_laws.proofs.ValidHearing.{valid_last, valid_seen, heard_valid, made_calm}
use Rattle.station_laws.proofs.JointLaw.{RunHolds, new_run_holds}

-- ---- the events of a step, as their end sees them

made_machine : (anew : Option Path) (w : World) → (makes_near anew w).a.end.machine ≡ made_by anew w.a.end.machine
made_machine None w = refl
made_machine (Some path) w = go w.a.end.machine.control.state
  where
    go : (state : LinkState) → (made_in state path w.a.end).machine ≡ made_of state path w.a.end.machine
    go Idle = refl
    go Calling = refl
    go Up = refl
    go Releasing = refl

record NearChain (e : End) (pairs : List Pair) (n : ℕ) (steps : List LinkStep) (w : World) : Type 0 where
  chain : IsChain w.a.end.machine steps
  last : last_machine w.a.end.machine steps ≡ (near_all e pairs n steps w).a.end.machine

near_chain :
    (e : End) (back : List Tagged) (pairs : List Pair) (n : ℕ) (steps : List LinkStep) (w : World)
    → AllFollowNear e back pairs n steps w → NearChain e pairs n steps w
near_chain e back pairs n [] w follows = record { chain = tt; last = refl }
near_chain e back pairs n (step ∷ steps) w follows =
    let next = near_by e pairs n step w in
    let rest : NearChain e pairs n steps next = near_chain e back pairs n steps next follows.1 in
    let same : next.a.end.machine ≡ (link_turn step.link.machine step.event).now = follows.0.next in
    record {
      chain = (
        sym (made_machine step.anew w) ∙ follows.0.machine,
        subst (λ m. IsChain m steps) same rest.chain,
      );
      last = ap (λ m. last_machine m steps) (sym same) ∙ rest.last;
    }

-- ---- what is heard is a frame of a link

reads_link : (event : LinkEvent) (x : World) → ReadsFront event x → IsOfLink event
reads_link LinkConnect x reads = tt
reads_link (LinkSend packet) x reads = tt
reads_link LinkDisconnect x reads = tt
reads_link (LinkHear frame) x reads = reads.of_link
reads_link (LinkTick waiting) x reads = tt
reads_link (LinkSeize last full) x reads = tt

near_link :
    (e : End) (back : List Tagged) (pairs : List Pair) (n : ℕ) (steps : List LinkStep) (v : World)
    → AllFollowNear e back pairs n steps v → Each OfLink steps
near_link e back pairs n [] v follows = tt
near_link e back pairs n (step ∷ steps) v follows = (
  reads_link step.event (makes_near step.anew v) follows.0.reads,
  near_link e back pairs n steps (near_by e pairs n step v) follows.1,
)

own_link : (e : End) (steps : List LinkStep) → Each OfLink steps → Each OfLink (at_end A e steps)
own_link A steps h = h
own_link B steps h = tt

-- ---- the events of a step of either

record StepChain (calls : Calls) (pairs : Pairs) (counts : Counts) (w : World) (step : Step) (e : End) : Type 0 where
  chain_a : IsChain w.a.end.machine (at_end A e (steps_of (link_at_end calls e) step))
  chain_b : IsChain w.b.end.machine (at_end B e (steps_of (link_at_end calls e) step))
  last_a :
      last_machine w.a.end.machine (at_end A e (steps_of (link_at_end calls e) step))
      ≡ (run_changes w (all_changes_by e pairs (count_at e counts) (steps_of (link_at_end calls e) step))).a.end.machine
  last_b :
      last_machine w.b.end.machine (at_end B e (steps_of (link_at_end calls e) step))
      ≡ (run_changes w (all_changes_by e pairs (count_at e counts) (steps_of (link_at_end calls e) step))).b.end.machine

step_chain :
    (calls : Calls) (pairs : Pairs) (counts : Counts) (w : World) (step : Step) (e : End) (back : List Tagged)
    → AllFollowNear e back (heard_at (other e) pairs) (count_at e counts) (steps_of (link_at_end calls e) step)
    (seen_from e w) → StepChain calls pairs counts w step e
step_chain calls pairs counts w step A back follows =
    let made = steps_of (link_at_end calls A) step in
    let seen = changes_seen A pairs counts.a made w in
    let near = near_chain A back pairs.at_b counts.a made w follows in
    record {
      chain_a = near.chain;
      chain_b = tt;
      last_a = near.last ∙ ap (λ (x : World). x.a.end.machine) (sym seen);
      last_b = ap (λ (r : RecordedEnd). r.machine) (sym (far_end A pairs.at_b counts.a made w))
          ∙ ap (λ (x : World). x.b.end.machine) (sym seen);
    }
step_chain calls pairs counts w step B back follows =
    let made = steps_of (link_at_end calls B) step in
    let v = seen_from B w in
    let seen = changes_seen B pairs counts.b made w in
    let near = near_chain B back pairs.at_a counts.b made v follows in
    record {
      chain_a = tt;
      chain_b = near.chain;
      last_a = ap (λ (r : RecordedEnd). r.machine) (sym (far_end B pairs.at_a counts.b made v))
          ∙ ap (λ (x : World). x.b.end.machine) (sym seen);
      last_b = near.last ∙ ap (λ (x : World). x.a.end.machine) (sym seen);
    }

-- ---- what is heard, if no N(R) is invalid and nothing in flight asks

-- the events of an end hear valid numbers
abbrev AllValidNear : End → List Pair → ℕ → List LinkStep → World → Type 0
AllValidNear e pairs n [] v = ⊤
AllValidNear e pairs n (step ∷ steps) v =
    (hears_valid (event_at_end e step.event) (makes_near step.anew v) ≡ true)
    × AllValidNear e pairs n steps (near_by e pairs n step v)

valid_parts :
    (w : World) (first second : List Change) → ChangesAreValid w (first ++ second)
    → ChangesAreValid w first × ChangesAreValid (run_changes w first) second
valid_parts w [] second h = (tt, h)
valid_parts w (change ∷ first) second h =
    let rest = valid_parts (changed w change) first second h.1 in ((h.0, rest.0), rest.1)

valid_near :
    (e : End) (pairs : Pairs) (n : ℕ) (steps : List LinkStep) (w : World)
    → ChangesAreValid w (all_changes_by e pairs n steps)
    → AllValidNear e (heard_at (other e) pairs) n steps (seen_from e w)
valid_near e pairs n [] w h = tt
valid_near e pairs n (step ∷ steps) w h =
    let parts = valid_parts w (changes_by e pairs n step) (all_changes_by e pairs n steps) h in
    let ms = marks_from (heard_at (other e) pairs) (n + step.first) step.joined in
    let here : hears_valid (event_at_end e step.event) (seen_from e (run_changes w (makes e step.anew))) ≡ true =
    valid_seen e step.event ms (run_changes w (makes e step.anew))
    (valid_last w (makes e step.anew) (Keeps (event_at_end e step.event) ms) parts.0) in (
      subst (λ z. hears_valid (event_at_end e step.event) z ≡ true) (makes_seen e step.anew w) here,
      subst (AllValidNear e (heard_at (other e) pairs) n steps) (by_seen e pairs n step step.anew w)
          (valid_near e pairs n steps (run_changes w (changes_by e pairs n step)) parts.1),
    )

first_asks : (f : Tagged) (rest : List Tagged) → asks_in (f ∷ rest) ≡ 0 → asks f.frame.kind ≡ false
first_asks f rest none =
    go (asks f.frame.kind) (sym (count_cons (λ (g : Tagged). asks g.frame.kind) f rest) ∙ none)
  where
    go : (b : Bool) → one b + asks_in rest ≡ 0 → b ≡ false
    go false is = refl
    go true is = absurd (omega arith)

-- so no SABM, SABME or DISC is heard
no_ask :
    (event : LinkEvent) (x : World) → ReadsFront event x → asks_in x.a.towards ≡ 0 → HearsAsk event → ⊥
no_ask LinkConnect x reads none ask = ask
no_ask (LinkSend packet) x reads none ask = ask
no_ask LinkDisconnect x reads none ask = ask
no_ask (LinkHear frame) x reads none ask =
    let front : asks reads.front.frame.kind ≡ false = first_asks reads.front reads.rest (ap asks_in (sym reads.towards)
    ∙ none) in
    let read : asks reads.as_read.kind ≡ false =
    frame_test asks (λ ns nr poll pid octets. refl) (modulus_named reads.front.modulus)
    (modulus_named x.a.end.machine.incoming.modulus) reads.front.frame
    reads.as_read reads.reading front in
    not_both (asks frame.kind) ask (ap asks (sym reads.kind) ∙ read)
no_ask (LinkTick waiting) x reads none ask = ask
no_ask (LinkSeize last full) x reads none ask = ask

-- nor one that resets the link
none_wrong : (event : LinkEvent) (m : Machine) → HearsValid event m → HearsWrong m event → ⊥
none_wrong LinkConnect m valid wrong = wrong
none_wrong (LinkSend packet) m valid wrong = wrong
none_wrong LinkDisconnect m valid wrong = wrong
none_wrong (LinkHear frame) m valid wrong = wrong valid
none_wrong (LinkTick waiting) m valid wrong = wrong
none_wrong (LinkSeize last full) m valid wrong = wrong

well_near :
    (e : End) (back : List Tagged) (pairs : List Pair) (n : ℕ) (steps : List LinkStep) (v : World)
    → AllFollowNear e back pairs n steps v → AllValidNear e pairs n steps v → asks_in v.a.towards ≡ 0
    → Each HearsWell steps
well_near e back pairs n [] v follows valid none = tt
well_near e back pairs n (step ∷ steps) v follows valid none =
    let x = makes_near step.anew v in
    let f : FollowsNear e back step x = follows.0 in
    let here : HearsValid step.event step.link.machine =
    subst (HearsValid step.event) f.machine (heard_valid e step.event x f.reads valid.0) in
    let less = back_by e pairs n step v in
    let none_here : asks_in x.a.towards ≡ 0 = ap asks_in (made_towards step.anew v) ∙ none in
    let left : asks_in (near_by e pairs n step v).a.towards ≡ 0 = omega arith in (
      (no_ask step.event x f.reads none_here, none_wrong step.event step.link.machine here),
      well_near e back pairs n steps (near_by e pairs n step v) follows.1 valid.1 left,
    )

-- ---- an end that never asks stays calm

record CalmNear (v : World) : Type 0 where
  calm : IsCalm v.a.end.machine.control
  none : asks_in v.b.towards ≡ 0

abbrev AsksNone : LinkStep → Type 0
AsksNone step = IsOfNoHost step.event

calm_near :
    (e : End) (back : List Tagged) (pairs : List Pair) (n : ℕ) (steps : List LinkStep) (v : World)
    → AllFollowNear e back pairs n steps v → AllValidNear e pairs n steps v → Each AsksNone steps → CalmNear v
    → CalmNear (near_all e pairs n steps v)
calm_near e back pairs n [] v follows valid asks h = h
calm_near e back pairs n (step ∷ steps) v follows valid asks h =
    let x = makes_near step.anew v in
    let y = near_by e pairs n step v in
    let f : FollowsNear e back step x = follows.0 in
    let here : HearsValid step.event step.link.machine =
    subst (HearsValid step.event) f.machine (heard_valid e step.event x f.reads valid.0) in
    let stays : StaysCalm step.link.machine step.event =
    calm_step step.link.machine step.event asks.0 here
    (subst (λ (m : Machine). IsCalm m.control) f.machine (made_calm step.anew v h.calm)) in
    let next : y.a.end.machine ≡ (link_turn step.link.machine step.event).now = f.next in
    let sent = sends_none e back step v f stays.none in
    let part = count_take is_asking step.joined (sent_near e step v) in
    let less = towards_by e pairs n step v in
    let was = h.none in
    let left : asks_in y.b.towards ≡ 0 = omega arith in
    calm_near e back pairs n steps y follows.1 valid.1 asks.1 (record {
      calm = subst (λ (m : Machine). IsCalm m.control) (sym next) stays.calm;
      none = left;
    })

-- ---- a step of either

abbrev pub EndAsks : End → LinkStep → Type 0
EndAsks A step = ⊤
EndAsks B step = IsOfNoHost step.event

record StepWell (calls : Calls) (pairs : Pairs) (counts : Counts) (w : World) (step : Step) (e : End) : Type 0 where
  well : Each HearsWell (at_end A e (steps_of (link_at_end calls e) step))
  calm :
      IsCalm (run_changes w (all_changes_by e pairs (count_at e counts)
      (steps_of (link_at_end calls e) step))).b.end.machine.control
  none :
      asks_in (run_changes w (all_changes_by e pairs (count_at e counts)
      (steps_of (link_at_end calls e) step))).a.towards ≡ 0

step_well :
    (calls : Calls) (pairs : Pairs) (counts : Counts) (w : World) (step : Step) (e : End) (back : List Tagged)
    → AllFollowNear e back (heard_at (other e) pairs) (count_at e counts) (steps_of (link_at_end calls e) step)
    (seen_from e w)
    → ChangesAreValid w (all_changes_by e pairs (count_at e counts) (steps_of (link_at_end calls e) step))
    → Each (EndAsks e) (steps_of (link_at_end calls e) step)
    → IsCalm w.b.end.machine.control → asks_in w.a.towards ≡ 0 → StepWell calls pairs counts w step e
step_well calls pairs counts w step A back follows valid asks calm none =
    let made = steps_of (link_at_end calls A) step in
    let seen = changes_seen A pairs counts.a made w in
    let less = back_all A pairs.at_b counts.a made w in
    let same : asks_in (run_changes w (all_changes_by A pairs counts.a made)).a.towards
    ≡ asks_in (near_all A pairs.at_b counts.a made w).a.towards =
    ap (λ (x : World). asks_in x.a.towards) seen in
    record {
      well = well_near A back pairs.at_b counts.a made w follows (valid_near A pairs counts.a made w valid) none;
      calm = subst (λ (x : RecordedEnd). IsCalm x.machine.control)
          (sym (ap (λ (x : World). x.b.end) seen ∙ far_end A pairs.at_b counts.a made w)) calm;
      none = omega arith;
    }
step_well calls pairs counts w step B back follows valid asks calm none =
    let made = steps_of (link_at_end calls B) step in
    let v = seen_from B w in
    let seen = changes_seen B pairs counts.b made w in
    let done = calm_near B back pairs.at_a counts.b made v follows (valid_near B pairs counts.b made w valid) asks
    (record { calm = calm; none = none }) in
    record {
      well = tt;
      calm = subst (λ (x : World). IsCalm x.a.end.machine.control) (sym seen) done.calm;
      none = ap (λ (x : World). asks_in x.b.towards) seen ∙ done.none;
    }

-- no event of the link at B is a connect or a disconnect
abbrev pub BIsPassive : Calls → List Step → Type 0
BIsPassive calls [] = ⊤
BIsPassive calls (step ∷ steps) =
    Each (EndAsks step.station) (steps_of (link_at_end calls step.station) step) × BIsPassive calls steps

-- ---- all steps

pub record RunChain (calls : Calls) (pairs : Pairs) (counts : Counts) (w : World) (steps : List Step) : Type 0 where
  pub chain_a : IsChain w.a.end.machine (link_steps_at calls A steps)
  pub chain_b : IsChain w.b.end.machine (link_steps_at calls B steps)
  pub last_a :
      last_machine w.a.end.machine (link_steps_at calls A steps)
      ≡ (run_changes w (changes_from calls pairs counts steps)).a.end.machine
  pub last_b :
      last_machine w.b.end.machine (link_steps_at calls B steps)
      ≡ (run_changes w (changes_from calls pairs counts steps)).b.end.machine
  -- what A hears
  pub of_link : Each OfLink (link_steps_at calls A steps)
  -- and if nothing asks
  pub well :
      ChangesAreValid w (changes_from calls pairs counts steps) → BIsPassive calls steps
      → IsCalm w.b.end.machine.control
      → asks_in w.a.towards ≡ 0 → Each HearsWell (link_steps_at calls A steps)

run_chain :
    (calls : Calls) (pairs : Pairs) (a b : Params) (full past rest : List Step) (st : Stations) (counts : Counts)
    (w : World) → RunHolds calls pairs a b full past st counts w rest → RunChain calls pairs counts w rest
run_chain calls pairs a b full past [] st counts w h =
    record {
      chain_a = tt;
      chain_b = tt;
      last_a = refl;
      last_b = refl;
      of_link = tt;
      well = λ valid holds calm none. tt;
    }
run_chain calls pairs a b full past (step ∷ rest) st counts w h =
    let e = step.station in
    let made = steps_of (link_at_end calls e) step in
    let changes = all_changes_by e pairs (count_at e counts) made in
    let next = run_changes w changes in
    let more = with_more e (length step.after.out.queued) counts in
    let later = changes_from calls pairs more rest in
    let own_a = at_end A e made in
    let own_b = at_end B e made in
    let others_a = link_steps_at calls A rest in
    let others_b = link_steps_at calls B rest in
    let one = h.0.done in
    let others : RunChain calls pairs more next rest =
    run_chain calls pairs a b full (past ++ step ∷ []) rest (stepped step st) more next h.1 in
    let here : StepChain calls pairs counts w step e = step_chain calls pairs counts w step e one.stays one.near in
    let after : run_changes w (changes ++ later) ≡ run_changes next later = run_changes-append changes later w in
    record {
      chain_a = chain_append w.a.end.machine own_a others_a here.chain_a
          (subst (λ m. IsChain m others_a) (sym here.last_a) others.chain_a);
      chain_b = chain_append w.b.end.machine own_b others_b here.chain_b
          (subst (λ m. IsChain m others_b) (sym here.last_b) others.chain_b);
      last_a = last_append w.a.end.machine own_a others_a ∙ ap (λ m. last_machine m others_a) here.last_a
          ∙ others.last_a ∙ ap (λ (x : World). x.a.end.machine) (sym after);
      last_b = last_append w.b.end.machine own_b others_b ∙ ap (λ m. last_machine m others_b) here.last_b
          ∙ others.last_b ∙ ap (λ (x : World). x.b.end.machine) (sym after);
      of_link = each_append OfLink own_a others_a
          (own_link e made
          (near_link e one.stays (heard_at (other e) pairs) (count_at e counts) made (seen_from e w) one.near))
          others.of_link;
      well = λ valid holds calm none.
          let parts = valid_parts w changes later valid in
          let now : StepWell calls pairs counts w step e =
          step_well calls pairs counts w step e one.stays one.near parts.0 holds.0 calm none in
          each_append HearsWell own_a others_a now.well (others.well parts.1 holds.1 now.calm now.none);
    }

-- of a run of two new stations
pub run_chained :
    (a b : Config) (seed_a seed_b : ℕ) (steps : List Step) (calls : Calls) (pairs : Pairs)
    → let start = new_stations a seed_a b seed_b in
    IsJointRun start steps → AreHeardInOrder calls.a calls.b A steps pairs.at_a
    → AreHeardInOrder calls.b calls.a B steps pairs.at_b
    → RunChain calls pairs (record { a = 0; b = 0 }) (first_world calls a.params b.params) steps
run_chained a b seed_a seed_b steps calls pairs run heard_a heard_b =
    run_chain calls pairs a.params b.params steps [] steps (new_stations a seed_a b seed_b) (record { a = 0; b = 0 })
    (first_world calls a.params b.params)
    (new_run_holds a b seed_a seed_b steps calls pairs run heard_a heard_b)
