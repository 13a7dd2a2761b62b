-- What a connection is sent, one message after another, each told by the link of a call or not.
use Rattle.station_laws.proofs.Common.{◌≡◌, ℕ, Bool, true, false, List, [], ◌∷◌, ◌++◌, map, Option, Some, None, refl}
use Rattle.station_laws.proofs.Common.{sym, ap, ◌∙◌, subst, ⊤, append_assoc, Callsign, AgwMessage, Told, Opened, Given}
use Rattle.station_laws.proofs.Common.{Ended, LinkState, Idle, Machine, LinkStep, RunsIn, runs_after, is_number, Path}
use Rattle.std.specs.List.{flat_map}
use Rattle.link_machine.specs.Step.{step as link_turn}
use Rattle.station.specs.HostMessages.{message_of_told}
use Rattle.station_laws.specs.LinksTell.{AreToldInOne}
use Rattle.station_laws.specs.RunsTell.{told_in}
use Rattle.station_laws.proofs.LinkTells.{links_tell_holds, none_idle}
use Rattle.call_laws.proofs.Apart.{OpensApart, opens_apart, idle_runs_not}

pub data Item : Type 0 where
  -- what the link of the call tells, and whether the connection owns it then
  Tells : (owned : Bool) (told : Told) → Item
  -- a message that it does not tell
  Says : (message : AgwMessage) → Item

-- what the connection is sent
abbrev pub messages_of : Callsign → Callsign → List Item → List AgwMessage
messages_of own remote [] = []
messages_of own remote (Tells true told ∷ items) = message_of_told own remote told ∷ messages_of own remote items
messages_of own remote (Tells false told ∷ items) = messages_of own remote items
messages_of own remote (Says message ∷ items) = message ∷ messages_of own remote items

-- what the link tells
abbrev pub tells_of : List Item → List Item
tells_of [] = []
tells_of (Tells owned told ∷ items) = Tells owned told ∷ tells_of items
tells_of (Says message ∷ items) = tells_of items

abbrev pub told_of_items : List Item → List Told
told_of_items [] = []
told_of_items (Tells owned told ∷ items) = told ∷ told_of_items items
told_of_items (Says message ∷ items) = told_of_items items

abbrev pub owned_by : ℕ → LinkStep → Bool
owned_by id step = is_number id step.link.owner

-- what an event of the link tells
abbrev pub items_in : ℕ → LinkStep → List Item
items_in id step = map (Tells (owned_by id step)) (told_in step)

abbrev pub all_items : ℕ → List LinkStep → List Item
all_items id steps = flat_map (items_in id) steps

pub messages_append : (own remote : Callsign) (first second : List Item)
    → messages_of own remote (first ++ second) ≡ messages_of own remote first ++ messages_of own remote second
messages_append own remote [] second = refl
messages_append own remote (Tells true told ∷ first) second =
    ap (λ ms. message_of_told own remote told ∷ ms) (messages_append own remote first second)
messages_append own remote (Tells false told ∷ first) second = messages_append own remote first second
messages_append own remote (Says message ∷ first) second =
    ap (λ ms. message ∷ ms) (messages_append own remote first second)

pub tells_append : (first second : List Item) → tells_of (first ++ second) ≡ tells_of first ++ tells_of second
tells_append [] second = refl
tells_append (Tells owned told ∷ first) second = ap (λ xs. Tells owned told ∷ xs) (tells_append first second)
tells_append (Says message ∷ first) second = tells_append first second

pub items_append : (id : ℕ) (first second : List LinkStep)
    → all_items id (first ++ second) ≡ all_items id first ++ all_items id second
items_append id [] second = refl
items_append id (step ∷ first) second =
    ap (λ xs. items_in id step ++ xs) (items_append id first second)
    ∙ sym (append_assoc (items_in id step) (all_items id first) (all_items id second))

-- the told items of these
told_append : (first second : List Item) → told_of_items (first ++ second) ≡ told_of_items first ++ told_of_items second
told_append [] second = refl
told_append (Tells owned told ∷ first) second = ap (λ xs. told ∷ xs) (told_append first second)
told_append (Says message ∷ first) second = told_append first second

told_back : (owned : Bool) (told : List Told) → told_of_items (map (Tells owned) told) ≡ told
told_back owned [] = refl
told_back owned (t ∷ told) = ap (λ xs. t ∷ xs) (told_back owned told)

pub told_all : (id : ℕ) (steps : List LinkStep) → told_of_items (all_items id steps) ≡ flat_map told_in steps
told_all id [] = refl
told_all id (step ∷ steps) =
    told_append (items_in id step) (all_items id steps)
    ∙ ap (λ xs. xs ++ told_of_items (all_items id steps)) (told_back (owned_by id step) (told_in step))
    ∙ ap (λ xs. told_in step ++ xs) (told_all id steps)

pub told_tells : (items : List Item) → told_of_items (tells_of items) ≡ told_of_items items
told_tells [] = refl
told_tells (Tells owned told ∷ items) = ap (λ xs. told ∷ xs) (told_tells items)
told_tells (Says message ∷ items) = told_tells items

-- ---- one owner a set-up

-- Set-ups begin and end in turn, data is told of in one, and all that is told of one is the same owner's.
abbrev pub IsTale : Bool → Bool → List Item → Type 0
IsTale runs own [] = ⊤
IsTale runs own (Says message ∷ items) = IsTale runs own items
IsTale runs own (Tells owned (Opened ours) ∷ items) = (runs ≡ false) × IsTale true owned items
IsTale runs own (Tells owned (Given packet) ∷ items) = (runs ≡ true) × (owned ≡ own) × IsTale runs own items
IsTale runs own (Tells owned (Ended why) ∷ items) = (runs ≡ true → owned ≡ own) × IsTale false own items

pub tale_of_tells : (runs own : Bool) (items : List Item) → IsTale runs own (tells_of items) → IsTale runs own items
tale_of_tells runs own [] h = tt
tale_of_tells runs own (Says message ∷ items) h = tale_of_tells runs own items h
tale_of_tells runs own (Tells owned (Opened ours) ∷ items) h = (h.0, tale_of_tells true owned items h.1)
tale_of_tells runs own (Tells owned (Given packet) ∷ items) h = (h.0, h.1, tale_of_tells runs own items h.2)
tale_of_tells runs own (Tells owned (Ended why) ∷ items) h = (h.0, tale_of_tells false own items h.1)

-- An event finds the machine and the owner that the event before it left; a link is made if there is none, that is, if
-- its machine is idle.
abbrev pub Continues : Option Path → ℕ → Bool → Machine → LinkStep → Type 0
Continues None id own m step = (step.link.machine ≡ m) × (owned_by id step ≡ own)
Continues (Some path) id own m step = (m.control.state ≡ Idle) × (step.link.machine.control.state ≡ Idle)

abbrev pub IsOwnedChain : ℕ → Bool → Machine → List LinkStep → Type 0
IsOwnedChain id own m [] = ⊤
IsOwnedChain id own m (step ∷ steps) =
    Continues step.anew id own m step
    × IsOwnedChain id (owned_by id step) (link_turn step.link.machine step.event).now steps

abbrev pub last_owned : ℕ → Bool → List LinkStep → Bool
last_owned id own [] = own
last_owned id own (step ∷ steps) = last_owned id (owned_by id step) steps

told_tale :
    (runs own owned : Bool) (told : List Told) (items : List Item) → (runs ≡ true → owned ≡ own)
    → OpensApart runs told → AreToldInOne runs told
    → ((mine : Bool) → (runs_after runs told ≡ true → mine ≡ owned) → IsTale (runs_after runs told) mine items)
    → IsTale runs own (map (Tells owned) told ++ items)
told_tale runs own owned [] items same apart one rest = rest own (λ is. sym (same is))
told_tale runs own owned (Opened ours ∷ told) items same apart one rest =
    (apart.0, told_tale true owned owned told items (λ is. refl) apart.1 one rest)
told_tale runs own owned (Given packet ∷ told) items same apart one rest =
    (one.0, same one.0, told_tale runs own owned told items same apart one.1 rest)
told_tale runs own owned (Ended why ∷ told) items same apart one rest =
    (same, told_tale false own owned told items (λ is. absurd (let e : false ≡ true = is in cc)) apart one rest)

runs_from : (runs : Bool) (state : LinkState) → runs ≡ false → state ≡ Idle → RunsIn runs state
runs_from runs state none idle = subst (λ b. RunsIn b state) (sym none) (subst (RunsIn false) (sym idle) none_idle)

step_tale :
    (id : ℕ) (runs mine own : Bool) (m : Machine) (step : LinkStep) (items : List Item) → RunsIn runs m.control.state
    → (runs ≡ true → mine ≡ own) → (anew : Option Path) → Continues anew id own m step
    → ((r later : Bool) → RunsIn r (link_turn step.link.machine step.event).now.control.state
    → (r ≡ true → later ≡ owned_by id step) → IsTale r later items)
    → IsTale runs mine (items_in id step ++ items)
step_tale id runs mine own m step items h same anew continues rest = go anew continues
  where
    tale : RunsIn runs step.link.machine.control.state → (runs ≡ true → owned_by id step ≡ mine)
        → IsTale runs mine (items_in id step ++ items)
    tale there owner =
        let one = links_tell_holds step.link.machine step.event runs there in
        told_tale runs mine (owned_by id step) (told_in step) items owner
        (opens_apart step.link.machine step.event runs there) one.told
        (λ later is. rest (runs_after runs (told_in step)) later one.now is)

    go : (anew : Option Path) → Continues anew id own m step → IsTale runs mine (items_in id step ++ items)
    go None kept =
        tale (subst (λ (x : Machine). RunsIn runs x.control.state) (sym kept.0) h)
        (λ is. kept.1 ∙ sym (same is))
    go (Some path) made =
        let none = idle_runs_not runs m.control.state h made.0 in
        tale (runs_from runs step.link.machine.control.state none made.1)
        (λ is. absurd (let e : false ≡ true = sym none ∙ is in cc))

pub chain_tale :
    (id : ℕ) (runs mine own : Bool) (m : Machine) (steps : List LinkStep) → RunsIn runs m.control.state
    → (runs ≡ true → mine ≡ own) → IsOwnedChain id own m steps → IsTale runs mine (all_items id steps)
chain_tale id runs mine own m [] h same chain = tt
chain_tale id runs mine own m (step ∷ steps) h same chain =
    step_tale id runs mine own m step (all_items id steps) h same step.anew chain.0
    (λ r later there is. chain_tale id r later (owned_by id step) (link_turn step.link.machine step.event).now steps
    there is chain.1)

-- ---- chains one after another

pub owned_append : (id : ℕ) (own : Bool) (first second : List LinkStep)
    → last_owned id own (first ++ second) ≡ last_owned id (last_owned id own first) second
owned_append id own [] second = refl
owned_append id own (step ∷ first) second = owned_append id (owned_by id step) first second
