-- The steps of a live run follow each other, and keep the account of each connection.
use Rattle.tnc_ports.proofs.Common.{◌≡◌, ◌≢◌, ◌⊎◌, ℕ, zero, suc, ℤ, ◌||◌, Bool, true, false, List, [], ◌∷◌, ◌++◌, Option, Some}
use Rattle.tnc_ports.proofs.Common.{None, refl, sym, ap, ◌∙◌, subst, inl, inr, append-nil, append_assoc, true≢false}
use Rattle.tnc_ports.proofs.Common.{Turn, HostEvent, Joined, Bytes, Left, PortKind, Hosts}
use Rattle.tnc_ports.proofs.Common.{Candidate, IsDelivered, IsStep, HaveLeft, AllHaveLeft, InOrder, IsTried}
use Rattle.tnc_ports.proofs.Common.{AreTaken, IsTaken, IsOffered, IsOfferedTo, IsHostPart, Asked, Offering, joining}
use Rattle.tnc_ports.proofs.Common.{cutting, without}
use Rattle.tnc_ports.proofs.Common.{client_of, is_among, is_there, was_there}
use Rattle.tnc_ports.proofs.Common.{ids_of_clients, after_sending, with_lines, AreHeard, Live, AreTicked}
use Rattle.tnc_ports.proofs.Common.{HearsAll, MakesAll, IsKeyTurn, LanesReadOn, IsTurn, AreTurns, IsRun, IsCutTurn}
use Rattle.tnc_ports.proofs.Common.{IsCutRun, new_live, new_hosts, TicksKeyIf, TurnsKeyIf}
use Rattle.tnc_ports.proofs.Common.{Whole, StationState, gap_line, is_held, map, octets_sent}
use Rattle.host_ports.specs.declared.client.Client.{Client}
use Rattle.host_ports.specs.declared.report_line.ReportLine.{ReportLine}
use Rattle.host_ports.specs.declared.untaken.Untaken.{Untaken}
use Rattle.tnc_ports.specs.declared.serve_words.ServeWords.{ServeWords}
use Rattle.tnc_ports.specs.declared.serve_words.KeyWords.{KeyWords}
use Rattle.key_port.specs.KeyEvents.{KeyEvent}
use Rattle.std.specs.List.{AllByRecursion as Each}
use Rattle.link_world.proofs.law.Each.{each_append}
use Rattle.std.proofs.lemmas.List.Elements.{All-from_recursion}
use Rattle.station.specs.Turn.{begin}
use Rattle.station_laws.specs.JointRun.{HasOctets, Input}
use Rattle.station_laws.specs.JointRun.Input.{FromHost, OffAir, OfClock}
use Rattle.station_laws.specs.JointRun.{IsTurn as IsOwnTurn}
use Rattle.call_laws.specs.Client.{Stays}
use Rattle.host_ports.specs.CutPart.{IsCutPart}
use Rattle.host_ports.specs.HostTurns.{HasJoined, HasLeft, Takes}
use Rattle.host_ports.specs.Hosts.{FirstHasLeft}
use Rattle.tnc_ports.specs.Sampled.{IsTicked}
use Rattle.tnc_ports.specs.SampledRun.{AreAskedInTurns}
use Rattle.host_ports.proofs.LeftLemmas.{first_among}
use Rattle.host_ports.proofs.ClientLemmas.{found_id, there_client, waiting_names}
use Rattle.live_laws.specs.LiveSteps.{OwnStep, all_left_steps, cut_part_steps, cut_steps, delivered_step, event_steps}
use Rattle.live_laws.specs.LiveSteps.{events_steps, gone_steps, heard_steps, hearing_steps, host_part_steps, joined_steps}
use Rattle.live_laws.specs.LiveSteps.{last_steps, left_step, left_steps, client_steps, making_steps, offered_steps}
use Rattle.live_laws.specs.LiveSteps.{sending_steps, steps_of_cut_run, steps_of_run, steps_of_step, taken_steps}
use Rattle.live_laws.specs.LiveSteps.{tick_steps, ticks_steps, tried_steps, turn_made, turn_steps, turns_steps}
use Rattle.live_laws.specs.Taken.{IsChain, state_after}
use Rattle.live_laws.proofs.Accounts.{Account, account_cutting, account_delivered, account_joining, account_left}
use Rattle.live_laws.proofs.Accounts.{AccountAt, account_stands, came_now}
use Rattle.live_laws.proofs.Delivering.{Stands, station_delivering}
use Rattle.live_laws.proofs.HeardOctets.{HasFrame, due_frames, each_first}
use Rattle.live_laws.proofs.Strangers.{TouchesNot, each_other, unknown_stays}

abbrev pub HasOctetsIn : OwnStep → Type 0
HasOctetsIn step = HasOctets step.input

-- steps of a station that lead from some hosts to others
pub record Walks (before after : Hosts) (steps : List OwnStep) : Type 0 where
  pub chain : IsChain before.station steps
  pub last : state_after before.station steps ≡ after.station
  pub octets : Each HasOctetsIn steps
  pub accounts : (id : ℕ) (earlier : List OwnStep) → Account id earlier before → Account id (earlier ++ steps) after

-- ---- one after another

chain_on : (s : StationState) (first second : List OwnStep) → IsChain s first → IsChain (state_after s first) second
    → IsChain s (first ++ second)
chain_on s [] second h k = k
chain_on s (step ∷ first) second h k = (h.0, chain_on step.after.now first second h.1 k)

after_both : (s : StationState) (first second : List OwnStep)
    → state_after s (first ++ second) ≡ state_after (state_after s first) second
after_both s [] second = refl
after_both s (step ∷ first) second = after_both step.after.now first second

pub walks_on : (a b c : Hosts) (first second : List OwnStep) → Walks a b first → Walks b c second
    → Walks a c (first ++ second)
walks_on a b c first second h k = record {
  chain = chain_on a.station first second h.chain (subst (λ s. IsChain s second) (sym h.last) k.chain);
  last = after_both a.station first second ∙ ap (λ s. state_after s second) h.last ∙ k.last;
  octets = each_append HasOctetsIn first second h.octets k.octets;
  accounts = λ id earlier account.
      subst (λ xs. Account id xs c) (append_assoc earlier first second)
      (k.accounts id (earlier ++ first) (h.accounts id earlier account));
}

-- no step
walks_still : (a b : Hosts) → b.station ≡ a.station → ((id : ℕ) → Stands id a b) → Walks a b []
walks_still a b same stands = record {
  chain = tt;
  last = sym same;
  octets = tt;
  accounts = λ id earlier account.
      subst (λ xs. Account id xs b) (sym (append-nil earlier))
      (subst (λ s. AccountAt id earlier s b) (sym same)
      (account_stands id earlier a.station a b (stands id) account));
}

walks_nothing : (a b : Hosts) → b ≡ a → Walks a b []
walks_nothing a b same =
    subst (λ h. Walks a h []) (sym same)
    (walks_still a a refl (λ id. record { appended = refl; there = refl; came = refl; leaves = refl }))

-- lines of the report, and what the station has not taken, are of no account
abbrev AreLined : Hosts → Hosts → Type 0
AreLined a b = (report : List ReportLine) × (b ≡ record a { report = report })

lined_on : (a b c : Hosts) → AreLined a b → AreLined b c → AreLined a c
lined_on a b c h k = (k.0, k.1 ∙ ap (λ (hosts : Hosts). record hosts { report = k.0 }) h.1)

walks_lined : (a b c : Hosts) (steps : List OwnStep) → Walks a b steps → AreLined b c → Walks a c steps
walks_lined a b c steps w lined =
    subst (λ h. Walks a h steps) (sym lined.1)
    (record { chain = w.chain; last = w.last; octets = w.octets; accounts = w.accounts })

lined_walks : (a b c : Hosts) (steps : List OwnStep) → AreLined a b → Walks b c steps → Walks a c steps
lined_walks a b c steps lined w =
    let h : Walks (record a { report = lined.0 }) c steps = subst (λ x. Walks x c steps) lined.1 w in
    record { chain = h.chain; last = h.last; octets = h.octets; accounts = h.accounts }

-- ---- a step

-- a connection that is not closed in the step does not leave in it
abbrev MayStay : Input → List ℕ → Type 0
MayStay input closed = (id : ℕ) → is_among id closed ≡ false → Stays id input closed

-- the step takes of no connection that is new that it joins or leaves
abbrev IsOfKnown : Input → Hosts → Type 0
IsOfKnown input before = (id : ℕ) → was_there id before ≡ false → TouchesNot id input

delivers : {step : Turn → Turn → Type 0} (input : Input) (before after : Hosts) (h : IsDelivered step before after)
    (turn : IsOwnTurn input (begin before.station) (turn_made before after h)) → MayStay input h.out.closed
    → IsOfKnown input before → HasOctets input → Walks before after (delivered_step input before after h turn ∷ [])
delivers input before after h turn may known fits = record {
  chain = (refl, tt);
  last = sym (ap (λ (x : Hosts). x.station) h.delivered
      ∙ station_delivering h.out (record before { station = h.next }));
  octets = (fits, tt);
  accounts = λ id earlier account.
      subst (Account id (earlier ++ delivered_step input before after h turn ∷ [])) (sym h.delivered)
      (account_delivered id earlier (delivered_step input before after h turn) before.station
      (record before { station = h.next })
      (λ new unknown. unknown_stays id input before.station (turn_made before after h) turn (known id new) unknown)
      (may id) account);
}

left_delivers : {step : Turn → Turn → Type 0} (other : ℕ) (before after : Hosts)
    (h : IsDelivered step (without other before) after)
    (turn : IsOwnTurn (FromHost (Left other)) (begin before.station) (turn_made (without other before) after h))
    → (is_there other before ≡ true) ⊎ (is_among other before.leaving ≡ true)
    → Walks before after (delivered_step (FromHost (Left other)) (without other before) after h turn ∷ [])
left_delivers other before after h turn left = record {
  chain = (refl, tt);
  last = sym (ap (λ (x : Hosts). x.station) h.delivered
      ∙ station_delivering h.out (record (without other before) { station = h.next }));
  octets = (tt, tt);
  accounts = λ id earlier account.
      subst (Account id (earlier ++ delivered_step (FromHost (Left other)) (without other before) after h turn ∷ []))
      (sym h.delivered)
      (account_left id other earlier (delivered_step (FromHost (Left other)) (without other before) after h turn)
      before.station (record before { station = h.next }) left
      (λ differs unknown. unknown_stays id (FromHost (Left other)) before.station
      (turn_made (without other before) after h) turn differs unknown) (λ differs. differs) account);
}

some_left : (count : ℕ) (before after : Hosts) (h : HaveLeft count before after)
    → Walks before after (left_steps count before after h)
some_left zero before after h = walks_nothing before after h
some_left (suc count) before after h =
    let first : FirstHasLeft h.0 after = h.2 in
    walks_on before h.0 after (left_steps count before h.0 h.1) (left_step h.0 after first ∷ [])
    (some_left count before h.0 h.1)
    (left_delivers first.id h.0 after first.told first.told.made
    (inr (first_among h.0.leaving first.others first.id first.first)))

all_left : (before after : Hosts) (h : AllHaveLeft before after) → Walks before after (all_left_steps before after h)
all_left before after h = some_left h.count before after h.have_left

steps_walk : {step : Turn → Turn → Type 0} (input : Input) (before after : Hosts) (h : IsStep step before after)
    (turn : IsOwnTurn input (begin before.station) (turn_made before h.between h.delivers))
    → MayStay input h.delivers.out.closed → IsOfKnown input before → HasOctets input
    → Walks before after (steps_of_step input before after h turn)
steps_walk input before after h turn may known fits =
    walks_on before h.between after (delivered_step input before h.between h.delivers turn ∷ [])
    (all_left_steps h.between after h.leave) (delivers input before h.between h.delivers turn may known fits)
    (all_left h.between after h.leave)

-- ---- frames and ticks

frames_walk : (monitor : Bool) (items : List Candidate) (before after : Hosts)
    (h : AreHeard monitor items before after) → Each HasFrame items
    → Walks before after (heard_steps monitor items before after h)
frames_walk monitor [] before after h frames = walks_nothing before after h
frames_walk monitor (item ∷ items) before after h frames =
    let lined = with_lines h.1.lines before in
    walks_on before h.0 after (steps_of_step (OffAir item.octets) lined h.0 h.1.step h.1.step.delivers.made)
    (heard_steps monitor items h.0 after h.2)
    (lined_walks before lined h.0
    (steps_of_step (OffAir item.octets) lined h.0 h.1.step h.1.step.delivers.made)
    (lined.report, refl)
    (steps_walk (OffAir item.octets) lined h.0 h.1.step h.1.step.delivers.made (λ id open_still. tt)
    (λ id new. tt) frames.0))
    (frames_walk monitor items h.0 after h.2 frames.1)

key_ticks : (key : Option KeyWords) (octets : ℕ) (samples out : List ℤ) (keyed new : List KeyEvent)
    (whole told : Whole) (before after : Hosts) → TicksKeyIf key octets samples out keyed new whole told before after → AreLined before after
key_ticks None octets samples out keyed new whole told before after t = (before.report, t.2)
key_ticks (Some key) octets samples out keyed new whole told before after t =
    lined_on before t.reached after (
      t.reached.report,
      t.tick.hosts ∙ sym (ap (λ (h : Hosts). record before { report = h.report }) t.tick.hosts),
    ) (
      after.report,
      t.write.hosts ∙ sym (ap (λ (h : Hosts). record t.reached { report = h.report }) t.write.hosts),
    )

key_turns : (key : Option KeyWords) (octets : ℕ) (keyed new : List KeyEvent) (before after : Hosts)
    → TurnsKeyIf key octets keyed new before after → AreLined before after
key_turns None octets keyed new before after t = (before.report, t.1)
key_turns (Some key) octets keyed new before after t =
    (after.report, t.call.hosts ∙ sym (ap (λ (h : Hosts). record before { report = h.report }) t.call.hosts))

tick_walks : (words : ServeWords) (busy : Bool) (before after : Live) (h : IsTicked words busy before after)
    → Walks before.hosts after.hosts (tick_steps words busy before after h)
tick_walks words busy before after h =
    let steps = tick_steps words busy before after h in
    let ticked : Walks before.hosts h.step.ticked steps =
    steps_walk (OfClock (busy || is_held words.key before.keyed)) before.hosts h.step.ticked h.step.step.step h.step.step.step.delivers.made
    (λ id open_still. tt) (λ id new. tt) tt in
    let made : Walks before.hosts h.made steps =
    walks_lined before.hosts h.step.ticked h.made steps ticked
    (before.hosts.report ++ (h.step.lines ++ h.step.reported), h.step.is) in
    let keyed : Walks before.hosts h.hosts steps =
    walks_lined before.hosts h.made h.hosts steps made
    (key_ticks words.key (octets_sent before) h.air.samples h.out before.keyed h.keyed before.whole h.whole h.made h.hosts h.key) in
    let told = ap (λ (live : Live). live.hosts) h.is in
    walks_lined before.hosts h.hosts after.hosts steps keyed
    (after.hosts.report, told ∙ sym (ap (λ (x : Hosts). record h.hosts { report = x.report }) told))

ticks_walk : (words : ServeWords) (busy : Bool) (count : ℕ) (before after : Live)
    (h : AreTicked words busy count before after)
    → Walks before.hosts after.hosts (ticks_steps words busy count before after h)
ticks_walk words busy zero before after h =
    walks_nothing before.hosts after.hosts (ap (λ (live : Live). live.hosts) h)
ticks_walk words busy (suc count) before after h =
    walks_on before.hosts h.0.hosts after.hosts (tick_steps words busy before h.0 h.1)
    (ticks_steps words busy count h.0 after h.2) (tick_walks words busy before h.0 h.1)
    (ticks_walk words busy count h.0 after h.2)

read_lined : (words : ServeWords) (ended : Bool) (before after : Live) → LanesReadOn words ended before after
    → AreLined before.hosts after.hosts
read_lined words ended before after r =
    (before.hosts.report ++ map gap_line r.gaps, ap (λ (live : Live). live.hosts) r.is)

hearing_walks : (words : ServeWords) (ended : Bool) (before after : Live) (h : HearsAll words ended before after)
    → Walks before.hosts after.hosts (hearing_steps words ended before after h)
hearing_walks words ended before after h =
    let steps = hearing_steps words ended before after h in
    subst (λ (live : Live). Walks before.hosts live.hosts steps) (sym h.is)
    (lined_walks before.hosts h.read.hosts h.hosts steps (read_lined words ended before h.read h.reads)
    (frames_walk words.monitor h.items h.read.hosts h.hosts h.hears
    (due_frames words.listening ended before.lanes h.read.lanes h.items h.due)))

key_turn_lined : (words : ServeWords) (before after : Live) → IsKeyTurn words before after
    → AreLined before.hosts after.hosts
key_turn_lined words before after t =
    subst (λ (live : Live). AreLined before.hosts live.hosts) (sym t.is)
    (key_turns words.key (octets_sent before) before.keyed t.keyed before.hosts t.hosts t.turn)

-- ticks after what is heard and the turn of the key
making_walk : (words : ServeWords) (ended busy : Bool) (count : ℕ) (before heard keyed after : Live)
    (hears : HearsAll words ended before heard) → IsKeyTurn words heard keyed
    → (ticked : AreTicked words busy count keyed after)
    → Walks before.hosts after.hosts
    (hearing_steps words ended before heard hears ++ ticks_steps words busy count keyed after ticked)
making_walk words ended busy count before heard keyed after hears keys ticked =
    let steps = ticks_steps words busy count keyed after ticked in
    walks_on before.hosts heard.hosts after.hosts (hearing_steps words ended before heard hears) steps
    (hearing_walks words ended before heard hears)
    (lined_walks heard.hosts keyed.hosts after.hosts steps (key_turn_lined words heard keyed keys)
    (ticks_walk words busy count keyed after ticked))

making_walks : (words : ServeWords) (ended : Bool) (before after : Live) (h : MakesAll words ended before after)
    → Walks before.hosts after.hosts (making_steps words ended before after h)
making_walks words ended before after h =
    making_walk words ended h.makes.busy h.count before h.heard h.keyed after h.hears h.keys h.makes.made

-- ---- what hosts send

taken_walks : (other : ℕ) (octets : List ℕ) (before after : Hosts) (h : AreTaken other octets before after)
    → Walks before after (taken_steps other octets before after h)
taken_walks other octets before after (inl gone) = walks_nothing before after gone.1
taken_walks other octets before after (inr (inl waits)) =
    subst (λ x. Walks before x []) (sym waits.2)
    (walks_still before _ refl (λ id. record { appended = refl; there = refl; came = refl; leaves = refl }))
taken_walks other octets before after (inr (inr taken)) =
    steps_walk (FromHost (Bytes other octets)) before after taken.2 taken.2.delivers.made
    (λ id open_still. All-from_recursion (λ n. n ≢ id) taken.2.delivers.out.closed
    (each_other id taken.2.delivers.out.closed open_still)) (λ id new. tt) tt

tried_walk : (items : List Untaken) (before after : Hosts) (h : InOrder IsTried items before after)
    → Walks before after (tried_steps items before after h)
tried_walk [] before after h = walks_nothing before after h
tried_walk (one ∷ items) before after h =
    walks_on before h.0 after (taken_steps one.id one.octets before h.0 h.1) (tried_steps items h.0 after h.2)
    (taken_walks one.id one.octets before h.0 h.1) (tried_walk items h.0 after h.2)

joined_walks : (other : ℕ) (kind : PortKind) (before after : Hosts) (h : HasJoined other kind before after)
    → Walks before after (joined_steps other kind before after h)
joined_walks other kind before after (inl known) = walks_nothing before after known.1
joined_walks other kind before after (inr joined) =
    let w = steps_walk (FromHost (Joined other kind)) (joining other before) after joined.1 joined.1.delivers.made
    (λ id open_still. tt)
    (λ id new same. true≢false (sym (came_now other before) ∙ ap (λ n. was_there n (joining other before)) same ∙ new)) tt in
    record {
      chain = w.chain;
      last = w.last;
      octets = w.octets;
      accounts = λ id earlier account. w.accounts id earlier (account_joining id other earlier before joined.0 account);
    }

gone_walks : (other : ℕ) (before after : Hosts) (h : HasLeft other before after)
    → Walks before after (gone_steps other before after h)
gone_walks other before after (inl gone) = walks_nothing before after gone.1
gone_walks other before after (inr left) =
    walks_on before left.1.between after
    (delivered_step (FromHost (Left other)) (without other before) left.1.between left.1.delivers
    left.1.delivers.made ∷ []) (all_left_steps left.1.between after left.1.leave)
    (left_delivers other before left.1.between left.1.delivers left.1.delivers.made (inl left.0))
    (all_left left.1.between after left.1.leave)

event_walks : (event : HostEvent) (before after : Hosts) (h : IsTaken event before after)
    → Walks before after (event_steps event before after h)
event_walks (Joined id kind) before after h = joined_walks id kind before after h
event_walks (Bytes id octets) before after h = taken_walks id octets before after h
event_walks (Left id) before after h = gone_walks id before after h

events_walk : (events : List HostEvent) (before after : Hosts) (h : InOrder IsTaken events before after)
    → Walks before after (events_steps events before after h)
events_walk [] before after h = walks_nothing before after h
events_walk (event ∷ events) before after h =
    walks_on before h.0 after (event_steps event before h.0 h.1) (events_steps events h.0 after h.2)
    (event_walks event before h.0 h.1) (events_walk events h.0 after h.2)

-- ---- what hosts are sent

takes_walks : (client : Client) (before after : Offering) → Takes client before after → Walks before.hosts after.hosts []
takes_walks client before after h =
    subst (λ x. Walks before.hosts x []) (sym h.rest)
    (walks_still before.hosts _ refl (λ id. record {
      appended = refl;
      there = waiting_names client.id id (after_sending h.took client.waiting) before.hosts.clients;
      came = refl;
      leaves = refl;
    }))

client_walks : (id : ℕ) (client : Option Client) (before after : Offering) → client_of id before.hosts.clients ≡ client
    → (h : IsOfferedTo client before after) → Walks before.hosts after.hosts (client_steps client before after h)
client_walks id None before after is h =
    walks_nothing before.hosts after.hosts (ap (λ (o : Offering). o.hosts) h)
client_walks id (Some client) before after is (inl none) =
    walks_nothing before.hosts after.hosts (ap (λ (o : Offering). o.hosts) none.1)
client_walks id (Some client) before after is (inr (inl takes)) = takes_walks client before after takes.1
client_walks id (Some client) before after is (inr (inr fails)) =
    let w = all_left (cutting client.id before.hosts) after.hosts fails.1.leave in
    let there : is_there client.id before.hosts ≡ true =
    there_client client.id before.hosts.clients client
    (ap (λ n. client_of n before.hosts.clients) (found_id id before.hosts.clients client is) ∙ is) in
    record {
      chain = w.chain;
      last = w.last;
      octets = w.octets;
      accounts = λ other earlier account.
          w.accounts other earlier (account_cutting other client.id earlier before.hosts there account);
    }

offered_walk : (ids : List ℕ) (before after : Offering) (h : InOrder IsOffered ids before after)
    → Walks before.hosts after.hosts (offered_steps ids before after h)
offered_walk [] before after h = walks_nothing before.hosts after.hosts (ap (λ (o : Offering). o.hosts) h)
offered_walk (id ∷ ids) before after h =
    walks_on before.hosts h.0.hosts after.hosts (client_steps (client_of id before.hosts.clients) before h.0 h.1)
    (offered_steps ids h.0 after h.2) (client_walks id (client_of id before.hosts.clients) before h.0 refl h.1)
    (offered_walk ids h.0 after h.2)

sending_walks :
    (before tried taken : Hosts) (events : List HostEvent) (ids : List ℕ) (offered : Offering)
    (tries : InOrder IsTried before.untaken (record before { untaken = [] }) tried)
    (takes : InOrder IsTaken events tried taken)
    (offers : InOrder IsOffered ids (record { hosts = taken; offers = []; failed = [] }) offered)
    → Walks before offered.hosts (sending_steps before tried taken events ids offered tries takes offers)
sending_walks before tried taken events ids offered tries takes offers =
    let first : Offering = record { hosts = taken; offers = []; failed = [] } in
    let w = tried_walk before.untaken (record before { untaken = [] }) tried tries in
    walks_on before tried offered.hosts (tried_steps before.untaken (record before { untaken = [] }) tried tries)
    (events_steps events tried taken takes ++ offered_steps ids first offered offers)
    (record { chain = w.chain; last = w.last; octets = w.octets; accounts = w.accounts })
    (walks_on tried taken offered.hosts (events_steps events tried taken takes)
    (offered_steps ids first offered offers) (events_walk events tried taken takes)
    (offered_walk ids first offered offers))

part_walks : (asked : Asked) (before after : Hosts) (h : IsHostPart asked before after)
    → Walks before after (host_part_steps asked before after h)
part_walks asked before after h =
    let steps = host_part_steps asked before after h in
    let w = sending_walks before h.tried h.taken asked.events (ids_of_clients h.taken.clients) h.offered h.tries h.takes
    h.offers in
    subst (λ x. Walks before x steps) (sym h.done)
    (record { chain = w.chain; last = w.last; octets = w.octets; accounts = w.accounts })

cut_part_walks : (asked : Asked) (before reached : Hosts) (h : IsCutPart asked before reached)
    → Walks before reached (cut_part_steps asked before reached h)
cut_part_walks asked before reached (inl taking) = walks_nothing before reached taking.stays
cut_part_walks asked before reached (inr (inl h)) =
    subst (λ x. Walks before x (cut_part_steps asked before reached (inr (inl h)))) (sym h.reaches)
    (sending_walks before h.tried h.taken asked.events h.first h.offered h.tries h.takes h.offers)
cut_part_walks asked before reached (inr (inr h)) = part_walks asked before reached h

-- ---- turns

turn_walks : (words : ServeWords) (ended : Bool) (before after : Live) (h : IsTurn words ended before after)
    → Walks before.hosts after.hosts (turn_steps words ended before after h)
turn_walks words ended before after h =
    let steps = turn_steps words ended before after h in
    subst (λ (live : Live). Walks before.hosts live.hosts steps) (sym h.serves.is)
    (walks_on before.hosts h.made.hosts h.serves.hosts (making_steps words ended before h.made h.makes)
    (host_part_steps h.serves.asked h.made.hosts h.serves.hosts h.serves.part)
    (making_walks words ended before h.made h.makes)
    (part_walks h.serves.asked h.made.hosts h.serves.hosts h.serves.part))

turns_walk : (words : ServeWords) (count : ℕ) (before after : Live) (h : AreTurns words count before after)
    → Walks before.hosts after.hosts (turns_steps words count before after h)
turns_walk words zero before after h =
    walks_nothing before.hosts after.hosts (ap (λ (live : Live). live.hosts) h)
turns_walk words (suc count) before after h =
    walks_on before.hosts h.0.hosts after.hosts (turn_steps words false before h.0 h.1)
    (turns_steps words count h.0 after h.2) (turn_walks words false before h.0 h.1)
    (turns_walk words count h.0 after h.2)

-- a whole run
pub run_walks : (words : ServeWords) (live : Live) (h : IsRun words live)
    → Walks (new_hosts words.config words.seed) live.hosts (steps_of_run words live h)
run_walks words live h =
    walks_on (new_live words).hosts h.last.hosts live.hosts
    (turns_steps words h.count (new_live words) h.last h.turns) (turn_steps words true h.last live h.over)
    (turns_walk words h.count (new_live words) h.last h.turns) (turn_walks words true h.last live h.over)

cut_walks : (words : ServeWords) (before after : Live) (h : IsCutTurn words before after)
    → Walks before.hosts after.hosts (cut_steps words before after h)
cut_walks words before after (inl reading) =
    walks_nothing before.hosts after.hosts (ap (λ (live : Live). live.hosts) reading.is)
cut_walks words before after (inr (inl h)) =
    let steps = heard_steps words.monitor h.items h.read.hosts h.hosts h.hears in
    subst (λ (live : Live). Walks before.hosts live.hosts steps) (sym h.is)
    (lined_walks before.hosts h.read.hosts h.hosts steps (read_lined words h.ended before h.read h.reads)
    (frames_walk words.monitor h.items h.read.hosts h.hosts h.hears
    (each_first HasFrame h.items h.others
    (due_frames words.listening h.ended before.lanes h.read.lanes (h.items ++ h.others) h.due))))
cut_walks words before after (inr (inr (inl h))) =
    making_walk words h.ended h.makes.busy h.count before h.heard h.keyed after h.hears h.keys h.makes.made
cut_walks words before after (inr (inr (inr h))) = making_walks words h.0 before after h.1

last_walks : (words : ServeWords) (last live : Live) (turns : List Asked) (reached : Hosts)
    (cut : IsCutTurn words last live) (h : AreAskedInTurns words last live turns reached)
    → Walks last.hosts reached (last_steps words last live turns reached cut h)
last_walks words last live turns reached cut (inl whole) =
    subst (λ x. Walks last.hosts x (cut_steps words last live cut)) (sym whole.1) (cut_walks words last live cut)
last_walks words last live turns reached cut (inr h) =
    walks_on last.hosts live.hosts reached (making_steps words h.1.ended last live h.1.makes)
    (cut_part_steps h.0 live.hosts reached h.1.part) (making_walks words h.1.ended last live h.1.makes)
    (cut_part_walks h.0 live.hosts reached h.1.part)

-- a run that is cut short
pub cut_run_walks :
    (words : ServeWords) (live : Live) (turns : List Asked) (reached : Hosts) (h : IsCutRun words live)
    (asked : AreAskedInTurns words h.last live turns reached)
    → Walks (new_hosts words.config words.seed) reached (steps_of_cut_run words live turns reached h asked)
cut_run_walks words live turns reached h asked =
    walks_on (new_live words).hosts h.last.hosts reached (turns_steps words h.count (new_live words) h.last h.turns)
    (last_steps words h.last live turns reached h.cut asked)
    (turns_walk words h.count (new_live words) h.last h.turns)
    (last_walks words h.last live turns reached h.cut asked)
