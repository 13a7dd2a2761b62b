-- When an event finds a quiet channel, as its end sees it, and how much the events of a step leave in flight that asks.
use Rattle.station_laws.proofs.Common.{◌≡◌, ℕ, ◌+◌, ◌≤◌, Bool, true, false, not, ◌==◌, List, [], ◌∷◌, ◌++◌, length, map}
use Rattle.station_laws.proofs.Common.{take, drop, Option, Some, None, ◌⊎◌, refl, sym, ap, ◌∙◌, arith, inl, inr, ⊤}
use Rattle.station_laws.proofs.Common.{count_by, list_any, cases_eq, eq-eqb, or_left, or_right, and_right, Path, Kind}
use Rattle.station_laws.proofs.Common.{Info, Super, Setup, Ui, Other, Sabm, Sabme, Disc, Dm, Ua, End, kept, Tagged}
use Rattle.station_laws.proofs.Common.{asks, asks_in, answers_in, is_alone, sends_alone, World, Side, near_turn}
use Rattle.station_laws.proofs.Common.{staying, Pair, is_named, marks_from, event_at_end, LinkStep, DropsNoAsk}
use Rattle.std.proofs.lemmas.Bool.{not_from_false}
use Rattle.std.proofs.lemmas.List.{drop-map}
use Rattle.std.proofs.lemmas.List.FromFn.{length-map-range_with_len}
use Rattle.link_machine.specs.Event.{Event as LinkEvent}
use Rattle.link_machine.specs.Event.Event.{Connect as LinkConnect, Send as LinkSend, Disconnect as LinkDisconnect}
use Rattle.link_machine.specs.Event.Event.{Hear as LinkHear, Seize as LinkSeize, Tick as LinkTick}
use Rattle.link_machine.specs.Step.{step as link_turn}
use Rattle.link_world.specs.Quiet.{called_alone, is_called, is_idle, is_sabm, begins_with_sabm}
use Rattle.station_laws.proofs.Acts.{is_asking, asks_when_sent}
use Rattle.station_laws.proofs.Along.{makes_near, near_by, near_all, FollowsNear}
use Rattle.station_laws.proofs.Counts.{one, count_cons, count_append, count_drop, count_take, count_none, count_map}
use Rattle.station_laws.proofs.Counts.{count_kept}

-- ---- the events of a step

-- the frames that an event sends
abbrev pub sent_near : End → LinkStep → World → List Tagged
sent_near e step w = (near_turn (event_at_end e step.event) (makes_near step.anew w)).sent

-- those that join the queue
abbrev pub joined_near : End → List Pair → ℕ → List LinkStep → World → List Tagged
joined_near e pairs n [] w = []
joined_near e pairs n (step ∷ steps) w =
    take step.joined (sent_near e step w) ++ joined_near e pairs n steps (near_by e pairs n step w)

abbrev pub QuietNear : LinkEvent → End → World → Type 0
QuietNear event e w =
    (sends_alone w (event_at_end e event) ≡ true) × (called_alone w (event_at_end e event) ≡ true)

abbrev pub AllQuietNear : End → List Pair → ℕ → List LinkStep → World → Type 0
AllQuietNear e pairs n [] w = ⊤
AllQuietNear e pairs n (step ∷ steps) w =
    QuietNear step.event e (makes_near step.anew w) × AllQuietNear e pairs n steps (near_by e pairs n step w)

-- ---- of one event

pub made_towards : (anew : Option Path) (w : World) → (makes_near anew w).a.towards ≡ w.a.towards
made_towards None w = refl
made_towards (Some path) w = refl

pub made_far : (anew : Option Path) (w : World) → (makes_near anew w).b ≡ w.b
made_far None w = refl
made_far (Some path) w = refl

-- the other end stays
pub far_end : (e : End) (pairs : List Pair) (n : ℕ) (steps : List LinkStep) (w : World)
    → (near_all e pairs n steps w).b.end ≡ w.b.end
far_end e pairs n [] w = refl
far_end e pairs n (step ∷ steps) w =
    far_end e pairs n steps (near_by e pairs n step w) ∙ ap (λ (x : Side). x.end) (made_far step.anew w)

pub alone : (sent ahead : ℕ) → (sent ≡ 0) ⊎ (sent + ahead ≤ 1) → is_alone sent ahead ≡ true
alone sent ahead (inl none) = or_left (sent == 0) (sent + ahead == 1) (eq-eqb sent 0 none)
alone sent ahead (inr few) = elim (cases_eq sent 0) [
  | inl none ↦ or_left (sent == 0) (sent + ahead == 1) (eq-eqb sent 0 none)
  | inr some ↦ or_right (sent == 0) (sent + ahead == 1) (eq-eqb (sent + ahead) 1 (omega arith))
]

sabm_asks : (kind : Kind) → asks kind ≡ false → is_sabm kind ≡ false
sabm_asks (Info ns nr flag pid octets) none = refl
sabm_asks (Super which nr flag) none = refl
sabm_asks (Setup Sabm flag) none = absurd (cc)
sabm_asks (Setup Sabme flag) none = absurd (cc)
sabm_asks (Setup Disc flag) none = refl
sabm_asks (Setup Dm flag) none = refl
sabm_asks (Setup Ua flag) none = refl
sabm_asks (Ui flag pid octets) none = refl
sabm_asks (Other which flag octets) none = refl

none_in : (b : Bool) (n : ℕ) → one b + n ≡ 0 → b ≡ false
none_in false n is = refl
none_in true n is = absurd (omega arith)

no_sabm : (towards : List Tagged) → asks_in towards ≡ 0 → begins_with_sabm towards ≡ false
no_sabm [] none = refl
no_sabm (f ∷ rest) none =
    sabm_asks f.frame.kind
    (none_in (asks f.frame.kind) (asks_in rest) (sym (count_cons (λ (g : Tagged). asks g.frame.kind) f rest) ∙ none))

not_called :
    (e : End) (event : LinkEvent) (w : World) → asks_in w.a.towards ≡ 0 → is_called (event_at_end e event) w ≡ false
not_called e LinkConnect w none = refl
not_called e (LinkSend packet) w none = refl
not_called e LinkDisconnect w none = refl
not_called e (LinkHear frame) w none =
    and_right (is_idle w.a.end.machine.control.state) (begins_with_sabm w.a.towards) (no_sabm w.a.towards none)
not_called e (LinkTick waiting) w none = refl
not_called e (LinkSeize last full) w none = refl

pub stays_less : (e : End) (event : LinkEvent) (towards : List Tagged)
    → asks_in (staying (event_at_end e event) towards) ≤ asks_in towards
stays_less e LinkConnect towards = omega arith
stays_less e (LinkSend packet) towards = omega arith
stays_less e LinkDisconnect towards = omega arith
stays_less e (LinkHear frame) towards = count_drop is_asking 1 towards
stays_less e (LinkTick waiting) towards = omega arith
stays_less e (LinkSeize last full) towards = omega arith

-- what a step sends beyond what joins does not ask
lost_none :
    (e : End) (back : List Tagged) (step : LinkStep) (w : World) → FollowsNear e back step (makes_near step.anew w)
    → DropsNoAsk step → asks_in (sent_near e step w) ≡ asks_in (take step.joined (sent_near e step w))
lost_none e back step w follows drops =
    let sent = sent_near e step w in
    let same : map is_asking (drop step.joined sent) ≡ map asks_when_sent
    (drop step.joined (link_turn step.link.machine step.event).sent) =
    sym (drop-map is_asking step.joined sent) ∙ ap (drop step.joined) follows.asking
    ∙ drop-map asks_when_sent step.joined (link_turn step.link.machine step.event).sent in
    let none : asks_in (drop step.joined sent) ≡ 0 =
    sym (count_map is_asking (drop step.joined sent)) ∙ ap (count_by (λ (b : Bool). b)) same
    ∙ count_map asks_when_sent (drop step.joined (link_turn step.link.machine step.event).sent)
    ∙ count_none asks_when_sent (drop step.joined (link_turn step.link.machine step.event).sent) drops in
    let both = count_take is_asking step.joined sent in
    omega arith

pub marks_size : (pairs : List Pair) (first count : ℕ) → length (marks_from pairs first count) ≡ count
marks_size pairs first count = length-map-range_with_len (λ k. is_named pairs (first + k)) 0 count

-- what is in flight from it after an event
pub towards_by :
    (e : End) (pairs : List Pair) (n : ℕ) (step : LinkStep) (w : World)
    → asks_in (near_by e pairs n step w).b.towards ≤ asks_in w.b.towards + asks_in
    (take step.joined (sent_near e step w))
towards_by e pairs n step w =
    let sent = sent_near e step w in
    let ms = marks_from pairs (n + step.first) step.joined in
    let before : asks_in (makes_near step.anew w).b.towards ≡ asks_in w.b.towards =
    ap (λ (x : Side). asks_in x.towards) (made_far step.anew w) in
    let more = count_append is_asking (makes_near step.anew w).b.towards (kept ms sent) in
    let less = count_kept is_asking ms sent in
    let size : asks_in (take (length ms) sent) ≡ asks_in (take step.joined sent) =
    ap (λ k. asks_in (take k sent)) (marks_size pairs (n + step.first) step.joined) in
    omega arith

-- and back to it
pub back_by :
    (e : End) (pairs : List Pair) (n : ℕ) (step : LinkStep) (w : World)
    → asks_in (near_by e pairs n step w).a.towards ≤ asks_in w.a.towards
back_by e pairs n step w =
    let less = stays_less e step.event (makes_near step.anew w).a.towards in
    let same : asks_in (makes_near step.anew w).a.towards ≡ asks_in w.a.towards =
    ap asks_in (made_towards step.anew w) in
    omega arith

-- ---- of all

-- at most one asks, and then nothing of the kind is in flight
abbrev pub SendsAlone : ℕ → World → List Tagged → Type 0
SendsAlone sent w back = (sent ≡ 0) ⊎ ((sent + asks_in w.b.towards ≤ 1) × (answers_in back ≡ 0))

-- none that asks is in flight to it, so it is not called
pub uncalled :
    (e : End) (event : LinkEvent) (w : World) → asks_in w.a.towards ≡ 0 → called_alone w (event_at_end e event) ≡ true
uncalled e event w none =
    let called = is_called (event_at_end e event) w in
    or_left (not called) (asks_in w.b.towards == 0) (not_from_false called (not_called e event w none))

pub one_quiet :
    (e : End) (back : List Tagged) (step : LinkStep) (w : World) (total : ℕ)
    → FollowsNear e back step (makes_near step.anew w) → DropsNoAsk step
    → asks_in (take step.joined (sent_near e step w)) ≤ total → SendsAlone total w back → asks_in w.a.towards ≡ 0
    → QuietNear step.event e (makes_near step.anew w)
one_quiet e back step w total follows drops within sends none =
    let v = makes_near step.anew w in
    let event = event_at_end e step.event in
    let sent : asks_in (sent_near e step w) ≡ asks_in (take step.joined (sent_near e step w)) =
    lost_none e back step w follows drops in
    let ahead : asks_in v.b.towards ≡ asks_in w.b.towards =
    ap (λ (x : Side). asks_in x.towards) (made_far step.anew w) in
    let answers : answers_in (staying event v.a.towards) ≡ answers_in back = ap answers_in follows.stays in (
      alone (asks_in (sent_near e step w)) (asks_in v.b.towards + answers_in (staying event v.a.towards)) (elim sends [
        | inl zero ↦ inl (omega arith)
        | inr few ↦ let a = few.0 in let b = few.1 in inr (omega arith)
      ]),
      uncalled e step.event v (ap asks_in (made_towards step.anew w) ∙ none),
    )

-- what the events leave in flight back to it
pub back_all :
    (e : End) (pairs : List Pair) (n : ℕ) (steps : List LinkStep) (w : World)
    → asks_in (near_all e pairs n steps w).a.towards ≤ asks_in w.a.towards
back_all e pairs n [] w = omega arith
back_all e pairs n (step ∷ steps) w =
    let next = near_by e pairs n step w in
    let one = back_by e pairs n step w in
    let others = back_all e pairs n steps next in
    omega arith

-- ---- of an end that never asks

abbrev pub SendsNoAsk : LinkStep → Type 0
SendsNoAsk step = list_any asks_when_sent (link_turn step.link.machine step.event).sent ≡ false

pub sends_none :
    (e : End) (back : List Tagged) (step : LinkStep) (w : World) → FollowsNear e back step (makes_near step.anew w)
    → SendsNoAsk step → asks_in (sent_near e step w) ≡ 0
sends_none e back step w follows none =
    sym (count_map is_asking (sent_near e step w)) ∙ ap (count_by (λ (b : Bool). b)) follows.asking
    ∙ count_map asks_when_sent (link_turn step.link.machine step.event).sent
    ∙ count_none asks_when_sent (link_turn step.link.machine step.event).sent none
