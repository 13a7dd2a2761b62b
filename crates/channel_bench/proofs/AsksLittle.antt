-- A link that is not up sends at most one frame by a connect, a disconnect or a tick, and none by a packet, nor if it
-- is asked for one. By a disconnect it asks for nothing.
use Rattle.channel_bench.proofs.Common.{◌≡◌, ℕ, zero, suc, ◌≤◌, Bool, true, false, List, [], ◌∷◌, length, drop, cond}
use Rattle.channel_bench.proofs.Common.{is_some, refl, sym, ap, ◌∙◌, subst, arith, list_any, or_parts, false≢true, ⊤}
use Rattle.channel_bench.proofs.Common.{Kind, Packet, LinkState, Idle, Calling, Up, Releasing, Hear, Machine, SentIn}
use Rattle.channel_bench.proofs.Common.{refusal_of, step, IsDown, RefusesWide, Row, Settles, Stepped, step_is, as_timed}
use Rattle.channel_bench.proofs.Common.{agrees, calls_again, connects, declines, ends_by_disc, ends_by_dm, ends_call}
use Rattle.channel_bench.proofs.Common.{gives_up, is_answered, is_called, is_called_again, narrows, falls_narrow}
use Rattle.channel_bench.proofs.Common.{releases_again}
use Rattle.channel_bench.proofs.Common.{resets, rests, takes, tells_own, withdraws, wishes, abandons, works}
use Rattle.channel_bench.proofs.Common.{goes_on, is_down, releases, is_refused, ◌||◌}
use Rattle.channel_bench.proofs.Common.{makes, LinkStep, AsksInRoom, DropsNoAsk, asks_when_sent}
use Rattle.link_machine.specs.Event.{Event}
use Rattle.link_machine.specs.Event.Event.{Connect, Send, Disconnect, Seize, Tick}
use Rattle.link_machine.specs.Step.{row, settled}
use Rattle.link_machine.specs.Turn.{Turn, begin}
use Rattle.link_steps.proofs.Rows.{Hears, IsAsking, IsDeclined, IsConnect, IsDisconnect, IsT1Tick, IsUa, IsXid}
use Rattle.station_laws.specs.MatchedLaw.{FindsRoom}

-- an event in which a frame may be sent: a connect, a disconnect, or a tick if no frame of the link waits
abbrev MaySend : Event → Type 0
MaySend Connect = ⊤
MaySend (Send packet) = ⊥
MaySend Disconnect = ⊤
MaySend (Hear frame) = ⊥
MaySend (Tick waiting) = waiting ≡ false
MaySend (Seize last full) = ⊥

abbrev IsUnheard : Event → Type 0
IsUnheard Connect = ⊤
IsUnheard (Send packet) = ⊤
IsUnheard Disconnect = ⊤
IsUnheard (Hear frame) = ⊥
IsUnheard (Tick waiting) = ⊤
IsUnheard (Seize last full) = ⊤

-- a disconnect asks for nothing
abbrev AsksNot : Event → SentIn → Type 0
AsksNot event s = IsDisconnect event → asks_when_sent s ≡ false

-- nothing is sent, or one frame, and the link is not up
data Few (event : Event) (t : Turn) : Type 0 where
  sends_not : t.sent ≡ [] → IsDown t.now.control.state → Few event t
  sends_once : (s : SentIn) → t.sent ≡ s ∷ [] → IsDown t.now.control.state → MaySend event → AsksNot event s
      → Few event t

timer_may : (event : Event) → IsT1Tick event → MaySend event
timer_may Connect h = tt
timer_may (Send packet) h = h
timer_may Disconnect h = absurd h
timer_may (Hear frame) h = h
timer_may (Tick waiting) h = h
timer_may (Seize last full) h = h

connect_may : (event : Event) → IsConnect event → MaySend event
connect_may Connect h = tt
connect_may (Send packet) h = h
connect_may Disconnect h = absurd h
connect_may (Hear frame) h = h
connect_may (Tick waiting) h = absurd h
connect_may (Seize last full) h = absurd h

disconnect_may : (event : Event) → IsDisconnect event → MaySend event
disconnect_may Connect h = absurd h
disconnect_may (Send packet) h = h
disconnect_may Disconnect h = tt
disconnect_may (Hear frame) h = h
disconnect_may (Tick waiting) h = absurd h
disconnect_may (Seize last full) h = h

timer_is_no_disconnect : (event : Event) → IsT1Tick event → IsDisconnect event → ⊥
timer_is_no_disconnect Connect h is = h
timer_is_no_disconnect (Send packet) h is = h
timer_is_no_disconnect Disconnect h is = h
timer_is_no_disconnect (Hear frame) h is = h
timer_is_no_disconnect (Tick waiting) h is = is
timer_is_no_disconnect (Seize last full) h is = h

connect_is_no_disconnect : (event : Event) → IsConnect event → IsDisconnect event → ⊥
connect_is_no_disconnect Connect h is = is
connect_is_no_disconnect (Send packet) h is = h
connect_is_no_disconnect Disconnect h is = h
connect_is_no_disconnect (Hear frame) h is = h
connect_is_no_disconnect (Tick waiting) h is = h
connect_is_no_disconnect (Seize last full) h is = h

nothing_heard : (P : Kind → Type 0) (event : Event) → IsUnheard event → Hears P event → ⊥
nothing_heard P Connect asked h = h
nothing_heard P (Send packet) asked h = h
nothing_heard P Disconnect asked h = h
nothing_heard P (Hear frame) asked h = asked
nothing_heard P (Tick waiting) asked h = h
nothing_heard P (Seize last full) asked h = h

row_few :
    (m : Machine) (event : Event) (t : Turn) → IsUnheard event → IsDown m.control.state → Row m event t → Few event t
row_few m event t asked down (rests (as_timed c mode)) = sends_not refl (subst IsDown (sym mode.0) down)
row_few m event t asked down (works up run) = absurd (subst IsDown up down)
row_few m event t asked down (declines flag is heard) = absurd (nothing_heard (IsDeclined m) event asked heard)
row_few m event t asked down (agrees flag is heard) = absurd (nothing_heard IsAsking event asked heard)
row_few m event t asked down (tells_own flag idle heard) = absurd (nothing_heard IsXid event asked heard)
row_few m event t asked down (calls_again (as_timed c mode) calling tick) =
    sends_once _ refl (subst IsDown (sym mode.0) down) (timer_may event tick)
    (λ is. absurd (timer_is_no_disconnect event tick is))
row_few m event t asked down (releases_again (as_timed c mode) releasing tick) =
    sends_once _ refl (subst IsDown (sym mode.0) down) (timer_may event tick)
    (λ is. absurd (timer_is_no_disconnect event tick is))
row_few m event t asked down (ends_call why (as_timed c mode) is) = sends_not refl tt
row_few m event t asked down (ends_by_dm up) = absurd (subst IsDown up down)
row_few m event t asked down (ends_by_disc flag up heard) = absurd (subst IsDown up down)
row_few m event t asked down (gives_up up run told tick) = absurd (subst IsDown up down)
row_few m event t asked down (is_called modulus flag idle known heard) =
    absurd (nothing_heard IsAsking event asked heard)
row_few m event t asked down (is_called_again modulus flag up known heard) = absurd (subst IsDown up down)
row_few m event t asked down (is_answered calling heard) = absurd (nothing_heard IsUa event asked heard)
row_few m event t asked down (falls_narrow (as_timed c mode) calling wide tick) =
    sends_once _ refl (subst IsDown (sym mode.0) down) (timer_may event tick)
    (λ is. absurd (timer_is_no_disconnect event tick is))
row_few m event t asked down (narrows calling wide heard) = absurd (nothing_heard RefusesWide event asked heard)
row_few m event t asked down (resets up wrong) = absurd (subst IsDown up down)
row_few m event t asked down (connects idle connecting) =
    sends_once _ refl tt (connect_may event connecting)
    (λ is. absurd (connect_is_no_disconnect event connecting is))
row_few m event t asked down (takes packet sending short) = sends_not refl down
row_few m event t asked down (withdraws calling wishing) =
    sends_once _ refl tt (disconnect_may event wishing) (λ is. refl)
row_few m event t asked down (wishes wishing) = sends_not refl down
row_few m event t asked down (abandons up wish wishing) = absurd (subst IsDown up down)

-- what is sent in the whole event
data FewSent (event : Event) (u : Turn) : Type 0 where
  of_none : u.sent ≡ [] → FewSent event u
  of_one : (s : SentIn) → u.sent ≡ s ∷ [] → MaySend event → AsksNot event s → FewSent event u

settles_few : (event : Event) (t u : Turn) → Settles t u → Few event t → FewSent event u
settles_few event t u (is_down _) (sends_not sent down) = of_none sent
settles_few event t u (is_down _) (sends_once s sent down may asks) = of_one s sent may asks
settles_few event t u (goes_on up) (sends_not sent down) = absurd (subst IsDown up down)
settles_few event t u (goes_on up) (sends_once s sent down may asks) = absurd (subst IsDown up down)
settles_few event t u (releases up quitting) (sends_not sent down) = absurd (subst IsDown up down)
settles_few event t u (releases up quitting) (sends_once s sent down may asks) = absurd (subst IsDown up down)

step_few : (m : Machine) (event : Event) → IsUnheard event → IsDown m.control.state → FewSent event (step m event)
step_few m event asked down = go (step m event) (step_is m event)
  where
    go : (u : Turn) → Stepped m event u → FewSent event u
    go u is_refused = of_none refl
    go u (makes {t = t} row settles) = settles_few event t u settles (row_few m event t asked down row)

few : (event : Event) (u : Turn) → FewSent event u → length u.sent ≤ 1
few event u (of_none sent) = let size : length u.sent ≡ 0 = ap length sent in omega arith
few event u (of_one s sent may asks) = let size : length u.sent ≡ 1 = ap length sent in omega arith

silent : (event : Event) (u : Turn) → (MaySend event → ⊥) → FewSent event u → u.sent ≡ []
silent event u never (of_none sent) = sent
silent event u never (of_one s sent may asks) = absurd (never may)

pub send_silent : (m : Machine) (packet : Packet) → IsDown m.control.state → (step m (Send packet)).sent ≡ []
send_silent m packet down = silent (Send packet) _ (λ never. never) (step_few m (Send packet) tt down)

pub disconnect_asks_nothing : (m : Machine) → IsDown m.control.state
    → list_any asks_when_sent (step m Disconnect).sent ≡ false
disconnect_asks_nothing m down = go (step_few m Disconnect tt down)
  where
    go : FewSent Disconnect (step m Disconnect) → list_any asks_when_sent (step m Disconnect).sent ≡ false
    go (of_none sent) = ap (list_any asks_when_sent) sent
    go (of_one s sent may asks) = ap (list_any asks_when_sent) sent ∙ ap (λ b. b || false) (asks tt)

pub seize_silent : (m : Machine) (last full : Bool) → IsDown m.control.state → (step m (Seize last full)).sent ≡ []
seize_silent m last full down =
    silent (Seize last full) _ (λ never. never) (step_few m (Seize last full) tt down)

pub connect_few : (m : Machine) → length (step m Connect).sent ≤ 1
unfolding step
connect_few m = go (is_some (refusal_of m Connect))
  where
    go : (b : Bool) → length (cond b (begin m) (settled (row Connect (begin m)))).sent ≤ 1
    go true = omega arith
    go false = let size : length (settled (row Connect (begin m))).sent ≡ 1 = refl in omega arith

-- what a tick sends
pub record TickSends (m : Machine) (waiting : Bool) : Type 0 where
  pub few : length (step m (Tick waiting)).sent ≤ 1
  pub still : waiting ≡ true → (step m (Tick waiting)).sent ≡ []

pub tick_sends : (m : Machine) (waiting : Bool) → IsDown m.control.state → TickSends m waiting
tick_sends m waiting down = record {
  few = few (Tick waiting) _ (step_few m (Tick waiting) tt down);
  still = λ is. silent (Tick waiting) _ (λ may. false≢true (sym may ∙ is)) (step_few m (Tick waiting) tt down);
}

-- ---- an event of a link

any_left : {T : Type 0} (p : T → Bool) (n : ℕ) (xs : List T) → list_any p xs ≡ false → list_any p (drop n xs) ≡ false
any_left p zero xs none = none
any_left p (suc n) [] none = none
any_left p (suc n) (x ∷ xs) none = any_left p n xs (or_parts (p x) (list_any p xs) none).1

-- an event that asks for nothing
pub drops_none :
    (s : LinkStep) → list_any asks_when_sent (step s.link.machine s.event).sent ≡ false → DropsNoAsk s
drops_none s none = any_left asks_when_sent s.joined (step s.link.machine s.event).sent none

pub sends_none : (s : LinkStep) → (step s.link.machine s.event).sent ≡ [] → DropsNoAsk s
sends_none s none = drops_none s (ap (list_any asks_when_sent) none)

pub if_down : (s : LinkStep) → (IsDown s.link.machine.control.state → DropsNoAsk s) → AsksInRoom s
if_down s h = go s.link.machine.control.state h
  where
    go : (state : LinkState) → (IsDown state → DropsNoAsk s) → FindsRoom state s
    go Idle k = k tt
    go Calling k = k tt
    go Up k = tt
    go Releasing k = k tt
