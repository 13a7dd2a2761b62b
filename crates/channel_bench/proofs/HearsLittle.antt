-- A link that is not up sends no SABM, SABME or DISC when it hears a frame, if it does not wish to disconnect
-- while it is idle or calls. A call modulo 128 that is refused sends SABM alone.
use Rattle.channel_bench.proofs.Common.{◌≡◌, Bool, false, refl, sym, subst, ⊤, list_any, length, Frame, LinkState, Idle}
use Rattle.channel_bench.proofs.Common.{Calling, Up, Releasing, Hear, Machine, step, IsDown, Row, Settles}
use Rattle.channel_bench.proofs.Common.{Stepped, step_is, as_timed, agrees, calls_again, connects, declines}
use Rattle.channel_bench.proofs.Common.{ends_by_disc, ends_by_dm, ends_call, gives_up, is_answered, is_called}
use Rattle.channel_bench.proofs.Common.{is_called_again, narrows, falls_narrow, releases_again, resets, rests, takes}
use Rattle.channel_bench.proofs.Common.{tells_own, withdraws, wishes, abandons, works}
use Rattle.channel_bench.proofs.Common.{goes_on, is_down, releases, is_refused, makes, asks_when_sent, StandsAsked}
use Rattle.link_machine.specs.Turn.{Turn}
use Rattle.channel_bench.proofs.WideCalls.{IsWideCall}
use Rattle.station_laws.proofs.Calm.{CalmTurn, settles_calm}

-- an idle link, and one that calls, does not wish to disconnect
abbrev pub WishesNothing : LinkState → Bool → Type 0
WishesNothing Idle quit = quit ≡ false
WishesNothing Calling quit = quit ≡ false
WishesNothing Up quit = ⊤
WishesNothing Releasing quit = ⊤

pub asked_wishes : (asked : Bool) (state : LinkState) (quit : Bool) → StandsAsked asked state quit
    → WishesNothing state quit
asked_wishes asked Idle quit h = h
asked_wishes asked Calling quit h = h
asked_wishes asked Up quit h = tt
asked_wishes asked Releasing quit h = tt

-- Nothing that is sent asks, now and when the event ends, or a call modulo 128 was refused and goes on modulo 8.
data Quiet (m : Machine) (t : Turn) : Type 0 where
  stays : IsDown t.now.control.state → list_any asks_when_sent t.sent ≡ false → Quiet m t
  opens : CalmTurn t → Quiet m t
  refused : IsWideCall m → IsDown t.now.control.state → length t.sent ≡ 1 → Quiet m t

-- what is sent in the whole event: nothing that asks, or one frame, by a call modulo 128
pub data Asks (m : Machine) (u : Turn) : Type 0 where
  asks_nothing : list_any asks_when_sent u.sent ≡ false → Asks m u
  sends_one : IsWideCall m → length u.sent ≡ 1 → Asks m u

quiet_settles : (m : Machine) (t u : Turn) → Settles t u → Quiet m t → Asks m u
quiet_settles m t u settles (opens calm) = asks_nothing (settles_calm t u settles calm).asked
quiet_settles m t u (is_down _) (stays down asks) = asks_nothing asks
quiet_settles m t u (goes_on up) (stays down asks) = absurd (subst IsDown up down)
quiet_settles m t u (releases up quitting) (stays down asks) = absurd (subst IsDown up down)
quiet_settles m t u (is_down _) (refused wide down sent) = sends_one wide sent
quiet_settles m t u (goes_on up) (refused wide down sent) = absurd (subst IsDown up down)
quiet_settles m t u (releases up quitting) (refused wide down sent) = absurd (subst IsDown up down)

wishes_in : (state : LinkState) (m : Machine) → m.control.state ≡ state → WishesNothing m.control.state m.control.quit
    → WishesNothing state m.control.quit
wishes_in state m is h = subst (λ s. WishesNothing s m.control.quit) is h

row_quiet :
    (m : Machine) (frame : Frame) (t : Turn) → IsDown m.control.state → WishesNothing m.control.state m.control.quit
    → Row m (Hear frame) t → Quiet m t
row_quiet m frame t down calm (rests (as_timed c mode)) = stays (subst IsDown (sym mode.0) down) refl
row_quiet m frame t down calm (works up run) = absurd (subst IsDown up down)
row_quiet m frame t down calm (declines flag is heard) = stays down refl
row_quiet m frame t down calm (agrees flag is heard) = stays down refl
row_quiet m frame t down calm (tells_own flag idle heard) = stays down refl
row_quiet m frame t down calm (calls_again run calling tick) = absurd tick
row_quiet m frame t down calm (releases_again run releasing tick) = absurd tick
row_quiet m frame t down calm (ends_call why (as_timed c mode) is) = stays tt refl
row_quiet m frame t down calm (ends_by_dm up) = absurd (subst IsDown up down)
row_quiet m frame t down calm (ends_by_disc flag up heard) = absurd (subst IsDown up down)
row_quiet m frame t down calm (gives_up up run told tick) = absurd tick
row_quiet m frame t down calm (is_called modulus flag idle known heard) =
    opens (record { control = record { state = tt; quit = refl }; asked = refl })
row_quiet m frame t down calm (is_called_again modulus flag up known heard) =
    absurd (subst IsDown up down)
row_quiet m frame t down calm (is_answered calling heard) =
    opens (record { control = record { state = tt; quit = wishes_in Calling m calling calm }; asked = refl })
row_quiet m frame t down calm (falls_narrow run calling wide tick) = absurd tick
row_quiet m frame t down calm (narrows calling wide heard) =
    refused (record { state = calling; wide = wide }) (subst IsDown (sym calling) tt) refl
row_quiet m frame t down calm (resets up wrong) = absurd (subst IsDown up down)
row_quiet m frame t down calm (connects idle connecting) = absurd connecting
row_quiet m frame t down calm (takes packet sending short) = absurd sending
row_quiet m frame t down calm (withdraws calling wishing) = absurd wishing
row_quiet m frame t down calm (wishes wishing) = absurd wishing
row_quiet m frame t down calm (abandons up wish wishing) = absurd wishing

-- so a frame makes it ask for nothing, or send one frame
pub hear_asks :
    (m : Machine) (frame : Frame) → IsDown m.control.state → WishesNothing m.control.state m.control.quit
    → Asks m (step m (Hear frame))
hear_asks m frame down calm = go (step m (Hear frame)) (step_is m (Hear frame))
  where
    go : (u : Turn) → Stepped m (Hear frame) u → Asks m u
    go u is_refused = asks_nothing refl
    go u (makes {t = t} row settles) = quiet_settles m t u settles (row_quiet m frame t down calm row)
