-- A link is told to be open only while no set-up of it runs.
use Rattle.station_laws.proofs.Common.{◌≡◌, Bool, true, false, List, [], ◌∷◌, ◌++◌, map, refl, sym, ◌∙◌, subst, ⊤}
use Rattle.station_laws.proofs.Common.{Failed, inl, inr, Packet, Told, Opened, Given, Ended, LinkState, Idle, Calling}
use Rattle.station_laws.proofs.Common.{Up, Releasing, Event, Machine, step, begin, RunsIn, Row, Settles, Stepped}
use Rattle.station_laws.proofs.Common.{step_is, is_refused, as_timed, agrees, calls_again, connects, declines}
use Rattle.station_laws.proofs.Common.{ends_by_disc, ends_by_dm, ends_call, gives_up, is_answered, is_called}
use Rattle.station_laws.proofs.Common.{is_called_again, narrows, falls_narrow, releases_again, resets, rests, takes}
use Rattle.station_laws.proofs.Common.{tells_own, withdraws, wishes, abandons, works}
use Rattle.station_laws.proofs.Common.{goes_on, is_down, releases}
use Rattle.link_machine.specs.Turn.{Turn}
use Rattle.link_steps.proofs.Rows.Stepped.{makes}
use Rattle.station_laws.proofs.LinkTells.{Gives, traffic_gives}

abbrev pub OpensApart : Bool → List Told → Type 0
OpensApart runs [] = ⊤
OpensApart runs (Opened ours ∷ told) = (runs ≡ false) × OpensApart true told
OpensApart runs (Given packet ∷ told) = OpensApart runs told
OpensApart runs (Ended why ∷ told) = OpensApart false told

-- no set-up runs in these states
runs_not : (runs : Bool) (state : LinkState) → RunsIn runs state → (state ≡ Up → ⊥) → (state ≡ Releasing → ⊥)
    → runs ≡ false
runs_not false state h up releasing = refl
runs_not true state h up releasing = elim (h.only refl) [ inl is ↦ absurd (up is) | inr is ↦ absurd (releasing is) ]

pub idle_runs_not : (runs : Bool) (state : LinkState) → RunsIn runs state → state ≡ Idle → runs ≡ false
idle_runs_not runs state h is =
    runs_not runs state h (λ up. let e : Idle ≡ Up = sym is ∙ up in cc)
    (λ releasing. let e : Idle ≡ Releasing = sym is ∙ releasing in cc)

calling_runs_not : (runs : Bool) (state : LinkState) → RunsIn runs state → state ≡ Calling → runs ≡ false
calling_runs_not runs state h is =
    runs_not runs state h (λ up. let e : Calling ≡ Up = sym is ∙ up in cc)
    (λ releasing. let e : Calling ≡ Releasing = sym is ∙ releasing in cc)

given_apart : (runs : Bool) (packets : List Packet) → OpensApart runs (map Given packets)
given_apart runs [] = tt
given_apart runs (packet ∷ packets) = given_apart runs packets

gives_apart : (runs : Bool) (m : Machine) (t : Turn) → Gives (begin m) t → OpensApart runs t.told
gives_apart runs m t h = subst (OpensApart runs) (sym h.told) (given_apart runs h.packets)

row_apart : (m : Machine) (event : Event) (t : Turn) (runs : Bool) → RunsIn runs m.control.state → Row m event t
    → OpensApart runs t.told
row_apart m event t runs h (rests (as_timed c mode)) = tt
row_apart m event t runs h (works up run) = gives_apart runs m t (traffic_gives run)
row_apart m event t runs h (declines flag down heard) = tt
row_apart m event t runs h (agrees flag down heard) = tt
row_apart m event t runs h (tells_own flag idle heard) = tt
row_apart m event t runs h (calls_again (as_timed c mode) calling tick) = tt
row_apart m event t runs h (releases_again (as_timed c mode) releasing tick) = tt
row_apart m event t runs h (ends_call why (as_timed c mode) down) = tt
row_apart m event t runs h (ends_by_dm up) = tt
row_apart m event t runs h (ends_by_disc flag up heard) = tt
row_apart m event t runs h (gives_up {t = u} up run told tick) =
    subst (λ told. OpensApart runs (told ++ Ended Failed ∷ [])) (sym told) tt
row_apart m event t runs h (is_called modulus flag idle known heard) =
    (idle_runs_not runs m.control.state h idle, tt)
row_apart m event t runs h (is_called_again modulus flag up known heard) = (refl, tt)
row_apart m event t runs h (is_answered calling heard) = (calling_runs_not runs m.control.state h calling, tt)
row_apart m event t runs h (falls_narrow (as_timed c mode) calling wide tick) = tt
row_apart m event t runs h (narrows calling wide heard) = tt
row_apart m event t runs h (resets up wrong) = tt
row_apart m event t runs h (connects idle connecting) = tt
row_apart m event t runs h (takes packet sending short) = tt
row_apart m event t runs h (withdraws calling wishing) = tt
row_apart m event t runs h (wishes wishing) = tt
row_apart m event t runs h (abandons up wish wishing) = tt

settled_told : (t u : Turn) → Settles t u → u.told ≡ t.told
settled_told t u (is_down down) = refl
settled_told t u (goes_on up) = refl
settled_told t u (releases up quits) = refl

stepped_apart : (m : Machine) (event : Event) (u : Turn) (runs : Bool) → RunsIn runs m.control.state
    → Stepped m event u → OpensApart runs u.told
stepped_apart m event u runs h is_refused = tt
stepped_apart m event u runs h (makes {t = t} row settles) =
    subst (OpensApart runs) (sym (settled_told t u settles)) (row_apart m event t runs h row)

pub opens_apart : (m : Machine) (event : Event) (runs : Bool) → RunsIn runs m.control.state
    → OpensApart runs (step m event).told
opens_apart m event runs h = stepped_apart m event (step m event) runs h (step_is m event)
