-- A tick of an end that is calling or releasing changes its timers, and perhaps sends its SABM or DISC once more.
use Rattle.link_world.proofs.Common.{◌≡◌, ℕ, Bool, true, false, if◌then◌else◌, Option, Some, None, refl, sym, subst}
use Rattle.link_world.proofs.Common.{List, [], Control, LinkState, Machine, Turn, begin, runs_out, lowered, with_t1}
use Rattle.link_world.proofs.Common.{with_t3, t1_out, t3_out, tick_t1_of, tick_t3_of, Packet, ◌||◌}
use Rattle.link_machine.specs.declared.state.LinkState.TheVariants.{Idle as IdleState, Calling as CallingState}
use Rattle.link_machine.specs.declared.state.LinkState.TheVariants.{Up as UpState, Releasing as ReleasingState}
use Rattle.link_machine.specs.Ticks.{tick_t1}
use Rattle.link_machine.specs.Wants.{wants}
use Rattle.link_world.proofs.law.down.Ends.{IsDown, goes_on}

t3_quiet : (state : LinkState) (packets : List Packet) (turn : Turn) → IsDown state packets → t3_out state turn ≡ turn
t3_quiet IdleState packets turn down = refl
t3_quiet CallingState packets turn down = refl
t3_quiet UpState packets turn down = absurd down
t3_quiet ReleasingState packets turn down = refl

-- What holds whatever the conditions and timers are, and also if T1 runs out, holds after a tick.
pub ticks_down :
    (P : Turn → Type 0) (m : Machine) (state : LinkState) → IsDown state m.outgoing.packets
    → ((c : Control) → c.state ≡ state → P (goes_on m c []))
    → ((c : Control) → c.state ≡ state → P (t1_out state (goes_on m c [])))
    → (still : Bool) → m.control.state ≡ state → P (tick_t1 still (begin m))
ticks_down P m state down stay again still is =
    t1 m.control.t1 (still || wants m) m.control is
  where
    quiet : (c : Control) → c.state ≡ state → IsDown c.state m.outgoing.packets
    quiet c same = subst (λ s. IsDown s m.outgoing.packets) (sym same) down

    out3 : (b : Bool) (left : ℕ) (c : Control) → c.state ≡ state
        → P (if b then t3_out c.state (goes_on m (with_t3 None c) []) else goes_on m (with_t3 (lowered left) c) [])
    out3 true left c same =
        subst P (sym (t3_quiet c.state m.outgoing.packets (goes_on m (with_t3 None c) []) (quiet c same)))
        (stay (with_t3 None c) same)
    out3 false left c same = stay (with_t3 (lowered left) c) same

    t3 : (o : Option ℕ) (c : Control) → c.state ≡ state → P (tick_t3_of o (goes_on m c []))
    t3 None c same = stay c same
    t3 (Some left) c same = out3 (runs_out left) left c same

    out1 : (b : Bool) (left : ℕ) (c : Control) → c.state ≡ state
        → P (if b then t1_out c.state (goes_on m (with_t1 None c) []) else goes_on m (with_t1 (lowered left) c) [])
    out1 true left c same =
        subst (λ s. P (t1_out s (goes_on m (with_t1 None c) []))) (sym same) (again (with_t1 None c) same)
    out1 false left c same = stay (with_t1 (lowered left) c) same

    t1 : (o : Option ℕ) (waits : Bool) (c : Control) → c.state ≡ state → P (tick_t1_of o waits (goes_on m c []))
    t1 None waits c same = t3 c.t3 c same
    t1 (Some left) true c same = stay c same
    t1 (Some left) false c same = out1 (runs_out left) left c same
