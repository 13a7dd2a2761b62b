-- A tick of 10 ms, and the timers that run out with it (AX.25 2.2 section 6.7.1).
use Rattle.std.specs.Prelude.{ℕ, ◌+◌, ◌-◌, Bool, true, false, nat_le, ◌||◌, if◌then◌else◌, [], ◌∷◌, Option, Some}
use Rattle.std.specs.Prelude.{None}
use Rattle.ax25_frames.specs.declared.frame.U.TheVariants.{Disc}
use Rattle.link_machine.specs.declared.state.LinkState.{LinkState}
use Rattle.link_machine.specs.declared.state.LinkState.TheVariants.{Idle, Calling, Up, Releasing}
use Rattle.link_machine.specs.declared.acts.Told.TheVariants.{Ended}
use Rattle.link_machine.specs.declared.acts.Why.TheVariants.{Failed}
use Rattle.link_machine.specs.declared.control.Control.{Control}
use Rattle.link_machine.specs.Machine.{t1_after, narrowed, falls_back}
use Rattle.link_machine.specs.Wants.{wants}
use Rattle.link_machine.specs.Sent.Sent.{SetupSent}
use Rattle.link_machine.specs.Turn.{Act, changing, setting, sending, telling, nothing, in_order}
use Rattle.link_machine.specs.Acts.{send_call}
use Rattle.link_machine.specs.Frames.{answer_dm, leave, end_call}
use Rattle.link_machine.specs.Negotiation.{ask_xid, asks_xid, tm201_ticked}

-- a tick of a timer with so many ticks left: one that comes to 0 has run out and is off
abbrev pub runs_out : ℕ → Bool
runs_out left = nat_le left 1

abbrev pub lowered : ℕ → Option ℕ
lowered left = if runs_out left then None else Some (left - 1)

abbrev pub with_t1 : Option ℕ → Control → Control
with_t1 timer c = record c { t1 = timer }

abbrev pub with_t3 : Option ℕ → Control → Control
with_t3 timer c = record c { t3 = timer }

-- one retry more
abbrev pub retried : Control → Control
retried c = record c { rc = c.rc + 1; t1 = Some (t1_after (c.rc + 1) c) }

-- the retries are spent if there were as many as the link may make; there are never more
abbrev pub is_spent : Control → Bool
is_spent c = nat_le c.most_retries c.rc

-- a call without an answer goes out once more, if it falls back in modulus 8
abbrev pub fall_back : Act
fall_back = in_order (setting retried ∷ changing narrowed ∷ send_call ∷ [])

abbrev pub call_again : Act
call_again turn =
    if is_spent turn.now.control then end_call Failed turn
    else if falls_back turn.now then fall_back turn
    else in_order (setting retried ∷ send_call ∷ []) turn

-- A side that is up is to be polled: T1 runs again when the poll is sent. The DM that ends a set-up still goes out in
-- its modulus.
abbrev pub to_poll : Control → Control
to_poll c = record c { ask = true; rc = c.rc + 1 }

abbrev pub poll_again : Act
poll_again turn =
    if is_spent turn.now.control then in_order (answer_dm false ∷ leave ∷ telling (Ended Failed) ∷ []) turn
    else setting to_poll turn

abbrev pub release_again : Act
release_again turn =
    if is_spent turn.now.control then end_call Failed turn
    else in_order (setting retried ∷ sending (SetupSent Disc true) ∷ []) turn

-- T1 runs out: what awaits an answer is sent once more
abbrev pub t1_out : LinkState → Act
t1_out Idle = nothing
t1_out Calling = call_again
t1_out Up = poll_again
t1_out Releasing = release_again

-- T3 runs out: a side that was silent is to be polled
abbrev pub silent : Control → Control
silent c = record c { ask = true; rc = 0; t3 = None }

abbrev pub t3_out : LinkState → Act
t3_out Idle = nothing
t3_out Calling = nothing
t3_out Up = setting silent
t3_out Releasing = nothing

-- a tick of T3
abbrev pub tick_t3_of : Option ℕ → Act
tick_t3_of None turn = turn
tick_t3_of (Some left) turn =
    if runs_out left then in_order (setting (with_t3 None) ∷ t3_out turn.now.control.state ∷ []) turn
    else setting (with_t3 (lowered left)) turn

abbrev pub tick_t3 : Act
tick_t3 turn = tick_t3_of turn.now.control.t3 turn

-- a tick of T1, unless it stands still; if it is off, one of T3
abbrev pub tick_t1_of : Option ℕ → Bool → Act
tick_t1_of None still turn = tick_t3 turn
tick_t1_of (Some left) true turn = turn
tick_t1_of (Some left) false turn =
    if runs_out left then in_order (setting (with_t1 None) ∷ t1_out turn.now.control.state ∷ []) turn
    else setting (with_t1 (lowered left)) turn

-- it stands still too while the link wants to send
abbrev pub tick_t1 : Bool → Act
tick_t1 still turn = tick_t1_of turn.now.control.t1 (still || wants turn.now) turn

-- a link that is up perhaps asks by XID; T1 does not count in that tick, since the frame then waits
abbrev pub tick_up : Bool → Act
tick_up still turn =
    if asks_xid still turn.now then ask_xid turn else tick_t1 still (setting (tm201_ticked still) turn)

-- an idle link has no timers
abbrev pub tick_in : LinkState → Bool → Act
tick_in Idle still = nothing
tick_in Calling still = tick_t1 still
tick_in Up still = tick_up still
tick_in Releasing still = tick_t1 still

abbrev pub tick : Bool → Act
tick still turn = tick_in turn.now.control.state still turn
