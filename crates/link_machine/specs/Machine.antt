-- A link as a machine (AX.25 2.2 sections 6.3 and 6.7.1): its state and its variables. Sequence numbers count from 0 in
-- each set-up; only frames carry them modulo the link's modulus.
use Rattle.std.specs.Prelude.{ℕ, ◌+◌, ◌-◌, ◌*◌, ◌/◌, ◌==◌, min, max, Bool, false, ◌&&◌, Some, None, if◌then◌else◌}
use Rattle.ax25_address.specs.FramePath.{repeater_count}
use Rattle.ax25_address.specs.declared.path.Path.{Path}
use Rattle.ax25_frames.specs.declared.frame.Modulus.{Modulus}
use Rattle.ax25_frames.specs.declared.frame.Modulus.TheVariants.{Eight, OneTwentyEight}
use Rattle.selective_reject.specs.Outgoing.{restarted, Outgoing, empty_outgoing, is_named}
use Rattle.selective_reject.specs.Incoming.{Incoming, empty_incoming}
use Rattle.selective_reject.specs.Numbers.{ahead}
use Rattle.link_machine.specs.declared.state.LinkState.{LinkState}
use Rattle.link_machine.specs.declared.state.LinkState.TheVariants.{Idle}
use Rattle.link_machine.specs.declared.control.Control.{Control}
use Rattle.link_machine.specs.declared.params.Params.{Params}
use Rattle.link_machine.specs.Params.{window_in, mode_in, called_modulus}

pub record Machine : Type 0 where
  -- from this side to the other
  pub path : Path
  -- what the link was made with
  pub params : Params
  -- the state, the conditions, the retries and the timers
  pub control : Control
  -- V(A), V(S), one past the highest that was ever sent, the packets given and not acknowledged, and those of their
  -- numbers that SREJ asked for
  pub outgoing : Outgoing
  -- V(R), the packets received before their turn and the numbers asked for, by their distance from V(R); also the
  -- link's modulus, 8 or 128, whether REJ or SREJ asks for what is lost, and k
  pub incoming : Incoming

-- T1, in ticks of 10 ms, after so many retries: that of a path without repeaters, and twice as much more for each
-- repeater, since a frame and its answer each pass it. From the fourth retry on it is as many times that as half the
-- retries.
abbrev pub t1_ticks : ℕ → ℕ → ℕ → ℕ
t1_ticks base hops retries = base * (2 * hops + 1) * max 1 (retries / 2)

-- T1 of a link after so many retries
abbrev pub t1_after : ℕ → Control → ℕ
t1_after retries c = t1_ticks c.t1_base c.hops retries

-- T3
abbrev pub t3_ticks : ℕ
t3_ticks = 30000

-- How many retries a call in modulus 128 has: three, and all but one if the link has no more than three, so that the
-- last goes out in modulus 8.
abbrev pub wide_retries : Control → ℕ
wide_retries c = min 3 (c.most_retries - 1)

-- the most octets of a packet, N1
abbrev pub most_octets : ℕ
most_octets = 256

-- the most packets that wait
abbrev pub most_packets : ℕ
most_packets = 1024

abbrev pub with_control : Control → Machine → Machine
with_control control m = record m { control = control }

-- nothing is to be sent, no poll awaits its answer, and the other side is not busy
abbrev pub nothing_owed : Control → Control
nothing_owed c = record c {
  rej = false;
  answer = false;
  ask = false;
  due = false;
  poll = false;
  by_info = false;
  passed = false;
  picked = false;
  busy = false;
  tm201 = None;
}

-- the most I frames under way that an end takes which has not told it: no window is greater
abbrev pub most_under_way : ℕ
most_under_way = 127

-- The conditions and the timers of a set-up that begins, and T1, N2 and k, which the two ends have yet to agree on. A
-- wish to disconnect stays.
abbrev pub fresh_control : Params → Control → Control
fresh_control params c = record (nothing_owed c) {
  rc = 0;
  t1 = None;
  t3 = Some t3_ticks;
  t1_base = params.t1;
  most_retries = params.retries;
  most_sent = most_under_way;
}

-- nothing is stored or asked for, and V(R) is 0
abbrev pub cleared : Incoming → Incoming
cleared i = empty_incoming i.modulus i.window i.mode

-- The same, and all numbers are 0. The packets given and the modulus stay.
abbrev pub fresh : Machine → Machine
fresh m = record {
  path = m.path;
  params = m.params;
  control = fresh_control m.params m.control;
  outgoing = restarted m.outgoing;
  incoming = cleared m.incoming;
}

-- Numbers are modulo a modulus from here on, with its window, and lost frames are asked for as in that modulus. Nothing
-- is stored or asked for, and V(R) is 0.
abbrev pub in_modulus : ℕ → Machine → Machine
in_modulus modulus m = record m {
  incoming = empty_incoming modulus (window_in modulus m.params) (mode_in modulus m.params);
}

-- a link that is not there has modulus 8
abbrev pub narrowed : Machine → Machine
narrowed = in_modulus 8

-- a link that calls has its own
abbrev pub in_own_modulus : Machine → Machine
in_own_modulus m = in_modulus (called_modulus m.params) m

abbrev pub is_wide : Machine → Bool
is_wide m = m.incoming.modulus == 128

-- a call in modulus 128 that was retried in vain goes on in modulus 8, since a side that does not know SABME may be
-- silent
abbrev pub falls_back : Machine → Bool
falls_back m = is_wide m && m.control.rc == wide_retries m.control

-- a modulus by its name: 8 or 128
abbrev pub modulus_named : ℕ → Modulus
modulus_named modulus = if modulus == 128 then OneTwentyEight else Eight

-- No packet waits, and no disconnect is asked for. The numbers of a store that is emptied are 0.
abbrev pub unquit : Control → Control
unquit c = record c { quit = false }

abbrev pub emptied : Machine → Machine
emptied m = record m { control = unquit m.control; outgoing = empty_outgoing }

abbrev pub in_state : LinkState → Control → Control
in_state state c = record c { state = state }

-- N(R) is valid if it names a number from V(A) to the top, which is not V(S): that goes back
abbrev pub is_valid : ℕ → Machine → Bool
is_valid nr m = is_named m.incoming.modulus nr m.outgoing

-- the number that a valid N(R) names
abbrev pub named : ℕ → Machine → ℕ
named nr m = m.outgoing.va + ahead m.incoming.modulus m.outgoing.va nr

-- how far N(S) lies ahead of V(R), modulo the modulus
abbrev pub ahead_of_vr : ℕ → Machine → ℕ
ahead_of_vr ns m = ahead m.incoming.modulus m.incoming.vr ns

-- a link that is new, on a path of so many repeaters: modulus 8, no numbers, no packets, no timers
abbrev pub idle_control : ℕ → Params → Control
idle_control hops params = record {
  hops = hops;
  t1_base = params.t1;
  most_retries = params.retries;
  most_sent = most_under_way;
  state = Idle;
  rej = false;
  answer = false;
  ask = false;
  due = false;
  poll = false;
  by_info = false;
  passed = false;
  picked = false;
  busy = false;
  quit = false;
  rc = 0;
  t1 = None;
  t3 = None;
  tm201 = None;
  asked = 0;
}

abbrev pub new_machine : Path → Params → Machine
new_machine path params = record {
  path = path;
  params = params;
  control = idle_control (repeater_count path) params;
  outgoing = empty_outgoing;
  incoming = empty_incoming 8 params.window params.mode;
}
