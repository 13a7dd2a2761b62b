-- What a carrier detector keeps of the bits. No public clause looks inside: they cite `CarrierStandsFor` alone.
use Rattle.std.specs.Prelude.{◌≡◌, ◌↔◌, ℕ, zero, suc, ◌+◌, ◌-◌, ◌==◌, ◌||◌, ◌<◌, ◌≤◌, min, if◌then◌else◌, Bool, true, false}
use Rattle.std.specs.Prelude.{List, length, take}
use Rattle.hdlc_framer.specs.declared.event.Event.{Event}
use Rattle.hdlc_framer.specs.declared.event.Event.TheVariants.{None as NoEvent, Flag, Abort, Frame}
use Rattle.hdlc_framer.specs.Frames.{EndsFlag}
use Rattle.hdlc_framer.specs.Carrier.{EndsFlags, HoldsCarrier}

-- how many flags in a row it asks for, how many ended with the last flag (no more than it asks for), the bits since
-- that flag (10,000 stands for more, and for no flag at all), and whether a carrier is held
pub record HeldCarrier : Type 0 where
  pub flags : ℕ
  pub in_a_row : ℕ
  pub since_flag : ℕ
  pub held : Bool

abbrev pub new_carrier : ℕ → HeldCarrier
new_carrier flags = record { flags = flags; in_a_row = 0; since_flag = 10000; held = false }

-- one bit more since the last flag
abbrev pub bit_later : HeldCarrier → HeldCarrier
bit_later c =
    record c {
      since_flag = min (c.since_flag + 1) 10000;
      held = if min (c.since_flag + 1) 10000 == 10000 then false else c.held;
    }

-- so many bits more
abbrev pub bits_later : ℕ → HeldCarrier → HeldCarrier
bits_later zero c = c
bits_later (suc count) c = bits_later count (bit_later c)

-- the flags in a row that end with a flag
abbrev pub row_with : HeldCarrier → ℕ
row_with c = if (c.since_flag == 6) || (c.since_flag == 7) then min (c.in_a_row + 1) c.flags else 1

abbrev pub flag_later : HeldCarrier → HeldCarrier
flag_later c = record c { in_a_row = row_with c; since_flag = 0; held = if row_with c == c.flags then true else c.held }

-- the detector after the event of one bit more
abbrev pub next_carrier : HeldCarrier → Event → HeldCarrier
next_carrier c NoEvent = bit_later c
next_carrier c Flag = flag_later c
next_carrier c Abort = record (bit_later c) { held = false }
next_carrier c Frame = flag_later c

-- so many flags in a row end with the last bit, and no more, unless it is as many as are asked for
pub record IsRow (flags row : ℕ) (bits : List Bool) : Type 0 where
  pub some_flag : 1 ≤ row
  pub most : row ≤ flags
  pub ends : EndsFlags row bits
  pub no_more : row < flags → ¬ EndsFlags (suc row) bits

-- the detector has taken the events of these bits
pub record CarrierStandsFor (c : HeldCarrier) (bits : List Bool) : Type 0 where
  pub asked : 1 ≤ c.flags
  pub quiet : (k : ℕ) → k < c.since_flag → ¬ EndsFlag (take (length bits - k) bits)
  pub last : c.since_flag < 10000 → IsRow c.flags c.in_a_row (take (length bits - c.since_flag) bits)
  pub held : (c.held ≡ true) ↔ HoldsCarrier c.flags bits
