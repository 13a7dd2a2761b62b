-- What a host sets of the channel access (the KISS TNC protocol, Chepponis and Karn, commands 1 to 5). Times are in
-- units of 10 ms, which is a tick.
use Rattle.std.specs.Prelude.{ℕ, ◌+◌, ◌*◌, ◌/◌, max, false}
use Rattle.channel_access.specs.declared.modem.Modem.{Modem}
use Rattle.channel_access.specs.declared.modem.Modem.TheVariants.{Bell202, ShortWave, Fx25}
use Rattle.channel_access.specs.declared.parameters.Param.{Param}
use Rattle.channel_access.specs.declared.parameters.Param.TheVariants.{TxDelay, Persist, SlotTime, TxTail, FullDuplex}
use Rattle.channel_access.specs.declared.parameters.Parameters.{Parameters}

-- before anything is set
abbrev pub default_parameters : Parameters
default_parameters = record { tx_delay = 30; persist = 63; slot_time = 10; tx_tail = 2; full_duplex = false }

-- one of them set, the others as they were
abbrev pub with_param : Param → Parameters → Parameters
with_param (TxDelay ticks) parameters = record parameters { tx_delay = ticks }
with_param (Persist most) parameters = record parameters { persist = most }
with_param (SlotTime ticks) parameters = record parameters { slot_time = ticks }
with_param (TxTail ticks) parameters = record parameters { tx_tail = ticks }
with_param (FullDuplex on) parameters = record parameters { full_duplex = on }

-- The flags of a time. At 1200 bits a second three fit in two ticks: as many as fit. At 300 bits a second a tick has 3
-- bits, and a flag is 8: as many as fill the time.
abbrev pub flags_in : Modem → ℕ → ℕ
flags_in Bell202 ticks = 3 * ticks / 2
flags_in ShortWave ticks = (3 * ticks + 7) / 8
flags_in (Fx25 checks) ticks = 3 * ticks / 2

-- the flags that open a transmission: those of TXDELAY, and at least two
abbrev pub opening_flags : Modem → ℕ → ℕ
opening_flags modem tx_delay = max 2 (flags_in modem tx_delay)

-- the flags that close one: those of TXtail, and at least one
abbrev pub closing_flags : Modem → ℕ → ℕ
closing_flags modem tx_tail = max 1 (flags_in modem tx_tail)
