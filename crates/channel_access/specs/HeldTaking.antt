-- Whether the channel takes a frame of a link in the next tick, as what is kept tells it. No public clause cites it.
use Rattle.std.specs.Prelude.{ℕ, nat_lt, nat_le, Bool, false, not, ◌&&◌, ◌+◌, ◌==◌, List, [], ◌∷◌, length, drop, Option, Some, None}
use Rattle.std.specs.List.{list_any}
use Rattle.channel_access.specs.declared.sending.Sending.{Sending}
use Rattle.channel_access.specs.declared.stage.Stage.{Stage}
use Rattle.channel_access.specs.declared.stage.Stage.TheVariants.{Opening, Frame, Following, Closing, Over}
use Rattle.channel_access.specs.declared.modem.Modem.{Modem}
use Rattle.channel_access.specs.Modem.{tick_bits}
use Rattle.channel_access.specs.HeldWave.{modem_of}
use Rattle.channel_access.specs.Channel.{is_of_link}
use Rattle.channel_access.specs.OnAir.{most_frames}
use Rattle.channel_access.specs.StandsFor.{frame_rest}
use Rattle.channel_access.specs.Waiting.{WaitingFrame}

-- with the bits of a tick the opening flags or the front frame end
abbrev pub ends_in_tick : Modem → Stage → List WaitingFrame → Bool
ends_in_tick modem (Opening left) waiting = nat_le left (tick_bits modem)
ends_in_tick modem (Frame f) [] = false
ends_in_tick modem (Frame f) (front ∷ others) = nat_le (length (frame_rest f front.octets)) (tick_bits modem)
ends_in_tick modem (Following left another) waiting = false
ends_in_tick modem (Closing left) waiting = false
ends_in_tick modem Over waiting = false

-- how many of the frames that wait are on the air
abbrev pub on_air_in : Stage → ℕ
on_air_in (Opening left) = 0
on_air_in (Frame f) = 1
on_air_in (Following left another) = 1
on_air_in (Closing left) = 0
on_air_in Over = 0

abbrev pub sender_takes : Sending → List WaitingFrame → Bool
sender_takes s waiting =
    ends_in_tick (modem_of s.wave) s.stage waiting && nat_lt s.frames most_frames
    && not (list_any is_of_link (drop (on_air_in s.stage) waiting))

abbrev pub held_takes : Option Sending → List WaitingFrame → Bool
held_takes None waiting = false
held_takes (Some s) waiting = sender_takes s waiting

-- the eighth frame follows
abbrev pub held_takes_last : Option Sending → Bool
held_takes_last None = false
held_takes_last (Some s) = s.frames + 1 == most_frames
