-- A transmission under way (AX.25 2.2 section 3, ISO/IEC 3309): flags, frames with one flag between neighbours, and
-- flags. It is sent tick by tick, and frames may join it while it runs.
use Rattle.std.specs.Prelude.{ℕ, ◌+◌, ◌-◌, ◌*◌, nat_lt, nat_le, Bool, true, not, ◌&&◌, if◌then◌else◌, ℤ, pos, List, []}
use Rattle.std.specs.Prelude.{◌∷◌, ◌++◌, length, take, drop, replicate, slice_index_or, Option, Some, None}
use Rattle.channel_access.specs.declared.air_tick.Sent.{Sent}
use Rattle.channel_access.specs.declared.modem.Modem.{Modem}
use Rattle.channel_access.specs.Modem.{bits_of_ticks, samples_of_bits, body_by, transmission_by}
use Rattle.channel_access.specs.Waiting.{WaitingFrame}

-- A transmission begins with its opening flags alone. Its first frame is decided where they end, and each other one where
-- the frame before it ends. The frames are those that it has as far as that is decided, in order, and `ends` says that no
-- further one follows. Of these frames the first `named` are sent, each with the flag after it, and so many ticks of the
-- whole are sent.
pub record OnAir : Type 0 where
  pub modem : Modem
  pub opening : ℕ
  pub closing : ℕ
  pub frames : List (List ℕ)
  pub ends : Bool
  pub named : ℕ
  pub ticks : ℕ

-- how many frames one transmission has at most
abbrev pub most_frames : ℕ
most_frames = 8

-- how many bits are sent when the next tick has been sent
abbrev pub bits_then : OnAir → ℕ
bits_then t = bits_of_ticks t.modem (t.ticks + 1)

-- the flags after the last frame: none is decided before it is decided that no further frame follows
abbrev pub flags_after : OnAir → ℕ
flags_after t = if t.ends then t.closing else 0

-- its bits, and its samples, as far as they are decided
unfoldable pub bits_of : OnAir → List Bool
bits_of t = body_by t.modem t.frames t.opening (flags_after t)

unfoldable pub samples_on_air : OnAir → List ℤ
samples_on_air t = transmission_by t.modem t.frames t.opening (flags_after t)

-- how many bits are sent when the last bit of its last frame is sent, or of its opening flags if it has no frame yet
unfoldable pub frames_end : OnAir → ℕ
frames_end t = length (body_by t.modem t.frames t.opening 0)

-- how many are sent when the flag after its first frames, so many of them, is sent
unfoldable pub flag_end : ℕ → OnAir → ℕ
flag_end count t = length (body_by t.modem (take count t.frames) t.opening 1)

-- With so many bits sent, the opening flags and the frames so far are sent, and it is open what follows them.
abbrev pub has_sent_frames : ℕ → OnAir → Bool
has_sent_frames bits t = not t.ends && nat_le (frames_end t) bits

-- What follows the opening flags or the last frame, if these wait then: the first of them, if the transmission has fewer
-- than eight frames, and else the closing flags.
abbrev pub followed_by : List WaitingFrame → OnAir → OnAir
followed_by [] t = record t { ends = true }
followed_by (next ∷ others) t =
    if nat_lt (length t.frames) most_frames then record t { frames = t.frames ++ next.octets ∷ [] }
    else record t { ends = true }

-- those that wait after its frames: a frame of it that is not named yet waits in front of them
abbrev pub waiting_after : OnAir → List WaitingFrame → List WaitingFrame
waiting_after t waiting = drop (length t.frames - t.named) waiting

-- The transmission with what is decided when so many bits are sent.
abbrev pub decided : ℕ → List WaitingFrame → OnAir → OnAir
decided bits waiting t = if has_sent_frames bits t then followed_by (waiting_after t waiting) t else t

-- With so many bits sent, the flag after the first frame that is not named yet is sent.
abbrev pub names_next : ℕ → OnAir → Bool
names_next bits t = nat_lt t.named (length t.frames) && nat_le (flag_end (t.named + 1) t) bits

-- The transmission and the frames that wait, with that frame named as sent: it waits no longer.
abbrev pub with_named : ℕ → OnAir → OnAir
with_named bits t = if names_next bits t then record t { named = t.named + 1 } else t

abbrev pub waiting_with_named : ℕ → OnAir → List WaitingFrame → List WaitingFrame
waiting_with_named bits t waiting = if names_next bits t then drop 1 waiting else waiting

-- That frame, with the samples from the beginning of the tick to the end of the flag after it.
abbrev pub frame_named : ℕ → OnAir → Option Sent
frame_named bits t =
    if names_next bits t
    then Some (record {
      octets = slice_index_or t.frames t.named [];
      after = samples_of_bits t.modem (flag_end (t.named + 1) t - bits_of_ticks t.modem t.ticks);
    })
    else None

-- the samples of the next tick: 96 of the transmission, or what is left of it and then zeros
unfoldable pub tick_samples : OnAir → List ℤ
tick_samples t = take 96 (drop (96 * t.ticks) (samples_on_air t ++ replicate 96 (pos 0)))

-- with the next tick sent, unless all of it is sent then
abbrev pub with_tick : OnAir → Option OnAir
with_tick t = if nat_le (length (bits_of t)) (bits_then t) then None else Some (record t { ticks = t.ticks + 1 })
