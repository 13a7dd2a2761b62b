-- What the code keeps of a transmission under way, bit by bit. No public clause cites it.
use Rattle.std.specs.Prelude.{ℕ, zero, suc, ◌+◌, ◌-◌, ◌*◌, ◌/◌, ◌%◌, nat_lt, nat_le, Bool, true, false, ◌&&◌}
use Rattle.std.specs.Prelude.{if◌then◌else◌, ℤ, pos, List, [], ◌∷◌, ◌++◌, length, take, drop, replicate, slice_index_or}
use Rattle.std.specs.Prelude.{Option, Some, None, option_map}
use Rattle.std.specs.Int.{w64, to_le_bytes}
use Rattle.rand_pcg.specs.Lcg.{Lcg}
use Rattle.tone_table.specs.declared.tone.Tone.TheVariants.{Mark}
use Rattle.nrzi_bits.specs.Line.{sent_tone}
use Rattle.hdlc_framer.specs.BitOrder.{sent_bits}
use Rattle.hdlc_framer.specs.CheckSequence.{fcs_of}
use Rattle.channel_access.specs.declared.air_tick.Sent.{Sent}
use Rattle.fx25_blocks.specs.Blocks.{bits_needed}
use Rattle.fx25_blocks.specs.Tags.{block_length, tag_value}
use Rattle.fx25_sender.specs.Units.{last_tag, block_octets}
use Rattle.channel_access.specs.declared.block_bits.BlockBits.{BlockBits}
use Rattle.channel_access.specs.declared.frame_bits.FrameBits.{FrameBits}
use Rattle.channel_access.specs.declared.frame_bits.FrameBits.TheVariants.{Stuffed, Block}
use Rattle.channel_access.specs.declared.stuffed_bits.StuffedBits.{StuffedBits}
use Rattle.channel_access.specs.declared.listening.Listening.{Listening}
use Rattle.channel_access.specs.declared.stage.Stage.{Stage}
use Rattle.channel_access.specs.declared.stage.Stage.TheVariants.{Opening, Frame, Following, Closing, Over}
use Rattle.channel_access.specs.declared.sending.Sending.{Sending}
use Rattle.channel_access.specs.declared.modem.Modem.{Modem}
use Rattle.channel_access.specs.declared.parameters.Parameters.{Parameters}
use Rattle.channel_access.specs.declared.parameters.Param.{Param}
use Rattle.channel_access.specs.Parameters.{default_parameters, with_param, opening_flags, closing_flags}
use Rattle.channel_access.specs.Words.{generator_of, draw_stream}
use Rattle.channel_access.specs.declared.modem.Modem.TheVariants.{Bell202, ShortWave, Fx25}
use Rattle.channel_access.specs.Modem.{count_of, samples_of_bits}
use Rattle.channel_access.specs.HeldWave.{modem_of, wave_start, wave_window, after_tone}
use Rattle.channel_access.specs.HeldTurns.{listening_of}
use Rattle.channel_access.specs.Happenings.{Happening}
use Rattle.channel_access.specs.Waiting.{WaitingFrame}
use Rattle.channel_access.specs.OnAir.{most_frames}

-- ---- the bits of one frame, plainly

-- octets and their check sequence, the low octet first
abbrev pub checked : List ℕ → ℕ → List ℕ
checked octets check = octets ++ (check % 256) ∷ (check / 256) ∷ []

-- their bits in sending order, without inserted zeros
unfoldable pub bits_in : List ℕ → ℕ → List Bool
bits_in octets check = sent_bits (checked octets check)

-- how many they are
abbrev pub bit_count : List ℕ → ℕ
bit_count octets = 8 * (length octets + 2)

-- at the first bit of a frame
abbrev pub stuffed_start : List ℕ → StuffedBits
stuffed_start octets = record { place = 0; ones = 0; check = fcs_of octets }

-- the next bit, and where the frame stands after it: a zero is inserted after five 1s, and else the bit at the place
-- comes
abbrev pub after_place : StuffedBits → Bool → StuffedBits
after_place f bit = record f { place = f.place + 1; ones = if bit then f.ones + 1 else 0 }

abbrev pub next_stuffed : StuffedBits → List ℕ → Option (Bool × StuffedBits)
next_stuffed f octets =
    if nat_le 5 f.ones then Some (false, record f { ones = 0 })
    else if nat_lt f.place (bit_count octets)
    then (let bit = slice_index_or (bits_in octets f.check) f.place false in Some (bit, after_place f bit))
    else None

-- no bit is left, and no zero is to be inserted
abbrev pub stuffed_over : StuffedBits → List ℕ → Bool
stuffed_over f octets = nat_lt f.ones 5 && nat_le (bit_count octets) f.place

-- ---- the bits of a tag and a block

-- the eight octets of a tag, the lowest first
abbrev pub tag_octets : ℕ → List ℕ
tag_octets tag = to_le_bytes w64 (tag_value tag)

-- the octets of a tag and of the block of a frame
unfoldable pub unit_octets : ℕ → List ℕ → List ℕ
unit_octets tag octets = tag_octets tag ++ block_octets tag octets

-- at the first bit of a tag, in front of the block of a frame
abbrev pub block_start : ℕ → List ℕ → BlockBits
block_start tag octets = record {
  octets = unit_octets tag octets ++ replicate (263 - length (unit_octets tag octets)) 0;
  length = block_length tag;
  place = 0;
}

-- the bits of a tag, which has eight octets, and of its block
unfoldable pub block_bits : BlockBits → List Bool
block_bits b = take (8 * (8 + b.length)) (sent_bits b.octets)

-- the next one, and where the sender stands after it
abbrev pub next_in_block : BlockBits → Option (Bool × BlockBits)
next_in_block b =
    if nat_lt b.place (length (block_bits b))
    then Some (slice_index_or (block_bits b) b.place false, record b { place = b.place + 1 })
    else None

-- none is left
abbrev pub block_over : BlockBits → Bool
block_over b = nat_le (length (block_bits b)) b.place

-- ---- the bits that stand for one frame

-- at the first of them
abbrev pub tagged_start : Option ℕ → List ℕ → FrameBits
tagged_start None octets = Stuffed (stuffed_start octets)
tagged_start (Some tag) octets = Block (block_start tag octets)

abbrev pub frame_start : Modem → List ℕ → FrameBits
frame_start Bell202 octets = Stuffed (stuffed_start octets)
frame_start ShortWave octets = Stuffed (stuffed_start octets)
frame_start (Fx25 checks) octets = tagged_start (last_tag (count_of checks) (bits_needed octets) 11) octets

-- the next one, and where the sender stands after it
abbrev pub next_in_frame : FrameBits → List ℕ → Option (Bool × FrameBits)
next_in_frame (Stuffed f) octets = option_map (λ given. (given.0, Stuffed given.1)) (next_stuffed f octets)
next_in_frame (Block b) octets = option_map (λ given. (given.0, Block given.1)) (next_in_block b)

-- none is left
abbrev pub frame_over : FrameBits → List ℕ → Bool
frame_over (Stuffed f) octets = stuffed_over f octets
frame_over (Block b) octets = block_over b

-- ---- flags

-- the bit of some flags before which so many bits are left, itself among them: the first and the last of each eight are
-- 0
abbrev pub flag_bit : ℕ → Bool
flag_bit left = nat_lt 1 (left % 8)

-- ---- one bit of a transmission

pub record Step : Type 0 where
  pub bit : Option Bool
  pub named : Option (List ℕ)
  pub stage : Stage
  pub frames : ℕ
  pub waiting : List WaitingFrame

-- the frame at the front begins
abbrev pub front_begins : Modem → List WaitingFrame → Stage
front_begins modem [] = Over
front_begins modem (front ∷ others) = Frame (frame_start modem front.octets)

-- With the last bit of the opening flags it is decided what follows: the front frame, or the closing flags if none waits.
abbrev pub after_opening : Modem → ℕ → List WaitingFrame → Stage
after_opening modem tail [] = Closing (8 * closing_flags modem tail)
after_opening modem tail (front ∷ others) = Frame (frame_start modem front.octets)

abbrev pub frames_opened : ℕ → List WaitingFrame → ℕ
frames_opened frames [] = frames
frames_opened frames (front ∷ others) = 1

-- a bit of the opening flags
abbrev pub opening_step : ℕ → Modem → ℕ → ℕ → List WaitingFrame → Step
opening_step left modem tail frames waiting =
    if nat_lt 1 left
    then record {
      bit = Some (flag_bit left);
      named = None;
      stage = Opening (left - 1);
      frames = frames;
      waiting = waiting;
    }
    else record {
      bit = Some (flag_bit left);
      named = None;
      stage = after_opening modem tail waiting;
      frames = frames_opened frames waiting;
      waiting = waiting;
    }

-- another frame follows
abbrev pub joins : ℕ → List WaitingFrame → Bool
joins frames waiting = nat_lt frames most_frames && nat_lt 1 (length waiting)

-- the closing flags after the first of them
abbrev pub other_closing : Modem → ℕ → Stage
other_closing modem tail = if nat_lt 1 (closing_flags modem tail) then Closing (8 * (closing_flags modem tail - 1)) else Over

abbrev pub following_flag : Bool → Modem → ℕ → List WaitingFrame → Stage
following_flag true modem tail waiting = front_begins modem waiting
following_flag false modem tail waiting = other_closing modem tail

abbrev pub after_closing : ℕ → Stage
after_closing left = if nat_lt 1 left then Closing (left - 1) else Over

-- the sender after the last bit of a frame, if so many frames wait
abbrev pub followed : ℕ → Sending → Sending
followed waiting s =
    let another = nat_lt s.frames most_frames && nat_lt 1 waiting in
    record s { stage = Following 8 another; frames = if another then s.frames + 1 else s.frames }

-- the sender after the last bit of the opening flags
abbrev pub opened : List WaitingFrame → Sending → Sending
opened waiting s = record s { stage = after_opening (modem_of s.wave) s.tail waiting; frames = frames_opened s.frames waiting }

-- a step of a frame
abbrev pub frame_step : Option (Bool × FrameBits) → List ℕ → ℕ → List WaitingFrame → Step
frame_step None octets frames waiting =
    record { bit = None; named = None; stage = Over; frames = frames; waiting = waiting }
frame_step (Some (bit, f)) octets frames waiting =
    if frame_over f octets
    then record {
      bit = Some bit;
      named = None;
      stage = Following 8 (joins frames waiting);
      frames = if joins frames waiting then frames + 1 else frames;
      waiting = waiting;
    }
    else record { bit = Some bit; named = None; stage = Frame f; frames = frames; waiting = waiting }

abbrev pub front_step : FrameBits → ℕ → List WaitingFrame → Step
front_step f frames [] = record { bit = None; named = None; stage = Over; frames = frames; waiting = [] }
front_step f frames (front ∷ others) = frame_step (next_in_frame f front.octets) front.octets frames (front ∷ others)

-- the octets of the front frame
abbrev pub front_octets : List WaitingFrame → Option (List ℕ)
front_octets [] = None
front_octets (front ∷ others) = Some front.octets

-- the flag after the front frame, which is named with the last bit of it
abbrev pub flag_step : ℕ → Bool → Modem → ℕ → ℕ → List WaitingFrame → Step
flag_step left another modem tail frames waiting =
    if nat_lt 1 left
    then record {
      bit = Some (flag_bit left);
      named = None;
      stage = Following (left - 1) another;
      frames = frames;
      waiting = waiting;
    }
    else record {
      bit = Some (flag_bit left);
      named = front_octets waiting;
      stage = following_flag another modem tail (drop 1 waiting);
      frames = frames;
      waiting = drop 1 waiting;
    }

abbrev pub stage_step : Stage → Modem → ℕ → ℕ → List WaitingFrame → Step
stage_step (Opening left) modem tail frames waiting = opening_step left modem tail frames waiting
stage_step (Frame f) modem tail frames waiting = front_step f frames waiting
stage_step (Following left another) modem tail frames waiting = flag_step left another modem tail frames waiting
stage_step (Closing left) modem tail frames waiting =
    record { bit = Some (flag_bit left); named = None; stage = after_closing left; frames = frames; waiting = waiting }
stage_step Over modem tail frames waiting =
    record { bit = None; named = None; stage = Over; frames = frames; waiting = waiting }

unfoldable pub step_of : Sending → List WaitingFrame → Step
step_of s waiting = stage_step s.stage (modem_of s.wave) s.tail s.frames waiting

-- the sender with the stage of a step
abbrev pub with_step : Sending → Step → Sending
with_step s step = record s { stage = step.stage; frames = step.frames }

abbrev pub stage_over : Stage → Bool
stage_over Over = true
stage_over _ = false

-- ---- its samples

-- the samples of a bit, or as much silence
unfoldable pub window_of : Sending → Option Bool → List ℤ
window_of s None = replicate (samples_of_bits (modem_of s.wave) 1) (pos 0)
window_of s (Some bit) = wave_window s.wave (sent_tone s.line bit)

-- the sender after it
abbrev pub following_bit : Sending → Option Bool → Sending
following_bit s None = s
following_bit s (Some bit) =
    record s { line = sent_tone s.line bit; wave = after_tone s.wave (sent_tone s.line bit) }

-- ---- some bits, one after another

-- the sender, the frames that wait, the samples so far and the frame named so far
pub record Run : Type 0 where
  pub sending : Sending
  pub waiting : List WaitingFrame
  pub samples : List ℤ
  pub sent : Option Sent

-- the frame that a step names, if it does, after so many bits
abbrev pub sent_with : Modem → Option (List ℕ) → ℕ → Option Sent → Option Sent
sent_with modem None bits before = before
sent_with modem (Some octets) bits before = Some (record { octets = octets; after = samples_of_bits modem bits })

-- one bit more, after so many
unfoldable pub with_bit : Modem → ℕ → Run → Run
with_bit modem count run =
    let step = step_of run.sending run.waiting in
    let stepped = with_step run.sending step in
    record {
      sending = following_bit stepped step.bit;
      waiting = step.waiting;
      samples = run.samples ++ window_of stepped step.bit;
      sent = sent_with modem step.named (count + 1) run.sent;
    }

unfoldable pub with_bits : Modem → ℕ → Run → Run
with_bits modem zero run = run
with_bits modem (suc count) run = with_bit modem count (with_bits modem count run)

-- before the first bit of a tick
abbrev pub tick_start : Sending → List WaitingFrame → Run
tick_start sending waiting = record { sending = sending; waiting = waiting; samples = []; sent = None }

-- a new transmission
unfoldable pub new_sending : Modem → Parameters → Sending
new_sending modem parameters = record {
  stage = Opening (8 * opening_flags modem parameters.tx_delay);
  frames = 0;
  tail = parameters.tx_tail;
  line = Mark;
  wave = wave_start modem;
}

-- ---- what an access keeps

pub record Held : Type 0 where
  pub modem : Modem
  pub waiting : List WaitingFrame
  pub parameters : Parameters
  pub generator : Lcg
  pub slot : ℕ
  pub sending : Option Sending
  pub listening : Listening

-- before any call
abbrev pub new_held : Modem → ℕ → Held
new_held modem seed = record {
  modem = modem;
  waiting = [];
  parameters = default_parameters;
  generator = generator_of seed draw_stream;
  slot = 0;
  sending = None;
  listening = listening_of [];
}

-- with one frame more, or with a parameter set
abbrev pub held_with_frame : Option ℕ → List ℕ → Held → Held
held_with_frame link octets held =
    record held { waiting = held.waiting ++ (record { link = link; octets = octets }) ∷ [] }

abbrev pub held_with_setting : Param → Held → Held
held_with_setting param held = record held { parameters = with_param param held.parameters }

-- after one thing more has happened
abbrev pub held_after : Happening → List Happening → Held → Held
held_after here past held = record held { listening = listening_of (here ∷ past) }
