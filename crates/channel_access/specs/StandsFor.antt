-- What an access stands for: the channel of the definitions, if the transmission under way is known from its first bit.
-- Public clauses cite `StandsFor` and its field `waiting` alone.
use Rattle.std.specs.Prelude.{◌≡◌, ℕ, zero, suc, ◌-◌, ◌≤◌, Bool, true, false, List, [], ◌∷◌, ◌++◌, length, drop}
use Rattle.std.specs.Prelude.{nat_le, Option, Some, None, if◌then◌else◌}
use Rattle.std.specs.List.{All}
use Rattle.nrzi_bits.specs.Line.{line, last_tone}
use Rattle.hdlc_framer.specs.Body.{flags}
use Rattle.hdlc_framer.specs.Counted.{stuffed_from}
use Rattle.channel_access.specs.declared.block_bits.BlockBits.{BlockBits}
use Rattle.channel_access.specs.declared.frame_bits.FrameBits.{FrameBits}
use Rattle.channel_access.specs.declared.frame_bits.FrameBits.TheVariants.{Stuffed, Block}
use Rattle.channel_access.specs.declared.stuffed_bits.StuffedBits.{StuffedBits}
use Rattle.channel_access.specs.declared.stage.Stage.{Stage}
use Rattle.channel_access.specs.declared.stage.Stage.TheVariants.{Opening, Frame, Following, Closing, Over}
use Rattle.channel_access.specs.declared.sending.Sending.{Sending}
use Rattle.channel_access.specs.Modem.{bits_of_ticks, body_by}
use Rattle.channel_access.specs.HeldWave.{wave_after}
use Rattle.channel_access.specs.Parameters.{closing_flags}
use Rattle.channel_access.specs.Waiting.{WaitingFrame}
use Rattle.hdlc_framer.specs.FrameLength.{HasFrameLength}
use Rattle.channel_access.specs.OnAir.{OnAir}
use Rattle.channel_access.specs.Channel.{Channel}
use Rattle.channel_access.specs.HeldTurns.{listening_of}
use Rattle.channel_access.specs.Held.{Held, bits_in, block_bits, frame_over, flag_bit, stage_over}

-- bits with inserted zeros, after so many 1s
abbrev pub rest_after : ℕ → List Bool → List Bool
rest_after ones bits = if nat_le 5 ones then false ∷ stuffed_from bits 4 else stuffed_from bits (4 - ones)

-- the bits of a frame that are left, plainly
unfoldable pub stuffed_rest : StuffedBits → List ℕ → List Bool
stuffed_rest f octets = rest_after f.ones (drop f.place (bits_in octets f.check))

-- those of a tag and a block
unfoldable pub block_rest : BlockBits → List Bool
block_rest b = drop b.place (block_bits b)

-- the bits that are left of what stands for a frame
abbrev pub frame_rest : FrameBits → List ℕ → List Bool
frame_rest (Stuffed f) octets = stuffed_rest f octets
frame_rest (Block b) octets = block_rest b

-- the last bits of some flags, so many
abbrev pub flag_rest : ℕ → List Bool
flag_rest zero = []
flag_rest (suc left) = flag_bit (suc left) ∷ flag_rest left

-- The bits sent so far, stage by stage, and what of the transmission they are.
pub record InOpening (left : ℕ) (t : OnAir) (sent : List Bool) : Type 0 where
  pub some : 1 ≤ left
  pub bits : sent ++ flag_rest left ≡ flags t.opening
  pub frames : t.frames ≡ []
  pub ends : t.ends ≡ false
  pub named : t.named ≡ 0

pub record InFrame (f : FrameBits) (front : WaitingFrame) (t : OnAir) (sent : List Bool) : Type 0 where
  pub past : List (List ℕ)
  pub some : frame_over f front.octets ≡ false
  pub bits : sent ++ frame_rest f front.octets ≡ body_by t.modem t.frames t.opening 0
  pub frames : t.frames ≡ past ++ front.octets ∷ []
  pub ends : t.ends ≡ false
  pub named : t.named ≡ length past

-- after the flag come these frames, one or none
pub record InFlag (left : ℕ) (front : WaitingFrame) (next : List (List ℕ)) (last : Bool) (t : OnAir) (sent : List Bool)
    : Type 0 where
  pub past : List (List ℕ)
  pub some : 1 ≤ left
  pub bits : sent ++ flag_rest left ≡ body_by t.modem (past ++ front.octets ∷ []) t.opening 1
  pub frames : t.frames ≡ (past ++ front.octets ∷ []) ++ next
  pub ends : t.ends ≡ last
  pub named : t.named ≡ length past

pub record InClosing (left : ℕ) (t : OnAir) (sent : List Bool) : Type 0 where
  pub some : 1 ≤ left
  pub bits : sent ++ flag_rest left ≡ body_by t.modem t.frames t.opening t.closing
  pub ends : t.ends ≡ true
  pub named : t.named ≡ length t.frames

pub record IsSent (t : OnAir) (sent : List Bool) : Type 0 where
  pub bits : sent ≡ body_by t.modem t.frames t.opening t.closing
  pub ends : t.ends ≡ true
  pub named : t.named ≡ length t.frames

abbrev pub Stands : Stage → List WaitingFrame → OnAir → List Bool → Type 0
Stands (Opening left) waiting t sent = InOpening left t sent
Stands (Frame f) [] t sent = ⊥
Stands (Frame f) (front ∷ others) t sent = InFrame f front t sent
Stands (Following left true) [] t sent = ⊥
Stands (Following left true) (front ∷ []) t sent = ⊥
Stands (Following left true) (front ∷ next ∷ others) t sent = InFlag left front (next.octets ∷ []) false t sent
Stands (Following left false) [] t sent = ⊥
Stands (Following left false) (front ∷ others) t sent = InFlag left front [] true t sent
Stands (Closing left) waiting t sent = InClosing left t sent
Stands Over waiting t sent = IsSent t sent

-- so many bits were to be sent, and all of them were if something is left
abbrev pub Counts : Stage → ℕ → List Bool → Type 0
Counts Over total sent = length sent ≤ total
Counts _ total sent = length sent ≡ total

-- A sender, at so many bits of a transmission.
pub record Sends (s : Sending) (waiting : List WaitingFrame) (t : OnAir) (total : ℕ) (sent : List Bool) : Type 0 where
  pub stands : Stands s.stage waiting t sent
  pub count : Counts s.stage total sent
  pub frames : s.frames ≡ length t.frames
  pub closing : t.closing ≡ closing_flags t.modem s.tail
  pub tone : s.line ≡ last_tone (line sent)
  pub wave : s.wave ≡ wave_after t.modem (line sent)

-- A transmission under way, between two ticks of it.
pub record Goes (s : Sending) (waiting : List WaitingFrame) (t : OnAir) : Type 0 where
  pub sent : List Bool
  pub sends : Sends s waiting t (bits_of_ticks t.modem t.ticks) sent
  pub left : stage_over s.stage ≡ false

abbrev pub StandsForAir : Option Sending → List WaitingFrame → Option OnAir → Type 0
StandsForAir None waiting None = Unit {0}
StandsForAir None waiting (Some t) = ⊥
StandsForAir (Some s) waiting None = ⊥
StandsForAir (Some s) waiting (Some t) = Goes s waiting t

pub record StandsFor (held : Held) (channel : Channel) : Type 0 where
  pub modem : held.modem ≡ channel.modem
  pub waiting : held.waiting ≡ channel.waiting
  pub parameters : held.parameters ≡ channel.parameters
  pub generator : held.generator ≡ channel.generator
  pub slot : held.slot ≡ channel.slot
  pub listening : held.listening ≡ listening_of channel.past
  pub lengths : All (λ frame. HasFrameLength frame.octets) channel.waiting
  pub air : StandsForAir held.sending channel.waiting channel.air

-- Every access stands for some channel.
abbrev pub StandsForSome : Held → Type 0
StandsForSome held = (channel : Channel) × StandsFor held channel
