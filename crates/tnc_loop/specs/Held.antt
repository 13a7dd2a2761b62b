-- What the code keeps of what it draws and sends, and what that stands for. No public clause cites it.
use Rattle.std.specs.Prelude.{◌≡◌, ℕ, ◌≤◌, List, [], ◌∷◌, length, map, Option, Some, None}
use Rattle.std.specs.List.{flat_map}
use Rattle.afsk_modulator.specs.Signal.{Transmission, signal}
use Rattle.hdlc_framer.specs.FrameLength.{least_frame_length}
use Rattle.clean_signal.specs.NearSignal.{transmissions_of}
use Rattle.clean_signal.specs.TrueEnds.{true_ends}
use Rattle.clean_signal.specs.Stray.{NoStray}
use Rattle.tnc_words.specs.declared.command.LoopWords.{LoopWords}
use Rattle.tnc_loop.specs.declared.drawing.Drawn.{Drawn}
use Rattle.tnc_loop.specs.declared.sending.Sent.{Sent}
use Rattle.tnc_loop.specs.Drawn.{Heard, drawn, samples_drawn}
use Rattle.tnc_loop.specs.Summary.{IsFirstStray}

-- the transmission that was drawn
abbrev pub drawn_as : Drawn → Transmission
drawn_as drawn =
    record { silence = drawn.silence; opening = drawn.opening; closing = drawn.closing; frames = drawn.octets ∷ [] }

-- it can be sent
pub record IsGood (drawn : Drawn) : Type 0 where
  pub opening : 2 ≤ drawn.opening
  pub closing : 1 ≤ drawn.closing
  pub least : least_frame_length ≤ length drawn.octets
  pub most : length drawn.octets ≤ 1000

-- the transmissions of what is heard
abbrev pub sent_of : List Heard → List Transmission
sent_of heard = transmissions_of (map (λ h. h.received) heard)

-- these were sent: as many samples as a clean signal of them has
pub record HasSent (sent : Sent) (heard : List Heard) : Type 0 where
  pub samples : sent.samples.items ≡ flat_map (λ h. h.samples) heard
  pub count : length sent.samples.items ≡ length (signal (sent_of heard))
  pub ends : sent.ends.items ≡ true_ends (sent_of heard)

-- what was found among the candidates: the first stray one, or that none is stray
abbrev pub HasFound : LoopWords → Option (List ℕ) → Type 0
HasFound words (Some octets) = IsFirstStray words octets
HasFound words None = NoStray (drawn words) (samples_drawn words)
