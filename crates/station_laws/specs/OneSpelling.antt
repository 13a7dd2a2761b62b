-- A station speaks of the text of a call and of the octets of a frame as functions. They are what the formats define
-- as relations: the text of a call (AX.25 2.2 section 3.12) and a written frame (section 3.1).
use Rattle.std.specs.Prelude.{◌≡◌, ◌↔◌, ℕ, ◌≤◌, List, Some}
use Rattle.std.specs.List.{AllByRecursion}
use Rattle.ax25_address.specs.Callsign.{Callsign, IsCall}
use Rattle.ax25_address.specs.CallText.{IsCallText}
use Rattle.ax25_address.specs.FramePath.{repeater_count}
use Rattle.ax25_address.specs.declared.path.Hop.{Hop}
use Rattle.ax25_address.specs.declared.path.Path.{Path}
use Rattle.ax25_frames.specs.declared.frame.Frame.{Frame}
use Rattle.ax25_frames.specs.declared.frame.Modulus.{Modulus}
use Rattle.ax25_frames.specs.FrameOctets.{IsWrittenFrame}
use Rattle.station.specs.CallFields.{call_of_text}
use Rattle.station.specs.FrameSpelling.{frame_octets}

-- the texts of a call are those that are read as it
abbrev pub CallTextsAgree : Type 0
CallTextsAgree = (text : List ℕ) (call : Callsign) → IsCallText text call ↔ (call_of_text text ≡ Some call)

-- a path of at most eight repeaters whose calls are calls
pub record HasCalls (path : Path) : Type 0 where
  pub few : repeater_count path ≤ 8
  pub dest : IsCall path.dest
  pub source : IsCall path.source
  pub hops : AllByRecursion (λ (hop : Hop). IsCall hop.call) path.repeaters.items

-- what is written for a frame on such a path is its octets, and nothing else is
abbrev pub WrittenFramesAgree : Type 0
WrittenFramesAgree = (modulus : Modulus) (frame : Frame) (octets : List ℕ) → HasCalls frame.path
    → IsWrittenFrame frame modulus octets ↔ (octets ≡ frame_octets modulus frame)
