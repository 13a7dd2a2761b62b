-- A frame that a live station hears and a tick that it makes, with the lines of the report that a monitor asks for.
use Rattle.std.specs.Prelude.{◌≡◌, ℕ, ◌⊎◌, Bool, MatchBool, List, [], ◌∷◌, ◌++◌, Option, Some, None}
use Rattle.ax25_address.specs.declared.path.Path.{Path}
use Rattle.ax25_frames.specs.declared.frame.Frame.{Frame}
use Rattle.ax25_frames.specs.declared.frame.Modulus.{Modulus}
use Rattle.ax25_frames.specs.declared.fault.FrameFault.{FrameFault}
use Rattle.ax25_frames.specs.FrameOctets.{IsFrame}
use Rattle.ax25_frames.specs.FrameFault.{ShowsFrameFault}
use Rattle.ax25_frames.specs.FrameText.{text_of_frame, text_of_frame_fault}
use Rattle.channel_access.specs.declared.air_tick.AirTick.{AirTick}
use Rattle.channel_access.specs.declared.air_tick.Sent.{Sent}
use Rattle.station.specs.Heard.{IsPathOf}
use Rattle.station.specs.Links.{Links}
use Rattle.station.specs.Monitored.{heard_modulus, sent_modulus}
use Rattle.host_ports.specs.declared.report_line.ReportLine.{ReportLine}
use Rattle.host_ports.specs.declared.report_line.ReportLine.TheVariants.{ReceivedLine, SentLine}
use Rattle.host_ports.specs.Hosts.{Hosts, IsHeardStep, IsTickStep}

-- ---- a frame as a line of text

-- the text of the frame that the octets are, or of the fault that they show
abbrev pub IsFrameText : Modulus → List ℕ → List ℕ → Type 0
IsFrameText modulus octets text =
    ((frame : Frame) × IsFrame frame modulus octets × (text ≡ text_of_frame frame))
    ⊎ ((fault : FrameFault) × ShowsFrameFault modulus octets fault × (text ≡ text_of_frame_fault fault))

pub record IsReceivedLine (octets : List ℕ) (links : Links) (line : ReportLine) : Type 0 where
  pub path : Option Path
  pub reading : IsPathOf octets path
  pub text : List ℕ
  pub is_text : IsFrameText (heard_modulus path links) octets text
  pub is : line ≡ ReceivedLine text

pub record IsSentLine (octets : List ℕ) (links : Links) (line : ReportLine) : Type 0 where
  pub path : Option Path
  pub reading : IsPathOf octets path
  pub text : List ℕ
  pub is_text : IsFrameText (sent_modulus path links) octets text
  pub is : line ≡ SentLine text

-- with more lines in the report
abbrev pub with_lines : List ReportLine → Hosts → Hosts
with_lines lines hosts = record hosts { report = hosts.report ++ lines }

-- ---- a frame is heard

-- a monitor shows each frame that is heard
abbrev pub AreReceivedLines : Bool → List ℕ → Links → List ReportLine → Type 0
AreReceivedLines monitor octets links lines =
    MatchBool monitor ((line : ReportLine) × IsReceivedLine octets links line × (lines ≡ line ∷ [])) (lines ≡ [])

-- The report shows the frame as the links stand before it, and then the station hears it.
pub record IsFrameHeard (monitor : Bool) (octets : List ℕ) (before after : Hosts) : Type 0 where
  pub lines : List ReportLine
  pub shown : AreReceivedLines monitor octets before.station.links lines
  pub step : IsHeardStep octets (with_lines lines before) after

-- ---- a tick is made

-- and each frame whose sending has ended
abbrev pub AreSentLines : Bool → Option Sent → Links → List ReportLine → Type 0
AreSentLines monitor None links lines = lines ≡ []
AreSentLines monitor (Some sent) links lines =
    MatchBool monitor ((line : ReportLine) × IsSentLine sent.octets links line × (lines ≡ line ∷ [])) (lines ≡ [])

-- The station ticks, with this on the air. The report shows the frame whose sending has ended as the links stand
-- afterwards, before what the tick itself reports.
pub record IsTickMade (monitor busy : Bool) (air : AirTick) (before after : Hosts) : Type 0 where
  pub ticked : Hosts
  pub step : IsTickStep busy air before ticked
  pub reported : List ReportLine
  pub told : ticked.report ≡ before.report ++ reported
  pub lines : List ReportLine
  pub shown : AreSentLines monitor air.sent ticked.station.links lines
  pub is : after ≡ record ticked { report = before.report ++ (lines ++ reported) }
