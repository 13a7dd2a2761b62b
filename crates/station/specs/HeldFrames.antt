-- What the code makes of a frame that cannot be read. No public clause cites this.
use Rattle.std.specs.Prelude.{◌≡◌, Option, None, Result, Ok, IsErr}
use Rattle.tnc_base.specs.declared.fault.OutOfMemory.{OutOfMemory}
use Rattle.ax25_frames.specs.declared.fault.FrameFault.{FrameFault}
use Rattle.ax25_frames.specs.declared.fault.FrameFault.TheVariants.{Address, NoControl, NoPid, UnknownControl}
use Rattle.ax25_frames.specs.declared.fault.FrameFault.TheVariants.{InfoTooLong, StrayInfo, Memory}
use Rattle.ax25_frames.specs.declared.frame.Frame.{Frame}

-- none, and want of memory stays
abbrev pub IsUnread : FrameFault → Result (Option Frame) OutOfMemory → Type 0
IsUnread (Address fault) answer = answer ≡ Ok None
IsUnread (NoControl at) answer = answer ≡ Ok None
IsUnread (NoPid at) answer = answer ≡ Ok None
IsUnread (UnknownControl octet) answer = answer ≡ Ok None
IsUnread (InfoTooLong len) answer = answer ≡ Ok None
IsUnread (StrayInfo at) answer = answer ≡ Ok None
IsUnread Memory answer = IsErr answer
