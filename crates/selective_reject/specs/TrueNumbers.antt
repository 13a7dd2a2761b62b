-- What becomes of a packet by its true number, which counts the sender's packets from 0.
use Rattle.std.specs.Prelude.{ℕ, ◌+◌, ◌-◌, ◌<◌, ◌≤◌, nat_lt, if◌then◌else◌}
use Rattle.selective_reject.specs.declared.packet.Packet.{Packet}
use Rattle.selective_reject.specs.declared.window.Mode.{Mode}
use Rattle.selective_reject.specs.declared.window.Mode.TheVariants.{Rej, Srej}
use Rattle.selective_reject.specs.declared.incoming.Took.{Took}
use Rattle.selective_reject.specs.declared.incoming.Took.TheVariants.{NotNext, Outside}
use Rattle.selective_reject.specs.Incoming.{Incoming, taking, after_taking}

-- A frame under way has a number at most the sender's window below the next in sequence, and less than it above.
abbrev pub IsInReach : ℕ → ℕ → ℕ → Type 0
IsInReach vr sender number = (vr ≤ number + sender) × (number < vr + sender)

-- a packet that was taken before is out of sequence, or outside the window
abbrev pub old_packet : Mode → Took
old_packet Rej = NotNext
old_packet Srej = Outside

abbrev pub took_truly : Incoming → ℕ → Took
took_truly store number = if nat_lt number store.vr then old_packet store.mode else taking store (number - store.vr)

abbrev pub after_accept_truly : Incoming → ℕ → Packet → Incoming
after_accept_truly store number packet =
    if nat_lt number store.vr then store else after_taking store (number - store.vr) packet
