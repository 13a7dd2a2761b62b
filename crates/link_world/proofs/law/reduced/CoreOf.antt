-- A link, and what it sends, as the law of two links reads them.
use Rattle.link_world.proofs.Common.{S, Rr, Rnr, U, Packet, Place, Machine, window_in, Sent, SentIn, InfoSent}
use Rattle.link_world.proofs.Common.{SuperSent, SetupSent, XidSent}
use Rattle.std.specs.Prelude.{ℕ, ◌+◌, Bool, true, false, List, [], ◌∷◌, map, Option, Some, None}
use Rattle.ax25_frames.specs.declared.frame.S.TheVariants.{Rej, Srej as SrejFrame}
use Rattle.ax25_frames.specs.declared.frame.U.TheVariants.{Sabm as SabmFrame, Sabme as SabmeFrame, Disc as DiscFrame}
use Rattle.ax25_frames.specs.declared.frame.U.TheVariants.{Dm as DmFrame, Ua as UaFrame}
use Rattle.link_world.proofs.law.reduced.Core.{Tagged, Kind, Numbered, SetUp, Stored, Running, End}
use Rattle.link_world.proofs.law.reduced.Core.Numbered.{Info, Super, Srej}
use Rattle.link_world.proofs.law.reduced.Core.Kind.{Sabm, Disc, Ua, Dm, IsNumbered}
use Rattle.link_world.proofs.law.reduced.Core.Standing.{Idle, Up}
use Rattle.link_world.proofs.law.reduced.CoreMoves.{now}

-- the packets in places, by their numbers
abbrev pub stored_before : ℕ → Option Packet → List Stored → List Stored
stored_before number None rest = rest
stored_before number (Some packet) rest = record { number = number; packet = packet } ∷ rest

abbrev pub stored_from : ℕ → List Place → List Stored
stored_from number [] = []
stored_from number (place ∷ places) = stored_before number place.packet (stored_from (number + 1) places)

-- an SREJ with F = 1 acknowledges as RR does
abbrev pub srej_of : Bool → ℕ → Numbered
srej_of true nr = Super nr
srej_of false nr = Srej nr

abbrev pub super_of : S → ℕ → Bool → Numbered
super_of Rr nr flag = Super nr
super_of Rnr nr flag = Super nr
super_of Rej nr flag = Super nr
super_of SrejFrame nr flag = srej_of flag nr

abbrev pub setup_of : Bool → U → Kind
setup_of answers SabmFrame = Sabm 8
setup_of answers SabmeFrame = Sabm 128
setup_of answers DiscFrame = Disc
setup_of answers DmFrame = Dm answers
setup_of answers UaFrame = Ua

-- What a link sends in a modulus; its UA and DM answer a SABM, SABME or DISC, or not. XID says nothing here, as a DM that
-- answers none of them does.
abbrev pub kind_of : Bool → ℕ → Sent → Kind
kind_of answers modulus (InfoSent number nr poll packet) = IsNumbered modulus (Info number nr packet)
kind_of answers modulus (SuperSent which command nr flag) = IsNumbered modulus (super_of which nr flag)
kind_of answers modulus (SetupSent which flag) = setup_of answers which
kind_of answers modulus (XidSent command flag own) = Dm false

abbrev pub core_sent : Bool → ℕ → SentIn → Tagged
core_sent answers tag sent = record { tag = tag; kind = kind_of answers sent.modulus sent.frame }

abbrev pub cores_sent : Bool → ℕ → List SentIn → List Tagged
cores_sent answers tag sent = map (core_sent answers tag) sent

-- a link that is up, in a set-up
abbrev pub running_of : Machine → SetUp → Running
running_of m q = record {
  va = m.outgoing.va;
  vs = m.outgoing.vs;
  top = m.outgoing.top;
  kept = m.outgoing.packets;
  vr = m.incoming.vr;
  stored = stored_from m.incoming.vr m.incoming.places;
  set_up = q;
}

-- an end after some set-ups
abbrev pub end_following : Machine → List SetUp → End
end_following m ended = record {
  windows = λ modulus. window_in modulus m.params;
  modulus = m.incoming.modulus;
  window = m.incoming.window;
  ended = ended;
  standing = Idle;
}

abbrev pub up_end : Machine → List SetUp → SetUp → End
up_end m ended q = now (Up (running_of m q)) (end_following m ended)
