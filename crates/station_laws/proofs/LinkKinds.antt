-- What a link sends is I, S, XID, or a frame that sets up or ends; and so is what another link reads of it.
use Rattle.station_laws.proofs.Common.{◌≡◌, ℕ, Bool, true, false, nat_lt, List, [], ◌∷◌, length, cond, Option, Some}
use Rattle.station_laws.proofs.Common.{None, subst, ⊤, Kind, Info, Super, Setup, Ui, Other, Modulus, Eight}
use Rattle.station_laws.proofs.Common.{OneTwentyEight, Sent, sent_kind, InfoSent, SuperSent, SetupSent, info_read_wide}
use Rattle.station_laws.proofs.Common.{kind_read, XidSent}
use Rattle.ax25_frames.specs.declared.frame.W.{W}
use Rattle.ax25_frames.specs.declared.frame.W.TheVariants.{Frmr, Xid, Test}

abbrev pub IsLinkOther : W → Type 0
IsLinkOther Frmr = ⊥
IsLinkOther Xid = ⊤
IsLinkOther Test = ⊥

abbrev pub IsLinkKind : Kind → Type 0
IsLinkKind (Info ns nr flag pid octets) = ⊤
IsLinkKind (Super which nr flag) = ⊤
IsLinkKind (Setup which flag) = ⊤
IsLinkKind (Ui flag pid octets) = ⊥
IsLinkKind (Other which flag octets) = IsLinkOther which

pub sent_link_kind : (modulus : ℕ) (sent : Sent) → IsLinkKind (sent_kind modulus sent)
sent_link_kind modulus (InfoSent number nr poll packet) = tt
sent_link_kind modulus (SuperSent which command nr flag) = tt
sent_link_kind modulus (SetupSent which flag) = tt
sent_link_kind modulus (XidSent command flag own) = tt

abbrev IsLinkRead : Option Kind → Type 0
IsLinkRead None = ⊤
IsLinkRead (Some kind) = IsLinkKind kind

wide_read : (ns nr : ℕ) (poll : Bool) (second : ℕ) (octets : List ℕ)
    → IsLinkRead (info_read_wide ns nr poll second octets)
wide_read ns nr poll second [] = tt
wide_read ns nr poll second (pid ∷ octets) = tt

narrow_read : (b : Bool) (kind : Kind) → IsLinkKind kind → IsLinkRead (cond b (Some kind) None)
narrow_read true kind link = link
narrow_read false kind link = tt

any_read : (written read : Modulus) (kind : Kind) → IsLinkKind kind → IsLinkRead (kind_read written read kind)
any_read Eight Eight kind link = link
any_read OneTwentyEight OneTwentyEight kind link = link
any_read Eight OneTwentyEight (Info ns nr poll pid octets) link = wide_read ns nr poll pid octets
any_read Eight OneTwentyEight (Super which nr flag) link = tt
any_read Eight OneTwentyEight (Setup which flag) link = tt
any_read Eight OneTwentyEight (Ui flag pid octets) link = absurd link
any_read Eight OneTwentyEight (Other which flag octets) link = link
any_read OneTwentyEight Eight (Info ns nr poll pid octets) link = narrow_read (nat_lt (length octets) 256) _ tt
any_read OneTwentyEight Eight (Super which nr flag) link = tt
any_read OneTwentyEight Eight (Setup which flag) link = tt
any_read OneTwentyEight Eight (Ui flag pid octets) link = absurd link
any_read OneTwentyEight Eight (Other which flag octets) link = link

pub read_link_kind :
    (written read : Modulus) (kind found : Kind) → IsLinkKind kind → kind_read written read kind ≡ Some found
    → IsLinkKind found
read_link_kind written read kind found link is = subst IsLinkRead is (any_read written read kind link)
