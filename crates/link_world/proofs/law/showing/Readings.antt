-- What a frame is read as, if it was written in another modulus: an I or S frame as one of them, or as none, and
-- another as it is.
use Rattle.link_world.proofs.Common.{◌≡◌, ℕ, ◌%◌, Bool, true, false, if◌then◌else◌, nat_lt, List, [], ◌∷◌, length}
use Rattle.link_world.proofs.Common.{Option, Some, None, IfSome, refl, subst, Kind, Info, Setup, Frame, Modulus, Eight}
use Rattle.link_world.proofs.Common.{OneTwentyEight, Sent, sent_kind, InfoSent, SuperSent, SetupSent, is_numbered}
use Rattle.link_world.proofs.Common.{kind_read, frame_read, read_narrow, with_kind, Other, XidSent}
use Rattle.ax25_frames.specs.declared.frame.W.TheVariants.{Xid}
use Rattle.link_machine.specs.Sent.{xid_octets}
use Rattle.link_world.specs.Reading.{read_wide}

abbrev pub IsReadAs : Sent → Kind → Type 0
IsReadAs (InfoSent number nr poll packet) kind = is_numbered kind ≡ true
IsReadAs (SuperSent which command nr flag) kind = is_numbered kind ≡ true
IsReadAs (SetupSent which flag) kind = kind ≡ Setup which flag
IsReadAs (XidSent command flag own) kind = kind ≡ Other Xid flag (xid_octets own)

read_self : (modulus : ℕ) (s : Sent) → IsReadAs s (sent_kind modulus s)
read_self modulus (InfoSent number nr poll packet) = refl
read_self modulus (SuperSent which command nr flag) = refl
read_self modulus (SetupSent which flag) = refl
read_self modulus (XidSent command flag own) = refl

reads_wide : (modulus : ℕ) (s : Sent) → IfSome (read_wide (sent_kind modulus s)) (IsReadAs s)
reads_wide modulus (InfoSent number nr poll packet) = go packet.octets
  where
    go : (octets : List ℕ) → IfSome (read_wide (Info (number % modulus) (nr % modulus) poll packet.pid octets))
        (λ k. is_numbered k ≡ true)
    go [] = tt
    go (pid ∷ octets) = refl
reads_wide modulus (SuperSent which command nr flag) = tt
reads_wide modulus (SetupSent which flag) = refl
reads_wide modulus (XidSent command flag own) = refl

reads_narrow : (modulus : ℕ) (s : Sent) → IfSome (read_narrow (sent_kind modulus s)) (IsReadAs s)
reads_narrow modulus (InfoSent number nr poll packet) = go (nat_lt (length packet.octets) 256) _ refl
  where
    go : (b : Bool) (kind : Kind) → is_numbered kind ≡ true
        → IfSome (if b then Some kind else None) (λ k. is_numbered k ≡ true)
    go true kind is = is
    go false kind is = tt
reads_narrow modulus (SuperSent which command nr flag) = tt
reads_narrow modulus (SetupSent which flag) = refl
reads_narrow modulus (XidSent command flag own) = refl

reads_by :
    (written read : Modulus) (modulus : ℕ) (s : Sent)
    → IfSome (kind_read written read (sent_kind modulus s)) (IsReadAs s)
reads_by Eight Eight modulus s = read_self modulus s
reads_by Eight OneTwentyEight modulus s = reads_wide modulus s
reads_by OneTwentyEight Eight modulus s = reads_narrow modulus s
reads_by OneTwentyEight OneTwentyEight modulus s = read_self modulus s

kind_of_read : (P : Kind → Type 0) (frame : Frame) (o : Option Kind) → IfSome o P
    → IfSome (with_kind frame o) (λ f. P f.kind)
kind_of_read P frame None h = tt
kind_of_read P frame (Some kind) h = h

-- what a frame as it was sent is read as
pub read_as :
    (written read : Modulus) (frame : Frame) (modulus : ℕ) (s : Sent) → frame.kind ≡ sent_kind modulus s
    → IfSome (with_kind frame (kind_read written read frame.kind)) (λ f. IsReadAs s f.kind)
read_as written read frame modulus s is = kind_of_read (IsReadAs s) frame (kind_read written read frame.kind)
    (rw is (reads_by written read modulus s))

-- a frame that is read in the modulus in which it was written
pub kind_same : (modulus : Modulus) (frame g : Frame) → frame_read modulus modulus frame ≡ Some g → g.kind ≡ frame.kind
kind_same Eight frame g is = subst (λ o. IfSome o (λ h. h.kind ≡ frame.kind)) is refl
kind_same OneTwentyEight frame g is = subst (λ o. IfSome o (λ h. h.kind ≡ frame.kind)) is refl
