-- A frame that is written in one modulus and read in another, in octets: what it is read as, and that it is read as
-- nothing else.
use Rattle.link_world.proofs.Common.{◌≡◌, ℕ, ◌+◌, ◌%◌, ◌<◌, ◌≤◌, Bool, true, false, ◌==◌, nat_lt, if◌then◌else◌, List}
use Rattle.link_world.proofs.Common.{[], ◌∷◌, length, drop, Option, Some, None, ◌⊎◌, inl, inr, refl, sym, ap, ◌∙◌}
use Rattle.link_world.proofs.Common.{subst, arith, All, IfOk, IfErr, All-drop, eqb-true, eqb-false, ltb-true, Modulus}
use Rattle.link_world.proofs.Common.{Eight, OneTwentyEight, Kind, Info, Super, Setup, Ui, Other, S, Sabm, Dm, Frame}
use Rattle.link_world.proofs.Common.{IsFrame, kind_read, frame_read, with_kind, read_narrow}
use Rattle.std.proofs.Common.{◌*◌, ◌/◌}
use Rattle.std.specs.Prelude.{Result, Ok, Err}
use Rattle.std.proofs.lemmas.Bool.{ltb-false}
use Rattle.ax25_address.specs.AddressField.{bit}
use Rattle.ax25_frames.specs.declared.frame.U.TheVariants.{Sabme, Disc, Ua}
use Rattle.ax25_frames.specs.declared.frame.W.TheVariants.{Frmr, Xid, Test}
use Rattle.ax25_address.proofs.OneReading.{BeginsWithPath-same}
use Rattle.ax25_frames.specs.declared.fault.FrameFault.{FrameFault}
use Rattle.ax25_frames.specs.declared.fault.FrameFault.TheVariants.{Memory}
use Rattle.ax25_frames.specs.FrameOctets.{IsKind, body_octets}
use Rattle.link_world.specs.Reading.{is_odd, info_read_wide}

-- octets that are read as a kind
pub record IsKindOf (read : Modulus) (body : List ℕ) (kind : Kind) : Type 0 where
  pub kind_is : IsKind read kind
  pub spelling : body ≡ body_octets read kind

-- octets that are read as a kind, or as none
abbrev pub IsReadBy : Modulus → List ℕ → Option Kind → Type 0
IsReadBy read body None = (kind : Kind) → IsKindOf read body kind → ⊥
IsReadBy read body (Some kind) = IsKindOf read body kind

bit_of_odd : (n : ℕ) → bit (is_odd n) ≡ n % 2
bit_of_odd n = go (n % 2 == 1) refl
  where
    go : (b : Bool) → (n % 2 == 1) ≡ b → bit b ≡ n % 2
    go true e = sym (eqb-true (n % 2) 1 e)
    go false e = let other : n % 2 ≡ 1 → ⊥ = eqb-false (n % 2) 1 e in omega arith

bit_below : (b : Bool) → bit b ≤ 1
bit_below true = omega arith
bit_below false = omega arith

-- an octet is its half and its lowest bit
halved : (n : ℕ) → 2 * (n / 2) + bit (is_odd n) ≡ n
halved n = let b = bit_of_odd n in omega arith

-- a number is its highest bits, the next one, and the lowest three
in_eighths : (n : ℕ) → 32 * (n / 16) + 16 * bit (is_odd (n / 8)) + 2 * (n % 8) ≡ 2 * n
in_eighths n = let b = bit_of_odd (n / 8) in omega arith

-- the lowest two bits of the first octet tell I, S and U frames apart
abbrev IsOfClass : ℕ → Kind → Type 0
IsOfClass octet (Info ns nr poll pid octets) = octet % 2 ≡ 0
IsOfClass octet (Super which nr flag) = octet % 4 ≡ 1
IsOfClass octet (Setup which flag) = octet % 4 ≡ 3
IsOfClass octet (Ui flag pid octets) = octet % 4 ≡ 3
IsOfClass octet (Other which flag octets) = octet % 4 ≡ 3

abbrev first_octet : List ℕ → ℕ
first_octet [] = 0
first_octet (octet ∷ rest) = octet

class_of : (modulus : Modulus) (kind : Kind) → IsOfClass (first_octet (body_octets modulus kind)) kind
class_of Eight (Info ns nr poll pid octets) = omega arith
class_of OneTwentyEight (Info ns nr poll pid octets) = omega arith
class_of Eight (Super which nr flag) = omega arith
class_of OneTwentyEight (Super which nr flag) = omega arith
class_of Eight (Setup Sabm flag) = omega arith
class_of Eight (Setup Sabme flag) = omega arith
class_of Eight (Setup Disc flag) = omega arith
class_of Eight (Setup Dm flag) = omega arith
class_of Eight (Setup Ua flag) = omega arith
class_of OneTwentyEight (Setup Sabm flag) = omega arith
class_of OneTwentyEight (Setup Sabme flag) = omega arith
class_of OneTwentyEight (Setup Disc flag) = omega arith
class_of OneTwentyEight (Setup Dm flag) = omega arith
class_of OneTwentyEight (Setup Ua flag) = omega arith
class_of Eight (Ui flag pid octets) = omega arith
class_of OneTwentyEight (Ui flag pid octets) = omega arith
class_of Eight (Other Frmr flag octets) = omega arith
class_of Eight (Other Xid flag octets) = omega arith
class_of Eight (Other Test flag octets) = omega arith
class_of OneTwentyEight (Other Frmr flag octets) = omega arith
class_of OneTwentyEight (Other Xid flag octets) = omega arith
class_of OneTwentyEight (Other Test flag octets) = omega arith

-- what begins as an I frame is read as one
only_info :
    (read : Modulus) (body : List ℕ) (P : Type 0) → first_octet body % 2 ≡ 0
    → ((ns nr : ℕ) (poll : Bool) (pid : ℕ) (octets : List ℕ) → IsKindOf read body (Info ns nr poll pid octets) → P)
    → (kind : Kind) → IsKindOf read body kind → P
only_info read body P even info (Info ns nr poll pid octets) h = info ns nr poll pid octets h
only_info read body P even info (Super which nr flag) h =
    let same = ap first_octet h.spelling in let c = class_of read (Super which nr flag) in absurd (omega arith)
only_info read body P even info (Setup which flag) h =
    let same = ap first_octet h.spelling in let c = class_of read (Setup which flag) in absurd (omega arith)
only_info read body P even info (Ui flag pid octets) h =
    let same = ap first_octet h.spelling in let c = class_of read (Ui flag pid octets) in absurd (omega arith)
only_info read body P even info (Other which flag octets) h =
    let same = ap first_octet h.spelling in let c = class_of read (Other which flag octets) in absurd (omega arith)

-- what begins as an S frame is read as one
only_super :
    (read : Modulus) (body : List ℕ) (P : Type 0) → first_octet body % 4 ≡ 1
    → ((which : S) (nr : ℕ) (flag : Bool) → IsKindOf read body (Super which nr flag) → P)
    → (kind : Kind) → IsKindOf read body kind → P
only_super read body P one super (Info ns nr poll pid octets) h =
    let same = ap first_octet h.spelling in
    let c = class_of read (Info ns nr poll pid octets) in absurd (omega arith)
only_super read body P one super (Super which nr flag) h = super which nr flag h
only_super read body P one super (Setup which flag) h =
    let same = ap first_octet h.spelling in let c = class_of read (Setup which flag) in absurd (omega arith)
only_super read body P one super (Ui flag pid octets) h =
    let same = ap first_octet h.spelling in let c = class_of read (Ui flag pid octets) in absurd (omega arith)
only_super read body P one super (Other which flag octets) h =
    let same = ap first_octet h.spelling in let c = class_of read (Other which flag octets) in absurd (omega arith)

-- an I frame of modulus 8, read modulo 128
wide_info :
    (ns nr : ℕ) (poll : Bool) (second : ℕ) (octets : List ℕ) → ns < 8 → nr < 8 → second < 256 → length octets ≤ 256
    → IsReadBy OneTwentyEight (body_octets Eight (Info ns nr poll second octets))
    (info_read_wide ns nr poll second octets)
wide_info ns nr poll second [] low small below fits =
    only_info OneTwentyEight (body_octets Eight (Info ns nr poll second [])) ⊥ (omega arith)
    (λ n r p pid octets h. let size = ap length h.spelling in omega arith)
wide_info ns nr poll second (pid ∷ octets) low small below fits =
    let number = 16 * nr + 8 * bit poll + ns in
    let first : 32 * nr + 16 * bit poll + 2 * ns ≡ 2 * number = omega arith in
    let b = bit_below poll in
    record {
      kind_is = record { numbered = (omega arith, omega arith); fits = omega arith };
      spelling = ap (λ a. a ∷ second ∷ pid ∷ octets) first
          ∙ ap (λ a. 2 * number ∷ a ∷ pid ∷ octets) (sym (halved second));
    }

-- an S frame of modulus 8 has an octet too few
wide_super :
    (which : S) (nr : ℕ) (flag : Bool) (kind : Kind)
    → IsKindOf OneTwentyEight (body_octets Eight (Super which nr flag)) kind → ⊥
wide_super which nr flag =
    only_super OneTwentyEight (body_octets Eight (Super which nr flag)) ⊥ (omega arith)
    (λ other r f h. let size = ap length h.spelling in omega arith)

-- an I frame of modulus 128, read modulo 8
narrow_info :
    (ns nr : ℕ) (poll : Bool) (pid : ℕ) (octets : List ℕ) → ns < 128
    → IsReadBy Eight (body_octets OneTwentyEight (Info ns nr poll pid octets))
    (read_narrow (Info ns nr poll pid octets))
narrow_info ns nr poll pid octets low = go (nat_lt (length octets) 256) refl
  where
    second : ℕ
    second = 2 * nr + bit poll

    body : List ℕ
    body = 2 * ns ∷ second ∷ pid ∷ octets

    go : (b : Bool) → nat_lt (length octets) 256 ≡ b
        → IsReadBy Eight body
        (if b then Some (Info (ns % 8) (ns / 16) (is_odd (ns / 8)) second (pid ∷ octets)) else None)
    go true e =
        let short = ltb-true (length octets) 256 e in
        record {
          kind_is = record { numbered = (omega arith, omega arith); fits = omega arith };
          spelling = ap (λ a. a ∷ second ∷ pid ∷ octets) (sym (in_eighths ns));
        }
    go false e =
        let long = ltb-false (length octets) 256 e in
        only_info Eight body ⊥ (omega arith)
        (λ n r p pid other h. let size = ap length h.spelling in let fits = h.kind_is.fits in omega arith)

-- an S frame of modulus 128 has an octet too many
narrow_super :
    (which : S) (nr : ℕ) (flag : Bool) (kind : Kind)
    → IsKindOf Eight (body_octets OneTwentyEight (Super which nr flag)) kind → ⊥
narrow_super which nr flag =
    only_super Eight (body_octets OneTwentyEight (Super which nr flag)) ⊥ (omega arith)
    (λ other r f h. let size = ap length h.spelling in omega arith)

-- so in each case
pub read_by :
    (written read : Modulus) (kind : Kind) → IsKind written kind → All (λ o. o < 256) (body_octets written kind)
    → IsReadBy read (body_octets written kind) (kind_read written read kind)
read_by Eight Eight kind is octets = record { kind_is = is; spelling = refl }
read_by OneTwentyEight OneTwentyEight kind is octets = record { kind_is = is; spelling = refl }
read_by Eight OneTwentyEight (Info ns nr poll pid rest) is octets =
    wide_info ns nr poll pid rest is.numbered.0 is.numbered.1 (octets 1 0 (omega arith)) is.fits
read_by Eight OneTwentyEight (Super which nr flag) is octets = wide_super which nr flag
read_by Eight OneTwentyEight (Setup which flag) is octets =
    record { kind_is = record { numbered = tt; fits = tt }; spelling = refl }
read_by Eight OneTwentyEight (Ui flag pid rest) is octets =
    record { kind_is = record { numbered = tt; fits = tt }; spelling = refl }
read_by Eight OneTwentyEight (Other which flag rest) is octets =
    record { kind_is = record { numbered = tt; fits = tt }; spelling = refl }
read_by OneTwentyEight Eight (Info ns nr poll pid rest) is octets = narrow_info ns nr poll pid rest is.numbered.0
read_by OneTwentyEight Eight (Super which nr flag) is octets = narrow_super which nr flag
read_by OneTwentyEight Eight (Setup which flag) is octets =
    record { kind_is = record { numbered = tt; fits = tt }; spelling = refl }
read_by OneTwentyEight Eight (Ui flag pid rest) is octets =
    record { kind_is = record { numbered = tt; fits = tt }; spelling = refl }
read_by OneTwentyEight Eight (Other which flag rest) is octets =
    record { kind_is = record { numbered = tt; fits = tt }; spelling = refl }

-- what is read of the octets of a frame, if they are read as one frame at most
pub record IsReading (read : Modulus) (octets : List ℕ) (answer : Result Frame FrameFault) : Type 0 where
  pub frame : IfOk answer (λ g. IsFrame g read octets)
  pub each_frame : (g : Frame) → IsFrame g read octets → (answer ≡ Ok g) ⊎ (answer ≡ Err Memory)

-- the octets after the address are read as the kind
body_read :
    (written read : Modulus) (frame : Frame) (octets : List ℕ) (is : IsFrame frame written octets)
    → All (λ o. o < 256) octets → IsReadBy read (drop is.len octets) (kind_read written read frame.kind)
body_read written read frame octets is low =
    subst (λ b. IsReadBy read b (kind_read written read frame.kind)) (sym is.body)
    (read_by written read frame.kind is.kind
    (subst (All (λ o. o < 256)) is.body (All-drop (λ o. o < 256) is.len octets low)))

-- if a kind is read, so is the frame
frame_by :
    (written read : Modulus) (frame : Frame) (octets : List ℕ) → IsFrame frame written octets
    → All (λ o. o < 256) octets → (kind : Kind) → kind_read written read frame.kind ≡ Some kind
    → IsFrame (record frame { kind = kind }) read octets
frame_by written read frame octets is low kind e =
    let body : IsKindOf read (drop is.len octets) kind =
    subst (IsReadBy read (drop is.len octets)) e (body_read written read frame octets is low) in
    record { len = is.len; path = is.path; kind = body.kind_is; body = body.spelling }

-- and if none is read, there is no frame
none_by :
    (written read : Modulus) (frame g : Frame) (octets : List ℕ) → IsFrame frame written octets
    → All (λ o. o < 256) octets → kind_read written read frame.kind ≡ None → IsFrame g read octets → ⊥
none_by written read frame g octets is low e h =
    let none : (kind : Kind) → IsKindOf read (drop is.len octets) kind → ⊥ =
    subst (IsReadBy read (drop is.len octets)) e (body_read written read frame octets is low) in
    let same : h.len ≡ is.len = (BeginsWithPath-same octets g.path frame.path h.len is.len h.path is.path).1 in
    none g.kind (record { kind_is = h.kind; spelling = ap (λ n. drop n octets) (sym same) ∙ h.body })

some_same : (g h : Frame) (answer : Result Frame FrameFault) → answer ≡ Ok g → answer ≡ Ok h → Some h ≡ Some g
some_same g h answer one other = subst (λ a. IfOk a (λ x. Some x ≡ Some g)) (sym one ∙ other) refl

ok_is_no_err : (g : Frame) (fault : FrameFault) (answer : Result Frame FrameFault) → answer ≡ Ok g → answer ≡ Err fault
    → ⊥
ok_is_no_err g fault answer one other = subst (λ a. IfErr a (λ x. ⊥)) (sym one ∙ other) tt

-- a frame that is read is the one that the modulus makes of it
pub reads_frame :
    (written read : Modulus) (frame g : Frame) (octets : List ℕ) (answer : Result Frame FrameFault)
    → IsFrame frame written octets → All (λ o. o < 256) octets → IsReading read octets answer → answer ≡ Ok g
    → Some g ≡ frame_read written read frame
reads_frame written read frame g octets answer is low reading ok = go (kind_read written read frame.kind) refl
  where
    go : (o : Option Kind) → kind_read written read frame.kind ≡ o → Some g ≡ with_kind frame o
    go None e = absurd (none_by written read frame g octets is low e
        (subst (λ a. IfOk a (λ x. IsFrame x read octets)) ok reading.frame))
    go (Some kind) e = elim (reading.each_frame (record frame { kind = kind })
        (frame_by written read frame octets is low kind e)) [
          | inl same ↦ some_same (record frame { kind = kind }) g answer same ok
          | inr memory ↦ absurd (ok_is_no_err g Memory answer ok memory)
        ]

fault_same :
    (fault other : FrameFault) (answer : Result Frame FrameFault) → answer ≡ Err fault → answer ≡ Err other
    → fault ≡ other
fault_same fault other answer one two = subst (λ a. IfErr a (λ x. fault ≡ x)) (sym one ∙ two) refl

-- and one that is refused, for another cause than memory, is none
pub reads_none :
    (written read : Modulus) (frame : Frame) (fault : FrameFault) (octets : List ℕ) (answer : Result Frame FrameFault)
    → IsFrame frame written octets → All (λ o. o < 256) octets → IsReading read octets answer → answer ≡ Err fault
    → (fault ≡ Memory → ⊥) → None ≡ frame_read written read frame
reads_none written read frame fault octets answer is low reading err other =
    go (kind_read written read frame.kind) refl
  where
    go : (o : Option Kind) → kind_read written read frame.kind ≡ o → None ≡ with_kind frame o
    go None e = refl
    go (Some kind) e = elim (reading.each_frame (record frame { kind = kind })
        (frame_by written read frame octets is low kind e)) [
          | inl same ↦ absurd (ok_is_no_err (record frame { kind = kind }) fault answer same err)
          | inr memory ↦ absurd (other (fault_same fault Memory answer err memory))
        ]
