-- Control fields octet by octet.
use Rattle.std.proofs.Common.{◌≡◌, ◌≢◌, ℕ, zero, suc, ◌+◌, ◌*◌, ◌/◌, ◌%◌, ◌<◌, ◌≤◌, ◌⊎◌, ◌++◌, ◌==◌, if◌then◌else◌}
use Rattle.std.proofs.Common.{List, [], ◌∷◌, refl, sym, ap, arith, inl, inr, ◌∙◌, Bool, false}
use Rattle.ax25_address.specs.AddressField.{bit}
use Rattle.ax25_address.proofs.FieldLemmas.{bit_small, bit_same}
use Rattle.ax25_frames.specs.FrameFault.{LacksControl}
use Rattle.ax25_frames.specs.ControlField.{control_octets, IsNumbered, supervisory_code, unnumbered_code}
use Rattle.ax25_frames.specs.declared.frame.Modulus.{Modulus}
use Rattle.ax25_frames.specs.declared.frame.Modulus.TheVariants.{Eight, OneTwentyEight}
use Rattle.ax25_frames.specs.declared.frame.S.{S}
use Rattle.ax25_frames.specs.declared.frame.S.TheVariants.{Rr, Rnr, Rej, Srej}
use Rattle.ax25_frames.specs.declared.frame.U.TheVariants.{Sabm, Sabme, Disc, Dm, Ua}
use Rattle.ax25_frames.specs.declared.frame.W.TheVariants.{Frmr, Xid, Test}
use Rattle.ax25_frames.specs.declared.control.Control.{Control}
use Rattle.ax25_frames.specs.declared.control.Control.TheVariants.{Info, Super, Unnumbered}
use Rattle.ax25_frames.specs.declared.control.Unnumbered.{Unnumbered as UFrame}
use Rattle.ax25_frames.specs.declared.control.Unnumbered.TheVariants.{Setup, Ui, Other}

-- the code of an unnumbered frame ends in 11, and its P/F bit is 0
pub record IsUnnumberedCode (code : ℕ) : Type 0 where
  pub clear : code / 16 % 2 ≡ 0
  pub low : code % 4 ≡ 3

pub IsUnnumberedCode-of : (which : UFrame) → IsUnnumberedCode (unnumbered_code which)
IsUnnumberedCode-of (Setup Sabm) = record { clear = refl; low = refl }
IsUnnumberedCode-of (Setup Sabme) = record { clear = refl; low = refl }
IsUnnumberedCode-of (Setup Disc) = record { clear = refl; low = refl }
IsUnnumberedCode-of (Setup Dm) = record { clear = refl; low = refl }
IsUnnumberedCode-of (Setup Ua) = record { clear = refl; low = refl }
IsUnnumberedCode-of Ui = record { clear = refl; low = refl }
IsUnnumberedCode-of (Other Frmr) = record { clear = refl; low = refl }
IsUnnumberedCode-of (Other Xid) = record { clear = refl; low = refl }
IsUnnumberedCode-of (Other Test) = record { clear = refl; low = refl }

-- the frame of a code
abbrev frame_of_code : ℕ → UFrame
frame_of_code code =
    if code == 47 then Setup Sabm
    else if code == 111 then Setup Sabme
    else if code == 67 then Setup Disc
    else if code == 15 then Setup Dm
    else if code == 99 then Setup Ua
    else if code == 3 then Ui
    else if code == 135 then Other Frmr
    else if code == 175 then Other Xid
    else Other Test

code_back : (which : UFrame) → frame_of_code (unnumbered_code which) ≡ which
code_back (Setup Sabm) = refl
code_back (Setup Sabme) = refl
code_back (Setup Disc) = refl
code_back (Setup Dm) = refl
code_back (Setup Ua) = refl
code_back Ui = refl
code_back (Other Frmr) = refl
code_back (Other Xid) = refl
code_back (Other Test) = refl

-- a code stands for one unnumbered frame
pub unnumbered_same : (v w : UFrame) → unnumbered_code v ≡ unnumbered_code w → v ≡ w
unnumbered_same v w e = sym (code_back v) ∙ ap (λ code. frame_of_code code) e ∙ code_back w

abbrev frame_of_bits : ℕ → S
frame_of_bits code = if code == 0 then Rr else if code == 1 then Rnr else if code == 2 then Rej else Srej

bits_back : (which : S) → frame_of_bits (supervisory_code which) ≡ which
bits_back Rr = refl
bits_back Rnr = refl
bits_back Rej = refl
bits_back Srej = refl

-- two bits stand for one supervisory frame
pub supervisory_same : (v w : S) → supervisory_code v ≡ supervisory_code w → v ≡ w
supervisory_same v w e = sym (bits_back v) ∙ ap (λ code. frame_of_bits code) e ∙ bits_back w

pub supervisory_small : (which : S) → supervisory_code which < 4
supervisory_small Rr = omega arith
supervisory_small Rnr = omega arith
supervisory_small Rej = omega arith
supervisory_small Srej = omega arith

info_same : (ns nr ms mr : ℕ) (p q : Bool) → ns ≡ ms → nr ≡ mr → p ≡ q → Info ns nr p ≡ Info ms mr q
info_same ns nr ms mr p q a b d = ap (λ n. Info n nr p) a ∙ ap (λ n. Info ms n p) b ∙ ap (λ f. Info ms mr f) d

super_same : (v w : S) (nr mr : ℕ) (p q : Bool) → v ≡ w → nr ≡ mr → p ≡ q → Super v nr p ≡ Super w mr q
super_same v w nr mr p q a b d = ap (λ s. Super s nr p) a ∙ ap (λ n. Super w n p) b ∙ ap (λ f. Super w mr f) d

u_same : (v w : UFrame) (p q : Bool) → v ≡ w → p ≡ q → Unnumbered v p ≡ Unnumbered w q
u_same v w p q a d = ap (λ s. Unnumbered s p) a ∙ ap (λ f. Unnumbered w f) d

one_octet : (o p : ℕ) (x y : List ℕ) → o ∷ x ≡ p ∷ y → (o ≡ p) × (x ≡ y)
one_octet o p x y e = (cc, cc)

two_octets : (o o2 p p2 : ℕ) (x y : List ℕ) → o ∷ o2 ∷ x ≡ p ∷ p2 ∷ y → (o ≡ p) × (o2 ≡ p2) × (x ≡ y)
two_octets o o2 p p2 x y e = (cc, cc, cc)

-- an unnumbered frame's octet is that of one frame and one P/F bit
u_octets : (v w : UFrame) (p q : Bool) → unnumbered_code v + 16 * bit p ≡ unnumbered_code w + 16 * bit q
    → Unnumbered v p ≡ Unnumbered w q
u_octets v w p q e =
    let a = IsUnnumberedCode-of v in
    let b = IsUnnumberedCode-of w in
    u_same v w p q (unnumbered_same v w (omega (arith, a.clear, b.clear, bit_small p, bit_small q)))
    (bit_same p q (omega (arith, a.clear, b.clear, bit_small p, bit_small q)))

-- octets begin with at most one control field
pub control_same : (modulus : Modulus) (a b : Control) (x y : List ℕ) → IsNumbered modulus a → IsNumbered modulus b
    → control_octets modulus a ++ x ≡ control_octets modulus b ++ y → (a ≡ b) × (x ≡ y)
control_same Eight (Info ns nr p) (Info ms mr q) x y h g e =
    let o = one_octet _ _ x y e in (
      info_same ns nr ms mr p q (omega (arith, o.0, bit_small p, bit_small q))
          (omega (arith, o.0, bit_small p, bit_small q)) (bit_same p q (omega (arith, o.0, bit_small p, bit_small q))),
      o.1,
    )
control_same Eight (Info ns nr p) (Super w mr q) x y h g e = let o = one_octet _ _ x y e in absurd (omega (arith, o.0))
control_same Eight (Info ns nr p) (Unnumbered w q) x y h g e = let o = one_octet _ _ x y e in
    absurd (omega (arith, o.0, (IsUnnumberedCode-of w).low))
control_same Eight (Super v nr p) (Info ms mr q) x y h g e = let o = one_octet _ _ x y e in absurd (omega (arith, o.0))
control_same Eight (Super v nr p) (Super w mr q) x y h g e =
    let o = one_octet _ _ x y e in
    let s = supervisory_small v in
    let t = supervisory_small w in (
      super_same v w nr mr p q (supervisory_same v w (omega (arith, o.0, bit_small p, bit_small q)))
          (omega (arith, o.0, bit_small p, bit_small q)) (bit_same p q (omega (arith, o.0, bit_small p, bit_small q))),
      o.1,
    )
control_same Eight (Super v nr p) (Unnumbered w q) x y h g e = let o = one_octet _ _ x y e in
    absurd (omega (arith, o.0, (IsUnnumberedCode-of w).low))
control_same Eight (Unnumbered v p) (Info ms mr q) x y h g e = let o = one_octet _ _ x y e in
    absurd (omega (arith, o.0, (IsUnnumberedCode-of v).low))
control_same Eight (Unnumbered v p) (Super w mr q) x y h g e = let o = one_octet _ _ x y e in
    absurd (omega (arith, o.0, (IsUnnumberedCode-of v).low))
control_same Eight (Unnumbered v p) (Unnumbered w q) x y h g e = let o = one_octet _ _ x y e in
    (u_octets v w p q o.0, o.1)
control_same OneTwentyEight (Info ns nr p) (Info ms mr q) x y h g e =
    let o = two_octets _ _ _ _ x y e in (
      info_same ns nr ms mr p q (omega (arith, o.0)) (omega (arith, o.1, bit_small p, bit_small q))
          (bit_same p q (omega (arith, o.1, bit_small p, bit_small q))),
      o.2,
    )
control_same OneTwentyEight (Info ns nr p) (Super w mr q) x y h g e = let o = two_octets _ _ _ _ x y e in
    absurd (omega (arith, o.0))
control_same OneTwentyEight (Info ns nr p) (Unnumbered w q) x y h g e = let o = one_octet _ _ _ y e in
    absurd (omega (arith, o.0, (IsUnnumberedCode-of w).low))
control_same OneTwentyEight (Super v nr p) (Info ms mr q) x y h g e = let o = two_octets _ _ _ _ x y e in
    absurd (omega (arith, o.0))
control_same OneTwentyEight (Super v nr p) (Super w mr q) x y h g e =
    let o = two_octets _ _ _ _ x y e in (
      super_same v w nr mr p q (supervisory_same v w (omega (arith, o.0)))
          (omega (arith, o.1, bit_small p, bit_small q))
          (bit_same p q (omega (arith, o.1, bit_small p, bit_small q))),
      o.2,
    )
control_same OneTwentyEight (Super v nr p) (Unnumbered w q) x y h g e = let o = one_octet _ _ _ y e in
    absurd (omega (arith, o.0, (IsUnnumberedCode-of w).low))
control_same OneTwentyEight (Unnumbered v p) (Info ms mr q) x y h g e = let o = one_octet _ _ x _ e in
    absurd (omega (arith, o.0, (IsUnnumberedCode-of v).low))
control_same OneTwentyEight (Unnumbered v p) (Super w mr q) x y h g e = let o = one_octet _ _ x _ e in
    absurd (omega (arith, o.0, (IsUnnumberedCode-of v).low))
control_same OneTwentyEight (Unnumbered v p) (Unnumbered w q) x y h g e = let o = one_octet _ _ x y e in
    (u_octets v w p q o.0, o.1)

-- a control field has an octet
pub record HasFirst (octets : List ℕ) : Type 0 where
  pub octet : ℕ
  pub more : List ℕ
  pub spelling : octets ≡ octet ∷ more

pub HasFirst-control : (modulus : Modulus) (control : Control) → HasFirst (control_octets modulus control)
HasFirst-control Eight (Info ns nr p) = record { octet = _; more = []; spelling = refl }
HasFirst-control Eight (Super w nr p) = record { octet = _; more = []; spelling = refl }
HasFirst-control Eight (Unnumbered w p) = record { octet = _; more = []; spelling = refl }
HasFirst-control OneTwentyEight (Info ns nr p) = record { octet = _; more = _; spelling = refl }
HasFirst-control OneTwentyEight (Super w nr p) = record { octet = _; more = _; spelling = refl }
HasFirst-control OneTwentyEight (Unnumbered w p) = record { octet = _; more = []; spelling = refl }

-- if no octet is there, a control field is missing
pub LacksControl-none : (modulus : Modulus) (body : List ℕ) → body ≡ [] → LacksControl modulus body
LacksControl-none Eight body e = record {
  control = Unnumbered Ui false;
  numbered = tt;
  missing = 3 ∷ [];
  some = omega arith;
  spelling = ap (λ xs. xs ++ 3 ∷ []) (sym e);
}
LacksControl-none OneTwentyEight body e = record {
  control = Unnumbered Ui false;
  numbered = tt;
  missing = 3 ∷ [];
  some = omega arith;
  spelling = ap (λ xs. xs ++ 3 ∷ []) (sym e);
}

bits_there : (n : ℕ) → n < 4 → supervisory_code (frame_of_bits n) ≡ n
bits_there zero h = refl
bits_there (suc zero) h = refl
bits_there (suc (suc zero)) h = refl
bits_there (suc (suc (suc zero))) h = refl
bits_there (suc (suc (suc (suc n)))) h = absurd (omega arith)

-- and the second octet after one that begins an I or an S frame modulo 128
pub LacksControl-one : (o : ℕ) (body : List ℕ) → o < 256 → (o % 4 ≡ 3 → ⊥) → ((o % 4 ≡ 1) × (o ≤ 13)) ⊎ (o % 4 ≢ 1)
    → body ≡ o ∷ [] → LacksControl OneTwentyEight body
LacksControl-one o body small other way e = elim way [
  | inl s ↦ (let code : supervisory_code (frame_of_bits (o / 4)) ≡ o / 4 = bits_there (o / 4) (omega arith) in
      let same : 4 * supervisory_code (frame_of_bits (o / 4)) + 1 ≡ o = omega (arith, code) in
      record {
        control = Super (frame_of_bits (o / 4)) 0 false;
        numbered = omega arith;
        missing = 0 ∷ [];
        some = omega arith;
        spelling = ap (λ x. x ∷ 0 ∷ []) same ∙ ap (λ xs. xs ++ 0 ∷ []) (sym e);
      })
  | inr i ↦ (let same : 2 * (o / 2) ≡ o = omega arith in
      record {
        control = Info (o / 2) 0 false;
        numbered = (omega arith, omega arith);
        missing = 0 ∷ [];
        some = omega arith;
        spelling = ap (λ x. x ∷ 0 ∷ []) same ∙ ap (λ xs. xs ++ 0 ∷ []) (sym e);
      })
]
