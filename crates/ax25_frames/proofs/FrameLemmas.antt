-- Frames and their faults as wholes.
use Rattle.std.proofs.Common.{◌≡◌, ℕ, ◌+◌, ◌≤◌, ◌⊎◌, List, length, drop, refl, sym, ap, subst, inl, inr, ◌∙◌, Result}
use Rattle.std.proofs.Common.{Ok, Err, IfOk, IfErr, length-append, append_assoc, arith, [], ◌++◌}
use Rattle.std.proofs.lemmas.List.{drop_at}
use Rattle.ax25_address.specs.FramePath.{BeginsWithPath}
use Rattle.ax25_address.specs.PathFault.{ShowsFault}
use Rattle.ax25_address.specs.declared.path.Path.{Path}
use Rattle.ax25_address.specs.declared.fault.AddrFault.{AddrFault}
use Rattle.ax25_address.proofs.OneReading.{no_fault, ShowsFault-same, BeginsWithPath-same}
use Rattle.ax25_address.proofs.Written.{BeginsWithPath-written}
use Rattle.ax25_frames.specs.FrameOctets.{IsFrame, IsWrittenFrame, IsKind, CanWrite, body_octets, control_of}
use Rattle.ax25_frames.specs.FrameOctets.{contents_of, information_of}
use Rattle.ax25_frames.specs.ControlField.{control_octets}
use Rattle.ax25_frames.specs.declared.frame.Modulus.TheVariants.{Eight, OneTwentyEight}
use Rattle.ax25_frames.specs.declared.frame.Kind.TheVariants.{Info, Super, Setup, Ui, Other}
use Rattle.ax25_frames.specs.declared.control.Control.{Control}
use Rattle.ax25_frames.specs.declared.control.Control.TheVariants.{Info as InfoControl, Super as SuperControl}
use Rattle.ax25_frames.specs.declared.control.Control.TheVariants.{Unnumbered}
use Rattle.ax25_frames.specs.FrameFault.{BodyFault, FollowsPath, ShowsFrameFault}
use Rattle.ax25_frames.specs.Verdict.{Outcome, IsOneKind}
use Rattle.ax25_frames.specs.declared.frame.Modulus.{Modulus}
use Rattle.ax25_frames.specs.declared.frame.Frame.{Frame}
use Rattle.ax25_frames.specs.declared.frame.Kind.{Kind}
use Rattle.ax25_frames.specs.declared.fault.FrameFault.{FrameFault}
use Rattle.ax25_frames.specs.declared.fault.FrameFault.TheVariants.{Address, NoControl, NoPid, UnknownControl}
use Rattle.ax25_frames.specs.declared.fault.FrameFault.TheVariants.{InfoTooLong, StrayInfo, Memory}

abbrev pub Reading : Type 0
Reading = Result Frame FrameFault

abbrev err : FrameFault → Reading
err fault = Err fault

-- an answer that is right but for want of memory, and the only one
pub record IsOneFrame (modulus : Modulus) (octets : List ℕ) (answer : Reading) : Type 0 where
  pub frame : IfOk answer (λ frame. IsFrame frame modulus octets)
  pub fault : IfErr answer (λ fault. (fault ≡ Memory) ⊎ ShowsFrameFault modulus octets fault)
  pub each_frame : (frame : Frame) → IsFrame frame modulus octets → (answer ≡ Ok frame) ⊎ (answer ≡ Err Memory)
  pub each_fault : (fault : FrameFault) → ShowsFrameFault modulus octets fault → answer ≡ Err fault

-- a fault of the address is the only answer
pub IsOneFrame-address : (modulus : Modulus) (octets : List ℕ) (fault : AddrFault) → ShowsFault octets fault
    → IsOneFrame modulus octets (Err (Address fault))
IsOneFrame-address modulus octets fault h = record {
  frame = tt;
  fault = inr h;
  each_frame = λ frame g. absurd (no_fault octets frame.path g.len fault g.path h);
  each_fault = only;
}
  where
    only : (other : FrameFault) → ShowsFrameFault modulus octets other → err (Address fault) ≡ Err other
    only (Address other) g = ap (λ f. err (Address f)) (ShowsFault-same octets fault other h g)
    only (NoControl at) g = absurd (no_fault octets g.path g.len fault g.begins h)
    only (NoPid at) g = absurd (no_fault octets g.path g.len fault g.begins h)
    only (UnknownControl octet) g = absurd (no_fault octets g.path g.len fault g.begins h)
    only (InfoTooLong len) g = absurd (no_fault octets g.path g.len fault g.begins h)
    only (StrayInfo at) g = absurd (no_fault octets g.path g.len fault g.begins h)
    only Memory g = absurd (no_fault octets g.path g.len fault g.begins h)

-- a fault after the address is one of the frame
shows_following : (modulus : Modulus) (octets : List ℕ) (path : Path) (len : ℕ) (fault : FrameFault)
    → BeginsWithPath octets path len → BodyFault modulus (drop len octets) len fault
    → ShowsFrameFault modulus octets fault
shows_following modulus octets path len (Address fault) b h = absurd h
shows_following modulus octets path len (NoControl at) b h = record { path = path; len = len; begins = b; shows = h }
shows_following modulus octets path len (NoPid at) b h = record { path = path; len = len; begins = b; shows = h }
shows_following modulus octets path len (UnknownControl octet) b h =
    record { path = path; len = len; begins = b; shows = h }
shows_following modulus octets path len (InfoTooLong n) b h = record { path = path; len = len; begins = b; shows = h }
shows_following modulus octets path len (StrayInfo at) b h = record { path = path; len = len; begins = b; shows = h }
shows_following modulus octets path len Memory b h = absurd h

-- and the other way round, after the one address
following : (modulus : Modulus) (octets : List ℕ) (path : Path) (len : ℕ) (fault : FrameFault)
    → BeginsWithPath octets path len → FollowsPath modulus octets fault → BodyFault modulus (drop len octets) len fault
following modulus octets path len fault b g =
    subst (λ (n : ℕ). BodyFault modulus (drop n octets) n fault)
    (BeginsWithPath-same octets g.path path g.len len g.begins b).1 g.shows

body_fault : (modulus : Modulus) (octets : List ℕ) (path : Path) (len : ℕ) (fault : FrameFault)
    → BeginsWithPath octets path len → ShowsFrameFault modulus octets fault
    → BodyFault modulus (drop len octets) len fault
body_fault modulus octets path len (Address fault) b h = absurd (no_fault octets path len fault b h)
body_fault modulus octets path len (NoControl at) b h = following modulus octets path len (NoControl at) b h
body_fault modulus octets path len (NoPid at) b h = following modulus octets path len (NoPid at) b h
body_fault modulus octets path len (UnknownControl octet) b h =
    following modulus octets path len (UnknownControl octet) b h
body_fault modulus octets path len (InfoTooLong n) b h = following modulus octets path len (InfoTooLong n) b h
body_fault modulus octets path len (StrayInfo at) b h = following modulus octets path len (StrayInfo at) b h
body_fault modulus octets path len Memory b h = following modulus octets path len Memory b h

abbrev frame_of : Path → Kind → Frame
frame_of path kind = record { path = path; kind = kind }

-- the one kind of frame after the address makes the one frame
pub IsOneFrame-kind : (modulus : Modulus) (octets : List ℕ) (path : Path) (len : ℕ) (kind : Kind)
    → BeginsWithPath octets path len → IsOneKind modulus (drop len octets) len (Ok kind)
    → IsOneFrame modulus octets (Ok (record { path = path; kind = kind }))
IsOneFrame-kind modulus octets path len kind b h = record {
  frame = record { len = len; path = b; kind = h.kind.0; body = h.kind.1 };
  fault = tt;
  each_frame = λ frame g.
      let same = BeginsWithPath-same octets path frame.path len g.len b g.path in
      let ok : Path → Kind → Reading = λ p k. Ok (frame_of p k) in
      elim (h.each_kind frame.kind g.kind (subst (λ (n : ℕ). drop n octets ≡ body_octets modulus frame.kind)
      (sym same.1) g.body)) [
        | inl e ↦ inl (ap (λ p. ok p kind) same.0 ∙ ap (λ k. ok frame.path k) (same_kind kind frame.kind e))
        | inr e ↦ absurd (ok_is_no_err kind Memory e)
      ];
  each_fault = λ fault g. absurd (ok_is_no_err kind fault
      (h.each_fault fault (body_fault modulus octets path len fault b g)));
}
  where
    same_kind : (k j : Kind) → ◌≡◌ {A = Outcome} (Ok k) (Ok j) → k ≡ j
    same_kind k j e = cc

    ok_is_no_err : (k : Kind) (fault : FrameFault) → ◌≡◌ {A = Outcome} (Ok k) (Err fault) → ⊥
    ok_is_no_err k fault e = cc

-- and its fault the one fault
pub IsOneFrame-fault : (modulus : Modulus) (octets : List ℕ) (path : Path) (len : ℕ) (fault : FrameFault)
    → BeginsWithPath octets path len → IsOneKind modulus (drop len octets) len (Err fault)
    → IsOneFrame modulus octets (Err fault)
IsOneFrame-fault modulus octets path len fault b h = record {
  frame = tt;
  fault = elim h.fault [
    | inl memory ↦ inl memory
    | inr shows ↦ inr (shows_following modulus octets path len fault b shows)
  ];
  each_frame = λ frame g.
      let same = BeginsWithPath-same octets path frame.path len g.len b g.path in
      elim (h.each_kind frame.kind g.kind (subst (λ (n : ℕ). drop n octets ≡ body_octets modulus frame.kind)
      (sym same.1) g.body)) [
        | inl e ↦ absurd (err_is_no_ok fault frame.kind e)
        | inr e ↦ inr (ap err (same_fault fault Memory e))
      ];
  each_fault = λ other g. ap err (same_fault fault other
      (h.each_fault other (body_fault modulus octets path len other b g)));
}
  where
    same_fault : (f g : FrameFault) → ◌≡◌ {A = Outcome} (Err f) (Err g) → f ≡ g
    same_fault f g e = cc

    err_is_no_ok : (f : FrameFault) (k : Kind) → ◌≡◌ {A = Outcome} (Err f) (Ok k) → ⊥
    err_is_no_ok f k e = cc

-- what is written is read again
pub IsFrame-written : (frame : Frame) (modulus : Modulus) (octets : List ℕ) → IsKind modulus frame.kind
    → IsWrittenFrame frame modulus octets → IsFrame frame modulus octets
IsFrame-written frame modulus octets valid h = record {
  len = length h.address;
  path = subst (λ (xs : List ℕ). BeginsWithPath xs frame.path (length h.address)) (sym h.spelling)
      (BeginsWithPath-written frame.path h.address (body_octets modulus frame.kind) h.path);
  kind = valid;
  body = ap (λ xs. drop (length h.address) xs) h.spelling
      ∙ drop_at h.address (body_octets modulus frame.kind) (length h.address) refl;
}

length-control : (modulus : Modulus) (control : Control) → (1 ≤ length (control_octets modulus control))
    × (length (control_octets modulus control) ≤ 2)
length-control Eight (InfoControl ns nr poll) = (omega arith, omega arith)
length-control Eight (SuperControl which nr flag) = (omega arith, omega arith)
length-control Eight (Unnumbered which flag) = (omega arith, omega arith)
length-control OneTwentyEight (InfoControl ns nr poll) = (omega arith, omega arith)
length-control OneTwentyEight (SuperControl which nr flag) = (omega arith, omega arith)
length-control OneTwentyEight (Unnumbered which flag) = (omega arith, omega arith)

length-contents : (kind : Kind) → length (contents_of kind) ≤ length (information_of kind) + 1
length-contents (Info ns nr poll pid octets) = omega arith
length-contents (Super which nr flag) = omega arith
length-contents (Setup which flag) = omega arith
length-contents (Ui flag pid octets) = omega arith
length-contents (Other which flag octets) = omega arith

-- what is written has 15 to 1010 octets
pub length-written : (frame : Frame) (modulus : Modulus) (octets : List ℕ) → CanWrite modulus frame
    → IsWrittenFrame frame modulus octets → (15 ≤ length octets) × (length octets ≤ 1010)
length-written frame modulus octets can h =
    let control = length-control modulus (control_of frame.kind) in
    let contents = length-contents frame.kind in
    let body : length (body_octets modulus frame.kind)
    ≡ length (control_octets modulus (control_of frame.kind)) + length (contents_of frame.kind) =
    length-append (control_octets modulus (control_of frame.kind)) (contents_of frame.kind) in
    let whole : length octets ≡ length h.address + length (body_octets modulus frame.kind) = ap length h.spelling
    ∙ length-append h.address (body_octets modulus frame.kind) in (
      omega (arith, h.path.size, body, whole, control.0),
      omega (arith, h.path.size, h.path.count, body, whole, control.1, contents, can.room),
    )

-- three parts, one appended after the other
pub three_parts : (empty first second whole a b d : List ℕ) → empty ≡ [] → first ≡ empty ++ a → second ≡ first ++ b
    → whole ≡ second ++ d → whole ≡ a ++ (b ++ d)
three_parts empty first second whole a b d none one two three =
    three ∙ ap (λ xs. xs ++ d) (two ∙ ap (λ xs. xs ++ b) (one ∙ ap (λ xs. xs ++ a) none)) ∙ append_assoc a b d
