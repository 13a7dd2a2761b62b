-- What stands after an address is one kind of frame or shows one fault.
use Rattle.std.proofs.Common.{◌≡◌, ℕ, ◌+◌, ◌<◌, ◌⊎◌, ◌++◌, if◌then◌else◌, List, [], ◌∷◌, length, refl, sym, ap, subst}
use Rattle.std.proofs.Common.{arith, inl, inr, ◌∙◌, Bool, true, false, leb, Ok, Err, append_assoc, append-nil}
use Rattle.std.proofs.Common.{length-append, IsOk}
use Rattle.std.proofs.lemmas.Bool.{cases_lt, false≢true}
use Rattle.std.proofs.lemmas.Bool.Decides.{nat_tests}
use Rattle.ax25_frames.specs.ControlField.{control_octets, IsNumbered}
use Rattle.ax25_frames.specs.FrameOctets.{body_octets, IsKind}
use Rattle.ax25_frames.specs.FrameFault.{BodyFault, LacksControl, BeginsUnknown, IsTooLong, HasPid, EndsFrame}
use Rattle.ax25_frames.specs.declared.frame.Modulus.{Modulus}
use Rattle.ax25_frames.specs.declared.frame.Kind.{Kind}
use Rattle.ax25_frames.specs.declared.frame.Kind.TheVariants.{Info, Super, Setup, Ui, Other}
use Rattle.ax25_frames.specs.declared.fault.FrameFault.{FrameFault}
use Rattle.ax25_frames.specs.declared.fault.FrameFault.TheVariants.{Address, NoControl, NoPid, UnknownControl}
use Rattle.ax25_frames.specs.declared.fault.FrameFault.TheVariants.{InfoTooLong, StrayInfo, Memory}
use Rattle.ax25_frames.specs.declared.control.Control.{Control}
use Rattle.ax25_frames.specs.declared.control.Control.TheVariants.{Info as InfoControl, Super as SuperControl}
use Rattle.ax25_frames.specs.declared.control.Control.TheVariants.{Unnumbered}
use Rattle.ax25_frames.specs.declared.control.Unnumbered.TheVariants.{Setup as SetupFrame, Ui as UiFrame}
use Rattle.ax25_frames.specs.declared.control.Unnumbered.TheVariants.{Other as OtherFrame}
use Rattle.ax25_frames.specs.Verdict.{Outcome, IsVerdict, verdict, IsOneKind}
use Rattle.ax25_frames.proofs.ControlLemmas.{control_same, HasFirst-control}

-- the outcome is right
abbrev pub IsOutcome : Modulus → List ℕ → ℕ → Outcome → Type 0
IsOutcome modulus body start (Ok kind) = IsKind modulus kind × (body ≡ body_octets modulus kind)
IsOutcome modulus body start (Err fault) = BodyFault modulus body start fault

-- a whole control field, and the outcome by what stands after it
record HasControl (modulus : Modulus) (body : List ℕ) (start : ℕ) (outcome : Outcome) : Type 0 where
  control : Control
  rest : List ℕ
  numbered : IsNumbered modulus control
  spelling : body ≡ control_octets modulus control ++ rest
  says : outcome ≡ verdict (start + length body) (start + length (control_octets modulus control)) control rest

-- an octet that begins none
record IsUnknown (modulus : Modulus) (body : List ℕ) (outcome : Outcome) : Type 0 where
  octet : ℕ
  begins : BeginsUnknown modulus body octet
  says : outcome ≡ Err (UnknownControl octet)

-- the ways to an outcome
abbrev Way : Modulus → List ℕ → ℕ → Outcome → Type 0
Way modulus body start outcome =
    (LacksControl modulus body × (outcome ≡ Err (NoControl (start + length body))))
    ⊎ (IsUnknown modulus body outcome ⊎ HasControl modulus body start outcome)

abbrev err : FrameFault → Outcome
err fault = Err fault

way_of_pid : (modulus : Modulus) (body : List ℕ) (start : ℕ) (control : Control) → IsNumbered modulus control
    → HasPid control → body ≡ control_octets modulus control
    → HasControl modulus body start (Err (NoPid (start + length body)))
way_of_pid modulus body start (InfoControl ns nr poll) n h e =
    record { control = InfoControl ns nr poll; rest = []; numbered = n; spelling = e ∙ sym (append-nil _); says = refl }
way_of_pid modulus body start (SuperControl which nr flag) n h e = absurd h
way_of_pid modulus body start (Unnumbered (SetupFrame which) flag) n h e = absurd h
way_of_pid modulus body start (Unnumbered UiFrame flag) n h e =
    record {
      control = Unnumbered UiFrame flag;
      rest = [];
      numbered = n;
      spelling = e ∙ sym (append-nil _);
      says = refl;
    }
way_of_pid modulus body start (Unnumbered (OtherFrame which) flag) n h e = absurd h

way_of_stray : (modulus : Modulus) (body : List ℕ) (start : ℕ) (control : Control) (stray : List ℕ)
    → IsNumbered modulus control → EndsFrame control → 0 < length stray → body ≡ control_octets modulus control ++ stray
    → HasControl modulus body start (Err (StrayInfo (start + length (control_octets modulus control))))
way_of_stray modulus body start control [] n h some e = absurd (omega arith)
way_of_stray modulus body start (InfoControl ns nr poll) (x ∷ rest) n h some e = absurd h
way_of_stray modulus body start (SuperControl which nr flag) (x ∷ rest) n h some e =
    record { control = SuperControl which nr flag; rest = x ∷ rest; numbered = n; spelling = e; says = refl }
way_of_stray modulus body start (Unnumbered (SetupFrame which) flag) (x ∷ rest) n h some e =
    record { control = Unnumbered (SetupFrame which) flag; rest = x ∷ rest; numbered = n; spelling = e; says = refl }
way_of_stray modulus body start (Unnumbered UiFrame flag) (x ∷ rest) n h some e = absurd h
way_of_stray modulus body start (Unnumbered (OtherFrame which) flag) (x ∷ rest) n h some e = absurd h

way_of_kind : (modulus : Modulus) (body : List ℕ) (start : ℕ) (kind : Kind) → IsKind modulus kind
    → body ≡ body_octets modulus kind → HasControl modulus body start (Ok kind)
way_of_kind modulus body start (Info ns nr poll pid octets) h e =
    let short : leb (length octets) 256 ≡ true = let fits = h.fits in grind (arith, nat_tests) in
    record {
      control = InfoControl ns nr poll;
      rest = pid ∷ octets;
      numbered = h.numbered;
      spelling = e;
      says = ap (λ t. if t then Ok (Info ns nr poll pid octets) else err (InfoTooLong (length octets))) (sym short);
    }
way_of_kind modulus body start (Super which nr flag) h e =
    record { control = SuperControl which nr flag; rest = []; numbered = h.numbered; spelling = e; says = refl }
way_of_kind modulus body start (Setup which flag) h e =
    record { control = Unnumbered (SetupFrame which) flag; rest = []; numbered = h.numbered; spelling = e; says = refl }
way_of_kind modulus body start (Ui flag pid octets) h e =
    record { control = Unnumbered UiFrame flag; rest = pid ∷ octets; numbered = h.numbered; spelling = e; says = refl }
way_of_kind modulus body start (Other which flag octets) h e =
    record {
      control = Unnumbered (OtherFrame which) flag;
      rest = octets;
      numbered = h.numbered;
      spelling = e;
      says = refl;
    }

way_of_long : (modulus : Modulus) (body : List ℕ) (start len : ℕ) → IsTooLong modulus body len
    → HasControl modulus body start (Err (InfoTooLong len))
way_of_long modulus body start len h =
    let long : leb (length h.information) 256 ≡ false = let more = h.long in let same = h.count in
    grind (arith, nat_tests) in
    record {
      control = InfoControl h.ns h.nr h.poll;
      rest = h.pid ∷ h.information;
      numbered = h.numbered;
      spelling = h.spelling;
      says = ap (λ n. err (InfoTooLong n)) h.count ∙ ap (λ t. if t then Ok (Info h.ns h.nr h.poll h.pid h.information)
          else err (InfoTooLong (length h.information))) (sym long);
    }

way_of : (modulus : Modulus) (body : List ℕ) (start : ℕ) (outcome : Outcome) → IsOutcome modulus body start outcome
    → Way modulus body start outcome
way_of modulus body start (Ok kind) h = inr (inr (way_of_kind modulus body start kind h.0 h.1))
way_of modulus body start (Err (Address fault)) h = absurd h
way_of modulus body start (Err (NoControl at)) h = inl (h.1, ap (λ n. err (NoControl n)) h.0)
way_of modulus body start (Err (NoPid at)) h =
    inr (inr (subst (λ (n : ℕ). HasControl modulus body start (Err (NoPid n))) (sym h.0)
    (way_of_pid modulus body start h.1.control h.1.numbered h.1.wanted h.1.spelling)))
way_of modulus body start (Err (UnknownControl octet)) h = inr (inl (record { octet = octet; begins = h; says = refl }))
way_of modulus body start (Err (InfoTooLong len)) h = inr (inr (way_of_long modulus body start len h))
way_of modulus body start (Err (StrayInfo at)) h =
    inr (inr (subst (λ (n : ℕ). HasControl modulus body start (Err (StrayInfo n)))
    (sym (h.1 ∙ ap (λ n. start + n) h.2.here))
    (way_of_stray modulus body start h.2.control h.2.stray h.2.numbered h.2.ends h.2.some h.2.spelling)))
way_of modulus body start (Err Memory) h = absurd h

lacks_not_has : (modulus : Modulus) (body : List ℕ) (start : ℕ) (outcome : Outcome) → LacksControl modulus body
    → HasControl modulus body start outcome → ⊥
lacks_not_has modulus body start outcome l h =
    let e : control_octets modulus l.control ++ [] ≡ control_octets modulus h.control ++ (h.rest ++ l.missing) =
    append-nil _ ∙ l.spelling ∙ ap (λ xs. xs ++ l.missing) h.spelling
    ∙ append_assoc (control_octets modulus h.control) h.rest l.missing in
    let none : [] ≡ h.rest ++ l.missing =
    (control_same modulus l.control h.control [] (h.rest ++ l.missing) l.numbered h.numbered e).1 in
    omega (arith, l.some, length-append h.rest l.missing, ap length none)

unknown_not_has : (modulus : Modulus) (body : List ℕ) (start : ℕ) (a b : Outcome) → IsUnknown modulus body a
    → HasControl modulus body start b → ⊥
unknown_not_has modulus body start a b u h =
    let first = HasFirst-control modulus h.control in
    let e : u.octet ∷ u.begins.rest ≡ first.octet ∷ (first.more ++ h.rest) = sym u.begins.first ∙ h.spelling
    ∙ ap (λ xs. xs ++ h.rest) first.spelling in
    let same : first.octet ≡ u.octet = cc in
    u.begins.unknown h.control first.more h.numbered (first.spelling ∙ ap (λ o. o ∷ first.more) same)

lacks_not_unknown : (modulus : Modulus) (body : List ℕ) (a : Outcome) → LacksControl modulus body
    → IsUnknown modulus body a → ⊥
lacks_not_unknown modulus body a l u = u.begins.unknown l.control (u.begins.rest ++ l.missing) l.numbered (l.spelling
    ∙ ap (λ xs. xs ++ l.missing) u.begins.first)

same_unknown : (modulus : Modulus) (body : List ℕ) (a b : Outcome) → IsUnknown modulus body a → IsUnknown modulus body b
    → a ≡ b
same_unknown modulus body a b u v =
    let e : u.octet ∷ u.begins.rest ≡ v.octet ∷ v.begins.rest = sym u.begins.first ∙ v.begins.first in
    let same : u.octet ≡ v.octet = cc in
    u.says ∙ ap (λ o. err (UnknownControl o)) same ∙ sym v.says

same_has : (modulus : Modulus) (body : List ℕ) (start : ℕ) (a b : Outcome) → HasControl modulus body start a
    → HasControl modulus body start b → a ≡ b
same_has modulus body start a b h g =
    let same = control_same modulus h.control g.control h.rest g.rest h.numbered g.numbered (sym h.spelling
    ∙ g.spelling) in
    h.says ∙ ap (λ c. verdict (start + length body) (start + length (control_octets modulus c)) c h.rest) same.0
    ∙ ap (λ r. verdict (start + length body) (start + length (control_octets modulus g.control)) g.control r) same.1
    ∙ sym g.says

-- there is one outcome
pub IsOutcome-same : (modulus : Modulus) (body : List ℕ) (start : ℕ) (a b : Outcome) → IsOutcome modulus body start a
    → IsOutcome modulus body start b → a ≡ b
IsOutcome-same modulus body start a b h g =
    elim (way_of modulus body start a h) [
      | inl l ↦ elim (way_of modulus body start b g) [
        | inl m ↦ l.1 ∙ sym m.1
        | inr (inl u) ↦ absurd (lacks_not_unknown modulus body b l.0 u)
        | inr (inr w) ↦ absurd (lacks_not_has modulus body start b l.0 w)
      ]
      | inr (inl u) ↦ elim (way_of modulus body start b g) [
        | inl m ↦ absurd (lacks_not_unknown modulus body a m.0 u)
        | inr (inl v) ↦ same_unknown modulus body a b u v
        | inr (inr w) ↦ absurd (unknown_not_has modulus body start a b u w)
      ]
      | inr (inr c) ↦ elim (way_of modulus body start b g) [
        | inl m ↦ absurd (lacks_not_has modulus body start a m.0 c)
        | inr (inl v) ↦ absurd (unknown_not_has modulus body start b a v c)
        | inr (inr w) ↦ same_has modulus body start a b c w
      ]
    ]

-- the verdict is right
pub IsOutcome-verdict : (modulus : Modulus) (body : List ℕ) (start : ℕ) (control : Control) (rest : List ℕ)
    → IsNumbered modulus control → body ≡ control_octets modulus control ++ rest
    → IsOutcome modulus body start (verdict (start + length body) (start + length (control_octets modulus control))
    control rest)
IsOutcome-verdict modulus body start (InfoControl ns nr poll) [] n e =
    (refl, record { control = InfoControl ns nr poll; numbered = n; wanted = tt; spelling = e ∙ append-nil _ })
IsOutcome-verdict modulus body start (InfoControl ns nr poll) (pid ∷ octets) n e = elim (cases_lt 256 (length octets)) [
  | inl long ↦ (let t : leb (length octets) 256 ≡ false = grind (arith, nat_tests) in
      subst (λ (b : Bool). IsOutcome modulus body start (if b then Ok (Info ns nr poll pid octets)
      else Err (InfoTooLong (length octets)))) (sym t)
      (record {
        ns = ns;
        nr = nr;
        poll = poll;
        pid = pid;
        information = octets;
        numbered = n;
        spelling = e;
        count = refl;
        long = long;
      }))
  | inr fits ↦ (let t : leb (length octets) 256 ≡ true = grind (arith, nat_tests) in
      subst (λ (b : Bool). IsOutcome modulus body start (if b then Ok (Info ns nr poll pid octets)
      else Err (InfoTooLong (length octets)))) (sym t)
      (record { numbered = n; fits = fits }, e))
]
IsOutcome-verdict modulus body start (SuperControl which nr flag) [] n e = (record { numbered = n; fits = tt }, e)
IsOutcome-verdict modulus body start (SuperControl which nr flag) (x ∷ rest) n e = (
  _,
  refl,
  record {
    control = SuperControl which nr flag;
    numbered = n;
    ends = tt;
    stray = x ∷ rest;
    some = omega arith;
    spelling = e;
    here = refl;
  },
)
IsOutcome-verdict modulus body start (Unnumbered (SetupFrame which) flag) [] n e =
    (record { numbered = n; fits = tt }, e)
IsOutcome-verdict modulus body start (Unnumbered (SetupFrame which) flag) (x ∷ rest) n e = (
  _,
  refl,
  record {
    control = Unnumbered (SetupFrame which) flag;
    numbered = n;
    ends = tt;
    stray = x ∷ rest;
    some = omega arith;
    spelling = e;
    here = refl;
  },
)
IsOutcome-verdict modulus body start (Unnumbered UiFrame flag) [] n e =
    (refl, record { control = Unnumbered UiFrame flag; numbered = n; wanted = tt; spelling = e ∙ append-nil _ })
IsOutcome-verdict modulus body start (Unnumbered UiFrame flag) (pid ∷ octets) n e =
    (record { numbered = n; fits = tt }, e)
IsOutcome-verdict modulus body start (Unnumbered (OtherFrame which) flag) rest n e =
    (record { numbered = n; fits = tt }, e)

pub IsOneKind-outcome : (modulus : Modulus) (body : List ℕ) (start : ℕ) (outcome : Outcome)
    → IsOutcome modulus body start outcome → IsOneKind modulus body start outcome
IsOneKind-outcome modulus body start (Ok kind) h = record {
  kind = h;
  fault = tt;
  each_kind = λ other valid e. inl (IsOutcome-same modulus body start (Ok kind) (Ok other) h (valid, e));
  each_fault = λ fault shows. IsOutcome-same modulus body start (Ok kind) (Err fault) h shows;
}
IsOneKind-outcome modulus body start (Err fault) h = record {
  kind = tt;
  fault = inr h;
  each_kind = λ other valid e. inl (IsOutcome-same modulus body start (Err fault) (Ok other) h (valid, e));
  each_fault = λ other shows. IsOutcome-same modulus body start (Err fault) (Err other) h shows;
}

no_ok_is_err : (kind : Kind) (fault : FrameFault) → ◌≡◌ {A = Outcome} (Ok kind) (Err fault) → ⊥
no_ok_is_err kind fault e = cc

IsOneKind-memory : (modulus : Modulus) (body : List ℕ) (start : ℕ) (outcome : Outcome) → IsOk outcome
    → IsOutcome modulus body start outcome → IsOneKind modulus body start (Err Memory)
IsOneKind-memory modulus body start (Ok kind) given h = record {
  kind = tt;
  fault = inl refl;
  each_kind = λ other valid e. inr refl;
  each_fault = λ fault shows. absurd (no_ok_is_err kind fault
      (IsOutcome-same modulus body start (Ok kind) (Err fault) h shows));
}
IsOneKind-memory modulus body start (Err fault) given h = absurd (false≢true given)

-- an answer by the verdict
pub IsOneKind-verdict : (modulus : Modulus) (body : List ℕ) (start place : ℕ) (control : Control) (rest : List ℕ)
    (answer : Outcome) → IsNumbered modulus control → body ≡ control_octets modulus control ++ rest
    → place ≡ start + length (control_octets modulus control)
    → IsVerdict answer (verdict (start + length body) place control rest) → IsOneKind modulus body start answer
IsOneKind-verdict modulus body start place control rest answer n e here h =
    let right : IsOutcome modulus body start (verdict (start + length body) place control rest) =
    subst (λ (p : ℕ). IsOutcome modulus body start (verdict (start + length body) p control rest)) (sym here)
    (IsOutcome-verdict modulus body start control rest n e) in
    elim h [
      | inl same ↦ subst (λ (r : Outcome). IsOneKind modulus body start r) (sym same)
          (IsOneKind-outcome modulus body start _ right)
      | inr m ↦ subst (λ (r : Outcome). IsOneKind modulus body start r) (sym m.0)
          (IsOneKind-memory modulus body start _ m.1 right)
    ]
