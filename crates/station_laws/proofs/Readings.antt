-- What a station reads of a frame of a link that it hears: the kind that its modulus makes of the one that was sent, in
-- the same role.
use Rattle.station_laws.proofs.Common.{◌≡◌, ℕ, ◌<◌, List, drop, Option, Some, None, refl, sym, ap, ◌∙◌, subst, inl, All}
use Rattle.station_laws.proofs.Common.{Callsign, Path, Role, BeginsWithPath-same, Frame, Kind, Modulus, IsFrame, Hear}
use Rattle.station_laws.proofs.Common.{Machine, modulus_named, step, begin, Tagged, frame_read, kind_read, with_kind}
use Rattle.station_laws.proofs.Common.{AreAlikeButForH, LinkFrame}
use Rattle.std.specs.Prelude.{Result, Ok}
use Rattle.ax25_frames.specs.declared.fault.FrameFault.{FrameFault}
use Rattle.link_machine.specs.Negotiation.{is_heard_as_command}
use Rattle.ax25_frames.proofs.Outcomes.{IsOutcome-same}
use Rattle.link_machine.specs.Frames.{hear}
use Rattle.link_machine.specs.Step.{settled}
use Rattle.link_world.proofs.Rereading.{reads_frame}
use Rattle.station_laws.proofs.Addresses.{IsHeardAgain, heard_again}
use Rattle.station_laws.proofs.LinkKinds.{IsLinkKind, read_link_kind}
use Rattle.station_laws.proofs.Tags.{IsTagged}

-- octets are one frame at most
pub one_frame :
    (modulus : Modulus) (octets : List ℕ) (f g : Frame) → IsFrame f modulus octets → IsFrame g modulus octets → f ≡ g
one_frame modulus octets f g h k =
    let same = BeginsWithPath-same octets f.path g.path h.len k.len h.path k.path in
    let ok : Kind → Result Kind FrameFault = λ kind. Ok kind in
    let kinds : ok f.kind ≡ ok g.kind =
    IsOutcome-same modulus (drop h.len octets) h.len (Ok f.kind) (Ok g.kind) (h.kind, h.body)
    (k.kind, ap (λ n. drop n octets) same.1 ∙ k.body) in
    let kind : f.kind ≡ g.kind = cc in
    ap (λ (p : Path). let frame : Frame = record { path = p; kind = f.kind } in frame) same.0
    ∙ ap (λ (j : Kind). let frame : Frame = record { path = g.path; kind = j } in frame) kind

-- the same frame as its link reads it in a world
pub record IsReread (f : Tagged) (read : Modulus) (frame : Frame) : Type 0 where
  pub as_read : Frame
  pub reading : frame_read (modulus_named f.modulus) read f.frame ≡ Some as_read
  pub kind : as_read.kind ≡ frame.kind
  pub role : as_read.path.role ≡ frame.path.role
  pub of_link : IsLinkKind frame.kind

pub reread :
    (local remote : Callsign) (f : Tagged) (heard : List ℕ) (queued : LinkFrame) (read : Modulus) (frame : Frame)
    → IsTagged local remote f queued → AreAlikeButForH heard queued.octets → All (λ octet. octet < 256) heard
    → IsFrame frame read heard → IsReread f read frame
reread local remote f heard queued read frame tag alike low is =
    go (kind_read (modulus_named f.modulus) read f.frame.kind) refl
  where
    written : Modulus
    written = modulus_named f.modulus

    again : IsHeardAgain written f.frame heard alike.path_heard
    again = heard_again written f.frame heard queued.octets tag.path tag.spelled alike

    sent : Frame
    sent = record { path = alike.path_heard; kind = f.frame.kind }

    reads : Some frame ≡ frame_read written read sent
    reads = reads_frame written read sent frame heard (Ok frame)
        (record { len = again.len; path = again.begins; kind = tag.kind; body = again.body }) low
        (record {
          frame = is;
          each_frame = λ g h. inl (let ok : Frame
              → Result Frame FrameFault = λ x. Ok x in ap ok (one_frame read heard frame g is h));
        }) refl

    go : (o : Option Kind) → kind_read written read f.frame.kind ≡ o → IsReread f read frame
    go None e = absurd (let clash : Some frame ≡ None = reads ∙ ap (with_kind sent) e in cc)
    go (Some kind) e =
        let made : Frame = record { path = alike.path_heard; kind = kind } in
        let is_made : Some frame ≡ Some made = reads ∙ ap (with_kind sent) e in
        let same : frame ≡ made = cc in
        record {
          as_read = record f.frame { kind = kind };
          reading = ap (with_kind f.frame) e;
          kind = sym (ap (λ (x : Frame). x.kind) same);
          role = sym (ap (λ (p : Path). p.role) again.paths) ∙ sym (ap (λ (x : Frame). x.path.role) same);
          of_link = subst IsLinkKind (sym (ap (λ (x : Frame). x.kind) same))
              (read_link_kind written read f.frame.kind kind tag.of_link e);
        }

-- a link looks at the role and the kind of a frame alone
pub hears_same :
    (m : Machine) (g frame : Frame) → g.kind ≡ frame.kind → g.path.role ≡ frame.path.role
    → step m (Hear g) ≡ step m (Hear frame)
unfolding step
hears_same m g frame kind role =
    ap (λ (r : Role). settled (hear (is_heard_as_command r g.kind) g.kind (begin m))) role
    ∙ ap (λ (k : Kind). settled (hear (is_heard_as_command frame.path.role k) k (begin m))) kind
