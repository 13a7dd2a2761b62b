-- What an end takes from what is in flight to it, and what it sends: at most one frame that asks, and an answer only to
-- one.
use Rattle.station_laws.proofs.Common.{◌≡◌, ℕ, ◌+◌, ◌≤◌, Bool, true, false, ◌&&◌, List, [], ◌∷◌, map, Option, Some}
use Rattle.station_laws.proofs.Common.{None, refl, sym, ap, ◌∙◌, subst, arith, count_by, list_any, or_parts, Frame}
use Rattle.station_laws.proofs.Common.{Kind, Info, Super, Setup, Ui, Other, Sabm, Sabme, Disc, Dm, Ua, Up}
use Rattle.station_laws.proofs.Common.{XidSent}
use Rattle.station_laws.proofs.Common.{modulus_named, Sent, SentIn, sent_kind, InfoSent, SetupSent, SuperSent, step}
use Rattle.station_laws.proofs.Common.{End, Tagged, answers_in, asks, asks_in, is_answer, Happening, RecordedEnd}
use Rattle.station_laws.proofs.Common.{following, seen, tagged, Connects, Sends, Disconnects, Seizes, Ticks, Hears}
use Rattle.station_laws.proofs.Common.{happening}
use Rattle.station_laws.proofs.Common.{hearing_as, read_in, staying, turn_of, event_at_end}
use Rattle.std.specs.List.{AllByRecursion as Each}
use Rattle.link_machine.specs.Event.{Event as LinkEvent}
use Rattle.link_machine.specs.Event.Event.{Connect as LinkConnect, Send as LinkSend, Disconnect as LinkDisconnect}
use Rattle.link_machine.specs.Event.Event.{Hear as LinkHear, Seize as LinkSeize, Tick as LinkTick}
use Rattle.link_world.specs.Recorded.{hears_ask}
use Rattle.station_laws.proofs.Acts.{asks_when_sent}
use Rattle.station_laws.proofs.Counts.{count_cons, count_none, one, one_less}
use Rattle.station_laws.proofs.LinkAsks.{step_sends}
use Rattle.station_laws.proofs.ReadKinds.{PassesNoInfo, frame_test}
use Rattle.station_laws.proofs.Sends.{Sends as LinkSends, hears_asking, hears_ua, is_ua, ua_when_sent}
use Rattle.station_laws.proofs.StillActs.{is_unnumbered, is_unnumbered_frame}

-- ---- what is taken

-- SABM, SABME or DISC is heard
abbrev pub asking : Option Happening → Bool
asking None = false
asking (Some h) = hears_asking (seen h)

-- UA is
abbrev pub agreeing : Option Happening → Bool
agreeing None = false
agreeing (Some h) = hears_ua (seen h)

-- a UA in flight answers one that asked
abbrev pub IsMarked : Tagged → Type 0
IsMarked f = is_ua f.frame.kind ≡ true → f.answers ≡ true

-- what was in flight to an end, and what stays
pub record Takes (o : Option Happening) (before after : List Tagged) : Type 0 where
  pub asked : one (asking o) + asks_in after ≤ asks_in before
  pub answered : answers_in after ≤ answers_in before
  pub agreed : agreeing o ≡ true → Each IsMarked before → answers_in after + 1 ≤ answers_in before
  pub marked : Each IsMarked before → Each IsMarked after

takes_none :
    (o : Option Happening) (towards : List Tagged) → asking o ≡ false → agreeing o ≡ false → Takes o towards towards
takes_none o towards asks_none ua_none =
    let zero : one (asking o) ≡ 0 = ap one asks_none in
    record {
      asked = omega arith;
      answered = omega arith;
      agreed = λ is. absurd (let clash : false ≡ true = sym ua_none ∙ is in cc);
      marked = λ all. all;
    }

asks_cons : (f : Tagged) (rest : List Tagged) → asks_in (f ∷ rest) ≡ one (asks f.frame.kind) + asks_in rest
asks_cons f rest = count_cons (λ (g : Tagged). asks g.frame.kind) f rest

answers_cons : (f : Tagged) (rest : List Tagged) → answers_in (f ∷ rest) ≡ one f.answers + answers_in rest
answers_cons f rest = count_cons (λ (g : Tagged). g.answers) f rest

-- a test that the frame passes as it is read, it passes as it was sent
test_read :
    (test : Kind → Bool) → PassesNoInfo test → (modulus : ℕ) (f : Tagged) (frame : Frame)
    → read_in modulus f ≡ Some frame → test frame.kind ≡ true → test f.frame.kind ≡ true
test_read test no_info modulus f frame read passes = go (test f.frame.kind) refl
  where
    go : (b : Bool) → test f.frame.kind ≡ b → b ≡ true
    go true is = refl
    go false is =
        absurd (let clash : true ≡ false = sym passes
        ∙ frame_test test no_info (modulus_named f.modulus) (modulus_named modulus) f.frame frame read is in cc)

takes_front :
    (modulus : ℕ) (f : Tagged) (rest : List Tagged) (o : Option Frame) → read_in modulus f ≡ o
    → Takes (hearing_as f o) (f ∷ rest) rest
takes_front modulus f rest None read =
    let a = asks_cons f rest in
    let b = answers_cons f rest in
    record {
      asked = omega arith;
      answered = omega arith;
      agreed = λ is. absurd (cc);
      marked = λ all. all.1;
    }
takes_front modulus f rest (Some frame) read =
    let a = asks_cons f rest in
    let b = answers_cons f rest in
    let less = one_less (asks frame.kind) (asks f.frame.kind)
    (test_read asks (λ ns nr poll pid octets. refl) modulus f frame read) in
    record {
      asked = omega arith;
      answered = omega arith;
      agreed = λ is all.
          let marked = all.0 (test_read is_ua (λ ns nr poll pid octets. refl) modulus f frame read is) in
          let some : one f.answers ≡ 1 = ap one marked in
          omega arith;
      marked = λ all. all.1;
    }

pub takes :
    (e : End) (event : LinkEvent) (modulus : ℕ) (towards : List Tagged)
    → Takes (happening (event_at_end e event) modulus towards) towards (staying (event_at_end e event) towards)
takes e LinkConnect modulus towards = takes_none (Some Connects) towards refl refl
takes e (LinkSend packet) modulus towards = takes_none (Some (Sends packet)) towards refl refl
takes e LinkDisconnect modulus towards = takes_none (Some Disconnects) towards refl refl
takes e (LinkHear frame) modulus [] = takes_none None [] refl refl
takes e (LinkHear frame) modulus (f ∷ rest) = takes_front modulus f rest (read_in modulus f) refl
takes e (LinkTick waiting) modulus towards = takes_none (Some (Ticks waiting)) towards refl refl
takes e (LinkSeize last full) modulus towards = takes_none (Some (Seizes last full)) towards refl refl

-- ---- what is sent

count_less :
    {X : Type 0} (p q : X → Bool) → ((x : X) → p x ≡ true → q x ≡ true) → (xs : List X) → count_by p xs ≤ count_by q xs
count_less p q less [] = omega arith
count_less p q less (x ∷ xs) =
    let a = count_cons p x xs in
    let b = count_cons q x xs in
    let here = one_less (p x) (q x) (less x) in
    let rest = count_less p q less xs in
    omega arith

asks_unnumbered : (s : SentIn) → asks_when_sent s ≡ true → is_unnumbered s ≡ true
asks_unnumbered s = go s.frame
  where
    go : (f : Sent) → asks (sent_kind s.modulus f) ≡ true → is_unnumbered_frame f ≡ true
    go (InfoSent number nr poll packet) is = absurd (cc)
    go (SuperSent which command nr flag) is = absurd (cc)
    go (SetupSent which flag) is = refl
    go (XidSent command flag own) is = absurd (cc)

answers_unnumbered :
    (on : Bool) (s : SentIn) → (on && is_answer (sent_kind s.modulus s.frame)) ≡ true → is_unnumbered s ≡ true
answers_unnumbered false s is = absurd (cc)
answers_unnumbered true s is = go s.frame is
  where
    go : (f : Sent) → is_answer (sent_kind s.modulus f) ≡ true → is_unnumbered_frame f ≡ true
    go (InfoSent number nr poll packet) never = absurd (cc)
    go (SuperSent which command nr flag) never = absurd (cc)
    go (SetupSent which flag) answer = refl
    go (XidSent command flag own) never = absurd (cc)

-- what asks as it is written, asks as it is sent
asks_sent :
    (on : Bool) (now : RecordedEnd) (sent : List SentIn)
    → asks_in (map (tagged on now) sent) ≡ count_by asks_when_sent sent
asks_sent on now [] = refl
asks_sent on now (s ∷ sent) =
    asks_cons (tagged on now s) (map (tagged on now) sent)
    ∙ ap (λ n. one (asks_when_sent s) + n) (asks_sent on now sent)
    ∙ sym (count_cons asks_when_sent s sent)

-- answers are sent only if one that asks is heard
answers_sent :
    (on : Bool) (now : RecordedEnd) (sent : List SentIn)
    → answers_in (map (tagged on now) sent) ≤ count_by is_unnumbered sent
answers_sent on now [] = omega arith
answers_sent on now (s ∷ sent) =
    let a = answers_cons (tagged on now s) (map (tagged on now) sent) in
    let b = count_cons is_unnumbered s sent in
    let here = one_less (on && is_answer (sent_kind s.modulus s.frame)) (is_unnumbered s) (answers_unnumbered on s) in
    let rest = answers_sent on now sent in
    omega arith

no_answers : (now : RecordedEnd) (sent : List SentIn) → answers_in (map (tagged false now) sent) ≡ 0
no_answers now [] = refl
no_answers now (s ∷ sent) =
    let one_more = answers_cons (tagged false now s) (map (tagged false now) sent) in
    let rest = no_answers now sent in
    omega arith

answers_by :
    (on : Bool) (now : RecordedEnd) (sent : List SentIn) → count_by is_unnumbered sent ≤ 1
    → answers_in (map (tagged on now) sent) ≤ one on
answers_by true now sent few = let all = answers_sent true now sent in omega arith
answers_by false now sent few = let none = no_answers now sent in omega arith

ua_answers : (kind : Kind) → is_ua kind ≡ true → is_answer kind ≡ true
ua_answers (Info ns nr flag pid octets) is = absurd (cc)
ua_answers (Super which nr flag) is = absurd (cc)
ua_answers (Setup Sabm flag) is = absurd (cc)
ua_answers (Setup Sabme flag) is = absurd (cc)
ua_answers (Setup Disc flag) is = absurd (cc)
ua_answers (Setup Dm flag) is = absurd (cc)
ua_answers (Setup Ua flag) is = refl
ua_answers (Ui flag pid octets) is = absurd (cc)
ua_answers (Other which flag octets) is = absurd (cc)

all_marked :
    (on : Bool) (now : RecordedEnd) (sent : List SentIn) → (on ≡ false → list_any ua_when_sent sent ≡ false)
    → Each IsMarked (map (tagged on now) sent)
all_marked on now [] none = tt
all_marked true now (s ∷ sent) none =
    (λ is. ua_answers (sent_kind s.modulus s.frame) is, all_marked true now sent (λ never. absurd (cc)))
all_marked false now (s ∷ sent) none =
    let parts = or_parts (ua_when_sent s) (list_any ua_when_sent sent) (none refl) in (
      λ is. absurd (let clash : true ≡ false = sym is ∙ parts.0 in cc),
      all_marked false now sent (λ same. parts.1),
    )

-- what an end makes of what happens
pub record Makes (o : Option Happening) (r : RecordedEnd) : Type 0 where
  pub few : asks_in (turn_of o r).sent ≤ 1
  pub up : (turn_of o r).now.machine.control.state ≡ Up → asks_in (turn_of o r).sent ≡ 0
  pub was_up :
      asking o ≡ false → agreeing o ≡ false → (turn_of o r).now.machine.control.state ≡ Up
      → r.machine.control.state ≡ Up
  pub answers : answers_in (turn_of o r).sent ≤ one (asking o)
  pub marked : Each IsMarked (turn_of o r).sent

same_asking : (h : Happening) → hears_asking (seen h) ≡ hears_ask h
same_asking Connects = refl
same_asking (Sends packet) = refl
same_asking Disconnects = refl
same_asking (Ticks waiting) = refl
same_asking (Seizes last full) = refl
same_asking (Hears f) = refl

pub end_makes : (o : Option Happening) (r : RecordedEnd) → Makes o r
end_makes None r =
    record { few = omega arith; up = λ is. refl; was_up = λ a b is. is; answers = omega arith; marked = tt }
end_makes (Some h) r =
    let m = r.machine in
    let turn = step m (seen h) in
    let now = following h r turn in
    let on = hears_ask h in
    let s : LinkSends m (hears_asking (seen h)) (hears_ua (seen h)) turn = step_sends m (seen h) in
    let same = asks_sent on now turn.sent in
    let all = count_less asks_when_sent is_unnumbered asks_unnumbered turn.sent in
    let few = s.few in
    let is_on : hears_asking (seen h) ≡ on = same_asking h in
    record {
      few = omega arith;
      up = λ is. same ∙ count_none asks_when_sent turn.sent (s.up is);
      was_up = λ a b is. s.was_up a b is;
      answers = subst (λ b. answers_in (map (tagged on now) turn.sent) ≤ one b) (sym is_on)
          (answers_by on now turn.sent s.few);
      marked = all_marked on now turn.sent (λ silent. s.answers (is_on ∙ silent));
    }
