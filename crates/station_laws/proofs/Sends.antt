-- The frames that acts of a link send: at most one SABM, SABME, DISC, UA or DM, none that asks if the link is up then,
-- and UA only in answer to one that asks. The link comes up only as it hears UA or one that asks.
use Rattle.station_laws.proofs.Common.{◌≡◌, ◌≤◌, ◌||◌, Bool, true, false, List, [], ◌∷◌, ◌++◌, cond, refl, sym, ap}
use Rattle.station_laws.proofs.Common.{◌∙◌, subst, arith, ℕ, count_by, list_any, Kind, Info, Super, Setup, Ui, Other, U}
use Rattle.station_laws.proofs.Common.{Sabm, Sabme, Disc, Dm, Ua, release, Event, Connect, Send, Disconnect, Hear}
use Rattle.station_laws.proofs.Common.{Seize, Tick}
use Rattle.station_laws.proofs.Common.{XidSent}
use Rattle.station_laws.proofs.Common.{Machine, Sent, SentIn, sent_in, sent_kind, InfoSent, SetupSent, SuperSent, begin}
use Rattle.station_laws.proofs.Common.{Up, asks}
use Rattle.link_machine.specs.Turn.{Turn}
use Rattle.station_laws.proofs.Acts.{asks_when_sent}
use Rattle.station_laws.proofs.Counts.{count_append, count_none}
use Rattle.station_laws.proofs.StillActs.{Still, any_append, is_unnumbered, is_unnumbered_frame, none_more}

-- ---- frames

abbrev pub is_ua_frame : U → Bool
is_ua_frame Sabm = false
is_ua_frame Sabme = false
is_ua_frame Disc = false
is_ua_frame Dm = false
is_ua_frame Ua = true

abbrev pub is_ua : Kind → Bool
is_ua (Info ns nr flag pid octets) = false
is_ua (Super which nr flag) = false
is_ua (Setup which flag) = is_ua_frame which
is_ua (Ui flag pid octets) = false
is_ua (Other which flag octets) = false

abbrev pub ua_when_sent : SentIn → Bool
ua_when_sent s = is_ua (sent_kind s.modulus s.frame)

numbered_asks : (s : SentIn) → is_unnumbered s ≡ false → asks_when_sent s ≡ false
numbered_asks s = go s.frame
  where
    go : (f : Sent) → is_unnumbered_frame f ≡ false → asks (sent_kind s.modulus f) ≡ false
    go (InfoSent number nr poll packet) is = refl
    go (SuperSent which command nr flag) is = refl
    go (SetupSent which flag) is = absurd (cc)
    go (XidSent command flag own) is = refl

numbered_ua : (s : SentIn) → is_unnumbered s ≡ false → ua_when_sent s ≡ false
numbered_ua s = go s.frame
  where
    go : (f : Sent) → is_unnumbered_frame f ≡ false → is_ua (sent_kind s.modulus f) ≡ false
    go (InfoSent number nr poll packet) is = refl
    go (SuperSent which command nr flag) is = refl
    go (SetupSent which flag) is = absurd (cc)
    go (XidSent command flag own) is = refl

pub none_ask : (sent : List SentIn) → list_any is_unnumbered sent ≡ false → list_any asks_when_sent sent ≡ false
none_ask sent none = none_more asks_when_sent is_unnumbered numbered_asks sent none

none_ua : (sent : List SentIn) → list_any is_unnumbered sent ≡ false → list_any ua_when_sent sent ≡ false
none_ua sent none = none_more ua_when_sent is_unnumbered numbered_ua sent none

-- ---- what is heard

-- SABM, SABME or DISC
abbrev pub hears_asking : Event → Bool
hears_asking Connect = false
hears_asking (Send packet) = false
hears_asking Disconnect = false
hears_asking (Hear frame) = asks frame.kind
hears_asking (Tick waiting) = false
hears_asking (Seize last full) = false

abbrev pub hears_ua : Event → Bool
hears_ua Connect = false
hears_ua (Send packet) = false
hears_ua Disconnect = false
hears_ua (Hear frame) = is_ua frame.kind
hears_ua (Tick waiting) = false
hears_ua (Seize last full) = false

-- ---- what is sent

-- after acts of a link in an event that hears such frames
pub record Sends (m : Machine) (asking ua : Bool) (u : Turn) : Type 0 where
  -- one frame sets up or ends at most
  pub few : count_by is_unnumbered u.sent ≤ 1
  pub up : u.now.control.state ≡ Up → list_any asks_when_sent u.sent ≡ false
  pub was_up : asking ≡ false → ua ≡ false → u.now.control.state ≡ Up → m.control.state ≡ Up
  pub answers : asking ≡ false → list_any ua_when_sent u.sent ≡ false
  -- so a DISC may follow
  pub quits : u.now.control.state ≡ Up → u.now.control.quit ≡ true → list_any is_unnumbered u.sent ≡ false

count_one :
    (sent : List SentIn) (s : SentIn) → list_any is_unnumbered sent ≡ false
    → count_by is_unnumbered (sent ++ s ∷ []) ≤ 1
count_one sent s none =
    let both = count_append is_unnumbered sent (s ∷ []) in
    let zero = count_none is_unnumbered sent none in
    let few = at_most_one (is_unnumbered s) in
    omega arith
  where
    at_most_one : (b : Bool) → cond b 1 0 ≤ 1
    at_most_one true = omega arith
    at_most_one false = omega arith

-- ---- what follows acts that send I and S frames alone

-- nothing more is sent
pub numbers :
    (m : Machine) (asking ua : Bool) (t u : Turn) → Still (begin m) t → u.sent ≡ t.sent
    → (asking ≡ false → ua ≡ false → u.now.control.state ≡ Up → m.control.state ≡ Up) → Sends m asking ua u
numbers m asking ua t u h sent was_up =
    let none : list_any is_unnumbered u.sent ≡ false = ap (list_any is_unnumbered) (sent ∙ h.sent) ∙ h.numbered in
    let zero = count_none is_unnumbered u.sent none in
    record {
      few = omega arith;
      up = λ is. none_ask u.sent none;
      was_up = was_up;
      answers = λ is. none_ua u.sent none;
      quits = λ is wish. none;
    }

pub stands : (m : Machine) (asking ua : Bool) (t : Turn) → Still (begin m) t → Sends m asking ua t
stands m asking ua t h = numbers m asking ua t t h refl (λ a b is. sym h.state ∙ is)

-- the link is not up then
pub ends :
    (m : Machine) (asking ua : Bool) (t u : Turn) → Still (begin m) t → u.sent ≡ t.sent
    → (u.now.control.state ≡ Up → ⊥) → Sends m asking ua u
ends m asking ua t u h sent down = numbers m asking ua t u h sent (λ a b is. absurd (down is))

-- one frame more is sent, and the link is not up then
pub sends_one :
    (m : Machine) (asking ua : Bool) (t u : Turn) (s : SentIn) → Still (begin m) t → u.sent ≡ t.sent ++ s ∷ []
    → (u.now.control.state ≡ Up → ⊥) → (asking ≡ false → ua_when_sent s ≡ false) → Sends m asking ua u
sends_one m asking ua t u s h sent down answers =
    let none : list_any is_unnumbered t.sent ≡ false = ap (list_any is_unnumbered) h.sent ∙ h.numbered in
    record {
      few = subst (λ xs. count_by is_unnumbered xs ≤ 1) (sym sent) (count_one t.sent s none);
      up = λ is. absurd (down is);
      was_up = λ a b is. absurd (down is);
      answers = λ is. ap (list_any ua_when_sent) sent
          ∙ any_append ua_when_sent t.sent (s ∷ []) (none_ua t.sent none) (ap (λ b. b || false) (answers is));
      quits = λ is wish. absurd (down is);
    }

-- the other side opens a set-up
pub opened :
    (m : Machine) (ua : Bool) (u : Turn) (modulus : ℕ) (flag : Bool) → u.sent ≡ sent_in modulus (SetupSent Ua flag) ∷ []
    → u.now.control.quit ≡ false → Sends m true ua u
opened m ua u modulus flag sent quit = record {
  few = subst (λ xs. count_by is_unnumbered xs ≤ 1) (sym sent)
      (count_one [] (sent_in modulus (SetupSent Ua flag)) refl);
  up = λ is. ap (list_any asks_when_sent) sent;
  was_up = λ never. absurd (cc);
  answers = λ never. absurd (cc);
  quits = λ is wish. absurd (let clash : true ≡ false = sym wish ∙ quit in cc);
}

-- ---- how an event ends

-- a DISC follows, if a disconnect is wished
pub released :
    (m : Machine) (asking ua : Bool) (t : Turn) → t.now.control.state ≡ Up → t.now.control.quit ≡ true
    → Sends m asking ua t → Sends m asking ua (release t)
released m asking ua t up wish h =
    let disc = sent_in t.now.incoming.modulus (SetupSent Disc true) in
    record {
      few = count_one t.sent disc (h.quits up wish);
      up = λ is. absurd (cc);
      was_up = λ a b is. absurd (cc);
      answers = λ is. any_append ua_when_sent t.sent (disc ∷ []) (h.answers is) refl;
      quits = λ is wished. absurd (cc);
    }
