-- A link that goes on leaves its state and a wish to disconnect as they are, and sends I, S and XID frames alone.
use Rattle.station_laws.proofs.Common.{◌≡◌, ℕ, ◌+◌, Bool, Option, Some, None, true, false, List, [], ◌∷◌, ◌++◌, map}
use Rattle.station_laws.proofs.Common.{refl, sym, ap, ◌∙◌}
use Rattle.station_laws.proofs.Common.{list_any, or_from, or_parts, append-nil, append_assoc, Packet, Sent}
use Rattle.station_laws.proofs.Common.{SentIn, sent_in, InfoSent, SetupSent, SuperSent, along_run, Single, Traffic}
use Rattle.station_laws.proofs.Common.{acknowledges, forgets, gives, goes_back, informs, picks, reports, selects}
use Rattle.station_laws.proofs.Common.{stores, exchanges, times, XidSent}
use Rattle.std.specs.Option.{option_to_list}
use Rattle.std.specs.Prelude.{slice_get}
use Rattle.ax25_frames.specs.declared.frame.S.TheVariants.{Srej}
use Rattle.link_machine.specs.Sent.{all_sent_in}
use Rattle.link_machine.specs.Turn.{Turn}

-- ---- frames that are sent

-- SABM, SABME, DISC, UA or DM
abbrev pub is_unnumbered_frame : Sent → Bool
is_unnumbered_frame (InfoSent number nr poll packet) = false
is_unnumbered_frame (SuperSent which command nr flag) = false
is_unnumbered_frame (SetupSent which flag) = true
is_unnumbered_frame (XidSent command flag own) = false

abbrev pub is_unnumbered : SentIn → Bool
is_unnumbered sent = is_unnumbered_frame sent.frame

pub any_append :
    (p : SentIn → Bool) (xs ys : List SentIn) → list_any p xs ≡ false → list_any p ys ≡ false
    → list_any p (xs ++ ys) ≡ false
any_append p [] ys h k = k
any_append p (x ∷ xs) ys h k =
    let parts = or_parts (p x) (list_any p xs) h in
    or_from (p x) (list_any p (xs ++ ys)) parts.0 (any_append p xs ys parts.1 k)

pub none_more :
    (p q : SentIn → Bool) → ((s : SentIn) → q s ≡ false → p s ≡ false) → (xs : List SentIn) → list_any q xs ≡ false
    → list_any p xs ≡ false
none_more p q less [] h = refl
none_more p q less (x ∷ xs) h =
    let parts = or_parts (q x) (list_any q xs) h in
    or_from (p x) (list_any p xs) (less x parts.0) (none_more p q less xs parts.1)

-- the I frame of a packet, if there is one
info_numbered :
    (modulus n nr : ℕ) (poll : Bool) (packet : Option Packet)
    → list_any is_unnumbered (all_sent_in modulus (map (InfoSent n nr poll) (option_to_list packet))) ≡ false
info_numbered modulus n nr poll None = refl
info_numbered modulus n nr poll (Some packet) = refl

-- ---- what stays

pub record Still (t u : Turn) : Type 0 where
  pub state : u.now.control.state ≡ t.now.control.state
  pub quit : u.now.control.quit ≡ t.now.control.quit
  pub more : List SentIn
  pub sent : u.sent ≡ t.sent ++ more
  pub numbered : list_any is_unnumbered more ≡ false

-- nothing is sent
pub still_none :
    (t u : Turn) → u.sent ≡ t.sent → u.now.control.state ≡ t.now.control.state
    → u.now.control.quit ≡ t.now.control.quit → Still t u
still_none t u sent state quit =
    record { state = state; quit = quit; more = []; sent = sent ∙ sym (append-nil t.sent); numbered = refl }

-- these frames are
pub still_more :
    (t u : Turn) (more : List SentIn) → list_any is_unnumbered more ≡ false → u.sent ≡ t.sent ++ more
    → u.now.control.state ≡ t.now.control.state → u.now.control.quit ≡ t.now.control.quit → Still t u
still_more t u more numbered sent state quit =
    record { state = state; quit = quit; more = more; sent = sent; numbered = numbered }

pub still_same : (t : Turn) → Still t t
still_same t = still_none t t refl refl refl

pub still_on : (t u v : Turn) → Still t u → Still u v → Still t v
still_on t u v h k = record {
  state = k.state ∙ h.state;
  quit = k.quit ∙ h.quit;
  more = h.more ++ k.more;
  sent = k.sent ∙ ap (λ xs. xs ++ k.more) h.sent ∙ append_assoc t.sent h.more k.more;
  numbered = any_append is_unnumbered h.more k.more h.numbered k.numbered;
}

-- ---- acts of a link that goes on

single_still : (t u : Turn) → Single t u → Still t u
single_still t u (times c mode) = still_none t _ refl mode.0 mode.1
single_still t u (acknowledges n) = still_none t _ refl refl refl
single_still t u goes_back = still_none t _ refl refl refl
single_still t u (reports which command flag) =
    still_more t _ (sent_in t.now.incoming.modulus (SuperSent which command t.now.incoming.vr flag) ∷ []) refl refl
    refl refl
single_still t u (picks again) = still_none t _ refl refl refl
single_still t u (informs poll ahead left keeps) =
    let n = t.now.outgoing.va + ahead in
    let packet = slice_get t.now.outgoing.packets ahead in
    still_more t _
    (all_sent_in t.now.incoming.modulus (map (InfoSent n t.now.incoming.vr poll) (option_to_list packet)))
    (info_numbered t.now.incoming.modulus n t.now.incoming.vr poll packet) refl refl refl
single_still t u (gives packets) = still_none t _ refl refl refl
single_still t u (stores ahead packet) = still_none t _ refl refl refl
single_still t u (selects ahead is) =
    still_more t _
    (sent_in t.now.incoming.modulus (SuperSent Srej false (t.now.incoming.vr + ahead) false) ∷ []) refl refl refl refl
single_still t u forgets = still_none t _ refl refl refl
single_still t u (exchanges command flag own) =
    still_more t _ (sent_in t.now.incoming.modulus (XidSent command flag own) ∷ []) refl refl refl refl

pub traffic_still : {t u : Turn} → Traffic t u → Still t u
traffic_still = along_run (record { same = still_same; on = still_on }) single_still
