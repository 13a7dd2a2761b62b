-- What a link sends in an event, row by row.
use Rattle.station_laws.proofs.Common.{◌≡◌, ◌==◌, Bool, true, false, refl, sym, ◌∙◌, subst, Kind, Info, Super, Setup}
use Rattle.station_laws.proofs.Common.{Ui, Other, U, Sabm, Sabme, Disc, Dm, Ua, Event, Connect, Send, Disconnect, Hear}
use Rattle.station_laws.proofs.Common.{Seize, Tick, Machine, sent_in, SetupSent, step, begin, LinkState, Up, IsAsking}
use Rattle.station_laws.proofs.Common.{Row}
use Rattle.station_laws.proofs.Common.{Settles, Stepped, rests_traffic, step_is, agrees, calls_again}
use Rattle.station_laws.proofs.Common.{connects, declines, ends_by_disc, ends_by_dm, ends_call, gives_up, is_answered}
use Rattle.station_laws.proofs.Common.{is_called, is_called_again, narrows, falls_narrow, releases_again, resets, rests}
use Rattle.station_laws.proofs.Common.{takes}
use Rattle.station_laws.proofs.Common.{tells_own, XidSent, widest_parameters, [], ◌∷◌}
use Rattle.station_laws.proofs.Common.{withdraws, wishes, abandons, works, goes_on, is_down, releases, is_refused}
use Rattle.link_machine.specs.Acts.{calling_frame}
use Rattle.link_machine.specs.Frames.{open_answered}
use Rattle.link_machine.specs.Machine.{is_wide}
use Rattle.link_machine.specs.Params.{called_modulus}
use Rattle.link_machine.specs.Turn.{Turn}
use Rattle.link_steps.proofs.Rows.{Hears, IsDown, IsUa, IsUaSetup, rests_mode}
use Rattle.link_steps.proofs.Rows.Stepped.{makes}
use Rattle.station_laws.proofs.LinkDid.{asks_is}
use Rattle.station_laws.proofs.Sends.{Sends, ends, hears_asking, hears_ua, is_ua, is_ua_frame, numbers, opened}
use Rattle.station_laws.proofs.Sends.{released, sends_one, stands}
use Rattle.station_laws.proofs.StillActs.{still_more, still_none, still_same, traffic_still}

not_up : (state : LinkState) → IsDown state → state ≡ Up → ⊥
not_up state down up = subst IsDown up down

not_up_if : (state other : LinkState) → IsDown other → state ≡ other → state ≡ Up → ⊥
not_up_if state other down is up = subst IsDown (sym is ∙ up) down

call_no_ua : (wide : Bool) → is_ua_frame (calling_frame wide) ≡ false
call_no_ua true = refl
call_no_ua false = refl

-- ---- what is heard

pub asking_is : (event : Event) → Hears IsAsking event → hears_asking event ≡ true
asking_is Connect h = absurd h
asking_is (Send packet) h = absurd h
asking_is Disconnect h = absurd h
asking_is (Hear frame) h = asks_is frame.kind h
asking_is (Tick waiting) h = absurd h
asking_is (Seize last full) h = absurd h

setup_is_ua : (which : U) → IsUaSetup which → is_ua_frame which ≡ true
setup_is_ua Sabm h = absurd h
setup_is_ua Sabme h = absurd h
setup_is_ua Disc h = absurd h
setup_is_ua Dm h = absurd h
setup_is_ua Ua h = refl

kind_is_ua : (kind : Kind) → IsUa kind → is_ua kind ≡ true
kind_is_ua (Info ns nr flag pid octets) h = absurd h
kind_is_ua (Super which nr flag) h = absurd h
kind_is_ua (Setup which flag) h = setup_is_ua which h
kind_is_ua (Ui flag pid octets) h = absurd h
kind_is_ua (Other which flag octets) h = absurd h

ua_is : (event : Event) → Hears IsUa event → hears_ua event ≡ true
ua_is Connect h = absurd h
ua_is (Send packet) h = absurd h
ua_is Disconnect h = absurd h
ua_is (Hear frame) h = kind_is_ua frame.kind h
ua_is (Tick waiting) h = absurd h
ua_is (Seize last full) h = absurd h

abbrev SendsIn : Machine → Event → Turn → Type 0
SendsIn m event u = Sends m (hears_asking event) (hears_ua event) u

if_asked : (m : Machine) (event : Event) (u : Turn) → Hears IsAsking event → Sends m true (hears_ua event) u
    → SendsIn m event u
if_asked m event u heard h = subst (λ a. Sends m a (hears_ua event) u) (sym (asking_is event heard)) h

-- ---- each row

row_sends : (m : Machine) (event : Event) (u : Turn) → Row m event u → SendsIn m event u
row_sends m event u (rests run) =
    stands m (hears_asking event) (hears_ua event) u (traffic_still (rests_traffic run))
row_sends m event u (works up run) = stands m (hears_asking event) (hears_ua event) u (traffic_still run)
row_sends m event u (declines flag down heard) =
    sends_one m (hears_asking event) (hears_ua event) (begin m) _ (sent_in m.incoming.modulus (SetupSent Dm flag))
    (still_same (begin m)) refl (not_up m.control.state down) (λ is. refl)
row_sends m event u (agrees flag down heard) =
    if_asked m event _ heard
    (sends_one m true (hears_ua event) (begin m) _ (sent_in m.incoming.modulus (SetupSent Ua flag))
    (still_same (begin m)) refl (not_up m.control.state down) (λ never. absurd (cc)))
row_sends m event u (tells_own flag idle heard) =
    stands m (hears_asking event) (hears_ua event) _
    (still_more (begin m) _ (sent_in m.incoming.modulus (XidSent false flag (widest_parameters m)) ∷ []) refl refl
    refl refl)
row_sends m event u (calls_again {t = t} run calling tick) =
    let call = sent_in t.now.incoming.modulus (SetupSent (calling_frame (is_wide t.now)) true) in
    sends_one m (hears_asking event) (hears_ua event) t _ call (traffic_still (rests_traffic run)) refl
    (not_up_if t.now.control.state _ tt ((rests_mode run).0 ∙ calling)) (λ is. call_no_ua (is_wide t.now))
row_sends m event u (releases_again {t = t} run releasing tick) =
    sends_one m (hears_asking event) (hears_ua event) t _ (sent_in t.now.incoming.modulus (SetupSent Disc true))
    (traffic_still (rests_traffic run)) refl
    (not_up_if t.now.control.state _ tt ((rests_mode run).0 ∙ releasing)) (λ is. refl)
row_sends m event u (ends_call {t = t} why run down) =
    ends m (hears_asking event) (hears_ua event) t _ (traffic_still (rests_traffic run)) refl (λ up. absurd (cc))
row_sends m event u (ends_by_dm up) =
    ends m (hears_asking event) (hears_ua event) (begin m) _ (still_same (begin m)) refl (λ is. absurd (cc))
row_sends m event u (ends_by_disc flag up heard) =
    if_asked m event _ heard
    (sends_one m true (hears_ua event) (begin m) _ (sent_in m.incoming.modulus (SetupSent Ua flag))
    (still_same (begin m)) refl (λ is. absurd (cc)) (λ never. absurd (cc)))
row_sends m event u (gives_up {t = t} up run told tick) =
    sends_one m (hears_asking event) (hears_ua event) t _ (sent_in t.now.incoming.modulus (SetupSent Dm false))
    (traffic_still run) refl (λ is. absurd (cc)) (λ is. refl)
row_sends m event u (is_called modulus flag idle known heard) =
    if_asked m event _ heard (opened m (hears_ua event) _ modulus flag refl refl)
row_sends m event u (is_called_again modulus flag up known heard) =
    if_asked m event _ heard (opened m (hears_ua event) _ modulus flag refl refl)
row_sends m event u (is_answered calling heard) =
    let opened_turn = open_answered (begin m) in
    subst (λ a. Sends m (hears_asking event) a opened_turn) (sym (ua_is event heard))
    (numbers m (hears_asking event) true (begin m) opened_turn (still_same (begin m)) refl (λ a never. absurd (cc)))
row_sends m event u (falls_narrow {t = t} run calling wide tick) =
    sends_one m (hears_asking event) (hears_ua event) t _ (sent_in 8 (SetupSent Sabm true))
    (traffic_still (rests_traffic run)) refl
    (not_up_if t.now.control.state _ tt ((rests_mode run).0 ∙ calling)) (λ is. refl)
row_sends m event u (narrows calling wide heard) =
    sends_one m (hears_asking event) (hears_ua event) (begin m) _ (sent_in 8 (SetupSent Sabm true))
    (still_same (begin m)) refl (not_up_if m.control.state _ tt calling) (λ is. refl)
row_sends m event u (resets up wrong) =
    let call = sent_in m.incoming.modulus (SetupSent (calling_frame (is_wide m)) true) in
    sends_one m (hears_asking event) (hears_ua event) (begin m) _ call (still_same (begin m)) refl
    (λ is. absurd (cc)) (λ is. call_no_ua (is_wide m))
row_sends m event u (connects idle connecting) =
    let modulus = called_modulus m.params in
    let call = sent_in modulus (SetupSent (calling_frame (modulus == 128)) true) in
    sends_one m (hears_asking event) (hears_ua event) (begin m) _ call (still_same (begin m)) refl
    (λ is. absurd (cc)) (λ is. call_no_ua (modulus == 128))
row_sends m event u (takes packet sending short) =
    stands m (hears_asking event) (hears_ua event) _ (still_none (begin m) _ refl refl refl)
row_sends m event u (withdraws calling wishing) =
    sends_one m (hears_asking event) (hears_ua event) (begin m) _ (sent_in m.incoming.modulus (SetupSent Dm false))
    (still_same (begin m)) refl (λ up. absurd (cc)) (λ is. refl)
row_sends m event u (abandons up wish wishing) =
    sends_one m (hears_asking event) (hears_ua event) (begin m) _ (sent_in m.incoming.modulus (SetupSent Disc true))
    (still_same (begin m)) refl (λ is. absurd (cc)) (λ is. refl)
row_sends m event u (wishes wishing) =
    numbers m (hears_asking event) (hears_ua event) (begin m) _ (still_same (begin m)) refl (λ a b is. is)

settles_send : (m : Machine) (asking ua : Bool) (t u : Turn) → Sends m asking ua t → Settles t u → Sends m asking ua u
settles_send m asking ua t u h (is_down down) = h
settles_send m asking ua t u h (goes_on up) = h
settles_send m asking ua t u h (releases up quitting) = released m asking ua t up quitting h

stepped_sends : (m : Machine) (event : Event) (u : Turn) → Stepped m event u → SendsIn m event u
stepped_sends m event u is_refused =
    stands m (hears_asking event) (hears_ua event) (begin m) (still_same (begin m))
stepped_sends m event u (makes {t = t} row settles) =
    settles_send m (hears_asking event) (hears_ua event) t u (row_sends m event t row) settles

pub step_sends : (m : Machine) (event : Event) → Sends m (hears_asking event) (hears_ua event) (step m event)
step_sends m event = stepped_sends m event (step m event) (step_is m event)
