-- Events of an end that is up: what the layer above asks for, and I and S frames.
use Rattle.link_world.proofs.Common.{◌≡◌, ℕ, ◌%◌, ◌<◌, Bool, true, false, ◌&&◌, if◌then◌else◌, List, [], ◌∷◌, ◌++◌, map}
use Rattle.link_world.proofs.Common.{Option, Some, None, is_some, refl, sym, ap, ◌∙◌, subst, append-nil, fold}
use Rattle.link_world.proofs.Common.{cond-false, is_heard_as_command, Given, S, Packet, keeps, took, InfoSent, SuperSent}
use Rattle.link_world.proofs.Common.{Turn, begin, changing, setting, joined, quitting, hear_up, settled, refusal_of}
use Rattle.link_world.proofs.Common.{SetUp, opened, change_last, giving, acting, RecordedEnd, Happening, accepts}
use Rattle.link_world.proofs.Common.{told_of, noting, hearing, hears_ask, Sends, Disconnects, Seizes, Hears, seize}
use Rattle.link_world.proofs.Common.{seize_in}
use Rattle.ax25_frames.specs.declared.frame.Kind.TheVariants.{Info as InfoKind, Super as SuperKind}
use Rattle.link_machine.specs.declared.state.LinkState.TheVariants.{Up as UpState}
use Rattle.selective_reject.specs.Outgoing.{empty_outgoing}
use Rattle.link_machine.specs.Event.Event.{Send}
use Rattle.link_machine.specs.Machine.{unquit}
use Rattle.link_machine.specs.Requests.{give_up, quit_up}
use Rattle.link_world.proofs.law.reduced.Core.{End, Tagged as CoreTagged, between}
use Rattle.link_world.proofs.law.reduced.CoreMoves.{first_origin}
use Rattle.link_world.proofs.law.reduced.CoreOf.{end_following, up_end}
use Rattle.link_world.specs.SetUps.{first_of}
use Rattle.link_world.proofs.law.showing.PlacesFit.{IsSound}
use Rattle.link_world.proofs.law.moves.Standings.{give_up_keeps}
use Rattle.link_world.proofs.law.up.Acts.{setting_keeps}
use Rattle.link_world.proofs.law.up.Progress.{IsUp, Progress}
use Rattle.link_world.proofs.law.up.Taking.{got_by}
use Rattle.link_world.proofs.law.up.Hearing.{IsRead, nr_is_read, hear_super_keeps}
use Rattle.link_world.proofs.law.up.Info.{WindowsOf, hear_info_heard}
use Rattle.link_world.proofs.law.up.Accepting.{HasHeard}
use Rattle.link_world.proofs.law.up.Seizing.{seized_keeps}
use Rattle.link_world.proofs.law.invariant.Invariant.{Invariant}
use Rattle.link_world.proofs.law.showing.Shown.{core_set_up, core_set_ups, core_tagged, change_last-push, getting_all}
use Rattle.link_world.proofs.law.showing.Shown.{told_given}
use Rattle.link_world.proofs.law.showing.Outcome.{Keeps}
use Rattle.link_world.proofs.law.showing.Heard.{Arrival, heard_as, heard_frame}
use Rattle.link_world.proofs.law.up.Settling.{EndsUp, progress_in, releases, up_ends}

-- an end that is up before an event, with its last set-up, its partner and what is under way to each
pub record UpEnd (r : RecordedEnd) (ended : List SetUp) (last : SetUp) (y : End) (to_x to_y : List CoreTagged)
    : Type 0 where
  pub set_ups : r.set_ups ≡ ended ++ last ∷ []
  pub state : r.machine.control.state ≡ UpState
  pub waiting : r.waiting ≡ []
  pub sound : IsSound r.machine.params r.machine.incoming
  pub holds : Invariant (between (up_end r.machine (core_set_ups ended) (core_set_up last)) y to_x to_y)

-- the progress before the first act
abbrev pub progress_of :
    (r : RecordedEnd) (y : End) (to_y : List CoreTagged) (ended : List SetUp) (last : SetUp) → Progress
progress_of r y to_y ended last = progress_in r y to_y ended last [] r.machine.incoming.modulus

pub up_begins :
    {r : RecordedEnd} {ended : List SetUp} {last : SetUp} {y : End} {to_x to_y : List CoreTagged}
    → UpEnd r ended last y to_x to_y → IsUp to_x (progress_of r y to_y ended last) (begin r.machine)
up_begins {r} {ended} {last} {y} {to_x} {to_y} u = record {
  state = u.state;
  so_far = record { told_is = refl; params_are = refl; sound = u.sound; modulus_is = refl };
  fits = tt;
  holds = subst (λ t. Invariant (between (up_end r.machine (core_set_ups ended) (core_set_up last)) y to_x t))
      (sym (append-nil to_y)) u.holds;
}

-- a packet is given
pub up_sends :
    {r : RecordedEnd} {ended : List SetUp} {last : SetUp} (packet : Packet) {y : End} {to_x to_y : List CoreTagged}
    → UpEnd r ended last y to_x to_y → is_some (refusal_of r.machine (Send packet)) ≡ false
    → Keeps (Sends packet) r y to_x to_y (settled (changing (joined packet) (begin r.machine)))
up_sends {r} {ended} {last} packet {y} {to_x} {to_y} u taken =
    let given = giving packet last in
    let noted : (noting (Sends packet) r).set_ups ≡ ended ++ given ∷ [] =
    ap (λ (e : RecordedEnd). e.set_ups) (cond-false (is_some (refusal_of r.machine (Send packet))) r _ taken)
    ∙ ap (λ s. (Rattle.link_world.specs.Recorded.taking s packet r).set_ups) u.state
    ∙ ap (change_last (giving packet)) u.set_ups ∙ change_last-push (giving packet) ended last in
    let ends : EndsUp (Sends packet) r ended given [] r.machine.incoming.modulus =
    record { no_ask = refl; set_ups = noted } in
    let up : IsUp to_x (progress_of r y to_y ended given) (changing (joined packet) (begin r.machine)) = record {
      state = u.state;
      so_far = record { told_is = refl; params_are = refl; sound = u.sound; modulus_is = refl };
      fits = tt;
      holds = give_up_keeps (end_following r.machine (core_set_ups ended)) packet (up_begins u).holds;
    } in
    up_ends ends up

-- an event that gives the end nothing, and tells nothing
pub up_goes_on :
    {h : Happening} {r : RecordedEnd} {ended : List SetUp} {last : SetUp} {y : End} {was to_x to_y : List CoreTagged}
    {turn : Turn} → UpEnd r ended last y was to_y → hears_ask h ≡ false → (noting h r).set_ups ≡ r.set_ups
    → IsUp to_x (progress_of r y to_y ended last) turn → Keeps h r y to_x to_y (settled turn)
up_goes_on {h} {r} {ended} {last} u no_ask noted up =
    let ends : EndsUp h r ended last [] r.machine.incoming.modulus =
    record { no_ask = no_ask; set_ups = noted ∙ u.set_ups } in
    up_ends ends up

-- a disconnect is asked for, and perhaps the packets that wait are given up
pub up_quits :
    {r : RecordedEnd} {ended : List SetUp} {last : SetUp} {y : End} {to_x to_y : List CoreTagged}
    → UpEnd r ended last y to_x to_y → Keeps Disconnects r y to_x to_y (settled (quit_up (begin r.machine)))
up_quits {r} {ended} {last} {y} {to_x} {to_y} u = go r.machine.control.quit
  where
    go : (b : Bool) → Keeps Disconnects r y to_x to_y
        (settled (if b then give_up (begin r.machine) else setting quitting (begin r.machine)))
    go true =
        let ends : EndsUp Disconnects r ended last [] r.machine.incoming.modulus =
        record { no_ask = refl; set_ups = u.set_ups } in
        releases (unquit r.machine.control) empty_outgoing ends refl (up_begins u)
    go false = up_goes_on u refl refl (setting_keeps quitting (λ c. refl) (up_begins u))

-- the channel takes a frame of it
pub up_seizes :
    {r : RecordedEnd} {ended : List SetUp} {last : SetUp} (ends full : Bool) {y : End} {to_x to_y : List CoreTagged}
    → UpEnd r ended last y to_x to_y
    → Keeps (Seizes ends full) r y to_x to_y (settled (seize ends full (begin r.machine)))
up_seizes {r} ends full {y} {to_x} {to_y} u =
    subst (λ s. Keeps (Seizes ends full) r y to_x to_y (settled (seize_in s ends full (begin r.machine))))
    (sym u.state) (up_goes_on u refl refl (seized_keeps ends full (up_begins u)))

-- an S frame is heard
pub up_hears_super :
    {r : RecordedEnd} {ended : List SetUp} {last : SetUp} (a : Arrival) (which : S) (command : Bool) (nr : ℕ)
    (flag : Bool) {y : End} {rest to_y : List CoreTagged} → a.modulus ≡ r.machine.incoming.modulus
    → r.machine.incoming.window < r.machine.incoming.modulus
    → let f = heard_frame a (SuperSent which command nr flag) in
    UpEnd r ended last y (core_tagged f ∷ rest) to_y
    → Keeps (Hears f) r y rest to_y (settled (hear_up (is_heard_as_command a.path.role f.frame.kind) f.frame.kind
    (begin r.machine)))
up_hears_super {r} {ended} {last} a which command nr flag {y} {rest} {to_y} own fits u =
    let f = heard_frame a (SuperSent which command nr flag) in
    let turn = hear_up (is_heard_as_command a.path.role f.frame.kind) f.frame.kind (begin r.machine) in
    let acted = acting a.set_up false last in
    let noted : (noting (Hears f) r).set_ups ≡ ended ++ acted ∷ [] =
    ap (λ s. (hearing s f r).set_ups) u.state ∙ ap (change_last (acting a.set_up false)) u.set_ups
    ∙ change_last-push (acting a.set_up false) ended last in
    let ends : EndsUp (Hears f) r ended acted [] r.machine.incoming.modulus =
    record { no_ask = refl; set_ups = noted } in
    let up : IsUp rest (progress_of r y to_y ended acted) turn = subst (λ m. IsUp rest (progress_of r y to_y ended last)
    (hear_up (is_heard_as_command a.path.role f.frame.kind) (SuperKind which (nr % m) flag) (begin r.machine))) (sym own)
    (hear_super_keeps nr which (is_heard_as_command a.path.role f.frame.kind) flag fits (up_begins u)) in
    up_ends ends up

first_same : (o : Option ℕ) (tag : ℕ) → first_of o tag ≡ first_origin o tag
first_same None tag = refl
first_same (Some a) tag = refl

origin_same :
    (b : Bool) (o : Option ℕ) (tag : ℕ) → (if b then first_origin o tag else o) ≡ (if b then first_of o tag else o)
origin_same true o tag = sym (first_same o tag)
origin_same false o tag = refl

-- an I frame is heard
pub up_hears_info :
    {r : RecordedEnd} {ended : List SetUp} {last : SetUp} (a : Arrival) (ns nr : ℕ) (poll : Bool) (packet : Packet)
    {y : End} {rest to_y : List CoreTagged} → a.modulus ≡ r.machine.incoming.modulus → WindowsOf r.machine.incoming y
    → let f = heard_frame a (InfoSent ns nr poll packet) in
    UpEnd r ended last y (core_tagged f ∷ rest) to_y
    → Keeps (Hears f) r y rest to_y (settled (hear_up (is_heard_as_command a.path.role f.frame.kind) f.frame.kind
    (begin r.machine)))
up_hears_info {r} {ended} {last} a ns nr poll packet {y} {rest} {to_y} own windows u =
    let m = r.machine in
    let i = m.incoming in
    let tag = a.set_up in
    let takes : Bool = keeps (took i (ns % i.modulus)) in
    let g = progress_of r y to_y ended last in
    let up = up_begins u in
    let read : IsRead m nr = nr_is_read refl windows.own up in
    let acted = acting tag takes last in
    let command = is_heard_as_command a.path.role
    (InfoKind (ns % i.modulus) (nr % i.modulus) poll packet.pid packet.octets) in
    let kind = InfoKind (ns % i.modulus) (nr % i.modulus) poll packet.pid packet.octets in
    let heard : HasHeard rest tag takes g (hear_up command kind (begin m)) =
    hear_info_heard command poll windows up in
    let after = getting_all heard.packets acted in
    let f = heard_as a kind (InfoSent ns nr poll packet) in
    let does : accepts m kind ≡ takes = ap (λ b. b && takes) read.valid in
    let noted : (noting (Hears f) r).set_ups ≡ ended ++ acted ∷ [] =
    ap (λ s. (hearing s f r).set_ups) u.state ∙ ap (λ b. change_last (acting tag b) r.set_ups) does
    ∙ ap (change_last (acting tag takes)) u.set_ups ∙ change_last-push (acting tag takes) ended last in
    let next = opened tag i.modulus (noting (Hears f) r).waiting in
    let ends : EndsUp (Hears f) r ended after (map Given heard.packets) i.modulus = record {
      no_ask = refl;
      set_ups = ap (λ qs. fold (told_of next) qs (map Given heard.packets)) noted
          ∙ told_given next ended acted heard.packets;
    } in
    let got : IsUp rest (progress_in r y to_y ended after (map Given heard.packets) i.modulus)
    (hear_up command kind (begin m)) = subst (λ o. IsUp rest (record g {
      open_now = got_by heard.packets o (core_set_up last);
      told = map Given heard.packets;
    }) (hear_up command kind (begin m))) (origin_same takes last.accepted tag) heard.up in
    subst (λ n. let k = InfoKind (ns % n) (nr % n) poll packet.pid packet.octets in
    Keeps (Hears (heard_as a k (InfoSent ns nr poll packet))) r y rest to_y
    (settled (hear_up (is_heard_as_command a.path.role k) k (begin m)))) (sym own) (up_ends ends got)
