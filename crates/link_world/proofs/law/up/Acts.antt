-- A link that is up, act by act.
use Rattle.link_world.proofs.Common.{◌≡◌, ℕ, ◌-◌, le_refl, nat_lt, Bool, true, false, ◌&&◌, if◌then◌else◌, ◌==◌, List}
use Rattle.link_world.proofs.Common.{[], ◌∷◌, ◌++◌, length, is_some, refl, sym, ◌∙◌, subst, S, Control, SentIn, sent_in}
use Rattle.link_world.proofs.Common.{SuperSent, Turn, changing, setting, polled, gone_back, recover, recover_with}
use Rattle.link_world.proofs.Common.{acknowledged}
use Rattle.link_world.proofs.law.Each.{each_pushed}
use Rattle.selective_reject.specs.Again.{with_number}
use Rattle.selective_reject.specs.Outgoing.{asked_again, back, first_again}
use Rattle.link_machine.specs.Turn.{sending}
use Rattle.link_machine.specs.Acts.{answering, after_poll, nothing_asked, picked_out, picking, timed_anew, timed_by}
use Rattle.link_machine.specs.Acts.{unretried}
use Rattle.link_machine.specs.Acts.{unpicked}
use Rattle.link_world.proofs.law.reduced.Core.{Tagged, Numbered}
use Rattle.link_world.proofs.law.reduced.Core.Numbered.{Super}
use Rattle.link_world.proofs.law.reduced.Core.Kind.{IsNumbered}
use Rattle.link_world.proofs.law.reduced.CoreMoves.{of_end, numbered_to, Acknowledges}
use Rattle.link_world.proofs.law.reduced.CoreOf.{super_of, cores_sent, running_of, end_following}
use Rattle.link_world.proofs.law.moves.Losing.{lose_keeps}
use Rattle.link_world.proofs.law.invariant.Upward.{set_vs_keeps, ack_front_keeps}
use Rattle.link_world.proofs.law.moves.UpSending.{UpInvariant, send_super_keeps}
use Rattle.link_world.proofs.law.showing.PlacesFit.{fit_unasked, sound_same}
use Rattle.link_world.proofs.law.showing.PlacesStored.{stored_unasked}
use Rattle.link_world.proofs.law.up.Progress.{Progress, IsUp, sent_one}

-- conditions, retries and timers change
pub setting_keeps :
    (change : Control → Control) → ((c : Control) → (change c).state ≡ c.state)
    → {to_x : List Tagged} {g : Progress} {turn : Turn} → IsUp to_x g turn → IsUp to_x g (setting change turn)
setting_keeps change same {turn} h =
    record { state = same turn.now.control ∙ h.state; so_far = h.so_far; fits = h.fits; holds = h.holds }

-- an S frame with N(R) = V(R) goes out
pub sending_super_keeps :
    (which : S) (command flag : Bool) → ((vr : ℕ) → super_of which vr flag ≡ Super vr)
    → {to_x : List Tagged} {g : Progress} {turn : Turn}
    → IsUp to_x g turn → IsUp to_x g (sending (SuperSent which command turn.now.incoming.vr flag) turn)
sending_super_keeps which command flag is {to_x} {g} {turn} h =
    let m = turn.now in
    let x = end_following m g.ended in
    let r = running_of m g.open_now in
    let tag : ℕ = length g.ended in
    let s : SentIn = sent_in m.incoming.modulus (SuperSent which command m.incoming.vr flag) in
    let gone = subst (λ n. UpInvariant x g.partner r to_x
    ((g.before ++ cores_sent g.answers tag turn.sent) ++ of_end x (IsNumbered x.modulus n) ∷
    [])) (sym (is m.incoming.vr)) (send_super_keeps x h.holds) in
    record {
      state = h.state;
      so_far = h.so_far;
      fits = each_pushed _ turn.sent s h.fits tt;
      holds = subst (λ t. UpInvariant x g.partner r to_x t) (sent_one g.answers tag g.before turn.sent s) gone;
    }

-- the numbers that SREJ asked for change
pub again_keeps :
    (again : List ℕ) {to_x : List Tagged} {g : Progress} {turn : Turn} → IsUp to_x g turn
    → IsUp to_x g (record turn { now = record turn.now { outgoing = record turn.now.outgoing { again = again } } })
again_keeps again h = record { state = h.state; so_far = h.so_far; fits = h.fits; holds = h.holds }

-- a number that SREJ asks for is kept
pub picked_keeps :
    (n : ℕ) {to_x : List Tagged} {g : Progress} {turn : Turn} → IsUp to_x g turn
    → IsUp to_x g (changing (picked_out n) turn)
picked_keeps n {to_x} {g} {turn} h = go (nat_lt n turn.now.outgoing.top)
  where
    go : (b : Bool) → IsUp to_x g (record turn {
      now = if b
          then record turn.now { control = picking turn.now.control; outgoing = asked_again n turn.now.outgoing }
          else turn.now;
    })
    go true = again_keeps (with_number (n - turn.now.outgoing.va) turn.now.outgoing.again)
        (setting_keeps picking (λ c. refl) h)
    go false = h

-- V(S) goes back to V(A), or stays
back_by :
    (stays : Bool) {to_x : List Tagged} {g : Progress} {turn : Turn} → IsUp to_x g turn
    → IsUp to_x g (record turn {
      now = record turn.now {
        control = unpicked turn.now.control;
        outgoing = if stays then turn.now.outgoing else back turn.now.outgoing;
      };
    })
back_by true h = setting_keeps unpicked (λ c. refl) h
back_by false {g} {turn} h = record {
  state = h.state;
  so_far = h.so_far;
  fits = h.fits;
  holds =
      set_vs_keeps (end_following turn.now g.ended) turn.now.outgoing.va (le_refl turn.now.outgoing.va) h.holds;
}

pub gone_back_keeps :
    {to_x : List Tagged} {g : Progress} {turn : Turn} → IsUp to_x g turn → IsUp to_x g (changing gone_back turn)
gone_back_keeps {turn = turn} h =
    back_by (turn.now.control.picked && is_some (first_again turn.now.outgoing)) h

-- nothing is asked for any more
nothing_asked_keeps :
    {to_x : List Tagged} {g : Progress} {turn : Turn} → IsUp to_x g turn → IsUp to_x g (changing nothing_asked turn)
nothing_asked_keeps {to_x} {g} {turn} h =
    let m = turn.now in
    let i = m.incoming in
    record {
      state = h.state;
      so_far = record {
        told_is = h.so_far.told_is;
        params_are = h.so_far.params_are;
        sound = sound_same (fit_unasked h.so_far.sound.fit) refl refl h.so_far.sound;
        modulus_is = h.so_far.modulus_is;
      };
      fits = h.fits;
      holds = subst (λ ss. UpInvariant (end_following m g.ended) g.partner
          (record (running_of m g.open_now) { stored = ss }) to_x
          (g.before ++ cores_sent g.answers (length g.ended) turn.sent)) (sym (stored_unasked i.vr i.places)) h.holds;
    }

-- a command with P = 1 is to be answered
pub polled_keeps :
    (asks : Bool) {to_x : List Tagged} {g : Progress} {turn : Turn} → IsUp to_x g turn → IsUp to_x g (polled asks turn)
polled_keeps true h = nothing_asked_keeps (setting_keeps answering (λ c. refl) h)
polled_keeps false h = h

-- a choice between two changes of the conditions
pub state_by :
    (b : Bool) (c d e : Control) → d.state ≡ c.state → e.state ≡ c.state → (if b then d else e).state ≡ c.state
state_by true c d e one other = one
state_by false c d e one other = other

after_poll_state : (retries : ℕ) (c : Control) → (after_poll retries c).state ≡ c.state
after_poll_state retries c = state_by c.busy c _ _ refl refl

timed_anew_state : (all : Bool) (c : Control) → (timed_anew all c).state ≡ c.state
timed_anew_state true c = refl
timed_anew_state false c = refl

timed_by_state : (some all : Bool) (c : Control) → (timed_by some all c).state ≡ c.state
timed_by_state some all c =
    let now : Control = if c.poll then unretried c else timed_anew all c in
    state_by some c now c (state_by c.poll c (unretried c) (timed_anew all c) refl (timed_anew_state all c)) refl

-- a choice between two acts
pub choice_keeps :
    {to_x : List Tagged} (b : Bool) {g : Progress} {one other : Turn}
    → IsUp to_x g one → IsUp to_x g other → IsUp to_x g (if b then one else other)
choice_keeps true h k = h
choice_keeps false h k = k

pub recover_with_keeps :
    (retries : ℕ) {to_x : List Tagged} {g : Progress} {turn : Turn} → IsUp to_x g turn
    → IsUp to_x g (recover_with retries turn)
recover_with_keeps retries h =
    gone_back_keeps (setting_keeps (after_poll retries) (λ c. after_poll_state retries c) h)

pub recover_keeps :
    (answers : Bool) {to_x : List Tagged} {g : Progress} {turn : Turn}
    → IsUp to_x g turn → IsUp to_x g (recover answers turn)
recover_keeps answers {turn = turn} h =
    choice_keeps (turn.now.control.poll && answers) (recover_with_keeps 0 h) h

-- the front frame acknowledges
pub acknowledged_keeps :
    {tag k : ℕ} (nr : ℕ) {n : Numbered} {rest : List Tagged} → Acknowledges n nr
    → {g : Progress} {turn : Turn} → IsUp (numbered_to tag k n ∷ rest) g turn
    → IsUp (numbered_to tag k n ∷ rest) g (changing (acknowledged nr) turn)
acknowledged_keeps nr is {g} {turn} h =
    let m = turn.now in
    record {
      state = timed_by_state (nat_lt m.outgoing.va nr) (nr == m.outgoing.top) m.control ∙ h.state;
      so_far = h.so_far;
      fits = h.fits;
      holds = ack_front_keeps (end_following m g.ended) nr is h.holds;
    }

-- the front frame is passed over
pub passed_over :
    {f : Tagged} {rest : List Tagged} {g : Progress} {turn : Turn} → IsUp (f ∷ rest) g turn → IsUp rest g turn
passed_over {f} {rest} h = record {
  state = h.state;
  so_far = h.so_far;
  fits = h.fits;
  holds = lose_keeps [] f rest h.holds;
}
