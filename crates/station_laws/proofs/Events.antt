-- Each act of a station keeps what holds of its link between two calls.
use Rattle.station_laws.proofs.Common.{◌≡◌, ℕ, Bool, true, false, List, [], ◌∷◌, cond, Option, Some, None, refl, sym}
use Rattle.station_laws.proofs.Common.{ap, ◌∙◌, subst, Path, Machine, new_machine, LinkState, Idle, End, near_made}
use Rattle.station_laws.proofs.Common.{made_in, Tagged, RecordedEnd, World, without_owner, event_of, event_at}
use Rattle.station_laws.proofs.Common.{with_links, Link, IsNewKey, is_between, link_at, with_link, with_new_link, Turn}
use Rattle.station_laws.proofs.Common.{changing, LinkStep, link_step, steps_for, steps_at, first_chosen, IsMachineOf}
use Rattle.link_machine.specs.Event.{Event as LinkEvent}
use Rattle.station_laws.proofs.Acts.{Setting, Holds, IsAsked, own_asked, own_machine, asked_told, asked_stays}
use Rattle.station_laws.proofs.Acts.{asked_asking, asked_next, asked_reads, other_event}
use Rattle.station_laws.proofs.Along.{FollowsNear, Kept, Goes}
use Rattle.station_laws.proofs.Standing.{IsGoodLink, IsTable, between_calls, owner_table, made_table, made_other}
use Rattle.station_laws.proofs.Standing.{made_at}

-- the links that are meant
abbrev pub meant : Setting → Option Link → Bool
meant s = is_between s.local s.remote

-- its end follows, if nothing is heard
follows_asked :
    (e : End) (back : List Tagged) (step : LinkStep) (w : World) → w.a.end.machine ≡ step.link.machine
    → IsAsked step.event
    → w.a.towards ≡ back → FollowsNear e back step w
follows_asked e back step w machine asked back_is = record {
  machine = machine;
  told = asked_told e w step.link.machine step.event asked machine;
  stays = asked_stays e step.event w.a.towards back asked back_is;
  asking = asked_asking e w step.link.machine step.event asked machine;
  next = asked_next e w step.link.machine step.event asked machine;
  reads = asked_reads step.event w asked;
}

-- ---- an event at a key

pub act_goes :
    (s : Setting) (e : End) (back : List Tagged) (key : ℕ) (event : LinkEvent) (turn : Turn) → IsAsked event
    → Goes s e back turn (steps_at (meant s) None key event turn) (event_at key event turn)
act_goes s e back key event turn asked w H = by_place (link_at key turn.now.links) refl
  where
    by_choice : (link : Link) → link_at key turn.now.links ≡ Some link → (b : Bool) → meant s (Some link) ≡ b
        → Kept s e back (event_at key event turn) (cond b (link_step None key event turn link ∷ []) []) w
    by_choice link at true is =
        let machine = own_machine s back turn w key link H at is in (
          own_asked s e back turn w key link event asked H at is,
          (follows_asked e back (link_step None key event turn link) w machine asked H.back_is, tt),
        )
    by_choice link at false is = (other_event s back turn w key link event H at is, tt)

    by_place : (place : Option Link) → link_at key turn.now.links ≡ place
        → Kept s e back (event_of key event place turn) (steps_for (meant s) None key event turn place) w
    by_place None at = (H, tt)
    by_place (Some link) at =
        subst (λ after. Kept s e back after (steps_for (meant s) None key event turn (Some link)) w)
        (ap (λ place. event_of key event place turn) at) (by_choice link at (meant s (Some link)) refl)

-- ---- a link whose connection has left

pub disowned_goes :
    (s : Setting) (e : End) (back : List Tagged) (key : ℕ) (link : Link) (turn : Turn)
    → link_at key turn.now.links ≡ Some link
    → Goes s e back turn [] (changing (with_links (with_link key (without_owner link))) turn)
disowned_goes s e back key link turn at w H = (
  record {
    parameters = H.parameters;
    table = owner_table s.params (meant s) turn.now.links w.a.end.machine key link (between_calls s.local s.remote)
        H.table at;
    end_params = H.end_params;
    tags = H.tags;
    tagged_as = H.tagged_as;
    ahead = H.ahead;
    far_is = H.far_is;
    back_is = H.back_is;
  },
  tt,
)

-- ---- a link that is made

-- what holds of a new link, and that there is none between its calls yet
pub record MayMake (s : Setting) (turn : Turn) (key : ℕ) (link : Link) : Type 0 where
  pub new : IsNewKey key turn.now.links
  pub good : IsGoodLink s.params link
  pub none : meant s (Some link) ≡ true → first_chosen (meant s) turn.now.links.places ≡ None

made_idle :
    (state : LinkState) (path : Path) (r : RecordedEnd) → state ≡ Idle
    → made_in state path r ≡ record r { machine = new_machine path r.machine.params }
made_idle state path r is = ap (λ st. made_in st path r) is

-- the link of the end
pub made_own :
    (s : Setting) (back : List Tagged) (turn : Turn) (w : World) (key : ℕ) (link : Link) (path : Path) (after : Turn)
    → Holds s back turn w → MayMake s turn key link → meant s (Some link) ≡ true
    → link.machine ≡ new_machine path s.params
    → after ≡ changing (with_links (with_new_link key link)) turn → Holds s back after (near_made path w)
made_own s back turn w key link path after H may is new after_is =
    let idle : w.a.end.machine.control.state ≡ Idle =
    subst (λ place. IsMachineOf place w.a.end.machine) (may.none is) H.table.machine_is in
    let machine : new_machine path w.a.end.machine.params ≡ link.machine =
    ap (new_machine path) H.end_params ∙ sym new in
    subst (λ t. Holds s back t (near_made path w)) (sym after_is)
    (subst (λ r. Holds s back (changing (with_links (with_new_link key link)) turn)
    (record w { a = record w.a { end = r } }))
    (sym (made_idle w.a.end.machine.control.state path w.a.end idle))
    (record {
      parameters = H.parameters;
      table = subst (λ (m : Machine). IsTable s.params (meant s) (with_new_link key link turn.now.links) m)
          (sym machine)
          (made_table s.params (meant s) turn.now.links w.a.end.machine key link (between_calls s.local s.remote)
          H.table
          may.new (may.none is) is may.good);
      end_params = H.end_params;
      tags = H.tags;
      tagged_as = H.tagged_as;
      ahead = H.ahead;
      far_is = H.far_is;
      back_is = H.back_is;
    }))

-- the link of other calls
pub made_another :
    (s : Setting) (back : List Tagged) (turn : Turn) (w : World) (key : ℕ) (link : Link) (after : Turn)
    → Holds s back turn w → MayMake s turn key link → meant s (Some link) ≡ false
    → after ≡ changing (with_links (with_new_link key link)) turn → Holds s back after w
made_another s back turn w key link after H may is after_is =
    subst (λ t. Holds s back t w) (sym after_is) (record {
      parameters = H.parameters;
      table = made_other s.params (meant s) turn.now.links w.a.end.machine key link (between_calls s.local s.remote)
          H.table
          may.new is may.good;
      end_params = H.end_params;
      tags = H.tags;
      tagged_as = H.tagged_as;
      ahead = H.ahead;
      far_is = H.far_is;
      back_is = H.back_is;
    })

-- it is made, and something is asked of it
pub made_asked :
    (s : Setting) (e : End) (back : List Tagged) (turn : Turn) (key : ℕ) (link : Link) (path : Path) (after : Turn)
    (event : LinkEvent) → IsAsked event → MayMake s turn key link → link.machine ≡ new_machine path s.params
    → after ≡ changing (with_links (with_new_link key link)) turn
    → Goes s e back turn (steps_at (meant s) (Some path) key event after) (event_at key event after)
made_asked s e back turn key link path after event asked may new after_is w H =
    subst (λ place. Kept s e back (event_at key event after) (steps_for (meant s) (Some path) key event after place) w)
    (sym at) (go (meant s (Some link)) refl)
  where
    at : link_at key after.now.links ≡ Some link
    at = ap (λ (t : Turn). link_at key t.now.links) after_is
        ∙ made_at s.params (meant s) turn.now.links w.a.end.machine key link H.table may.new

    go : (b : Bool) → meant s (Some link) ≡ b
        → Kept s e back (event_at key event after) (cond b (link_step (Some path) key event after link ∷ []) []) w
    go true is =
        let made = made_own s back turn w key link path after H may is new after_is in
        let machine = own_machine s back after (near_made path w) key link made at is in (
          own_asked s e back after (near_made path w) key link event asked made at is,
          (
            follows_asked e back (link_step (Some path) key event after link) (near_made path w)
                machine asked made.back_is,
            tt,
          ),
        )
    go false is = (
      other_event s back after w key link event (made_another s back turn w key link after H may is after_is) at is,
      tt,
    )
