-- The links' part of a tick leaves of the channel as it was what frames that join its queue leave so, such as its
-- parameters and the transmission under way.
use Rattle.std.proofs.Common.{◌≡◌, ℕ, List, [], ◌∷◌, length, refl, ◌∙◌}
use Rattle.std.specs.Prelude.{Bool, true, false, if◌then◌else◌, map, Option, Some, None}
use Rattle.std.specs.List.{range_with_len}
use Rattle.ax25_address.specs.Callsign.{Callsign}
use Rattle.channel_access.specs.Channel.{Channel, with_frame}
use Rattle.link_machine.specs.declared.acts.SentFrame.{SentFrame}
use Rattle.link_machine.specs.declared.acts.Told.{Told}
use Rattle.link_machine.specs.Done.{Done}
use Rattle.link_machine.specs.Event.{Event}
use Rattle.link_machine.specs.Event.Event.{Tick}
use Rattle.link_machine.specs.Step.{step, done_of}
use Rattle.station.specs.Asking.{asking_at, asked_key, seizing, with_asked}
use Rattle.station.specs.FrameSpelling.{frame_octets}
use Rattle.station.specs.LinkEvents.{event_at, event_of, giving, queueing_frame, queueing_frames}
use Rattle.station.specs.LinkEvents.{settled_link, telling_one, telling_to, with_links}
use Rattle.station.specs.Links.{Link, link_at, most_links}
use Rattle.station.specs.Ticks.{asked_links, t1_stands, ticking_at, ticking_links}
use Rattle.station.specs.Turn.{Turn, Act, changing, dropping, entering_for, in_order, queueing_for, may_enter}
use Rattle.station.specs.declared.asker.Asker.{Asker}

-- one of two by a test, both of which are the same in some part
pub either : {A S : Type 0} (of : S → A) (b : Bool) (x y : S) (p : A) → of x ≡ p → of y ≡ p
    → of (if b then x else y) ≡ p
either of true x y p first second = first
either of false x y p first second = second

module _ (A : Type 0) (part : Channel → A)
    (queued : (link : Option ℕ) (octets : List ℕ) (channel : Channel) → part (with_frame link octets channel) ≡ part channel)
  where
    abbrev pub part_of : Turn → A
    part_of turn = part turn.now.channel

    abbrev pub Keeps : Act → Type 0
    Keeps act = (turn : Turn) → part_of (act turn) ≡ part_of turn

    pub order_keeps : {X : Type 0} → (f : X → Act) → ((x : X) → Keeps (f x)) → (xs : List X) → Keeps (in_order (map f xs))
    order_keeps f each [] turn = refl
    order_keeps f each (x ∷ xs) turn = order_keeps f each xs (f x turn) ∙ each x turn

    pub queueing_keeps : (owner : Option ℕ) (asker : Option Asker) (link : Option ℕ) (octets : List ℕ)
        → Keeps (queueing_for owner asker link octets)
    queueing_keeps owner asker link octets turn =
        either part_of (may_enter owner turn.now)
        (entering_for owner asker link octets turn) (dropping turn) (part_of turn) (queued link octets turn.now.channel) refl

    frames_keep : (key : ℕ) (frames : List SentFrame) → Keeps (queueing_frames key frames)
    frames_keep key frames = order_keeps (queueing_frame key)
        (λ (sent : SentFrame). queueing_keeps None None (Some key) (frame_octets sent.modulus sent.frame)) frames

    telling_keeps : (owner : Option ℕ) (local remote : Callsign) (told : List Told)
        → Keeps (telling_to owner local remote told)
    telling_keeps owner local remote told = order_keeps (telling_one owner local remote) (one owner) told
      where
        one : (owner : Option ℕ) (x : Told) → Keeps (telling_one owner local remote x)
        one None x turn = refl
        one (Some id) x turn = refl

    giving_keeps : (key : ℕ) (link : Link) (done : Done) → Keeps (giving key link done)
    giving_keeps key link done turn =
        telling_keeps link.owner link.local link.remote done.told (queueing_frames key done.frames turn)
        ∙ frames_keep key done.frames turn

    event_keeps : (key : ℕ) (event : Event) (link : Option Link) → Keeps (event_of key event link)
    event_keeps key event None turn = refl
    event_keeps key event (Some link) turn =
        giving_keeps key link (done_of (step link.machine event))
        (changing (with_links (settled_link key link (step link.machine event).now)) turn)

    pub at_keeps : (key : ℕ) (event : Event) → Keeps (event_at key event)
    at_keeps key event turn = event_keeps key event (link_at key turn.now.links) turn

    asking_keeps : (key : Option ℕ) (event : Event) → Keeps (asking_at key event)
    asking_keeps None event turn = refl
    asking_keeps (Some key) event turn = at_keeps key event (changing (with_asked key) turn)

    links_keep : (busy : Bool) → Keeps (ticking_links busy)
    unfolding ticking_links
    links_keep busy turn = order_keeps (ticking_at busy) ticking (range_with_len 0 most_links) turn
      where
        ticking : (key : ℕ) → Keeps (ticking_at busy key)
        ticking key turn = at_keeps key (Tick (t1_stands busy key turn.now.channel)) turn

    pub asked_keep : (busy : Bool) (turn : Turn) → part_of (asked_links busy turn) ≡ part_of turn
    asked_keep busy turn =
        let ticked : Turn = ticking_links busy turn in
        asking_keeps (asked_key ticked.now) (seizing ticked.now) ticked ∙ links_keep busy turn
