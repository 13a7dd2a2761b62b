-- What an event of a link makes of the transmit queue and of a station's table.
use Rattle.station_laws.proofs.Common.{◌≡◌, ℕ, Bool, true, false, nat_lt, List, [], ◌∷◌, ◌++◌, length, map, cond}
use Rattle.station_laws.proofs.Common.{Option, Some, None, refl, sym, ap, ◌∙◌, subst, cond-false, append-nil}
use Rattle.station_laws.proofs.Common.{append_assoc, Callsign, SentFrame, Told, Event, step, done_of, frame_octets}
use Rattle.station_laws.proofs.Common.{settled_link, with_links, telling_one, telling_to, queueing_frame}
use Rattle.station_laws.proofs.Common.{queueing_frames, link_event, Link, Turn, changing, entering, dropping, capacity}
use Rattle.link_machine.specs.Sent.{sent_frames}

abbrev pub octets_of : SentFrame → List ℕ
octets_of sent = frame_octets sent.modulus sent.frame

-- the frames of which the first joined the queue of a turn
pub record HasQueued (frames : List SentFrame) (before after : Turn) : Type 0 where
  pub first : List SentFrame
  pub rest : List SentFrame
  pub split : frames ≡ first ++ rest
  pub queued : after.out.queued ≡ before.out.queued ++ map octets_of first
  pub links : after.now.links ≡ before.now.links
  pub parameters : after.now.parameters ≡ before.now.parameters

no_more : (frames : List SentFrame) (turn after : Turn) → after.out.queued ≡ turn.out.queued
    → after.now.links ≡ turn.now.links → after.now.parameters ≡ turn.now.parameters → HasQueued frames turn after
no_more frames turn after queued links parameters = record {
  first = [];
  rest = frames;
  split = refl;
  queued = queued ∙ sym (append-nil turn.out.queued);
  links = links;
  parameters = parameters;
}

nothing_first : (first rest : List SentFrame) → [] ≡ first ++ rest → first ≡ []
nothing_first [] rest e = refl
nothing_first (x ∷ first) rest e = absurd (cc)

nothing_of : (t u : Turn) → HasQueued [] t u → u.out.queued ≡ t.out.queued
nothing_of t u h =
    h.queued ∙ ap (λ fs. t.out.queued ++ map octets_of fs) (nothing_first h.first h.rest h.split)
    ∙ append-nil t.out.queued

-- a full queue takes no frame
full_drops :
    (key : ℕ) (frames : List SentFrame) (turn : Turn) → nat_lt (length turn.now.channel.waiting) capacity ≡ false
    → HasQueued [] turn (queueing_frames key frames turn)
full_drops key [] turn full = no_more [] turn turn refl refl refl
full_drops key (f ∷ frames) turn full =
    let dropped : queueing_frame key f turn ≡ dropping turn =
    cond-false (nat_lt (length turn.now.channel.waiting) capacity) (entering (Some key) (octets_of f) turn)
    (dropping turn) full in
    let rest = full_drops key frames (dropping turn) full in
    subst (λ t. HasQueued [] turn (queueing_frames key frames t)) (sym dropped)
    (no_more [] turn (queueing_frames key frames (dropping turn))
    (nothing_of (dropping turn) (queueing_frames key frames (dropping turn)) rest) rest.links rest.parameters)

pub frames_queued :
    (key : ℕ) (frames : List SentFrame) (turn : Turn) → HasQueued frames turn (queueing_frames key frames turn)
frames_queued key [] turn = no_more [] turn turn refl refl refl
frames_queued key (f ∷ frames) turn =
    go (nat_lt (length turn.now.channel.waiting) capacity) refl
    (frames_queued key frames (entering (Some key) (octets_of f) turn))
  where
    go : (b : Bool) → nat_lt (length turn.now.channel.waiting) capacity ≡ b
        → HasQueued frames (entering (Some key) (octets_of f) turn)
        (queueing_frames key frames (entering (Some key) (octets_of f) turn))
        → HasQueued (f ∷ frames) turn (queueing_frames key frames
        (cond b (entering (Some key) (octets_of f) turn) (dropping turn)))
    go true room rest =
        record {
          first = f ∷ rest.first;
          rest = rest.rest;
          split = ap (λ fs. f ∷ fs) rest.split;
          queued = rest.queued ∙ append_assoc turn.out.queued (octets_of f ∷ []) (map octets_of rest.first);
          links = rest.links;
          parameters = rest.parameters;
        }
    go false full rest =
        let none = full_drops key frames (dropping turn) full in
        no_more (f ∷ frames) turn (queueing_frames key frames (dropping turn))
        (nothing_of (dropping turn) (queueing_frames key frames (dropping turn)) none) none.links none.parameters

-- what is told joins no queue
pub record IsSilent (before after : Turn) : Type 0 where
  pub queued : after.out.queued ≡ before.out.queued
  pub links : after.now.links ≡ before.now.links
  pub parameters : after.now.parameters ≡ before.now.parameters

pub told_silent :
    (owner : Option ℕ) (local remote : Callsign) (told : List Told) (turn : Turn)
    → IsSilent turn (telling_to owner local remote told turn)
told_silent owner local remote [] turn = record { queued = refl; links = refl; parameters = refl }
told_silent None local remote (item ∷ told) turn = told_silent None local remote told turn
told_silent (Some id) local remote (item ∷ told) turn =
    let rest = told_silent (Some id) local remote told (telling_one (Some id) local remote item turn) in
    record { queued = rest.queued; links = rest.links; parameters = rest.parameters }

-- an event of a link
pub record HasStepped (key : ℕ) (event : Event) (link : Link) (before after : Turn) : Type 0 where
  pub first : List SentFrame
  pub rest : List SentFrame
  pub split : let turn = step link.machine event in sent_frames turn.now.path turn.sent ≡ first ++ rest
  pub queued : after.out.queued ≡ before.out.queued ++ map octets_of first
  pub links : after.now.links ≡ settled_link key link (step link.machine event).now before.now.links
  pub parameters : after.now.parameters ≡ before.now.parameters

pub link_stepped :
    (key : ℕ) (event : Event) (link : Link) (turn : Turn)
    → HasStepped key event link turn (link_event key event link turn)
link_stepped key event link turn =
    let stepped = step link.machine event in
    let placed = changing (with_links (settled_link key link stepped.now)) turn in
    let done = done_of stepped in
    let sent = frames_queued key done.frames placed in
    let told = told_silent link.owner link.local link.remote done.told (queueing_frames key done.frames placed) in
    record {
      first = sent.first;
      rest = sent.rest;
      split = sent.split;
      queued = told.queued ∙ sent.queued;
      links = told.links ∙ sent.links;
      parameters = told.parameters ∙ sent.parameters;
    }
