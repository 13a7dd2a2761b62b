-- At a station that has one link at a time, all frames that wait carry one key: that of the link, or of the link before
-- it. So if no frame of its link waits, no frame waits. While the link calls modulo 128, few frames wait.
use Rattle.channel_bench.proofs.Common.{◌≡◌, ◌⊎◌, ℕ, ◌+◌, ◌<◌, ◌≤◌, Bool, true, false, nat_lt, List, [], ◌∷◌, length}
use Rattle.channel_bench.proofs.Common.{cond, Option, Some, None, get_or, refl, sym, ap, ◌∙◌, subst, arith, inl, inr}
use Rattle.channel_bench.proofs.Common.{cases_lt, eq-eqb, lt-ltb, or_parts, Callsign, Path, WaitingFrame, SentFrame}
use Rattle.channel_bench.proofs.Common.{Told, Machine, done_of, each_append, event_at, event_of, is_idle, link_event}
use Rattle.channel_bench.proofs.Common.{queueing_frame, queueing_frames, settled_link, telling_one, telling_to}
use Rattle.channel_bench.proofs.Common.{with_links, Link, Links, link_at, most_links, with_link, without_link}
use Rattle.channel_bench.proofs.Common.{idle_link, making, is_number, StationState, waits, Turn, capacity, changing}
use Rattle.channel_bench.proofs.Common.{dropping, entering, queueing, link_stepped, octets_of, length-map, sent_frame}
use Rattle.channel_bench.proofs.Common.{Idle, Calling, most_waiting}
use Rattle.std.proofs.Common.{set}
use Rattle.std.specs.List.{AllByRecursion as Each}
use Rattle.std.proofs.lemmas.Bool.{cases_eq, cond-true}
use Rattle.std.proofs.lemmas.List.{get_or-set_other, get_or-set_same, get_or_past, length-append, length-set}
use Rattle.link_machine.specs.Event.{Event as LinkEvent}
use Rattle.link_machine.specs.Step.{step as link_turn}
use Rattle.station.specs.Links.{IsNewKey}
use Rattle.channel_bench.proofs.WideCalls.{IsWideCall}

-- ---- what is so

abbrev pub HasKey : ℕ → WaitingFrame → Type 0
HasKey key frame = frame.link ≡ Some key

abbrev pub HasNoLinks : Links → Type 0
HasNoLinks links = (k : ℕ) → link_at k links ≡ None

-- Each link has the key, and each frame that waits carries it. A link that is made when there is none gets it too, if a
-- frame waits: it takes the key that was freed last.
pub record IsKeyed (key : ℕ) (waiting : List WaitingFrame) (links : Links) : Type 0 where
  pub waiting_is : Each (HasKey key) waiting
  pub links_are : (k : ℕ) (link : Link) → link_at k links ≡ Some link → k ≡ key
  pub next : (k : ℕ) → IsNewKey k links → HasNoLinks links → (k ≡ key) ⊎ (waiting ≡ [])
  pub size : length links.places ≡ most_links
  pub few : (k : ℕ) (link : Link) → link_at k links ≡ Some link → IsWideCall link.machine
      → length waiting ≤ most_waiting

abbrev pub IsKeyedState : ℕ → StationState → Type 0
IsKeyedState key s = IsKeyed key s.channel.waiting s.links

abbrev pub Keyed : StationState → Type 0
Keyed s = (key : ℕ) × IsKeyedState key s

-- ---- places

-- a link of a changed table is at the place that changed, or was there before
set_some :
    (places : List (Option Link)) (key k : ℕ) (x : Option Link) (link : Link)
    → get_or (set places key x) k None ≡ Some link
    → (k ≡ key) ⊎ (get_or places k None ≡ Some link)
set_some places key k x link is = elim (cases_eq k key) [
  | inl same ↦ inl same
  | inr other ↦ inr (sym (get_or-set_other places key k x None other) ∙ is)
]

pub place_within : (places : List (Option Link)) (key : ℕ) (link : Link) → get_or places key None ≡ Some link
    → key < length places
place_within places key link is = elim (cases_lt key (length places)) [
  | inl below ↦ below
  | inr above ↦ (let clash : None ≡ Some link = sym (get_or_past places key None above) ∙ is in absurd (cc))
]

-- ---- an event of the link

one_key : (key : ℕ) (octets : List ℕ) (t : Turn) → Each (HasKey key) t.now.channel.waiting
    → Each (HasKey key) (queueing (Some key) octets t).now.channel.waiting
one_key key octets t h = go (nat_lt (length t.now.channel.waiting) capacity)
  where
    go : (b : Bool) → Each (HasKey key) (cond b (entering (Some key) octets t) (dropping t)).now.channel.waiting
    go true = each_append (HasKey key) t.now.channel.waiting _ h (refl, tt)
    go false = h

frames_keyed : (key : ℕ) (frames : List SentFrame) (t : Turn) → Each (HasKey key) t.now.channel.waiting
    → Each (HasKey key) (queueing_frames key frames t).now.channel.waiting
frames_keyed key [] t h = h
frames_keyed key (f ∷ frames) t h =
    frames_keyed key frames (queueing_frame key f t) (one_key key (octets_of f) t h)

-- no more wait than that were sent
frames_wait :
    (key : ℕ) (frames : List SentFrame) (t : Turn)
    → length (queueing_frames key frames t).now.channel.waiting ≤ length t.now.channel.waiting + length frames
frames_wait key [] t = omega arith
frames_wait key (f ∷ frames) t =
    let rest = frames_wait key frames (queueing_frame key f t) in
    let one : length (queueing_frame key f t).now.channel.waiting ≤ length t.now.channel.waiting + 1 =
    go (nat_lt (length t.now.channel.waiting) capacity) in
    omega arith
  where
    go : (b : Bool)
        → length (cond b (entering (Some key) (octets_of f) t) (dropping t)).now.channel.waiting
        ≤ length t.now.channel.waiting + 1
    go true =
        let more = length-append t.now.channel.waiting
        ((let w : WaitingFrame = record { link = Some key; octets = octets_of f } in w) ∷ []) in
        omega arith
    go false = omega arith

-- what is told changes no station
pub told_now : (owner : Option ℕ) (local remote : Callsign) (told : List Told) (t : Turn)
    → (telling_to owner local remote told t).now ≡ t.now
told_now owner local remote [] t = refl
told_now None local remote (item ∷ told) t = told_now None local remote told t
told_now (Some id) local remote (item ∷ told) t =
    told_now (Some id) local remote told (telling_one (Some id) local remote item t)

-- the table after it
record KeyOfLinks (key : ℕ) (now : Machine) (links : Links) : Type 0 where
  links_are : (k : ℕ) (link : Link) → link_at k links ≡ Some link → k ≡ key
  next : (k : ℕ) → IsNewKey k links → HasNoLinks links → k ≡ key
  size : length links.places ≡ most_links
  machine : (k : ℕ) (link : Link) → link_at k links ≡ Some link → link.machine ≡ now

settled_key :
    (key : ℕ) (link : Link) (now : Machine) (links : Links) → link_at key links ≡ Some link
    → ((k : ℕ) (x : Link) → link_at k links ≡ Some x → k ≡ key) → length links.places ≡ most_links
    → KeyOfLinks key now (settled_link key link now links)
settled_key key link now links at were size = go (is_idle now.control.state)
  where
    same : (place : Option Link) (k : ℕ) (x : Link) → get_or (set links.places key place) k None ≡ Some x → k ≡ key
    same place k x is = elim (set_some links.places key k place x is) [
      | inl here ↦ here
      | inr before ↦ were k x before
    ]

    -- what is at the key
    there : (place : Option Link) (k : ℕ) (x : Link) → get_or (set links.places key place) k None ≡ Some x
        → place ≡ Some x
    there place k x is =
        let here : k ≡ key = same place k x is in
        sym (get_or-set_same links.places key place None (place_within links.places key link at))
        ∙ subst (λ n. get_or (set links.places key place) n None ≡ Some x) here is

    go : (b : Bool)
        → KeyOfLinks key now (cond b (without_link key links) (with_link key (record link { machine = now }) links))
    go true = record {
      links_are = same None;
      next = λ k new none. new.freed;
      size = length-set links.places key None ∙ size;
      machine = λ k x is. let clash : None ≡ Some x = there None k x is in absurd (cc);
    }
    go false =
        let next : Link = record link { machine = now } in
        record {
          links_are = same (Some next);
          next = λ k new none.
              let placed : get_or (set links.places key (Some next)) key None ≡ Some next =
              get_or-set_same links.places key (Some next) None (place_within links.places key link at) in
              let clash : None ≡ Some next = sym (none key) ∙ placed in
              absurd (cc);
          size = length-set links.places key (Some next) ∙ size;
          machine = λ k x is.
              let found : Some next ≡ Some x = there (Some next) k x is in
              let is_next : next ≡ x = cc in
              sym (ap (λ (l : Link). l.machine) is_next);
        }

-- an event that leaves the link calling modulo 128 leaves few frames waiting
abbrev pub LeavesFew : ℕ → LinkEvent → Turn → Type 0
LeavesFew key event t =
    (link : Link) → link_at key t.now.links ≡ Some link → IsWideCall (link_turn link.machine event).now
    → length t.now.channel.waiting + length (link_turn link.machine event).sent ≤ most_waiting

link_keyed : (key : ℕ) (event : LinkEvent) (link : Link) (t : Turn) → link_at key t.now.links ≡ Some link
    → LeavesFew key event t → IsKeyedState key t.now → IsKeyedState key (link_event key event link t).now
link_keyed key event link t at leaves h =
    let stepped = link_turn link.machine event in
    let placed = changing (with_links (settled_link key link stepped.now)) t in
    let done = done_of stepped in
    let queued = queueing_frames key done.frames placed in
    let told : (link_event key event link t).now ≡ queued.now =
    told_now link.owner link.local link.remote done.told queued in
    let made = link_stepped key event link t in
    let table = settled_key key link stepped.now t.now.links at h.links_are h.size in
    subst (IsKeyed key (link_event key event link t).now.channel.waiting) (sym made.links) (record {
      waiting_is = subst (λ (s : StationState). Each (HasKey key) s.channel.waiting) (sym told)
          (frames_keyed key done.frames placed h.waiting_is);
      links_are = table.links_are;
      next = λ k new none. inl (table.next k new none);
      size = table.size;
      few = λ k x is wide.
          let more : length queued.now.channel.waiting ≤ length t.now.channel.waiting + length done.frames =
          frames_wait key done.frames placed in
          let size : length done.frames ≡ length stepped.sent = length-map stepped.sent (sent_frame stepped.now.path) in
          let all : length (link_event key event link t).now.channel.waiting ≡ length queued.now.channel.waiting =
          ap (λ (s : StationState). length s.channel.waiting) told in
          let low : length t.now.channel.waiting + length stepped.sent ≤ most_waiting =
          leaves link at (subst IsWideCall (table.machine k x is) wide) in
          omega arith;
    })

pub event_keyed : (key : ℕ) (event : LinkEvent) (t : Turn) → LeavesFew key event t → Keyed t.now
    → Keyed (event_at key event t).now
event_keyed key event t leaves h = go (link_at key t.now.links) refl
  where
    go : (place : Option Link) → link_at key t.now.links ≡ place → Keyed (event_of key event place t).now
    go None at = h
    go (Some link) at =
        let same : key ≡ h.0 = h.1.links_are key link at in
        (key, link_keyed key event link t at leaves (subst (λ k. IsKeyedState k t.now) (sym same) h.1))

-- ---- a link that is made when there is none

pub made_idle :
    (key id pid : ℕ) (local remote : Callsign) (path : Path) (t : Turn) (k : ℕ) (x : Link)
    → key < length t.now.links.places → HasNoLinks t.now.links
    → link_at k (making key id pid local remote path t).now.links ≡ Some x → x.machine.control.state ≡ Idle
made_idle key id pid local remote path t k x within none is =
    elim (set_some t.now.links.places key k (Some link) x is) [
      | inl here ↦
          let found : Some link ≡ Some x =
          sym (get_or-set_same t.now.links.places key (Some link) None within)
          ∙ subst (λ n. get_or (set t.now.links.places key (Some link)) n None ≡ Some x) here is in
          let same : link ≡ x = cc in
          ap (λ (l : Link). l.machine.control.state) (sym same)
      | inr before ↦ let clash : None ≡ Some x = sym (none k) ∙ before in absurd (cc)
    ]
  where
    link : Link
    link = idle_link id pid local remote path t.now.parameters

pub key_within : (key : ℕ) (t : Turn) → Keyed t.now → IsNewKey key t.now.links → key < length t.now.links.places
key_within key t h new = let low = new.within in let size = h.1.size in omega arith

pub made_keyed :
    (key id pid : ℕ) (local remote : Callsign) (path : Path) (t : Turn) → IsNewKey key t.now.links
    → HasNoLinks t.now.links → Keyed t.now → Keyed (making key id pid local remote path t).now
made_keyed key id pid local remote path t new none h = (
  key,
  record {
    waiting_is = waiting (h.1.next key new none);
    links_are = λ k x is. elim (set_some t.now.links.places key k (Some link) x is) [
      | inl here ↦ here
      | inr before ↦ (let clash : None ≡ Some x = sym (none k) ∙ before in absurd (cc))
    ];
    next = λ k later empty.
        let there : get_or (set t.now.links.places key (Some link)) key None ≡ Some link =
        get_or-set_same t.now.links.places key (Some link) None within in
        let clash : None ≡ Some link = sym (empty key) ∙ there in
        absurd (cc);
    size = length-set t.now.links.places key (Some link) ∙ h.1.size;
    few = λ k x is wide.
        let clash : Idle ≡ Calling = sym (made_idle key id pid local remote path t k x within none is) ∙ wide.state in
        absurd (cc);
  },
)
  where
    link : Link
    link = idle_link id pid local remote path t.now.parameters

    within : key < length t.now.links.places
    within = key_within key t h new

    waiting : (key ≡ h.0) ⊎ (t.now.channel.waiting ≡ []) → Each (HasKey key) t.now.channel.waiting
    waiting (inl same) = subst (λ k. Each (HasKey k) t.now.channel.waiting) (sym same) h.1.waiting_is
    waiting (inr empty) = subst (Each (HasKey key)) (sym empty) tt

-- ---- if no frame of the link waits

none_waits : (key : ℕ) (waiting : List WaitingFrame) → Each (HasKey key) waiting → waits key waiting ≡ false
    → waiting ≡ []
none_waits key [] h none = refl
none_waits key (f ∷ waiting) h none =
    let here : is_number key f.link ≡ true = ap (is_number key) h.0 ∙ eq-eqb key key refl in
    let not_here : is_number key f.link ≡ false =
    (or_parts (is_number key f.link) (waits key waiting) none).0 in
    let clash : true ≡ false = sym here ∙ not_here in
    absurd (cc)

pub empty_queue :
    (key : ℕ) (link : Link) (t : Turn) → Keyed t.now → link_at key t.now.links ≡ Some link
    → waits key t.now.channel.waiting ≡ false → t.now.channel.waiting ≡ []
empty_queue key link t h at none =
    let same : key ≡ h.0 = h.1.links_are key link at in
    none_waits key t.now.channel.waiting
    (subst (λ k. Each (HasKey k) t.now.channel.waiting) (sym same) h.1.waiting_is) none

-- ---- frames that find room

pub all_enter :
    (key : ℕ) (frames : List SentFrame) (t : Turn) → length t.now.channel.waiting + length frames ≤ capacity
    → length (queueing_frames key frames t).out.queued ≡ length t.out.queued + length frames
all_enter key [] t room = omega arith
all_enter key (f ∷ frames) t room =
    let next = entering (Some key) (octets_of f) t in
    let waiting = length-append t.now.channel.waiting
    ((let w : WaitingFrame = record { link = Some key; octets = octets_of f } in w) ∷ []) in
    let queued = length-append t.out.queued (octets_of f ∷ []) in
    let rest = all_enter key frames next (omega arith) in
    let enters : queueing_frame key f t ≡ next =
    cond-true (nat_lt (length t.now.channel.waiting) capacity) next (dropping t) (lt-ltb _ _ (omega arith)) in
    ap (λ (u : Turn). length (queueing_frames key frames u).out.queued) enters ∙ (omega arith)
