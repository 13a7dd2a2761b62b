-- What a moment makes of the two directions: which frames are queued, and from which number on they are in flight.
use Rattle.station_laws.proofs.Common.{◌≡◌, ℕ, ◌+◌, ◌≤◌, Bool, List, [], ◌∷◌, ◌++◌, Option, Some, None, refl, sym, ap}
use Rattle.station_laws.proofs.Common.{◌∙◌, arith, le-max_left, le-max_right, append-nil, append_assoc, End, A, B}
use Rattle.station_laws.proofs.Common.{other, LinkFrame, OneWay, BothWays, sent_by, with_queued, queueing_at}
use Rattle.station_laws.proofs.Common.{queueing_all, hearing_at, after_moment, Passes, at_end}
use Rattle.station_laws.specs.InFlight.{with_front}
use Rattle.station_laws.proofs.Framed.{one_framed, framed}

-- ---- frames join

-- one way, with frames that joined
abbrev pub joined : List LinkFrame → OneWay → OneWay
joined frames way = record way { queued = way.queued ++ frames }

joined_none : (way : OneWay) → joined [] way ≡ way
joined_none way = ap (λ q. let w : OneWay = record { queued = q; front = way.front } in w) (append-nil way.queued)

joined_more : (f : LinkFrame) (frames : List LinkFrame) (way : OneWay)
    → joined frames (with_queued f way) ≡ joined (f ∷ frames) way
joined_more f frames way =
    ap (λ q. let w : OneWay = record { queued = q; front = way.front } in w) (append_assoc way.queued (f ∷ []) frames)

pub queueing_own :
    (e : End) (on : Bool) (queue : List (List ℕ)) (ways : BothWays)
    → sent_by e (queueing_all e on queue ways) ≡ joined (framed on queue) (sent_by e ways)
queueing_own A on [] ways = sym (joined_none ways.from_a)
queueing_own B on [] ways = sym (joined_none ways.from_b)
queueing_own A on (octets ∷ queue) ways =
    queueing_own A on queue (queueing_at A on octets ways)
    ∙ joined_more (one_framed on octets) (framed on queue) ways.from_a
queueing_own B on (octets ∷ queue) ways =
    queueing_own B on queue (queueing_at B on octets ways)
    ∙ joined_more (one_framed on octets) (framed on queue) ways.from_b

pub queueing_other :
    (e : End) (on : Bool) (queue : List (List ℕ)) (ways : BothWays)
    → sent_by (other e) (queueing_all e on queue ways) ≡ sent_by (other e) ways
queueing_other A on [] ways = refl
queueing_other B on [] ways = refl
queueing_other A on (octets ∷ queue) ways = queueing_other A on queue (queueing_at A on octets ways)
queueing_other B on (octets ∷ queue) ways = queueing_other B on queue (queueing_at B on octets ways)

-- ---- a frame is heard

pub hearing_own :
    (e : End) (matched : Option ℕ) (ways : BothWays) → sent_by e (hearing_at e matched ways) ≡ sent_by e ways
hearing_own A matched ways = refl
hearing_own B matched ways = refl

pub hearing_none : (e : End) (ways : BothWays) → sent_by (other e) (hearing_at e None ways) ≡ sent_by (other e) ways
hearing_none A ways = refl
hearing_none B ways = refl

pub hearing_one :
    (e : End) (number : ℕ) (ways : BothWays)
    → sent_by (other e) (hearing_at e (Some number) ways) ≡ with_front (number + 1) (sent_by (other e) ways)
hearing_one A number ways = refl
hearing_one B number ways = refl

-- ---- a step

pub stepped_own :
    (e : End) (on : Bool) (queue : List (List ℕ)) (matched : Option ℕ) (ways : BothWays)
    → sent_by e (queueing_all e on queue (hearing_at e matched ways)) ≡ joined (framed on queue) (sent_by e ways)
stepped_own e on queue matched ways =
    queueing_own e on queue (hearing_at e matched ways) ∙ ap (joined (framed on queue)) (hearing_own e matched ways)

pub stepped_other :
    (e : End) (on : Bool) (queue : List (List ℕ)) (matched : Option ℕ) (ways : BothWays)
    → sent_by (other e) (queueing_all e on queue (hearing_at e matched ways))
    ≡ sent_by (other e) (hearing_at e matched ways)
stepped_other e on queue matched ways = queueing_other e on queue (hearing_at e matched ways)

-- ---- queued

-- what was queued and what joins
pub queued_by :
    (x e : End) (on : Bool) (queue : List (List ℕ)) (matched : Option ℕ) (ways : BothWays)
    → (sent_by x (queueing_all e on queue (hearing_at e matched ways))).queued
    ≡ (sent_by x ways).queued ++ at_end x e (framed on queue)
queued_by A A on queue matched ways = ap (λ (w : OneWay). w.queued) (stepped_own A on queue matched ways)
queued_by B B on queue matched ways = ap (λ (w : OneWay). w.queued) (stepped_own B on queue matched ways)
queued_by A B on queue matched ways =
    ap (λ (w : OneWay). w.queued) (stepped_other B on queue matched ways) ∙ heard_queued matched
    ∙ sym (append-nil ways.from_a.queued)
  where
    heard_queued : (m : Option ℕ) → (sent_by A (hearing_at B m ways)).queued ≡ ways.from_a.queued
    heard_queued None = refl
    heard_queued (Some number) = refl
queued_by B A on queue matched ways =
    ap (λ (w : OneWay). w.queued) (stepped_other A on queue matched ways) ∙ heard_queued matched
    ∙ sym (append-nil ways.from_b.queued)
  where
    heard_queued : (m : Option ℕ) → (sent_by B (hearing_at A m ways)).queued ≡ ways.from_b.queued
    heard_queued None = refl
    heard_queued (Some number) = refl

-- ---- the front never falls

pub front_by :
    (x e : End) (on : Bool) (queue : List (List ℕ)) (matched : Option ℕ) (ways : BothWays)
    → (sent_by x ways).front ≤ (sent_by x (queueing_all e on queue (hearing_at e matched ways))).front
front_by A A on queue matched ways =
    let same = ap (λ (w : OneWay). w.front) (stepped_own A on queue matched ways) in omega arith
front_by B B on queue matched ways =
    let same = ap (λ (w : OneWay). w.front) (stepped_own B on queue matched ways) in omega arith
front_by A B on queue matched ways =
    let same = ap (λ (w : OneWay). w.front) (stepped_other B on queue matched ways) in
    let more : ways.from_a.front ≤ (sent_by A (hearing_at B matched ways)).front = risen matched in
    omega arith
  where
    risen : (m : Option ℕ) → ways.from_a.front ≤ (sent_by A (hearing_at B m ways)).front
    risen None = omega arith
    risen (Some number) = le-max_left ways.from_a.front (number + 1)
front_by B A on queue matched ways =
    let same = ap (λ (w : OneWay). w.front) (stepped_other A on queue matched ways) in
    let more : ways.from_b.front ≤ (sent_by B (hearing_at A matched ways)).front = risen matched in
    omega arith
  where
    risen : (m : Option ℕ) → ways.from_b.front ≤ (sent_by B (hearing_at A m ways)).front
    risen None = omega arith
    risen (Some number) = le-max_left ways.from_b.front (number + 1)

pub front_passed :
    (x sender : End) (below : ℕ) (ways : BothWays)
    → (sent_by x ways).front ≤ (sent_by x (after_moment (Passes sender below) ways)).front
front_passed A A below ways = le-max_left ways.from_a.front below
front_passed B B below ways = le-max_left ways.from_b.front below
front_passed A B below ways = omega arith
front_passed B A below ways = omega arith

-- of what is heard
pub front_heard :
    (e : End) (on : Bool) (queue : List (List ℕ)) (number : ℕ) (ways : BothWays)
    → number + 1 ≤ (sent_by (other e) (queueing_all e on queue (hearing_at e (Some number) ways))).front
front_heard e on queue number ways =
    let same = ap (λ (w : OneWay). w.front) (stepped_other e on queue (Some number) ways ∙ hearing_one e number ways) in
    let more = le-max_right (sent_by (other e) ways).front (number + 1) in
    omega arith

pub queued_passed :
    (x sender : End) (below : ℕ) (ways : BothWays)
    → (sent_by x (after_moment (Passes sender below) ways)).queued ≡ (sent_by x ways).queued
queued_passed A A below ways = refl
queued_passed B B below ways = refl
queued_passed A B below ways = refl
queued_passed B A below ways = refl
