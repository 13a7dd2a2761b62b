-- A link that is up takes the packet of an I frame, by REJ or by SREJ.
use Rattle.link_world.proofs.Common.{◌≡◌, ℕ, ◌+◌, List, [], ◌∷◌, ◌++◌, length, drop, Option, Some, None, IsSome, refl}
use Rattle.link_world.proofs.Common.{sym, ap, ◌∙◌, subst, arith, append_assoc, append-nil, drop-drop, Packet, Place}
use Rattle.link_world.proofs.Common.{packet_at, Machine, before_gap, run_with, moved_on}
use Rattle.link_machine.specs.Acts.{run}
use Rattle.link_world.proofs.law.reduced.Core.{End, Running, SetUp, Stored, Tagged, between}
use Rattle.link_world.proofs.law.reduced.Core.Numbered.{Info}
use Rattle.link_world.proofs.law.reduced.CoreMoves.{numbered_to, first_origin}
use Rattle.link_world.proofs.law.reduced.CoreOf.{stored_before, stored_from, running_of, end_following, up_end}
use Rattle.link_world.proofs.law.showing.PlacesStored.{stored_after, stored_first_empty}
use Rattle.link_world.proofs.law.moves.UpSending.{UpInvariant}
use Rattle.link_world.proofs.law.moves.Receiving.{accept_front_keeps, take_stored_keeps}
use Rattle.link_world.proofs.law.invariant.Invariant.{Invariant}

-- a set-up that got more, and perhaps has its origin now
abbrev pub got_by : List Packet → Option ℕ → SetUp → SetUp
got_by packets origin q = record q { got = q.got ++ packets; origin = origin }

-- the numbers of a link that has got so many packets more
abbrev pub got_so_far : (vr : ℕ) → List Stored → SetUp → Running → Running
got_so_far vr stored q r = record r { vr = vr; stored = stored; set_up = q }

-- what is taken of some places
abbrev pub taken_of : (vr : ℕ) → List Packet → List Place → SetUp → Running → Running
taken_of vr packets ps q r =
    got_so_far (vr + length packets) (stored_from (vr + length packets) (drop (length packets) ps))
    (got_by packets q.origin q) r

none_taken :
    (x : End) {y : End} (r : Running) (vr : ℕ) (q : SetUp) (ps : List Place) {to_x to_y : List Tagged}
    → UpInvariant x y (got_so_far vr (stored_from vr ps) q r) to_x to_y
    → UpInvariant x y (taken_of vr [] ps q r) to_x to_y
none_taken x r vr q ps h =
    let none : vr ≡ vr + 0 = omega arith in
    rw (← none) (rw (append-nil q.got) h)

some_taken :
    (x : End) {y : End} (r : Running) (vr : ℕ) (q : SetUp) (p : Place) (ps : List Place) {to_x to_y : List Tagged}
    (o : Option Packet) → p.packet ≡ o → IsSome q.origin
    → ((packet : Packet) → UpInvariant x y (got_so_far (vr + 1) (stored_from (vr + 1) ps)
    (got_by (packet ∷ []) q.origin q) r) to_x to_y
    → UpInvariant x y (taken_of (vr + 1) (run ps) ps (got_by (packet ∷ []) q.origin q) r) to_x to_y)
    → UpInvariant x y (got_so_far vr (stored_from vr (p ∷ ps)) q r) to_x to_y
    → UpInvariant x y (taken_of vr (before_gap o (run ps)) (p ∷ ps) q r) to_x to_y
some_taken x r vr q p ps None is some rest h = none_taken x r vr q (p ∷ ps) h
some_taken x r vr q p ps (Some packet) is some rest h =
    let s : Stored = record { number = vr; packet = packet } in
    let before = got_so_far vr (stored_from vr (p ∷ ps)) q r in
    let one = take_stored_keeps x [] s (stored_from (vr + 1) ps)
    (ap (λ t. stored_before vr t (stored_from (vr + 1) ps)) is) refl some h in
    let further : vr + 1 + length (run ps) ≡ vr + length (packet ∷ run ps) = omega arith in
    let got = append_assoc q.got (packet ∷ []) (run ps) in
    rw (← got) (rw (← further) (rest packet one))

-- one after another, up to the first place that is empty
pub run_taken :
    (x : End) {y : End} (r : Running) (vr : ℕ) (q : SetUp) (ps : List Place) {to_x to_y : List Tagged} → IsSome q.origin
    → UpInvariant x y (got_so_far vr (stored_from vr ps) q r) to_x to_y
    → UpInvariant x y (taken_of vr (run ps) ps q r) to_x to_y
run_taken x r vr q [] some h = none_taken x r vr q [] h
run_taken x r vr q (p ∷ ps) some h = some_taken x r vr q p ps p.packet refl some
    (λ packet one. run_taken x r (vr + 1) (got_by (packet ∷ []) q.origin q) ps some one) h

first_is_some : (o : Option ℕ) (tag : ℕ) → IsSome (first_origin o tag)
first_is_some None tag = refl
first_is_some (Some a) tag = refl

-- The front frame has the packet with number V(R), whose place is empty.
pub next_taken :
    {y : End} (m : Machine) (ended : List SetUp) (q : SetUp) {tag k nr : ℕ} {packet : Packet} {rest to_y : List Tagged}
    → packet_at m.incoming.places 0 ≡ None
    → Invariant (between (up_end m ended q) y (numbered_to tag k (Info m.incoming.vr nr packet) ∷ rest) to_y)
    → UpInvariant (end_following m ended) y
    (got_so_far (m.incoming.vr + 1) (stored_from (m.incoming.vr + 1) (drop 1 m.incoming.places))
    (got_by (packet ∷ []) (first_origin q.origin tag) q) (running_of m q)) rest to_y
next_taken m ended q none h = rw (stored_first_empty m.incoming.vr m.incoming.places none)
    (accept_front_keeps (end_following m ended) h)

-- so by REJ, if V(R) moves on by one
pub one_taken :
    {y : End} (m : Machine) (ended : List SetUp) (q : SetUp) {tag k nr : ℕ} {packet : Packet} {rest to_y : List Tagged}
    → packet_at m.incoming.places 0 ≡ None
    → Invariant (between (up_end m ended q) y (numbered_to tag k (Info m.incoming.vr nr packet) ∷ rest) to_y)
    → Invariant (between (up_end (record m { incoming = moved_on 1 m.incoming }) ended
    (got_by (packet ∷ []) (first_origin q.origin tag) q)) y rest to_y)
one_taken m ended q none h =
    let i = m.incoming in
    rw (stored_after (i.vr + 1) 1 (drop 1 i.places)) (next_taken m ended q none h)

-- and by SREJ, if V(R) moves on past those stored that follow
pub run_with_taken :
    {y : End} (m : Machine) (ended : List SetUp) (q : SetUp) {tag k nr : ℕ} {packet : Packet} {rest to_y : List Tagged}
    → packet_at m.incoming.places 0 ≡ None
    → Invariant (between (up_end m ended q) y (numbered_to tag k (Info m.incoming.vr nr packet) ∷ rest) to_y)
    → Invariant (between (up_end (record m { incoming = moved_on (length (run_with packet m)) m.incoming }) ended
    (got_by (run_with packet m) (first_origin q.origin tag) q)) y rest to_y)
run_with_taken {y} m ended q {tag} {k} {packet} {rest} {to_y} none h =
    let i = m.incoming in
    let more : List Packet = run (drop 1 i.places) in
    let q1 = got_by (packet ∷ []) (first_origin q.origin tag) q in
    let all = run_taken (end_following m ended) (running_of m q) (i.vr + 1) q1 (drop 1 i.places)
    (first_is_some q.origin tag) (next_taken m ended q none h) in
    let further : i.vr + 1 + length more ≡ i.vr + length (packet ∷ more) = omega arith in
    let following : 1 + length more ≡ length (packet ∷ more) = omega arith in
    let places = drop-drop (length more) 1 i.places ∙ ap (λ n. drop n i.places) following in
    let got = append_assoc q.got (packet ∷ []) more in
    let P : ℕ → List Stored → List Packet → Type 0 = λ n ss g. UpInvariant (end_following m ended) y
    (got_so_far n ss (record q { got = g; origin = first_origin q.origin tag }) (running_of m q)) rest to_y in
    let n = i.vr + length (packet ∷ more) in
    let last = subst (λ g. P n (stored_from n (drop (length more) (drop 1 i.places))) g) got
    (subst (λ k. P k (stored_from k (drop (length more) (drop 1 i.places))) ((q.got ++ packet ∷ []) ++ more))
    further all) in
    subst (λ ss. P n ss (q.got ++ packet ∷ more))
    (ap (stored_from n) places ∙ sym (stored_after n (length (packet ∷ more))
    (drop (length (packet ∷ more)) i.places))) last
