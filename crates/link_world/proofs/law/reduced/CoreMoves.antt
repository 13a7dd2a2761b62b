-- The moves of which the events of a link consist, as they change two ends and the frames between them (AX.25 2.2
-- section 6). Each is a move of x; those of y are the same in the mirror.
use Rattle.link_world.proofs.Common.{Packet}
use Rattle.std.specs.Prelude.{◌≡◌, ℕ, ◌+◌, ◌-◌, ◌<◌, ◌≤◌, max, true, false, List, [], ◌∷◌, ◌++◌, drop, slice_get}
use Rattle.std.specs.Prelude.{Option, Some, None, IsSome}
use Rattle.link_world.proofs.law.reduced.Core.{Tagged, Kind, Numbered, Stored, Running, Standing, End, Core, between}
use Rattle.link_world.proofs.law.reduced.Core.{mirror, set_ups, era}
use Rattle.link_world.proofs.law.reduced.Core.Numbered.{Info, Super, Srej}
use Rattle.link_world.proofs.law.reduced.Core.Kind.{Sabm, Disc, Ua, Dm, IsNumbered}
use Rattle.link_world.proofs.law.reduced.Core.Standing.{Idle, Calling, Up, Releasing}

-- how many SABM and DISC, and how many answers to them, are among some frames
abbrev pub ask_of : Kind → ℕ
ask_of (Sabm modulus) = 1
ask_of Disc = 1
ask_of Ua = 0
ask_of (Dm answers) = 0
ask_of (IsNumbered modulus n) = 0

abbrev pub asks : List Tagged → ℕ
asks [] = 0
asks (f ∷ fs) = ask_of f.kind + asks fs

abbrev pub answer_of : Kind → ℕ
answer_of (Sabm modulus) = 0
answer_of Disc = 0
answer_of Ua = 1
answer_of (Dm true) = 1
answer_of (Dm false) = 0
answer_of (IsNumbered modulus n) = 0

abbrev pub answers : List Tagged → ℕ
answers [] = 0
answers (f ∷ fs) = answer_of f.kind + answers fs

abbrev pub sabm_of : Kind → ℕ
sabm_of (Sabm modulus) = 1
sabm_of Disc = 0
sabm_of Ua = 0
sabm_of (Dm answers) = 0
sabm_of (IsNumbered modulus n) = 0

-- how many SABM are among some frames
abbrev pub sabms : List Tagged → ℕ
sabms [] = 0
sabms (f ∷ fs) = sabm_of f.kind + sabms fs

abbrev pub now : Standing → End → End
now standing e = record e { standing = standing }

-- a frame of an end, with its tag
abbrev pub of_end : End → Kind → Tagged
of_end e kind = record { tag = era e; kind = kind }

-- an I or S frame with a tag, in a modulus
abbrev pub numbered_to : (tag modulus : ℕ) → Numbered → Tagged
numbered_to tag modulus n = record { tag = tag; kind = IsNumbered modulus n }

-- the numbers of an end that sends
abbrev pub sending_from : (va vs top : ℕ) → List Packet → Running → Running
sending_from va vs top kept r = record r { va = va; vs = vs; top = top; kept = kept }

-- what a frame acknowledges
abbrev pub Acknowledges : Numbered → ℕ → Type 0
Acknowledges (Info ns a packet) nr = a ≡ nr
Acknowledges (Super a) nr = a ≡ nr
Acknowledges (Srej a) nr = ⊥

-- the packets below N(R) are acknowledged
abbrev pub acknowledged_to : ℕ → Running → Running
acknowledged_to nr r = sending_from nr (max r.vs nr) r.top (drop (nr - r.va) r.kept) r

-- one packet more is got; the rest of what came before its turn stays stored
abbrev pub got_more : Packet → Option ℕ → List Stored → Running → Running
got_more packet origin stored r = record r {
  vr = r.vr + 1;
  stored = stored;
  set_up = record r.set_up { got = r.set_up.got ++ packet ∷ []; origin = origin };
}

-- the origin is the tag of the first I frame that is accepted
abbrev pub first_origin : Option ℕ → ℕ → Option ℕ
first_origin None tag = Some tag
first_origin (Some origin) tag = Some origin

-- other packets are stored, of which some were perhaps accepted just now
abbrev pub storing : List Stored → Option ℕ → Running → Running
storing stored origin r = record r { stored = stored; set_up = record r.set_up { origin = origin } }

-- one packet more is given
abbrev pub given_more : Packet → Running → Running
given_more packet r =
    record r { kept = r.kept ++ packet ∷ []; set_up = record r.set_up { given = r.set_up.given ++ packet ∷ [] } }

-- a set-up that has just opened, in a modulus: what was given before is given in it
abbrev pub opened : (mate modulus : ℕ) → List Packet → Running
opened mate modulus given = record {
  va = 0;
  vs = 0;
  top = 0;
  kept = given;
  vr = 0;
  stored = [];
  set_up = record { given = given; got = []; modulus = modulus; mate = mate; origin = None };
}

-- the set-ups so far are over, and the end stands as told
abbrev pub after_all : Standing → End → End
after_all standing e = record e { ended = set_ups e; standing = standing }

-- the end counts in another modulus from here on
abbrev pub in_modulus : ℕ → End → End
in_modulus modulus e = record e { modulus = modulus; window = e.windows modulus }

-- the partner's call in a modulus opens a set-up
abbrev pub called : (mate modulus : ℕ) → End → End
called mate modulus e = in_modulus modulus (after_all (Up (opened mate modulus [])) e)

-- a number was sent
abbrev pub sent_number : ℕ → Running → Running
sent_number n r = sending_from r.va r.vs (max r.top (n + 1)) r.kept r

-- a frame without numbers, with a tag
abbrev pub setup_to : ℕ → Kind → Tagged
setup_to tag kind = record { tag = tag; kind = kind }

-- A move of x. If a SABM or DISC goes out, none of x is under way, and no answer is under way to x.
pub data Move : Core → Core → Type 0 where
  -- a frame under way to x is lost, or passed over
  Lose : (x y : End) (before : List Tagged) (f : Tagged) (after to_y : List Tagged)
      → Move (between x y (before ++ f ∷ after) to_y) (between x y (before ++ after) to_y)
  -- the front frame acknowledges; it stays in front
  AckFront : (x y : End) (r : Running) (tag m nr : ℕ) (n : Numbered) (rest to_y : List Tagged) → Acknowledges n nr
      → Move (between (now (Up r) x) y (numbered_to tag m n ∷ rest) to_y)
      (between (now (Up (acknowledged_to nr r)) x) y (numbered_to tag m n ∷ rest) to_y)
  -- V(S) goes back, or on
  SetVs : (x y : End) (r : Running) (vs : ℕ) (to_x to_y : List Tagged) → r.va ≤ vs
      → Move (between (now (Up r) x) y to_x to_y)
      (between (now (Up (sending_from r.va vs r.top r.kept r)) x) y to_x to_y)
  -- an I frame goes out, the first time or again
  SendInfo : (x y : End) (r : Running) (n : ℕ) (packet : Packet) (to_x to_y : List Tagged) → r.va ≤ n
      → n < r.va + x.window → slice_get r.kept (n - r.va) ≡ Some packet → Move (between (now (Up r) x) y to_x to_y)
      (between (now (Up (sent_number n r)) x) y to_x
      (to_y ++ of_end x (IsNumbered x.modulus (Info n r.vr packet)) ∷ []))
  -- RR, RNR or REJ
  SendSuper : (x y : End) (r : Running) (to_x to_y : List Tagged) → Move (between (now (Up r) x) y to_x to_y)
      (between (now (Up r) x) y to_x (to_y ++ of_end x (IsNumbered x.modulus (Super r.vr)) ∷ []))
  -- an SREJ, below a number that is stored
  SendSrej : (x y : End) (r : Running) (n : ℕ) (before : List Stored) (s : Stored) (after : List Stored)
      (to_x to_y : List Tagged) → r.stored ≡ before ++ s ∷ after → r.vr ≤ n → n < s.number
      → Move (between (now (Up r) x) y to_x to_y)
      (between (now (Up r) x) y to_x (to_y ++ of_end x (IsNumbered x.modulus (Srej n)) ∷ []))
  -- the front frame has the packet with number V(R), which is got
  AcceptFront : (x y : End) (r : Running) (tag m nr : ℕ) (packet : Packet) (rest to_y : List Tagged)
      → Move (between (now (Up r) x) y (numbered_to tag m (Info r.vr nr packet) ∷ rest) to_y)
      (between (now (Up (got_more packet (first_origin r.set_up.origin tag) r.stored r)) x) y rest to_y)
  -- the front frame has a packet that comes before its turn, which is stored
  StoreFront : (x y : End) (r : Running) (tag m ns nr : ℕ) (packet : Packet) (before after : List Stored)
      (rest to_y : List Tagged) → r.stored ≡ before ++ after
      → Move (between (now (Up r) x) y (numbered_to tag m (Info ns nr packet) ∷ rest) to_y) (between
      (now (Up (storing (before ++ record { number = ns; packet = packet } ∷ after)
      (first_origin r.set_up.origin tag) r)) x) y rest to_y)
  -- the packet with number V(R) was stored, and is got, after one that was accepted
  TakeStored : (x y : End) (r : Running) (before : List Stored) (s : Stored) (after : List Stored)
      (to_x to_y : List Tagged) → r.stored ≡ before ++ s ∷ after → s.number ≡ r.vr → IsSome r.set_up.origin
      → Move (between (now (Up r) x) y to_x to_y)
      (between (now (Up (got_more s.packet r.set_up.origin (before ++ after) r)) x) y to_x to_y)
  -- a packet is given
  GiveUp : (x y : End) (r : Running) (packet : Packet) (to_x to_y : List Tagged)
      → Move (between (now (Up r) x) y to_x to_y) (between (now (Up (given_more packet r)) x) y to_x to_y)
  GiveCalling : (x y : End) (waiting : List Packet) (packet : Packet) (to_x to_y : List Tagged)
      → Move (between (now (Calling waiting) x) y to_x to_y)
      (between (now (Calling (waiting ++ packet ∷ [])) x) y to_x to_y)
  -- a set-up, a call or a release ends
  LeaveToIdle : (x y : End) (modulus : ℕ) (to_x to_y : List Tagged)
      → Move (between x y to_x to_y) (between (in_modulus modulus (after_all Idle x)) y to_x to_y)
  LeaveToReleasing : (x y : End) (to_x to_y : List Tagged)
      → Move (between x y to_x to_y) (between (after_all Releasing x) y to_x to_y)
  -- x begins to call, in a modulus
  Begin : (x y : End) (modulus : ℕ) (to_x to_y : List Tagged) → asks to_y + answers to_x ≡ 0
      → Move (between x y to_x to_y) (between (in_modulus modulus (after_all (Calling []) x)) y to_x to_y)
  -- a call goes on in another modulus: what was given stays
  Recount : (x y : End) (waiting : List Packet) (modulus : ℕ) (to_x to_y : List Tagged) → asks to_y + answers to_x ≡ 0
      → Move (between (now (Calling waiting) x) y to_x to_y)
      (between (in_modulus modulus (now (Calling waiting) x)) y to_x to_y)
  -- SABM or SABME, DISC, and a DM that answers none of them
  Call : (x y : End) (waiting : List Packet) (to_x to_y : List Tagged) → asks to_y + answers to_x ≡ 0
      → Move (between (now (Calling waiting) x) y to_x to_y)
      (between (now (Calling waiting) x) y to_x (to_y ++ of_end x (Sabm x.modulus) ∷ []))
  Release : (x y : End) (to_x to_y : List Tagged) → asks to_y + answers to_x ≡ 0
      → Move (between x y to_x to_y) (between x y to_x (to_y ++ of_end x Disc ∷ []))
  SendDm : (x y : End) (to_x to_y : List Tagged)
      → Move (between x y to_x to_y) (between x y to_x (to_y ++ of_end x (Dm false) ∷ []))
  -- a SABM or DISC is answered by DM, and a DISC by UA if no set-up is open
  DeclineByDm : (x y : End) (tag : ℕ) (kind : Kind) (rest to_y : List Tagged) → ask_of kind ≡ 1
      → Move (between x y (setup_to tag kind ∷ rest) to_y) (between x y rest (to_y ++ of_end x (Dm true) ∷ []))
  DeclineIdle : (x y : End) (tag : ℕ) (rest to_y : List Tagged)
      → Move (between (now Idle x) y (setup_to tag Disc ∷ rest) to_y)
      (between (now Idle x) y rest (to_y ++ of_end x Ua ∷ []))
  DeclineReleasing : (x y : End) (tag : ℕ) (rest to_y : List Tagged)
      → Move (between (now Releasing x) y (setup_to tag Disc ∷ rest) to_y)
      (between (now Releasing x) y rest (to_y ++ of_end x Ua ∷ []))
  -- A SABM is answered by UA: while x is calling in the same modulus itself; while no SABM of x is under way; and
  -- while x is up
  Agree : (x y : End) (waiting : List Packet) (tag : ℕ) (rest to_y : List Tagged)
      → Move (between (now (Calling waiting) x) y (setup_to tag (Sabm x.modulus) ∷ rest) to_y)
      (between (now (Calling waiting) x) y rest (to_y ++ of_end x Ua ∷ []))
  OpenCalled : (x y : End) (tag modulus : ℕ) (rest to_y : List Tagged) → sabms to_y ≡ 0
      → Move (between x y (setup_to tag (Sabm modulus) ∷ rest) to_y)
      (between (called tag modulus x) y rest (to_y ++ of_end (called tag modulus x) Ua ∷ []))
  OpenAgain : (x y : End) (r : Running) (tag modulus : ℕ) (rest to_y : List Tagged)
      → Move (between (now (Up r) x) y (setup_to tag (Sabm modulus) ∷ rest) to_y)
      (between (called tag modulus (now (Up r) x)) y rest (to_y ++ of_end (called tag modulus (now (Up r) x)) Ua ∷ []))
  -- the UA to a SABM of x is heard
  OpenAnswered : (x y : End) (waiting : List Packet) (tag : ℕ) (rest to_y : List Tagged)
      → Move (between (now (Calling waiting) x) y (setup_to tag Ua ∷ rest) to_y)
      (between (now (Up (opened tag x.modulus waiting)) x) y rest to_y)

-- moves of both ends, one after another
pub data Moves : Core → Core → Type 0 where
  NoMove : (w : Core) → Moves w w
  ThenX : (w v u : Core) → Moves w v → Move v u → Moves w u
  ThenY : (w v u : Core) → Moves w v → Move (mirror v) (mirror u) → Moves w u

-- two new ends, with nothing under way
abbrev pub new_end : ℕ → (ℕ → ℕ) → End
new_end modulus windows =
    record { windows = windows; modulus = modulus; window = windows modulus; ended = []; standing = Idle }

abbrev pub new_core : ℕ → (x_windows y_windows : ℕ → ℕ) → Core
new_core modulus x_windows y_windows = between (new_end modulus x_windows) (new_end modulus y_windows) [] []
