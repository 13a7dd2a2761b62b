-- Two links and the frames between them, without timers and conditions (AX.25 2.2 sections 4.2 and 6): what decides
-- which packets an end gets. Numbers are true ones, counted from 0 in each set-up. Set-ups are numbered from 0 at each
-- end.
use Rattle.link_world.proofs.Common.{slice_index_or, Packet}
use Rattle.std.specs.Prelude.{◌≡◌, ℕ, Bool, List, [], ◌∷◌, ◌++◌, length, Option, None}

-- I and S frames, with their numbers. An SREJ has F = 0 here and acknowledges nothing; what an SREJ with F = 1 says is
-- said by RR.
pub data Numbered : Type 0 where
  Info : (ns nr : ℕ) → (packet : Packet) → Numbered
  Super : (nr : ℕ) → Numbered
  Srej : (nr : ℕ) → Numbered

-- SABM, which calls in modulus 8, SABME, which calls in 128, and DISC ask; UA answers, and so does a DM that was sent
-- on hearing one of them. I and S frames are written in a modulus.
pub data Kind : Type 0 where
  Sabm : (modulus : ℕ) → Kind
  Disc : Kind
  Ua : Kind
  Dm : (answers : Bool) → Kind
  IsNumbered : (modulus : ℕ) → (frame : Numbered) → Kind

-- A frame under way, with its sender's set-up: the one that was open, else the one that it would open next. A UA that
-- opens a set-up carries that one.
pub record Tagged : Type 0 where
  pub tag : ℕ
  pub kind : Kind

-- A set-up of an end: the packets given in it and got in it, its modulus, the tag of the SABM or UA that opened it,
-- which is its mate, and the tag of the first I frame that it accepted, which is its origin.
pub record SetUp : Type 0 where
  pub given : List Packet
  pub got : List Packet
  pub modulus : ℕ
  pub mate : ℕ
  pub origin : Option ℕ

-- a packet that came before its turn, by its number
pub record Stored : Type 0 where
  pub number : ℕ
  pub packet : Packet

-- What an end keeps while it is up: V(A), V(S), one past the highest number ever sent, the packets given and
-- not acknowledged, V(R), the packets that came before their turn, and the set-up so far.
pub record Running : Type 0 where
  pub va : ℕ
  pub vs : ℕ
  pub top : ℕ
  pub kept : List Packet
  pub vr : ℕ
  pub stored : List Stored
  pub set_up : SetUp

-- the packets given while calling are those of the set-up that follows
pub data Standing : Type 0 where
  Idle : Standing
  Calling : (waiting : List Packet) → Standing
  Up : (running : Running) → Standing
  Releasing : Standing

-- an end: its windows, by the modulus; its modulus, and its window k there; the set-ups that ended, in order, and how
-- it stands
pub record End : Type 0 where
  pub windows : ℕ → ℕ
  pub modulus : ℕ
  pub window : ℕ
  pub ended : List SetUp
  pub standing : Standing

-- two ends, and the frames under way to each, the oldest first
pub record Core : Type 0 where
  pub x : End
  pub y : End
  pub to_x : List Tagged
  pub to_y : List Tagged

abbrev pub between : End → End → List Tagged → List Tagged → Core
between x y to_x to_y = record { x = x; y = y; to_x = to_x; to_y = to_y }

-- the same, seen from the other end
abbrev pub mirror : Core → Core
mirror w = record { x = w.y; y = w.x; to_x = w.to_y; to_y = w.to_x }

-- the set-ups of an end, in order
abbrev pub with_running : Standing → List SetUp → List SetUp
with_running Idle ended = ended
with_running (Calling waiting) ended = ended
with_running (Up r) ended = ended ++ r.set_up ∷ []
with_running Releasing ended = ended

abbrev pub set_ups : End → List SetUp
set_ups e = with_running e.standing e.ended

-- the tag of what an end sends: the number of the set-up that is open, else of the one that would be opened next
abbrev pub era : End → ℕ
era e = length e.ended

-- how many set-ups an end has opened
abbrev pub count : End → ℕ
count e = length (set_ups e)

-- a set-up that was not opened: nothing is given or got in it
abbrev pub unopened : SetUp
unopened = record { given = []; got = []; modulus = 0; mate = 0; origin = None }

abbrev pub set_up_at : List SetUp → ℕ → SetUp
set_up_at set_ups n = slice_index_or set_ups n unopened

abbrev pub given_in : List SetUp → ℕ → List Packet
given_in set_ups n = (set_up_at set_ups n).given

abbrev pub got_in : List SetUp → ℕ → List Packet
got_in set_ups n = (set_up_at set_ups n).got

abbrev pub modulus_in : List SetUp → ℕ → ℕ
modulus_in set_ups n = (set_up_at set_ups n).modulus

-- a list begins with another
pub record IsPrefixOf (front whole : List Packet) : Type 0 where
  pub rest : List Packet
  pub is : whole ≡ front ++ rest
