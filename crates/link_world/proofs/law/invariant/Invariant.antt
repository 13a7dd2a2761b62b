-- What holds of two links and the frames between them, for x hearing y: set-ups, numbers and packets. It is meant for
-- both ends.
use Rattle.link_world.proofs.Common.{◌≡◌, ℕ, ◌+◌, ◌<◌, ◌≤◌, List, length, drop, slice_get, Option, Some, IfSome, ⊤}
use Rattle.std.specs.List.{AllByRecursion as Each}
use Rattle.link_world.proofs.law.reduced.Core.{End, Core, Running, Standing, Stored, SetUp, Tagged, Kind, set_ups, era}
use Rattle.link_world.proofs.law.reduced.Core.{count, set_up_at, given_in, got_in, modulus_in}
use Rattle.link_world.proofs.law.reduced.Core.Numbered.{Info, Super, Srej}
use Rattle.link_world.proofs.law.reduced.Core.Kind.{Sabm, Disc, Ua, Dm, IsNumbered}
use Rattle.link_world.proofs.law.reduced.Core.Standing.{Idle, Calling, Up, Releasing}
use Rattle.link_world.proofs.law.reduced.CoreLaw.{GotOf, OriginsRise, OriginAlike}
use Rattle.link_world.proofs.law.reduced.CoreMoves.{asks, answers}
use Rattle.link_world.proofs.law.invariant.Mates.{of_mate}
use Rattle.link_world.proofs.law.invariant.TagChain.{TagsRise}
use Rattle.link_world.proofs.law.numbers.AckChain.{AcksRise}
use Rattle.link_world.proofs.law.numbers.InfoChain.{InfosFit, InfoBelow, held}
use Rattle.link_world.proofs.law.invariant.Views.{View, view}

-- no frame under way to an end that is up has a tag below its mate
abbrev pub low_by : Standing → ℕ
low_by Idle = 0
low_by (Calling waiting) = 0
low_by (Up r) = r.set_up.mate
low_by Releasing = 0

-- an I or S frame has the tag of a set-up that was opened
abbrev pub OfSetUp : ℕ → ℕ → Kind → Type 0
OfSetUp count tag (Sabm modulus) = ⊤
OfSetUp count tag Disc = ⊤
OfSetUp count tag Ua = ⊤
OfSetUp count tag (Dm answers) = ⊤
OfSetUp count tag (IsNumbered modulus n) = tag < count

-- a SABM has the tag of the set-up that its sender would open next
abbrev pub IsCurrentCall : ℕ → ℕ → Kind → Type 0
IsCurrentCall count tag (Sabm modulus) = tag ≡ count
IsCurrentCall count tag Disc = ⊤
IsCurrentCall count tag Ua = ⊤
IsCurrentCall count tag (Dm answers) = ⊤
IsCurrentCall count tag (IsNumbered modulus n) = ⊤

-- the tags of what is under way, with the sender's era and how many set-ups it has opened
pub record Tags (low : ℕ) (fs : List Tagged) (era count : ℕ) : Type 0 where
  pub rise : TagsRise low fs era
  pub of_set_up : Each (λ f. OfSetUp count f.tag f.kind) fs
  pub call_is_current : Each (λ f. IsCurrentCall count f.tag f.kind) fs

-- What x sees, what y sees, and y's era and count: the mate is y's last set-up, or the next, and if both ends see
-- each other, it is y's own.
pub record MatesAgree (v u : Option View) (era count : ℕ) : Type 0 where
  pub last : IfSome v (λ a. count ≤ a.mate + 1)
  pub each_other : IfSome v (λ a. IfSome u (λ b. a.mate ≡ era))

-- what an end that is up has given and keeps
pub record Keeps (r : Running) (k : ℕ) : Type 0 where
  pub order : r.va ≤ r.vs
  pub window : r.top ≤ r.va + k
  pub given : r.top ≤ length r.set_up.given
  pub kept : r.kept ≡ drop r.va r.set_up.given

abbrev pub KeepsBy : Standing → ℕ → Type 0
KeepsBy Idle k = ⊤
KeepsBy (Calling waiting) k = ⊤
KeepsBy (Up r) k = Keeps r k
KeepsBy Releasing k = ⊤

-- what is stored and what is under way was sent: it is below one past the highest number sent
pub record WasSent (a : View) (fs : List Tagged) (top : ℕ) : Type 0 where
  pub stored : Each (λ (s : Stored). s.number < top) a.stored
  pub under_way : Each (λ f. InfoBelow top (of_mate a.mate f)) fs

-- the numbers, with the set-ups of x and its own number, the set-ups of y, and y's windows
pub record Numbers (v u : Option View) (fs : List Tagged) (xs : List SetUp) (own : ℕ) (ys : List SetUp)
    (windows : ℕ → ℕ) : Type 0 where
  pub counts : IfSome v (λ a. a.vr ≡ length (got_in xs own))
  pub acks : IfSome v (λ a. AcksRise a.mate a.va fs (length (got_in ys a.mate)) a.top)
  pub infos : IfSome v (λ a. InfosFit a.mate (held a.vr a.stored) fs a.vr (windows a.modulus))
  pub sent : IfSome v (λ a. IfSome u (λ b. WasSent a fs b.top))

-- an I frame has the packet that was given under its number
abbrev pub Carries : List SetUp → ℕ → Kind → Type 0
Carries ys tag (Sabm modulus) = ⊤
Carries ys tag Disc = ⊤
Carries ys tag Ua = ⊤
Carries ys tag (Dm answers) = ⊤
Carries ys tag (IsNumbered modulus (Info ns nr packet)) = slice_get (given_in ys tag) ns ≡ Some packet
Carries ys tag (IsNumbered modulus (Super nr)) = ⊤
Carries ys tag (IsNumbered modulus (Srej nr)) = ⊤

-- the origin, if there is one, is below a number
abbrev pub OriginUnder : ℕ → SetUp → Type 0
OriginUnder mate q = IfSome q.origin (λ o. o < mate)

-- the packets, with the set-ups of x that ended, all of its set-ups, and those of y
pub record Packets (v : Option View) (fs : List Tagged) (ended xs ys : List SetUp) : Type 0 where
  pub carries : Each (λ f. Carries ys f.tag f.kind) fs
  pub stored : IfSome v (λ a. Each (λ (s : Stored). slice_get (given_in ys a.mate) s.number ≡ Some s.packet) a.stored)
  pub prefixes : Each (GotOf ys) xs
  pub origins : OriginsRise xs
  pub own : IfSome v (λ a. IfSome (set_up_at xs (length ended)).origin (λ o. o ≡ a.mate))
  pub earlier : IfSome v (λ a. Each (OriginUnder a.mate) ended)

-- an end that is up counts in the modulus of its set-up
abbrev pub OwnModulus : Standing → ℕ → Type 0
OwnModulus Idle modulus = ⊤
OwnModulus (Calling waiting) modulus = ⊤
OwnModulus (Up r) modulus = r.set_up.modulus ≡ modulus
OwnModulus Releasing modulus = ⊤

-- an I or S frame is written in the modulus of its set-up
abbrev pub HasModulus : List SetUp → ℕ → Kind → Type 0
HasModulus ys tag (Sabm modulus) = ⊤
HasModulus ys tag Disc = ⊤
HasModulus ys tag Ua = ⊤
HasModulus ys tag (Dm answers) = ⊤
HasModulus ys tag (IsNumbered modulus n) = modulus ≡ modulus_in ys tag

-- while an end calls, its calls are in its modulus
abbrev pub CallsBy : Standing → (own modulus : ℕ) → Type 0
CallsBy Idle own modulus = ⊤
CallsBy (Calling waiting) own modulus = modulus ≡ own
CallsBy (Up r) own modulus = ⊤
CallsBy Releasing own modulus = ⊤

abbrev pub CallsIn : Standing → ℕ → Kind → Type 0
CallsIn s own (Sabm modulus) = CallsBy s own modulus
CallsIn s own Disc = ⊤
CallsIn s own Ua = ⊤
CallsIn s own (Dm answers) = ⊤
CallsIn s own (IsNumbered m n) = ⊤

-- the moduli: of x and its set-ups, of what is under way to it, and of what it sees, which is that of its mate
pub record Moduli (v u : Option View) (x y : End) (to_x : List Tagged) : Type 0 where
  pub window : x.window ≡ x.windows x.modulus
  pub own : OwnModulus x.standing x.modulus
  pub frames : Each (λ f. HasModulus (set_ups y) f.tag f.kind) to_x
  pub calls : Each (λ f. CallsIn y.standing y.modulus f.kind) to_x
  pub same : IfSome v (λ a. IfSome u (λ b. a.modulus ≡ b.modulus))
  pub mate : IfSome v (λ a. a.mate < count y → modulus_in (set_ups y) a.mate ≡ a.modulus)
  pub origins : Each (OriginAlike (set_ups y)) (set_ups x)

-- x hears y; v and u are what each end sees, to_x and to_y is what is under way to each
pub record Hears (v u : Option View) (x y : End) (to_x to_y : List Tagged) : Type 0 where
  pub tags : Tags (low_by x.standing) to_x (era y) (count y)
  pub one_exchange : asks to_x + answers to_y ≤ 1
  pub mates : MatesAgree v u (era y) (count y)
  pub keeps : KeepsBy x.standing x.window
  pub numbers : Numbers v u to_x (set_ups x) (era x) (set_ups y) y.windows
  pub packets : Packets v to_x x.ended (set_ups x) (set_ups y)
  pub moduli : Moduli v u x y to_x

-- both ends hear each other
pub record BothHear (v u : Option View) (x y : End) (to_x to_y : List Tagged) : Type 0 where
  pub x_hears : Hears v u x y to_x to_y
  pub y_hears : Hears u v y x to_y to_x

abbrev pub Invariant : Core → Type 0
Invariant w = BothHear (view w.x w.to_x) (view w.y w.to_y) w.x w.y w.to_x w.to_y
