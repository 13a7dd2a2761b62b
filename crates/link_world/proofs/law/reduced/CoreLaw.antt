-- The law of two links over a channel that loses frames: what a set-up got is a prefix of what was given in one set-up
-- of the other end, its origin, which has the same modulus, and origins rise strictly.
use Rattle.link_world.proofs.Common.{⊤, Packet}
use Rattle.std.specs.Prelude.{◌≡◌, ℕ, ◌<◌, List, [], ◌∷◌, length, Option, Some, None, IfSome}
use Rattle.std.specs.List.{AllByRecursion as Each}
use Rattle.link_world.proofs.law.reduced.Core.{SetUp, Core, IsPrefixOf, set_ups, given_in, modulus_in}

-- what a set-up got, by its origin: a prefix of what was given there, and else nothing
abbrev pub GotBy : List SetUp → List Packet → Option ℕ → Type 0
GotBy ys got None = got ≡ []
GotBy ys got (Some origin) = (origin < length ys) × IsPrefixOf got (given_in ys origin)

abbrev pub GotOf : List SetUp → SetUp → Type 0
GotOf ys q = GotBy ys q.got q.origin

-- an origin is below another, if there are both
abbrev pub OriginBelow : SetUp → SetUp → Type 0
OriginBelow q p = IfSome q.origin (λ a. IfSome p.origin (λ b. a < b))

-- the origins rise strictly
abbrev pub OriginsRise : List SetUp → Type 0
OriginsRise [] = ⊤
OriginsRise (q ∷ qs) = Each (OriginBelow q) qs × OriginsRise qs

-- an origin has the modulus of its set-up
abbrev pub OriginAlike : List SetUp → SetUp → Type 0
OriginAlike ys q = IfSome q.origin (λ o. modulus_in ys o ≡ q.modulus)

-- what holds of the set-ups of both ends
pub record ObeysPrefixLaw (w : Core) : Type 0 where
  pub x_got : Each (GotOf (set_ups w.y)) (set_ups w.x)
  pub y_got : Each (GotOf (set_ups w.x)) (set_ups w.y)
  pub x_origins : OriginsRise (set_ups w.x)
  pub y_origins : OriginsRise (set_ups w.y)
  pub x_alike : Each (OriginAlike (set_ups w.y)) (set_ups w.x)
  pub y_alike : Each (OriginAlike (set_ups w.x)) (set_ups w.y)
