-- A link that is up, in the middle of an event.
use Rattle.link_world.proofs.Common.{◌≡◌, ℕ, Bool, List, [], ◌∷◌, ◌++◌, length, sym, ap, ◌∙◌, append_assoc, ⊤}
use Rattle.link_world.proofs.Common.{map-append, Told, Incoming, Params, Sent, SentIn, InfoSent, SuperSent, SetupSent}
use Rattle.link_world.proofs.Common.{Turn, XidSent}
use Rattle.link_world.proofs.law.showing.PlacesFit.{IsSound}
use Rattle.std.specs.List.{AllByRecursion as Each}
use Rattle.link_machine.specs.declared.state.LinkState.TheVariants.{Up as UpState}
use Rattle.link_world.proofs.law.reduced.Core.{End, SetUp, Tagged, between}
use Rattle.link_world.proofs.law.reduced.CoreOf.{core_sent, cores_sent, up_end}
use Rattle.link_world.proofs.law.invariant.Invariant.{Invariant}

-- a link that is up sends I and S frames, up to the DISC that ends it, or XID alone
abbrev pub IsNumberedSent : Sent → Type 0
IsNumberedSent (InfoSent number nr poll packet) = ⊤
IsNumberedSent (SuperSent which command nr flag) = ⊤
IsNumberedSent (SetupSent which flag) = ⊥
IsNumberedSent (XidSent command flag own) = ⊥

abbrev pub SentFits : Bool → SentIn → Type 0
SentFits answers s = IsNumberedSent s.frame

-- A link that is up, in the middle of an event: its partner, what was under way to the partner before, the set-ups
-- that ended, the one that is open, whether a UA or DM sent now answers a SABM or DISC, what was told so far, and
-- the modulus.
pub record Progress : Type 0 where
  pub partner : End
  pub before : List Tagged
  pub ended : List SetUp
  pub open_now : SetUp
  pub answers : Bool
  pub told : List Told
  pub params : Params
  pub modulus : ℕ

-- it has told that much, and what it keeps of the partner's packets is sound
pub record IsSoFar (g : Progress) (told : List Told) (params : Params) (incoming : Incoming) : Type 0 where
  pub told_is : told ≡ g.told
  pub params_are : params ≡ g.params
  pub sound : IsSound g.params incoming
  pub modulus_is : incoming.modulus ≡ g.modulus

-- what is under way from it is what was, and what it has sent
pub record IsUp (to_x : List Tagged) (g : Progress) (turn : Turn) : Type 0 where
  pub state : turn.now.control.state ≡ UpState
  pub so_far : IsSoFar g turn.told turn.now.params turn.now.incoming
  pub fits : Each (SentFits g.answers) turn.sent
  pub holds : Invariant (between (up_end turn.now g.ended g.open_now) g.partner to_x
      (g.before ++ cores_sent g.answers (length g.ended) turn.sent))

-- what was sent, with one frame more
pub sent_one :
    (answers : Bool) (tag : ℕ) (to_y : List Tagged) (sent : List SentIn) (s : SentIn)
    → (to_y ++ cores_sent answers tag sent) ++ core_sent answers tag s ∷ []
    ≡ to_y ++ cores_sent answers tag (sent ++ s ∷ [])
sent_one answers tag to_y sent s = append_assoc to_y (cores_sent answers tag sent) (core_sent answers tag s ∷ [])
    ∙ ap (λ t. to_y ++ t) (sym (map-append (core_sent answers tag) sent (s ∷ [])))
