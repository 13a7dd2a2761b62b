-- Where the packets of a set-up come from.
use Rattle.std.specs.Prelude.{◌≡◌, ◌≢◌, ℕ, List, [], ◌∷◌, ◌++◌, All, AllPairs, ◌<◌, slice_get, Option, Some, None}
use Rattle.std.specs.List.{filter_map}
use Rattle.selective_reject.specs.declared.packet.Packet.{Packet}
use Rattle.link_world.specs.SetUps.{SetUp}
use Rattle.link_world.specs.Recorded.{RecordedEnd}

abbrev pub origin_of : List Packet → Option ℕ → Option ℕ
origin_of [] accepted = None
origin_of (packet ∷ packets) accepted = accepted

-- The origin of a set-up that got a packet: the set-up of the other end that its first accepted I frame belonged to.
-- One that got nothing has none.
abbrev pub origin : SetUp → Option ℕ
origin q = origin_of q.got q.accepted

-- the origins of the set-ups that have one, in order
abbrev pub origins : List SetUp → List ℕ
origins set_ups = filter_map origin set_ups

abbrev pub IsPrefixOf : List Packet → List Packet → Type 0
IsPrefixOf part whole = (rest : List Packet) × (whole ≡ part ++ rest)

-- what a set-up got is a prefix of what was given in its origin, which has the same modulus
pub record GotPrefix (theirs : List SetUp) (q : SetUp) : Type 0 where
  pub number : ℕ
  pub is_origin : origin q ≡ Some number
  pub giver : SetUp
  pub is_there : slice_get theirs number ≡ Some giver
  pub prefix : IsPrefixOf q.got giver.given
  pub same_modulus : giver.modulus ≡ q.modulus

abbrev pub GotNothingElse : List SetUp → SetUp → Type 0
GotNothingElse theirs q = q.got ≢ [] → GotPrefix theirs q

-- each number is above all before it
abbrev pub RiseStrictly : List ℕ → Type 0
RiseStrictly numbers = AllPairs (λ m n. m < n) numbers

-- all that a set-up acted on comes from one set-up of the other end
abbrev pub ActedOnOne : SetUp → Type 0
ActedOnOne q = (number : ℕ) × All (λ n. n ≡ number) q.acted_on

-- what an end got of the other
pub record GotInOrder (near far : RecordedEnd) : Type 0 where
  pub prefixes : All (GotNothingElse far.set_ups) near.set_ups
  pub origins_rise : RiseStrictly (origins near.set_ups)
  pub one_source : All ActedOnOne near.set_ups
