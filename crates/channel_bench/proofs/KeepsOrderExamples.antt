-- The order of two host programs, computed: two set-ups of which the second got a first part keep it; octets that
-- nobody gave do not, nor do those of another set-up than the origin.
use Rattle.channel_bench.proofs.Common.{◌≡◌, ℕ, List, [], ◌∷◌, refl, ap, ◌∙◌, arith, SetUp, GotInOrder}

abbrev pub one : List ℕ → List ℕ → SetUp
one given got = record { given = given; got = got }

-- the second set-up of A got a first part of what B gave in its first, and B got nothing of A's first
pub in_order : GotInOrder (0 ∷ []) (one (1 ∷ 2 ∷ 3 ∷ []) [] ∷ []) (one (7 ∷ []) [] ∷ one (7 ∷ []) (1 ∷ 2 ∷ []) ∷ [])
in_order = record {
  got = (record { giver = one (1 ∷ 2 ∷ 3 ∷ []) []; is_there = refl; first_part = (3 ∷ [], refl) }, tt);
  rise = λ i j d lt within. absurd (omega arith);
}

-- octets of no set-up
from_nowhere : GotInOrder (0 ∷ []) (one (1 ∷ 2 ∷ []) [] ∷ []) (one [] (5 ∷ []) ∷ []) → ⊥
from_nowhere h =
    let from = h.got.0 in
    let same : one (1 ∷ 2 ∷ []) [] ≡ from.giver = let is = from.is_there in cc in
    let part : 1 ∷ 2 ∷ [] ≡ 5 ∷ from.first_part.0 = ap (λ (q : SetUp). q.given) same ∙ from.first_part.1 in
    absurd (cc)

-- octets that the partner gave, but in the set-up before the origin
from_before :
    GotInOrder (1 ∷ []) (one (1 ∷ 2 ∷ []) [] ∷ one (5 ∷ []) [] ∷ []) (one [] (1 ∷ []) ∷ []) → ⊥
from_before h =
    let from = h.got.0 in
    let same : one (5 ∷ []) [] ≡ from.giver = let is = from.is_there in cc in
    let part : 5 ∷ [] ≡ 1 ∷ from.first_part.0 = ap (λ (q : SetUp). q.given) same ∙ from.first_part.1 in
    absurd (cc)
