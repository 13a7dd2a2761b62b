-- The information of an XID frame (AX.25 2.2 section 4.3.3.7): the format identifier 130, the group identifier 128, how
-- many octets follow, the high octet first, and in them parameters one after another.
use Rattle.std.specs.Prelude.{◌≡◌, ℕ, ◌/◌, ◌%◌, List, [], ◌∷◌, ◌++◌, length}

-- one parameter: what it tells of, and its value, the high octet first
pub record Parameter : Type 0 where
  pub identifier : ℕ
  pub value : List ℕ

-- it is spelled by its identifier, the length of its value, and the value
abbrev pub parameter_octets : Parameter → List ℕ
parameter_octets p = p.identifier ∷ length p.value ∷ p.value

abbrev pub group_octets : List Parameter → List ℕ
group_octets [] = []
group_octets (p ∷ ps) = parameter_octets p ++ group_octets ps

-- octets and a head that tells how many they are
abbrev pub with_head : List ℕ → List ℕ
with_head group = 130 ∷ 128 ∷ length group / 256 ∷ length group % 256 ∷ group

-- the octets spell these parameters
abbrev pub IsXidField : List Parameter → List ℕ → Type 0
IsXidField ps octets = octets ≡ with_head (group_octets ps)
