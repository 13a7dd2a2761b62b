-- The set-ups of an end by their numbers, when the last one changes or another is opened.
use Rattle.link_world.proofs.Common.{◌≡◌, ℕ, zero, suc, ◌+◌, ◌<◌, ◌≤◌, List, [], ◌∷◌, ◌++◌, length, refl, arith}
use Rattle.link_world.proofs.Common.{length-append}
use Rattle.link_world.proofs.law.reduced.Core.{SetUp, IsPrefixOf, set_up_at, given_in, got_in, modulus_in, unopened}
use Rattle.link_world.proofs.law.invariant.Prefixes.{prefix_same, prefix_none}

-- no set-up is lost, and what was given stays, and so does the modulus
pub record SetUpsGrow (before following : List SetUp) : Type 0 where
  pub count : length before ≤ length following
  pub given : (n : ℕ) → IsPrefixOf (given_in before n) (given_in following n)
  pub modulus : (n : ℕ) → n < length before → modulus_in following n ≡ modulus_in before n

given_last :
    (ended : List SetUp) (c d : SetUp) → IsPrefixOf c.given d.given → (n : ℕ)
    → IsPrefixOf (given_in (ended ++ c ∷ []) n) (given_in (ended ++ d ∷ []) n)
given_last [] c d h zero = h
given_last [] c d h (suc n) = prefix_none
given_last (e ∷ ended) c d h zero = prefix_same
given_last (e ∷ ended) c d h (suc n) = given_last ended c d h n

pub length_last : (ended : List SetUp) (c : SetUp) → length (ended ++ c ∷ []) ≡ length ended + 1
length_last ended c = length-append ended (c ∷ [])

modulus_last :
    (ended : List SetUp) (c d : SetUp) → d.modulus ≡ c.modulus → (n : ℕ)
    → modulus_in (ended ++ d ∷ []) n ≡ modulus_in (ended ++ c ∷ []) n
modulus_last [] c d h zero = h
modulus_last [] c d h (suc n) = refl
modulus_last (e ∷ ended) c d h zero = refl
modulus_last (e ∷ ended) c d h (suc n) = modulus_last ended c d h n

-- more is given in the last one
pub grow_last :
    (ended : List SetUp) (c d : SetUp) → IsPrefixOf c.given d.given → d.modulus ≡ c.modulus
    → SetUpsGrow (ended ++ c ∷ []) (ended ++ d ∷ [])
grow_last ended c d h same = record {
  count = omega (arith, length_last ended c, length_last ended d);
  given = given_last ended c d h;
  modulus = λ n within. modulus_last ended c d same n;
}

given_new : (ended : List SetUp) (c : SetUp) (n : ℕ) → IsPrefixOf (given_in ended n) (given_in (ended ++ c ∷ []) n)
given_new [] c n = prefix_none
given_new (e ∷ ended) c zero = prefix_same
given_new (e ∷ ended) c (suc n) = given_new ended c n

modulus_new :
    (ended : List SetUp) (c : SetUp) (n : ℕ) → n < length ended → modulus_in (ended ++ c ∷ []) n ≡ modulus_in ended n
modulus_new [] c n within = absurd (omega arith)
modulus_new (e ∷ ended) c zero within = refl
modulus_new (e ∷ ended) c (suc n) within = modulus_new ended c n (omega arith)

-- another one is opened
pub grow_new : {ended : List SetUp} (c : SetUp) → SetUpsGrow ended (ended ++ c ∷ [])
grow_new {ended} c = record {
  count = omega (arith, length_last ended c);
  given = given_new ended c;
  modulus = modulus_new ended c;
}

-- the last one
pub at_last : (ended : List SetUp) (c : SetUp) → set_up_at (ended ++ c ∷ []) (length ended) ≡ c
at_last [] c = refl
at_last (e ∷ ended) c = at_last ended c

-- one that was not opened
pub at_none : (qs : List SetUp) (n : ℕ) → length qs ≤ n → set_up_at qs n ≡ unopened
at_none [] n h = refl
at_none (q ∷ qs) zero h = absurd (omega arith)
at_none (q ∷ qs) (suc n) h = at_none qs n (omega arith)

-- got in each set-up stays as it is, if it does in the last
pub got_same :
    (ended : List SetUp) (c d : SetUp) → d.got ≡ c.got → (n : ℕ)
    → got_in (ended ++ d ∷ []) n ≡ got_in (ended ++ c ∷ []) n
got_same [] c d h zero = h
got_same [] c d h (suc n) = refl
got_same (e ∷ ended) c d h zero = refl
got_same (e ∷ ended) c d h (suc n) = got_same ended c d h n

-- nothing is got yet in one that opens
pub got_new : (ended : List SetUp) (c : SetUp) → c.got ≡ [] → (n : ℕ) → got_in (ended ++ c ∷ []) n ≡ got_in ended n
got_new [] c h zero = h
got_new [] c h (suc n) = refl
got_new (e ∷ ended) c h zero = refl
got_new (e ∷ ended) c h (suc n) = got_new ended c h n
