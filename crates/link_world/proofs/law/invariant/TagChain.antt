-- Tags rise along what is under way.
use Rattle.link_world.proofs.Common.{◌≡◌, ℕ, ◌≤◌, List, [], ◌∷◌, ◌++◌, arith, le_refl, le_trans}
use Rattle.std.specs.List.{AllByRecursion as Each}
use Rattle.link_world.proofs.law.reduced.Core.{Tagged}
use Rattle.link_world.proofs.law.invariant.Chains.{Rule, Chain, IsRising, chain_from, chain_wider, chain_pushed}
use Rattle.link_world.proofs.law.invariant.Chains.{chain_start}

-- no tag is below the one before it, and none is above `high`
abbrev pub tags_to : ℕ → Rule
tags_to high = record { Holds = λ n f. n ≤ f.tag; next = λ n f. f.tag; Ends = λ n. n ≤ high }

abbrev pub TagsRise : ℕ → List Tagged → ℕ → Type 0
TagsRise low fs high = Chain (tags_to high) low fs

pub tags_rising : (high : ℕ) → IsRising (tags_to high)
tags_rising high = record {
  weaker = λ a b f le h. le_trans le h;
  next = λ a b f le. le_refl f.tag;
  ends = λ a b le h. le_trans le h;
  rises = λ a f h. h;
}

-- the era goes on
pub tags_higher :
    (low high higher : ℕ) (fs : List Tagged) → high ≤ higher → TagsRise low fs high → TagsRise low fs higher
tags_higher low high higher fs le h =
    chain_wider (tags_to high) (tags_rising higher) (λ n f holds. holds) (λ n f. le_refl f.tag)
    (λ n ends. le_trans ends le) low fs h

-- one frame more of the sender's era
pub tags_pushed :
    (low : ℕ) {high : ℕ} (fs : List Tagged) (f : Tagged) → f.tag ≡ high → TagsRise low fs high
    → TagsRise low (fs ++ f ∷ []) high
tags_pushed low {high} fs f is h = chain_pushed (tags_to high) f (λ n ends. omega arith) low fs h

-- no tag is below the start
pub tags_above : (low high : ℕ) (fs : List Tagged) → TagsRise low fs high → Each (λ f. low ≤ f.tag) fs
tags_above low high [] h = tt
tags_above low high (f ∷ fs) h = (h.0, tags_above low high fs (chain_from (tags_rising high) low f.tag fs h.0 h.1))

-- no tag is above the era
pub tags_below : (low high : ℕ) (fs : List Tagged) → TagsRise low fs high → Each (λ f. f.tag ≤ high) fs
tags_below low high [] h = tt
tags_below low high (f ∷ fs) h = (chain_start (tags_rising high) f.tag fs h.1, tags_below f.tag high fs h.1)
