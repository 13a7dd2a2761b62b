-- Numbers that go along a list of frames: each frame is held to a number, and says the number that the next is held to.
use Rattle.link_world.proofs.Common.{ℕ, ◌≤◌, List, [], ◌∷◌, ◌++◌}
use Rattle.std.specs.List.{AllByRecursion as Each}
use Rattle.link_world.proofs.law.reduced.Core.{Tagged}

pub record Rule : Type 1 where
  -- what a frame is held to, at a number
  pub Holds : ℕ → Tagged → Type 0
  -- the number after a frame
  pub next : ℕ → Tagged → ℕ
  -- what holds of the number after the last frame
  pub Ends : ℕ → Type 0

abbrev pub Chain : Rule → ℕ → List Tagged → Type 0
Chain rule n [] = rule.Ends n
Chain rule n (f ∷ fs) = rule.Holds n f × Chain rule (rule.next n f) fs

-- a smaller number asks for less, and no frame lowers the number
pub record IsRising (rule : Rule) : Type 0 where
  pub weaker : (a b : ℕ) (f : Tagged) → a ≤ b → rule.Holds b f → rule.Holds a f
  pub next : (a b : ℕ) (f : Tagged) → a ≤ b → rule.next a f ≤ rule.next b f
  pub ends : (a b : ℕ) → a ≤ b → rule.Ends b → rule.Ends a
  pub rises : (a : ℕ) (f : Tagged) → rule.Holds a f → a ≤ rule.next a f

-- a smaller start is weaker
pub chain_from :
    {rule : Rule} → IsRising rule → (a b : ℕ) (fs : List Tagged) → a ≤ b → Chain rule b fs → Chain rule a fs
chain_from r a b [] le h = r.ends a b le h
chain_from {rule} r a b (f ∷ fs) le h =
    (r.weaker a b f le h.0, chain_from r (rule.next a f) (rule.next b f) fs (r.next a b f le) h.1)

-- what holds after the last frame holds at the start
pub chain_start : {rule : Rule} → IsRising rule → (a : ℕ) (fs : List Tagged) → Chain rule a fs → rule.Ends a
chain_start r a [] h = h
chain_start {rule} r a (f ∷ fs) h = r.ends a (rule.next a f) (r.rises a f h.0) (chain_start r (rule.next a f) fs h.1)

-- the first frame goes
pub chain_tail :
    {rule : Rule} → IsRising rule → (a : ℕ) (f : Tagged) (fs : List Tagged) → Chain rule a (f ∷ fs) → Chain rule a fs
chain_tail {rule} r a f fs h = chain_from r a (rule.next a f) fs (r.rises a f h.0) h.1

-- any frame goes
pub chain_removed :
    {rule : Rule} → IsRising rule → (a : ℕ) (before : List Tagged) (f : Tagged) (after : List Tagged)
    → Chain rule a (before ++ f ∷ after) → Chain rule a (before ++ after)
chain_removed r a [] f after h = chain_tail r a f after h
chain_removed {rule} r a (g ∷ before) f after h = (h.0, chain_removed r (rule.next a g) before f after h.1)

-- one frame more
pub chain_pushed :
    (rule : Rule) (f : Tagged) → ((n : ℕ) → rule.Ends n → rule.Holds n f × rule.Ends (rule.next n f))
    → (a : ℕ) (fs : List Tagged) → Chain rule a fs → Chain rule a (fs ++ f ∷ [])
chain_pushed rule f fits a [] h = fits a h
chain_pushed rule f fits a (g ∷ fs) h = (h.0, chain_pushed rule f fits (rule.next a g) fs h.1)

-- another rule asks for less, and its numbers are not larger
pub chain_wider :
    (rule : Rule) {other : Rule} → IsRising other → ((n : ℕ) (f : Tagged) → rule.Holds n f → other.Holds n f)
    → ((n : ℕ) (f : Tagged) → other.next n f ≤ rule.next n f) → ((n : ℕ) → rule.Ends n → other.Ends n)
    → (a : ℕ) (fs : List Tagged) → Chain rule a fs → Chain other a fs
chain_wider rule r holds less ends a [] h = ends a h
chain_wider rule {other} r holds less ends a (f ∷ fs) h =
    let rest = chain_wider rule r holds less ends (rule.next a f) fs h.1 in
    (holds a f h.0, chain_from r (other.next a f) (rule.next a f) fs (less a f) rest)

-- one frame more, if the numbers stay within a bound
pub chain_pushed_within :
    (rule : Rule) (bound : ℕ) (f : Tagged)
    → ((n : ℕ) → n ≤ bound → rule.Ends n → rule.Holds n f × rule.Ends (rule.next n f))
    → (a : ℕ) (fs : List Tagged) → a ≤ bound → Each (λ g. (n : ℕ) → n ≤ bound → rule.next n g ≤ bound) fs
    → Chain rule a fs → Chain rule a (fs ++ f ∷ [])
chain_pushed_within rule bound f fits a [] le within h = fits a le h
chain_pushed_within rule bound f fits a (g ∷ fs) le within h =
    (h.0, chain_pushed_within rule bound f fits (rule.next a g) fs (within.0 a le) within.1 h.1)

-- frames of which nothing is asked and which leave the number as it is
pub chain_silent :
    {rule : Rule} → IsRising rule → (a : ℕ) (fs : List Tagged)
    → Each (λ f. (n : ℕ) → rule.Holds n f × (rule.next n f ≤ n)) fs → rule.Ends a → Chain rule a fs
chain_silent r a [] silent ends = ends
chain_silent {rule} r a (f ∷ fs) silent ends =
    let one = silent.0 a in
    (one.0, chain_silent r (rule.next a f) fs silent.1 (r.ends (rule.next a f) a one.1 ends))
