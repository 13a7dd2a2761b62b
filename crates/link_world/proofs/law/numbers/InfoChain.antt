-- The numbers of I frames along what is under way: each is less than a window above V(R), and at most a window below
-- all that is stored or comes before it. The window is the sender's.
use Rattle.link_world.proofs.Common.{◌≡◌, ℕ, ◌+◌, ◌<◌, ◌≤◌, max, List, [], ◌∷◌, ◌++◌, Option, Some, None, arith}
use Rattle.link_world.proofs.Common.{le_refl, le_trans, ⊤}
use Rattle.std.specs.List.{AllByRecursion as Each}
use Rattle.link_world.proofs.law.reduced.Core.{Tagged, Numbered, Stored}
use Rattle.link_world.proofs.law.reduced.Core.Numbered.{Info, Super, Srej}
use Rattle.link_world.proofs.law.invariant.Mates.{of_mate, IsSilent}
use Rattle.link_world.proofs.law.Each.{each_weaker}
use Rattle.link_world.proofs.law.invariant.Chains.{Rule, Chain, IsRising, chain_from, chain_wider, chain_pushed}
use Rattle.link_world.proofs.law.invariant.Chains.{chain_pushed_within, chain_silent}

-- one past the highest number that is stored or got
abbrev pub held : ℕ → List Stored → ℕ
held vr [] = vr
held vr (s ∷ stored) = max (s.number + 1) (held vr stored)

abbrev pub InfoHolds : ℕ → ℕ → ℕ → Option Numbered → Type 0
InfoHolds vr k n None = ⊤
InfoHolds vr k n (Some (Info ns nr packet)) = (n ≤ ns + k) × (ns < vr + k)
InfoHolds vr k n (Some (Super nr)) = ⊤
InfoHolds vr k n (Some (Srej nr)) = ⊤

abbrev pub info_next : ℕ → Option Numbered → ℕ
info_next n None = n
info_next n (Some (Info ns nr packet)) = max n (ns + 1)
info_next n (Some (Super nr)) = n
info_next n (Some (Srej nr)) = n

abbrev pub infos : ℕ → ℕ → ℕ → Rule
infos mate vr k = record {
  Holds = λ n f. InfoHolds vr k n (of_mate mate f);
  next = λ n f. info_next n (of_mate mate f);
  Ends = λ n. ⊤;
}

abbrev pub InfosFit : ℕ → ℕ → List Tagged → ℕ → ℕ → Type 0
InfosFit mate reached fs vr k = Chain (infos mate vr k) reached fs

info_weaker : (vr k a b : ℕ) (o : Option Numbered) → a ≤ b → InfoHolds vr k b o → InfoHolds vr k a o
info_weaker vr k a b None le h = tt
info_weaker vr k a b (Some (Info ns nr packet)) le h = (le_trans le h.0, h.1)
info_weaker vr k a b (Some (Super nr)) le h = tt
info_weaker vr k a b (Some (Srej nr)) le h = tt

info_next_le : (a b : ℕ) (o : Option Numbered) → a ≤ b → info_next a o ≤ info_next b o
info_next_le a b None le = le
info_next_le a b (Some (Info ns nr packet)) le = omega arith
info_next_le a b (Some (Super nr)) le = le
info_next_le a b (Some (Srej nr)) le = le

info_rises : (a : ℕ) (o : Option Numbered) → a ≤ info_next a o
info_rises a None = le_refl a
info_rises a (Some (Info ns nr packet)) = omega arith
info_rises a (Some (Super nr)) = le_refl a
info_rises a (Some (Srej nr)) = le_refl a

pub infos_rising : (mate vr k : ℕ) → IsRising (infos mate vr k)
infos_rising mate vr k = record {
  weaker = λ a b f le h. info_weaker vr k a b (of_mate mate f) le h;
  next = λ a b f le. info_next_le a b (of_mate mate f) le;
  ends = λ a b le h. tt;
  rises = λ a f h. info_rises a (of_mate mate f);
}

info_higher : (vr more k n : ℕ) (o : Option Numbered) → vr ≤ more → InfoHolds vr k n o → InfoHolds more k n o
info_higher vr more k n None le h = tt
info_higher vr more k n (Some (Info ns nr packet)) le h = (h.0, omega (arith, h.1))
info_higher vr more k n (Some (Super nr)) le h = tt
info_higher vr more k n (Some (Srej nr)) le h = tt

-- V(R) goes on, and what is held begins lower or is the same
pub infos_higher :
    (mate reached lower vr more k : ℕ) (fs : List Tagged) → lower ≤ reached → vr ≤ more
    → InfosFit mate reached fs vr k → InfosFit mate lower fs more k
infos_higher mate reached lower vr more k fs le up h = chain_from (infos_rising mate more k) lower reached fs le
    (chain_wider (infos mate vr k) (infos_rising mate more k)
    (λ n f holds. info_higher vr more k n (of_mate mate f) up holds) (λ n f. le_refl (info_next n (of_mate mate f)))
    (λ n ends. tt) reached fs h)

info_silent : (vr k n : ℕ) {o : Option Numbered} → o ≡ None → InfoHolds vr k n o × (info_next n o ≤ n)
info_silent vr k n is = rw is (tt, le_refl n)

pub infos_silent : (mate reached vr k : ℕ) (fs : List Tagged) → Each (IsSilent mate) fs → InfosFit mate reached fs vr k
infos_silent mate reached vr k fs silent = chain_silent (infos_rising mate vr k) reached fs
    (each_weaker _ _ (λ f is n. info_silent vr k n is) fs silent) tt

-- the number of an I frame is below a bound
abbrev pub InfoBelow : ℕ → Option Numbered → Type 0
InfoBelow top None = ⊤
InfoBelow top (Some (Info ns nr packet)) = ns < top
InfoBelow top (Some (Super nr)) = ⊤
InfoBelow top (Some (Srej nr)) = ⊤

pub info_below_higher : (top higher : ℕ) (o : Option Numbered) → top ≤ higher → InfoBelow top o → InfoBelow higher o
info_below_higher top higher None le h = tt
info_below_higher top higher (Some (Info ns nr packet)) le h = le_trans h le
info_below_higher top higher (Some (Super nr)) le h = tt
info_below_higher top higher (Some (Srej nr)) le h = tt

pub info_below_silent : (top : ℕ) {o : Option Numbered} → o ≡ None → InfoBelow top o
info_below_silent top is = rw is tt

info_within : (top n : ℕ) (o : Option Numbered) → InfoBelow top o → n ≤ top → info_next n o ≤ top
info_within top n None h le = le
info_within top n (Some (Info ns nr packet)) h le = omega arith
info_within top n (Some (Super nr)) h le = le
info_within top n (Some (Srej nr)) h le = le

-- One frame more, if all that is held or under way is below the top. An I frame has a number that is at most a
-- window below the top and less than a window above V(R).
pub infos_pushed :
    (mate reached vr k top : ℕ) (fs : List Tagged) (f : Tagged) → reached ≤ top
    → Each (λ g. InfoBelow top (of_mate mate g)) fs
    → ((n : ℕ) → n ≤ top → InfoHolds vr k n (of_mate mate f)) → InfosFit mate reached fs vr k
    → InfosFit mate reached (fs ++ f ∷ []) vr k
infos_pushed mate reached vr k top fs f le below holds h =
    chain_pushed_within (infos mate vr k) top f (λ n within ends. (holds n within, tt)) reached fs le (each_weaker _ _
    (λ g b n within. info_within top n (of_mate mate g) b within) fs below) h

-- one frame more that is no I frame
pub infos_pushed_other :
    (mate reached vr k : ℕ) (fs : List Tagged) (f : Tagged) → ((n : ℕ) → InfoHolds vr k n (of_mate mate f))
    → InfosFit mate reached fs vr k → InfosFit mate reached (fs ++ f ∷ []) vr k
infos_pushed_other mate reached vr k fs f holds h =
    chain_pushed (infos mate vr k) f (λ n ends. (holds n, tt)) reached fs h
