-- Acknowledgement numbers rise along what is under way, from V(A) up to what the mate of the hearer's set-up has got.
-- An SREJ asks for a number and acknowledges none.
use Rattle.link_world.proofs.Common.{◌≡◌, ℕ, ◌<◌, ◌≤◌, List, [], ◌∷◌, ◌++◌, Option, Some, None, arith, le_refl}
use Rattle.link_world.proofs.Common.{le_trans, ⊤}
use Rattle.std.specs.List.{AllByRecursion as Each}
use Rattle.link_world.proofs.law.reduced.Core.{Tagged, Numbered}
use Rattle.link_world.proofs.law.reduced.Core.Numbered.{Info, Super, Srej}
use Rattle.link_world.proofs.law.invariant.Mates.{of_mate, IsSilent}
use Rattle.link_world.proofs.law.Each.{each_weaker}
use Rattle.link_world.proofs.law.invariant.Chains.{Rule, Chain, IsRising, chain_from, chain_wider, chain_pushed}
use Rattle.link_world.proofs.law.invariant.Chains.{chain_start, chain_silent}

abbrev pub AckHolds : ℕ → ℕ → Option Numbered → Type 0
AckHolds top n None = ⊤
AckHolds top n (Some (Info ns nr packet)) = n ≤ nr
AckHolds top n (Some (Super nr)) = n ≤ nr
AckHolds top n (Some (Srej nr)) = (n ≤ nr) × (nr < top)

abbrev pub ack_next : ℕ → Option Numbered → ℕ
ack_next n None = n
ack_next n (Some (Info ns nr packet)) = nr
ack_next n (Some (Super nr)) = nr
ack_next n (Some (Srej nr)) = n

abbrev pub acks : ℕ → ℕ → ℕ → Rule
acks mate got top = record {
  Holds = λ n f. AckHolds top n (of_mate mate f);
  next = λ n f. ack_next n (of_mate mate f);
  Ends = λ n. (n ≤ got) × (got ≤ top);
}

-- from V(A), with what the mate got, and one past the highest number ever sent
abbrev pub AcksRise : ℕ → ℕ → List Tagged → ℕ → ℕ → Type 0
AcksRise mate va fs got top = Chain (acks mate got top) va fs

ack_weaker : (top a b : ℕ) (o : Option Numbered) → a ≤ b → AckHolds top b o → AckHolds top a o
ack_weaker top a b None le h = tt
ack_weaker top a b (Some (Info ns nr packet)) le h = le_trans le h
ack_weaker top a b (Some (Super nr)) le h = le_trans le h
ack_weaker top a b (Some (Srej nr)) le h = (le_trans le h.0, h.1)

ack_next_le : (a b : ℕ) (o : Option Numbered) → a ≤ b → ack_next a o ≤ ack_next b o
ack_next_le a b None le = le
ack_next_le a b (Some (Info ns nr packet)) le = le_refl nr
ack_next_le a b (Some (Super nr)) le = le_refl nr
ack_next_le a b (Some (Srej nr)) le = le

ack_rises : (top a : ℕ) (o : Option Numbered) → AckHolds top a o → a ≤ ack_next a o
ack_rises top a None h = le_refl a
ack_rises top a (Some (Info ns nr packet)) h = h
ack_rises top a (Some (Super nr)) h = h
ack_rises top a (Some (Srej nr)) h = le_refl a

pub acks_rising : (mate got top : ℕ) → IsRising (acks mate got top)
acks_rising mate got top = record {
  weaker = λ a b f le h. ack_weaker top a b (of_mate mate f) le h;
  next = λ a b f le. ack_next_le a b (of_mate mate f) le;
  ends = λ a b le h. (le_trans le h.0, h.1);
  rises = λ a f h. ack_rises top a (of_mate mate f) h;
}

ack_higher : (top higher n : ℕ) (o : Option Numbered) → top ≤ higher → AckHolds top n o → AckHolds higher n o
ack_higher top higher n None le h = tt
ack_higher top higher n (Some (Info ns nr packet)) le h = h
ack_higher top higher n (Some (Super nr)) le h = h
ack_higher top higher n (Some (Srej nr)) le h = (h.0, le_trans h.1 le)

-- more is sent, or the mate gets more
pub acks_higher :
    (mate va got more top higher : ℕ) (fs : List Tagged) → got ≤ more → more ≤ higher → top ≤ higher
    → AcksRise mate va fs got top → AcksRise mate va fs more higher
acks_higher mate va got more top higher fs le within up h =
    chain_wider (acks mate got top) (acks_rising mate more higher)
    (λ n f holds. ack_higher top higher n (of_mate mate f) up holds) (λ n f. le_refl (ack_next n (of_mate mate f)))
    (λ n ends. (le_trans ends.0 le, within)) va fs h

-- what the mate got is from V(A) to the top
pub acks_start : (mate va got top : ℕ) (fs : List Tagged) → AcksRise mate va fs got top → (va ≤ got) × (got ≤ top)
acks_start mate va got top fs h = chain_start (acks_rising mate got top) va fs h

ack_silent : (top n : ℕ) {o : Option Numbered} → o ≡ None → AckHolds top n o × (ack_next n o ≤ n)
ack_silent top n is = rw is (tt, le_refl n)

pub acks_silent :
    (mate va got top : ℕ) (fs : List Tagged) → Each (IsSilent mate) fs → va ≤ got → got ≤ top
    → AcksRise mate va fs got top
acks_silent mate va got top fs silent low high = chain_silent (acks_rising mate got top) va fs
    (each_weaker _ _ (λ f is n. ack_silent top n is) fs silent) (low, high)

ack_pushed :
    (got top n : ℕ) (o : Option Numbered) → AckHolds top got o → (ack_next got o ≤ got) → (n ≤ got) × (got ≤ top)
    → AckHolds top n o × (ack_next n o ≤ got) × (got ≤ top)
ack_pushed got top n None holds next ends = (tt, ends.0, ends.1)
ack_pushed got top n (Some (Info ns nr packet)) holds next ends = (le_trans ends.0 holds, next, ends.1)
ack_pushed got top n (Some (Super nr)) holds next ends = (le_trans ends.0 holds, next, ends.1)
ack_pushed got top n (Some (Srej nr)) holds next ends = ((le_trans ends.0 holds.0, holds.1), ends.0, ends.1)

-- One frame more. If it acknowledges, it names what was got; if it asks, it asks for a number from there on,
-- below the top.
pub acks_pushed :
    (mate va got top : ℕ) (fs : List Tagged) (f : Tagged) → AckHolds top got (of_mate mate f)
    → ack_next got (of_mate mate f) ≤ got → AcksRise mate va fs got top → AcksRise mate va (fs ++ f ∷ []) got top
acks_pushed mate va got top fs f holds next h = chain_pushed (acks mate got top) f (λ n ends. go n ends) va fs h
  where
    go : (n : ℕ) → (n ≤ got) × (got ≤ top)
        → AckHolds top n (of_mate mate f) × ((ack_next n (of_mate mate f) ≤ got) × (got ≤ top))
    go n ends = let all = ack_pushed got top n (of_mate mate f) holds next ends in (all.0, (all.1, all.2))

-- the number of the first frame is the new V(A), if it acknowledges
pub acks_advanced :
    (mate va got top : ℕ) (f : Tagged) (fs : List Tagged) {nr : ℕ}
    → ((n : ℕ) → n ≤ nr → AckHolds top n (of_mate mate f)) → ack_next va (of_mate mate f) ≡ nr
    → ack_next nr (of_mate mate f) ≡ nr → AcksRise mate va (f ∷ fs) got top → AcksRise mate nr (f ∷ fs) got top
acks_advanced mate va got top f fs {nr} holds is same h = (
  holds nr (le_refl nr),
  chain_from (acks_rising mate got top) (ack_next nr (of_mate mate f))
      (ack_next va (of_mate mate f)) fs (omega arith) h.1,
)
