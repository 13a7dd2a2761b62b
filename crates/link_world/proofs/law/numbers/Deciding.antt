-- Numbers on the air are modulo the modulus. Of a front frame that an end hears while it is up they name the true ones.
use Rattle.link_world.proofs.Common.{◌≡◌, ℕ, ◌+◌, ◌-◌, ◌%◌, ◌<◌, ◌≤◌, List, [], ◌∷◌, Option, Some, length, arith}
use Rattle.link_world.proofs.Common.{le_trans, subst, inl, inr, cases_lt, ahead, Packet}
use Rattle.std.proofs.Common.{◌↔◌}
use Rattle.selective_reject.proofs.Distances.{ahead-at_or_ahead, ahead-following}
use Rattle.link_world.proofs.law.reduced.Core.{End, Running, Stored, Tagged, Numbered, set_ups, got_in}
use Rattle.link_world.proofs.law.reduced.Core.Numbered.{Info, Super, Srej}
use Rattle.link_world.proofs.law.reduced.CoreMoves.{numbered_to}
use Rattle.link_world.proofs.law.invariant.Mates.{of_mate, of_mate_same}
use Rattle.link_world.proofs.law.invariant.Chains.{chain_start}
use Rattle.link_world.proofs.law.numbers.AckChain.{AckHolds, ack_next, acks_rising}
use Rattle.link_world.proofs.law.numbers.InfoChain.{InfoHolds, held}
use Rattle.link_world.proofs.law.invariant.Upward.{front_of_mate}
use Rattle.link_world.proofs.law.moves.UpSending.{UpInvariant}
use Rattle.link_world.proofs.law.invariant.Invariant.{Keeps}

-- what N(R) of a frame is: of an I or S frame what it acknowledges, and of an SREJ what it asks for
abbrev pub nr_of : Numbered → ℕ
nr_of (Info ns nr packet) = nr
nr_of (Super nr) = nr
nr_of (Srej nr) = nr

nr_order :
    (va got top : ℕ) (n : Numbered) {o : Option Numbered} → o ≡ Some n → AckHolds top va o
    → (ack_next va o ≤ got) × (got ≤ top) → (va ≤ nr_of n) × (nr_of n ≤ top)
nr_order va got top (Info ns nr packet) is h ends =
    let low : va ≤ nr = subst (λ p. AckHolds top va p) is h in
    let high : nr ≤ got = subst (λ p. ack_next va p ≤ got) is ends.0 in
    (low, le_trans high ends.1)
nr_order va got top (Super nr) is h ends =
    let low : va ≤ nr = subst (λ p. AckHolds top va p) is h in
    let high : nr ≤ got = subst (λ p. ack_next va p ≤ got) is ends.0 in
    (low, le_trans high ends.1)
nr_order va got top (Srej nr) is h ends =
    let both : (va ≤ nr) × (nr < top) = subst (λ p. AckHolds top va p) is h in
    let low = both.0 in
    let high = both.1 in
    (low, omega arith)

-- N(R) of a front frame is from V(A) to the top
pub nr_in_order :
    (x : End) {y : End} {r : Running} {tag m : ℕ} {n : Numbered} {rest to_y : List Tagged}
    → UpInvariant x y r (numbered_to tag m n ∷ rest) to_y → (r.va ≤ nr_of n) × (nr_of n ≤ r.top)
nr_in_order x {y} {r} {tag} {m} {n} {rest} h =
    let mate = r.set_up.mate in
    let f = numbered_to tag m n in
    let got = length (got_in (set_ups y) mate) in
    let of : of_mate mate f ≡ Some n = of_mate_same f (front_of_mate x h) in
    nr_order r.va got r.top n of h.x_hears.numbers.acks.0
    (chain_start (acks_rising mate got r.top) (ack_next r.va (of_mate mate f)) rest h.x_hears.numbers.acks.1)

-- So it is valid, and names the true number, if the window is below the modulus.
pub nr_is_named :
    (modulus : ℕ) (x : End) {y : End} {r : Running} {tag m : ℕ} {n : Numbered} {rest to_y : List Tagged}
    → x.window < modulus
    → UpInvariant x y r (numbered_to tag m n ∷ rest) to_y → (ahead modulus r.va (nr_of n % modulus) ≤ r.top - r.va)
    × (r.va + ahead modulus r.va (nr_of n % modulus) ≡ nr_of n)
nr_is_named modulus x {r} {n} fits h =
    let order = nr_in_order x h in
    let k : Keeps r x.window = h.x_hears.keeps in
    let low = order.0 in
    let high = order.1 in
    let window = k.window in
    let distance = ahead-at_or_ahead modulus r.va (nr_of n) low (omega arith) in
    (omega arith, omega arith)

held_from : (vr : ℕ) (stored : List Stored) → vr ≤ held vr stored
held_from vr [] = omega arith
held_from vr (s ∷ stored) = let rest = held_from vr stored in omega arith

-- N(S) of a front frame is less than the sender's window above V(R), and at most that window below it
pub ns_in_order :
    (x : End) {y : End} {r : Running} {tag m ns nr : ℕ} {packet : Packet} {rest to_y : List Tagged}
    → UpInvariant x y r (numbered_to tag m (Info ns nr packet) ∷ rest) to_y
    → (r.vr ≤ ns + (y.windows x.modulus)) × (ns < r.vr + (y.windows x.modulus))
ns_in_order x {y} {r} {tag} {m} {ns} {nr} {packet} h =
    let mate = r.set_up.mate in
    let n : Numbered = Info ns nr packet in
    let f = numbered_to tag m n in
    let of : of_mate mate f ≡ Some n = of_mate_same f (front_of_mate x h) in
    let both = subst (λ o. InfoHolds r.vr (y.windows x.modulus) (held r.vr r.stored) o) of h.x_hears.numbers.infos.0 in
    let low = both.0 in
    let from = held_from r.vr r.stored in
    (omega arith, both.1)

-- by REJ: it is V(R) modulo the modulus exactly when it is V(R), if the sender's window is below the modulus
pub ns_by_rej :
    (modulus : ℕ) (x : End) {y : End} {r : Running} {tag m ns nr : ℕ} {packet : Packet} {rest to_y : List Tagged}
    → (y.windows x.modulus) < modulus → UpInvariant x y r (numbered_to tag m (Info ns nr packet) ∷ rest) to_y
    → (ahead modulus r.vr (ns % modulus) ≡ 0) ↔ (ns ≡ r.vr)
ns_by_rej modulus x {y} {r} {ns} fits h =
    let order = ns_in_order x h in
    decided modulus (y.windows x.modulus) r.vr ns fits order.0 order.1
  where
    decided : (modulus k vr ns : ℕ) → k < modulus → vr ≤ ns + k → ns < vr + k
        → (ahead modulus vr (ns % modulus) ≡ 0) ↔ (ns ≡ vr)
    decided modulus k vr ns fits low high = elim (cases_lt ns vr) [
      | inl following ↦
          let distance = ahead-following modulus vr ns following (omega arith) in
          ((λ e. omega arith), (λ e. omega arith))
      | inr from ↦
          let distance = ahead-at_or_ahead modulus vr ns from (omega arith) in
          ((λ e. omega arith), (λ e. omega arith))
    ]

-- By SREJ, if both windows are at most half the modulus: from V(R) on the distance is the true one, and below V(R)
-- it is outside the hearer's window.
pub ns_by_srej :
    (modulus : ℕ) (x : End) {y : End} {r : Running} {tag m ns nr : ℕ} {packet : Packet} {rest to_y : List Tagged}
    → x.window + x.window ≤ modulus → (y.windows x.modulus) + (y.windows x.modulus) ≤ modulus
    → UpInvariant x y r (numbered_to tag m (Info ns nr packet) ∷ rest) to_y
    → (r.vr ≤ ns → ahead modulus r.vr (ns % modulus) ≡ ns - r.vr)
    × (ns < r.vr → x.window ≤ ahead modulus r.vr (ns % modulus))
ns_by_srej modulus x {y} {r} {ns} own other h =
    let order = ns_in_order x h in
    decided modulus x.window (y.windows x.modulus) r.vr ns own other order.0 order.1
  where
    decided :
        (modulus own k vr ns : ℕ) → own + own ≤ modulus → k + k ≤ modulus → vr ≤ ns + k → ns < vr + k
        → (vr ≤ ns → ahead modulus vr (ns % modulus) ≡ ns - vr) × (ns < vr → own ≤ ahead modulus vr (ns % modulus))
    decided modulus own k vr ns o f low high = (
      (λ from. ahead-at_or_ahead modulus vr ns from (omega arith)),
      (λ following.
          let distance = ahead-following modulus vr ns following (omega arith) in
          omega arith),
    )
