-- Which packets a receiver keeps between two events, when its first place is empty.
use Rattle.link_world.proofs.Common.{◌≡◌, ℕ, Bool, true, false, ◌&&◌, ◌||◌, not, nat_lt, ◌==◌, if◌then◌else◌, is_some}
use Rattle.link_world.proofs.Common.{refl, ap, ◌∙◌, arith, eqb-true, lt-ltb, is_full, Incoming, keeps, taking_by}
use Rattle.selective_reject.specs.declared.window.Mode.TheVariants.{Rej as RejMode, Srej as SrejMode}
use Rattle.selective_reject.specs.declared.incoming.Took.TheVariants.{Next, NotNext, Stored, Again, Outside}
use Rattle.link_world.proofs.law.showing.PlacesFit.{IsFit}

-- the place of the next packet is empty
next_is_empty : {i : Incoming} (k : ℕ) → IsFit i → (k == 0) ≡ true → is_full i.places k ≡ false
next_is_empty {i} k fit is = ap (is_full i.places) (eqb-true k 0 is) ∙ ap is_some fit.first

-- by REJ it keeps the next one
pub kept_by_rej :
    {i : Incoming} (k : ℕ) → IsFit i → keeps (taking_by RejMode i.window k (is_full i.places k)) ≡ (k == 0)
kept_by_rej {i} k fit = go (k == 0) refl
  where
    go : (b : Bool) → (k == 0) ≡ b → keeps (if b then (if is_full i.places k then Again else Next) else NotNext) ≡ b
    go true is = ap (λ full. keeps (if full then Again else Next)) (next_is_empty k fit is)
    go false is = refl

-- by SREJ it keeps the next one, and each other of the window whose place is empty
pub kept_by_srej :
    {i : Incoming} (k : ℕ) → IsFit i
    → keeps (taking_by SrejMode i.window k (is_full i.places k))
    ≡ (k == 0) || (nat_lt k i.window && not (is_full i.places k))
kept_by_srej {i} k fit = go (k == 0) refl
  where
    go : (b : Bool) → (k == 0) ≡ b
        → keeps (if nat_lt k i.window then (if is_full i.places k then Again else (if b then Next else Stored))
        else Outside)
        ≡ b || (nat_lt k i.window && not (is_full i.places k))
    go true is =
        let zero_is : k ≡ 0 = eqb-true k 0 is in
        let positive = fit.positive in
        let within : nat_lt k i.window ≡ true = lt-ltb k i.window (omega arith) in
        ap (λ b. keeps (if b then (if is_full i.places k then Again else Next) else Outside)) within
        ∙ ap (λ full. keeps (if full then Again else Next)) (next_is_empty k fit is)
    go false is = other (nat_lt k i.window) (is_full i.places k)
      where
        other : (within full : Bool)
            → keeps (if within then (if full then Again else Stored) else Outside) ≡ within && not full
        other true true = refl
        other true false = refl
        other false full = refl
