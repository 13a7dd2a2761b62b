-- How many packets an N(R) acknowledges, and whether any are left then.
use Rattle.link_machine.proofs.Common.{◌≡◌, ℕ, ◌-◌, ◌≤◌, Bool, true, false, ◌&&◌, ◌==◌, Ok, Err, refl}
use Rattle.link_machine.proofs.Common.{sym, ◌∙◌, ap, arith, cond-true, cond-false, eqb-true, Machine, is_valid, named}
use Rattle.link_machine.proofs.Common.{Control, Holds, acknowledgement, length, drop}
use Rattle.std.proofs.Common.{length-drop}
use Rattle.std.proofs.lemmas.Bool.{eq-eqb, eqb-false, ne_eqb}
use Rattle.std.specs.Result.{is_ok}
use Rattle.selective_reject.specs.declared.outgoing.BadNr.{BadNr}
use Rattle.link_machine.specs.declared.machine.Machine.{Machine as Held}
use Rattle.link_machine.specs.Asks.{is_leaving_after, number_asks}
use Rattle.link_machine.proofs.Events.{as_machine, ok_if, valid_number}

none_left : (count n : ℕ) → count ≤ n → (count == n) ≡ (n - count == 0)
none_left count n within = go (count == n) refl
  where
    go : (b : Bool) → (count == n) ≡ b → b ≡ (n - count == 0)
    go true is = let same = eqb-true count n is in sym (eq-eqb (n - count) 0 (omega (arith, same)))
    go false is =
        let other = eqb-false count n is in sym (ne_eqb (n - count) 0 (λ zero_is. other (omega (arith, zero_is, within))))

-- an invalid N(R)
pub invalid_asks :
    (held : Held) (m : Machine) (nr : ℕ) (fault : BadNr) → Holds held m
    → acknowledgement held.incoming.modulus nr held.outgoing ≡ Err fault → number_asks nr m ≡ true
invalid_asks held m nr fault h is =
    let invalid : is_valid nr m ≡ false = sym (ok_if (is_valid nr m) _ _)
    ∙ ap is_ok (sym (as_machine held m nr h) ∙ is) in
    cond-false (is_valid nr m) (is_leaving_after (named nr m) m) true invalid

-- a valid one, which acknowledges so many
pub valid_asks :
    (held : Held) (m : Machine) (nr count : ℕ) → Holds held m
    → acknowledgement held.incoming.modulus nr held.outgoing ≡ Ok count → count ≤ length held.outgoing.packets
    → number_asks nr m ≡ (held.control.quit && count == length held.outgoing.packets)
valid_asks held m nr count h is within =
    let valid = valid_number held m nr count h is in
    let ahead : named nr m - m.outgoing.va ≡ count = let sum = valid.1 in omega (arith, sum) in
    let same : length held.outgoing.packets ≡ length m.outgoing.packets = ap length h.stands.outgoing.packets in
    let left = length-drop count m.outgoing.packets in
    cond-true (is_valid nr m) (is_leaving_after (named nr m) m) true valid.0
    ∙ ap (λ k. m.control.quit && length (drop k m.outgoing.packets) == 0) ahead
    ∙ ap (λ k. m.control.quit && k == 0) left
    ∙ ap (λ k. m.control.quit && k) (sym (none_left count (length m.outgoing.packets) (omega (arith, same, within))))
    ∙ ap (λ k. m.control.quit && count == k) (sym same)
    ∙ ap (λ (x : Control). x.quit && count == length held.outgoing.packets) (sym h.stands.control)
