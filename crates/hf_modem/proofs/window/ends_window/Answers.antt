use Rattle.hf_modem.proofs.Common.{◌≡◌, ℕ, ◌+◌, ◌*◌, ◌%◌, ◌↔◌, nat_eq, true, sym, subst}
use Rattle.hf_modem.proofs.LastWindow.{ends_by_rest}
use Rattle.hf_modem.proofs.window.ends_window.Goals as goal

pub returns-then-count-ge-WINDOW : goal.returns-then-count-ge-WINDOW
returns-then-count-ge-WINDOW c =
    subst (λ (n : ℕ). (nat_eq (c.args.count % 32) n ≡ true) ↔ ((k : ℕ) × (c.args.count ≡ c.args.offset + 32 * (k + 1))))
    (sym c.from.ensures)
    (ends_by_rest c.args.offset c.args.count c.requires c.if-count-ge-WINDOW.true)
