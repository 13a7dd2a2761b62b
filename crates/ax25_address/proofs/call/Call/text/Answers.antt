use Rattle.ax25_address.proofs.Common.{◌≡◌, List, ℕ, subst, sym, arith, common_steps, Callsign, IsCall, text_of_call}
use Rattle.ax25_address.proofs.Common.{IsCallText}
use Rattle.ax25_address.proofs.TextLemmas.{IsCallText-text}
use Rattle.ax25_address.proofs.call.Call.text.Goals as goal

pub returns-then-self-gt0-clause-parsed_again : goal.returns-then-self-gt0-clause-parsed_again
returns-then-self-gt0-clause-parsed_again c =
    let valid : IsCall c.args.self.now = subst (λ (v : Callsign). IsCall v) c.self.view_is
    (record { name = c.self.invariant.name; ssid = c.self.invariant.ssid }) in
    let text : c.push_ssid.new.text.bytes ≡ text_of_call c.args.self.now = grind (arith, common_steps) in
    subst (λ (xs : List ℕ). IsCallText xs c.args.self.now) (sym text) (IsCallText-text c.args.self.now valid)

pub returns-else-self-gt0-clause-parsed_again : goal.returns-else-self-gt0-clause-parsed_again
returns-else-self-gt0-clause-parsed_again c =
    let valid : IsCall c.args.self.now = subst (λ (v : Callsign). IsCall v) c.self.view_is
    (record { name = c.self.invariant.name; ssid = c.self.invariant.ssid }) in
    let text : c.loop-index.text.bytes ≡ text_of_call c.args.self.now = grind (arith, common_steps) in
    subst (λ (xs : List ℕ). IsCallText xs c.args.self.now) (sym text) (IsCallText-text c.args.self.now valid)
