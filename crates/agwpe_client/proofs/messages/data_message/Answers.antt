use Rattle.agwpe_client.proofs.Common.{◌≡◌, ℕ, ◌-◌, ◌*◌, List, length, take, drop, min, subst, arith, call_field}
use Rattle.agwpe_client.proofs.Common.{spelling, data_kind}
use Rattle.std.specs.Result.{IfOk}
use Rattle.agwpe_client.specs.CallMessages.{to_host, no_layer_3}
use Rattle.agwpe_client.proofs.ListLemmas.{first_of_rest}
use Rattle.agwpe_client.proofs.messages.data_message.Goals as goal

pub returns : goal.returns
returns c =
    let text : List ℕ = c.args.text.now in
    let from : ℕ = c.args.place * 256 in
    let least : c.min-len.result ≡ min (length text - from) 256 = omega (arith, c.min-len.ensures) in
    let P : List ℕ → List ℕ → List ℕ → Type 0 = λ own remote piece. IfOk c.to_host.result
    (λ octets. octets ≡ spelling (to_host data_kind no_layer_3 own remote piece)) in
    let piece : List ℕ = take 256 (drop from text) in
    subst (λ remote. P (call_field c.args.own.now) remote piece) c.call_text-2.ensures
    (subst (λ own. P own c.call_text-2.result piece) c.call_text.ensures
    (subst (λ xs. P c.call_text.result c.call_text-2.result xs) (first_of_rest text from c.min-len.result least)
    c.to_host.ensures))
