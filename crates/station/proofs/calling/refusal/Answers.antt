use Rattle.station.proofs.Common.{◌≡◌, ℕ, List, IfOk, ◌∙◌, ap, subst, spelling, refused_reply}
use Rattle.station.specs.AgwKinds.{disconnect_kind}
use Rattle.station.specs.CallFields.{field_text, sent_back}
use Rattle.station.specs.HostMessages.{to_host, disconnected_text}
use Rattle.station.proofs.calling.refusal.Goals as goal

pub returns-clause-spelled : goal.returns-clause-spelled
returns-clause-spelled c =
    let message = c.args.message.now in
    let remote : List ℕ = c.sent_back-remote.result in
    let local : List ℕ = c.sent_back-local.result in
    let text : c.deref.result.now ≡ disconnected_text (field_text remote) = c.deref.ensures.value
    ∙ c.in_ok-text.ensures.text
    ∙ ap disconnected_text c.text_of.ensures.text in
    let same : spelling (to_host disconnect_kind 0 remote local c.deref.result.now) ≡ spelling (refused_reply message) =
    ap (λ (body : List ℕ). spelling (to_host disconnect_kind 0 remote local body)) text
    ∙ ap (λ (field : List ℕ). spelling (to_host disconnect_kind 0 field local (disconnected_text (field_text field))))
    c.sent_back-remote.ensures
    ∙ ap (λ (field : List ℕ). spelling (to_host disconnect_kind 0 (sent_back message.to) field
    (disconnected_text (field_text (sent_back message.to))))) c.sent_back-local.ensures in
    subst (λ (wanted : List ℕ). IfOk c.message.result (λ octets. octets ≡ wanted)) same c.message.ensures.spelled
