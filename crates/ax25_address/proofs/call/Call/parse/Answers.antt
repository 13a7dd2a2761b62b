use Rattle.ax25_address.proofs.Common.{◌≡◌, ◌<◌, ℕ, List, Result, Err, ap, ◌∙◌, subst, arith, length}
use Rattle.ax25_address.proofs.Common.{err_from_is_err_and, IsName, IsFaultOf, TellsSsid, common_steps, Callsign}
use Rattle.ax25_address.proofs.Common.{CallFault, TooLong, BadSsid}
use Rattle.ax25_address.specs.CallText.{name_part, ssid_part}
use Rattle.ax25_address.proofs.CallLemmas.{fault_of_name, none_is_not_some, IsFaultOf-same, name_has_no_fault}
use Rattle.ax25_address.proofs.call.Call.parse.Goals as goal

-- what `parse` answers
abbrev Answer : Type 0
Answer = Result Callsign CallFault

pub returns-in_err-call-clause-refused : goal.returns-in_err-call-clause-refused
returns-in_err-call-clause-refused c =
    let p = err_from_is_err_and c.from_residual.result c.from_residual.ensures.1 in
    let name : c.as_slice.result.now ≡ name_part c.args.text.now = cc in
    rw (p.1, p.2) (fault_of_name _ _ _ (subst (λ (n : List ℕ). IsFaultOf n ⊥ c.in_err-call.field-0.0)
    name c.in_err-call.ensures.refused))

pub returns-in-None-clause-refused : goal.returns-in-None-clause-refused
returns-in-None-clause-refused c =
    let name : c.as_slice.result.now ≡ name_part c.args.text.now = cc in
    let tail : c.split_at.result.1.now ≡ ssid_part c.args.text.now = cc in (
      subst (λ (n : List ℕ). IsName n) name c.in_ok-call.ensures.valid,
      λ n lt t. none_is_not_some n (c.in-None.ensures.exact n lt (rw tail t)),
    )

pub returns-in-None-clause-accepted : goal.returns-in-None-clause-accepted
returns-in-None-clause-accepted c = λ call told.
    let tail : c.split_at.result.1.now ≡ ssid_part c.args.text.now = cc in
    absurd (none_is_not_some call.ssid (c.in-None.ensures.exact call.ssid told.valid.ssid (rw tail told.ssid)))

pub returns-then-letters-gt6-clause-each_fault : goal.returns-then-letters-gt6-clause-each_fault
returns-then-letters-gt6-clause-each_fault c = λ fault h.
    let err : CallFault → Answer = λ f. Err f in
    let name : 6 < length (name_part c.args.text.now) = grind (arith, common_steps) in
    ap err (IsFaultOf-same _ _ TooLong fault name h)

pub returns-in_err-call-clause-each_fault : goal.returns-in_err-call-clause-each_fault
returns-in_err-call-clause-each_fault c = λ fault h.
    let err : CallFault → Answer = λ f. Err f in
    let p = err_from_is_err_and c.from_residual.result c.from_residual.ensures.1 in
    let name : c.as_slice.result.now ≡ name_part c.args.text.now = cc in
    let mine = fault_of_name _ _ _ (subst (λ (n : List ℕ). IsFaultOf n ⊥ c.in_err-call.field-0.0)
    name c.in_err-call.ensures.refused) in
    p.1 ∙ ap err (p.2 ∙ IsFaultOf-same _ _ _ fault mine h)

pub returns-in-Some-clause-each_fault : goal.returns-in-Some-clause-each_fault
returns-in-Some-clause-each_fault c = λ fault h.
    let name : c.as_slice.result.now ≡ name_part c.args.text.now = cc in
    let tail : c.split_at.result.1.now ≡ ssid_part c.args.text.now = cc in
    absurd (name_has_no_fault _ _ fault (subst (λ (n : List ℕ). IsName n) name c.in_ok-call.ensures.valid)
    (λ none. none c.in-Some.ssid c.in-Some.ensures.ssid.0
    (subst (λ (t : List ℕ). TellsSsid t c.in-Some.ssid) tail c.in-Some.ensures.ssid.1)) h)

pub returns-in-None-clause-each_fault : goal.returns-in-None-clause-each_fault
returns-in-None-clause-each_fault c = λ fault h.
    let err : CallFault → Answer = λ f. Err f in
    ap err (IsFaultOf-same _ _ BadSsid fault (returns-in-None-clause-refused c) h)
