use Rattle.std.proofs.Common.{◌≡◌, ℕ, List, [], ◌∷◌, ◌++◌, subst, sym, ap, ◌∙◌, Option, Some, None, Result, Ok, Err}
use Rattle.std.specs.Result.{MatchResult, IsErrAnd}
use Rattle.agwpe_port.specs.declared.fault.AgwFault.{AgwFault}
use Rattle.agwpe_port.specs.declared.fault.AgwFault.TheVariants.{Memory}
use Rattle.agwpe_port.specs.declared.message.AgwMessage.{AgwMessage}
use Rattle.agwpe_port.specs.Messages.{reading, given, IsFault}
use Rattle.agwpe_port.specs.Answer.{answer_of}
use Rattle.agwpe_port.specs.Held.{Held, StandsFor, StandsForSome, taken, told}
use Rattle.agwpe_port.proofs.HeldLemmas.{bad_now, given_next, fault_next, stands_next}
use Rattle.agwpe_port.proofs.reader.AgwIn.push.Goals as goal

-- ---- after a length that was too long

told_bad : (c : goal.In-Some) → c.args.self.now.bad ≡ Some c.in-Some.len
told_bad c = ap (λ (held : Held). held.bad) (sym c.self.view_is) ∙ sym c.bad.ensures ∙ c.in-Some.is

pub returns-in-Some-clause-fault : goal.returns-in-Some-clause-fault
returns-in-Some-clause-fault c = λ stream stands. bad_now _ stream stands ∙ told_bad c

pub returns-in-Some-clause-failed : goal.returns-in-Some-clause-failed
returns-in-Some-clause-failed c = λ stream len stands bad.
    let same : Some c.in-Some.len ≡ Some len = sym (bad_now _ stream stands ∙ told_bad c) ∙ bad in
    cc

-- ---- for want of memory

is_memory : (result : Result (Option AgwMessage) AgwFault) (stream : List ℕ) (octet : ℕ)
    → IsErrAnd result (λ fault. fault ≡ Memory) → (reading stream).bad ≡ None
    → MatchResult result (λ _. (reading (stream ++ octet ∷ [])).bad ≡ None) (IsFault stream octet)
is_memory (Ok message) stream octet never none = absurd never
is_memory (Err fault) stream octet is none = subst (IsFault stream octet) (sym is) none

refused_bad : (c : goal.After-from_residual) → c.args.self.now.bad ≡ None
refused_bad c = ap (λ (held : Held). held.bad) (sym c.self.view_is) ∙ sym c.bad.ensures ∙ c.in_default.is

pub returns-in_err-message-clause-fault : goal.returns-in_err-message-clause-fault
returns-in_err-message-clause-fault c = λ stream stands.
    is_memory c.from_residual.result stream c.args.octet c.from_residual.ensures.1
    (bad_now _ stream stands ∙ refused_bad c)

pub returns-in_err-message-clause-failed : goal.returns-in_err-message-clause-failed
returns-in_err-message-clause-failed c = λ stream len stands bad.
    let none : None ≡ Some len = sym (bad_now _ stream stands ∙ refused_bad c) ∙ bad in
    absurd cc

-- ---- taken

good : (c : goal.After-answer) → c.args.self.now.bad ≡ None
good c = ap (λ (held : Held). held.bad) (sym c.self.view_is) ∙ sym c.bad.ensures ∙ c.in_default.is

held_next : (c : goal.After-answer) → c.take.new.self ≡ taken c.args.self.now c.args.octet
held_next c = c.in_ok-message.ensures.taken ∙ ap (λ held. taken held c.args.octet) c.self.view_is

answered : (c : goal.After-answer) → c.answer.result ≡ answer_of (taken c.args.self.now c.args.octet).bad
    (told c.args.self.now c.args.octet)
answered c =
    c.answer.ensures
    ∙ ap (λ bad. answer_of bad c.in_ok-message.message) (c.bad-2.ensures ∙ ap (λ (held : Held). held.bad) (held_next c))
    ∙ ap (answer_of (taken c.args.self.now c.args.octet).bad)
    (c.in_ok-message.ensures.told ∙ ap (λ held. told held c.args.octet) c.self.view_is)

pub invariant_of-self-2 : goal.invariant_of-self-2
invariant_of-self-2 c =
    let some = subst StandsForSome c.self.view_is c.self.invariant in
    subst StandsForSome (sym (held_next c))
    (some.0 ++ c.args.octet ∷ [], stands_next c.args.self.now some.0 some.1 (good c) c.args.octet)

pub returns-clause-stands_for : goal.returns-clause-stands_for
returns-clause-stands_for c = λ stream stands other.
    subst (λ held. StandsFor held (stream ++ c.args.octet ∷ [])) (sym (held_next c))
    (stands_next c.args.self.now stream stands (good c) c.args.octet)

pub returns-clause-message : goal.returns-clause-message
returns-clause-message c = λ stream stands other.
    given_next c.args.self.now stream stands (good c) c.args.octet
    ∙ ap (λ result. (reading stream).messages ++ given result) (sym (answered c))

pub returns-clause-fault : goal.returns-clause-fault
returns-clause-fault c = λ stream stands.
    let P : Result (Option AgwMessage) AgwFault → Type 0 = λ result.
    MatchResult result (λ message. (reading (stream ++ c.args.octet ∷ [])).bad ≡ None) (IsFault stream c.args.octet)
    in
    subst P (sym (answered c)) (fault_next c.args.self.now stream stands (good c) c.args.octet)

pub returns-clause-failed : goal.returns-clause-failed
returns-clause-failed c = λ stream len stands bad.
    let none : None ≡ Some len = sym (bad_now _ stream stands ∙ good c) ∙ bad in
    absurd cc
