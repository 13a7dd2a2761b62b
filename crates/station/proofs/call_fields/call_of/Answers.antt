use Rattle.station.proofs.Common.{ℕ, List, sym, subst, IsCallText}
use Rattle.station.proofs.CallLemmas.{call_of_text-is, call_of_text-none, call_of_text-octets}
use Rattle.station.proofs.call_fields.call_of.Goals as goal

pub returns-in_default : goal.returns-in_default
returns-in_default c = sym (call_of_text-octets c.args.text.now c.in_default.ensures.cases.0)

pub returns-in-Ok-parse : goal.returns-in-Ok-parse
returns-in-Ok-parse c =
    sym (call_of_text-is c.args.text.now c.in-Ok-parse.call
    (subst (λ (text : List ℕ). IsCallText text c.in-Ok-parse.call)
    c.in-Ok.ensures.cases.0 c.in-Ok-parse.ensures.call))

pub returns-in-Err : goal.returns-in-Err
returns-in-Err c =
    sym (call_of_text-none c.args.text.now (λ call h. absurd
    (cc (c.parse.ensures.accepted call (subst (λ (text : List ℕ). IsCallText text call)
    (sym c.in-Ok.ensures.cases.0) h)))))
