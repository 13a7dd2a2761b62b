use Rattle.tnc_main.proofs.Common.{◌≡◌, inl, inr}
use Rattle.tnc_main.proofs.CallingLemmas as told
use Rattle.tnc_main.proofs.calling.call.Goals as goal

pub returns-clause-called : goal.returns-clause-called
returns-clause-called g c = λ text before reads was. (
  c.tell_end.result,
  c.code.ensures,
  record { end = c.call-end.result; called = c.call-end.ensures.called text before reads was; told = c.tell_end.ensures },
)

pub returns-clause-own : goal.returns-clause-own
returns-clause-own g c = told.own c.call-end.result c.tell_end.result _ _ c.tell_end.ensures c.code.result c.code.ensures

pub returns-clause-faultless : goal.returns-clause-faultless
returns-clause-faultless g c = λ zero.
    let done = told.at_done c.call-end.result c.tell_end.result _ _ c.tell_end.ensures c.code.result c.code.ensures zero
    in (c.call-end.ensures.no_read done.0, c.call-end.ensures.no_write done.1, done.2)

pub returns-clause-read_fault : goal.returns-clause-read_fault
returns-clause-read_fault g c = λ four.
    c.call-end.ensures.read
    (told.at_read_fault c.call-end.result c.tell_end.result _ _ c.tell_end.ensures c.code.result c.code.ensures four)

pub returns-clause-write_fault : goal.returns-clause-write_fault
returns-clause-write_fault g c = λ five.
    elim (told.at_write_fault c.call-end.result c.tell_end.result _ _ c.tell_end.ensures c.code.result c.code.ensures five)
    [ inl is ↦ inl (c.call-end.ensures.write is) | inr rose ↦ inr rose ]

pub returns-clause-listens_not : goal.returns-clause-listens_not
returns-clause-listens_not g c =
    told.not_no_port c.call-end.result c.tell_end.result _ _ c.tell_end.ensures c.code.result c.code.ensures

pub returns-clause-no_host : goal.returns-clause-no_host
returns-clause-no_host g c = λ eleven.
    c.call-end.ensures.no_host
    (told.at_no_host c.call-end.result c.tell_end.result _ _ c.tell_end.ensures c.code.result c.code.ensures eleven)
