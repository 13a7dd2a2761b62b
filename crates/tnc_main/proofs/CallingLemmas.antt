-- What the exit status of a call says of its end and of the report.
use Rattle.tnc_main.proofs.Common.{◌≡◌, ◌≢◌, ℕ, ◌≤◌, List, Option, Some, None, inl, inr, refl, sym, subst, ap, ◌∙◌}
use Rattle.tnc_main.proofs.Common.{arith, ◌⊎◌, HasRisen, SinkTold, CallWords, Status, BadWords, NoPort, code_of}
use Rattle.tnc_main.proofs.Common.{IsLiveCode}
use Rattle.tnc_call.specs.declared.call_end.CallEnd.{CallEnd}
use Rattle.tnc_call.specs.declared.call_end.CallEnd.TheVariants.{Done, TooLong, Memory, ReadFault, WriteFault, NoHost}
use Rattle.tnc_call.specs.declared.call_end.CallEnd.TheVariants.{Refused, HostLost, Broken, GaveUp}
use Rattle.host_ports.specs.Sockets.{PortsTold}
use Rattle.tnc_main.specs.declared.status.Status.TheVariants.{Done as WellDone, Memory as NoMemory}
use Rattle.tnc_main.specs.declared.status.Status.TheVariants.{ReadFault as InputFailed, WriteFault as OutputFailed}
use Rattle.tnc_main.specs.declared.status.Status.TheVariants.{NoHost as FoundNoHost}
use Rattle.tnc_main.specs.Calling.{Calls, line_of_end, status_of_end}
use Rattle.tnc_main.specs.EndTold.{IsEndToldOrWanted}
use Rattle.tnc_main.proofs.EndLemmas.{ended_well, own_code, settled, stopped}

-- ---- the codes

code_of_end : (end : CallEnd) → IsLiveCode (code_of (status_of_end end))
code_of_end (Done got) = ended_well
code_of_end TooLong = stopped 2 (omega arith) (omega arith)
code_of_end Memory = stopped 3 (omega arith) (omega arith)
code_of_end ReadFault = stopped 4 (omega arith) (omega arith)
code_of_end WriteFault = stopped 5 (omega arith) (omega arith)
code_of_end NoHost = own_code 11 (omega arith)
code_of_end Refused = own_code 12 (omega arith)
code_of_end HostLost = own_code 13 (omega arith)
code_of_end (Broken len) = own_code 14 (omega arith)
code_of_end (GaveUp polls) = own_code 15 (omega arith)

-- ---- ends by their codes

is_done : (end : CallEnd) → code_of (status_of_end end) ≡ 0 → (end ≢ ReadFault) × (end ≢ WriteFault)
is_done (Done got) is = (
  λ same. let both : Done got ≡ ReadFault = same in cc both,
  λ same. let both : Done got ≡ WriteFault = same in cc both,
)
is_done TooLong is = absurd (omega arith)
is_done Memory is = absurd (omega arith)
is_done ReadFault is = absurd (omega arith)
is_done WriteFault is = absurd (omega arith)
is_done NoHost is = absurd (omega arith)
is_done Refused is = absurd (omega arith)
is_done HostLost is = absurd (omega arith)
is_done (Broken len) is = absurd (omega arith)
is_done (GaveUp polls) is = absurd (omega arith)

is_read_fault : (end : CallEnd) → code_of (status_of_end end) ≡ 4 → end ≡ ReadFault
is_read_fault (Done got) is = absurd (omega arith)
is_read_fault TooLong is = absurd (omega arith)
is_read_fault Memory is = absurd (omega arith)
is_read_fault ReadFault is = refl
is_read_fault WriteFault is = absurd (omega arith)
is_read_fault NoHost is = absurd (omega arith)
is_read_fault Refused is = absurd (omega arith)
is_read_fault HostLost is = absurd (omega arith)
is_read_fault (Broken len) is = absurd (omega arith)
is_read_fault (GaveUp polls) is = absurd (omega arith)

is_write_fault : (end : CallEnd) → code_of (status_of_end end) ≡ 5 → end ≡ WriteFault
is_write_fault (Done got) is = absurd (omega arith)
is_write_fault TooLong is = absurd (omega arith)
is_write_fault Memory is = absurd (omega arith)
is_write_fault ReadFault is = absurd (omega arith)
is_write_fault WriteFault is = refl
is_write_fault NoHost is = absurd (omega arith)
is_write_fault Refused is = absurd (omega arith)
is_write_fault HostLost is = absurd (omega arith)
is_write_fault (Broken len) is = absurd (omega arith)
is_write_fault (GaveUp polls) is = absurd (omega arith)

is_no_host : (end : CallEnd) → code_of (status_of_end end) ≡ 11 → end ≡ NoHost
is_no_host (Done got) is = absurd (omega arith)
is_no_host TooLong is = absurd (omega arith)
is_no_host Memory is = absurd (omega arith)
is_no_host ReadFault is = absurd (omega arith)
is_no_host WriteFault is = absurd (omega arith)
is_no_host NoHost is = refl
is_no_host Refused is = absurd (omega arith)
is_no_host HostLost is = absurd (omega arith)
is_no_host (Broken len) is = absurd (omega arith)
is_no_host (GaveUp polls) is = absurd (omega arith)

is_no_port : (end : CallEnd) → code_of (status_of_end end) ≢ 10
is_no_port (Done got) is = omega arith
is_no_port TooLong is = omega arith
is_no_port Memory is = omega arith
is_no_port ReadFault is = omega arith
is_no_port WriteFault is = omega arith
is_no_port NoHost is = omega arith
is_no_port Refused is = omega arith
is_no_port HostLost is = omega arith
is_no_port (Broken len) is = omega arith
is_no_port (GaveUp polls) is = omega arith

-- ---- what was told

-- and there may have been no memory for the line
abbrev SettledOrWanted : Status → Status → SinkTold → SinkTold → Type 0
SettledOrWanted own status before after =
    ((status ≡ own) × (after.faults ≡ before.faults))
    ⊎ (((status ≡ OutputFailed) × HasRisen before.faults after.faults) ⊎ (status ≡ NoMemory))

settled_or_wanted : (line : Option (List ℕ)) (own status : Status) (before after : SinkTold)
    → IsEndToldOrWanted line own status before after → SettledOrWanted own status before after
settled_or_wanted line own status before after (inl told) =
    elim (settled line own status before after told) [ inl well ↦ inl well | inr failed ↦ inr (inl failed) ]
settled_or_wanted line own status before after (inr (is, same)) = inr (inr is)

module _ (end : CallEnd) (status : Status) (before after : SinkTold)
    (told : IsEndToldOrWanted (line_of_end end) (status_of_end end) status before after) (code : ℕ)
    (is_code : code ≡ code_of status) where
  settles : SettledOrWanted (status_of_end end) status before after
  settles = settled_or_wanted (line_of_end end) (status_of_end end) status before after told

  own_is : status ≡ status_of_end end → (n : ℕ) → code ≡ n → code_of (status_of_end end) ≡ n
  own_is is n same = ap code_of (sym is) ∙ sym is_code ∙ same

  failed_is : status ≡ OutputFailed → code ≡ 5
  failed_is is = is_code ∙ ap code_of is

  memory_is : status ≡ NoMemory → code ≡ 3
  memory_is is = is_code ∙ ap code_of is

  pub own : IsLiveCode code
  own = elim settles [
    | inl (is, same) ↦ subst IsLiveCode (sym (is_code ∙ ap code_of is)) (code_of_end end)
    | inr more ↦ elim more [
      | inl (is, rose) ↦ subst IsLiveCode (sym (failed_is is)) (stopped 5 (omega arith) (omega arith))
      | inr is ↦ subst IsLiveCode (sym (memory_is is)) (stopped 3 (omega arith) (omega arith))
    ]
  ]

  pub at_done : code ≡ 0 → (end ≢ ReadFault) × (end ≢ WriteFault) × (after.faults ≡ before.faults)
  at_done zero = elim settles [
    | inl (is, same) ↦ let both = is_done end (own_is is 0 zero) in (both.0, both.1, same)
    | inr more ↦ elim more [
      | inl (is, rose) ↦ let five = failed_is is in absurd (omega arith)
      | inr is ↦ let three = memory_is is in absurd (omega arith)
    ]
  ]

  pub at_read_fault : code ≡ 4 → end ≡ ReadFault
  at_read_fault four = elim settles [
    | inl (is, same) ↦ is_read_fault end (own_is is 4 four)
    | inr more ↦ elim more [
      | inl (is, rose) ↦ let five = failed_is is in absurd (omega arith)
      | inr is ↦ let three = memory_is is in absurd (omega arith)
    ]
  ]

  pub at_write_fault : code ≡ 5 → (end ≡ WriteFault) ⊎ HasRisen before.faults after.faults
  at_write_fault five = elim settles [
    | inl (is, same) ↦ inl (is_write_fault end (own_is is 5 five))
    | inr more ↦ elim more [
      | inl (is, rose) ↦ inr rose
      | inr is ↦ let three = memory_is is in absurd (omega arith)
    ]
  ]

  pub not_no_port : code ≢ 10
  not_no_port ten = elim settles [
    | inl (is, same) ↦ is_no_port end (own_is is 10 ten)
    | inr more ↦ elim more [
      | inl (is, rose) ↦ let five = failed_is is in omega arith
      | inr is ↦ let three = memory_is is in omega arith
    ]
  ]

  pub at_no_host : code ≡ 11 → end ≡ NoHost
  at_no_host eleven = elim settles [
    | inl (is, same) ↦ is_no_host end (own_is is 11 eleven)
    | inr more ↦ elim more [
      | inl (is, rose) ↦ let five = failed_is is in absurd (omega arith)
      | inr is ↦ let three = memory_is is in absurd (omega arith)
    ]
  ]

-- a call that was made as some words ask for it was made as equal ones ask for it
pub called_as : (words other : CallWords) (code : ℕ) (text before : List ℕ) (written : Option (List ℕ))
    (start now : PortsTold) (report after : SinkTold) → words ≡ other
    → (status : Status) × (code ≡ code_of status) × Calls words text before written start now status report after
    → (status : Status) × (code ≡ code_of status) × Calls other text before written start now status report after
called_as words other code text before written start now report after same h =
    (h.0, h.1, subst (λ w. Calls w text before written start now h.0 report after) same h.2)

-- a call that was made from a report on was made from an equal one on
pub called_from : (words : CallWords) (code : ℕ) (text before : List ℕ) (written : Option (List ℕ))
    (start now : PortsTold) (was report after : SinkTold) → was ≡ report
    → (status : Status) × (code ≡ code_of status) × Calls words text before written start now status was after
    → (status : Status) × (code ≡ code_of status) × Calls words text before written start now status report after
called_from words code text before written start now was report after same h =
    (h.0, h.1, subst (λ r. Calls words text before written start now h.0 r after) same h.2)
