-- What a run leaves, why it ends, and what it tells, by how its command ends.
use Rattle.tnc_main.proofs.Common.{◌≡◌, ℕ, ◌+◌, List, [], ◌++◌, Option, Some, None, Result, Ok, Err, IfErr, inl, inr}
use Rattle.tnc_main.proofs.Common.{append-nil, refl, sym, subst, ap, ◌∙◌, OnOk, ◌⊎◌, WrotePart, Command, InputFault}
use Rattle.tnc_main.proofs.Common.{TooLong, input_limit, Status, Done, BadInput, ReadFault, WriteFault, Stop, Input}
use Rattle.tnc_main.proofs.Common.{Stray, NotQuiet, Spent, Memory, Read, Write, IsFaultless, Reads, fault_of, line_of}
use Rattle.tnc_main.proofs.Common.{stray_line, IsCaused, Leaves, Tells, code_of, EndsAs, IsStopOfRun, status_of}
use Rattle.std.proofs.Common.{drop}
use Rattle.tnc_main.specs.declared.status.Status.TheVariants.{Memory as NoMemory, Stray as HeardStray}
use Rattle.tnc_main.specs.declared.status.Status.TheVariants.{NotQuiet as FoundNoQuiet, Spent as WasSpent}
use Rattle.tnc_main.specs.Report.{input_line, not_quiet_line, spent_line}

module _ (command : Command) (octets : List ℕ) (left : Option (List ℕ)) where
  leaves_own : (end : Result (Unit {0}) Stop) → OnOk end (Reads command left [])
      → ((fault : InputFault) → end ≡ Err (Input fault) → fault_of command octets ≡ Some fault)
      → (end ≡ Err (Input TooLong) → Reads command left (drop (input_limit + 1) octets))
      → Leaves command octets (status_of end) left
  leaves_own (Ok x) all bad stops = all
  leaves_own (Err (Input fault)) all bad stops = λ long.
      let both : Some fault ≡ Some TooLong = sym (bad fault refl) ∙ long in
      let same : fault ≡ TooLong = cc both in
      stops (ap (λ f. Err (Input f)) same)
  leaves_own (Err (Stray frame)) all bad stops = tt
  leaves_own (Err (NotQuiet index)) all bad stops = tt
  leaves_own (Err (Spent ticks)) all bad stops = tt
  leaves_own (Err Memory) all bad stops = tt
  leaves_own (Err Read) all bad stops = tt
  leaves_own (Err Write) all bad stops = tt

  pub leaves : (end : Result (Unit {0}) Stop) (status : Status) → EndsAs end status → OnOk end (Reads command left [])
      → ((fault : InputFault) → end ≡ Err (Input fault) → fault_of command octets ≡ Some fault)
      → (end ≡ Err (Input TooLong) → Reads command left (drop (input_limit + 1) octets))
      → Leaves command octets status left
  leaves end status (inl same) all bad stops =
      subst (λ s. Leaves command octets s left) (sym same) (leaves_own end all bad stops)
  leaves end status (inr (told, inl is)) all bad stops = subst (λ s. Leaves command octets s left) (sym is) tt
  leaves end status (inr (told, inr is)) all bad stops = subst (λ s. Leaves command octets s left) (sym is) tt

module _ (command : Command) (octets : List ℕ) where
  caused_own : (end : Result (Unit {0}) Stop) → OnOk end (fault_of command octets ≡ None)
      → ((fault : InputFault) → end ≡ Err (Input fault) → fault_of command octets ≡ Some fault)
      → IfErr end (IsStopOfRun command)
      → IsCaused command octets (status_of end)
  caused_own (Ok x) good bad sent = good
  caused_own (Err (Input fault)) good bad sent = (fault, bad fault refl)
  caused_own (Err (Stray frame)) good bad sent = (frame, sent)
  caused_own (Err (NotQuiet index)) good bad sent = (index, sent)
  caused_own (Err (Spent ticks)) good bad sent = (ticks, sent)
  caused_own (Err Memory) good bad sent = tt
  caused_own (Err Read) good bad sent = tt
  caused_own (Err Write) good bad sent = tt

  pub caused : (end : Result (Unit {0}) Stop) (status : Status) → EndsAs end status
      → OnOk end (fault_of command octets ≡ None)
      → ((fault : InputFault) → end ≡ Err (Input fault) → fault_of command octets ≡ Some fault)
      → IfErr end (IsStopOfRun command)
      → IsCaused command octets status
  caused end status (inl same) good bad sent = subst (λ s. IsCaused command octets s) (sym same)
      (caused_own end good bad sent)
  caused end status (inr (told, inl is)) good bad sent = subst (λ s. IsCaused command octets s) (sym is) tt
  caused end status (inr (told, inr is)) good bad sent = subst (λ s. IsCaused command octets s) (sym is) tt

  -- with no fault but want of memory a command ends well or for that
  pub ends_well : (end : Result (Unit {0}) Stop) (status : Status) → EndsAs end status
      → ((fault : InputFault) → end ≡ Err (Input fault) → ⊥) → IfErr end (IsStopOfRun command)
      → IsFaultless command octets
      → (end ≡ Err Read → ⊥) → (end ≡ Err Write → ⊥) → (code_of status ≡ 0) ⊎ (code_of status ≡ 3)
  ends_well (Ok x) status (inl same) bad sent faultless read write = inl (ap code_of same)
  ends_well (Ok x) status (inr (told, which)) bad sent faultless read write = absurd told
  ends_well (Err (Input fault)) status ends bad sent faultless read write = absurd (bad fault refl)
  ends_well (Err (Stray frame)) status ends bad sent faultless read write = absurd (faultless.sent frame sent)
  ends_well (Err (NotQuiet index)) status ends bad sent faultless read write = absurd (faultless.quiet index sent)
  ends_well (Err (Spent ticks)) status ends bad sent faultless read write = absurd (faultless.in_time ticks sent)
  ends_well (Err Memory) status (inl same) bad sent faultless read write = inr (ap code_of same)
  ends_well (Err Memory) status (inr (told, which)) bad sent faultless read write = absurd told
  ends_well (Err Read) status ends bad sent faultless read write = absurd (read refl)
  ends_well (Err Write) status ends bad sent faultless read write = absurd (write refl)

-- what is told of an end
module _ (command : Command) (octets before : List ℕ) (now : Option (List ℕ)) where
  abbrev pub Told : Status → Type 0
  Told status = (line : List ℕ) × Tells command octets status line × (now ≡ Some (before ++ line))

  nothing_told : now ≡ Some before → now ≡ Some (before ++ [])
  nothing_told is = is ∙ ap Some (sym (append-nil before))

  tells_own : (end : Result (Unit {0}) Stop)
      → ((fault : InputFault) → end ≡ Err (Input fault) → fault_of command octets ≡ Some fault)
      → IfErr end (IsStopOfRun command)
      → ((status_of end ≡ Done) ⊎ ((status_of end ≡ NoMemory) ⊎ (status_of end ≡ ReadFault)) → now ≡ Some before)
      → ((status_of end ≡ BadInput) ⊎ ((status_of end ≡ HeardStray)
      ⊎ ((status_of end ≡ FoundNoQuiet) ⊎ (status_of end ≡ WasSpent)))
      → IfErr end (λ stop. now ≡ Some (before ++ line_of stop)))
      → (status_of end ≡ WriteFault → IfErr end (λ stop. WrotePart before (line_of stop) now))
      → Told (status_of end)
  tells_own (Ok x) bad sent silent told cut = ([], refl, nothing_told (silent (inl refl)))
  tells_own (Err (Input fault)) bad sent silent told cut =
      (input_line fault, (fault, bad fault refl, refl), told (inl refl))
  tells_own (Err (Stray frame)) bad sent silent told cut =
      (stray_line frame, (frame, sent, refl), told (inr (inl refl)))
  tells_own (Err (NotQuiet index)) bad sent silent told cut =
      (not_quiet_line index, (index, sent, refl), told (inr (inr (inl refl))))
  tells_own (Err (Spent ticks)) bad sent silent told cut =
      (spent_line ticks, (ticks, sent, refl), told (inr (inr (inr refl))))
  tells_own (Err Memory) bad sent silent told cut = ([], refl, nothing_told (silent (inr (inl refl))))
  tells_own (Err Read) bad sent silent told cut = ([], refl, nothing_told (silent (inr (inr refl))))
  tells_own (Err Write) bad sent silent told cut = let part = cut refl in
      (part.0, (Write, tt, (part.1, part.2)), part.3)

  pub tells : (end : Result (Unit {0}) Stop) (status : Status) → EndsAs end status
      → ((fault : InputFault) → end ≡ Err (Input fault) → fault_of command octets ≡ Some fault)
      → IfErr end (IsStopOfRun command)
      → ((status ≡ Done) ⊎ ((status ≡ NoMemory) ⊎ (status ≡ ReadFault)) → now ≡ Some before)
      → ((status ≡ BadInput) ⊎ ((status ≡ HeardStray) ⊎ ((status ≡ FoundNoQuiet) ⊎ (status ≡ WasSpent)))
      → IfErr end (λ stop. now ≡ Some (before ++ line_of stop)))
      → (status ≡ WriteFault → IfErr end (λ stop. WrotePart before (line_of stop) now))
      → Told status
  tells end status (inl same) bad sent silent told cut =
      subst Told (sym same) (tells_own end bad sent
      (λ which. elim which [
        | inl e ↦ silent (inl (same ∙ e))
        | inr more ↦ elim more
            [ inl e ↦ silent (inr (inl (same ∙ e))) | inr e ↦ silent (inr (inr (same ∙ e))) ]
      ])
      (λ which. elim which [
        | inl e ↦ told (inl (same ∙ e))
        | inr more ↦ elim more [
          | inl e ↦ told (inr (inl (same ∙ e)))
          | inr last ↦ elim last [
            | inl e ↦ told (inr (inr (inl (same ∙ e))))
            | inr e ↦ told (inr (inr (inr (same ∙ e))))
          ]
        ]
      ])
      (λ e. cut (same ∙ e)))
  tells end status (inr (told_end, inl is)) bad sent silent told cut =
      subst Told (sym is) ([], refl, nothing_told (silent (inr (inl is))))
  tells (Ok x) status (inr (told_end, inr is)) bad sent silent told cut = absurd told_end
  tells (Err (Input fault)) status (inr (told_end, inr is)) bad sent silent told cut =
      let part = cut is in subst Told (sym is) (part.0, (Input fault, bad fault refl, (part.1, part.2)), part.3)
  tells (Err (Stray frame)) status (inr (told_end, inr is)) bad sent silent told cut =
      let part = cut is in subst Told (sym is) (part.0, (Stray frame, sent, (part.1, part.2)), part.3)
  tells (Err (NotQuiet index)) status (inr (told_end, inr is)) bad sent silent told cut =
      let part = cut is in subst Told (sym is) (part.0, (NotQuiet index, sent, (part.1, part.2)), part.3)
  tells (Err (Spent ticks)) status (inr (told_end, inr is)) bad sent silent told cut =
      let part = cut is in subst Told (sym is) (part.0, (Spent ticks, sent, (part.1, part.2)), part.3)
  tells (Err Memory) status (inr (told_end, inr is)) bad sent silent told cut = absurd told_end
  tells (Err Read) status (inr (told_end, inr is)) bad sent silent told cut = absurd told_end
  tells (Err Write) status (inr (told_end, inr is)) bad sent silent told cut = absurd told_end
