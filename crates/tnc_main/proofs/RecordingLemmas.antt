-- What the exit status of a recording says of the counts of faults, and that only few statuses are its own.
use Rattle.tnc_base.specs.Streams.{SourceTold}
use Rattle.tnc_main.proofs.Common.{◌≡◌, ℕ, ◌≤◌, List, length, length-append, Some, inl, inr, refl, sym, subst, ap, ◌∙◌}
use Rattle.tnc_main.proofs.Common.{arith, ◌⊎◌, HasRisen, RecordOptions, input_limit, LoopEnd, PumpEnd, InputEnd}
use Rattle.tnc_main.proofs.Common.{IsPumped, SinkTold, Status, BadInput, IsEndTold, code_of, IsLiveCode}
use Rattle.tnc_ports.specs.declared.looping.LoopEnd.TheVariants.{Done as LoopDone, Memory as LoopMemory}
use Rattle.tnc_ports.specs.declared.looping.LoopEnd.TheVariants.{WriteFault as LoopFault}
use Rattle.tnc_ports.specs.declared.pumping.PumpEnd.TheVariants.{ReadFault as PumpFailed, TooLong as InputTooLong}
use Rattle.sound_rate.specs.declared.rate.Rate.TheVariants.{Narrow}
use Rattle.tnc_ports.specs.PumpRun.{ReadFaults}
use Rattle.tnc_record.specs.declared.recording.RecordEnd.{RecordEnd}
use Rattle.tnc_record.specs.declared.recording.RecordEnd.TheVariants.{Done, TooLong, Memory, NoThread, ReadFault}
use Rattle.tnc_record.specs.declared.recording.RecordEnd.TheVariants.{WriteFault}
use Rattle.tnc_record.specs.declared.recording.RecordWords.{RecordWords}
use Rattle.tnc_record.specs.RecordLoop.{IsLooped}
use Rattle.tnc_record.specs.RecordRun.{HasRecorded, IsRecorded, end_of}
use Rattle.tnc_record.specs.RecordTurns.{Recording}
use Rattle.tnc_main.specs.declared.status.Status.TheVariants.{Done as WellDone, Memory as NoMemory}
use Rattle.tnc_main.specs.declared.status.Status.TheVariants.{ReadFault as InputFailed, WriteFault as OutputFailed}
use Rattle.tnc_main.specs.RecordRuns.{Records, RunsRecord, last_line, status_of_end, words_of}
use Rattle.tnc_main.proofs.EndLemmas.{ended_well, settled, stopped}
use Rattle.tnc_main.proofs.Statuses.{one_status}

-- ---- when recording has ended

module _ (words : RecordWords) (input left : SourceTold) (output output' report report' : SinkTold)
    (recording : Recording) where
  by_done : (loop : LoopEnd) (pump : PumpEnd) → Done ≡ end_of loop pump
      → IsLooped words loop recording output output' report report' → ReadFaults pump input left
      → (left.faults ≡ input.faults) × (output'.faults ≡ output.faults) × (report'.faults ≡ report.faults)
  by_done LoopDone InputEnd is looped faults = (faults, looped.1.wave.faultless, looped.1.lines.faultless)
  by_done LoopDone PumpFailed is looped faults = cc is
  by_done LoopDone InputTooLong is looped faults = cc is
  by_done LoopMemory pump is looped faults = cc is
  by_done LoopFault pump is looped faults = cc is

  by_too_long : (loop : LoopEnd) (pump : PumpEnd) → TooLong ≡ end_of loop pump
      → IsLooped words loop recording output output' report report'
      → (pump ≡ InputTooLong) × (report'.faults ≡ report.faults)
  by_too_long LoopDone InputEnd is looped = cc is
  by_too_long LoopDone PumpFailed is looped = cc is
  by_too_long LoopDone InputTooLong is looped = (refl, looped.1.lines.faultless)
  by_too_long LoopMemory pump is looped = cc is
  by_too_long LoopFault pump is looped = cc is

  by_read_fault : (loop : LoopEnd) (pump : PumpEnd) → ReadFault ≡ end_of loop pump → ReadFaults pump input left
      → HasRisen input.faults left.faults
  by_read_fault LoopDone InputEnd is faults = cc is
  by_read_fault LoopDone PumpFailed is faults = faults
  by_read_fault LoopDone InputTooLong is faults = cc is
  by_read_fault LoopMemory pump is faults = cc is
  by_read_fault LoopFault pump is faults = cc is

  by_write_fault : (loop : LoopEnd) (pump : PumpEnd) → WriteFault ≡ end_of loop pump
      → IsLooped words loop recording output output' report report'
      → HasRisen output.faults output'.faults ⊎ HasRisen report.faults report'.faults
  by_write_fault LoopDone InputEnd is looped = cc is
  by_write_fault LoopDone PumpFailed is looped = cc is
  by_write_fault LoopDone InputTooLong is looped = cc is
  by_write_fault LoopMemory pump is looped = cc is
  by_write_fault LoopFault pump is looped = looped.1.failed

module _ (words : RecordWords) (input left : SourceTold) (output output' report report' : SinkTold) where
  done : HasRecorded words Done input left output output' report report'
      → (left.faults ≡ input.faults) × (output'.faults ≡ output.faults) × (report'.faults ≡ report.faults)
  done h = by_done words input left output output' report report' h.recording h.loop h.pump h.ends h.looped h.faults

  too_long : (h : HasRecorded words TooLong input left output output' report report')
      → (h.pump ≡ InputTooLong) × (report'.faults ≡ report.faults)
  too_long h = by_too_long words input left output output' report report' h.recording h.loop h.pump h.ends h.looped

  read_failed : HasRecorded words ReadFault input left output output' report report'
      → HasRisen input.faults left.faults
  read_failed h =
      by_read_fault words input left output output' report report' h.recording h.loop h.pump h.ends h.faults

  write_failed : HasRecorded words WriteFault input left output output' report report'
      → HasRisen output.faults output'.faults ⊎ HasRisen report.faults report'.faults
  write_failed h =
      by_write_fault words input left output output' report report' h.recording h.loop h.pump h.ends h.looped

  -- an input with so many octets is not too long
  not_too_long : (octets : List ℕ) → input.left ≡ Some octets → length octets ≤ input_limit
      → HasRecorded words TooLong input left output output' report report' → ⊥
  not_too_long octets is few h =
      let pumped = subst (IsPumped Narrow octets left.left h.published) (too_long h).0 (h.pumped octets is) in
      let size = ap length pumped.parts ∙ length-append pumped.read pumped.rest in
      let over = pumped.stop in
      omega arith

-- ---- when the end was told

code_of_end : (end : RecordEnd) → IsLiveCode (code_of (status_of_end end)) × (code_of (status_of_end end) ≤ 5)
code_of_end Done = (ended_well, omega arith)
code_of_end TooLong = (stopped 2 (omega arith) (omega arith), omega arith)
code_of_end Memory = (stopped 3 (omega arith) (omega arith), omega arith)
code_of_end NoThread = (stopped 3 (omega arith) (omega arith), omega arith)
code_of_end ReadFault = (stopped 4 (omega arith) (omega arith), omega arith)
code_of_end WriteFault = (stopped 5 (omega arith) (omega arith), omega arith)

module _ (words : RecordWords) (input left : SourceTold) (output output' report between report' : SinkTold)
    (status : Status) where
  abbrev pub Ends : RecordEnd → Type 0
  Ends end = IsRecorded words end input left output output' report between
      × IsEndTold (last_line end) (status_of_end end) status between report'

  pub at_done : (end : RecordEnd) → Ends end → status ≡ WellDone
      → (left.faults ≡ input.faults) × (output'.faults ≡ output.faults) × (report'.faults ≡ report.faults)
  at_done Done (recorded, (is, same)) e =
      let all = done words input left output output' report between recorded in
      (all.0, all.1, ap (λ (s : SinkTold). s.faults) same ∙ all.2)
  at_done TooLong (recorded, inl (is, more)) e = let both : WellDone ≡ BadInput = sym e ∙ is in cc both
  at_done TooLong (recorded, inr (is, part, rose)) e = let both : WellDone ≡ OutputFailed = sym e ∙ is in cc both
  at_done Memory (recorded, (is, same)) e = let both : WellDone ≡ NoMemory = sym e ∙ is in cc both
  at_done NoThread (recorded, (is, same)) e = let both : WellDone ≡ NoMemory = sym e ∙ is in cc both
  at_done ReadFault (recorded, (is, same)) e = let both : WellDone ≡ InputFailed = sym e ∙ is in cc both
  at_done WriteFault (recorded, (is, same)) e = let both : WellDone ≡ OutputFailed = sym e ∙ is in cc both

  pub at_read_fault : (end : RecordEnd) → Ends end → status ≡ InputFailed → HasRisen input.faults left.faults
  at_read_fault Done (recorded, (is, same)) e = let both : InputFailed ≡ WellDone = sym e ∙ is in cc both
  at_read_fault TooLong (recorded, inl (is, more)) e = let both : InputFailed ≡ BadInput = sym e ∙ is in cc both
  at_read_fault TooLong (recorded, inr (is, part, rose)) e = let both : InputFailed ≡ OutputFailed = sym e ∙ is in cc both
  at_read_fault Memory (recorded, (is, same)) e = let both : InputFailed ≡ NoMemory = sym e ∙ is in cc both
  at_read_fault NoThread (recorded, (is, same)) e = let both : InputFailed ≡ NoMemory = sym e ∙ is in cc both
  at_read_fault ReadFault (recorded, (is, same)) e = read_failed words input left output output' report between recorded
  at_read_fault WriteFault (recorded, (is, same)) e = let both : InputFailed ≡ OutputFailed = sym e ∙ is in cc both

  pub at_write_fault : (end : RecordEnd) → Ends end → status ≡ OutputFailed
      → HasRisen output.faults output'.faults ⊎ HasRisen report.faults report'.faults
  at_write_fault Done (recorded, (is, same)) e = let both : OutputFailed ≡ WellDone = sym e ∙ is in cc both
  at_write_fault TooLong (recorded, inl (is, more)) e = let both : OutputFailed ≡ BadInput = sym e ∙ is in cc both
  at_write_fault TooLong (recorded, inr (is, part, rose)) e =
      inr (subst (λ n. HasRisen n report'.faults) (too_long words input left output output' report between recorded).1
      rose)
  at_write_fault Memory (recorded, (is, same)) e = let both : OutputFailed ≡ NoMemory = sym e ∙ is in cc both
  at_write_fault NoThread (recorded, (is, same)) e = let both : OutputFailed ≡ NoMemory = sym e ∙ is in cc both
  at_write_fault ReadFault (recorded, (is, same)) e = let both : OutputFailed ≡ InputFailed = sym e ∙ is in cc both
  at_write_fault WriteFault (recorded, (is, same)) e =
      subst (λ (s : SinkTold). HasRisen output.faults output'.faults ⊎ HasRisen report.faults s.faults) (sym same)
      (write_failed words input left output output' report between recorded)

  -- good words, an input that is not too long, and no count that rises
  pub ends_well : (end : RecordEnd) → Ends end → (octets : List ℕ) → input.left ≡ Some octets
      → length octets ≤ input_limit → (HasRisen input.faults left.faults → ⊥)
      → (HasRisen output.faults output'.faults → ⊥) → (HasRisen report.faults report'.faults → ⊥)
      → (status ≡ WellDone) ⊎ (status ≡ NoMemory)
  ends_well Done (recorded, (is, same)) octets tells few no_read no_write no_report = inl is
  ends_well TooLong (recorded, told) octets tells few no_read no_write no_report =
      absurd (not_too_long words input left output output' report between octets tells few recorded)
  ends_well Memory (recorded, (is, same)) octets tells few no_read no_write no_report = inr is
  ends_well NoThread (recorded, (is, same)) octets tells few no_read no_write no_report = inr is
  ends_well ReadFault (recorded, (is, same)) octets tells few no_read no_write no_report =
      absurd (no_read (read_failed words input left output output' report between recorded))
  ends_well WriteFault (recorded, (is, same)) octets tells few no_read no_write no_report =
      elim (at_write_fault WriteFault (recorded, (is, same)) is)
      [ inl output ↦ absurd (no_write output) | inr report ↦ absurd (no_report report) ]

  -- the statuses of a recording
  pub is_own : (end : RecordEnd) → Ends end → IsLiveCode (code_of status) × (code_of status ≤ 5)
  is_own end (recorded, told) = elim (settled (last_line end) (status_of_end end) status between report' told) [
    | inl (is, same) ↦ subst (λ s. IsLiveCode (code_of s) × (code_of s ≤ 5)) (sym is) (code_of_end end)
    | inr (is, rose) ↦ subst (λ s. IsLiveCode (code_of s) × (code_of s ≤ 5)) (sym is)
        (stopped 5 (omega arith) (omega arith), omega arith)
  ]

-- ---- by the exit status

module _ (words : RecordWords) (code : ℕ) (input left : SourceTold) (output output' report report' : SinkTold)
    (h : (status : Status) × (code ≡ code_of status) × Records words status input left output output' report report')
  where
    status_is : (status : Status) → code ≡ code_of status → h.0 ≡ status
    status_is status is = one_status h.0 status (sym h.1 ∙ is)

    ends : Ends words input left output output' report h.2.between report' h.0 h.2.end
    ends = (h.2.recorded, h.2.told)

    pub faultless : code ≡ 0
        → (left.faults ≡ input.faults) × (output'.faults ≡ output.faults) × (report'.faults ≡ report.faults)
    faultless is = at_done words input left output output' report h.2.between report' h.0 h.2.end ends
        (status_is WellDone is)

    pub read_fault : code ≡ 4 → HasRisen input.faults left.faults
    read_fault is = at_read_fault words input left output output' report h.2.between report' h.0 h.2.end ends
        (status_is InputFailed is)

    pub write_fault : code ≡ 5 → HasRisen output.faults output'.faults ⊎ HasRisen report.faults report'.faults
    write_fault is = at_write_fault words input left output output' report h.2.between report' h.0 h.2.end ends
        (status_is OutputFailed is)

    pub own : IsLiveCode code
    own = subst IsLiveCode (sym h.1)
        (is_own words input left output output' report h.2.between report' h.0 h.2.end ends).0

    pub no_others : code ≤ 5
    no_others = subst (λ n. n ≤ 5) (sym h.1)
        (is_own words input left output output' report h.2.between report' h.0 h.2.end ends).1

    pub complete : (octets : List ℕ) → input.left ≡ Some octets → length octets ≤ input_limit
        → (HasRisen input.faults left.faults → ⊥) → (HasRisen output.faults output'.faults → ⊥)
        → (HasRisen report.faults report'.faults → ⊥) → (code ≡ 0) ⊎ (code ≡ 3)
    complete octets tells few no_read no_write no_report =
        elim (ends_well words input left output output' report h.2.between report' h.0 h.2.end ends octets tells few
        no_read no_write no_report) [
          | inl well ↦ inl (h.1 ∙ ap code_of well)
          | inr memory ↦ inr (h.1 ∙ ap code_of memory)
        ]

-- ---- equal words, inputs and streams

-- what was recorded as some words ask for it was recorded as equal ones ask for it
pub recorded_as : (words other : RecordWords) (code : ℕ) (input left : SourceTold)
    (output output' report report' : SinkTold) → words ≡ other
    → (status : Status) × (code ≡ code_of status) × Records words status input left output output' report report'
    → (status : Status) × (code ≡ code_of status) × Records other status input left output output' report report'
recorded_as words other code input left output output' report report' same h =
    (h.0, h.1, subst (λ w. Records w h.0 input left output output' report report') same h.2)

-- what was recorded from an input and streams on was recorded from equal ones on
pub recorded_from : (options : RecordOptions) (code : ℕ) (was input left : SourceTold)
    (stood output output' told report report' : SinkTold) → was ≡ input → stood ≡ output → told ≡ report
    → (status : Status) × (code ≡ code_of status)
    × Records (words_of options) status was left stood output' told report'
    → (status : Status) × (code ≡ code_of status)
    × RunsRecord options status input left output output' report report'
recorded_from options code was input left stood output output' told report report' unread unwritten untold h = (
  h.0,
  h.1,
  inr (subst (λ i. Records (words_of options) h.0 i left output output' report report') unread
      (subst (λ o. Records (words_of options) h.0 was left o output' report report') unwritten
      (subst (λ r. Records (words_of options) h.0 was left stood output' r report') untold h.2))),
)
