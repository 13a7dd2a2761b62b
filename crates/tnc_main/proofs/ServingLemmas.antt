-- What the status of a live station says of the counts of faults, and that only few statuses are its own.
use Rattle.tnc_main.proofs.Common.{◌≡◌, ℕ, ◌≤◌, List, length, length-append, Some, inl, inr, refl, sym, subst, ap, ◌∙◌}
use Rattle.tnc_main.proofs.Common.{arith, ◌⊎◌, HasRisen, ServeOptions, input_limit, LoopEnd, PumpEnd, InputEnd}
use Rattle.tnc_main.proofs.Common.{ServeWords, IsPumped, Outside, SinkTold, SourceTold, Status, BadWords, BadInput}
use Rattle.tnc_main.proofs.Common.{RunsLive}
use Rattle.tnc_main.proofs.Common.{words_of, code_of}
use Rattle.sample_ring.specs.declared.got.Got.{Got}
use Rattle.tnc_ports.specs.declared.looping.LoopEnd.TheVariants.{Done as LoopDone, Memory as LoopMemory}
use Rattle.tnc_ports.specs.declared.looping.LoopEnd.TheVariants.{WriteFault as LoopFault}
use Rattle.tnc_ports.specs.declared.pumping.PumpEnd.TheVariants.{ReadFault as PumpFailed, TooLong as InputTooLong}
use Rattle.tnc_ports.specs.declared.serving.ServeEnd.{ServeEnd}
use Rattle.tnc_ports.specs.declared.serving.ServeEnd.TheVariants.{Done, TooLong, Memory, ReadFault, WriteFault, NoPort}
use Rattle.tnc_ports.specs.declared.serving.ServeEnd.TheVariants.{NoThread}
use Rattle.tnc_ports.specs.SampledRun.{IsLooped}
use Rattle.tnc_ports.specs.ServeRun.{HasServed, IsServed, OnlyListens, ReadFaults, end_of}
use Rattle.tnc_main.specs.declared.status.Status.TheVariants.{Done as WellDone, Memory as NoMemory}
use Rattle.tnc_main.specs.declared.status.Status.TheVariants.{ReadFault as InputFailed, WriteFault as OutputFailed}
use Rattle.tnc_main.specs.declared.status.Status.TheVariants.{Stray as HeardStray, NotQuiet as FoundNoQuiet}
use Rattle.tnc_main.specs.declared.status.Status.TheVariants.{Spent as WasSpent, NoPort as PortsFailed}
use Rattle.tnc_main.specs.Serving.{IsInWant, IsServedInWant, IsToldAs, LacksLine, last_line, status_of_end}

-- ---- when serving has ended

-- no write failed
abbrev AreWritten : Outside → Outside → Type 0
AreWritten before after = (after.output.faults ≡ before.output.faults) × (after.report.faults ≡ before.report.faults)

-- some write failed
abbrev pub WritesFailed : Outside → Outside → Type 0
WritesFailed before after = HasRisen before.output.faults after.output.faults
    ⊎ HasRisen before.report.faults after.report.faults

module _ (words : ServeWords) (input left : SourceTold) (before open_ports after : Outside) (lanes : List (List Got))
    (only : OnlyListens before open_ports) where
  all_written : IsLooped words LoopDone lanes open_ports after → AreWritten before after
  all_written looped = (
    looped.2.written.no_output_fault ∙ ap (λ (t : SinkTold). t.faults) only.output,
    looped.2.written.no_report_fault ∙ ap (λ (t : SinkTold). t.faults) only.report,
  )

  by_done : (loop : LoopEnd) (pump : PumpEnd) → Done ≡ end_of loop pump → IsLooped words loop lanes open_ports after
      → ReadFaults pump input left
      → (left.faults ≡ input.faults) × AreWritten before after
  by_done LoopDone InputEnd is looped faults = (faults, all_written looped)
  by_done LoopDone PumpFailed is looped faults = cc is
  by_done LoopDone InputTooLong is looped faults = cc is
  by_done LoopMemory pump is looped faults = cc is
  by_done LoopFault pump is looped faults = cc is

  by_too_long : (loop : LoopEnd) (pump : PumpEnd) → TooLong ≡ end_of loop pump
      → IsLooped words loop lanes open_ports after
      → (pump ≡ InputTooLong) × AreWritten before after
  by_too_long LoopDone InputEnd is looped = cc is
  by_too_long LoopDone PumpFailed is looped = cc is
  by_too_long LoopDone InputTooLong is looped = (refl, all_written looped)
  by_too_long LoopMemory pump is looped = cc is
  by_too_long LoopFault pump is looped = cc is

  by_read_fault : (loop : LoopEnd) (pump : PumpEnd) → ReadFault ≡ end_of loop pump → ReadFaults pump input left
      → HasRisen input.faults left.faults
  by_read_fault LoopDone InputEnd is faults = cc is
  by_read_fault LoopDone PumpFailed is faults = faults
  by_read_fault LoopDone InputTooLong is faults = cc is
  by_read_fault LoopMemory pump is faults = cc is
  by_read_fault LoopFault pump is faults = cc is

  by_write_fault : (loop : LoopEnd) (pump : PumpEnd) → WriteFault ≡ end_of loop pump
      → IsLooped words loop lanes open_ports after → WritesFailed before after
  by_write_fault LoopDone InputEnd is looped = cc is
  by_write_fault LoopDone PumpFailed is looped = cc is
  by_write_fault LoopDone InputTooLong is looped = cc is
  by_write_fault LoopMemory pump is looped = cc is
  by_write_fault LoopFault pump is looped = elim looped.2.failed [
    | inl output ↦ inl (subst (λ (t : SinkTold). HasRisen t.faults after.output.faults) only.output output)
    | inr report ↦ inr (subst (λ (t : SinkTold). HasRisen t.faults after.report.faults) only.report report)
  ]

module _ (words : ServeWords) (input left : SourceTold) (before after : Outside) where
  done : HasServed words Done input left before after → (left.faults ≡ input.faults) × AreWritten before after
  done h = by_done words input left before h.open_ports after h.lanes h.opens.only h.loop h.pump h.ends h.looped
      h.faults

  too_long : (h : HasServed words TooLong input left before after) → (h.pump ≡ InputTooLong) × AreWritten before after
  too_long h = by_too_long words input left before h.open_ports after h.lanes h.opens.only h.loop h.pump h.ends h.looped

  read_failed : HasServed words ReadFault input left before after → HasRisen input.faults left.faults
  read_failed h = by_read_fault words input left before h.open_ports after h.lanes h.opens.only h.loop h.pump h.ends
      h.faults

  write_failed : HasServed words WriteFault input left before after → WritesFailed before after
  write_failed h = by_write_fault words input left before h.open_ports after h.lanes h.opens.only h.loop h.pump h.ends
      h.looped

  -- an input with so many octets is not too long
  not_too_long : (octets : List ℕ) → input.left ≡ Some octets → length octets ≤ input_limit
      → HasServed words TooLong input left before after → ⊥
  not_too_long octets is few h =
      let pumped = subst (IsPumped words.rate octets left.left h.published) (too_long h).0 (h.pumped octets is) in
      let size = ap length pumped.parts ∙ length-append pumped.read pumped.rest in
      let over = pumped.stop in
      omega arith

-- ---- when the end was told

-- a line that was cut is a write that failed
cut_line : (line : List ℕ) (before between after : Outside) → between.report.faults ≡ before.report.faults
    → LacksLine line between after → WritesFailed before after
cut_line line before between after same h = inr (subst (λ n. HasRisen n after.report.faults) same h.failed)

module _ (words : ServeWords) (input left : SourceTold) (before between after : Outside) (status : Status) where
  abbrev pub Ends : ServeEnd → Type 0
  Ends end = IsServed words end input left before between
      × IsToldAs (last_line end) (status_of_end end) status between after

  pub at_done : (end : ServeEnd) → Ends end → status ≡ WellDone
      → (left.faults ≡ input.faults) × (after.output.faults ≡ before.output.faults)
      × (after.report.faults ≡ before.report.faults)
  at_done Done (served, (is, same)) e =
      let counts = done words input left before between served in (
        counts.0,
        ap (λ (o : Outside). o.output.faults) same ∙ counts.1.0,
        ap (λ (o : Outside). o.report.faults) same
            ∙ counts.1.1,
      )
  at_done TooLong (served, inl (is, more)) e = let both : WellDone ≡ BadInput = sym e ∙ is in cc both
  at_done TooLong (served, inr (is, less)) e = let both : WellDone ≡ OutputFailed = sym e ∙ is in cc both
  at_done Memory (served, (is, same)) e = let both : WellDone ≡ NoMemory = sym e ∙ is in cc both
  at_done NoThread (served, (is, same)) e = let both : WellDone ≡ NoMemory = sym e ∙ is in cc both
  at_done ReadFault (served, (is, same)) e = let both : WellDone ≡ InputFailed = sym e ∙ is in cc both
  at_done WriteFault (served, (is, same)) e = let both : WellDone ≡ OutputFailed = sym e ∙ is in cc both
  at_done NoPort (served, inl (is, more)) e = let both : WellDone ≡ PortsFailed = sym e ∙ is in cc both
  at_done NoPort (served, inr (is, less)) e = let both : WellDone ≡ OutputFailed = sym e ∙ is in cc both

  pub at_read_fault : (end : ServeEnd) → Ends end → status ≡ InputFailed → HasRisen input.faults left.faults
  at_read_fault Done (served, (is, same)) e = let both : InputFailed ≡ WellDone = sym e ∙ is in cc both
  at_read_fault TooLong (served, inl (is, more)) e = let both : InputFailed ≡ BadInput = sym e ∙ is in cc both
  at_read_fault TooLong (served, inr (is, less)) e = let both : InputFailed ≡ OutputFailed = sym e ∙ is in cc both
  at_read_fault Memory (served, (is, same)) e = let both : InputFailed ≡ NoMemory = sym e ∙ is in cc both
  at_read_fault NoThread (served, (is, same)) e = let both : InputFailed ≡ NoMemory = sym e ∙ is in cc both
  at_read_fault ReadFault (served, (is, same)) e = read_failed words input left before between served
  at_read_fault WriteFault (served, (is, same)) e = let both : InputFailed ≡ OutputFailed = sym e ∙ is in cc both
  at_read_fault NoPort (served, inl (is, more)) e = let both : InputFailed ≡ PortsFailed = sym e ∙ is in cc both
  at_read_fault NoPort (served, inr (is, less)) e = let both : InputFailed ≡ OutputFailed = sym e ∙ is in cc both

  pub at_write_fault : (end : ServeEnd) → Ends end → status ≡ OutputFailed → WritesFailed before after
  at_write_fault Done (served, (is, same)) e = let both : OutputFailed ≡ WellDone = sym e ∙ is in cc both
  at_write_fault TooLong (served, inl (is, more)) e = let both : OutputFailed ≡ BadInput = sym e ∙ is in cc both
  at_write_fault TooLong (served, inr (is, less)) e =
      cut_line _ before between after (too_long words input left before between served).1.1 less
  at_write_fault Memory (served, (is, same)) e = let both : OutputFailed ≡ NoMemory = sym e ∙ is in cc both
  at_write_fault NoThread (served, (is, same)) e = let both : OutputFailed ≡ NoMemory = sym e ∙ is in cc both
  at_write_fault ReadFault (served, (is, same)) e = let both : OutputFailed ≡ InputFailed = sym e ∙ is in cc both
  at_write_fault WriteFault (served, (is, same)) e = subst (WritesFailed before) (sym same)
      (write_failed words input left before between served)
  at_write_fault NoPort (served, inl (is, more)) e = let both : OutputFailed ≡ PortsFailed = sym e ∙ is in cc both
  at_write_fault NoPort (served, inr (is, less)) e = cut_line _ before between after
      (ap (λ (t : SinkTold). t.faults) served.1.only.report) less

  pub at_no_port : (end : ServeEnd) → Ends end → status ≡ PortsFailed → HasRisen before.ports.faults after.ports.faults
  at_no_port Done (served, (is, same)) e = let both : PortsFailed ≡ WellDone = sym e ∙ is in cc both
  at_no_port TooLong (served, inl (is, more)) e = let both : PortsFailed ≡ BadInput = sym e ∙ is in cc both
  at_no_port TooLong (served, inr (is, less)) e = let both : PortsFailed ≡ OutputFailed = sym e ∙ is in cc both
  at_no_port Memory (served, (is, same)) e = let both : PortsFailed ≡ NoMemory = sym e ∙ is in cc both
  at_no_port NoThread (served, (is, same)) e = let both : PortsFailed ≡ NoMemory = sym e ∙ is in cc both
  at_no_port ReadFault (served, (is, same)) e = let both : PortsFailed ≡ InputFailed = sym e ∙ is in cc both
  at_no_port WriteFault (served, (is, same)) e = let both : PortsFailed ≡ OutputFailed = sym e ∙ is in cc both
  at_no_port NoPort (served, inl (is, more)) e =
      subst (λ n. HasRisen before.ports.faults n) (sym (ap (λ (o : Outside). o.ports.faults) more.others)) served.1.failed
  at_no_port NoPort (served, inr (is, less)) e = let both : PortsFailed ≡ OutputFailed = sym e ∙ is in cc both

  -- good words, an input that is not too long, and no count that rises
  pub ends_well : (end : ServeEnd) → Ends end → (octets : List ℕ) → input.left ≡ Some octets
      → length octets ≤ input_limit
      → (HasRisen input.faults left.faults → ⊥) → (HasRisen before.output.faults after.output.faults → ⊥)
      → (HasRisen before.report.faults after.report.faults → ⊥) → (HasRisen before.ports.faults after.ports.faults → ⊥)
      → (status ≡ WellDone) ⊎ (status ≡ NoMemory)
  ends_well Done (served, (is, same)) octets tells few no_read no_write no_report no_port = inl is
  ends_well TooLong (served, told) octets tells few no_read no_write no_report no_port =
      absurd (not_too_long words input left before between octets tells few served)
  ends_well Memory (served, (is, same)) octets tells few no_read no_write no_report no_port = inr is
  ends_well NoThread (served, (is, same)) octets tells few no_read no_write no_report no_port = inr is
  ends_well ReadFault (served, (is, same)) octets tells few no_read no_write no_report no_port =
      absurd (no_read (read_failed words input left before between served))
  ends_well WriteFault (served, (is, same)) octets tells few no_read no_write no_report no_port =
      elim (at_write_fault WriteFault (served, (is, same)) is)
      [ inl output ↦ absurd (no_write output) | inr report ↦ absurd (no_report report) ]
  ends_well NoPort (served, inl (is, more)) octets tells few no_read no_write no_report no_port =
      absurd (no_port (at_no_port NoPort (served, inl (is, more)) is))
  ends_well NoPort (served, inr (is, less)) octets tells few no_read no_write no_report no_port =
      elim (at_write_fault NoPort (served, inr (is, less)) is)
      [ inl output ↦ absurd (no_write output) | inr report ↦ absurd (no_report report) ]

-- the statuses of a live station
pub own_status : (end : ServeEnd) (status : Status) (between after : Outside)
    → IsToldAs (last_line end) (status_of_end end) status between after
    → (status ≡ status_of_end end) ⊎ (status ≡ OutputFailed)
own_status Done status between after (is, same) = inl is
own_status TooLong status between after (inl (is, more)) = inl is
own_status TooLong status between after (inr (is, less)) = inr is
own_status Memory status between after (is, same) = inl is
own_status NoThread status between after (is, same) = inl is
own_status ReadFault status between after (is, same) = inl is
own_status WriteFault status between after (is, same) = inl is
own_status NoPort status between after (inl (is, more)) = inl is
own_status NoPort status between after (inr (is, less)) = inr is

pub up_to_ten : (end : ServeEnd) → code_of (status_of_end end) ≤ 10
up_to_ten Done = omega arith
up_to_ten TooLong = omega arith
up_to_ten Memory = omega arith
up_to_ten NoThread = omega arith
up_to_ten ReadFault = omega arith
up_to_ten WriteFault = omega arith
up_to_ten NoPort = omega arith

not_bad_words : (end : ServeEnd) → BadWords ≡ status_of_end end → ⊥
not_bad_words Done e = cc e
not_bad_words TooLong e = cc e
not_bad_words Memory e = cc e
not_bad_words NoThread e = cc e
not_bad_words ReadFault e = cc e
not_bad_words WriteFault e = cc e
not_bad_words NoPort e = cc e

not_stray : (end : ServeEnd) → HeardStray ≡ status_of_end end → ⊥
not_stray Done e = cc e
not_stray TooLong e = cc e
not_stray Memory e = cc e
not_stray NoThread e = cc e
not_stray ReadFault e = cc e
not_stray WriteFault e = cc e
not_stray NoPort e = cc e

not_unquiet : (end : ServeEnd) → FoundNoQuiet ≡ status_of_end end → ⊥
not_unquiet Done e = cc e
not_unquiet TooLong e = cc e
not_unquiet Memory e = cc e
not_unquiet NoThread e = cc e
not_unquiet ReadFault e = cc e
not_unquiet WriteFault e = cc e
not_unquiet NoPort e = cc e

not_spent : (end : ServeEnd) → WasSpent ≡ status_of_end end → ⊥
not_spent Done e = cc e
not_spent TooLong e = cc e
not_spent Memory e = cc e
not_spent NoThread e = cc e
not_spent ReadFault e = cc e
not_spent WriteFault e = cc e
not_spent NoPort e = cc e

module _ (end : ServeEnd) (status : Status) (between after : Outside)
    (told : IsToldAs (last_line end) (status_of_end end) status between after) where
  pub words_are_good : status ≡ BadWords → ⊥
  words_are_good e = elim (own_status end status between after told) [
    | inl own ↦ not_bad_words end (sym e ∙ own)
    | inr failed ↦ let both : BadWords ≡ OutputFailed = sym e ∙ failed in cc both
  ]

  pub nothing_strays : status ≡ HeardStray → ⊥
  nothing_strays e = elim (own_status end status between after told) [
    | inl own ↦ not_stray end (sym e ∙ own)
    | inr failed ↦ let both : HeardStray ≡ OutputFailed = sym e ∙ failed in cc both
  ]

  pub nothing_unquiet : status ≡ FoundNoQuiet → ⊥
  nothing_unquiet e = elim (own_status end status between after told) [
    | inl own ↦ not_unquiet end (sym e ∙ own)
    | inr failed ↦ let both : FoundNoQuiet ≡ OutputFailed = sym e ∙ failed in cc both
  ]

  pub nothing_spent : status ≡ WasSpent → ⊥
  nothing_spent e = elim (own_status end status between after told) [
    | inl own ↦ not_spent end (sym e ∙ own)
    | inr failed ↦ let both : WasSpent ≡ OutputFailed = sym e ∙ failed in cc both
  ]

-- what status 3 stands for
module _ (words : ServeWords) (input left : SourceTold) (before between after : Outside) (status : Status)
    (threads threads_after : ℕ) where
  pub in_want : (end : ServeEnd) → Ends words input left before between after status end
      → (end ≡ NoThread → HasRisen threads threads_after) → ((end ≡ NoThread → ⊥) → threads_after ≡ threads)
      → status ≡ NoMemory → IsServedInWant words threads threads_after input left before after
  in_want Done (served, (is, same)) risen kept e = let both : NoMemory ≡ WellDone = sym e ∙ is in cc both
  in_want TooLong (served, inl (is, more)) risen kept e = let both : NoMemory ≡ BadInput = sym e ∙ is in cc both
  in_want TooLong (served, inr (is, less)) risen kept e = let both : NoMemory ≡ OutputFailed = sym e ∙ is in cc both
  in_want Memory (served, (is, same)) risen kept e =
      inl (kept (λ other. absurd (cc other)), subst (IsServed words Memory input left before) (sym same) served)
  in_want NoThread (served, (is, same)) risen kept e =
      inr (risen refl, subst (IsServed words NoThread input left before) (sym same) served)
  in_want ReadFault (served, (is, same)) risen kept e = let both : NoMemory ≡ InputFailed = sym e ∙ is in cc both
  in_want WriteFault (served, (is, same)) risen kept e = let both : NoMemory ≡ OutputFailed = sym e ∙ is in cc both
  in_want NoPort (served, inl (is, more)) risen kept e = let both : NoMemory ≡ PortsFailed = sym e ∙ is in cc both
  in_want NoPort (served, inr (is, less)) risen kept e = let both : NoMemory ≡ OutputFailed = sym e ∙ is in cc both

-- words that are equal
pub want_as : (words other : ServeWords) (threads threads_after : ℕ) (input left : SourceTold) (before after : Outside)
    → words ≡ other → IsServedInWant words threads threads_after input left before after
    → IsServedInWant other threads threads_after input left before after
want_as words other threads threads_after input left before after same h =
    subst (λ w. IsServedInWant w threads threads_after input left before after) same h

-- from an input and an outside on that are equal to these
pub want_from : (options : ServeOptions) (outer threads threads_after : ℕ) (was input left : SourceTold)
    (stood before after : Outside) → was ≡ input → stood ≡ before
    → IsServedInWant (words_of options outer) threads threads_after was left stood after
    → IsInWant options outer threads threads_after input left before after
want_from options outer threads threads_after was input left stood before after unread untouched h =
    inr (subst (λ i. IsServedInWant (words_of options outer) threads threads_after i left before after) unread
    (subst (λ o. IsServedInWant (words_of options outer) threads threads_after was left o after) untouched h))
