use Rattle.tnc_main.proofs.Common.{◌≡◌, ◌≤◌, [], ◌++◌, Some, None, Err, IfErr, map, string_bytes, append-nil, inl, inr}
use Rattle.tnc_main.proofs.Common.{refl, sym, subst, ap, ◌∙◌, arith, true≢false, is_some, Bench, Loop, Asks}
use Rattle.tnc_main.proofs.Common.{one_command, TooLong, IsReportOf, Done, WriteFault, Input, IsFaultless, Makes, Reads}
use Rattle.tnc_main.proofs.Common.{ReadsNothing, fault_of, command_of, WritesAtEnd, IsCaused, Leaves, Tells, Writes}
use Rattle.tnc_main.proofs.Common.{code_of, CanRun, IsStopOfRun, status_of}
use Rattle.std.proofs.Common.{rules}
use Rattle.tnc_forms.proofs.Ends.{at_ok}
use Rattle.tnc_main.specs.declared.status.Status.TheVariants.{Memory as NoMemory}
use Rattle.tnc_main.proofs.Statuses.{at_bad_input, at_done, at_not_quiet, at_read_fault, at_spent, at_stray, one_status}
use Rattle.tnc_main.proofs.Statuses.{status_done, up_to_eight}
use Rattle.tnc_main.proofs.CommandLemmas.{last as last_of}
use Rattle.tnc_main.proofs.Jobs.{same_command, reads, for_job}
use Rattle.tnc_main.proofs.TextLemmas.{done_text, long_fault, near_text, repaired_text, units_text}
use Rattle.tnc_main.proofs.Writing.{told_writes}
use Rattle.tnc_main.proofs.MakerWriting.{unread}
use Rattle.tnc_main.proofs.Telling.{caused, ends_well, leaves, tells}
use Rattle.tnc_main.proofs.LiveCommandLemmas.{not_live}
use Rattle.tnc_main.proofs.batch.run_batch.Goals as goal

-- ---- a command

pub returns-in-Ok-clause-read : goal.returns-in-Ok-clause-read
returns-in-Ok-clause-read g c = λ job.
    let mine = reads (map string_bytes c.args.words.now) (g.I.Source.told c.args.input.now).left
    c.code.result c.in-Ok.command c.explained.result c.in-Ok.ensures.asks c.code.ensures job in
    for_job (map string_bytes c.args.words.now) (g.I.Source.told c.args.input.now).left
    c.code.result c.in-Ok.command c.explained.result c.in-Ok.ensures.asks c.code.ensures job
    (λ command status. Leaves command job.octets status (g.I.Source.told c.perform-end.new.input).left)
    (leaves c.in-Ok.command job.octets _ c.perform-end.result c.explained.result c.explained.ensures.ends
    (c.perform-end.ensures.end job.octets mine) (λ fault is. c.perform-end.ensures.bad job.octets fault mine is)
    (c.perform-end.ensures.stops job.octets mine))

pub returns-in-Ok-clause-written : goal.returns-in-Ok-clause-written
returns-in-Ok-clause-written g c = λ job before was.
    let mine = reads (map string_bytes c.args.words.now) (g.I.Source.told c.args.input.now).left
    c.code.result c.in-Ok.command c.explained.result c.in-Ok.ensures.asks c.code.ensures job in
    let made = c.perform-end.ensures.written job.octets before mine was in (
      made.0,
      for_job (map string_bytes c.args.words.now) (g.I.Source.told c.args.input.now).left
          c.code.result c.in-Ok.command c.explained.result c.in-Ok.ensures.asks c.code.ensures job
          (λ command status. Writes command job.octets (g.I.Source.told c.perform-end.new.input).left status made.0)
          (told_writes c.in-Ok.command job.octets _ made.0 c.perform-end.result c.explained.result
          c.explained.ensures.ends
          (λ fault is. c.perform-end.ensures.bad job.octets fault mine is) c.perform-end.ensures.sent made.1),
      made.2,
    )

pub returns-in-Ok-clause-unwritten : goal.returns-in-Ok-clause-unwritten
returns-in-Ok-clause-unwritten g c = λ command asks at_end four.
    let same = one_command (map string_bytes c.args.words.now) command c.in-Ok.command asks c.in-Ok.ensures.asks in
    c.perform-end.ensures.unwritten (last_of command c.in-Ok.command same at_end)
    (inr (at_read_fault c.perform-end.result c.explained.result c.explained.ensures.ends (sym c.code.ensures ∙ four)))

pub returns-in-Ok-clause-too_long : goal.returns-in-Ok-clause-too_long
returns-in-Ok-clause-too_long g c = λ job at_end over two.
    let mine = reads (map string_bytes c.args.words.now) (g.I.Source.told c.args.input.now).left
    c.code.result c.in-Ok.command c.explained.result c.in-Ok.ensures.asks c.code.ensures job in
    let last = last_of job.command c.in-Ok.command (same_command (map string_bytes c.args.words.now)
    (g.I.Source.told c.args.input.now).left c.code.result c.in-Ok.command c.explained.result c.in-Ok.ensures.asks
    c.code.ensures job) at_end in
    let bad = at_bad_input c.perform-end.result c.explained.result c.explained.ensures.ends (sym c.code.ensures ∙ two)
    in
    let both : Some bad.0 ≡ Some TooLong =
    sym (c.perform-end.ensures.bad job.octets bad.0 mine bad.1)
    ∙ long_fault c.in-Ok.command _ job.octets last mine over in
    let same : bad.0 ≡ TooLong = cc both in
    c.perform-end.ensures.unwritten last (inl (bad.1 ∙ ap (λ fault. Err (Input fault)) same))

pub returns-in-Ok-clause-heard : goal.returns-in-Ok-clause-heard
returns-in-Ok-clause-heard g c = λ job decode received before is clean was zero.
    let mine = reads (map string_bytes c.args.words.now) (g.I.Source.told c.args.input.now).left
    c.code.result c.in-Ok.command c.explained.result c.in-Ok.ensures.asks c.code.ensures job in
    let made = c.perform-end.ensures.written job.octets before mine was in
    let text = done_text c.in-Ok.command decode job.octets made.0 (g.I.Source.told c.perform-end.new.input).left
    (status_of c.perform-end.result)
    (sym (status_done c.perform-end.result (at_done c.perform-end.result c.explained.result c.explained.ensures.ends
    (sym c.code.ensures ∙ zero))))
    (sym (same_command (map string_bytes c.args.words.now) (g.I.Source.told c.args.input.now).left
    c.code.result c.in-Ok.command c.explained.result c.in-Ok.ensures.asks c.code.ensures job) ∙ is) made.1 in
    made.2 ∙ ap (λ t. Some (before ++ t)) (near_text decode received job.octets made.0 clean text)

pub returns-in-Ok-clause-heard_in_blocks : goal.returns-in-Ok-clause-heard_in_blocks
returns-in-Ok-clause-heard_in_blocks g c = λ job decode units before is asked carries was zero.
    let mine = reads (map string_bytes c.args.words.now) (g.I.Source.told c.args.input.now).left
    c.code.result c.in-Ok.command c.explained.result c.in-Ok.ensures.asks c.code.ensures job in
    let made = c.perform-end.ensures.written job.octets before mine was in
    let text = done_text c.in-Ok.command decode job.octets made.0 (g.I.Source.told c.perform-end.new.input).left
    (status_of c.perform-end.result)
    (sym (status_done c.perform-end.result (at_done c.perform-end.result c.explained.result c.explained.ensures.ends
    (sym c.code.ensures ∙ zero))))
    (sym (same_command (map string_bytes c.args.words.now) (g.I.Source.told c.args.input.now).left
    c.code.result c.in-Ok.command c.explained.result c.in-Ok.ensures.asks c.code.ensures job) ∙ is) made.1 in
    made.2 ∙ ap (λ t. Some (before ++ t)) (units_text decode units job.octets made.0 asked carries text)

pub returns-in-Ok-clause-repaired : goal.returns-in-Ok-clause-repaired
returns-in-Ok-clause-repaired g c = λ job decode received before is asked near was zero.
    let mine = reads (map string_bytes c.args.words.now) (g.I.Source.told c.args.input.now).left
    c.code.result c.in-Ok.command c.explained.result c.in-Ok.ensures.asks c.code.ensures job in
    let made = c.perform-end.ensures.written job.octets before mine was in
    let text = done_text c.in-Ok.command decode job.octets made.0 (g.I.Source.told c.perform-end.new.input).left
    (status_of c.perform-end.result)
    (sym (status_done c.perform-end.result (at_done c.perform-end.result c.explained.result c.explained.ensures.ends
    (sym c.code.ensures ∙ zero))))
    (sym (same_command (map string_bytes c.args.words.now) (g.I.Source.told c.args.input.now).left
    c.code.result c.in-Ok.command c.explained.result c.in-Ok.ensures.asks c.code.ensures job) ∙ is) made.1 in
    made.2 ∙ ap (λ t. Some (before ++ t)) (repaired_text decode received job.octets made.0 asked near text)

pub returns-in-Ok-clause-looped : goal.returns-in-Ok-clause-looped
returns-in-Ok-clause-looped g c = λ loop is.
    let same : c.in-Ok.command ≡ Loop loop = one_command (map string_bytes c.args.words.now) c.in-Ok.command (Loop loop)
    c.in-Ok.ensures.asks is in
    λ zero. at_ok c.perform-end.result (c.perform-end.ensures.heard_as_made loop same)
    (at_done c.perform-end.result c.explained.result c.explained.ensures.ends (sym c.code.ensures ∙ zero))

pub returns-in-Ok-clause-benched : goal.returns-in-Ok-clause-benched
returns-in-Ok-clause-benched g c = λ bench before is was zero.
    let same : c.in-Ok.command ≡ Bench bench = one_command (map string_bytes c.args.words.now) c.in-Ok.command
    (Bench bench) c.in-Ok.ensures.asks is in
    let made = c.perform-end.ensures.written [] before
    (subst (λ command. Reads command (g.I.Source.told c.args.input.now).left []) (sym same) refl) was in
    let done : Done ≡ status_of c.perform-end.result =
    sym (status_done c.perform-end.result (at_done c.perform-end.result c.explained.result c.explained.ensures.ends
    (sym c.code.ensures ∙ zero))) in
    let told : Makes c.in-Ok.command [] made.0 =
    subst (λ status. Writes c.in-Ok.command [] (g.I.Source.told c.perform-end.new.input).left status made.0) (sym done)
    made.1 in
    let report : IsReportOf bench made.0 = subst (λ command. Makes command [] made.0) same told in
    (report.report, report.over, report.order, made.2 ∙ ap (λ t. Some (before ++ t)) report.is)

pub returns-in-Ok-clause-unread : goal.returns-in-Ok-clause-unread
returns-in-Ok-clause-unread g c = λ command asked none.
    c.perform-end.ensures.unread (subst ReadsNothing
    (one_command (map string_bytes c.args.words.now) command c.in-Ok.command asked c.in-Ok.ensures.asks) none)

pub returns-in-Ok-clause-cause : goal.returns-in-Ok-clause-cause
returns-in-Ok-clause-cause g c = λ job.
    let mine = reads (map string_bytes c.args.words.now) (g.I.Source.told c.args.input.now).left
    c.code.result c.in-Ok.command c.explained.result c.in-Ok.ensures.asks c.code.ensures job in
    for_job (map string_bytes c.args.words.now) (g.I.Source.told c.args.input.now).left
    c.code.result c.in-Ok.command c.explained.result c.in-Ok.ensures.asks c.code.ensures job
    (λ command status. IsCaused command job.octets status)
    (caused c.in-Ok.command job.octets c.perform-end.result c.explained.result c.explained.ensures.ends
    (c.perform-end.ensures.good job.octets mine) (λ fault is. c.perform-end.ensures.bad job.octets fault mine is)
    c.perform-end.ensures.sent)

pub returns-in-Ok-clause-stray : goal.returns-in-Ok-clause-stray
returns-in-Ok-clause-stray g c = λ six.
    let found = at_stray c.perform-end.result c.explained.result c.explained.ensures.ends (sym c.code.ensures ∙ six)
    in (
      c.in-Ok.command,
      c.in-Ok.ensures.asks,
      (found.0, subst (λ end. IfErr end (IsStopOfRun c.in-Ok.command)) found.1 c.perform-end.ensures.sent),
    )

pub returns-in-Ok-clause-not_quiet : goal.returns-in-Ok-clause-not_quiet
returns-in-Ok-clause-not_quiet g c = λ seven.
    let found = at_not_quiet c.perform-end.result c.explained.result c.explained.ensures.ends (sym c.code.ensures
    ∙ seven) in (
      c.in-Ok.command,
      c.in-Ok.ensures.asks,
      (found.0, subst (λ end. IfErr end (IsStopOfRun c.in-Ok.command)) found.1 c.perform-end.ensures.sent),
    )

pub returns-in-Ok-clause-spent : goal.returns-in-Ok-clause-spent
returns-in-Ok-clause-spent g c = λ eight.
    let found = at_spent c.perform-end.result c.explained.result c.explained.ensures.ends (sym c.code.ensures ∙ eight)
    in (
      c.in-Ok.command,
      c.in-Ok.ensures.asks,
      (found.0, subst (λ end. IfErr end (IsStopOfRun c.in-Ok.command)) found.1 c.perform-end.ensures.sent),
    )

pub returns-in-Ok-clause-told : goal.returns-in-Ok-clause-told
returns-in-Ok-clause-told g c = λ job before was.
    let mine = reads (map string_bytes c.args.words.now) (g.I.Source.told c.args.input.now).left
    c.code.result c.in-Ok.command c.explained.result c.in-Ok.ensures.asks c.code.ensures job in
    let line = tells c.in-Ok.command job.octets before (g.E.Sink.told c.explained.new.report).written
    c.perform-end.result c.explained.result
    c.explained.ensures.ends (λ fault is. c.perform-end.ensures.bad job.octets fault mine is) c.perform-end.ensures.sent
    (λ quiet. ap (λ e. (g.E.Sink.told e).written) (c.explained.ensures.silent quiet) ∙ was)
    (c.explained.ensures.told before was) (c.explained.ensures.cut before was) in (
      line.0,
      for_job (map string_bytes c.args.words.now) (g.I.Source.told c.args.input.now).left
          c.code.result c.in-Ok.command c.explained.result c.in-Ok.ensures.asks c.code.ensures job
          (λ command status. Tells command job.octets status line.0) line.1,
      line.2,
    )

pub returns-in-Ok-clause-complete : goal.returns-in-Ok-clause-complete
returns-in-Ok-clause-complete g c = λ job faultless no_input no_output no_report.
    let mine = reads (map string_bytes c.args.words.now) (g.I.Source.told c.args.input.now).left
    c.code.result c.in-Ok.command c.explained.result c.in-Ok.ensures.asks c.code.ensures job in
    let same = same_command (map string_bytes c.args.words.now) (g.I.Source.told c.args.input.now).left
    c.code.result c.in-Ok.command c.explained.result c.in-Ok.ensures.asks c.code.ensures job in
    let ended = ends_well c.in-Ok.command job.octets c.perform-end.result c.explained.result c.explained.ensures.ends
    (λ fault is.
    let none : Some fault ≡ None =
    sym (c.perform-end.ensures.bad job.octets fault mine is) ∙ ap (λ command. fault_of command job.octets) (sym same)
    ∙ faultless.input in
    true≢false (ap is_some none))
    c.perform-end.ensures.sent (subst (λ command. IsFaultless command job.octets) same faultless)
    (λ is. no_input (c.perform-end.ensures.read is))
    (λ is. no_output (c.perform-end.ensures.write is)) in
    elim ended [ inl zero ↦ inl (c.code.ensures ∙ zero) | inr three ↦ inr (c.code.ensures ∙ three) ]

-- ---- no command

pub returns-in-Err-Refused-clause-bad_words_told : goal.returns-in-Err-Refused-clause-bad_words_told
returns-in-Err-Refused-clause-bad_words_told g c = λ before nothing was. (
  λ one. elim (c.told.ensures.line before was) [
    | inl whole ↦ whole
    | inr fault ↦ let code : c.code-in-Err-Refused.result ≡ 5 = c.code-in-Err-Refused.ensures
        ∙ ap code_of fault in absurd (omega arith)
  ],
  λ five. c.told.ensures.cut before was (one_status c.told.result WriteFault (sym c.code-in-Err-Refused.ensures
      ∙ five)),
)

pub returns-in-Err-Refused-clause-cause : goal.returns-in-Err-Refused-clause-cause
returns-in-Err-Refused-clause-cause g c = λ job.
    absurd (c.read_words.ensures.refused (c.in-Err-Refused.is ∙ ap Err c.in-Err-Refused.field-0-is)
    job.command job.asked)

-- ---- no memory for the words

pub returns-in-Err-Memory-clause-written : goal.returns-in-Err-Memory-clause-written
returns-in-Err-Memory-clause-written g c = λ job before was.
    let memory = one_status job.status NoMemory (sym job.ends ∙ c.code-in-Err-Memory.ensures) in
    let left = (g.I.Source.told c.args.input.now).left in (
      [],
      subst (λ status. Writes job.command job.octets left status []) (sym memory)
          (inl refl, unread job.command job.octets left job.reads),
      was ∙ ap Some (sym (append-nil before)),
    )

pub returns-in-Err-Memory-clause-cause : goal.returns-in-Err-Memory-clause-cause
returns-in-Err-Memory-clause-cause g c = λ job.
    let memory = one_status job.status NoMemory (sym job.ends ∙ c.code-in-Err-Memory.ensures) in
    subst (λ status. IsCaused job.command job.octets status) (sym memory) tt

-- ---- a live command is handed back

pub returns-in-Ok-Serve-clause-live : goal.returns-in-Ok-Serve-clause-live
returns-in-Ok-Serve-clause-live g c =
    subst (Asks (map string_bytes c.args.words.now)) c.in-Ok-Serve.field-0-is c.in-Ok-Serve.ensures.asks

pub returns-in-Ok-Record-clause-live : goal.returns-in-Ok-Record-clause-live
returns-in-Ok-Record-clause-live g c =
    subst (Asks (map string_bytes c.args.words.now)) c.in-Ok-Record.field-0-is c.in-Ok-Record.ensures.asks

pub returns-in-Ok-Call-clause-live : goal.returns-in-Ok-Call-clause-live
returns-in-Ok-Call-clause-live g c =
    subst (Asks (map string_bytes c.args.words.now)) c.in-Ok-Call.field-0-is c.in-Ok-Call.ensures.asks

pub returns-in-Ok-clause-not_begun : goal.returns-in-Ok-clause-not_begun
returns-in-Ok-clause-not_begun g c = λ live asked.
    absurd (not_live _ _ live c.perform-end.ensures.not_live c.in-Ok.ensures.asks asked)

pub returns-in-Ok-clause-no_others : goal.returns-in-Ok-clause-no_others
returns-in-Ok-clause-no_others g c =
    subst (λ code. code ≤ 8) (sym c.code.ensures)
    (up_to_eight c.perform-end.result c.explained.result c.explained.ensures.ends)

pub returns-in-Err-Refused-clause-not_begun : goal.returns-in-Err-Refused-clause-not_begun
returns-in-Err-Refused-clause-not_begun g c = λ live asked.
    absurd (c.read_words.ensures.refused (c.in-Err-Refused.is ∙ ap Err c.in-Err-Refused.field-0-is) (command_of live)
    asked)
