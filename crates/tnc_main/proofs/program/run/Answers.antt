use Rattle.tnc_main.proofs.Common.{◌≡◌, inl, inr, refl, sym, subst, ap, ◌∙◌, map, string_bytes, arith, Asks, command_of}
use Rattle.tnc_main.proofs.Common.{HasRisen, outside_by}
use Rattle.tnc_main.specs.declared.live_command.LiveCommand.TheVariants.{Serve as LiveServe, Record as LiveRecord}
use Rattle.tnc_main.specs.declared.live_command.LiveCommand.TheVariants.{Call as LiveCall}
use Rattle.tnc_main.specs.declared.status.Status.TheVariants.{Memory as NoMemory}
use Rattle.tnc_main.proofs.LiveCommandLemmas.{can_run_live, no_bench, no_job, no_loop, not_at_end, not_unread, one_live}
use Rattle.tnc_main.proofs.LiveCommandLemmas.{only_record}
use Rattle.tnc_main.specs.Calling.{words_of}
use Rattle.tnc_main.proofs.CallingLemmas.{called_from}
use Rattle.tnc_main.proofs.KeyedRuns.{keyed_from, unkeyed_from}
use Rattle.tnc_main.proofs.LiveRuns.{rebased}
use Rattle.tnc_main.proofs.RecordingLemmas.{recorded_from}
use Rattle.tnc_main.proofs.ServingLemmas.{want_from}
use Rattle.tnc_main.proofs.program.run.Goals as goal

-- ---- a command that is not live, or no memory for the words of one that is

pub returns-in-Ok-clause-served : goal.returns-in-Ok-clause-served
returns-in-Ok-clause-served g c = λ options asked.
    let kept = c.in-Ok.ensures.not_begun (LiveServe options) asked in (
      NoMemory,
      kept.0,
      inl (record {
        memory = refl;
        unread = ap g.I.Source.told kept.1;
        untouched =
            ap (λ output. outside_by g.N.Ports.told g.K.KeyPort.told g.O.Sink.told g.E.Sink.told
            c.args.live.now.ports c.args.live.now.key output c.run_batch.new.report) kept.2
            ∙ ap (outside_by g.N.Ports.told g.K.KeyPort.told g.O.Sink.told g.E.Sink.told
            c.args.live.now.ports c.args.live.now.key c.args.output.now) kept.3;
      }),
    )

pub returns-in-Ok-clause-complete_served : goal.returns-in-Ok-clause-complete_served
returns-in-Ok-clause-complete_served g c = λ options asked octets tells few no_read no_write no_report no_port.
    inr (c.in-Ok.ensures.not_begun (LiveServe options) asked).0

-- ---- a live command

pub run_live-requires-clause-can_run : goal.run_live-requires-clause-can_run
run_live-requires-clause-can_run g c κs within =
    can_run_live (map string_bytes c.args.words.now) c.in-Err.command c.in-Err.ensures.live

pub returns-in-Err-clause-heard : goal.returns-in-Err-clause-heard
returns-in-Err-clause-heard g c = λ job.
    absurd (no_job (map string_bytes c.args.words.now) c.in-Err.command c.in-Err.ensures.live _ _ job)

pub returns-in-Err-clause-heard_in_blocks : goal.returns-in-Err-clause-heard_in_blocks
returns-in-Err-clause-heard_in_blocks g c = λ job.
    absurd (no_job (map string_bytes c.args.words.now) c.in-Err.command c.in-Err.ensures.live _ _ job)

pub returns-in-Err-clause-repaired : goal.returns-in-Err-clause-repaired
returns-in-Err-clause-repaired g c = λ job.
    absurd (no_job (map string_bytes c.args.words.now) c.in-Err.command c.in-Err.ensures.live _ _ job)

pub returns-in-Err-clause-read : goal.returns-in-Err-clause-read
returns-in-Err-clause-read g c = λ job.
    absurd (no_job (map string_bytes c.args.words.now) c.in-Err.command c.in-Err.ensures.live _ _ job)

pub returns-in-Err-clause-written : goal.returns-in-Err-clause-written
returns-in-Err-clause-written g c = λ job.
    absurd (no_job (map string_bytes c.args.words.now) c.in-Err.command c.in-Err.ensures.live _ _ job)

pub returns-in-Err-clause-too_long : goal.returns-in-Err-clause-too_long
returns-in-Err-clause-too_long g c = λ job.
    absurd (no_job (map string_bytes c.args.words.now) c.in-Err.command c.in-Err.ensures.live _ _ job)

pub returns-in-Err-clause-cause : goal.returns-in-Err-clause-cause
returns-in-Err-clause-cause g c = λ job.
    absurd (no_job (map string_bytes c.args.words.now) c.in-Err.command c.in-Err.ensures.live _ _ job)

pub returns-in-Err-clause-told : goal.returns-in-Err-clause-told
returns-in-Err-clause-told g c = λ job.
    absurd (no_job (map string_bytes c.args.words.now) c.in-Err.command c.in-Err.ensures.live _ _ job)

pub returns-in-Err-clause-complete : goal.returns-in-Err-clause-complete
returns-in-Err-clause-complete g c = λ job.
    absurd (no_job (map string_bytes c.args.words.now) c.in-Err.command c.in-Err.ensures.live _ _ job)

pub returns-in-Err-clause-benched : goal.returns-in-Err-clause-benched
returns-in-Err-clause-benched g c = λ bench before asked.
    absurd (no_bench (map string_bytes c.args.words.now) c.in-Err.command c.in-Err.ensures.live bench asked)

pub returns-in-Err-clause-looped : goal.returns-in-Err-clause-looped
returns-in-Err-clause-looped g c = λ loop asked.
    absurd (no_loop (map string_bytes c.args.words.now) c.in-Err.command c.in-Err.ensures.live loop asked)

pub returns-in-Err-clause-unwritten : goal.returns-in-Err-clause-unwritten
returns-in-Err-clause-unwritten g c = λ command asked at_end.
    absurd (not_at_end (map string_bytes c.args.words.now) c.in-Err.command c.in-Err.ensures.live command asked
    at_end)

pub returns-in-Err-clause-unread : goal.returns-in-Err-clause-unread
returns-in-Err-clause-unread g c = λ command asked none.
    absurd (not_unread (map string_bytes c.args.words.now) c.in-Err.command c.in-Err.ensures.live command asked
    none)

pub returns-in-Err-clause-served : goal.returns-in-Err-clause-served
returns-in-Err-clause-served g c = λ options asked.
    let same = one_live (map string_bytes c.args.words.now) c.in-Err.command c.in-Err.ensures.live
    (LiveServe options) asked in
    let kept = c.in-Err.ensures.untouched in
    rebased options c.args.live.now.seed c.run_live.result _ _ _ _ _ _ (ap g.I.Source.told kept.0)
    (ap (λ output. outside_by g.N.Ports.told g.K.KeyPort.told g.O.Sink.told g.E.Sink.told
    c.args.live.now.ports c.args.live.now.key output c.run_batch.new.report) kept.1
    ∙ ap (outside_by g.N.Ports.told g.K.KeyPort.told g.O.Sink.told g.E.Sink.told
    c.args.live.now.ports c.args.live.now.key c.args.output.now) kept.2)
    (c.run_live.ensures.served options same)

pub returns-in-Ok-clause-no_thread : goal.returns-in-Ok-clause-no_thread
returns-in-Ok-clause-no_thread g c = λ options asked three.
    let kept = c.in-Ok.ensures.not_begun (LiveServe options) asked in
    inl (
      refl,
      record {
        memory = refl;
        unread = ap g.I.Source.told kept.1;
        untouched =
            ap (λ output. outside_by g.N.Ports.told g.K.KeyPort.told g.O.Sink.told g.E.Sink.told
            c.args.live.now.ports c.args.live.now.key output c.run_batch.new.report) kept.2
            ∙ ap (outside_by g.N.Ports.told g.K.KeyPort.told g.O.Sink.told g.E.Sink.told
            c.args.live.now.ports c.args.live.now.key c.args.output.now) kept.3;
      },
    )

pub returns-in-Err-clause-no_thread : goal.returns-in-Err-clause-no_thread
returns-in-Err-clause-no_thread g c = λ options asked three.
    let same = one_live (map string_bytes c.args.words.now) c.in-Err.command c.in-Err.ensures.live
    (LiveServe options) asked in
    let kept = c.in-Err.ensures.untouched in
    want_from options _ _ _ _ _ _ _ _ _ (ap g.I.Source.told kept.0)
    (ap (λ output. outside_by g.N.Ports.told g.K.KeyPort.told g.O.Sink.told g.E.Sink.told
    c.args.live.now.ports c.args.live.now.key output c.run_batch.new.report) kept.1
    ∙ ap (outside_by g.N.Ports.told g.K.KeyPort.told g.O.Sink.told g.E.Sink.told
    c.args.live.now.ports c.args.live.now.key c.args.output.now) kept.2)
    (c.run_live.ensures.want options same three)

pub returns-in-Ok-clause-called : goal.returns-in-Ok-clause-called
returns-in-Ok-clause-called g c = λ options text before asked reads was.
    let kept = c.in-Ok.ensures.not_begun (LiveCall options) asked in (
      NoMemory,
      kept.0,
      inl (record {
        memory = refl;
        unwritten = ap (λ o. (g.O.Sink.told o).written) kept.2 ∙ was;
        untouched = refl;
        untold = ap g.E.Sink.told kept.3;
      }),
    )

pub returns-in-Err-clause-called : goal.returns-in-Err-clause-called
returns-in-Err-clause-called g c = λ options text before asked reads was.
    let same = one_live (map string_bytes c.args.words.now) c.in-Err.command c.in-Err.ensures.live
    (LiveCall options) asked in
    let kept = c.in-Err.ensures.untouched in
    let made = called_from (words_of options) c.run_live.result text before _ _ _ _ _ _
    (ap g.E.Sink.told kept.2)
    (c.run_live.ensures.called options text before same (ap (λ i. (g.I.Source.told i).left) kept.0 ∙ reads)
    (ap (λ o. (g.O.Sink.told o).written) kept.1 ∙ was)) in
    (made.0, made.1, inr made.2)

pub returns-in-Ok-clause-of_call : goal.returns-in-Ok-clause-of_call
returns-in-Ok-clause-of_call g c = λ own. absurd (omega (arith, own, c.in-Ok.ensures.no_others))

pub returns-in-Err-clause-of_call : goal.returns-in-Err-clause-of_call
returns-in-Err-clause-of_call g c = λ own.
    let of = c.run_live.ensures.of_call own in
    (of.0, subst (λ live. Asks (map string_bytes c.args.words.now) (command_of live)) of.1 c.in-Err.ensures.live)

pub returns-in-Ok-clause-recorded : goal.returns-in-Ok-clause-recorded
returns-in-Ok-clause-recorded g c = λ options asked.
    let kept = c.in-Ok.ensures.not_begun (LiveRecord options) asked in (
      NoMemory,
      kept.0,
      inl (
        refl,
        record {
          unread = ap g.I.Source.told kept.1;
          no_output = ap g.O.Sink.told kept.2;
          no_report = ap g.E.Sink.told kept.3;
        },
      ),
    )

pub returns-in-Err-clause-recorded : goal.returns-in-Err-clause-recorded
returns-in-Err-clause-recorded g c = λ options asked.
    let same = one_live (map string_bytes c.args.words.now) c.in-Err.command c.in-Err.ensures.live
    (LiveRecord options) asked in
    let kept = c.in-Err.ensures.untouched in
    recorded_from options c.run_live.result _ _ _ _ _ _ _ _ _ (ap g.I.Source.told kept.0)
    (ap g.O.Sink.told kept.1) (ap g.E.Sink.told kept.2)
    (c.run_live.ensures.recorded options same)

pub returns-in-Ok-clause-complete_recorded : goal.returns-in-Ok-clause-complete_recorded
returns-in-Ok-clause-complete_recorded g c = λ options asked octets tells few no_read no_write no_report.
    inr (c.in-Ok.ensures.not_begun (LiveRecord options) asked).0

pub returns-in-Ok-clause-cause : goal.returns-in-Ok-clause-cause
returns-in-Ok-clause-cause g c = c.in-Ok.ensures.cause

pub returns-in-Ok-clause-bad_words_told : goal.returns-in-Ok-clause-bad_words_told
returns-in-Ok-clause-bad_words_told g c = λ before nothing was. c.in-Ok.ensures.bad_words_told before nothing was

pub returns-in-Err-clause-ports_alone : goal.returns-in-Err-clause-ports_alone
returns-in-Err-clause-ports_alone g c = λ alone.
    let kept = only_record (map string_bytes c.args.words.now) c.in-Err.command alone c.in-Err.ensures.live in
    c.run_live.ensures.no_ports kept.0 kept.1

pub returns-in-Err-clause-complete_served : goal.returns-in-Err-clause-complete_served
returns-in-Err-clause-complete_served g c = λ options asked octets tells few no_read no_write no_report no_port.
    let same = one_live (map string_bytes c.args.words.now) c.in-Err.command c.in-Err.ensures.live
    (LiveServe options) asked in
    let kept = c.in-Err.ensures.untouched in
    c.run_live.ensures.complete_served options same octets (ap (λ i. (g.I.Source.told i).left) kept.0 ∙ tells) few
    (λ rose. no_read (subst (λ input. HasRisen (g.I.Source.told input).faults
    (g.I.Source.told c.run_live.new.input).faults)
    kept.0 rose))
    (λ rose. no_write (subst (λ output. HasRisen (g.O.Sink.told output).faults
    (g.O.Sink.told c.run_live.new.output).faults)
    kept.1 rose))
    (λ rose. no_report (subst (λ report. HasRisen (g.E.Sink.told report).faults
    (g.E.Sink.told c.run_live.new.report).faults)
    kept.2 rose)) no_port

pub returns-in-Err-clause-complete_recorded : goal.returns-in-Err-clause-complete_recorded
returns-in-Err-clause-complete_recorded g c = λ options asked octets tells few no_read no_write no_report.
    let same = one_live (map string_bytes c.args.words.now) c.in-Err.command c.in-Err.ensures.live
    (LiveRecord options) asked in
    let kept = c.in-Err.ensures.untouched in
    c.run_live.ensures.complete_recorded options same octets (ap (λ i. (g.I.Source.told i).left) kept.0 ∙ tells) few
    (λ rose. no_read (subst (λ input. HasRisen (g.I.Source.told input).faults
    (g.I.Source.told c.run_live.new.input).faults)
    kept.0 rose))
    (λ rose. no_write (subst (λ output. HasRisen (g.O.Sink.told output).faults
    (g.O.Sink.told c.run_live.new.output).faults)
    kept.1 rose))
    (λ rose. no_report (subst (λ report. HasRisen (g.E.Sink.told report).faults
    (g.E.Sink.told c.run_live.new.report).faults)
    kept.2 rose))

-- ---- the key

pub returns-in-Ok-clause-keyed : goal.returns-in-Ok-clause-keyed
returns-in-Ok-clause-keyed g c = λ options ptt was out asked is lines closed output.
    let ran = returns-in-Ok-clause-served g c options asked in
    (ran.0, ran.1, keyed_from options ptt c.args.live.now.seed was out ran.0 _ _ _ _ is lines closed output ran.2)

pub returns-in-Err-clause-keyed : goal.returns-in-Err-clause-keyed
returns-in-Err-clause-keyed g c = λ options ptt was out asked is lines closed output.
    let ran = returns-in-Err-clause-served g c options asked in
    (ran.0, ran.1, keyed_from options ptt c.args.live.now.seed was out ran.0 _ _ _ _ is lines closed output ran.2)

pub returns-in-Err-clause-unkeyed : goal.returns-in-Err-clause-unkeyed
returns-in-Err-clause-unkeyed g c = λ options asked none.
    let ran = returns-in-Err-clause-served g c options asked in
    unkeyed_from options c.args.live.now.seed ran.0 _ _ _ _ none ran.2
