use Rattle.tnc_record.proofs.Common.{ap, ◌∙◌, text_of_losses}
use Rattle.tnc_record.proofs.LoopLemmas.{all_reported, same_wave, report_failed, all_written, output_failed}
use Rattle.tnc_record.proofs.looping.finish.Goals as goal

pub returns-then-failed : goal.returns-then-failed
returns-then-failed g c = λ words len recording start stands keep answered run so_far. (
  run,
  report_failed words.keep recording c.put.new.failed _ start _ c.if-failed.true
      (all_reported len c.args.recorder.now recording c.args.failed c.put.new.failed c.deref.result.now start _ _ stands
      answered so_far (c.deref.ensures.value ∙ c.in-Ok.ensures ∙ ap text_of_losses c.losses.ensures) c.put.ensures),
)

pub returns-in-Ok-write : goal.returns-in-Ok-write
returns-in-Ok-write g c = λ words len recording start stands keep answered run so_far. (
  run,
  all_written words.keep recording c.put.new.failed _ _ _ start _ c.if-failed.false
      (all_reported len c.args.recorder.now recording c.args.failed c.put.new.failed c.deref.result.now start _ _ stands
      answered so_far (c.deref.ensures.value ∙ c.in-Ok.ensures ∙ ap text_of_losses c.losses.ensures) c.put.ensures)
      (same_wave len words.keep c.args.recorder.now recording stands keep answered)
      c.in-Ok-write.ensures.appends c.in-Ok-write.ensures.faultless,
)

pub returns : goal.returns
returns g c = λ words len recording start stands keep answered run so_far. (
  run,
  output_failed words.keep recording c.put.new.failed _ _ _ start _ c.if-failed.false
      (all_reported len c.args.recorder.now recording c.args.failed c.put.new.failed c.deref.result.now start _ _ stands
      answered so_far (c.deref.ensures.value ∙ c.in-Ok.ensures ∙ ap text_of_losses c.losses.ensures) c.put.ensures)
      (same_wave len words.keep c.args.recorder.now recording stands keep answered)
      c.in-Err.ensures.partly c.in-Err.ensures.failed,
)
