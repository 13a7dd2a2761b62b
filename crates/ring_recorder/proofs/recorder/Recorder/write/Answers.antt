use Rattle.std.proofs.Common.{◌≡◌, ◌++◌, ℕ, List, length, ap, ◌∙◌}
use Rattle.std.proofs.lemmas.Result.{on_err_weaker, on_ok_weaker}
use Rattle.ring_recorder.proofs.WriteLemmas.{on_err, wave_parts, head_part, first_part, second_part, all_parts}
use Rattle.ring_recorder.proofs.recorder.Recorder.write.Goals as goal

pub returns-in_err-write-clause-partly : goal.returns-in_err-write-clause-partly
returns-in_err-write-clause-partly g c before is =
    on_err c.from_residual.result (head_part c.in-Ok.head c.args.self.now.sound c.as_slices.result.0.now
    c.as_slices.result.1.now
    (wave_parts c.in-Ok.head c.len.result c.args.self.now.sound c.as_slices.result.0.now c.as_slices.result.1.now
    c.in-Ok.ensures.head (c.len.ensures.len ∙ ap (λ v. length v.sound) c.self.view_is)
    (c.as_slices.ensures ∙ ap (λ v. v.sound) c.self.view_is))
    before (g.O.Sink.told c.write.new.self).written (c.in_err-write.ensures.partly before is))

pub returns-in_err-write_samples-clause-partly : goal.returns-in_err-write_samples-clause-partly
returns-in_err-write_samples-clause-partly g c before is =
    on_err c.from_residual-in_err-write_samples.result (first_part c.in-Ok.head c.args.self.now.sound
    c.as_slices.result.0.now c.as_slices.result.1.now
    (wave_parts c.in-Ok.head c.len.result c.args.self.now.sound c.as_slices.result.0.now c.as_slices.result.1.now
    c.in-Ok.ensures.head (c.len.ensures.len ∙ ap (λ v. length v.sound) c.self.view_is)
    (c.as_slices.ensures ∙ ap (λ v. v.sound) c.self.view_is))
    before (g.O.Sink.told c.write_samples.new.output).written
    (c.in_err-write_samples.ensures.partly (before ++ c.in-Ok.head) (c.in_ok-write.ensures.appends before is)))

pub returns-clause-appends : goal.returns-clause-appends
returns-clause-appends g c before is =
    on_ok_weaker c.write_samples-2.result (all_parts c.in-Ok.head c.args.self.now.sound
    c.as_slices.result.0.now c.as_slices.result.1.now
    (wave_parts c.in-Ok.head c.len.result c.args.self.now.sound c.as_slices.result.0.now c.as_slices.result.1.now
    c.in-Ok.ensures.head (c.len.ensures.len ∙ ap (λ v. length v.sound) c.self.view_is)
    (c.as_slices.ensures ∙ ap (λ v. v.sound) c.self.view_is))
    before (g.O.Sink.told c.write_samples-2.new.output).written)
    (c.write_samples-2.ensures.appends _ (c.in_ok-write_samples.ensures.appends (before ++ c.in-Ok.head)
    (c.in_ok-write.ensures.appends before is)))

pub returns-clause-partly : goal.returns-clause-partly
returns-clause-partly g c before is =
    on_err_weaker c.write_samples-2.result (second_part c.in-Ok.head c.args.self.now.sound
    c.as_slices.result.0.now c.as_slices.result.1.now
    (wave_parts c.in-Ok.head c.len.result c.args.self.now.sound c.as_slices.result.0.now c.as_slices.result.1.now
    c.in-Ok.ensures.head (c.len.ensures.len ∙ ap (λ v. length v.sound) c.self.view_is)
    (c.as_slices.ensures ∙ ap (λ v. v.sound) c.self.view_is))
    before (g.O.Sink.told c.write_samples-2.new.output).written)
    (c.write_samples-2.ensures.partly _ (c.in_ok-write_samples.ensures.appends (before ++ c.in-Ok.head)
    (c.in_ok-write.ensures.appends before is)))
