use Rattle.sensitive_receiver.proofs.Common.{◌≡◌, ◌+◌, ◌∙◌, ℤ, List, sym, refl, arith, true≢false, on_ok_weaker}
use Rattle.sensitive_receiver.proofs.Common.{Far, tones, lane_tones}
use Rattle.sensitive_receiver.specs.Hearing.{AreTonesOf}
use Rattle.sensitive_receiver.proofs.FixedLemmas.{line_tone, one_read, no_frame, some_frame}
use Rattle.sensitive_receiver.proofs.FlagInTime.{flag_in_time, turn_reads}
use Rattle.sensitive_receiver.proofs.fixed_hearing.read_one.Goals as goal

pub returns-then-not-push-clause-read : goal.returns-then-not-push-clause-read
returns-then-not-push-clause-read c =
    let n = c.args.number in
    let p = c.args.place + c.args.at in
    let new = c.push.new.self in
    let here : (x : List ℤ) → AreTonesOf c.args.place c.args.line.now x → c.of.result ≡ tones Far x p
    = λ x are. line_tone x c.args.place c.args.line.now c.args.at _ c.of.result are c.requires.inside c.of.ensures in
    record {
      read = λ x are h. one_read x n c.requires.number.0 c.requires.number.1 p c.of.result c.args.lane.now new
          c.requires.turn (here x are) h (c.push.ensures.stands_for (lane_tones x n p) h);
      found = λ x are h. no_frame x n c.requires.number.0 c.requires.number.1 p c.of.result c.args.lane.now new
          c.requires.turn (here x are) h c.args.found.now.items
          (λ o ends. true≢false (sym (c.push.ensures.frame (lane_tones x n p) o h ends).0 ∙ c.if-not-push.true));
    }

pub returns-clause-read : goal.returns-clause-read
returns-clause-read c =
    let n = c.args.number in
    let p = c.args.place + c.args.at in
    let new = c.push.new.self in
    let here : (x : List ℤ) → AreTonesOf c.args.place c.args.line.now x → c.of.result ≡ tones Far x p
    = λ x are. line_tone x c.args.place c.args.line.now c.args.at _ c.of.result are c.requires.inside c.of.ensures in
    on_ok_weaker c.report.result (λ reports. record {
      read = λ x are h. one_read x n c.requires.number.0 c.requires.number.1 p c.of.result c.args.lane.now new
          c.requires.turn (here x are) h (c.push.ensures.stands_for (lane_tones x n p) h);
      found = λ x are h.
          let before = lane_tones x n p in
          some_frame x n c.requires.number.0 c.requires.number.1 p c.of.result c.args.lane.now new
          c.requires.turn (here x are) h c.args.found.now.items c.report.new.found.items c.octets.result.now _
          (c.push.ensures.heard before h c.if-not-push.false)
          (λ o ends. c.octets.ensures o ends.2 (c.push.ensures.frame before o h ends).1)
          (flag_in_time x n p c.requires.number.0 c.requires.number.1
          (turn_reads x n c.requires.number.0 c.requires.number.1 p c.requires.turn)) refl reports;
    })
    c.report.ensures.reports

pub returns-clause-bounds : goal.returns-clause-bounds
returns-clause-bounds c = λ low under. c.report.ensures.bounds low (omega arith)
