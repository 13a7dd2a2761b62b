-- Nothing comes to pass if the run has ended; a frame without a match ends it; one with a match is heard.
use Rattle.channel_bench.proofs.Common.{◌≡◌, Some, None, refl, sym, ap, ◌∙◌, subst, Stray}
use Rattle.channel_bench.proofs.Common.{IsStep, number_of, with_matched, with_stray, OffAir}
use Rattle.std.specs.Prelude.{is_some}
use Rattle.channel_bench.proofs.HearLemmas.{heard_ended, heard_goes_on, match_made, stray_made, stray_stands}
use Rattle.channel_bench.proofs.RunLemmas.{none_from}
use Rattle.channel_bench.proofs.SideLemmas.{near_remembers}
use Rattle.channel_bench.proofs.side.Side.hear.Goals as goal

pub returns-then-has_ended-clause-heard : goal.returns-then-has_ended-clause-heard
returns-then-has_ended-clause-heard c = λ end n h. (
  n,
  heard_ended end c.args.item.now n
      (ap is_some (sym h.shared_is.trouble) ∙ sym c.has_ended.ensures ∙ c.if-has_ended.true),
  h,
)

pub returns-in_default-clause-heard : goal.returns-in_default-clause-heard
returns-in_default-clause-heard c = λ end n h.
    let item = c.args.item.now in
    let none = none_from n.common.trouble
    (ap is_some (sym h.shared_is.trouble) ∙ sym c.has_ended.ensures ∙ c.if-has_ended.false) in
    let missed : number_of end item n ≡ None = sym (c.in_default.ensures.number end n h) in (
      with_stray item.octets n,
      heard_goes_on end item n (with_stray item.octets n) none (stray_made end item n missed),
      stray_stands end _ c.args.shared.now c.end_by_stray.new.self n item.octets
          (near_remembers end c.args.self.now _ c.args.shared.now n h (record {
            end = refl;
            station = refl;
            there = refl;
            reader = refl;
            program = refl;
            ear = refl;
            towards = refl;
            matched = refl;
            air = refl;
            silenced = refl;
          }))
          (c.in_ok-end_by_stray.ensures.ended ∙ ap
          (λ o. record c.args.shared.now { trouble = Some (Stray o) }) c.as_slice.ensures.list),
    )

pub returns-clause-heard : goal.returns-clause-heard
returns-clause-heard c = λ end n h.
    let item = c.args.item.now in
    let number = c.in-Some.number in
    let none = none_from n.common.trouble
    (ap is_some (sym h.shared_is.trouble) ∙ sym c.has_ended.ensures ∙ c.if-has_ended.false) in
    let found : number_of end item n ≡ Some number = sym (c.in-Some.ensures.number end n h) in
    let made = c.in_ok-hear_sent.ensures.step end n h none in
    let step = subst (λ o. IsStep end (OffAir o) (Some number) (with_matched number n) made.0)
    c.as_slice-2.ensures.list made.1 in (
      made.0,
      heard_goes_on end item n made.0 none (match_made end item number n made.0 found step),
      made.2,
    )
