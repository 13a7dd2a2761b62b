-- Each way in which A sends something, or nothing.
use Rattle.channel_bench.proofs.Common.{refl, sym, ap, ◌∙◌, [], A, IsAskedOrCalled}
use Rattle.channel_bench.proofs.AskLemmas.{asked, called, neither, not_taken}
use Rattle.channel_bench.proofs.RunLemmas.{goes_on, has_ended, unless_ended, unless_made}
use Rattle.channel_bench.proofs.run.Run.ask_or_call.Goals as goal

pub ask-requires : goal.ask-requires
ask-requires c = λ octets most. c.accepts.ensures.admitted octets c.if-not-accepts.false most A c.requires.1.a
    c.requires.2.a

pub call-requires : goal.call-requires
call-requires c = λ octets most. c.accepts.ensures.admitted octets c.if-not-accepts.false most A c.requires.1.a
    c.requires.2.a

pub returns-then-has_ended-clause-asked : goal.returns-then-has_ended-clause-asked
returns-then-has_ended-clause-asked c = λ w bench h. (
  bench,
  unless_ended (IsAskedOrCalled w) bench
      (has_ended c.args.self.now w bench c.has_ended.result h c.has_ended.ensures c.if-has_ended.true),
  h,
)

pub returns-then-not-accepts-clause-asked : goal.returns-then-not-accepts-clause-asked
returns-then-not-accepts-clause-asked c = λ w bench h.
    let none = goes_on c.args.self.now w bench c.has_ended.result h c.has_ended.ensures c.if-has_ended.false in (
      bench,
      unless_made (IsAskedOrCalled w) bench bench none
          (not_taken w bench bench c.accepts.result
          (c.accepts.ensures.accepts A bench.a [] h.a) c.if-not-accepts.true refl),
      h,
    )

pub returns-then-is_complete-clause-asked : goal.returns-then-is_complete-clause-asked
returns-then-is_complete-clause-asked c = λ w bench h.
    let none = goes_on c.args.self.now w bench c.has_ended.result h c.has_ended.ensures c.if-has_ended.false in
    let made = c.in_ok-ask.ensures.asked w bench h none in (
      made.0,
      unless_made (IsAskedOrCalled w) bench made.0 none
          (asked w bench made.0 c.accepts.result (c.accepts.ensures.accepts A bench.a [] h.a) c.if-not-accepts.false
          (sym (c.is_complete.ensures w bench h) ∙ c.if-is_complete.true) made.1),
      made.2,
    )

pub returns-then-calls-clause-asked : goal.returns-then-calls-clause-asked
returns-then-calls-clause-asked c = λ w bench h.
    let none = goes_on c.args.self.now w bench c.has_ended.result h c.has_ended.ensures c.if-has_ended.false in
    let made = c.in_ok-call.ensures.called w bench h none in (
      made.0,
      unless_made (IsAskedOrCalled w) bench made.0 none
          (called w bench made.0 c.accepts.result (c.accepts.ensures.accepts A bench.a [] h.a) c.if-not-accepts.false
          (sym (c.is_complete.ensures w bench h) ∙ c.if-is_complete.false)
          (sym (c.calls.ensures ∙ ap (λ p. p.calls) h.a.program) ∙ c.if-calls.true) made.1),
      made.2,
    )

pub returns-clause-asked : goal.returns-clause-asked
returns-clause-asked c = λ w bench h.
    let none = goes_on c.args.self.now w bench c.has_ended.result h c.has_ended.ensures c.if-has_ended.false in (
      bench,
      unless_made (IsAskedOrCalled w) bench bench none
          (neither w bench bench c.accepts.result (c.accepts.ensures.accepts A bench.a [] h.a) c.if-not-accepts.false
          (sym (c.is_complete.ensures w bench h) ∙ c.if-is_complete.false)
          (sym (c.calls.ensures ∙ ap (λ p. p.calls) h.a.program) ∙ c.if-calls.false) refl),
      h,
    )
