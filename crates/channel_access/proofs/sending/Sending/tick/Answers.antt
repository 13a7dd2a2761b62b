use Rattle.channel_access.proofs.Common.{◌≡◌, ℕ, ◌+◌, ◌<◌, ◌++◌, ℤ, List, WaitingFrame, take, replicate, pos, refl, sym}
use Rattle.channel_access.proofs.Common.{ap, ◌∙◌, subst, arith, take_all, tick_start, with_bits, tick_bits}
use Rattle.channel_access.proofs.Common.{samples_of_bits, modem_of, window_of, step_of, with_step, Sending, Modem, Run}
use Rattle.channel_access.proofs.ModemLemmas.{samples_of_bits-none, samples_of_bits-tick}
use Rattle.channel_access.proofs.RunLemmas.{sending_more, waiting_more, samples_more, sent_more, modem-with_bits}
use Rattle.channel_access.proofs.sending.Sending.tick.Goals as goal

pub loop-count-init : goal.loop-count-init
unfolding with_bits
loop-count-init c = record {
  sending = refl;
  waiting = refl;
  samples = ap (λ n. take n (replicate 96 (pos 0))) (samples_of_bits-none c.modem-modem.result);
  long = refl;
  sent = refl;
}

-- the modem of the sender with a step more
same_modem : (modem : Modem) (start self stepped : Sending) (waiting queue : List WaitingFrame) (count : ℕ)
    → modem ≡ modem_of start.wave → self ≡ (with_bits modem count (tick_start start waiting)).sending
    → stepped ≡ with_step self (step_of self queue) → modem_of stepped.wave ≡ modem
same_modem modem start self stepped waiting queue count is is_self is_stepped =
    ap (λ (s : Sending). modem_of s.wave) is_stepped ∙ ap (λ (s : Sending). modem_of s.wave) is_self
    ∙ modem-with_bits modem count (tick_start start waiting) ∙ sym is

pub put-requires : goal.put-requires
put-requires c =
    let loop = c.loop-count in
    let same = same_modem c.modem-modem.result c.args.self.now loop.self c.step-bit.new.self c.args.queue.now loop.queue
    loop.count c.modem-modem.ensures loop.invariant.sending c.step-bit.ensures.sending in
    subst (λ m. loop.count < tick_bits m) (sym same) (omega (arith, c.tick_bits-count-end.ensures.bits))

pub loop-count-preserved : goal.loop-count-preserved
loop-count-preserved c =
    let start = tick_start c.args.self.now c.args.queue.now in
    let modem = c.modem-modem.result in
    let loop = c.loop-count in
    let i = loop.invariant in
    let step = c.step-bit in
    let e = step.ensures in
    let window : List ℤ = window_of step.new.self step.result.value in
    let same = same_modem modem c.args.self.now loop.self step.new.self c.args.queue.now loop.queue loop.count
    c.modem-modem.ensures i.sending e.sending in
    let put : take (samples_of_bits modem (loop.count + 1)) c.put.new.samples
    ≡ take (samples_of_bits modem loop.count) loop.samples ++ window =
    subst (λ m. take (samples_of_bits m (loop.count + 1)) c.put.new.samples
    ≡ take (samples_of_bits m loop.count) loop.samples ++ window) same c.put.ensures.samples in
    record {
      sending = sending_more modem start loop.count loop.self step.new.self loop.queue step.result.value i.sending
          i.waiting e.sending e.bit c.put.new.self c.put.ensures.sending;
      waiting = waiting_more modem start loop.count loop.self step.new.self loop.queue step.result.value i.sending
          i.waiting e.sending e.bit step.new.queue e.waiting;
      samples = samples_more modem start loop.count loop.self step.new.self loop.queue step.result.value i.sending
          i.waiting e.sending e.bit (take (samples_of_bits modem loop.count) loop.samples) _ window i.samples refl put;
      long = c.put.array_long;
      sent = sent_more modem start loop.count loop.self step.new.self loop.queue step.result.value i.sending i.waiting
          e.sending e.bit loop.sent c.sent_with-sent.result step.result.named i.sent e.named c.sent_with-sent.ensures;
    }

-- all bits of the tick
whole_tick : (modem : Modem) (start : Sending) (waiting : List WaitingFrame) (count : ℕ) → modem ≡ modem_of start.wave
    → count ≡ tick_bits modem
    → with_bits modem count (tick_start start waiting)
    ≡ with_bits (modem_of start.wave) (tick_bits (modem_of start.wave)) (tick_start start waiting)
whole_tick modem start waiting count is all =
    ap (λ n. with_bits modem n (tick_start start waiting)) all
    ∙ ap (λ m. with_bits m (tick_bits m) (tick_start start waiting)) is

pub returns-clause-samples : goal.returns-clause-samples
returns-clause-samples c =
    let modem = c.modem-modem.result in
    let all : c.loop-count.count ≡ tick_bits modem = omega (arith, c.tick_bits-count-end.ensures.bits) in
    let long : samples_of_bits modem c.loop-count.count ≡ 96 =
    ap (samples_of_bits modem) all ∙ samples_of_bits-tick modem in
    sym (take_all (samples_of_bits modem c.loop-count.count) c.loop-count.samples
    (omega (arith, long, c.loop-count.invariant.long)))
    ∙ c.loop-count.invariant.samples
    ∙ ap (λ (r : Run). r.samples) (whole_tick modem c.args.self.now c.args.queue.now c.loop-count.count
    c.modem-modem.ensures all)

pub returns-clause-sent : goal.returns-clause-sent
returns-clause-sent c =
    let all : c.loop-count.count ≡ tick_bits c.modem-modem.result =
    omega (arith, c.tick_bits-count-end.ensures.bits) in
    c.loop-count.invariant.sent
    ∙ ap (λ (r : Run). r.sent) (whole_tick c.modem-modem.result c.args.self.now c.args.queue.now c.loop-count.count
    c.modem-modem.ensures all)

pub returns-clause-sending : goal.returns-clause-sending
returns-clause-sending c =
    let all : c.loop-count.count ≡ tick_bits c.modem-modem.result =
    omega (arith, c.tick_bits-count-end.ensures.bits) in
    c.loop-count.invariant.sending
    ∙ ap (λ (r : Run). r.sending) (whole_tick c.modem-modem.result c.args.self.now c.args.queue.now c.loop-count.count
    c.modem-modem.ensures all)

pub returns-clause-waiting : goal.returns-clause-waiting
returns-clause-waiting c =
    let all : c.loop-count.count ≡ tick_bits c.modem-modem.result =
    omega (arith, c.tick_bits-count-end.ensures.bits) in
    c.loop-count.invariant.waiting
    ∙ ap (λ (r : Run). r.waiting) (whole_tick c.modem-modem.result c.args.self.now c.args.queue.now c.loop-count.count
    c.modem-modem.ensures all)
