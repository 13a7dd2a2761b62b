use Rattle.channel_access.proofs.Common.{◌≡◌, ℕ, ◌+◌, ◌++◌, ◌∙◌, ℤ, List, ap, sym, take, replicate, pos, Modem}
use Rattle.channel_access.proofs.Common.{samples_of_bits, modem_of, wave_window, window_of}
use Rattle.channel_access.proofs.ModemLemmas.{samples_of_bits-more}
use Rattle.channel_access.proofs.sending.Sending.put.Goals as goal

-- where the samples of a bit begin and end
begins_at : (modem told : Modem) (count start at : ℕ) → told ≡ modem → start ≡ samples_of_bits told count → at ≡ start
    → at ≡ samples_of_bits modem count
begins_at modem told count start at is is_start is_at = is_at ∙ is_start ∙ ap (λ m. samples_of_bits m count) is

ends_at : (modem : Modem) (count at : ℕ) → at ≡ samples_of_bits modem count
    → samples_of_bits modem (count + 1) ≡ at + samples_of_bits modem 1
ends_at modem count at begins = samples_of_bits-more modem count 1 ∙ ap (λ n. n + samples_of_bits modem 1) (sym begins)

pub returns-in-Some-clause-samples : goal.returns-in-Some-clause-samples
unfolding window_of
returns-in-Some-clause-samples c =
    let modem : Modem = modem_of c.args.self.now.wave in
    let old : List ℤ = c.args.samples.now in
    let begins = begins_at modem c.modem-modem.result c.args.count c.samples.result c.from-start.result
    c.modem-modem.ensures c.samples.ensures.samples c.from-start.ensures in
    ap (λ n. take n c.put.new.samples) (ends_at modem c.args.count c.from-start.result begins)
    ∙ c.put.ensures.samples
    ∙ ap (λ n. take n old ++ wave_window c.args.self.now.wave c.step.result) begins
    ∙ ap (λ tone. take (samples_of_bits modem c.args.count) old ++ wave_window c.args.self.now.wave tone)
    c.step.ensures.tone
    ∙ ap (λ bit. take (samples_of_bits modem c.args.count) old ++ window_of c.args.self.now bit) (sym c.in-Some.is)

pub returns-in-None-clause-samples : goal.returns-in-None-clause-samples
unfolding window_of
returns-in-None-clause-samples c =
    let modem : Modem = modem_of c.args.self.now.wave in
    let old : List ℤ = c.args.samples.now in
    let begins = begins_at modem c.modem-modem.result c.args.count c.samples.result c.from-start.result
    c.modem-modem.ensures c.samples.ensures.samples c.from-start.ensures in
    let one : c.from.result ≡ samples_of_bits modem 1 =
    c.from.ensures ∙ c.samples-in-None.ensures.samples ∙ ap (λ m. samples_of_bits m 1) c.modem-modem.ensures in
    ap (λ n. take n c.put_silence.new.samples) (ends_at modem c.args.count c.from-start.result begins)
    ∙ ap (λ n. take (c.from-start.result + n) c.put_silence.new.samples) (sym one)
    ∙ c.put_silence.ensures
    ∙ ap (λ n. take n old ++ replicate c.from.result (pos 0)) begins
    ∙ ap (λ n. take (samples_of_bits modem c.args.count) old ++ replicate n (pos 0)) one
    ∙ ap (λ bit. take (samples_of_bits modem c.args.count) old ++ window_of c.args.self.now bit) (sym c.in-None.is)
