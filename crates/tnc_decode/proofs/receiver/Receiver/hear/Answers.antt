use Rattle.tnc_decode.proofs.Common.{◌≡◌, ◌++◌, ℕ, List, ap, sym, subst, refl, ◌∙◌, arith, length, length-append}
use Rattle.tnc_decode.proofs.Common.{candidate_frames, Candidate, Receiver, rates_of, samples_read, modem_of, print}
use Rattle.tnc_engine.specs.Making.{Adds}
use Rattle.tnc_decode.specs.Making.{decode_making}
use Rattle.tnc_decode.proofs.ReceiverLemmas.{heard_more, settles, tuned}
use Rattle.tnc_decode.proofs.receiver.Receiver.hear.Goals as goal

pub returns-clause-heard : goal.returns-clause-heard
returns-clause-heard g c = λ words before h.
    let old : Receiver = c.args.self.now in
    let octets : List ℕ = c.args.octets.now in
    let new : Receiver
    = record {
      alloc = old.alloc;
      frames = old.frames;
      threads = old.threads;
      audio = c.take.new.self;
      receiving = old.receiving;
      samples = c.take.new.samples;
      decoder = c.hear.new.self;
    } in
    let items : List Candidate = c.in_ok-items.items.items in
    let found : _ = c.take.new.samples.items in
    let block : _ = c.deref.result.now in
    let took = c.in_ok-take.ensures.takes (rates_of words.receiving) words.audio before h.audio in
    let modem : c.modem-modem.result ≡ modem_of words (before ++ octets) =
    c.modem-modem.ensures words (before ++ octets) h.receiving took.0 in
    let decoder = tuned words before octets c.modem-modem.result old.decoder c.tune.new.decoder modem
    c.in_ok-tune.ensures.still c.in_ok-tune.ensures.fresh h.decoder in
    let gave = c.in_ok-items.ensures.given (modem_of words (before ++ octets)) (samples_read words before) decoder in
    let size : length block ≡ length found = ap length c.deref.ensures.value in
    let few = c.in_ok-take.ensures.count in
    let was = h.position in
    let tuned_to = c.in_ok-tune.ensures.position in
    let now = c.in_ok-items.ensures.position in
    let all = length-append before octets in (
      heard_more old new words before octets found block items h took c.deref.ensures.value gave refl refl
          (omega (arith, size, few, was, tuned_to, now, all)) c.hear.ensures.unfinished,
      subst (Adds (decode_making words) before octets) (sym (c.in_ok-text.ensures
          ∙ ap (λ t. print old.frames (candidate_frames t)) c.deref-2.ensures.value))
          (settles old new words before octets found block items h took c.deref.ensures.value gave),
    )
