use Rattle.tnc_encode.proofs.Common.{Err, ap, arith, subst, sym, ◌∙◌, option_to_list}
use Rattle.tnc_encode.proofs.MakingLemmas.{few_taken, sent, takes_bad, takes_front}
use Rattle.tnc_encode.specs.Writing.{CanSend}
use Rattle.tnc_encode.proofs.sender.SenderMaker.take.Goals as goal

pub take-requires-clause-reader : goal.take-requires-clause-reader
take-requires-clause-reader c = c.requires.held.2.reader

pub take-requires-clause-room : goal.take-requires-clause-room
take-requires-clause-room c =
    let held = c.requires.held in
    let few = few_taken held.0.frames c.args.self.now.frames held.1 held.2.taken in
    let fits = held.3 in
    omega (arith, few, fits)

pub send-requires-clause-words : goal.send-requires-clause-words
send-requires-clause-words c = subst CanSend (sym c.requires.held.2.same) c.requires.held.2.can

pub returns-in_ok-send-in-Ok-clause-takes : goal.returns-in_ok-send-in-Ok-clause-takes
returns-in_ok-send-in-Ok-clause-takes c = λ words before h.
    takes_front words _ before c.args.octets.now _ c.in-Ok.count c.in-Ok.frame
    (record {
      same = h.same;
      can = h.can;
      reader = c.in-Ok.ensures.reader;
      taken = c.in-Ok.ensures.taken words.frames before h.taken;
    })
    (c.in-Ok.ensures.frame words.frames before h.taken)
    (c.in_ok-send-in-Ok.ensures ∙ ap (λ w. sent w (option_to_list c.in-Ok.frame)) h.same)

pub returns-in-Err-Input-clause-takes : goal.returns-in-Err-Input-clause-takes
returns-in-Err-Input-clause-takes c = λ words before h.
    takes_bad words c.args.self.now before c.args.octets.now _ c.in-Err-Input.fault
    (c.in-Err-Input.ensures.bad words.frames before c.in-Err-Input.fault h.taken (ap Err c.in-Err-Input.field-0-is))
    c.clear.ensures.items
