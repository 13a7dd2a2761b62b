use Rattle.tnc_encode.proofs.Common.{Err, None, ap, arith, subst, sym, ◌∙◌, option_to_list}
use Rattle.tnc_encode.proofs.MakingLemmas.{few_taken, finishes, finishes_bad, sent}
use Rattle.tnc_encode.specs.Writing.{CanSend}
use Rattle.tnc_encode.proofs.sender.SenderMaker.finish.Goals as goal

pub finish-requires-clause-reader : goal.finish-requires-clause-reader
finish-requires-clause-reader c = c.requires.held.2.reader

pub finish-requires-clause-room : goal.finish-requires-clause-room
finish-requires-clause-room c =
    let held = c.requires.held in
    let few = few_taken held.0.frames c.args.self.now.frames held.1 held.2.taken in
    let fits = held.3 in
    omega (arith, few, fits)

pub send-requires-clause-words : goal.send-requires-clause-words
send-requires-clause-words c = subst CanSend (sym c.requires.held.2.same) c.requires.held.2.can

pub returns-in_ok-send-in-Ok : goal.returns-in_ok-send-in-Ok
returns-in_ok-send-in-Ok c = record {
  finishes = λ words octets h.
      finishes words octets _ None (option_to_list c.in-Ok.frame)
      (c.in-Ok.ensures.good words.frames octets h.taken) (c.in-Ok.ensures.frame words.frames octets h.taken)
      (c.in_ok-send-in-Ok.ensures ∙ ap (λ w. sent w (option_to_list c.in-Ok.frame)) h.same);
}

pub returns-in-Err-Input : goal.returns-in-Err-Input
returns-in-Err-Input c = record {
  finishes = λ words octets h.
      finishes_bad words octets _ c.in-Err-Input.fault
      (c.in-Err-Input.ensures.bad words.frames octets c.in-Err-Input.fault h.taken (ap Err c.in-Err-Input.field-0-is))
      c.clear.ensures.items;
}
