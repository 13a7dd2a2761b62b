use Rattle.fx25_receiver.proofs.Common.{◌++◌, length, inl, refl, subst, sym, arith, bits, EndsFrame, Heard}
use Rattle.fx25_receiver.proofs.TakenLemmas.{only_plain, taken_one}
use Rattle.fx25_receiver.proofs.hearing.hear_plainly.Goals as goal

pub returns : goal.returns
returns c = λ x before at ends taken.
    let place = c.args.place in
    let size = at.end_is in
    let item : Heard = record {
      end = place.end;
      lane = place.offset;
      tag = 0;
      octets = c.in_ok-octets.octets;
      at = place.end;
    } in
    let is : EndsFrame (bits place.offset x) item.octets =
    subst (λ octets. EndsFrame (bits place.offset x) octets) (sym c.in_ok-octets.ensures) ends in
    taken_one place x at item c.args.kept.now.items c.put.new.kept.items (before ++ c.args.given.now.items)
    (before ++ c.put.new.given.items) taken refl refl (inl (refl, refl, is)) (only_plain place x at item refl refl is)
    (c.in_ok-put.ensures.keeps (length x) taken.heard (omega arith) taken.keeps)
    (c.in_ok-put.ensures.given (length x) taken.heard before (omega arith) taken.keeps taken.given_is)
