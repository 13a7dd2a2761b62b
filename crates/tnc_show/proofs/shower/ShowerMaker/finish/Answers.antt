use Rattle.std.proofs.Common.{◌≡◌, ◌++◌, Some, None, Err, ap, subst, ◌∙◌, arith}
use Rattle.std.specs.Option.{option_to_list}
use Rattle.tnc_forms.specs.Faults.{hex_fault}
use Rattle.tnc_forms.specs.HexFrames.{frames_in_lines}
use Rattle.tnc_forms.specs.LinesSoFar.{frames_so_far}
use Rattle.tnc_show.specs.Shown.{IsTextOf}
use Rattle.tnc_show.proofs.TakingLemmas.{finishes_bad, finishes_frame}
use Rattle.tnc_show.proofs.shower.ShowerMaker.finish.Goals as goal

pub finish-requires : goal.finish-requires
finish-requires c =
    let held = c.requires.held in
    let count = held.2.stands.count in
    let fits = held.3 in
    record { room = omega (arith, count, fits) }

pub returns-in_ok-push_frame-in-Ok : goal.returns-in_ok-push_frame-in-Ok
returns-in_ok-push_frame-in-Ok c = record {
  finishes = λ words octets h.
      let pushed = c.in_ok-push_frame-in-Ok.ensures in
      let frame = c.in-Ok.frame in
      finishes_frame words octets c.push_frame.new.text.items pushed.0 frame
      (subst (λ n. hex_fault n octets ≡ None) h.least (c.in-Ok.ensures.good octets h.stands))
      (subst (λ n. frames_in_lines n octets ≡ frames_so_far n octets ++ option_to_list frame) h.least
      (c.in-Ok.ensures.frame octets h.stands))
      (subst (λ m. IsTextOf m (option_to_list frame) pushed.0) h.modulus pushed.1)
      (pushed.2 ∙ ap (λ t. t ++ pushed.0) c.clear.ensures.items);
}

pub returns-in-Err-Input : goal.returns-in-Err-Input
returns-in-Err-Input c = record {
  finishes = λ words octets h.
      let fault = c.in-Err-Input.fault in
      let bad = subst (λ n. (hex_fault n octets ≡ Some fault) × (frames_in_lines n octets ≡ frames_so_far n octets))
      h.least (c.in-Err-Input.ensures.bad octets fault h.stands (ap Err c.in-Err-Input.field-0-is)) in
      finishes_bad words octets c.clear.new.self.items fault bad.0 bad.1 c.clear.ensures.items;
}
