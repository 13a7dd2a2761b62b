use Rattle.wide_input.proofs.Common.{ap, refl, length, option_map, HeldStream}
use Rattle.wide_input.proofs.StreamLemmas.{kept_part}
use Rattle.wide_input.proofs.stream.Stream.hear.Goals as goal

pub returns-clause-part : goal.returns-clause-part
returns-clause-part c =
    let heard = c.hear_part-heard in
    let now : HeldStream = record {
      bank = c.self.inside.bank;
      skipped = c.self.inside.skipped;
      found = option_map (λ v. v.items) c.ok.result;
    } in
    kept_part (λ v. v.items) heard.result c.ok.result (length c.args.block.now) c.args.self.now heard.new.self now
    c.ok.ensures.value refl (record {
      bank = ap (λ (h : HeldStream). h.bank) c.self.view_is;
      skipped = ap (λ (h : HeldStream). h.skipped) c.self.view_is;
    }) heard.ensures.past heard.ensures.abreast
