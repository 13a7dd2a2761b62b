use Rattle.tnc_decode.proofs.Common.{ap, sym, subst, ◌∙◌}
use Rattle.std.specs.Prelude.{map}
use Rattle.fx25_receiver.specs.WithoutBlocks.{candidate_of}
use Rattle.sensitive_blocks.specs.Held.{HeldReceiver, StandsFor}
use Rattle.tnc_decode.proofs.sensitive_fx25_decoder.SensitiveFx25Decoder.finish.Goals as goal

pub returns : goal.returns
returns c = record {
  rest = λ x given stands. (
    c.in_ok-heard.heard.items,
    c.in_ok-heard.ensures.rest x given
        (subst (λ (held : HeldReceiver). StandsFor held x given) (sym c.self.view_is) stands),
    c.in_ok-items.ensures ∙ ap (map candidate_of) c.deref.ensures.value,
  );
}
