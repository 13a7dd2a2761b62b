use Rattle.link_world.proofs.Common.{ℕ, ◌<◌, List, ap, sym, ◌∙◌, subst, false≢true, All, IsFrame}
use Rattle.link_world.specs.Held.{is_memory}
use Rattle.link_world.proofs.Rereading.{reads_frame, reads_none}
use Rattle.link_world.proofs.flight.InFlight.read_in.Goals as goal

pub returns-in-Ok-clause-read : goal.returns-in-Ok-clause-read
returns-in-Ok-clause-read c =
    let sent = c.args.self.now.sent in
    let list = c.as_slice.ensures.list in
    reads_frame sent.modulus c.args.modulus sent.frame c.in-Ok.frame c.as_slice.result.now c.read_frame.result
    (subst (IsFrame sent.frame sent.modulus) (sym list) c.in_ok-octets.ensures.read_again)
    (subst (λ (os : List ℕ). All (λ o. o < 256) os) (sym list) c.as_slice.ensures.range)
    (record { frame = c.read_frame.ensures.frame; each_frame = c.read_frame.ensures.each_frame }) c.in-Ok.is

pub returns : goal.returns
returns c =
    let sent = c.args.self.now.sent in
    let list = c.as_slice.ensures.list in
    record {
      read = reads_none sent.modulus c.args.modulus sent.frame c.in-Err.fault c.as_slice.result.now c.read_frame.result
          (subst (IsFrame sent.frame sent.modulus) (sym list) c.in_ok-octets.ensures.read_again)
          (subst (λ (os : List ℕ). All (λ o. o < 256) os) (sym list) c.as_slice.ensures.range)
          (record { frame = c.read_frame.ensures.frame; each_frame = c.read_frame.ensures.each_frame }) c.in-Err.is
          (λ is. false≢true (sym c.if-is_memory.false ∙ c.is_memory.ensures ∙ ap is_memory is));
      numbered = tt;
    }
