use Rattle.host_ports.proofs.Common.{◌≡◌, ◌≤◌, ℕ, length, take, sum, sym, ap, ◌∙◌, arith, front_of}
use Rattle.std.proofs.Common.{List}
use Rattle.host_ports.proofs.OutgoingLemmas.{front_is, front_len, front_long, parts_cut}
use Rattle.host_ports.proofs.outgoing.Outgoing.front.Goals as goal

pub returns-else-len-first : goal.returns-else-len-first
returns-else-len-first c =
    let lens : List ℕ = c.self.inside.lens.items in
    let octets : List ℕ = c.self.inside.octets.items in
    let all : sum lens ≡ length octets = c.self.invariant.0 in
    let long : length (front_of c.args.self.now) ≡ front_len lens =
    front_long lens octets c.args.self.now all c.self.view_is in
    let more : length c.as_slices.result.0.now ≤ c.front_len-len.result = omega arith in
    record {
      rest =
          parts_cut c.as_slices.result.0.now c.as_slices.result.1.now octets c.front_len-len.result c.as_slices.ensures
          more
          ∙ ap (λ n. take n octets) (c.front_len-len.ensures ∙ long)
          ∙ sym (front_is lens octets c.args.self.now c.self.view_is);
    }
