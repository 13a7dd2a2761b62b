use Rattle.host_ports.proofs.Common.{◌≡◌, ◌<◌, ◌≤◌, ◌+◌, length, sym, ap, subst, ◌∙◌, inl, inr, on_ok_weaker}
use Rattle.host_ports.proofs.Common.{HostParts, Client, with_piece, octets_of, most_octets}
use Rattle.std.proofs.Common.{Err}
use Rattle.std.proofs.lemmas.Bool.{cases_lt}
use Rattle.host_ports.proofs.DeliverLemmas.{stands_at, waits_at, waits_narrows, append_fits, append_cuts}
use Rattle.host_ports.proofs.MoveLemmas.{narrows_then}
use Rattle.host_ports.proofs.ResultLemmas.{ok_or_err}
use Rattle.host_ports.proofs.host_parts.HostParts.append.Goals as goal

pub returns-in-Ok-clause-narrows : goal.returns-in-Ok-clause-narrows
returns-in-Ok-clause-narrows c =
    let a : HostParts = c.args.self.now in
    let client : Client = c.index_mut.result.now in
    let there = stands_at c.args.piece.now.id c.in-Some.at client _ a.clients.items c.deref.ensures.value
    c.index_mut.ensures.value (c.in-Some.ensures.client client) (c.in-Some.ensures.id client)
    (λ waiting. c.in-Some.ensures.waiting waiting client) in
    let octets : c.as_slice.result.now ≡ c.args.piece.now.octets = c.as_slice.ensures.list in
    let waits = waits_at c.args.piece.now.id c.in-Some.at client c.append.new.self
    (with_piece c.args.piece.now.octets client.waiting) a there
    (c.in-Ok.ensures.appended ∙ ap (λ p. with_piece p client.waiting) octets) in
    waits_narrows c.args.piece.now.id (with_piece c.args.piece.now.octets client.waiting) a _ waits

pub returns-in-Ok-clause-moves : goal.returns-in-Ok-clause-moves
returns-in-Ok-clause-moves c =
    let a : HostParts = c.args.self.now in
    let client : Client = c.index_mut.result.now in
    let there = stands_at c.args.piece.now.id c.in-Some.at client _ a.clients.items c.deref.ensures.value
    c.index_mut.ensures.value (c.in-Some.ensures.client client) (c.in-Some.ensures.id client)
    (λ waiting. c.in-Some.ensures.waiting waiting client) in
    let octets : c.as_slice.result.now ≡ c.args.piece.now.octets = c.as_slice.ensures.list in
    let waits = waits_at c.args.piece.now.id c.in-Some.at client c.append.new.self
    (with_piece c.args.piece.now.octets client.waiting) a there
    (c.in-Ok.ensures.appended ∙ ap (λ p. with_piece p client.waiting) octets) in
    let fits : length (octets_of client.waiting) + length c.args.piece.now.octets ≤ most_octets =
    elim (cases_lt most_octets (length (octets_of client.waiting) + length c.args.piece.now.octets)) [
      | inl more ↦ absurd (ok_or_err c.append.result _ _ c.in-Ok.is
          (c.append.ensures.full.1 (subst (λ p. most_octets < length (octets_of client.waiting) + length p) (sym octets)
          more)))
      | inr less ↦ less
    ] in
    append_fits c.args.piece.now client a _ there.found there.same fits waits

pub returns-in-Err-Full-clause-moves : goal.returns-in-Err-Full-clause-moves
returns-in-Err-Full-clause-moves c =
    let a : HostParts = c.args.self.now in
    let client : Client = c.index_mut.result.now in
    let there = stands_at c.args.piece.now.id c.in-Some.at client _ a.clients.items c.deref.ensures.value
    c.index_mut.ensures.value (c.in-Some.ensures.client client) (c.in-Some.ensures.id client)
    (λ waiting. c.in-Some.ensures.waiting waiting client) in
    let waits = waits_at c.args.piece.now.id c.in-Some.at client c.append.new.self client.waiting a there
    c.in-Err-Full.ensures.refused in
    let over : most_octets < length (octets_of client.waiting) + length c.args.piece.now.octets =
    subst (λ p. most_octets < length (octets_of client.waiting) + length p) c.as_slice.ensures.list
    (c.in-Err-Full.ensures.full.0 (ap (λ f. Err f) c.in-Err-Full.field-0-is)) in
    on_ok_weaker c.cut.result (λ moves. append_cuts c.args.piece.now client a _ c.cut.new.self there.found there.same over
    waits moves) c.cut.ensures.moves

pub returns-in-Err-Full-clause-narrows : goal.returns-in-Err-Full-clause-narrows
returns-in-Err-Full-clause-narrows c =
    let a : HostParts = c.args.self.now in
    let client : Client = c.index_mut.result.now in
    let there = stands_at c.args.piece.now.id c.in-Some.at client _ a.clients.items c.deref.ensures.value
    c.index_mut.ensures.value (c.in-Some.ensures.client client) (c.in-Some.ensures.id client)
    (λ waiting. c.in-Some.ensures.waiting waiting client) in
    let waits = waits_at c.args.piece.now.id c.in-Some.at client c.append.new.self client.waiting a there
    c.in-Err-Full.ensures.refused in
    on_ok_weaker c.cut.result (λ narrows. narrows_then a _ c.cut.new.self
    (waits_narrows c.args.piece.now.id client.waiting a _ waits) narrows) c.cut.ensures.narrows
