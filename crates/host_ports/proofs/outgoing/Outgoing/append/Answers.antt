use Rattle.host_ports.proofs.Common.{◌≡◌, ℕ, ◌<◌, ◌≤◌, ◌-◌, [], ◌++◌, length, take, sym, ap, ◌∙◌, arith, refl, eqb-true}
use Rattle.host_ports.proofs.Common.{nat_tests, take-length, most_octets, octets_of, cut}
use Rattle.std.proofs.Common.{List, ◌∷◌}
use Rattle.std.proofs.lemmas.Result.{err_from_is_err_and}
use Rattle.host_ports.proofs.OutgoingLemmas.{whole_of, cut-append, some_piece}
use Rattle.host_ports.proofs.ResultLemmas.{ok_or_err, memory_or_full}
use Rattle.host_ports.proofs.outgoing.Outgoing.append.Goals as goal

pub returns-then-len-piece-clause-full : goal.returns-then-len-piece-clause-full
returns-then-len-piece-clause-full c =
    let whole : length (octets_of c.args.self.now) ≡ length c.self.inside.octets.items =
    ap length (whole_of _ _ _ c.self.invariant.0 c.self.view_is) in
    let len = c.len.ensures.len in
    (λ e. omega arith, λ more. refl)

pub returns-then-is_empty-clause-full : goal.returns-then-is_empty-clause-full
returns-then-is_empty-clause-full c =
    let whole : length (octets_of c.args.self.now) ≡ length c.self.inside.octets.items =
    ap length (whole_of _ _ _ c.self.invariant.0 c.self.view_is) in
    let len = c.len.ensures.len in
    let within = c.self.invariant.3 in
    let none : length c.args.piece.now ≡ 0 = eqb-true (length c.args.piece.now) 0 (sym c.is_empty.ensures
    ∙ c.if-is_empty.true) in
    (λ e. absurd (ok_or_err _ _ _ refl e), λ more. absurd (omega arith))

pub returns-in_err-push_back-clause-full : goal.returns-in_err-push_back-clause-full
returns-in_err-push_back-clause-full c =
    let whole : length (octets_of c.args.self.now) ≡ length c.self.inside.octets.items =
    ap length (whole_of _ _ _ c.self.invariant.0 c.self.view_is) in
    let len = c.len.ensures.len in
    let within = c.self.invariant.3 in
    let p = err_from_is_err_and c.from_residual.result c.from_residual.ensures.1 in
    (λ e. absurd (memory_or_full c.from_residual.result p.0 p.1 p.2 e), λ more. absurd (omega arith))

pub returns-clause-full : goal.returns-clause-full
returns-clause-full c =
    let whole : length (octets_of c.args.self.now) ≡ length c.self.inside.octets.items =
    ap length (whole_of _ _ _ c.self.invariant.0 c.self.view_is) in
    let len = c.len.ensures.len in
    let within = c.self.invariant.3 in
    (λ e. absurd (ok_or_err _ _ _ refl e), λ more. absurd (omega arith))

pub returns-clause-appended : goal.returns-clause-appended
returns-clause-appended c =
    let lens : List ℕ = c.self.inside.lens.items in
    let octets : List ℕ = c.self.inside.octets.items in
    let piece : List ℕ = c.args.piece.now in
    let len = c.len.ensures.len in
    let within = c.self.invariant.3 in
    let room : c.self.inside.octets.capacity ≡ most_octets = c.self.invariant.2 in
    let fits : length piece ≤ most_octets - length octets = omega arith in
    let count : c.fill_from_slice.result ≡ length piece = grind (arith, c.fill_from_slice.ensures.count) in
    let some : 0 < length piece = grind (arith, nat_tests, c.is_empty.ensures, c.if-is_empty.false) in
    let filled : c.fill_from_slice.new.self.items ≡ octets ++ piece =
    ap (λ b. b.items) c.fill_from_slice.ensures.items ∙ ap (λ n. octets ++ take n piece) count
    ∙ ap (λ p. octets ++ p) (take-length piece) in
    ap (λ ls. cut ls c.fill_from_slice.new.self.items) c.in_ok-push_back.ensures.items
    ∙ ap (cut (lens ++ length piece ∷ [])) filled
    ∙ cut-append lens octets piece c.self.invariant.0 ∙ ap (λ ps. ps ++ piece ∷ []) c.self.view_is
    ∙ sym (some_piece piece c.args.self.now some)
