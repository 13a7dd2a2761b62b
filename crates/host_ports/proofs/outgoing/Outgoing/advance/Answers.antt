use Rattle.host_ports.proofs.Common.{◌≡◌, ◌<◌, ◌≤◌, ◌-◌, ℕ, length, drop, set, sum, sym, ap, subst, ◌∙◌, arith}
use Rattle.host_ports.proofs.Common.{length-drop, octets_of, cut, most_octets}
use Rattle.std.proofs.Common.{List, All}
use Rattle.host_ports.proofs.OutgoingLemmas.{front_len, drops, all_sent_sum, part_sent, part_sent_sum, positive_rest}
use Rattle.host_ports.proofs.OutgoingLemmas.{octets_split, octets_of-cut, whole_of}
use Rattle.host_ports.proofs.outgoing.Outgoing.advance.Goals as goal

pub invariant_of-self : goal.invariant_of-self
invariant_of-self c =
    let lens : List ℕ = c.self.inside.lens.items in
    let octets : List ℕ = c.self.inside.octets.items in
    let all = c.self.invariant.0 in
    let s = drops c.args.count c.front_len-len.result c.len.result lens octets c.truncate_front.new.self.items
    c.args.self.now all c.self.view_is c.front_len-len.ensures c.requires c.len.ensures.len
    (ap (λ b. b.items) c.truncate_front.ensures) in
    let within = s.within in
    let asked = s.asked in
    let fewer : length c.truncate_front.new.self.items ≡ length octets - c.args.count = ap length s.left_is
    ∙ length-drop c.args.count octets in
    let most : length octets ≤ most_octets = c.self.invariant.3 in (
      ap sum c.pop_front.ensures.rest ∙ all_sent_sum lens octets all
          ∙ ap (λ n. length (drop n octets)) (sym (c.if-count-len.true ∙ s.front_is)) ∙ ap length (sym s.left_is),
      subst (All (λ len. 0 < len)) (sym c.pop_front.ensures.rest) (positive_rest lens c.self.invariant.1),
      ap (λ b. b.capacity) c.truncate_front.ensures ∙ c.self.invariant.2,
      omega arith,
    )

pub returns-in-Some-clause-sent : goal.returns-in-Some-clause-sent
returns-in-Some-clause-sent c =
    let lens : List ℕ = c.self.inside.lens.items in
    let octets : List ℕ = c.self.inside.octets.items in
    let all = c.self.invariant.0 in
    let s = drops c.args.count c.front_len-len.result c.len.result lens octets c.truncate_front.new.self.items
    c.args.self.now all c.self.view_is c.front_len-len.ensures c.requires c.len.ensures.len
    (ap (λ b. b.items) c.truncate_front.ensures) in
    let asked = s.asked in
    let is = s.front_is in
    let differs = c.if-count-len.false in
    let part : c.args.count < front_len lens = omega arith in
    ap (λ n. cut (set lens 0 (n - c.args.count)) c.truncate_front.new.self.items) is
    ∙ ap (cut (set lens 0 (front_len lens - c.args.count))) s.left_is
    ∙ part_sent c.args.count lens octets c.args.self.now part all c.self.view_is

pub returns-in-Some-clause-octets : goal.returns-in-Some-clause-octets
returns-in-Some-clause-octets c =
    let lens : List ℕ = c.self.inside.lens.items in
    let octets : List ℕ = c.self.inside.octets.items in
    let all = c.self.invariant.0 in
    let s = drops c.args.count c.front_len-len.result c.len.result lens octets c.truncate_front.new.self.items
    c.args.self.now all c.self.view_is c.front_len-len.ensures c.requires c.len.ensures.len
    (ap (λ b. b.items) c.truncate_front.ensures) in
    let asked = s.asked in
    let is = s.front_is in
    let differs = c.if-count-len.false in
    let part : c.args.count < front_len lens = omega arith in
    octets_split c.args.self.now (cut (set lens 0 (c.front_len-len.result - c.args.count))
    c.truncate_front.new.self.items) octets c.args.count (whole_of lens octets c.args.self.now all c.self.view_is)
    (ap (λ n. octets_of (cut (set lens 0 (n - c.args.count)) c.truncate_front.new.self.items)) is
    ∙ ap (λ o. octets_of (cut (set lens 0 (front_len lens - c.args.count)) o)) s.left_is
    ∙ octets_of-cut (set lens 0 (front_len lens - c.args.count)) (drop c.args.count octets)
    (part_sent_sum c.args.count lens octets part all))
