-- Connections that go.
use Rattle.host_ports.proofs.Common.{◌==◌, true, false, not, ◌∷◌, filter, All, list_any, sym, ◌∙◌, ap, subst, arith}
use Rattle.host_ports.proofs.Common.{and_parts, HostParts, ClosedLine, Untaken}
use Rattle.host_ports.proofs.Common.{Narrows, is_named, weight, is_client_of, is_among}
use Rattle.std.specs.Prelude.{◌≡◌, ℕ, ◌+◌, ◌≤◌, [], ◌++◌, length}
use Rattle.std.proofs.lemmas.List.Elements.{All-filter}
use Rattle.host_ports.proofs.NamedLemmas.{not_itself, fewer_clients, fewer_ids, length_without_clients, length_without_ids}
use Rattle.host_ports.proofs.MoveLemmas.{named_without}

-- nothing of a connection is left
pub record Forgets (id : ℕ) (a b : HostParts) : Type 0 where
  pub station : b.station ≡ a.station
  pub came : b.came ≡ a.came
  pub clients : b.clients.items ≡ filter (λ client. not (client.id == id)) a.clients.items
  pub untaken : b.untaken.items ≡ filter (λ one. not (one.id == id)) a.untaken.items
  pub report : b.report ≡ a.report
  pub to_shut : b.to_shut ≡ a.to_shut
  pub leaving : b.leaving.items ≡ filter (λ other. not (other == id)) a.leaving.items

pub forget_gone : (id : ℕ) (a b : HostParts) → Forgets id a b → is_named id b ≡ false
forget_gone id a b f = named_without a b id id f.clients f.leaving ∙ not_itself id (is_named id a)

pub forget_narrows : (id : ℕ) (a b : HostParts) → Forgets id a b → Narrows a b
forget_narrows id a b f = record {
  station = f.station;
  came = f.came;
  named = λ other named. (and_parts (not (other == id)) (is_named other a)
      (sym (named_without a b id other f.clients f.leaving) ∙ named)).1;
  pieces = λ pieces. subst (All (λ one. length one.octets ≤ 17)) (sym f.untaken)
      (All-filter (λ (one : Untaken). not (one.id == id)) (λ one. length one.octets ≤ 17) a.untaken.items pieces);
  lighter =
      let clients = length_without_clients id a.clients.items in
      let leaving = length_without_ids id a.leaving.items in
      let is_clients = ap length f.clients in
      let is_leaving = ap length f.leaving in
      omega arith;
}

pub forget_one_less : (id : ℕ) (a b : HostParts) → Forgets id a b → is_among id a.leaving.items ≡ true
    → weight b + 1 ≤ weight a
forget_one_less id a b f found =
    let clients = length_without_clients id a.clients.items in
    let leaving = fewer_ids id a.leaving.items found in
    let is_clients = ap length f.clients in
    let is_leaving = ap length f.leaving in
    omega arith

pub forget_two_less : (id : ℕ) (a b : HostParts) → Forgets id a b → list_any (is_client_of id) a.clients.items ≡ true
    → weight b + 2 ≤ weight a
forget_two_less id a b f found =
    let clients = fewer_clients id a.clients.items found in
    let leaving = length_without_ids id a.leaving.items in
    let is_clients = ap length f.clients in
    let is_leaving = ap length f.leaving in
    omega arith

-- it is shut
pub record Shuts (id : ℕ) (a b : HostParts) : Type 0 where
  pub station : b.station ≡ a.station
  pub came : b.came ≡ a.came
  pub clients : b.clients ≡ a.clients
  pub untaken : b.untaken ≡ a.untaken
  pub report : b.report.items ≡ a.report.items ++ ClosedLine id ∷ []
  pub to_shut : b.to_shut.items ≡ a.to_shut.items ++ id ∷ []
  pub leaving : b.leaving ≡ a.leaving

-- and the station is to be told
pub record Leaves (id : ℕ) (a b : HostParts) : Type 0 where
  pub station : b.station ≡ a.station
  pub came : b.came ≡ a.came
  pub clients : b.clients ≡ a.clients
  pub untaken : b.untaken ≡ a.untaken
  pub report : b.report ≡ a.report
  pub to_shut : b.to_shut ≡ a.to_shut
  pub leaving : b.leaving.items ≡ a.leaving.items ++ id ∷ []
