-- Which connections are named, and which the station knows.
use Rattle.host_ports.proofs.Common.{◌≢◌, zero, suc, ◌==◌, ◌&&◌, ◌||◌, Bool, true, false, not, List, ◌∷◌, filter, All}
use Rattle.host_ports.proofs.Common.{cond, list_any, sym, ◌∙◌, ap, arith, inl, inr, eqb-true, eq-eqb, ne_eqb, and_parts}
use Rattle.host_ports.proofs.Common.{or_parts, cases_Bool, false≢true, true≢false, list_any-append, HostEvent, Joined}
use Rattle.host_ports.proofs.Common.{Bytes, Left, ids_after, Client, joins, leaves, is_client_of, is_among}
use Rattle.std.specs.Prelude.{◌≡◌, ℕ, ◌+◌, ◌≤◌, [], ◌++◌, length, Any, refl}
use Rattle.std.proofs.lemmas.Bool.{and_from, not_from_false}
use Rattle.std.proofs.lemmas.List.Folds.{Any-from_list_any}
use Rattle.std.proofs.lemmas.Map.Views.{any-filter_same}
use Rattle.station.specs.Held.{without_ids}

-- ---- one connection is left out

pub clients_without : (id other : ℕ) (clients : List Client)
    → list_any (is_client_of other) (filter (λ client. not (client.id == id)) clients)
    ≡ (not (other == id) && list_any (is_client_of other) clients)
clients_without id other clients =
    any-filter_same (is_client_of other) (λ client. not (client.id == id)) (not (other == id))
    (λ client same. ap (λ n. not (n == id)) (eqb-true client.id other same)) clients

pub ids_without : (id other : ℕ) (ids : List ℕ) → is_among other (filter (λ one. not (one == id)) ids)
    ≡ (not (other == id) && is_among other ids)
ids_without id other ids =
    any-filter_same (λ one. one == other) (λ one. not (one == id)) (not (other == id))
    (λ one same. ap (λ n. not (n == id)) (eqb-true one other same)) ids

pub itself : (id : ℕ) → (id == id) ≡ true
itself id = eq-eqb id id refl

pub not_itself : (id : ℕ) (b : Bool) → (not (id == id) && b) ≡ false
not_itself id b = ap (λ t. not t && b) (itself id)

-- ---- how many are left

length_step : {X : Type 0} (b : Bool) (x : X) (kept xs : List X) → length kept ≤ length xs
    → length (cond (not b) (x ∷ kept) kept) ≤ length (x ∷ xs)
length_step true x kept xs less = omega arith
length_step false x kept xs less = omega arith

pub length_without_clients : (id : ℕ) (clients : List Client) → length (filter (λ client. not (client.id == id)) clients)
    ≤ length clients
length_without_clients id [] = omega arith
length_without_clients id (client ∷ clients) = length_step (client.id == id) client (filter (λ one. not (one.id == id)) clients)
    clients (length_without_clients id clients)

rest_found : (a b : Bool) → a ≡ false → (a || b) ≡ true → b ≡ true
rest_found true b here found = absurd (true≢false here)
rest_found false b here found = found

fewer_step : {X : Type 0} (b : Bool) (x : X) (kept xs : List X) → length kept ≤ length xs
    → (b ≡ false → length kept + 1 ≤ length xs) → length (cond (not b) (x ∷ kept) kept) + 1 ≤ length (x ∷ xs)
fewer_step true x kept xs less fewer = omega arith
fewer_step false x kept xs less fewer = let e = fewer refl in omega (arith, e)

pub fewer_clients : (id : ℕ) (clients : List Client) → list_any (is_client_of id) clients ≡ true
    → length (filter (λ client. not (client.id == id)) clients) + 1 ≤ length clients
fewer_clients id [] found = absurd (false≢true found)
fewer_clients id (client ∷ clients) found =
    fewer_step (client.id == id) client (filter (λ one. not (one.id == id)) clients) clients (length_without_clients id clients)
    (λ here. fewer_clients id clients (rest_found (client.id == id) (list_any (is_client_of id) clients) here found))

pub length_without_ids : (id : ℕ) (ids : List ℕ) → length (filter (λ one. not (one == id)) ids) ≤ length ids
length_without_ids id [] = omega arith
length_without_ids id (one ∷ ids) = length_step (one == id) one (filter (λ other. not (other == id)) ids) ids
    (length_without_ids id ids)

pub fewer_ids : (id : ℕ) (ids : List ℕ) → is_among id ids ≡ true
    → length (filter (λ one. not (one == id)) ids) + 1 ≤ length ids
fewer_ids id [] found = absurd (false≢true found)
fewer_ids id (one ∷ ids) found =
    fewer_step (one == id) one (filter (λ other. not (other == id)) ids) ids (length_without_ids id ids)
    (λ here. fewer_ids id ids (rest_found (one == id) (is_among id ids) here found))

-- ---- the ids after an event

pub among_there : (id : ℕ) (ids : List ℕ) → is_among id ids ≡ true → Any (λ other. other ≡ id) ids
among_there id ids found =
    let a : Any (λ other. (other == id) ≡ true) ids = Any-from_list_any (λ other. other == id) ids found in
    (a.0, a.1, a.2, a.3, eqb-true a.1 id a.4)

not_step : (id one : ℕ) (ids : List ℕ) → (one == id) ≡ false → All (λ other. other ≢ id) ids
    → All (λ other. other ≢ id) (one ∷ ids)
not_step id one ids differs others zero d within = λ same. false≢true (sym differs ∙ eq-eqb one id same)
not_step id one ids differs others (suc k) d within = others k d (omega (arith, within))

pub not_among : (id : ℕ) (ids : List ℕ) → is_among id ids ≡ false → All (λ other. other ≢ id) ids
not_among id [] none = λ k d within. absurd (omega (arith, within))
not_among id (one ∷ ids) none = not_step id one ids (or_parts (one == id) (is_among id ids) none).0
    (not_among id ids (or_parts (one == id) (is_among id ids) none).1)

not_either : (b : Bool) → (not b && false) ≡ false
not_either true = refl
not_either false = refl

both_out : (a a' b c : Bool) → a ≡ a' → (not b && (not a && c)) ≡ (not (a' || b) && c)
both_out true true b c same = not_either b
both_out false false b c same = refl
both_out true false b c same = absurd (true≢false same)
both_out false true b c same = absurd (false≢true same)

eqb_turned : (a b : ℕ) → (a == b) ≡ (b == a)
eqb_turned a b = elim (cases_Bool (a == b)) [
  | inl same ↦ same ∙ sym (eq-eqb b a (sym (eqb-true a b same)))
  | inr differs ↦ differs ∙ sym (ne_eqb b a (λ same. true≢false (sym (eq-eqb a b (sym same)) ∙ differs)))
]

pub without_ids-among : (closed ids : List ℕ) (id : ℕ) → is_among id (without_ids closed ids)
    ≡ (not (is_among id closed) && is_among id ids)
without_ids-among [] ids id = refl
without_ids-among (one ∷ closed) ids id =
    without_ids-among closed (filter (λ other. not (other == one)) ids) id
    ∙ ap (λ b. not (is_among id closed) && b) (ids_without one id ids)
    ∙ both_out (id == one) (one == id) (is_among id closed) (is_among id ids) (eqb_turned id one)

or_nothing : (b : Bool) → (b || false) ≡ b
or_nothing true = refl
or_nothing false = refl

among_joined : (id x : ℕ) (ids : List ℕ) → is_among x (ids ++ id ∷ []) ≡ (is_among x ids || (id == x))
among_joined id x ids =
    list_any-append (λ other. other == x) ids (id ∷ []) ∙ ap (λ b. is_among x ids || b) (or_nothing (id == x))

-- a connection that is neither closed nor leaves is still known
pub still_known : (event : HostEvent) (closed ids : List ℕ) (x : ℕ) → is_among x closed ≡ false → leaves x event ≡ false
    → (is_among x ids || joins x event) ≡ true → is_among x (ids_after event closed ids) ≡ true
still_known (Joined id kind) closed ids x not_closed stays was =
    without_ids-among closed (ids ++ id ∷ []) x
    ∙ and_from (not (is_among x closed)) (is_among x (ids ++ id ∷ [])) (not_from_false (is_among x closed) not_closed)
    (among_joined id x ids ∙ was)
still_known (Bytes id octets) closed ids x not_closed stays was =
    without_ids-among closed ids x
    ∙ and_from (not (is_among x closed)) (is_among x ids) (not_from_false (is_among x closed) not_closed)
    (sym (or_nothing (is_among x ids)) ∙ was)
still_known (Left id) closed ids x not_closed stays was =
    without_ids-among (id ∷ []) ids x
    ∙ and_from (not (is_among x (id ∷ []))) (is_among x ids)
    (not_from_false (is_among x (id ∷ [])) (or_nothing (id == x) ∙ stays)) (sym (or_nothing (is_among x ids)) ∙ was)

and_second : (a b : Bool) → (a && b) ≡ true → b ≡ true
and_second a b both = (and_parts a b both).1

-- nobody else is
pub was_known : (event : HostEvent) (closed ids : List ℕ) (x : ℕ) → is_among x (ids_after event closed ids) ≡ true
    → (is_among x ids || joins x event) ≡ true
was_known (Joined id kind) closed ids x now =
    sym (among_joined id x ids) ∙ and_second (not (is_among x closed)) (is_among x (ids ++ id ∷ []))
    (sym (without_ids-among closed (ids ++ id ∷ []) x) ∙ now)
was_known (Bytes id octets) closed ids x now =
    or_nothing (is_among x ids) ∙ and_second (not (is_among x closed)) (is_among x ids)
    (sym (without_ids-among closed ids x) ∙ now)
was_known (Left id) closed ids x now =
    or_nothing (is_among x ids) ∙ and_second (not (is_among x (id ∷ []))) (is_among x ids)
    (sym (without_ids-among (id ∷ []) ids x) ∙ now)
