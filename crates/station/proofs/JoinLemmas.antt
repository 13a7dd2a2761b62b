-- Connections that join, and their ids.
use Rattle.station.proofs.Common.{◌≡◌, ◌≢◌, ℕ, zero, suc, ◌<◌, ◌==◌, not, false, List, [], ◌∷◌, ◌++◌, length, map}
use Rattle.station.proofs.Common.{filter, All, AllPairs, refl, AllZip, sym, ◌∙◌, ap, subst, arith, get_or, append-nil}
use Rattle.station.proofs.Common.{cond-true, cond-false, nat_tests, filter-append, PortKind, Parts, Connection}
use Rattle.station.proofs.Common.{new_connection, ids_in, without_ids, with_host, StandsForConnection, HasOtherId}
use Rattle.station.proofs.Common.{Reads, Shows, Out, Turn}
use Rattle.std.proofs.lemmas.List.Quantifiers.{all_pairs_push}
use Rattle.station.specs.declared.connection.Connection.{Connection as HeldConnection}

-- one more on both sides
pub AllZip-more : {A B : Type 0} (R : A → B → Type 0) (xs : List A) (ys : List B) (a : A) (b : B) → AllZip R xs ys
    → R a b → AllZip R (xs ++ a ∷ []) (ys ++ b ∷ [])
AllZip-more R [] [] a b h r = (r, tt)
AllZip-more R [] (y ∷ ys) a b h r = absurd h
AllZip-more R (x ∷ xs) [] a b h r = absurd h
AllZip-more R (x ∷ xs) (y ∷ ys) a b h r = (h.0, AllZip-more R xs ys a b h.1 r)

-- a new id is no connection's
new_id : (held : List HeldConnection) (connections : List Connection) (id : ℕ)
    → AllZip StandsForConnection held connections → All (λ other. other ≢ id)
    (map (λ (connection : HeldConnection). connection.id) held) → (k : ℕ) (d : Connection) → k < length connections
    → (get_or connections k d).id ≢ id
new_id [] [] id each others k d within = absurd (omega (arith, within))
new_id [] (y ∷ ys) id each others k d within = absurd each
new_id (x ∷ xs) [] id each others k d within = absurd each
new_id (x ∷ xs) (y ∷ ys) id each others zero d within = λ same. others 0 0 (omega arith) (each.0.id ∙ same)
new_id (x ∷ xs) (y ∷ ys) id each others (suc k) d within =
    new_id xs ys id each.1 (λ j e less. others (suc j) e (omega (arith, less))) k d (omega (arith, within))

-- the station with one connection more
pub shows_joined : (parts : Parts) (out : Out) (turn : Turn) (held : List HeldConnection) (connection : HeldConnection)
    (kind : PortKind) → Shows parts out turn → All (λ other. other ≢ connection.id) (ids_in parts)
    → connection.came ≡ 0 → connection.raw ≡ false → connection.monitors ≡ false → Reads connection.reader kind []
    → held ≡ parts.connections.items ++ connection ∷ []
    → AllZip StandsForConnection held (with_host connection.id kind turn.now).connections
    × AllPairs HasOtherId (with_host connection.id kind turn.now).connections
shows_joined parts out turn held connection kind shows others came raw monitors reads is =
    let h = shows.holds in
    let items = parts.connections.items in
    let new : Connection = new_connection connection.id kind in (
      subst (λ xs. AllZip StandsForConnection xs (turn.now.connections ++ new ∷ [])) (sym is)
          (AllZip-more StandsForConnection items turn.now.connections connection new h.connections
          (record { id = refl; came = came; raw = raw; monitors = monitors; reader = reads })),
      all_pairs_push HasOtherId turn.now.connections new h.ids
          (λ k d within. new_id items turn.now.connections connection.id h.connections others k d within),
    )

-- no id goes if it was none of them
filter_others : (id : ℕ) (ids : List ℕ) → All (λ other. other ≢ id) ids → filter (λ other. not (other == id)) ids ≡ ids
filter_others id [] others = refl
filter_others id (x ∷ xs) others =
    let differs : x ≢ id = others 0 0 (omega arith) in
    cond-true (not (x == id)) (x ∷ filter (λ other. not (other == id)) xs) (filter (λ other. not (other == id)) xs)
    (grind (arith, nat_tests))
    ∙ ap (λ rest. x ∷ rest) (filter_others id xs (λ j e less. others (suc j) e (omega (arith, less))))

filter_itself : (id : ℕ) → filter (λ other. not (other == id)) (id ∷ []) ≡ []
filter_itself id = cond-false (not (id == id)) (id ∷ []) [] (grind (arith, nat_tests))

-- the ids if the new connection is closed
pub ids_closed : (id : ℕ) (ids closed : List ℕ) → All (λ other. other ≢ id) ids → closed ≡ id ∷ []
    → ids ≡ without_ids closed (ids ++ id ∷ [])
ids_closed id ids closed others is =
    sym (ap (λ gone. without_ids gone (ids ++ id ∷ [])) is ∙ filter-append (λ other. not (other == id)) ids (id ∷ [])
    ∙ ap (λ xs. xs ++ filter (λ other. not (other == id)) (id ∷ [])) (filter_others id ids others)
    ∙ ap (λ xs. ids ++ xs) (filter_itself id) ∙ append-nil ids)
