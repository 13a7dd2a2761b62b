-- The connection of an id, among connections of which each has some property.
use Rattle.station_laws.proofs.Common.{◌≡◌, ℕ, ◌==◌, Bool, true, false, List, [], ◌∷◌, cond, Some, refl}
use Rattle.station_laws.proofs.Common.{subst, eqb-true, Connection, connection_of}
use Rattle.std.specs.List.{AllByRecursion as Each}

pub found :
    (P : Connection → Type 0) (id : ℕ) (connections : List Connection) (c : Connection) → Each P connections
    → connection_of id connections ≡ Some c → P c × (c.id ≡ id)
found P id [] c h is = absurd (cc)
found P id (first ∷ connections) c h is = go (first.id == id) refl is (λ later. found P id connections c h.1 later)
  where
    go : (b : Bool) → (first.id == id) ≡ b → cond b (Some first) (connection_of id connections) ≡ Some c
        → (connection_of id connections ≡ Some c → P c × (c.id ≡ id)) → P c × (c.id ≡ id)
    go true same one rest =
        let e : first ≡ c = cc in
        subst (λ (x : Connection). P x × (x.id ≡ id)) e (h.0, eqb-true first.id id same)
    go false same one rest = rest one
