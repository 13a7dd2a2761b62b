-- Counts of whose the frames are that wait: of one connection, of all that are there, and of those that have left.
use Rattle.station_laws.proofs.Common.{◌≡◌, ℕ, ◌+◌, ◌*◌, ◌<◌, ◌≤◌, ◌==◌, Bool, true, false, not, List, [], ◌∷◌, ◌++◌}
use Rattle.station_laws.proofs.Common.{length, drop, cond, Option, Some, None, is_some, refl, sym, ap, ◌∙◌, arith}
use Rattle.station_laws.proofs.Common.{inl, inr, Connection, connection_of, eqb-true}
use Rattle.std.specs.Prelude.{◌⊎◌, count_by}
use Rattle.std.proofs.lemmas.Bool.{eq-eqb, false≢true}
use Rattle.std.proofs.lemmas.List.Sums.{sum_by-cons, sum_by_push}
use Rattle.station.specs.Connections.{with_connection, without_connection}
use Rattle.station.specs.Owners.{has_left, is_of, left_waiting, own_waiting}

-- ---- counts

abbrev one : Bool → ℕ
one b = cond b 1 0

pub count_push : {T : Type 0} (p : T → Bool) (xs : List T) (x : T) → count_by p (xs ++ x ∷ []) ≡ count_by p xs + one (p x)
count_push p xs x = sum_by_push (λ y. one (p y)) xs x

pub count_cons : {T : Type 0} (p : T → Bool) (x : T) (xs : List T) → count_by p (x ∷ xs) ≡ one (p x) + count_by p xs
count_cons p x xs = sum_by-cons (λ y. one (p y)) x xs

pub count_drop : {T : Type 0} (p : T → Bool) (xs : List T) → count_by p (drop 1 xs) ≤ count_by p xs
count_drop p [] = omega arith
count_drop p (x ∷ xs) = let c = count_cons p x xs in omega arith

one_of_two : (a b c : Bool) → (a ≡ true → (b ≡ true) ⊎ (c ≡ true)) → one a ≤ one b + one c
one_of_two false b c h = omega arith
one_of_two true true c h = omega arith
one_of_two true false true h = omega arith
one_of_two true false false h = elim (h refl) [ inl e ↦ absurd (false≢true e) | inr e ↦ absurd (false≢true e) ]

-- what is counted is counted by one of two others
count_two :
    {T : Type 0} (p q r : T → Bool) → ((x : T) → p x ≡ true → (q x ≡ true) ⊎ (r x ≡ true)) → (xs : List T)
    → count_by p xs ≤ count_by q xs + count_by r xs
count_two p q r h [] = omega arith
count_two p q r h (x ∷ xs) =
    let a = count_cons p x xs in
    let b = count_cons q x xs in
    let c = count_cons r x xs in
    let here = one_of_two (p x) (q x) (r x) (h x) in
    let rest = count_two p q r h xs in
    omega arith

count_one : {T : Type 0} (p q : T → Bool) → ((x : T) → p x ≡ true → q x ≡ true) → (xs : List T)
    → count_by p xs ≤ count_by q xs
count_one p q h [] = omega arith
count_one p q h (x ∷ xs) =
    let a = count_cons p x xs in
    let b = count_cons q x xs in
    let here = one_of_two (p x) (q x) false (λ e. inl (h x e)) in
    let rest = count_one p q h xs in
    omega arith

-- ---- connections that are there

abbrev pub there : ℕ → List Connection → Bool
there id connections = is_some (connection_of id connections)

abbrev has_one : Bool → Connection → ℕ → List Connection → Bool
has_one b c id connections = is_some (cond b (Some c) (connection_of id connections))

left_of_more : (c : Connection) (cs : List Connection) (owner : Option ℕ) → has_left cs owner ≡ true
    → (has_left (c ∷ cs) owner ≡ true) ⊎ (is_of c.id owner ≡ true)
left_of_more c cs None h = absurd (false≢true h)
left_of_more c cs (Some n) h = go (c.id == n) refl
  where
    go : (b : Bool) → (c.id == n) ≡ b → (not (there n (c ∷ cs)) ≡ true) ⊎ ((n == c.id) ≡ true)
    go true is = inr (eq-eqb n c.id (sym (eqb-true c.id n is)))
    go false is = inl (ap (λ b. not (has_one b c n cs)) is ∙ h)

-- all frames of connections are of those that are there, or of those that have left
pub all_own : (cs : List Connection) (owners : List (Option ℕ)) → ((id : ℕ) → own_waiting id owners ≤ 4)
    → count_by is_some owners ≤ left_waiting cs owners + 4 * length cs
all_own [] owners own = let a = count_one is_some (has_left []) each owners in omega arith
  where
    each : (owner : Option ℕ) → is_some owner ≡ true → has_left [] owner ≡ true
    each None e = e
    each (Some id) e = refl
all_own (c ∷ cs) owners own =
    let rest = all_own cs owners own in
    let more = count_two (has_left cs) (has_left (c ∷ cs)) (is_of c.id) (left_of_more c cs) owners in
    let few = own c.id in
    omega arith

-- and one fewer if one that is there has room
pub all_but_one : (id : ℕ) (cs : List Connection) (owners : List (Option ℕ)) → ((n : ℕ) → own_waiting n owners ≤ 4)
    → there id cs ≡ true → own_waiting id owners < 4
    → count_by is_some owners < left_waiting cs owners + 4 * length cs
all_but_one id [] owners own is few = absurd (false≢true is)
all_but_one id (c ∷ cs) owners own is few =
    go (c.id == id) refl (λ here. all_but_one id cs owners own here few)
  where
    more : left_waiting cs owners ≤ left_waiting (c ∷ cs) owners + own_waiting c.id owners
    more = count_two (has_left cs) (has_left (c ∷ cs)) (is_of c.id) (left_of_more c cs) owners

    go : (b : Bool) → (c.id == id) ≡ b
        → (there id cs ≡ true → count_by is_some owners < left_waiting cs owners + 4 * length cs)
        → count_by is_some owners < left_waiting (c ∷ cs) owners + 4 * length (c ∷ cs)
    go true same next =
        let rest = all_own cs owners own in
        let one_less : own_waiting c.id owners ≡ own_waiting id owners =
        ap (λ n. own_waiting n owners) (eqb-true c.id id same) in
        let up = more in
        omega arith
    go false other next =
        let rest = next (ap (λ b. has_one b c id cs) (sym other) ∙ is) in
        let up = more in
        let four = own c.id in
        omega arith

-- ---- a connection joins

there_still : (n : ℕ) (more cs : List Connection) → there n cs ≡ true → there n (cs ++ more) ≡ true
there_still n more [] is = absurd (false≢true is)
there_still n more (c ∷ cs) is = go (c.id == n) is (there_still n more cs)
  where
    go : (b : Bool) → has_one b c n cs ≡ true → (there n cs ≡ true → there n (cs ++ more) ≡ true)
        → has_one b c n (cs ++ more) ≡ true
    go true e rest = refl
    go false e rest = rest e

pub left_joined : (more cs : List Connection) (owners : List (Option ℕ))
    → left_waiting (cs ++ more) owners ≤ left_waiting cs owners
left_joined more cs owners = count_one (has_left (cs ++ more)) (has_left cs) each owners
  where
    by_there : (n : ℕ) (b : Bool) → there n cs ≡ b → not (there n (cs ++ more)) ≡ true → not (there n cs) ≡ true
    by_there n true is h = absurd (false≢true (sym (ap not (there_still n more cs is)) ∙ h))
    by_there n false is h = ap not is

    each : (owner : Option ℕ) → has_left (cs ++ more) owner ≡ true → has_left cs owner ≡ true
    each None e = e
    each (Some n) e = by_there n (there n cs) refl e

-- ---- a connection changes

turned_there : (n id : ℕ) (change : Connection → Connection) → ((c : Connection) → (change c).id ≡ c.id)
    → (cs : List Connection) → there n (with_connection id change cs) ≡ there n cs
turned_there n id change ids [] = refl
turned_there n id change ids (c ∷ cs) =
    let turned = cond (c.id == id) (change c) c in
    ap (λ i. has_one (i == n) turned n (with_connection id change cs)) (same_id (c.id == id))
    ∙ go (c.id == n) (turned_there n id change ids cs)
  where
    same_id : (b : Bool) → (cond b (change c) c).id ≡ c.id
    same_id true = ids c
    same_id false = refl

    go : (b : Bool) → there n (with_connection id change cs) ≡ there n cs
        → has_one b (cond (c.id == id) (change c) c) n (with_connection id change cs) ≡ has_one b c n cs
    go true rest = refl
    go false rest = rest

pub left_turned : (id : ℕ) (change : Connection → Connection) → ((c : Connection) → (change c).id ≡ c.id)
    → (cs : List Connection) (owners : List (Option ℕ))
    → left_waiting (with_connection id change cs) owners ≤ left_waiting cs owners
left_turned id change ids cs owners =
    count_one (has_left (with_connection id change cs)) (has_left cs) each owners
  where
    each : (owner : Option ℕ) → has_left (with_connection id change cs) owner ≡ true → has_left cs owner ≡ true
    each None e = e
    each (Some n) e = ap not (sym (turned_there n id change ids cs)) ∙ e

-- ---- a connection leaves

-- the others stay
others_stay : (n id : ℕ) → (n == id) ≡ false → (cs : List Connection)
    → there n (without_connection id cs) ≡ there n cs
others_stay n id differs [] = refl
others_stay n id differs (c ∷ cs) = go (c.id == id) refl (others_stay n id differs cs)
  where
    kept : (b : Bool) → there n (without_connection id cs) ≡ there n cs
        → has_one b c n (without_connection id cs) ≡ has_one b c n cs
    kept true rest = refl
    kept false rest = rest

    gone : (b : Bool) → (c.id == n) ≡ b → c.id ≡ id → there n cs ≡ has_one b c n cs
    gone true is same = absurd (false≢true (sym differs ∙ eq-eqb n id (sym (eqb-true c.id n is) ∙ same)))
    gone false is same = refl

    go : (b : Bool) → (c.id == id) ≡ b → there n (without_connection id cs) ≡ there n cs
        → there n (cond (not b) (c ∷ without_connection id cs) (without_connection id cs)) ≡ there n (c ∷ cs)
    go true is rest = rest ∙ gone (c.id == n) refl (eqb-true c.id id is)
    go false is rest = kept (c.id == n) rest

pub left_left : (id : ℕ) (cs : List Connection) (owners : List (Option ℕ))
    → left_waiting (without_connection id cs) owners ≤ left_waiting cs owners + own_waiting id owners
left_left id cs owners = count_two (has_left (without_connection id cs)) (has_left cs) (is_of id) each owners
  where
    by_id : (n : ℕ) (b : Bool) → (n == id) ≡ b → not (there n (without_connection id cs)) ≡ true
        → (not (there n cs) ≡ true) ⊎ ((n == id) ≡ true)
    by_id n true is h = inr is
    by_id n false is h = inl (ap not (sym (others_stay n id is cs)) ∙ h)

    each : (owner : Option ℕ) → has_left (without_connection id cs) owner ≡ true
        → (has_left cs owner ≡ true) ⊎ (is_of id owner ≡ true)
    each None e = absurd (false≢true e)
    each (Some n) e = by_id n (n == id) refl e

-- as many frames wait of those that have left if it was not there
pub none_left : (id : ℕ) (cs : List Connection) (owners : List (Option ℕ)) → there id cs ≡ false
    → left_waiting (without_connection id cs) owners ≤ left_waiting cs owners
none_left id cs owners none = count_one (has_left (without_connection id cs)) (has_left cs) each owners
  where
    by_id : (n : ℕ) (b : Bool) → (n == id) ≡ b → not (there n (without_connection id cs)) ≡ true
        → not (there n cs) ≡ true
    by_id n true is h = ap (λ i. not (there i cs)) (eqb-true n id is) ∙ ap not none
    by_id n false is h = ap not (sym (others_stay n id is cs)) ∙ h

    each : (owner : Option ℕ) → has_left (without_connection id cs) owner ≡ true → has_left cs owner ≡ true
    each None e = e
    each (Some n) e = by_id n (n == id) refl e

pub no_more_left : (id : ℕ) (cs : List Connection) → length (without_connection id cs) ≤ length cs
no_more_left id [] = omega arith
no_more_left id (c ∷ cs) = go (c.id == id) (no_more_left id cs)
  where
    go : (b : Bool) → length (without_connection id cs) ≤ length cs
        → length (cond (not b) (c ∷ without_connection id cs) (without_connection id cs)) ≤ length (c ∷ cs)
    go true rest = omega arith
    go false rest = omega arith

pub one_less : (id : ℕ) (cs : List Connection) → there id cs ≡ true
    → length (without_connection id cs) < length cs
one_less id [] is = absurd (false≢true is)
one_less id (c ∷ cs) is = go (c.id == id) refl (one_less id cs)
  where
    go : (b : Bool) → (c.id == id) ≡ b
        → (there id cs ≡ true → length (without_connection id cs) < length cs)
        → length (cond (not b) (c ∷ without_connection id cs) (without_connection id cs)) < length (c ∷ cs)
    go true same next = let rest = no_more_left id cs in omega arith
    go false other next =
        let rest = next (ap (λ b. has_one b c id cs) (sym other) ∙ is) in
        omega arith
