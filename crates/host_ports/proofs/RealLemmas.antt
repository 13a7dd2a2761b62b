-- The ids of the connections of the system's sockets.
use Rattle.host_ports.proofs.Common.{zero, suc, ◌==◌, ◌||◌, Bool, true, false, List, ◌∷◌, All, filter}
use Rattle.host_ports.proofs.Common.{sym, ap, subst, ◌∙◌, append_assoc, arith, get_or, set}
use Rattle.host_ports.proofs.Common.{eq-eqb, ne_eqb, or_left, or_right, false≢true, flat_map-append, append-nil}
use Rattle.host_ports.proofs.Common.{length-map, All-append, HostEvent, PortKind, Kiss, Agw, Socket, is_among}
use Rattle.host_ports.proofs.Common.{ids_of_sockets, Rise, joined_ids, Admits, MayCome}
use Rattle.std.specs.Prelude.{◌≡◌, ℕ, ◌+◌, ◌<◌, ◌≤◌, [], ◌++◌, length, map, refl}
use Rattle.std.specs.List.{range_with_len}
use Rattle.std.proofs.Common.{cond}
use Rattle.host_ports.specs.RealSockets.{joined_id, joining_as, JoinNext}

-- ---- ids that rise

pub rise_on : (least : ℕ) (ids : List ℕ) (next : ℕ) → Rise least ids next → Rise least (ids ++ next ∷ []) (next + 1)
rise_on least [] next rise = (rise, omega arith)
rise_on least (id ∷ ids) next rise = (rise.0, rise_on (id + 1) ids next rise.1)

below_next : (least : ℕ) (ids : List ℕ) (next : ℕ) → Rise least ids next → least ≤ next
below_next least [] next rise = rise
below_next least (id ∷ ids) next rise =
    let first = rise.0 in let rest = below_next (id + 1) ids next rise.1 in omega arith

pub next_is_new : (least : ℕ) (ids : List ℕ) (next : ℕ) → Rise least ids next → is_among next ids ≡ false
next_is_new least [] next rise = refl
next_is_new least (id ∷ ids) next rise =
    let under = below_next (id + 1) ids next rise.1 in
    ap (λ b. b || is_among next ids) (ne_eqb id next (λ same. absurd (omega (arith, same, under))))
    ∙ next_is_new (id + 1) ids next rise.1

lower : (least less : ℕ) (ids : List ℕ) (next : ℕ) → less ≤ least → Rise least ids next → Rise less ids next
lower least less [] next under rise = omega arith
lower least less (id ∷ ids) next under rise = let first = rise.0 in (omega arith, rise.1)

-- ---- ids that stay

pub ids_set : (sockets : List Socket) (i : ℕ) (d new : Socket) → i < length sockets
    → new.id ≡ (get_or sockets i d).id → ids_of_sockets (set sockets i new) ≡ ids_of_sockets sockets
ids_set [] i d new within same = absurd (omega arith)
ids_set (socket ∷ sockets) zero d new within same = ap (λ id. id ∷ ids_of_sockets sockets) same
ids_set (socket ∷ sockets) (suc i) d new within same =
    ap (λ ids. socket.id ∷ ids) (ids_set sockets i d new (omega arith) same)

pub ids_kept : (sockets now : List Socket) (i : ℕ) (d new : Socket) → ids_of_sockets now ≡ ids_of_sockets sockets
    → i < length sockets → new.id ≡ (get_or now i d).id
    → ids_of_sockets (set now i new) ≡ ids_of_sockets sockets
ids_kept sockets now i d new so_far within same =
    let long : length now ≡ length sockets =
    sym (length-map now (λ (s : Socket). s.id)) ∙ ap length so_far ∙ length-map sockets (λ (s : Socket). s.id) in
    ids_set now i d new (omega (arith, long, within)) same ∙ so_far

pub ids_filtered : (p : ℕ → Bool) (sockets : List Socket)
    → ids_of_sockets (filter (λ socket. p socket.id) sockets) ≡ filter p (ids_of_sockets sockets)
ids_filtered p [] = refl
ids_filtered p (socket ∷ sockets) = either (p socket.id) (ids_filtered p sockets)
  where
    either : (b : Bool)
        → ids_of_sockets (filter (λ one. p one.id) sockets) ≡ filter p (ids_of_sockets sockets)
        → ids_of_sockets (cond b (socket ∷ filter (λ one. p one.id) sockets) (filter (λ one. p one.id) sockets))
        ≡ cond b (socket.id ∷ filter p (ids_of_sockets sockets)) (filter p (ids_of_sockets sockets))
    either true rest = ap (λ ids. socket.id ∷ ids) rest
    either false rest = rest

pub ids_append : (sockets : List Socket) (socket : Socket)
    → ids_of_sockets (sockets ++ socket ∷ []) ≡ ids_of_sockets sockets ++ socket.id ∷ []
ids_append [] socket = refl
ids_append (one ∷ sockets) socket = ap (λ ids. one.id ∷ ids) (ids_append sockets socket)

-- an id at a place is among the ids
pub is_open : (id i : ℕ) (sockets : List Socket) (d : Socket) → i < length sockets → (get_or sockets i d).id ≡ id
    → is_among id (ids_of_sockets sockets) ≡ true
is_open id i [] d within same = absurd (omega arith)
is_open id zero (socket ∷ sockets) d within same =
    or_left (socket.id == id) (is_among id (ids_of_sockets sockets)) (eq-eqb socket.id id same)
is_open id (suc i) (socket ∷ sockets) d within same =
    or_right (socket.id == id) (is_among id (ids_of_sockets sockets)) (is_open id i sockets d (omega arith) same)

-- without some of the connections
pub rise_without : (p : Socket → Bool) (least : ℕ) (sockets : List Socket) (next : ℕ)
    → Rise least (ids_of_sockets sockets) next → Rise least (ids_of_sockets (filter p sockets)) next
rise_without p least [] next rise = rise
rise_without p least (socket ∷ sockets) next rise =
    let rest = rise_without p (socket.id + 1) sockets next rise.1 in
    either (p socket) (rise.0, rest)
    (lower (socket.id + 1) least (ids_of_sockets (filter p sockets)) next (let first = rise.0 in omega arith) rest)
  where
    either : (b : Bool) → Rise least (socket.id ∷ ids_of_sockets (filter p sockets)) next
        → Rise least (ids_of_sockets (filter p sockets)) next
        → Rise least (ids_of_sockets (cond b (socket ∷ filter p sockets) (filter p sockets))) next
    either true kept gone = kept
    either false kept gone = gone

-- ---- connections that join

range_at : (a b n m : ℕ) → a ≡ b → n ≡ m → range_with_len a n ≡ range_with_len b m
range_at a b n m e f = ap (λ k. range_with_len k n) e ∙ ap (range_with_len b) f

range_on : (a n m : ℕ) → range_with_len a n ++ range_with_len (a + n) m ≡ range_with_len a (n + m)
range_on a zero m = range_at (a + 0) a m (0 + m) (omega arith) (omega arith)
range_on a (suc n) m =
    ap (λ xs. a ∷ (range_with_len (a + 1) n ++ xs)) (range_at (a + suc n) ((a + 1) + n) m m (omega arith) refl)
    ∙ ap (λ xs. a ∷ xs) (range_on (a + 1) n m)
    ∙ range_at a a (suc (n + m)) (suc n + m) refl (omega arith)

pub admits_none : (kind : PortKind) (events : List HostEvent) (next : ℕ) → Admits kind events events next next
admits_none kind events next = record { count = 0; more = sym (append-nil events); counted = omega arith }

map_append : {A B : Type 0} (f : A → B) (xs ys : List A) → map f (xs ++ ys) ≡ map f xs ++ map f ys
map_append f [] ys = refl
map_append f (x ∷ xs) ys = ap (λ l. f x ∷ l) (map_append f xs ys)

pub admits_more : (kind : PortKind) (first between last : List HostEvent) (a b c : ℕ) → Admits kind first between a b
    → Admits kind between last b c → Admits kind first last a c
admits_more kind first between last a b c h i = record {
  count = h.count + i.count;
  more =
      i.more ∙ ap (λ l. l ++ map (joining_as kind) (range_with_len b i.count)) h.more
      ∙ append_assoc first (map (joining_as kind) (range_with_len a h.count))
      (map (joining_as kind) (range_with_len b i.count))
      ∙ ap (λ l. first ++ l) (sym (map_append (joining_as kind) (range_with_len a h.count) (range_with_len b i.count))
      ∙ ap (λ k. map (joining_as kind) (range_with_len a h.count ++ range_with_len k i.count)) h.counted
      ∙ ap (map (joining_as kind)) (range_on a h.count i.count));
  counted = let d = h.counted in let e = i.counted in omega arith;
}

ids_joined : (kind : PortKind) (ids : List ℕ) → joined_ids (map (joining_as kind) ids) ≡ ids
ids_joined kind [] = refl
ids_joined kind (id ∷ ids) = ap (λ l. id ∷ l) (ids_joined kind ids)

join_next : (kind : PortKind) (before after : List HostEvent) (a b : ℕ) → Admits kind before after a b
    → JoinNext before after a b
join_next kind before after a b h = record {
  count = h.count;
  ids =
      ap joined_ids h.more ∙ flat_map-append joined_id before (map (joining_as kind) (range_with_len a h.count))
      ∙ ap (λ l. joined_ids before ++ l) (ids_joined kind (range_with_len a h.count));
  counted = h.counted;
}

pub join_both : (first between last : List HostEvent) (a b c : ℕ) → Admits Kiss first between a b
    → Admits Agw between last b c → JoinNext first last a c
join_both first between last a b c h i =
    let one = join_next Kiss first between a b h in
    let two = join_next Agw between last b c i in
    record {
      count = one.count + two.count;
      ids =
          two.ids ∙ ap (λ l. l ++ range_with_len b two.count) one.ids
          ∙ append_assoc (joined_ids first) (range_with_len a one.count) (range_with_len b two.count)
          ∙ ap (λ l. joined_ids first ++ l) (ap (λ k. range_with_len a one.count ++ range_with_len k two.count)
          one.counted ∙ range_on a one.count two.count);
      counted = let d = one.counted in let e = two.counted in omega arith;
    }

-- who joins may come
joins_may_come : (kind : PortKind) (paused ids : List ℕ) → All (MayCome paused) (map (joining_as kind) ids)
joins_may_come kind paused [] = λ k d within. absurd (omega (arith, within))
joins_may_come kind paused (id ∷ ids) = at (joins_may_come kind paused ids)
  where
    at : All (MayCome paused) (map (joining_as kind) ids) → (k : ℕ) (d : HostEvent)
        → k < length (map (joining_as kind) (id ∷ ids))
        → MayCome paused (get_or (map (joining_as kind) (id ∷ ids)) k d)
    at rest zero d within = record { piece = tt; not_paused = λ j e inside same. false≢true same }
    at rest (suc k) d within = rest k d (omega (arith, within))

pub admitted_may_come : (kind : PortKind) (paused : List ℕ) (before after : List HostEvent) (a b : ℕ)
    → Admits kind before after a b → All (MayCome paused) before → All (MayCome paused) after
admitted_may_come kind paused before after a b h may =
    subst (All (MayCome paused)) (sym h.more)
    (All-append (MayCome paused) before (map (joining_as kind) (range_with_len a h.count)) may
    (joins_may_come kind paused (range_with_len a h.count)))
