-- The place of a connection.
use Rattle.host_ports.proofs.Common.{zero, suc, ◌==◌, ◌||◌, Bool, true, false, List, ◌∷◌, cond, Option, Some, None}
use Rattle.host_ports.proofs.Common.{list_any, sym, ◌∙◌, ap, arith, get_or, set, subst, cond-true, cond-false, eqb-true}
use Rattle.host_ports.proofs.Common.{eq-eqb, ne_eqb, true≢false, Client, is_client_of, client_of, with_waiting}
use Rattle.std.specs.Prelude.{◌≡◌, ℕ, ◌<◌, ◌≤◌, [], length, take, refl}
use Rattle.std.proofs.Common.{◌≢◌}

pub client_at : (id : ℕ) (clients : List Client) (k : ℕ) (d : Client) → k < length clients
    → ((j : ℕ) (e : Client) → j < k → (get_or clients j e).id ≡ id → ⊥) → (get_or clients k d).id ≡ id
    → client_of id clients ≡ Some (get_or clients k d)
client_at id [] k d within before here = absurd (omega (arith, within))
client_at id (client ∷ clients) zero d within before here =
    cond-true (client.id == id) (Some client) (client_of id clients) (eq-eqb client.id id here)
client_at id (client ∷ clients) (suc k) d within before here =
    cond-false (client.id == id) (Some client) (client_of id clients) (ne_eqb client.id id (before 0 d (omega arith)))
    ∙ client_at id clients k d (omega (arith, within)) (λ j e less. before (suc j) e (omega (arith, less))) here

pub no_client : (id : ℕ) (clients : List Client) → ((j : ℕ) (e : Client) → j < length clients → (get_or clients j e).id ≡ id → ⊥)
    → client_of id clients ≡ None
no_client id [] before = refl
no_client id (client ∷ clients) before =
    cond-false (client.id == id) (Some client) (client_of id clients) (ne_eqb client.id id (before 0 client (omega arith)))
    ∙ no_client id clients (λ j e less. before (suc j) e (omega (arith, less)))

pub waiting_at : (id : ℕ) (clients : List Client) (k : ℕ) (d : Client) (waiting : List (List ℕ)) → k < length clients
    → ((j : ℕ) (e : Client) → j < k → (get_or clients j e).id ≡ id → ⊥) → (get_or clients k d).id ≡ id
    → with_waiting id waiting clients ≡ set clients k (record (get_or clients k d) { waiting = waiting })
waiting_at id [] k d waiting within before here = absurd (omega (arith, within))
waiting_at id (client ∷ clients) zero d waiting within before here =
    cond-true (client.id == id) (record client { waiting = waiting } ∷ clients) (client ∷ with_waiting id waiting clients)
    (eq-eqb client.id id here)
waiting_at id (client ∷ clients) (suc k) d waiting within before here =
    cond-false (client.id == id) (record client { waiting = waiting } ∷ clients) (client ∷ with_waiting id waiting clients)
    (ne_eqb client.id id (before 0 d (omega arith)))
    ∙ ap (λ rest. client ∷ rest) (waiting_at id clients k d waiting (omega (arith, within))
    (λ j e less. before (suc j) e (omega (arith, less))) here)

there_step : (b : Bool) (one client : Client) (rest : Option Client) (any : Bool) → cond b (Some one) rest ≡ Some client
    → (rest ≡ Some client → any ≡ true) → (b || any) ≡ true
there_step true one client rest any found later = refl
there_step false one client rest any found later = later found

-- whether it is there, by its id
pub there_client : (id : ℕ) (clients : List Client) (client : Client) → client_of id clients ≡ Some client
    → list_any (is_client_of id) clients ≡ true
there_client id [] client found = absurd (cc)
there_client id (one ∷ clients) client found = there_step (one.id == id) one client (client_of id clients)
    (list_any (is_client_of id) clients) found (there_client id clients client)

names_step : (b : Bool) (client : Client) (waiting : List (List ℕ)) (other : ℕ) (clients rest : List Client)
    → list_any (is_client_of other) rest ≡ list_any (is_client_of other) clients
    → list_any (is_client_of other) (cond b (record client { waiting = waiting } ∷ clients) (client ∷ rest))
    ≡ list_any (is_client_of other) (client ∷ clients)
names_step true client waiting other clients rest same = refl
names_step false client waiting other clients rest same = ap (λ b. (client.id == other) || b) same

id_step : (b : Bool) (id : ℕ) (one client : Client) (rest : Option Client) → cond b (Some one) rest ≡ Some client
    → (b ≡ true → one.id ≡ id) → (rest ≡ Some client → client.id ≡ id) → client.id ≡ id
id_step true id one client rest found here later = let same : one ≡ client = cc in ap (λ (l : Client). l.id) (sym same)
    ∙ here refl
id_step false id one client rest found here later = later found

-- who the client is
pub found_id : (id : ℕ) (clients : List Client) (client : Client) → client_of id clients ≡ Some client → client.id ≡ id
found_id id [] client found = absurd (cc)
found_id id (one ∷ clients) client found = id_step (one.id == id) id one client (client_of id clients) found
    (λ is. eqb-true one.id id is) (found_id id clients client)

-- a client with other pieces is the same connection
pub waiting_names : (id other : ℕ) (waiting : List (List ℕ)) (clients : List Client)
    → list_any (is_client_of other) (with_waiting id waiting clients) ≡ list_any (is_client_of other) clients
waiting_names id other waiting [] = refl
waiting_names id other waiting (client ∷ clients) = names_step (client.id == id) client waiting other clients
    (with_waiting id waiting clients) (waiting_names id other waiting clients)

length_step : (b : Bool) (changed client : Client) (clients rest : List Client) → length rest ≡ length clients
    → length (cond b (changed ∷ clients) (client ∷ rest)) ≡ length (client ∷ clients)
length_step true changed client clients rest same = refl
length_step false changed client clients rest same = ap (λ n. suc n) same

pub waiting_length : (id : ℕ) (waiting : List (List ℕ)) (clients : List Client)
    → length (with_waiting id waiting clients) ≡ length clients
waiting_length id waiting [] = refl
waiting_length id waiting (client ∷ clients) = length_step (client.id == id) (record client { waiting = waiting }) client clients
    (with_waiting id waiting clients) (waiting_length id waiting clients)

pub take_end : {A : Type 0} (xs : List A) (i : ℕ) → length xs ≤ i → take i xs ≡ xs
take_end [] zero all = refl
take_end [] (suc i) all = refl
take_end (x ∷ xs) zero all = absurd (omega arith)
take_end (x ∷ xs) (suc i) all = ap (λ rest. x ∷ rest) (take_end xs i (omega (arith, all)))

same_step : (b : Bool) (one client : Client) (rest : Option Client) (clients more : List Client)
    → cond b (Some one) rest ≡ Some client → (rest ≡ Some client → more ≡ clients)
    → cond b (record one { waiting = client.waiting } ∷ clients) (one ∷ more) ≡ one ∷ clients
same_step true one client rest clients more found later = let same : one ≡ client = cc in
    ap (λ (l : Client). record one { waiting = l.waiting } ∷ clients) (sym same)
same_step false one client rest clients more found later = ap (λ all. one ∷ all) (later found)

-- what waits for a connection, written once more
pub waiting_same : (id : ℕ) (clients : List Client) (client : Client) → client_of id clients ≡ Some client
    → with_waiting id client.waiting clients ≡ clients
waiting_same id [] client found = refl
waiting_same id (one ∷ clients) client found = same_step (one.id == id) one client (client_of id clients) clients
    (with_waiting id client.waiting clients) found (waiting_same id clients client)

-- a place that is there has one item
pub get_or_any : {A : Type 0} (xs : List A) (i : ℕ) (a b : A) → i < length xs → get_or xs i a ≡ get_or xs i b
get_or_any [] i a b within = absurd (omega arith)
get_or_any (x ∷ xs) zero a b within = refl
get_or_any (x ∷ xs) (suc i) a b within = get_or_any xs i a b (omega (arith, within))

-- the client at a place has octets that wait, as a look at that place told
pub some_wait : (at : ℕ) (client looked : Client) (seen clients : List Client) → seen ≡ clients → at < length seen
    → client ≡ get_or clients at client → looked ≡ get_or clients at looked → (length looked.waiting == 0) ≡ false
    → client.waiting ≢ []
some_wait at client looked seen clients is within value look some = λ nothing.
    let there : at < length clients = subst (λ ls. at < length ls) is within in
    let one : looked ≡ client = look ∙ get_or_any clients at looked client there ∙ sym value in
    true≢false (sym (eq-eqb (length looked.waiting) 0 (ap (λ (l : Client). length l.waiting) one ∙ ap length nothing))
    ∙ some)
