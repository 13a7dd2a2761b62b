-- What each seat knows stays so: of the seat that steps, and of the others.
use Rattle.sample_ring.proofs.Common.{◌≡◌, ◌≢◌, ℕ, ◌+◌, ◌<◌, ◌≤◌, List, length, set, Bool, true, false, true≢false}
use Rattle.sample_ring.proofs.Common.{refl, sym, ap, ◌∙◌, subst, ⊎_elim, zero-le, arith, if◌then◌else◌, ℤ, All-push}
use Rattle.sample_ring.proofs.Common.{All-nil, le-leb, dite, some, dec_le, ℕ_discrete, lt_of_not-le, get_elem?, at_set}
use Rattle.sample_ring.proofs.Common.{Entry, View, lap_of, TellsEnd, StandsAs, Stands, StandsIn, with_read, spent_view}
use Rattle.sample_ring.proofs.Common.{note_of, noted, keeping, entry_of, looked_view, looked_last_view, IsSo}
use Rattle.std.proofs.lemmas.Bool.{lt-leb}
use Rattle.sample_ring.proofs.Laps.{Finds, answer_item, answer_gap, answer_end, answer_empty}
use Rattle.sample_ring.proofs.Growing.{stands_with_read, stands_new, GoesOn, stands_later, all_later}

pub off : false ≡ true → ⊥
off e = true≢false (sym e)

-- all seats
abbrev pub AllSo : ℕ → List ℤ → Bool → ℕ → List View → Type 0
AllSo len published ended writer views = (id : ℕ) (v : View) → get_elem? views id ≡ some v
    → IsSo len published ended writer id v

-- one seat has a new view
pub all_but_one : (F : ℕ → View → Type 0) (views : List View) (id : ℕ) (w : View) → F id w
    → ((j : ℕ) (u : View) → j ≢ id → get_elem? views j ≡ some u → F j u) → (j : ℕ) (u : View)
    → get_elem? (set views id w) j ≡ some u → F j u
all_but_one F views id w mine others j u e =
    ⊎_elim (λ (t : (j ≡ id) × (w ≡ u)). subst (λ (x : ℕ × View). F x.0 x.1) (λ i. (sym t.0 i, t.1 i)) mine)
    (λ (t : (j ≢ id) × (get_elem? views j ≡ some u)). others j u t.0 t.1) (at_set views id j w u e)

pub so_set : (len : ℕ) (published : List ℤ) (ended : Bool) (writer : ℕ) (views : List View) (id : ℕ) (w : View)
    → AllSo len published ended writer views → IsSo len published ended writer id w
    → AllSo len published ended writer (set views id w)
so_set len published ended writer views id w all mine =
    all_but_one (IsSo len published ended writer) views id w mine (λ j u _ e. all j u e)

-- a seat other than the writer's, after the writer's step
pub so_later : (len : ℕ) (before after : List ℤ) (ended : Bool) (writer id : ℕ) (v : View) → GoesOn before after
    → id ≢ writer → IsSo len before false writer id v → IsSo len after ended writer id v
so_later len before after ended writer id v on other so =
    let longer = on.longer in
    let known = so.known in
    record {
      same_len = so.same_len;
      known = omega arith;
      track = stands_later len before after ended v.track on so.track;
      kept = all_later len before after ended v.kept on so.kept;
      waits = so.waits;
      writes = λ w. absurd (other ((so.writes w).0));
    }

pub so_spent : (len : ℕ) (published : List ℤ) (ended : Bool) (writer id : ℕ)
    → IsSo len published ended writer id spent_view
so_spent len published ended writer id = record {
  same_len = λ e. absurd (off e);
  known = zero-le;
  track = stands_new len published ended;
  kept = All-nil (StandsIn len published ended);
  waits = λ e. absurd (off e);
  writes = λ e. absurd (off e);
}

pub so_note : (len : ℕ) (published : List ℤ) (ended : Bool) (writer id j : ℕ) (v : View) → v.lives ≡ true
    → v.writes ≡ true → IsSo len published ended writer id v → IsSo len published ended writer j (note_of v)
so_note len published ended writer id j v lives writes so =
    let list : v.published ≡ published = (so.writes writes).1 in
    let count : length v.published ≡ length published = ap length list in
    record {
      same_len = λ _. so.same_len lives;
      known = omega arith;
      track = stands_new len published ended;
      kept = All-nil (StandsIn len published ended);
      waits = λ e. absurd (off e);
      writes = λ e. absurd (off e);
    }

pub so_noted : (len : ℕ) (published : List ℤ) (ended : Bool) (writer id other : ℕ) (v note : View) → v.waits ≡ false
    → IsSo len published ended writer id v → IsSo len published ended writer other note
    → IsSo len published ended writer id (noted v note)
so_noted len published ended writer id other v note calm so theirs =
    let mine = so.known in
    let their = theirs.known in
    record {
      same_len = so.same_len;
      known = omega arith;
      track = so.track;
      kept = so.kept;
      waits = λ w. absurd (off (sym calm ∙ w));
      writes = so.writes;
    }

pub so_keeping : (len : ℕ) (published : List ℤ) (ended : Bool) (writer id other : ℕ) (v reader : View)
    → IsSo len published ended writer id v → IsSo len published ended writer other reader
    → IsSo len published ended writer id (keeping v reader)
so_keeping len published ended writer id other v reader so theirs =
    record {
      same_len = so.same_len;
      known = so.known;
      track = so.track;
      kept = All-push (StandsIn len published ended) v.kept reader.track so.kept theirs.track;
      waits = so.waits;
      writes = so.writes;
    }

-- a view with one more read
so_read : (len : ℕ) (published : List ℤ) (ended : Bool) (writer id : ℕ) (v : View) (e : Entry) (b : Bool) → v.len ≡ len
    → (b ≡ true → ⊥) → e.at ≡ v.track.at → Stands len published ended e → IsSo len published ended writer id v
    → IsSo len published ended writer id record v { track = with_read v.len v.track e; waits = b }
so_read len published ended writer id v e b size calm same stands so = record {
  same_len = so.same_len;
  known = so.known;
  track = subst (λ (n : ℕ). StandsIn len published ended (with_read n v.track e)) (sym size)
      (stands_with_read len published ended v.track e so.track same stands);
  kept = so.kept;
  waits = λ w. absurd (calm w);
  writes = so.writes;
}

-- a load of the reader's cell
found_stands : (len : ℕ) (published : List ℤ) (ended : Bool) (e : Entry) → Finds len published e.at e.cell
    → e.at < lap_of e.cell → Stands len published ended e
found_stands len published ended e found lt = dite (ℕ_discrete (lap_of e.cell) (e.at + 1))
    (λ own. subst (StandsAs len published ended e.known) (sym (answer_item len e own)) (found.own own))
    (λ other. let later : e.at + 1 < lap_of e.cell = omega arith in
    let far : e.at + len < lap_of e.cell = found.far later in
    let within : lap_of e.cell ≤ length published = found.within later in
    subst (StandsAs len published ended e.known) (sym (answer_gap len e later))
    (omega arith, found.turn later, omega arith))

pub so_looked : (len : ℕ) (published : List ℤ) (ended : Bool) (writer id : ℕ) (v : View) (cell : ℕ) → v.len ≡ len
    → v.waits ≡ false → Finds len published v.track.at cell → IsSo len published ended writer id v
    → IsSo len published ended writer id (looked_view v cell)
so_looked len published ended writer id v cell size calm found so =
    let waiting : View = record v { waits = true; cell = cell } in
    let grown : View = record v { track = with_read v.len v.track (entry_of v cell 0) } in
    let P : Bool → Type 0 = λ b. IsSo len published ended writer id (if b then waiting else grown) in
    dite (dec_le (lap_of cell) v.track.at)
    (λ le. subst P (sym (le-leb (lap_of cell) v.track.at le)) (
    let known = so.known in
    let empty : length published ≤ v.track.at = found.empty le in
    record {
      same_len = so.same_len;
      known = so.known;
      track = so.track;
      kept = so.kept;
      waits = λ _. (le, omega arith);
      writes = so.writes;
    }))
    (λ gt. let lt : v.track.at < lap_of cell = lt_of_not-le gt in
    subst P (sym (lt-leb (lap_of cell) v.track.at lt)) (
    let e : Entry = entry_of v cell 0 in
    so_read len published ended writer id v e v.waits size (λ w. off (sym calm ∙ w)) refl
    (found_stands len published ended e found lt) so))

-- a load of the end word after an empty cell
last_stands : (len : ℕ) (published : List ℤ) (ended : Bool) (e : Entry) → lap_of e.cell ≤ e.at → e.known ≤ e.at
    → e.at ≤ length published → TellsEnd published ended e.last → Stands len published ended e
last_stands len published ended e none_there known within tells = dite (ℕ_discrete e.last (e.at + 1))
    (λ all. subst (StandsAs len published ended e.known) (sym (answer_end len e none_there all))
    (⊎_elim (λ (t : (e.last ≡ 0) × (ended ≡ false)). let nothing = t.0 in absurd (omega arith))
    (λ (t : (e.last ≡ length published + 1) × (ended ≡ true)). let total = t.0 in (t.1, omega arith)) tells))
    (λ other. subst (StandsAs len published ended e.known) (sym (answer_empty len e none_there other)) (within, known))

pub so_looked_last : (len : ℕ) (published : List ℤ) (ended : Bool) (writer id : ℕ) (v : View) (last : ℕ) → v.len ≡ len
    → v.waits ≡ true → TellsEnd published ended last → IsSo len published ended writer id v
    → IsSo len published ended writer id (looked_last_view v last)
so_looked_last len published ended writer id v last size waits tells so =
    let e : Entry = entry_of v v.cell last in
    let between = so.waits waits in
    so_read len published ended writer id v e false size off refl
    (last_stands len published ended e between.0 between.1 so.track.within tells) so
