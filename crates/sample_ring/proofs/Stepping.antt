-- Each kind of step keeps the rule of the table, and tells its caller what `specs/Steps.antt` says.
use Rattle.sample_ring.proofs.Common.{◌≡◌, ◌≢◌, ℕ, zero, suc, ◌+◌, ◌-◌, ◌^◌, ◌%◌, ◌<◌, ◌≤◌, List, [], ◌∷◌, ◌++◌, length}
use Rattle.sample_ring.proofs.Common.{replicate, set, Some, Bool, true, false, refl, sym, ap, ◌∙◌, subst, ⊎_elim, inl}
use Rattle.sample_ring.proofs.Common.{inr, zero-le, arith, if◌then◌else◌, ℤ, All, mod-lt, add-mod_right, le-leb}
use Rattle.sample_ring.proofs.Common.{All-nil, dite, some, ℕ_discrete, get_elem?, opening, at_set, View, lap_of}
use Rattle.sample_ring.proofs.Common.{sample_of, TellsCell, TellsEnd, StandsIn, with_read, spent_view, first_view}
use Rattle.sample_ring.proofs.Common.{note_of, noted, keeping, entry_of, looked_view, looked_last_view, Holds, IsSo}
use Rattle.std.proofs.Common.{◌⊎◌, le_refl, length-append}
use Rattle.std.specs.Prelude.{slice_index}
use Rattle.std.proofs.Math.Nat.{mod-eq_of_lt}
use Rattle.std.proofs.lemmas.List.{set-get_or, length-set, get_or-set_same, get_or-set_other, get_or-replicate}
use Rattle.std.proofs.lemmas.List.{length-replicate}
use mathlib.Core.Option.{none, some-injective, some-ne-none}
use Rattle.atomic_table.specs.Table.{State, Me, step, keeps, stepped, Allows, Splits, Joins}
use Rattle.atomic_table.proofs.Lists.{at_snoc, set_again}
use Rattle.sample_ring.specs.Steps.{published, ended, looked, looked_last, settled}
use Rattle.sample_ring.proofs.Laps.{Finds, finds}
use Rattle.sample_ring.proofs.Growing.{slice_get-front, slice_get-last, stands_new, GoesOn, stands_later, all_later}
use Rattle.sample_ring.proofs.Standing.{AllSo, all_but_one, so_set, so_later, so_spent, so_note, so_noted, so_keeping}
use Rattle.sample_ring.proofs.Standing.{so_looked, so_looked_last, off}

abbrev Table : Type 0
Table = State (Unit {0}) View

abbrev Seated : Type 0
Seated = Me (Unit {0}) View

-- the words stay, and the views become others that are so
with_views : (len : ℕ) (s : Table) (r : Holds len s) (views : List View) → AllSo len r.published r.ended r.writer views
    → Holds len record { words = s.words; homes = s.homes; views = views }
with_views len s r views all =
    record {
      writer = r.writer;
      published = r.published;
      ended = r.ended;
      positive = r.positive;
      room = r.room;
      words = r.words;
      cells = r.cells;
      last = r.last;
      views = all;
    }

-- a load that gives its seat a new view
loads : (len : ℕ) (s : Table) (r : Holds len s) (id i : ℕ) (held : List (ℕ × Unit {0})) (w : View)
    → IsSo len r.published r.ended r.writer id w → Holds len (stepped s i (slice_index s.words i) id held w keeps)
loads len s r id i held w so =
    subst (λ (ws : List ℕ). Holds len record { words = ws; homes = s.homes; views = set s.views id w })
    (sym (set-get_or s.words i 0))
    (with_views len s r (set s.views id w) (so_set len r.published r.ended r.writer s.views id w r.views so))

pub look : (len slots id : ℕ) (me : Seated) (i : ℕ) → me.0.lives ≡ true → me.0.waits ≡ false → i ≡ me.0.track.at % len
    → Allows (Holds len) slots id me i (λ n. n) (looked (step slots i 0 0 none) me)
look len slots id me i lives calm place s r deep at small =
    let v = me.0 in
    let word = slice_index s.words i in
    let so = r.views id v at in
    let size : v.len ≡ len = so.same_len lives in
    let below : v.track.at % len < len = mod-lt v.track.at r.positive in
    let within : v.track.at ≤ length r.published = so.track.within in
    let known : v.known ≤ length r.published = so.known in
    let room : length r.published < 2 ^ 48 - 1 = r.room in
    let tells : TellsCell len r.published (v.track.at % len) word =
    subst (λ (j : ℕ). TellsCell len r.published j word) place (r.cells i (omega arith)) in
    let found : Finds len r.published v.track.at word
    = finds len r.published v.track.at word r.positive within tells in (
      looked_view v word,
      keeps,
      tt,
      loads len s r id i me.1 (looked_view v word)
          (so_looked len r.published r.ended r.writer id v word size calm found so),
      (
        refl,
        record {
          room = omega arith;
          overwritten = λ lt. let far : v.track.at + len < lap_of word = found.far lt in omega arith;
          empty = λ le. let none_left : length r.published ≤ v.track.at = found.empty le in omega arith;
        },
      ),
    )

pub look_last : (len slots id : ℕ) (me : Seated) (i : ℕ) → me.0.lives ≡ true → me.0.waits ≡ true → i ≡ len
    → Allows (Holds len) slots id me i (λ n. n) (looked_last (step slots i 0 0 none) me)
look_last len slots id me i lives waits place s r deep at small =
    let v = me.0 in
    let word = slice_index s.words i in
    let so = r.views id v at in
    let tells : TellsEnd r.published r.ended word =
    subst (λ (j : ℕ). TellsEnd r.published r.ended (slice_index s.words j)) (sym place) r.last in (
      looked_last_view v word,
      keeps,
      tt,
      loads len s r id i me.1 (looked_last_view v word)
          (so_looked_last len r.published r.ended r.writer id v word (so.same_len lives) waits tells so),
      refl,
    )

-- a look after a join
pub settle : (len slots id : ℕ) (me : Seated) (i : ℕ) → me.0.lives ≡ true
    → Allows (Holds len) slots id me i (λ n. n) (settled (step slots i 0 0 none) me)
settle len slots id me i lives s r deep at small =
    let v = me.0 in
    let so = r.views id v at in (
      v,
      keeps,
      tt,
      loads len s r id i me.1 v so,
      (
        refl,
        λ writes.
            let own = so.writes writes in
            subst (λ (n : ℕ). All (StandsIn n v.published v.ended) v.kept) (sym (so.same_len lives))
            (subst (λ (h : List ℤ). All (StandsIn len h v.ended) v.kept) (sym own.1)
            (subst (λ (b : Bool). All (StandsIn len r.published b) v.kept) (sym own.2) so.kept)),
      ),
    )

-- the published list with one sample more
one_more : (list : List ℤ) (x : ℤ) → GoesOn list (list ++ x ∷ [])
one_more list x = record {
  longer = omega (arith, length-append list (x ∷ []));
  same = λ k y e. slice_get-front list (x ∷ []) k y e;
}

-- a cell that is not the one for the next sample
other_cell : (len : ℕ) (list : List ℤ) (x : ℤ) (j word : ℕ) → j < len → j ≢ length list % len
    → TellsCell len list j word → TellsCell len (list ++ x ∷ []) j word
other_cell len list x j word inside other (inl (is_zero, none_yet)) =
    let count = length-append list (x ∷ []) in
    let not_here : length list ≡ j → ⊥ = λ e. let near : length list < len = omega arith in
    other (sym (mod-eq_of_lt near ∙ e)) in
    inl (
      is_zero,
      ⊎_elim (λ (e : length list ≡ j). absurd (not_here e)) (λ (lt : length list < j). omega (arith, count))
          (let t : (length list ≡ j) ⊎ (length list < j) = dite (ℕ_discrete (length list) j) (λ e. inl e)
          (λ ne. inr (omega arith)) in t),
    )
other_cell len list x j word inside other (inr (p, same, within, newest, lap, sample)) =
    let count = length-append list (x ∷ []) in
    let not_turn : length list ≡ p + len → ⊥ = λ e. other (sym (ap (λ k. k % len) e ∙ add-mod_right p len ∙ same)) in
    let close : length list < p + len = dite (ℕ_discrete (length list) (p + len)) (λ e. absurd (not_turn e))
    (λ ne. omega arith) in
    inr (
      p,
      same,
      omega (arith, count),
      omega (arith, count),
      lap,
      slice_get-front list (x ∷ []) p (sample_of word) sample,
    )

-- the word that was stored
new_word : (words : List ℕ) (i j new : ℕ) → j ≡ i → i < length words → slice_index (set words i new) j ≡ new
new_word words i j new here inside = ap (slice_index (set words i new)) here ∙ get_or-set_same words i new 0 inside

pub publish : (len slots id : ℕ) (me : Seated) (i new : ℕ) → me.0.writes ≡ true → me.0.ended ≡ false
    → i ≡ length me.0.published % len → length me.0.published + 1 < 2 ^ 48 - 1 → lap_of new ≡ length me.0.published + 1
    → Allows (Holds len) slots id me i (λ _. new) (λ _. published (step slots i new 0 none) me new)
publish len slots id me i new writes active place room lap s r deep at small =
    let v = me.0 in
    let x = sample_of new in
    let so = r.views id v at in
    let own = so.writes writes in
    let list : v.published ≡ r.published = own.1 in
    let size : length v.published ≡ length r.published = ap length list in
    let goes_on : r.ended ≡ false = sym own.2 ∙ active in
    let after : List ℤ = r.published ++ x ∷ [] in
    let count : length after ≡ length r.published + 1 = length-append r.published (x ∷ []) in
    let place' : i ≡ length r.published % len = place ∙ ap (λ k. k % len) size in
    let below : length r.published % len < len = mod-lt (length r.published) r.positive in
    let positive = r.positive in
    let words = r.words in
    let on : GoesOn r.published after = one_more r.published x in
    let w : View = record v { published = v.published ++ x ∷ [] } in
    let known = so.known in
    let before : (j : ℕ) (u : View) → get_elem? s.views j ≡ some u
    → IsSo len r.published false r.writer j u = λ j u e. subst (λ (b : Bool). IsSo len r.published b r.writer j u)
    goes_on (r.views j u e) in
    let mine : IsSo len r.published false r.writer id v = before id v at in (
      w,
      keeps,
      tt,
      record {
        writer = r.writer;
        published = after;
        ended = false;
        positive = r.positive;
        room = omega arith;
        words = length-set s.words i new ∙ r.words;
        cells = λ j inside. dite (ℕ_discrete j i)
            (λ (here : j ≡ i). inr (
              length r.published,
              sym place' ∙ sym here,
              omega arith,
              omega arith,
              ap lap_of (new_word s.words i j new here (omega arith)) ∙ lap ∙ ap (λ k. k + 1) size,
              slice_get-last r.published x ∙ ap (λ k. Some (sample_of k))
                  (sym (new_word s.words i j new here (omega arith))),
            ))
            (λ other. subst (λ k. TellsCell len after j k) (sym (get_or-set_other s.words i j new 0 other))
            (other_cell len r.published x j (slice_index s.words j) inside (λ e. other (e ∙ sym place'))
            (r.cells j inside)));
        last = subst (λ k. TellsEnd after false k) (sym (get_or-set_other s.words i len new 0 (λ e. omega arith)))
            (⊎_elim (λ (t : (slice_index s.words len ≡ 0) × (r.ended ≡ false)). inl (t.0, refl))
            (λ (t : (slice_index s.words len ≡ length r.published + 1) × (r.ended ≡ true)). absurd
            (off (sym goes_on ∙ t.1))) r.last);
        views = all_but_one (IsSo len after false r.writer) s.views id w
            record {
              same_len = so.same_len;
              known = omega arith;
              track = stands_later len r.published after false v.track on mine.track;
              kept = all_later len r.published after false v.kept on mine.kept;
              waits = so.waits;
              writes = λ _. (own.0, ap (λ (l : List ℤ). l ++ x ∷ []) list, active);
            }
            (λ j u other e. so_later len r.published after false r.writer j u on (λ is. other (is ∙ sym own.0))
            (before j u e));
      },
      refl,
    )

pub finish : (len slots id : ℕ) (me : Seated) (i new : ℕ) → me.0.writes ≡ true → me.0.ended ≡ false → i ≡ len
    → new ≡ length me.0.published + 1 → Allows (Holds len) slots id me i (λ _. new)
    (λ _. ended (step slots i new 0 none) me new)
finish len slots id me i new writes active place total s r deep at small =
    let v = me.0 in
    let so = r.views id v at in
    let own = so.writes writes in
    let list : v.published ≡ r.published = own.1 in
    let size : length v.published ≡ length r.published = ap length list in
    let goes_on : r.ended ≡ false = sym own.2 ∙ active in
    let words = r.words in
    let on : GoesOn r.published r.published = record { longer = le_refl (length r.published); same = λ k x e. e } in
    let w : View = record v { ended = true } in
    let before : (j : ℕ) (u : View) → get_elem? s.views j ≡ some u
    → IsSo len r.published false r.writer j u = λ j u e. subst (λ (b : Bool). IsSo len r.published b r.writer j u)
    goes_on (r.views j u e) in
    let mine : IsSo len r.published false r.writer id v = before id v at in (
      w,
      keeps,
      tt,
      record {
        writer = r.writer;
        published = r.published;
        ended = true;
        positive = r.positive;
        room = r.room;
        words = length-set s.words i new ∙ r.words;
        cells = λ j inside. subst (λ k. TellsCell len r.published j k)
            (sym (get_or-set_other s.words i j new 0 (λ e. omega arith))) (r.cells j inside);
        last = inr (new_word s.words i len new (sym place) (omega arith) ∙ total ∙ ap (λ k. k + 1) size, refl);
        views = all_but_one (IsSo len r.published true r.writer) s.views id w
            record {
              same_len = so.same_len;
              known = so.known;
              track = stands_later len r.published r.published true v.track on mine.track;
              kept = all_later len r.published r.published true v.kept on mine.kept;
              waits = so.waits;
              writes = λ _. (own.0, list, refl);
            }
            (λ j u other e. so_later len r.published r.published true r.writer j u on (λ is. other (is ∙ sym own.0))
            (before j u e));
      },
      refl,
    )

pub cut : (len id : ℕ) (v : View) → v.lives ≡ true → v.writes ≡ true → Splits (Holds len) id v v (note_of v)
cut len id v lives writes s r at =
    with_views len s r (set s.views id v ++ note_of v ∷ [])
    (λ j u e. ⊎_elim (λ (was : get_elem? (set s.views id v) j ≡ some u). r.views j u
    (subst (λ (l : List View). get_elem? l j ≡ some u) (set_again s.views id v at) was))
    (λ (new : note_of v ≡ u). subst (IsSo len r.published r.ended r.writer j) new
    (so_note len r.published r.ended r.writer id j v lives writes (r.views id v at)))
    (at_snoc (set s.views id v) (note_of v) u j e))

-- the seat that is joined into another
theirs : (len : ℕ) (s : Table) (r : Holds len s) (id other : ℕ) (both w : View) → ¬ (other ≡ id)
    → get_elem? (set s.views id both) other ≡ some w → IsSo len r.published r.ended r.writer other w
theirs len s r id other both w apart there = ⊎_elim (λ (t : (other ≡ id) × (both ≡ w)). absurd (apart t.0))
    (λ (t : (other ≢ id) × (get_elem? s.views other ≡ some w)). r.views other w t.1)
    (at_set s.views id other both w there)

joins : (len : ℕ) (s : Table) (r : Holds len s) (id other : ℕ) (both : View)
    → IsSo len r.published r.ended r.writer id both → Holds len record {
      words = s.words;
      homes = s.homes;
      views = set (set s.views id both) other spent_view;
    }
joins len s r id other both so = with_views len s r (set (set s.views id both) other spent_view)
    (so_set len r.published r.ended r.writer (set s.views id both) other spent_view
    (so_set len r.published r.ended r.writer s.views id both r.views so)
    (so_spent len r.published r.ended r.writer other))

pub join_note : (len id other : ℕ) (v note : View) → v.waits ≡ false
    → Joins (Holds len) id v other note (noted v note) spent_view
join_note len id other v note calm s r at apart there =
    joins len s r id other (noted v note) (so_noted len r.published r.ended r.writer id other v note calm
    (r.views id v at) (theirs len s r id other (noted v note) note apart there))

pub join_reader : (len id other : ℕ) (v reader : View)
    → Joins (Holds len) id v other reader (keeping v reader) spent_view
join_reader len id other v reader s r at apart there =
    joins len s r id other (keeping v reader) (so_keeping len r.published r.ended r.writer id other v reader
    (r.views id v at) (theirs len s r id other (keeping v reader) reader apart there))

-- a new ring
so_first : (len j : ℕ) (u : View) → get_elem? (first_view len ∷ []) j ≡ some u → IsSo len [] false 0 j u
so_first len zero u e = subst (IsSo len [] false 0 0) (some-injective (first_view len) u e) record {
  same_len = λ _. refl;
  known = zero-le;
  track = stands_new len [] false;
  kept = All-nil (StandsIn len [] false);
  waits = λ w. absurd (off w);
  writes = λ _. (refl, refl, refl);
}
so_first len (suc j) u e = absurd (some-ne-none u (sym e))

pub opens : (len : ℕ) → 0 < len → Holds len (opening (replicate (len + 1) 0) [] (first_view len))
opens len positive = record {
  writer = 0;
  published = [];
  ended = false;
  positive = positive;
  room = omega arith;
  words = length-replicate (len + 1) 0;
  cells = λ j inside. inl (get_or-replicate (len + 1) j 0 0 (omega arith), zero-le);
  last = inl (get_or-replicate (len + 1) len 0 0 (omega arith), refl);
  views = so_first len;
}

-- a reader whose cell is not yet written has still to load the end word
pub looked_waits : (v : View) (cell : ℕ) → lap_of cell ≤ v.track.at
    → looked_view v cell ≡ record v { waits = true; cell = cell }
looked_waits v cell le =
    let waiting : View = record v { waits = true; cell = cell } in
    let grown : View = record v { track = with_read v.len v.track (entry_of v cell 0) } in
    ap (λ b. if b then waiting else grown) (le-leb (lap_of cell) v.track.at le)
