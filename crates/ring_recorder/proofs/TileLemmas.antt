-- Samples and losses of answers that follow one another tile the positions that the answers lead over.
use Rattle.std.proofs.Common.{◌≡◌, ℕ, ◌+◌, ◌<◌, ◌≤◌, ◌⊎◌, List, [], ◌∷◌, ◌++◌, length, get_or, map, refl, sym, ap, ◌∙◌}
use Rattle.std.proofs.Common.{inl, inr, arith, subst, ne_eqb, zero, suc}
use Rattle.std.specs.Prelude.{ℤ, ◌==◌}
use Rattle.std.specs.List.{All, AllPairs, Contains}
use Rattle.std.proofs.lemmas.Bool.{cases_eq, cases_lt, cond-true, cond-false, eq-eqb}
use Rattle.std.proofs.lemmas.List.Elements.{All-nil, All-cons, All-head, All-tail, All-contains}
use Rattle.std.proofs.lemmas.List.Elements.{Contains-append_right, Contains-append_cases}
use Rattle.std.proofs.lemmas.List.Kept.{AllPairs-cons}
use Rattle.sample_ring.specs.declared.got.Got.{Got}
use Rattle.sample_ring.specs.declared.got.Got.TheVariants.{Item, Gap, Empty, End}
use Rattle.sample_ring.specs.declared.view.Entry.{Entry}
use Rattle.sample_ring.specs.Ends.{GoesForward}
use Rattle.sample_ring.specs.Record.{answer, next, Tiles}
use Rattle.ring_recorder.specs.declared.loss.Loss.{Loss}
use Rattle.ring_recorder.specs.Recording.{Placed, items, loss, gap_before, losses}
use Rattle.ring_recorder.specs.Tiling.{IsGiven, IsLost, Tile}

-- ---- answers that follow one another

-- each answer begins where the one before it ended, and goes forward
abbrev Leads : ℕ → List Got → ℕ → Type 0
Leads from [] to = from ≡ to
Leads from (got ∷ answers) to = GoesForward from got × Leads (next got) answers to

leads : (len from : ℕ) (reads : List Entry) (to : ℕ) → Tiles len from reads to
    → All (λ read. GoesForward read.at (answer len read)) reads → Leads from (map (answer len) reads) to
leads len from [] to tile forward = tile
leads len from (read ∷ reads) to tile forward = (
  subst (λ at. GoesForward at (answer len read)) tile.0
      (All-head (λ r. GoesForward r.at (answer len r)) read reads forward),
  leads len (next (answer len read)) reads to tile.1
      (All-tail (λ r. GoesForward r.at (answer len r)) read reads forward),
)

-- ---- positions from one to another

record TileFrom (from to : ℕ) (items : List Placed) (losses : List Loss) : Type 0 where
  pub forward : from ≤ to
  pub whole : (position : ℕ) → from ≤ position → position < to → IsGiven items position ⊎ IsLost losses position
  pub apart : (position : ℕ) → IsGiven items position → ¬ IsLost losses position
  pub items_within : All (λ item. (from ≤ item.at) × (item.at < to)) items
  pub losses_within : All (λ l. (from ≤ l.from) × (l.from < l.to) × (l.to ≤ to)) losses
  pub items_rise : AllPairs (λ item later. item.at < later.at) items
  pub losses_rise : AllPairs (λ l later. l.to < later.from) losses

no_pairs : {X : Type 0} (R : X → X → Type 0) → AllPairs R []
no_pairs R i j d lt within = absurd (omega arith)

none_given : (position : ℕ) → IsGiven [] position → ⊥
none_given position given = let lt = given.1.1 in omega arith

tile_none : (from : ℕ) → TileFrom from from [] []
tile_none from = record {
  forward = omega arith;
  whole = λ position low high. absurd (omega arith);
  apart = λ position given. absurd (none_given position given);
  items_within = All-nil (λ (item : Placed). (from ≤ item.at) × (item.at < from));
  losses_within = All-nil (λ (l : Loss). (from ≤ l.from) × (l.from < l.to) × (l.to ≤ from));
  items_rise = no_pairs (λ (item later : Placed). item.at < later.at);
  losses_rise = no_pairs (λ (l later : Loss). l.to < later.from);
}

is_one : {X : Type 0} (x y : X) → Contains (x ∷ []) y → x ≡ y
is_one x y (zero, lt, e) = e
is_one x y (suc k, lt, e) = absurd (omega arith)

is_first : {X : Type 0} (x : X) (xs : List X) → Contains (x ∷ xs) x
is_first x xs = (0, (let within : 0 < length (x ∷ xs) = omega arith in within), refl)

-- ---- a sample

given_cases : (item : Placed) (items : List Placed) (position : ℕ) → IsGiven (item ∷ items) position
    → (position ≡ item.at) ⊎ IsGiven items position
given_cases item items position given = elim (Contains-append_cases (item ∷ []) items given.0 given.1) [
  | inl first ↦ inl (sym given.2 ∙ sym (ap (λ i. i.at) (is_one item given.0 first)))
  | inr later ↦ inr (given.0, later, given.2)
]

given_later : (item : Placed) (items : List Placed) (position : ℕ) → IsGiven items position
    → IsGiven (item ∷ items) position
given_later item items position given =
    (given.0, Contains-append_right (item ∷ []) items given.0 given.1, given.2)

lost_from : (from to : ℕ) (items : List Placed) (losses : List Loss) (position : ℕ) → TileFrom from to items losses
    → IsLost losses position → from ≤ position
lost_from from to items losses position tile lost =
    let within = All-contains (λ l. (from ≤ l.from) × (l.from < l.to) × (l.to ≤ to)) losses lost.0 tile.losses_within
    lost.1 in
    let low = within.0 in
    let on = lost.2 in
    omega arith

given_from : (from to : ℕ) (items : List Placed) (losses : List Loss) (position : ℕ) → TileFrom from to items losses
    → IsGiven items position → from ≤ position
given_from from to items losses position tile given =
    let within = All-contains (λ i. (from ≤ i.at) × (i.at < to)) items given.0 tile.items_within given.1 in
    let low = within.0 in
    let at = given.2 in
    omega arith

tile_item : (at to : ℕ) (sample : ℤ) (items : List Placed) (losses : List Loss) → TileFrom (at + 1) to items losses
    → TileFrom at to (record { at = at; sample = sample } ∷ items) losses
tile_item at to sample items losses tile =
    let item : Placed = record { at = at; sample = sample } in
    let on = tile.forward in
    record {
      forward = omega arith;
      whole = λ position low high. elim (cases_eq position at) [
        | inl here ↦ inl (item, is_first item items, sym here)
        | inr not_here ↦
            elim (tile.whole position (let later : at + 1 ≤ position = omega arith in later) high) [
              | inl given ↦ inl (given_later item items position given)
              | inr lost ↦ inr lost
            ]
      ];
      apart = λ position given lost. elim (given_cases item items position given) [
        | inl here ↦ let low = lost_from (at + 1) to items losses position tile lost in
            let is : position ≡ at = here in omega arith
        | inr later ↦ tile.apart position later lost
      ];
      items_within = All-cons (λ i. (at ≤ i.at) × (i.at < to)) item items (omega arith, omega arith)
          (λ k d lt. let w = tile.items_within k d lt in let low = w.0 in (omega arith, w.1));
      losses_within = λ k d lt. let w = tile.losses_within k d lt in let low = w.0 in (omega arith, w.1, w.2);
      items_rise = AllPairs-cons (λ i later. i.at < later.at) item items
          (λ k d lt. let w = tile.items_within k d lt in let low = w.0 in omega arith) tile.items_rise;
      losses_rise = tile.losses_rise;
    }

-- ---- a gap

lost_cases : (first : Loss) (others : List Loss) (position : ℕ) → IsLost (first ∷ others) position
    → ((first.from ≤ position) × (position < first.to)) ⊎ IsLost others position
lost_cases first others position lost = elim (Contains-append_cases (first ∷ []) others lost.0 lost.1) [
  | inl here ↦
      inl (subst (λ l. (l.from ≤ position) × (position < l.to)) (sym (is_one first lost.0 here)) (lost.2, lost.3))
  | inr later ↦ inr (lost.0, later, lost.2, lost.3)
]

lost_later : (first : Loss) (others : List Loss) (position : ℕ) → IsLost others position
    → IsLost (first ∷ others) position
lost_later first others position lost =
    (lost.0, Contains-append_right (first ∷ []) others lost.0 lost.1, lost.2, lost.3)

lost_here : (first : Loss) (others : List Loss) (position : ℕ) → first.from ≤ position → position < first.to
    → IsLost (first ∷ others) position
lost_here first others position low high = (first, is_first first others, low, high)

-- a gap as a loss of its own
tile_apart : (from gap_end to : ℕ) (items : List Placed) (losses : List Loss) → from < gap_end
    → TileFrom gap_end to items losses → All (λ l. gap_end < l.from) losses
    → TileFrom from to items (loss from gap_end ∷ losses)
tile_apart from gap_end to items losses on tile later =
    let far = tile.forward in
    record {
      forward = omega arith;
      whole = λ position low high. elim (cases_lt position gap_end) [
        | inl within ↦ inr (lost_here (loss from gap_end) losses position low within)
        | inr past ↦ elim (tile.whole position past high) [
          | inl given ↦ inl given
          | inr lost ↦ inr (lost_later (loss from gap_end) losses position lost)
        ]
      ];
      apart = λ position given lost. elim (lost_cases (loss from gap_end) losses position lost) [
        | inl here ↦ let low = given_from gap_end to items losses position tile given in let high = here.1 in
            omega arith
        | inr other ↦ tile.apart position given other
      ];
      items_within = λ k d lt. let w = tile.items_within k d lt in let low = w.0 in (omega arith, w.1);
      losses_within = All-cons (λ l. (from ≤ l.from) × (l.from < l.to) × (l.to ≤ to)) (loss from gap_end) losses
          (omega arith, on, far)
          (λ k d lt. let w = tile.losses_within k d lt in let low = w.0 in (omega arith, w.1, w.2));
      items_rise = tile.items_rise;
      losses_rise = AllPairs-cons (λ l next. l.to < next.from) (loss from gap_end) losses later tile.losses_rise;
    }

-- a gap before a loss that begins where it ends
tile_joined : (from gap_end to : ℕ) (items : List Placed) (next : Loss) (others : List Loss) → from < gap_end
    → next.from ≡ gap_end → TileFrom gap_end to items (next ∷ others)
    → TileFrom from to items (loss from next.to ∷ others)
tile_joined from gap_end to items next others on meets tile =
    let far = tile.forward in
    let first = All-head (λ l. (gap_end ≤ l.from) × (l.from < l.to) × (l.to ≤ to)) next others tile.losses_within in
    let fits : next.from < next.to = first.1 in
    let within : next.to ≤ to = first.2 in
    let rest = All-tail (λ l. (gap_end ≤ l.from) × (l.from < l.to) × (l.to ≤ to)) next others tile.losses_within in
    record {
      forward = omega arith;
      whole = λ position low high. elim (cases_lt position next.to) [
        | inl before ↦ inr (lost_here (loss from next.to) others position low before)
        | inr past ↦ elim (tile.whole position (let p : gap_end ≤ position = omega arith in p) high) [
          | inl given ↦ inl given
          | inr lost ↦ elim (lost_cases next others position lost) [
            | inl here ↦ let high' = here.1 in absurd (omega arith)
            | inr later ↦ inr (lost_later (loss from next.to) others position later)
          ]
        ]
      ];
      apart = λ position given lost. elim (lost_cases (loss from next.to) others position lost) [
        | inl here ↦
            let low = given_from gap_end to items (next ∷ others) position tile given in
            tile.apart position given (lost_here next others position (omega arith) here.1)
        | inr later ↦ tile.apart position given (lost_later next others position later)
      ];
      items_within = λ k d lt. let w = tile.items_within k d lt in let low = w.0 in (omega arith, w.1);
      losses_within = All-cons (λ l. (from ≤ l.from) × (l.from < l.to) × (l.to ≤ to)) (loss from next.to) others
          (omega arith, omega arith, within)
          (λ k d lt. let w = rest k d lt in let low = w.0 in (omega arith, w.1, w.2));
      items_rise = tile.items_rise;
      losses_rise = AllPairs-cons (λ l later. l.to < later.from) (loss from next.to) others
          (pairs_head next others tile.losses_rise) (pairs_tail next others tile.losses_rise);
    }
  where
    pairs_head : (x : Loss) (xs : List Loss) → AllPairs (λ l later. l.to < later.from) (x ∷ xs)
        → All (λ later. x.to < later.from) xs
    pairs_head x xs h k d lt = h 0 (suc k) d (omega arith) (omega arith)

    pairs_tail : (x : Loss) (xs : List Loss) → AllPairs (λ l later. l.to < later.from) (x ∷ xs)
        → AllPairs (λ l later. l.to < later.from) xs
    pairs_tail x xs h i j d lt within = h (suc i) (suc j) d (omega arith) (omega arith)

tile_gap : (from gap_end to : ℕ) (items : List Placed) (losses : List Loss) → from < gap_end
    → TileFrom gap_end to items losses → TileFrom from to items (gap_before from gap_end losses)
tile_gap from gap_end to items [] on tile =
    tile_apart from gap_end to items [] on tile (All-nil (λ (l : Loss). gap_end < l.from))
tile_gap from gap_end to items (next ∷ others) on tile = elim (cases_eq next.from gap_end) [
  | inl meets ↦ subst (TileFrom from to items)
      (sym (cond-true (next.from == gap_end) (loss from next.to ∷ others) (loss from gap_end ∷ next ∷ others)
      (eq-eqb next.from gap_end meets))) (tile_joined from gap_end to items next others on meets tile)
  | inr apart ↦ subst (TileFrom from to items)
      (sym (cond-false (next.from == gap_end) (loss from next.to ∷ others) (loss from gap_end ∷ next ∷ others)
      (ne_eqb next.from gap_end apart))) (tile_apart from gap_end to items (next ∷ others) on tile (past apart))
]
  where
    past : (next.from ≡ gap_end → ⊥) → All (λ l. gap_end < l.from) (next ∷ others)
    past apart =
        let first = All-head (λ l. (gap_end ≤ l.from) × (l.from < l.to) × (l.to ≤ to)) next others tile.losses_within in
        let low : gap_end ≤ next.from = first.0 in
        let fits : next.from < next.to = first.1 in
        All-cons (λ l. gap_end < l.from) next others (omega arith)
        (λ k d lt. let rises : next.to < (get_or others k d).from = tile.losses_rise 0 (suc k) d (omega arith)
        (omega arith) in
        omega arith)

-- ---- all answers

tile_from : (from : ℕ) (answers : List Got) (to : ℕ) → Leads from answers to
    → TileFrom from to (items answers) (losses answers)
tile_from from [] to lead = subst (λ end. TileFrom from end [] []) lead (tile_none from)
tile_from from (Item at sample ∷ answers) to lead =
    subst (λ begin. TileFrom begin to (record { at = at; sample = sample } ∷ items answers) (losses answers)) lead.0.0
    (tile_item at to sample (items answers) (losses answers) (tile_from (at + 1) answers to lead.1))
tile_from from (Gap begin end ∷ answers) to lead =
    subst (λ f. TileFrom f to (items answers) (gap_before begin end (losses answers))) lead.0.0
    (tile_gap begin end to (items answers) (losses answers) lead.0.1 (tile_from end answers to lead.1))
tile_from from (Empty at ∷ answers) to lead =
    subst (λ begin. TileFrom begin to (items answers) (losses answers)) lead.0.0 (tile_from at answers to lead.1)
tile_from from (End total ∷ answers) to lead =
    subst (λ begin. TileFrom begin to (items answers) (losses answers)) lead.0.0 (tile_from total answers to lead.1)

-- Of reads that tile the positions from the first on, samples and losses do.
pub tile_of_reads : (len : ℕ) (reads : List Entry) (to : ℕ) → Tiles len 0 reads to
    → All (λ read. GoesForward read.at (answer len read)) reads
    → Tile to (items (map (answer len) reads)) (losses (map (answer len) reads))
tile_of_reads len reads to tiles forward =
    let tile = tile_from 0 (map (answer len) reads) to (leads len 0 reads to tiles forward) in
    record {
      whole = λ position. tile.whole position (omega arith);
      apart = tile.apart;
      items_within = λ k d lt. (tile.items_within k d lt).1;
      losses_within = λ k d lt. let w = tile.losses_within k d lt in (w.1, w.2);
      items_rise = tile.items_rise;
      losses_rise = tile.losses_rise;
    }
