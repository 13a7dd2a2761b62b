-- What lanes hear that hear each item by itself, of a stretch that grows and over all stretches of answers.
use Rattle.stretch_reader.proofs.Common.{◌≡◌, ◌≢◌, ◌⊎◌, ⊎_elim, inl, inr, ℕ, ◌+◌, ◌<◌, ◌≤◌, List, [], ◌∷◌, ◌++◌}
use Rattle.stretch_reader.proofs.Common.{zero, suc, length, get_or, refl, ap, sym, subst, ◌∙◌, arith, All, All-append, All-nil}
use Rattle.stretch_reader.proofs.Common.{Got, Item, Gap, Empty, End, Candidate, Leads, Stretch, stretch_at, with_sample, stretches}
use Rattle.stretch_reader.proofs.Common.{stretches_from, AreAllIn, AreApart, AreHeardIn, AreHeardOf, AreMore, IsIn}
use Rattle.stretch_reader.proofs.Common.{HaveHeard}
use Rattle.std.specs.List.{Contains}
use Rattle.std.proofs.Common.{length-append}
use Rattle.std.proofs.lemmas.List.{get_or-append-add, get_or_append_left}
use Rattle.std.proofs.lemmas.List.Elements.{All-cons, Contains-append_cases, Contains-append_left, Contains-append_right}
use Rattle.frame_merge.specs.Order.{standing}
use Rattle.slicer_bank.proofs.CandidateLemmas.{AllPairs-append}
use Rattle.slicer_bank.proofs.StretchLemmas.{next_is}
use Rattle.slicer_bank.specs.Stretches.{end_of, last_stretch}
use Rattle.stretch_reader.proofs.HeardLemmas.{all_right, heard_all}

-- ---- where stretches lie

-- each stretch ends before those after it begin
abbrev InTurn : List Stretch → Type 0
InTurn [] = Unit {0}
InTurn (s ∷ ss) = All (λ t. end_of s ≤ t.begin) ss × InTurn ss

begin_from : (low : ℕ) (s : Stretch) (a : List Got) (to : ℕ) → low ≤ s.begin → Leads (end_of s) a to
    → All (λ t. low ≤ t.begin) (stretches_from s a)
begin_from low s [] to h l = All-cons (λ t. low ≤ t.begin) s [] h (All-nil (λ t. low ≤ t.begin))
begin_from low s (Item at x ∷ a) to h (g, l) =
    begin_from low (with_sample s x) a to h (subst (λ p. Leads p a to) (next_is s (Item at x) g) l)
begin_from low s (Gap from f ∷ a) to h (g, l) =
    let e = g.0 in
    let lt = g.1 in
    All-cons (λ t. low ≤ t.begin) s (stretches_from (stretch_at f) a) h
    (begin_from low (stretch_at f) a to (omega (arith, e, lt, h))
    (subst (λ p. Leads p a to) (next_is s (Gap from f) g) l))
begin_from low s (Empty at ∷ a) to h (g, l) = begin_from low s a to h (subst (λ p. Leads p a to) g.0 l)
begin_from low s (End total ∷ a) to h (g, l) = begin_from low s a to h (subst (λ p. Leads p a to) g.0 l)

in_turn : (s : Stretch) (a : List Got) (to : ℕ) → Leads (end_of s) a to → InTurn (stretches_from s a)
in_turn s [] to l = (All-nil (λ t. end_of s ≤ t.begin), tt)
in_turn s (Item at x ∷ a) to (g, l) =
    in_turn (with_sample s x) a to (subst (λ p. Leads p a to) (next_is s (Item at x) g) l)
in_turn s (Gap from f ∷ a) to (g, l) =
    let on : Leads (end_of (stretch_at f)) a to = subst (λ p. Leads p a to) (next_is s (Gap from f) g) l in
    let e = g.0 in
    let lt = g.1 in
    (begin_from (end_of s) (stretch_at f) a to (omega (arith, e, lt)) on, in_turn (stretch_at f) a to on)
in_turn s (Empty at ∷ a) to (g, l) = in_turn s a to (subst (λ p. Leads p a to) g.0 l)
in_turn s (End total ∷ a) to (g, l) = in_turn s a to (subst (λ p. Leads p a to) g.0 l)

-- ---- lists

none_apart : AreApart []
none_apart i j d ij jl = absurd (omega arith)

-- items of the second of two lists, and those of both
apart_right : (xs ys : List Candidate) → AreApart (xs ++ ys) → AreApart ys
apart_right xs ys h i j d ij jl same =
    let n = length-append xs ys in
    h (length xs + i) (length xs + j) d (omega arith) (omega arith)
    (ap standing (get_or-append-add xs ys i d) ∙ same ∙ ap standing (sym (get_or-append-add xs ys j d)))

apart_across : (xs ys : List Candidate) → AreApart (xs ++ ys) → (old : Candidate) → Contains xs old
    → All (λ item. standing old ≢ standing item) ys
apart_across xs ys h old c k d l same =
    let n = length-append xs ys in
    let within = c.1 in
    let first : get_or (xs ++ ys) c.0 d ≡ old = get_or_append_left xs ys d c.0 within ∙ one xs c.0 d old within ∙ c.2 in
    h c.0 (length xs + k) d (omega arith) (omega arith)
    (ap standing first ∙ same ∙ ap standing (sym (get_or-append-add xs ys k d)))
  where
    one : (zs : List Candidate) (i : ℕ) (d e : Candidate) → i < length zs → get_or zs i d ≡ get_or zs i e
    one [] i d e l = absurd (omega arith)
    one (z ∷ zs) zero d e l = refl
    one (z ∷ zs) (suc i) d e l = one zs i d e (omega arith)

module _ (In : Stretch → Candidate → Type 0) where
  -- ---- one stretch

  pub none_in : (s : Stretch) → ((item : Candidate) → In s item → ⊥) → AreAllIn In s []
  none_in s none = record {
    each = All-nil (In s);
    whole = λ item h. absurd (none item h);
    apart = none_apart;
  }

  -- a stretch has grown: what was heard in it still is, and the rest is new
  pub all_more : (s t : Stretch) (New : Candidate → Type 0) → ((item : Candidate) → In s item → In t item)
      → ((item : Candidate) → New item → In t item) → ((item : Candidate) → In t item → In s item ⊎ New item)
      → ((old item : Candidate) → In s old → New item → standing old ≢ standing item)
      → (own more : List Candidate) → AreAllIn In s own → All New more
      → ((item : Candidate) → New item → Contains more item) → AreApart more → AreAllIn In t (own ++ more)
  all_more s t New grow now shrink others own more h each whole apart = record {
    each = All-append (In t) own more (λ k d l. grow (get_or own k d) (h.each k d l))
        (λ k d l. now (get_or more k d) (each k d l));
    whole = λ item is.
        ⊎_elim (λ (was : In s item). Contains-append_left own more item (h.whole item was))
        (λ (new : New item). Contains-append_right own more item (whole item new)) (shrink item is);
    apart = AllPairs-append (λ item later. standing item ≢ standing later) own more h.apart apart
        (λ i j d il jl. others (get_or own i d) (get_or more j d) (h.each i d il) (each j d jl));
  }

  -- ---- several stretches

  -- the item is heard in one of them
  abbrev InSome : List Stretch → Candidate → Type 0
  InSome ss item = (s : Stretch) × Contains ss s × In s item

  in_first : (s : Stretch) (ss : List Stretch) (item : Candidate) → In s item → InSome (s ∷ ss) item
  in_first s ss item h = (s, (0, (let l : 0 < length (s ∷ ss) = omega arith in l), refl), h)

  in_later : (s : Stretch) (ss : List Stretch) (item : Candidate) → InSome ss item → InSome (s ∷ ss) item
  in_later s ss item h = (h.0, Contains-append_right (s ∷ []) ss h.0 h.1, h.2)

  first_is : (s t : Stretch) → Contains (s ∷ []) t → s ≡ t
  first_is s t (zero, l, e) = e
  first_is s t (suc k, l, e) = absurd (omega arith)

  first_or_later : (s : Stretch) (ss : List Stretch) (item : Candidate) → InSome (s ∷ ss) item
      → In s item ⊎ InSome ss item
  first_or_later s ss item h =
      ⊎_elim (λ (c : Contains (s ∷ []) h.0). inl (subst (λ t. In t item) (sym (first_is s h.0 c)) h.2))
      (λ (c : Contains ss h.0). inr (h.0, c, h.2)) (Contains-append_cases (s ∷ []) ss h.0 h.1)

  each_of : (ss : List Stretch) (items : List Candidate) → AreHeardOf (AreAllIn In) ss items → All (InSome ss) items
  each_of [] items h = subst (All (InSome [])) (sym h) (All-nil (InSome []))
  each_of (s ∷ ss) items h =
      subst (All (InSome (s ∷ ss))) (sym h.4)
      (All-append (InSome (s ∷ ss)) h.0 h.1 (λ k d l. in_first s ss (get_or h.0 k d) (h.2.each k d l))
      (λ k d l. in_later s ss (get_or h.1 k d) (each_of ss h.1 h.3 k d l)))

  whole_of : (ss : List Stretch) (items : List Candidate) (item : Candidate) → AreHeardOf (AreAllIn In) ss items
      → InSome ss item → Contains items item
  whole_of [] items item h one = absurd (let l = one.1.1 in omega arith)
  whole_of (s ∷ ss) items item h one =
      subst (λ l. Contains l item) (sym h.4)
      (⊎_elim (λ (here : In s item). Contains-append_left h.0 h.1 item (h.2.whole item here))
      (λ (there : InSome ss item). Contains-append_right h.0 h.1 item (whole_of ss h.1 item h.3 there))
      (first_or_later s ss item one))

  -- what is heard in a stretch does not stand as what is heard in a later one
  module _ (apart_later : (t s : Stretch) (old item : Candidate) → end_of t ≤ s.begin → In t old → In s item
      → standing old ≢ standing item) where
    apart_of : (ss : List Stretch) (items : List Candidate) → InTurn ss → AreHeardOf (AreAllIn In) ss items
        → AreApart items
    apart_of [] items t h = subst AreApart (sym h) none_apart
    apart_of (s ∷ ss) items t h =
        subst AreApart (sym h.4)
        (AllPairs-append (λ item later. standing item ≢ standing later) h.0 h.1 h.2.apart (apart_of ss h.1 t.1 h.3)
        (λ i j d il jl.
        let one = each_of ss h.1 h.3 j d jl in
        let after : end_of s ≤ one.0.begin
        = subst (λ (u : Stretch). end_of s ≤ u.begin) one.1.2 (t.0 one.1.0 one.0 one.1.1) in
        apart_later s one.0 (get_or h.0 i d) (get_or h.1 j d) after (h.2.each i d il) one.2))

    -- what lanes gave of more answers, beside what they gave of the first of these
    pub more_of : (before now : List Got) (to : ℕ) (given items : List Candidate) → Leads 0 now to
        → AreHeardIn (AreAllIn In) before given → AreHeardIn (AreAllIn In) now (given ++ items)
        → AreMore In before now items
    more_of before now to given items leads h k =
        let all : AreApart (given ++ items)
        = apart_of (stretches now) (given ++ items) (in_turn (stretch_at 0) now to leads) k in
        let each : All (IsIn In now) (given ++ items)
        = λ i d l. let e = each_of (stretches now) (given ++ items) k i d l in
        record { stretch = e.0; is = e.1; heard = e.2 } in
        let known : (item : Candidate) → IsIn In before item → Contains given item
        = λ item old. whole_of (stretches before) given item h (old.stretch, old.is, old.heard) in
        record {
          each = all_right (IsIn In now) given items each;
          still = λ item old.
              let c = Contains-append_left given items item (known item old) in
              subst (IsIn In now) c.2 (each c.0 item c.1);
          whole = λ item is.
              ⊎_elim (λ (c : Contains given item).
              let e = subst (InSome (stretches before)) c.2 (each_of (stretches before) given h c.0 item c.1) in
              inl (record { stretch = e.0; is = e.1; heard = e.2 }))
              (λ (c : Contains items item). inr c)
              (Contains-append_cases given items item
              (whole_of (stretches now) (given ++ items) item k (is.stretch, is.is, is.heard)));
          apart = apart_right given items all;
          other = λ i d l old was. apart_across given items all old (known old was) i d l;
        }

-- lanes that know at each moment what is heard of a stretch gave all that is heard
pub gave_all : (In : Stretch → Candidate → Type 0) (Holds : Stretch → List Candidate → Type 0)
    → ((s : Stretch) (own : List Candidate) → Holds s own → AreAllIn In s own) → (a : List Got) (given : List Candidate)
    → HaveHeard (AreAllIn In) Holds a given → AreHeardIn (AreAllIn In) a given
gave_all In Holds holds a given h =
    subst (AreHeardIn (AreAllIn In) a) (sym h.given_is)
    (heard_all (AreAllIn In) a h.earlier h.own h.ended (holds (last_stretch a) h.own h.holds))
