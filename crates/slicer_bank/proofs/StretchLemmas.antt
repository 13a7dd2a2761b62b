-- Stretches of answers, and what is heard in them: with one answer more, with many, and up to where.
use Rattle.slicer_bank.proofs.Common.{◌≡◌, ℕ, ◌+◌, ◌-◌, ◌^◌, ◌<◌, ◌≤◌, ℤ, List, [], ◌∷◌, ◌++◌, ◌⊎◌, ⊎_elim, inl, inr}
use Rattle.slicer_bank.proofs.Common.{refl, ap, sym, ◌∙◌, arith, subst, length, zero, suc, append_assoc, fold, Contains}
use Rattle.slicer_bank.proofs.Common.{cases_lt, append-nil, nil_from_length, length_push, fold-append}
use Rattle.slicer_bank.proofs.Common.{Contains-append_left, Contains-append_right, Contains-append_cases, windows_in}
use Rattle.slicer_bank.proofs.Common.{offset_from, length-bits, Got, Item, Gap, Empty, End, GoesForward, next}
use Rattle.slicer_bank.proofs.Common.{Candidate, IsCandidate, IsHeardIn, EndsWithGot, Leads, Stretch, with_sample}
use Rattle.slicer_bank.proofs.Common.{stretch_after, last_stretch, end_of, position_after, stretch_bits, EndsLast}
use Rattle.slicer_bank.specs.HeardOnRing.{EndsInStretch}
use Rattle.slicer_bank.specs.Stretches.{stretch_at, stretches_from}
use Rattle.slicer_bank.proofs.CandidateLemmas.{end_within, candidate_more, candidate_less, ends_with_last}
use Rattle.slicer_bank.proofs.CandidateLemmas.{candidate_at_last}

-- a stretch with no sample has no bit
pub no_bits : (offset begin : ℕ) → stretch_bits offset (stretch_at begin) ≡ []
no_bits offset begin =
    let none : windows_in (offset_from offset begin) 0 ≡ 0 = omega arith in
    nil_from_length (stretch_bits offset (stretch_at begin)) (length-bits (offset_from offset begin) [] ∙ none)

-- ---- what ends in a stretch is a candidate of its samples, moved to its begin

moved : Stretch → Candidate → Candidate
moved s item = record { end = item.end - s.begin; offset = offset_from item.offset s.begin; octets = item.octets }

abbrev pub InStretch : Stretch → Candidate → Type 0
InStretch s item = (index : ℕ) × EndsInStretch s item index

begins_before : (s : Stretch) (item : Candidate) → InStretch s item → s.begin ≤ item.end
begins_before s item h = let e = h.1.end_of in omega arith

is_candidate : (s : Stretch) (item : Candidate) → InStretch s item → IsCandidate s.samples (moved s item)
unfolding moved
is_candidate s item h = record {
  offset = omega arith;
  index = h.0;
  ends = record { within = h.1.within; end_of = (let e = h.1.end_of in omega arith); frame = h.1.frame };
}

in_stretch : (s : Stretch) (item : Candidate) → s.begin ≤ item.end → IsCandidate s.samples (moved s item)
    → InStretch s item
unfolding moved
in_stretch s item le c = (
  c.index,
  record {
    within = c.ends.within;
    end_of = (let e = c.ends.end_of in omega arith);
    frame = c.ends.frame;
  },
)

-- it ends within the stretch
pub ends_in : (s : Stretch) (item : Candidate) → InStretch s item → item.end ≤ end_of s
unfolding moved
ends_in s item h = let e = end_within s.samples (moved s item) (is_candidate s item h) in let b =
    begins_before s item h in omega arith

-- nothing ends in a stretch with no sample
pub none_ends : (begin : ℕ) (item : Candidate) → InStretch (stretch_at begin) item → ⊥
none_ends begin item h =
    let n = length-bits (offset_from item.offset begin) [] in
    let l = h.1.within in
    omega arith

-- a stretch with one more sample
more_in : (s : Stretch) (x : ℤ) (item : Candidate) → InStretch s item → InStretch (with_sample s x) item
unfolding moved
more_in s x item h = in_stretch (with_sample s x) item (begins_before s item h)
    (candidate_more s.samples (x ∷ []) (moved s item) (is_candidate s item h))

less_in : (s : Stretch) (x : ℤ) (item : Candidate) → InStretch (with_sample s x) item
    → InStretch s item ⊎ (EndsLast item.offset (with_sample s x) item.octets × (item.end ≡ end_of (with_sample s x)))
unfolding moved
less_in s x item h =
    let all : List ℤ = s.samples ++ x ∷ [] in
    let c : IsCandidate all (moved s item) = is_candidate (with_sample s x) item h in
    let within = end_within all (moved s item) c in
    let size : length all ≡ length s.samples + 1 = length_push s.samples x in
    let b : s.begin ≤ item.end = begins_before (with_sample s x) item h in
    elim (cases_lt (length s.samples) (item.end - s.begin)) [
      | inl lt ↦ let last : item.end - s.begin ≡ length all = omega arith in
          inr (ends_with_last all (moved s item) c last, (let e : item.end ≡ s.begin + length all = omega arith in e))
      | inr le ↦ inl (in_stretch s item b (candidate_less s.samples (x ∷ []) (moved s item) c le))
    ]

last_in : (s : Stretch) (item : Candidate) → EndsLast item.offset s item.octets → item.end ≡ end_of s → InStretch s item
unfolding moved
last_in s item ends e =
    in_stretch s item (omega arith) (candidate_at_last s.samples (moved s item) (omega arith)
    (let k : item.end - s.begin ≡ length s.samples = omega arith in k) ends)

-- ---- the stretches of answers: those that a gap has ended, and the last

closed_from : Stretch → List Got → List Stretch
closed_from s [] = []
closed_from s (Item at x ∷ a) = closed_from (with_sample s x) a
closed_from s (Gap from to ∷ a) = s ∷ closed_from (stretch_at to) a
closed_from s (Empty at ∷ a) = closed_from s a
closed_from s (End total ∷ a) = closed_from s a

parts : (s : Stretch) (a : List Got) → stretches_from s a ≡ closed_from s a ++ fold stretch_after s a ∷ []
unfolding closed_from
parts s [] = refl
parts s (Item at x ∷ a) = parts (with_sample s x) a
parts s (Gap from to ∷ a) = ap (λ l. s ∷ l) (parts (stretch_at to) a)
parts s (Empty at ∷ a) = parts s a
parts s (End total ∷ a) = parts s a

-- the stretch that an answer ends
ended_by : Stretch → Got → List Stretch
ended_by s (Item at x) = []
ended_by s (Gap from to) = s ∷ []
ended_by s (Empty at) = []
ended_by s (End total) = []

closed-more : (s : Stretch) (a : List Got) (got : Got) → closed_from s (a ++ got ∷ [])
    ≡ closed_from s a ++ ended_by (fold stretch_after s a) got
unfolding closed_from ended_by
closed-more s [] (Item at x) = refl
closed-more s [] (Gap from to) = refl
closed-more s [] (Empty at) = refl
closed-more s [] (End total) = refl
closed-more s (Item at x ∷ a) got = closed-more (with_sample s x) a got
closed-more s (Gap from to ∷ a) got = ap (λ l. s ∷ l) (closed-more (stretch_at to) a got)
closed-more s (Empty at ∷ a) got = closed-more s a got
closed-more s (End total ∷ a) got = closed-more s a got

pub last-more : (a : List Got) (got : Got) → last_stretch (a ++ got ∷ []) ≡ stretch_after (last_stretch a) got
last-more a got = fold-append stretch_after (stretch_at 0) a (got ∷ [])

closed : List Got → List Stretch
closed a = closed_from (stretch_at 0) a

contains_one : (x y : Stretch) → Contains (x ∷ []) y → x ≡ y
contains_one x y (zero, l, e) = e
contains_one x y (suc k, l, e) = absurd (omega arith)

-- what is heard is heard in a stretch that a gap has ended, or in the last
heard_cases : (a : List Got) (item : Candidate) → IsHeardIn a item
    → ((s : Stretch) × Contains (closed a) s × InStretch s item) ⊎ InStretch (last_stretch a) item
unfolding closed
heard_cases a item h =
    ⊎_elim (λ (c : Contains (closed a) h.stretch). inl (h.stretch, c, (h.index, h.ends)))
    (λ (c : Contains (last_stretch a ∷ []) h.stretch). inr
    (subst (λ s. InStretch s item) (sym (contains_one (last_stretch a) h.stretch c)) (h.index, h.ends)))
    (Contains-append_cases (closed a) (last_stretch a ∷ []) h.stretch
    (subst (λ l. Contains l h.stretch) (parts (stretch_at 0) a) h.is))

closed_heard : (a : List Got) (item : Candidate) (s : Stretch) → Contains (closed a) s → InStretch s item
    → IsHeardIn a item
unfolding closed
closed_heard a item s c i = record {
  stretch = s;
  is = subst (λ l. Contains l s) (sym (parts (stretch_at 0) a))
      (Contains-append_left (closed a) (last_stretch a ∷ []) s c);
  index = i.0;
  ends = i.1;
}

last_heard : (a : List Got) (item : Candidate) → InStretch (last_stretch a) item → IsHeardIn a item
unfolding closed
last_heard a item i = record {
  stretch = last_stretch a;
  is = subst (λ l. Contains l (last_stretch a)) (sym (parts (stretch_at 0) a))
      (Contains-append_right (closed a) (last_stretch a ∷ []) (last_stretch a)
      (0, (let l : 0 < length (last_stretch a ∷ []) = omega arith in l), refl));
  index = i.0;
  ends = i.1;
}

closed_more : (a : List Got) (got : Got) (s : Stretch) → Contains (closed a ++ ended_by (last_stretch a) got) s
    → Contains (closed (a ++ got ∷ [])) s
unfolding closed
closed_more a got s c = subst (λ l. Contains l s) (sym (closed-more (stretch_at 0) a got)) c

-- ---- one answer more

grow : (s : Stretch) (got : Got) (item : Candidate) → InStretch s item
    → Contains (ended_by s got) s ⊎ InStretch (stretch_after s got) item
unfolding ended_by
grow s (Item at x) item i = inr (more_in s x item i)
grow s (Gap from to) item i = inl (0, (let l : 0 < length (s ∷ []) = omega arith in l), refl)
grow s (Empty at) item i = inr i
grow s (End total) item i = inr i

pub heard_more : (a : List Got) (got : Got) (item : Candidate) → IsHeardIn a item → IsHeardIn (a ++ got ∷ []) item
heard_more a got item h =
    let all : List Got = a ++ got ∷ [] in
    let ended : List Stretch = ended_by (last_stretch a) got in
    ⊎_elim (λ (c : (s : Stretch) × Contains (closed a) s × InStretch s item). closed_heard all item c.0
    (closed_more a got c.0 (Contains-append_left (closed a) ended c.0 c.1)) c.2)
    (λ (i : InStretch (last_stretch a) item). ⊎_elim
    (λ (c : Contains ended (last_stretch a)). closed_heard all item (last_stretch a)
    (closed_more a got (last_stretch a) (Contains-append_right (closed a) ended (last_stretch a) c)) i)
    (λ (j : InStretch (stretch_after (last_stretch a) got) item). last_heard all item
    (subst (λ s. InStretch s item) (sym (last-more a got)) j))
    (grow (last_stretch a) got item i))
    (heard_cases a item h)

abbrev pub EndsNow : Stretch → Got → Candidate → Type 0
EndsNow s got item = EndsWithGot item.offset s got item.octets × (item.end ≡ end_of (stretch_after s got))

shrink : (s : Stretch) (got : Got) (item : Candidate) → InStretch (stretch_after s got) item
    → InStretch s item ⊎ EndsNow s got item
shrink s (Item at x) item i = less_in s x item i
shrink s (Gap from to) item i = absurd (none_ends to item i)
shrink s (Empty at) item i = inl i
shrink s (End total) item i = inl i

ended_is : (s : Stretch) (got : Got) (t : Stretch) → Contains (ended_by s got) t → s ≡ t
unfolding ended_by
ended_is s (Item at x) t c = absurd (let l = c.1 in omega arith)
ended_is s (Gap from to) t c = contains_one s t c
ended_is s (Empty at) t c = absurd (let l = c.1 in omega arith)
ended_is s (End total) t c = absurd (let l = c.1 in omega arith)

closed_less : (a : List Got) (got : Got) (s : Stretch) → Contains (closed (a ++ got ∷ [])) s
    → Contains (closed a) s ⊎ (last_stretch a ≡ s)
unfolding closed
closed_less a got s c =
    ⊎_elim (λ (b : Contains (closed a) s). inl b) (λ (e : Contains (ended_by (last_stretch a) got) s). inr
    (ended_is (last_stretch a) got s e))
    (Contains-append_cases (closed a) (ended_by (last_stretch a) got) s
    (subst (λ l. Contains l s) (closed-more (stretch_at 0) a got) c))

pub heard_less : (a : List Got) (got : Got) (item : Candidate) → IsHeardIn (a ++ got ∷ []) item
    → IsHeardIn a item ⊎ EndsNow (last_stretch a) got item
heard_less a got item h =
    ⊎_elim
    (λ (c : (s : Stretch) × Contains (closed (a ++ got ∷ [])) s × InStretch s item). inl
    (⊎_elim (λ (b : Contains (closed a) c.0). closed_heard a item c.0 b c.2)
    (λ (e : last_stretch a ≡ c.0). last_heard a item (subst (λ s. InStretch s item) (sym e) c.2))
    (closed_less a got c.0 c.1)))
    (λ (i : InStretch (last_stretch (a ++ got ∷ [])) item). ⊎_elim
    (λ (j : InStretch (last_stretch a) item). inl (last_heard a item j))
    (λ (e : EndsNow (last_stretch a) got item). inr e)
    (shrink (last_stretch a) got item (subst (λ s. InStretch s item) (last-more a got) i)))
    (heard_cases (a ++ got ∷ []) item h)

new_in : (s : Stretch) (got : Got) (item : Candidate) → EndsNow s got item → InStretch (stretch_after s got) item
new_in s (Item at x) item e = last_in (with_sample s x) item e.0 e.1
new_in s (Gap from to) item e = absurd e.0
new_in s (Empty at) item e = absurd e.0
new_in s (End total) item e = absurd e.0

pub heard_new : (a : List Got) (got : Got) (item : Candidate) → EndsNow (last_stretch a) got item
    → IsHeardIn (a ++ got ∷ []) item
heard_new a got item e = last_heard (a ++ got ∷ []) item
    (subst (λ s. InStretch s item) (sym (last-more a got)) (new_in (last_stretch a) got item e))

-- ---- positions

pub leads_up : (from : ℕ) (a : List Got) (to : ℕ) → Leads from a to → from ≤ to
leads_up from [] to e = omega arith
leads_up from (Item at x ∷ a) to (g, l) = let r = leads_up (at + 1) a to l in let e = g.0 in omega arith
leads_up from (Gap f t ∷ a) to (g, l) = let r = leads_up t a to l in let e = g.0 in let lt = g.1 in omega arith
leads_up from (Empty at ∷ a) to (g, l) = let r = leads_up at a to l in let e = g.0 in omega arith
leads_up from (End total ∷ a) to (g, l) = let r = leads_up total a to l in let e = g.0 in omega arith

-- answers lead nowhere, or to a position below 2^48
pub leads_below : (from : ℕ) (a : List Got) (to : ℕ) → Leads from a to → (from ≡ to) ⊎ (to < 2 ^ 48)
leads_below from [] to e = inl e
leads_below from (Item at x ∷ a) to (g, l) = let lt = g.1 in
    ⊎_elim (λ (e : at + 1 ≡ to). inr (omega arith)) (λ (k : to < 2 ^ 48). inr k) (leads_below (at + 1) a to l)
leads_below from (Gap f t ∷ a) to (g, l) = let lt = g.2 in
    ⊎_elim (λ (e : t ≡ to). inr (omega arith)) (λ (k : to < 2 ^ 48). inr k) (leads_below t a to l)
leads_below from (Empty at ∷ a) to (g, l) = let lt = g.1 in
    ⊎_elim (λ (e : at ≡ to). inr (omega arith)) (λ (k : to < 2 ^ 48). inr k) (leads_below at a to l)
leads_below from (End total ∷ a) to (g, l) = let lt = g.1 in
    ⊎_elim (λ (e : total ≡ to). inr (omega arith)) (λ (k : to < 2 ^ 48). inr k) (leads_below total a to l)

pub leads_more : (from : ℕ) (a : List Got) (to : ℕ) (got : Got) → Leads from a to → GoesForward to got
    → Leads from (a ++ got ∷ []) (next got)
leads_more from [] to got e g = (subst (λ p. GoesForward p got) (sym e) g, refl)
leads_more from (first ∷ a) to got (g0, l) g = (g0, leads_more (next first) a to got l g)

-- the next position is that at which the stretch under way ends
pub next_is : (s : Stretch) (got : Got) → GoesForward (end_of s) got → next got ≡ end_of (stretch_after s got)
next_is s (Item at x) g = let e = g.0 in let n = length_push s.samples x in omega arith
next_is s (Gap from to) g = (let e : to ≡ to + 0 = omega arith in e)
next_is s (Empty at) g = g.0
next_is s (End total) g = g.0

leads_end : (s : Stretch) (a : List Got) (to : ℕ) → Leads (end_of s) a to → end_of (fold stretch_after s a) ≡ to
leads_end s [] to e = e
leads_end s (got ∷ a) to (g, l) = leads_end (stretch_after s got) a to (subst (λ p. Leads p a to) (next_is s got g) l)

pub leads_position : (a : List Got) (to : ℕ) → Leads 0 a to → position_after a ≡ to
leads_position a to l = leads_end (stretch_at 0) a to l

ends_up : (s : Stretch) (a : List Got) (to : ℕ) → Leads (end_of s) a to → (t : Stretch)
    → Contains (stretches_from s a) t → end_of t ≤ to
ends_up s [] to e t c = let k : end_of s ≡ end_of t = ap end_of (contains_one s t c) in omega arith
ends_up s (Item at x ∷ a) to (g, l) t c = ends_up (with_sample s x) a to
    (subst (λ p. Leads p a to) (next_is s (Item at x) g) l) t c
ends_up s (Gap from f ∷ a) to (g, l) t c =
    let up = leads_up f a to l in
    let e = g.0 in
    let lt = g.1 in
    ⊎_elim (λ (h : Contains (s ∷ []) t). let k : end_of s ≡ end_of t = ap end_of (contains_one s t h) in omega arith)
    (λ (h : Contains (stretches_from (stretch_at f) a) t). ends_up (stretch_at f) a to
    (subst (λ p. Leads p a to) (next_is s (Gap from f) g) l) t h)
    (Contains-append_cases (s ∷ []) (stretches_from (stretch_at f) a) t c)
ends_up s (Empty at ∷ a) to (g, l) t c = ends_up s a to (subst (λ p. Leads p a to) g.0 l) t c
ends_up s (End total ∷ a) to (g, l) t c = ends_up s a to (subst (λ p. Leads p a to) g.0 l) t c

-- what is heard ends up to the position
pub heard_within : (a : List Got) (to : ℕ) (item : Candidate) → Leads 0 a to → IsHeardIn a item → item.end ≤ to
heard_within a to item l h =
    let up = ends_up (stretch_at 0) a to l h.stretch h.is in
    let in_it = ends_in h.stretch item (h.index, h.ends) in
    omega arith

-- ---- more answers

pub heard_longer : (a more : List Got) (item : Candidate) → IsHeardIn a item → IsHeardIn (a ++ more) item
heard_longer a [] item h = subst (λ l. IsHeardIn l item) (sym (append-nil a)) h
heard_longer a (got ∷ more) item h = subst (λ l. IsHeardIn l item) (append_assoc a (got ∷ []) more)
    (heard_longer (a ++ got ∷ []) more item (heard_more a got item h))

-- what is heard in more answers and ends up to the first position is heard in the first answers
pub heard_shorter : (a more : List Got) (from to : ℕ) (item : Candidate) → Leads 0 a from → Leads from more to
    → IsHeardIn (a ++ more) item → item.end ≤ from → IsHeardIn a item
heard_shorter a [] from to item l m h le = subst (λ k. IsHeardIn k item) (append-nil a) h
heard_shorter a (got ∷ more) from to item l (g, m) h le =
    let l' : Leads 0 (a ++ got ∷ []) (next got) = leads_more 0 a from got l g in
    let p : position_after a ≡ from = leads_position a from l in
    let up : from ≤ next got = leads_up from (got ∷ []) (next got) (g, refl) in
    let rest : IsHeardIn (a ++ got ∷ []) item
    = heard_shorter (a ++ got ∷ []) more (next got) to item l' m
    (subst (λ k. IsHeardIn k item) (sym (append_assoc a (got ∷ []) more)) h) (omega arith) in
    ⊎_elim (λ (i : IsHeardIn a item). i) (λ (e : EndsNow (last_stretch a) got item). absurd
    (too_late a got from item p g le e)) (heard_less a got item rest)
  where
    too_late : (a : List Got) (got : Got) (from : ℕ) (item : Candidate) → position_after a ≡ from → GoesForward from got
        → item.end ≤ from → EndsNow (last_stretch a) got item → ⊥
    too_late a (Item at x) from item p g le (ends, e) = let n = length_push (last_stretch a).samples x in omega arith
    too_late a (Gap f t) from item p g le (ends, e) = ends
    too_late a (Empty at) from item p g le (ends, e) = ends
    too_late a (End total) from item p g le (ends, e) = ends

-- answers that follow others lead on from where these led
pub leads_split : (from : ℕ) (a more : List Got) (to : ℕ) → Leads from (a ++ more) to
    → (middle : ℕ) × Leads from a middle × Leads middle more to
leads_split from [] more to l = (from, refl, l)
leads_split from (got ∷ a) more to (g, l) = let r = leads_split (next got) a more to l in (r.0, (g, r.1), r.2)

pub leads_join : (from : ℕ) (a more : List Got) (middle to : ℕ) → Leads from a middle → Leads middle more to
    → Leads from (a ++ more) to
leads_join from [] more middle to e l = subst (λ p. Leads p more to) (sym e) l
leads_join from (got ∷ a) more middle to (g, l) m = (g, leads_join (next got) a more middle to l m)
