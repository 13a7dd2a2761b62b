-- A reader that was answered no gap has read the first samples of the published list as one stretch.
use Rattle.std.proofs.Common.{◌≡◌, ℕ, ◌+◌, ◌<◌, ◌≤◌, List, [], ◌∷◌, ◌++◌, length, take, map, get_or, refl, ap, sym, subst}
use Rattle.std.proofs.Common.{◌∙◌, arith}
use Rattle.std.specs.Prelude.{ℤ, pos, zero, suc, Bool, true, false, Some, All, Contains, fold, if◌then◌else◌}
use Rattle.std.specs.List.{slice_get}
use Rattle.std.proofs.lemmas.List.{length-take-le, take_more}
use Rattle.std.proofs.lemmas.List.Elements.{All-head, All-tail}
use Rattle.std.proofs.lemmas.Option.{get_or_from_slice_get, slice_get_within}
use Rattle.sample_ring.specs.declared.got.Got.{Got}
use Rattle.sample_ring.specs.declared.got.Got.TheVariants.{Item, Gap, Empty, End}
use Rattle.sample_ring.specs.declared.view.Entry.{Entry}
use Rattle.sample_ring.specs.Record.{Stands, StandsAs, Tiles, answer, next}
use Rattle.slicer_bank.specs.RingTurns.{gaps_of}
use Rattle.slicer_bank.specs.Stretches.{Stretch, end_of, last_stretch, position_after, stretch_after, stretches}
use Rattle.slicer_bank.specs.Stretches.{stretches_from}

-- Answers without a gap lead from a position of a list to another: each sample is that of its position.
abbrev pub ReadsOn : List ℤ → ℕ → List Got → ℕ → Type 0
ReadsOn x from [] to = from ≡ to
ReadsOn x from (Item at sample ∷ answers) to =
    (at ≡ from) × (slice_get x at ≡ Some sample) × ReadsOn x (at + 1) answers to
ReadsOn x from (Gap start end ∷ answers) to = ⊥
ReadsOn x from (Empty at ∷ answers) to = ReadsOn x from answers to
ReadsOn x from (End total ∷ answers) to = ReadsOn x from answers to

-- the answers of a reader that has read so many samples from the first on
pub record HasRead (x : List ℤ) (answers : List Got) : Type 0 where
  pub place : ℕ
  pub within : place ≤ length x
  pub reads : ReadsOn x 0 answers place

-- ---- from a reader's record

abbrev BeginsAt : ℕ → Got → Type 0
BeginsAt at (Item place sample) = place ≡ at
BeginsAt at (Gap from to) = from ≡ at
BeginsAt at (Empty place) = place ≡ at
BeginsAt at (End total) = total ≡ at

begins_by : (told over ended : Bool) (at to : ℕ) (sample : ℤ)
    → BeginsAt at (if told then Item at sample else if over then Gap at to else if ended then End at else Empty at)
begins_by true over ended at to sample = refl
begins_by false true ended at to sample = refl
begins_by false false true at to sample = refl
begins_by false false false at to sample = refl

begins_there : (len : ℕ) (e : Entry) → BeginsAt e.at (answer len e)
begins_there len e = begins_by _ _ _ e.at _ _

one_answer : (len known from to at : ℕ) (x : List ℤ) (got : Got) (answers : List Got) → BeginsAt at got → at ≡ from
    → StandsAs len x true known got → gaps_of 0 (got ∷ answers) ≡ []
    → (gaps_of 0 answers ≡ [] → ReadsOn x (next got) answers to) → ReadsOn x from (got ∷ answers) to
one_answer len known from to at x (Item place sample) answers begins there stands none rest =
    (begins ∙ there, stands, rest none)
one_answer len known from to at x (Gap start end) answers begins there stands none rest = absurd (cc none)
one_answer len known from to at x (Empty place) answers begins there stands none rest =
    subst (λ p. ReadsOn x p answers to) (begins ∙ there) (rest none)
one_answer len known from to at x (End total) answers begins there stands none rest =
    subst (λ p. ReadsOn x p answers to) (begins ∙ there) (rest none)

pub record_reads : (len from to : ℕ) (x : List ℤ) (reads : List Entry) → All (Stands len x true) reads
    → Tiles len from reads to → gaps_of 0 (map (answer len) reads) ≡ [] → ReadsOn x from (map (answer len) reads) to
record_reads len from to x [] stand tiles none = tiles
record_reads len from to x (e ∷ reads) stand tiles none =
    one_answer len e.known from to e.at x (answer len e) (map (answer len) reads) (begins_there len e) tiles.0
    (All-head (Stands len x true) e reads stand) none
    (record_reads len (next (answer len e)) to x reads (All-tail (Stands len x true) e reads stand) tiles.1)

-- ---- first answers

pub reads_split : (x : List ℤ) (from to : ℕ) (a b : List Got) → ReadsOn x from (a ++ b) to
    → (middle : ℕ) × ReadsOn x from a middle × ReadsOn x middle b to
reads_split x from to [] b h = (from, refl, h)
reads_split x from to (Item at sample ∷ a) b h =
    let rest = reads_split x (at + 1) to a b h.2 in (rest.0, (h.0, h.1, rest.1), rest.2)
reads_split x from to (Gap start end ∷ a) b h = absurd h
reads_split x from to (Empty at ∷ a) b h = reads_split x from to a b h
reads_split x from to (End total ∷ a) b h = reads_split x from to a b h

pub reads_up : (x : List ℤ) (from to : ℕ) (a : List Got) → ReadsOn x from a to → from ≤ to
reads_up x from to [] h = omega arith
reads_up x from to (Item at sample ∷ a) h = let same = h.0 in let up = reads_up x (at + 1) to a h.2 in omega arith
reads_up x from to (Gap start end ∷ a) h = absurd h
reads_up x from to (Empty at ∷ a) h = reads_up x from to a h
reads_up x from to (End total ∷ a) h = reads_up x from to a h

-- what was read before more was
pub has_read_first : (x : List ℤ) (a b all : List Got) → all ≡ a ++ b → HasRead x all → HasRead x a
has_read_first x a b all is h =
    let parts = reads_split x 0 h.place a b (subst (λ answers. ReadsOn x 0 answers h.place) is h.reads) in
    let up = reads_up x parts.0 h.place b parts.2 in
    let within = h.within in
    record { place = parts.0; within = omega arith; reads = parts.1 }

-- and more leads no less far
pub reads_rise : (x : List ℤ) (a b all : List Got) (is : all ≡ a ++ b) (h : HasRead x all)
    → (has_read_first x a b all is h).place ≤ h.place
unfolding has_read_first
reads_rise x a b all is h =
    let parts = reads_split x 0 h.place a b (subst (λ answers. ReadsOn x 0 answers h.place) is h.reads) in
    reads_up x parts.0 h.place b parts.2

-- ---- one stretch

-- the first samples of a list, as a stretch
abbrev pub first_of : List ℤ → ℕ → Stretch
first_of x count = record { begin = 0; samples = take count x }

one_more : (x : List ℤ) (at from : ℕ) (sample : ℤ) → at ≡ from → slice_get x at ≡ Some sample
    → record { begin = 0; samples = take from x ++ sample ∷ [] } ≡ first_of x (at + 1)
one_more x at from sample same is =
    let within : at < length x = slice_get_within x at sample is in
    let more : take (at + 1) x ≡ take at x ++ get_or x at (pos 0) ∷ [] = take_more x at (pos 0) within in
    let all : take from x ++ sample ∷ [] ≡ take (at + 1) x =
    ap (λ n. take n x ++ sample ∷ []) (sym same)
    ∙ ap (λ s. take at x ++ s ∷ []) (sym (get_or_from_slice_get x at sample (pos 0) is)) ∙ sym more in
    ap (λ xs. record { begin = 0; samples = xs }) all

stretches_on : (x : List ℤ) (from to : ℕ) (a : List Got) → ReadsOn x from a to
    → stretches_from (first_of x from) a ≡ first_of x to ∷ []
stretches_on x from to [] h = ap (λ n. first_of x n ∷ []) h
stretches_on x from to (Item at sample ∷ a) h =
    ap (λ s. stretches_from s a) (one_more x at from sample h.0 h.1) ∙ stretches_on x (at + 1) to a h.2
stretches_on x from to (Gap start end ∷ a) h = absurd h
stretches_on x from to (Empty at ∷ a) h = stretches_on x from to a h
stretches_on x from to (End total ∷ a) h = stretches_on x from to a h

last_on : (x : List ℤ) (from to : ℕ) (a : List Got) → ReadsOn x from a to
    → fold stretch_after (first_of x from) a ≡ first_of x to
last_on x from to [] h = ap (first_of x) h
last_on x from to (Item at sample ∷ a) h =
    ap (λ s. fold stretch_after s a) (one_more x at from sample h.0 h.1) ∙ last_on x (at + 1) to a h.2
last_on x from to (Gap start end ∷ a) h = absurd h
last_on x from to (Empty at ∷ a) h = last_on x from to a h
last_on x from to (End total ∷ a) h = last_on x from to a h

pub one_stretch : (x : List ℤ) (answers : List Got) (h : HasRead x answers)
    → stretches answers ≡ first_of x h.place ∷ []
one_stretch x answers h = stretches_on x 0 h.place answers h.reads

-- the only stretch
pub the_stretch : (x : List ℤ) (answers : List Got) (h : HasRead x answers) (s : Stretch)
    → Contains (stretches answers) s → s ≡ first_of x h.place
the_stretch x answers h s is = only (subst (λ ss. Contains ss s) (one_stretch x answers h) is)
  where
    only : Contains (first_of x h.place ∷ []) s → s ≡ first_of x h.place
    only (zero, l, e) = sym e
    only (suc k, l, e) = absurd (omega arith)

pub has_stretch : (x : List ℤ) (answers : List Got) (h : HasRead x answers)
    → Contains (stretches answers) (first_of x h.place)
has_stretch x answers h =
    subst (λ ss. Contains ss (first_of x h.place)) (sym (one_stretch x answers h)) (0, omega arith, refl)

-- the position is the count of the samples
pub position_read : (x : List ℤ) (answers : List Got) (h : HasRead x answers) → position_after answers ≡ h.place
position_read x answers h =
    let size = length-take-le h.place x h.within in
    let end : end_of (first_of x h.place) ≡ h.place = omega arith in
    ap end_of (last_on x 0 h.place answers h.reads) ∙ end

-- with more answers it is no less
pub positions_rise : (x : List ℤ) (a b all : List Got) → all ≡ a ++ b → HasRead x all
    → position_after a ≤ position_after all
positions_rise x a b all is h =
    let first = position_read x a (has_read_first x a b all is h) in
    let last = position_read x all h in
    let up = reads_rise x a b all is h in
    omega arith
