-- What is heard in answers, stretch by stretch: there is one list if a stretch has one, and it grows with the answers.
use Rattle.stretch_reader.proofs.Common.{◌≡◌, Bool, true, false, List, [], ◌∷◌, ◌++◌, refl, ap, sym, subst, ◌∙◌}
use Rattle.stretch_reader.proofs.Common.{append_assoc, append-nil, fold, All, All-append, All-nil, All-tail, Got, Item, Gap}
use Rattle.stretch_reader.proofs.Common.{Empty, End, Candidate, Stretch, stretch_at, with_sample, stretch_after}
use Rattle.stretch_reader.proofs.Common.{stretches_from, last_stretch, AreDueBy, AreHeardIn, AreHeardOf}
use Rattle.stretch_reader.proofs.Common.{AreDue, ended_from, ended_stretches}

-- ---- the stretches of answers, and the last of them

pub stretches_are : (s : Stretch) (a : List Got) → stretches_from s a ≡ ended_from s a ++ fold stretch_after s a ∷ []
stretches_are s [] = refl
stretches_are s (Item at x ∷ a) = stretches_are (with_sample s x) a
stretches_are s (Gap from to ∷ a) = ap (λ l. s ∷ l) (stretches_are (stretch_at to) a)
stretches_are s (Empty at ∷ a) = stretches_are s a
stretches_are s (End total ∷ a) = stretches_are s a

-- the stretch that an answer ends
abbrev pub ended_by : Stretch → Got → List Stretch
ended_by s (Item at x) = []
ended_by s (Gap from to) = s ∷ []
ended_by s (Empty at) = []
ended_by s (End total) = []

pub ended_more : (s : Stretch) (a : List Got) (got : Got)
    → ended_from s (a ++ got ∷ []) ≡ ended_from s a ++ ended_by (fold stretch_after s a) got
ended_more s [] (Item at x) = refl
ended_more s [] (Gap from to) = refl
ended_more s [] (Empty at) = refl
ended_more s [] (End total) = refl
ended_more s (Item at x ∷ a) got = ended_more (with_sample s x) a got
ended_more s (Gap from to ∷ a) got = ap (λ l. s ∷ l) (ended_more (stretch_at to) a got)
ended_more s (Empty at ∷ a) got = ended_more s a got
ended_more s (End total ∷ a) got = ended_more s a got

module _ (Heard : Stretch → List Candidate → Type 0) where
  -- ---- what is heard of stretches

  pub heard_append : (ss ts : List Stretch) (xs ys : List Candidate) → AreHeardOf Heard ss xs → AreHeardOf Heard ts ys
      → AreHeardOf Heard (ss ++ ts) (xs ++ ys)
  heard_append [] ts xs ys h k = subst (λ l. AreHeardOf Heard ts (l ++ ys)) (sym h) k
  heard_append (s ∷ ss) ts xs ys h k = (
    h.0,
    h.1 ++ ys,
    h.2,
    heard_append ss ts h.1 ys h.3 k,
    ap (λ l. l ++ ys) h.4 ∙ append_assoc h.0 h.1 ys,
  )

  pub heard_one : (s : Stretch) (own : List Candidate) → Heard s own → AreHeardOf Heard (s ∷ []) own
  heard_one s own h = (own, [], h, refl, sym (append-nil own))

  -- what the ended stretches and the last one bring
  pub heard_all : (a : List Got) (earlier own : List Candidate) → AreHeardOf Heard (ended_stretches a) earlier
      → Heard (last_stretch a) own → AreHeardIn Heard a (earlier ++ own)
  heard_all a earlier own h m =
      subst (λ l. AreHeardOf Heard l (earlier ++ own)) (sym (stretches_are (stretch_at 0) a))
      (heard_append (ended_stretches a) (last_stretch a ∷ []) earlier own h (heard_one (last_stretch a) own m))

  -- ---- there is one list

  pub some_heard : ((s : Stretch) → (own : List Candidate) × Heard s own) → (ss : List Stretch)
      → (items : List Candidate) × AreHeardOf Heard ss items
  some_heard some [] = ([], refl)
  some_heard some (s ∷ ss) =
      let own = some s in
      let rest = some_heard some ss in
      (own.0 ++ rest.0, (own.0, rest.0, own.1, rest.1, refl))

  pub one_heard : ((s : Stretch) (own others : List Candidate) → Heard s own → Heard s others → own ≡ others)
      → (ss : List Stretch) (items others : List Candidate) → AreHeardOf Heard ss items → AreHeardOf Heard ss others
      → items ≡ others
  one_heard one [] items others h k = h ∙ sym k
  one_heard one (s ∷ ss) items others h k =
      h.4 ∙ ap (λ l. l ++ h.1) (one s h.0 k.0 h.2 k.2) ∙ ap (λ l. k.0 ++ l) (one_heard one ss h.1 k.1 h.3 k.3)
      ∙ sym k.4

  -- ---- what each of them has

  module _ (P : Candidate → Type 0) (each : (s : Stretch) (own : List Candidate) → Heard s own → All P own) where
    pub heard_each : (ss : List Stretch) (items : List Candidate) → AreHeardOf Heard ss items → All P items
    heard_each [] items h = subst (All P) (sym h) (All-nil P)
    heard_each (s ∷ ss) items h =
        subst (All P) (sym h.4) (All-append P h.0 h.1 (each s h.0 h.2) (heard_each ss h.1 h.3))

pub all_right : {X : Type 0} (P : X → Type 0) (xs ys : List X) → All P (xs ++ ys) → All P ys
all_right P [] ys h = h
all_right P (x ∷ xs) ys h = all_right P xs ys (All-tail P x (xs ++ ys) h)

-- what each item has that is due
module _ (Heard Settled : Stretch → List Candidate → Type 0) (P : Candidate → Type 0)
    (each : (s : Stretch) (own : List Candidate) → Heard s own → All P own)
    (each_settled : (s : Stretch) (own : List Candidate) → Settled s own → All P own) where
  by_now : (ended : Bool) (now : List Got) (items : List Candidate) → AreDueBy Heard Settled ended now items
      → All P items
  by_now true now items h = heard_each Heard P each (stretches_from (stretch_at 0) now) items h
  by_now false now items h =
      subst (All P) (sym h.are)
      (All-append P h.earlier h.own (heard_each Heard P each (ended_stretches now) h.earlier h.ended)
      (each_settled (last_stretch now) h.own h.settled))

  pub due_each : (ended : Bool) (before now : List Got) (items : List Candidate)
      → AreDue Heard Settled ended before now items → All P items
  due_each ended before now items h = all_right P h.given items (by_now ended now (h.given ++ items) h.are)
