-- What lanes have heard, with one answer more, or with the samples that wait.
use Rattle.stretch_reader.proofs.Common.{◌≡◌, ℤ, List, [], ◌∷◌, ◌++◌, refl, ap, sym, subst, ◌∙◌, append_assoc, append-nil}
use Rattle.stretch_reader.proofs.Common.{Got, Item, Gap, Empty, End, Candidate, Stretch, stretch_after, last_stretch}
use Rattle.stretch_reader.proofs.Common.{last-more, with_samples, AreHeardIn, AreHeardOf, AreSettledIn, ended_stretches}
use Rattle.stretch_reader.proofs.Common.{stretch_at, Brings, Finishes, HaveHeard, HearsWith, HoldBut, ListenBut}
use Rattle.stretch_reader.proofs.HeardLemmas.{ended_by, ended_more, heard_all, heard_append, heard_one}

-- what lanes gave is what is due, if what they gave of a stretch is what is settled of it
pub settled_of : (Heard Settled Holds : Stretch → List Candidate → Type 0)
    → ((s : Stretch) (own : List Candidate) → Holds s own → Settled s own) → (a : List Got) (given : List Candidate)
    → HaveHeard Heard Holds a given → AreSettledIn Heard Settled a given
settled_of Heard Settled Holds settles a given h = record {
  earlier = h.earlier;
  own = h.own;
  ended = h.ended;
  settled = settles (last_stretch a) h.own h.holds;
  are = h.given_is;
}

-- ---- samples that wait

pub none_wait : (Holds : Stretch → List Candidate → Type 0) (waiting : List ℤ) → waiting ≡ [] → (s : Stretch)
    (own : List Candidate) → Holds s own → HoldBut Holds waiting s own
none_wait Holds waiting none s own h =
    subst (λ w. HoldBut Holds w s own) (sym none)
    (record { first = s.samples; parts = sym (append-nil s.samples); holds = h })

pub none_wait_there : (Listens : Stretch → Type 0) (waiting : List ℤ) → waiting ≡ [] → (s : Stretch) → Listens s
    → ListenBut Listens waiting s
none_wait_there Listens waiting none s h =
    subst (λ w. ListenBut Listens w s) (sym none)
    (record { first = s.samples; parts = sym (append-nil s.samples); listens = h })

-- the lanes hear them
pub all_come : (HoldBefore HoldAfter : Stretch → List Candidate → Type 0) (waiting : List ℤ)
    (before items : List Candidate)
    → ((s : Stretch) (own : List Candidate) → HoldBefore s own
    → Brings HoldAfter (with_samples s waiting) own before items)
    → (s : Stretch) (own : List Candidate) → HoldBut HoldBefore waiting s own → Brings HoldAfter s own before items
all_come HoldBefore HoldAfter waiting before items heard s own h =
    subst (λ x. Brings HoldAfter (record { begin = s.begin; samples = x }) own before items) (sym h.parts)
    (heard (record { begin = s.begin; samples = h.first }) own h.holds)

pub all_come_there : (ListenBefore ListenAfter : Stretch → Type 0) (waiting : List ℤ)
    → ((s : Stretch) → ListenBefore s → ListenAfter (with_samples s waiting)) → (s : Stretch)
    → ListenBut ListenBefore waiting s → ListenAfter s
all_come_there ListenBefore ListenAfter waiting listens s h =
    subst (λ x. ListenAfter (record { begin = s.begin; samples = x })) (sym h.parts)
    (listens (record { begin = s.begin; samples = h.first }) h.listens)

-- ---- one answer more

module _ (Heard HoldBefore HoldAfter : Stretch → List Candidate → Type 0) (a : List Got)
    (given before items : List Candidate) (h : HaveHeard Heard HoldBefore a (given ++ before)) where
  more_given : (more : List Candidate) → items ≡ before ++ more → given ++ items ≡ h.earlier ++ (h.own ++ more)
  more_given more e =
      ap (λ l. given ++ l) e ∙ sym (append_assoc given before more) ∙ ap (λ l. l ++ more) h.given_is
      ∙ append_assoc h.earlier h.own more

  -- what waited was heard
  pub all_heard : Brings HoldAfter (last_stretch a) h.own before items → HaveHeard Heard HoldAfter a (given ++ items)
  all_heard b = record {
    earlier = h.earlier;
    own = h.own ++ b.more;
    ended = h.ended;
    holds = b.holds;
    given_is = more_given b.more b.brought;
  }

  -- the stretch that is under way was the last
  pub all_ended : Finishes Heard (last_stretch a) h.own before items → AreHeardIn Heard a (given ++ items)
  all_ended f =
      subst (AreHeardIn Heard a) (sym (more_given f.more f.brought))
      (heard_all Heard a h.earlier (h.own ++ f.more) h.ended f.heard)

  -- no gap: the same stretches have ended
  with_stretch : (got : Got) → ended_by (last_stretch a) got ≡ []
      → HoldAfter (stretch_after (last_stretch a) got) h.own → items ≡ before
      → HaveHeard Heard HoldAfter (a ++ got ∷ []) (given ++ items)
  with_stretch got none holds same = record {
    earlier = h.earlier;
    own = h.own;
    ended = subst (λ l. AreHeardOf Heard l h.earlier)
        (sym (ended_more (stretch_at 0) a got ∙ ap (λ l. ended_stretches a ++ l) none ∙ append-nil (ended_stretches a)))
        h.ended;
    holds = subst (λ s. HoldAfter s h.own) (sym (last-more a got)) holds;
    given_is = ap (λ l. given ++ l) same ∙ h.given_is;
  }

  pub go_on : (got : Got) → HearsWith Heard HoldAfter (last_stretch a) h.own got before items
      → HaveHeard Heard HoldAfter (a ++ got ∷ []) (given ++ items)
  go_on (Item at x) t = with_stretch (Item at x) refl t.0 t.1
  go_on (Gap from to) t =
      let got : Got = Gap from to in
      let own : List Candidate = h.own ++ t.0.more in
      record {
        earlier = h.earlier ++ own;
        own = [];
        ended = subst (λ l. AreHeardOf Heard l (h.earlier ++ own)) (sym (ended_more (stretch_at 0) a got))
            (heard_append Heard (ended_stretches a) (last_stretch a ∷ []) h.earlier own h.ended
            (heard_one Heard (last_stretch a) own t.0.heard));
        holds = subst (λ s. HoldAfter s []) (sym (last-more a got)) t.1;
        given_is = more_given t.0.more t.0.brought ∙ sym (append-nil (h.earlier ++ own));
      }
  go_on (Empty at) t = with_stretch (Empty at) refl t.0 t.1
  go_on (End total) t = with_stretch (End total) refl t.0 t.1
