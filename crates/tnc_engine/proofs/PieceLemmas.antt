-- A piece of an input, of which the maker takes one front after another.
use Rattle.tnc_engine.proofs.Common.{◌≡◌, ℕ, List, [], ◌++◌, length, take, drop, append_assoc, Option, Some, None}
use Rattle.tnc_engine.proofs.Common.{refl, sym, subst, ap, ◌∙◌, append-nil, nil_from_length, take-append-drop, WrotePart}
use Rattle.tnc_engine.proofs.Common.{InputFault, Making, IsMaking, Adds, Takes, Wrote, WroteFront, WroteCut}
use Rattle.tnc_engine.specs.declared.maker.Taken.{Taken}
use Rattle.tnc_engine.specs.declared.maker.Taken.TheVariants.{Front, Bad}
use Rattle.tnc_engine.proofs.MakingLemmas.{settled_begins, wrote_none}

-- how the piece stands for octets that came before it: a front of it was taken, and what that settles was written
pub record TookFront (making : Making) (Holds : List ℕ → Type 0) (before octets rest : List ℕ)
    (was now : Option (List ℕ)) : Type 0 where
  pub front : List ℕ
  pub parts : octets ≡ front ++ rest
  pub holds : Holds (before ++ front)
  pub good : making.fault_so_far (before ++ front) ≡ None
  pub wrote : Wrote (Adds making before front) was now

module _ (making : Making) where
  -- nothing adds nothing
  adds_none : (before : List ℕ) → Adds making before [] []
  adds_none before text settled =
      subst (λ o. making.Settles o (text ++ [])) (sym (append-nil before))
      (subst (making.Settles before) (sym (append-nil text)) settled)

  -- what is added after what was added
  adds_both : (before front more text next : List ℕ) → Adds making before front text
      → Adds making (before ++ front) more next
      → Adds making before (front ++ more) (text ++ next)
  adds_both before front more text next a b first settled =
      subst (λ o. making.Settles o (first ++ (text ++ next))) (append_assoc before front more)
      (subst (making.Settles ((before ++ front) ++ more)) (append_assoc first text next)
      (b (first ++ text) (a first settled)))

  pub took_none : (Holds : List ℕ → Type 0) (before octets : List ℕ) (out : Option (List ℕ)) → Holds before
      → making.fault_so_far before ≡ None
      → TookFront making Holds before octets octets out out
  took_none Holds before octets out holds good = record {
    front = [];
    parts = refl;
    holds = subst Holds (sym (append-nil before)) holds;
    good = ap making.fault_so_far (append-nil before) ∙ good;
    wrote = wrote_none (Adds making before []) out (adds_none before);
  }

  module _ (Holds : List ℕ → Type 0) (before octets rest : List ℕ) (was mid : Option (List ℕ))
      (t : TookFront making Holds before octets rest was mid) where
    whole : before ++ octets ≡ (before ++ t.front) ++ rest
    whole = ap (λ o. before ++ o) t.parts ∙ sym (append_assoc before t.front rest)

    -- what was written, if memory runs out
    pub at_memory : WroteFront making before octets was mid
    at_memory = record { front = t.front; rest = rest; parts = t.parts; good = t.good; wrote = t.wrote }

    -- a text more was written
    wrote_next : (more text : List ℕ) (now : Option (List ℕ)) → Adds making (before ++ t.front) more text
        → ((b : List ℕ) → mid ≡ Some b → now ≡ Some (b ++ text)) → Wrote (Adds making before (t.front ++ more)) was now
    wrote_next more text now adds written = record {
      text = t.wrote.text ++ text;
      is = adds_both before t.front more t.wrote.text text t.wrote.is adds;
      written = λ b w. written (b ++ t.wrote.text) (t.wrote.written b w) ∙ ap Some (append_assoc b t.wrote.text text);
    }

    -- a front more was taken
    pub took_more : (HoldsNext : List ℕ → Type 0) (count : ℕ) (text : List ℕ) (now : Option (List ℕ))
        → Takes making HoldsNext (before ++ t.front) rest text (Front count)
        → ((b : List ℕ) → mid ≡ Some b → now ≡ Some (b ++ text))
        → TookFront making HoldsNext before octets (drop count rest) was now
    took_more HoldsNext count text now (holds, good, adds) written =
        let together : (before ++ t.front) ++ take count rest ≡ before ++ (t.front ++ take count rest) =
        append_assoc before t.front (take count rest) in
        record {
          front = t.front ++ take count rest;
          parts = t.parts ∙ ap (λ o. t.front ++ o) (sym (take-append-drop count rest))
              ∙ sym (append_assoc t.front (take count rest) (drop count rest));
          holds = subst HoldsNext together holds;
          good = ap making.fault_so_far (sym together) ∙ good;
          wrote = wrote_next (take count rest) text now adds written;
        }

    -- a fault shows
    pub took_bad : (HoldsNext : List ℕ → Type 0) (fault : InputFault) (text : List ℕ) (now : Option (List ℕ))
        → Takes making HoldsNext (before ++ t.front) rest text (Bad fault)
        → ((b : List ℕ) → mid ≡ Some b → now ≡ Some (b ++ text))
        → (making.fault_so_far (before ++ octets) ≡ Some fault) × Wrote (Adds making before octets) was now
    took_bad HoldsNext fault text now (bad, adds) written = (
      ap making.fault_so_far whole ∙ bad,
      subst (λ o. Wrote (Adds making before o) was now) (sym t.parts) (wrote_next rest text now adds written),
    )

    -- all was taken
    pub took_all : length rest ≡ 0
        → Holds (before ++ octets) × (making.fault_so_far (before ++ octets) ≡ None) × Wrote (Adds making before octets) was mid
    took_all none =
        let all : t.front ≡ octets = sym (t.parts ∙ ap (λ o. t.front ++ o) (nil_from_length rest none)
        ∙ append-nil t.front) in (
          subst (λ o. Holds (before ++ o)) all t.holds,
          subst (λ o. making.fault_so_far (before ++ o) ≡ None) all t.good,
          subst (λ o. Wrote (Adds making before o) was mid) all t.wrote,
        )

    -- the output failed at the text of a front more, or of what is before a fault
    module _ (laws : IsMaking making) (HoldsNext : List ℕ → Type 0) (text : List ℕ) (now : Option (List ℕ))
        (cut : (b : List ℕ) → mid ≡ Some b → WrotePart b text now) where
      -- the text is settled by octets with which the piece begins
      cut_at : (front following : List ℕ) → rest ≡ front ++ following → Adds making (before ++ t.front) front text
          → WroteCut making before octets was now
      unfolding at_memory
      cut_at front following parts adds =
          let all : (after : List ℕ) → ((before ++ t.front) ++ front) ++ (following ++ after)
          ≡ (before ++ octets) ++ after =
          λ after. sym (append_assoc ((before ++ t.front) ++ front) following after)
          ∙ ap (λ o. o ++ after) (append_assoc (before ++ t.front) front following
          ∙ ap (λ o. (before ++ t.front) ++ o) (sym parts) ∙ sym whole) in
          record {
            mid = mid;
            front = at_memory;
            next = record {
              text = text;
              is = λ first part more after settled is.
                  subst (λ o. making.Begins o (first ++ (t.wrote.text ++ part))) (all after)
                  (settled_begins making laws ((before ++ t.front) ++ front) (following ++ after)
                  ((first ++ t.wrote.text) ++ text) (first ++ (t.wrote.text ++ part)) more
                  (adds (first ++ t.wrote.text) (t.wrote.is first settled))
                  (ap (λ o. (first ++ t.wrote.text) ++ o) is
                  ∙ sym (append_assoc (first ++ t.wrote.text) part more)
                  ∙ ap (λ o. o ++ more) (append_assoc first t.wrote.text part)));
              written = cut;
            };
          }

      pub took_cut : (taken : Taken) → Takes making HoldsNext (before ++ t.front) rest text taken
          → WroteCut making before octets was now
      took_cut (Front count) (holds, good, adds) =
          cut_at (take count rest) (drop count rest) (sym (take-append-drop count rest)) adds
      took_cut (Bad fault) (bad, adds) = cut_at rest [] (sym (append-nil rest)) adds
