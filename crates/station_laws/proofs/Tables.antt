-- The one link of a table that is chosen, when a place of the table changes.
use Rattle.station_laws.proofs.Common.{◌≡◌, ℕ, zero, suc, ◌<◌, Bool, true, false, List, [], ◌∷◌, length, Option, None}
use Rattle.station_laws.proofs.Common.{get_or, set, refl, sym, ap, ◌∙◌, arith, ⊤, cond-true, cond-false, false≢true}
use Rattle.station_laws.proofs.Common.{Link, Choice, first_chosen}
use Rattle.std.specs.List.{AllByRecursion as Each}

abbrev pub NotChosen : Choice → Option Link → Type 0
NotChosen chosen place = chosen place ≡ false

-- at most one is chosen
abbrev pub ChoosesOne : Choice → List (Option Link) → Type 0
ChoosesOne chosen [] = ⊤
ChoosesOne chosen (place ∷ places) = (chosen place ≡ true → Each (NotChosen chosen) places) × ChoosesOne chosen places

pub not_both : (b : Bool) → b ≡ true → b ≡ false → ⊥
not_both b so empty = false≢true (sym empty ∙ so)

-- if none is chosen
pub none_chosen : (chosen : Choice) (places : List (Option Link)) → Each (NotChosen chosen) places
    → first_chosen chosen places ≡ None
none_chosen chosen [] h = refl
none_chosen chosen (place ∷ places) h =
    cond-false (chosen place) place (first_chosen chosen places) h.0 ∙ none_chosen chosen places h.1

pub none_at : (chosen : Choice) (places : List (Option Link)) (key : ℕ) → chosen None ≡ false
    → Each (NotChosen chosen) places → chosen (get_or places key None) ≡ false
none_at chosen [] key empty h = empty
none_at chosen (place ∷ places) zero empty h = h.0
none_at chosen (place ∷ places) (suc key) empty h = none_at chosen places key empty h.1

pub one_of_none : (chosen : Choice) (places : List (Option Link)) → Each (NotChosen chosen) places
    → ChoosesOne chosen places
one_of_none chosen [] h = tt
one_of_none chosen (place ∷ places) h = ((λ is. h.1), one_of_none chosen places h.1)

-- the chosen one is at its key
pub chosen_at :
    (chosen : Choice) (places : List (Option Link)) (key : ℕ) → ChoosesOne chosen places
    → chosen None ≡ false → chosen (get_or places key None) ≡ true → first_chosen chosen places ≡ get_or places key None
chosen_at chosen [] key one empty is = absurd (not_both (chosen None) is empty)
chosen_at chosen (place ∷ places) zero one empty is = cond-true (chosen place) place (first_chosen chosen places) is
chosen_at chosen (place ∷ places) (suc key) one empty is =
    go (chosen place) refl (chosen_at chosen places key one.1 empty is)
  where
    go : (b : Bool) → chosen place ≡ b → first_chosen chosen places ≡ get_or places key None
        → first_chosen chosen (place ∷ places) ≡ get_or places key None
    go true here rest = absurd (not_both (chosen (get_or places key None)) is
        (none_at chosen places key empty (one.0 here)))
    go false here rest = cond-false (chosen place) place (first_chosen chosen places) here ∙ rest

pub each_set : (P : Option Link → Type 0) (places : List (Option Link)) (key : ℕ) (x : Option Link) → Each P places
    → P x → Each P (set places key x)
each_set P [] key x h k = tt
each_set P (place ∷ places) zero x h k = (k, h.1)
each_set P (place ∷ places) (suc key) x h k = (h.0, each_set P places key x h.1 k)

pub each_get : (P : Option Link → Type 0) (places : List (Option Link)) (key : ℕ) → P None → Each P places
    → P (get_or places key None)
each_get P [] key none h = none
each_get P (place ∷ places) zero none h = h.0
each_get P (place ∷ places) (suc key) none h = each_get P places key none h.1

-- a place of a link that is not chosen changes, and has none then
pub other_first :
    (chosen : Choice) (places : List (Option Link)) (key : ℕ) (x : Option Link)
    → chosen (get_or places key None) ≡ false
    → chosen x ≡ false → first_chosen chosen (set places key x) ≡ first_chosen chosen places
other_first chosen [] key x was is = refl
other_first chosen (place ∷ places) zero x was is =
    cond-false (chosen x) x (first_chosen chosen places) is
    ∙ sym (cond-false (chosen place) place (first_chosen chosen places) was)
other_first chosen (place ∷ places) (suc key) x was is = go (chosen place) refl (other_first chosen places key x was is)
  where
    go : (b : Bool) → chosen place ≡ b → first_chosen chosen (set places key x) ≡ first_chosen chosen places
        → first_chosen chosen (place ∷ set places key x) ≡ first_chosen chosen (place ∷ places)
    go true here rest = cond-true (chosen place) place (first_chosen chosen (set places key x)) here
        ∙ sym (cond-true (chosen place) place (first_chosen chosen places) here)
    go false here rest =
        cond-false (chosen place) place (first_chosen chosen (set places key x)) here ∙ rest
        ∙ sym (cond-false (chosen place) place (first_chosen chosen places) here)

pub other_one :
    (chosen : Choice) (places : List (Option Link)) (key : ℕ) (x : Option Link) → chosen x ≡ false
    → ChoosesOne chosen places → ChoosesOne chosen (set places key x)
other_one chosen [] key x is one = one
other_one chosen (place ∷ places) zero x is one = ((λ so. absurd (not_both (chosen x) so is)), one.1)
other_one chosen (place ∷ places) (suc key) x is one =
    ((λ so. each_set (NotChosen chosen) places key x (one.0 so) is), other_one chosen places key x is one.1)

-- the chosen one changes
pub chosen_set :
    (chosen : Choice) (places : List (Option Link)) (key : ℕ) (x : Option Link) → ChoosesOne chosen places
    → chosen None ≡ false → chosen (get_or places key None) ≡ true → chosen x ≡ true
    → (first_chosen chosen (set places key x) ≡ x) × ChoosesOne chosen (set places key x)
chosen_set chosen [] key x one empty was is = absurd (not_both (chosen None) was empty)
chosen_set chosen (place ∷ places) zero x one empty was is =
    (cond-true (chosen x) x (first_chosen chosen places) is, ((λ so. one.0 was), one.1))
chosen_set chosen (place ∷ places) (suc key) x one empty was is =
    go (chosen place) refl (chosen_set chosen places key x one.1 empty was is)
  where
    go : (b : Bool) → chosen place ≡ b
        → (first_chosen chosen (set places key x) ≡ x) × ChoosesOne chosen (set places key x)
        → (first_chosen chosen (place ∷ set places key x) ≡ x) × ChoosesOne chosen (place ∷ set places key x)
    go true here rest = absurd (not_both (chosen (get_or places key None)) was
        (none_at chosen places key empty (one.0 here)))
    go false here rest = (
      cond-false (chosen place) place (first_chosen chosen (set places key x)) here ∙ rest.0,
      ((λ so. absurd (not_both (chosen place) so here)), rest.1),
    )

-- the chosen one goes
pub chosen_goes :
    (chosen : Choice) (places : List (Option Link)) (key : ℕ) → ChoosesOne chosen places
    → chosen None ≡ false → chosen (get_or places key None) ≡ true → Each (NotChosen chosen) (set places key None)
chosen_goes chosen [] key one empty was = tt
chosen_goes chosen (place ∷ places) zero one empty was = (empty, one.0 was)
chosen_goes chosen (place ∷ places) (suc key) one empty was =
    go (chosen place) refl (chosen_goes chosen places key one.1 empty was)
  where
    go : (b : Bool) → chosen place ≡ b → Each (NotChosen chosen) (set places key None)
        → Each (NotChosen chosen) (place ∷ set places key None)
    go true here rest = absurd (not_both (chosen (get_or places key None)) was
        (none_at chosen places key empty (one.0 here)))
    go false here rest = (here, rest)

-- a chosen one comes if there was none
pub chosen_comes :
    (chosen : Choice) (places : List (Option Link)) (key : ℕ) (x : Option Link) → Each (NotChosen chosen) places
    → key < length places → chosen x ≡ true
    → (first_chosen chosen (set places key x) ≡ x) × ChoosesOne chosen (set places key x)
chosen_comes chosen [] key x none within is = absurd (omega arith)
chosen_comes chosen (place ∷ places) zero x none within is =
    (cond-true (chosen x) x (first_chosen chosen places) is, ((λ so. none.1), one_of_none chosen places none.1))
chosen_comes chosen (place ∷ places) (suc key) x none within is =
    let rest = chosen_comes chosen places key x none.1 (omega arith) is in (
      cond-false (chosen place) place (first_chosen chosen (set places key x)) none.0 ∙ rest.0,
      ((λ so. absurd (not_both (chosen place) so none.0)), rest.1),
    )

-- none is chosen if no link is found
pub none_of_first :
    (chosen : Choice) (places : List (Option Link)) → chosen None ≡ false → first_chosen chosen places ≡ None
    → Each (NotChosen chosen) places
none_of_first chosen [] empty is = tt
none_of_first chosen (place ∷ places) empty is = go (chosen place) refl (none_of_first chosen places empty)
  where
    go : (b : Bool) → chosen place ≡ b → (first_chosen chosen places ≡ None → Each (NotChosen chosen) places)
        → Each (NotChosen chosen) (place ∷ places)
    go true here rest =
        let none : place ≡ None = sym (cond-true (chosen place) place (first_chosen chosen places) here) ∙ is in
        absurd (not_both (chosen place) here (ap chosen none ∙ empty))
    go false here rest =
        (here, rest (sym (cond-false (chosen place) place (first_chosen chosen places) here) ∙ is))
