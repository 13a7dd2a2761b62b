-- What stands for what, place by place.
use Rattle.station.proofs.Common.{◌≡◌, ℕ, zero, suc, ◌<◌, ◌≤◌, List, [], ◌∷◌, length, All, Option, Some, None, IfSome}
use Rattle.station.proofs.Common.{AllZip, sym, ◌∙◌, ap, subst, arith, get_or, OwnedLink, HasFew, Link, StandsForPlace}
use Rattle.station.specs.State.{HoldsFew}

-- items at one place stand in the relation of the lists
pub AllZip-at : {A B : Type 0} (R : A → B → Type 0) (xs : List A) (ys : List B) (k : ℕ) (d : A) (e : B) → AllZip R xs ys
    → k < length xs → R (get_or xs k d) (get_or ys k e)
AllZip-at R [] [] k d e each within = absurd (omega (arith, within))
AllZip-at R [] (y ∷ ys) k d e each within = absurd each
AllZip-at R (x ∷ xs) [] k d e each within = absurd each
AllZip-at R (x ∷ xs) (y ∷ ys) zero d e each within = each.0
AllZip-at R (x ∷ xs) (y ∷ ys) (suc k) d e each within = AllZip-at R xs ys k d e each.1 (omega (arith, within))

-- such lists are equally long
pub AllZip-length : {A B : Type 0} (R : A → B → Type 0) (xs : List A) (ys : List B) → AllZip R xs ys
    → length xs ≡ length ys
AllZip-length R [] [] each = λ i. 0
AllZip-length R [] (y ∷ ys) each = absurd each
AllZip-length R (x ∷ xs) [] each = absurd each
AllZip-length R (x ∷ xs) (y ∷ ys) each = ap suc (AllZip-length R xs ys each.1)

-- a link holds few packets if what it stands for does
pub few_place : (id : ℕ) (held : Option OwnedLink) (place : Option Link) → StandsForPlace held place
    → IfSome held (HasFew id) → IfSome place (HoldsFew id)
few_place id None None h few = tt
few_place id None (Some link) h few = absurd h
few_place id (Some held) None h few = absurd h
few_place id (Some held) (Some link) h few = λ e. subst (λ packets. length packets ≤ 512) h.machine.outgoing.packets
    (few (h.owner ∙ e))

-- and the other way round
pub place_few : (id : ℕ) (held : Option OwnedLink) (place : Option Link) → StandsForPlace held place
    → IfSome place (HoldsFew id) → IfSome held (HasFew id)
place_few id None None h few = tt
place_few id None (Some link) h few = absurd h
place_few id (Some held) None h few = absurd h
place_few id (Some held) (Some link) h few = λ e. subst (λ packets. length packets ≤ 512)
    (sym h.machine.outgoing.packets) (few (sym h.owner ∙ e))

pub few_places : (id : ℕ) (held : List (Option OwnedLink)) (places : List (Option Link))
    → AllZip StandsForPlace held places → All (λ place. IfSome place (HasFew id)) held
    → All (λ place. IfSome place (HoldsFew id)) places
few_places id held places h few k d within =
    let same = AllZip-length StandsForPlace held places h in
    let below : k < length held = omega (arith, same, within) in
    few_place id (get_or held k None) (get_or places k d) (AllZip-at StandsForPlace held places k None d h below)
    (few k None below)

pub places_few : (id : ℕ) (held : List (Option OwnedLink)) (places : List (Option Link))
    → AllZip StandsForPlace held places → All (λ place. IfSome place (HoldsFew id)) places
    → All (λ place. IfSome place (HasFew id)) held
places_few id held places h few k d below =
    let same = AllZip-length StandsForPlace held places h in
    let within : k < length places = omega (arith, same, below) in
    place_few id (get_or held k d) (get_or places k None) (AllZip-at StandsForPlace held places k d None h below)
    (few k None within)
