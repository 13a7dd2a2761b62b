-- What holds of each element of a list, when the list changes.
use Rattle.link_world.proofs.Common.{List, [], ◌∷◌, ◌++◌}
use Rattle.std.specs.List.{AllByRecursion as Each}

-- a weaker fact holds of each
pub each_weaker : {A : Type 0} (P Q : A → Type 0) → ((x : A) → P x → Q x) → (xs : List A) → Each P xs → Each Q xs
each_weaker P Q f [] h = tt
each_weaker P Q f (x ∷ xs) h = (f x h.0, each_weaker P Q f xs h.1)

-- two facts hold of each, and a third follows
pub each_both :
    {A : Type 0} (P Q R : A → Type 0) → ((x : A) → P x → Q x → R x) → (xs : List A) → Each P xs → Each Q xs → Each R xs
each_both P Q R f [] h k = tt
each_both P Q R f (x ∷ xs) h k = (f x h.0 k.0, each_both P Q R f xs h.1 k.1)

-- what holds of everything holds of each
pub each_of_all : {A : Type 0} (P : A → Type 0) → ((x : A) → P x) → (xs : List A) → Each P xs
each_of_all P f [] = tt
each_of_all P f (x ∷ xs) = (f x, each_of_all P f xs)

-- any element goes
pub each_removed :
    {A : Type 0} (P : A → Type 0) (before : List A) (x : A) (after : List A) → Each P (before ++ x ∷ after)
    → Each P (before ++ after)
each_removed P [] x after h = h.1
each_removed P (y ∷ before) x after h = (h.0, each_removed P before x after h.1)

-- it holds of any element
pub each_at :
    {A : Type 0} (P : A → Type 0) (before : List A) (x : A) (after : List A) → Each P (before ++ x ∷ after) → P x
each_at P [] x after h = h.0
each_at P (y ∷ before) x after h = each_at P before x after h.1

-- one element more
pub each_pushed : {A : Type 0} (P : A → Type 0) (xs : List A) (x : A) → Each P xs → P x → Each P (xs ++ x ∷ [])
each_pushed P [] x h k = (k, tt)
each_pushed P (y ∷ xs) x h k = (h.0, each_pushed P xs x h.1 k)

-- the list before the last element, and the last
pub each_before : {A : Type 0} (P : A → Type 0) (xs : List A) (x : A) → Each P (xs ++ x ∷ []) → Each P xs
each_before P [] x h = tt
each_before P (y ∷ xs) x h = (h.0, each_before P xs x h.1)

pub each_last : {A : Type 0} (P : A → Type 0) (xs : List A) (x : A) → Each P (xs ++ x ∷ []) → P x
each_last P [] x h = h.0
each_last P (y ∷ xs) x h = each_last P xs x h.1

-- one element more, anywhere
pub each_inserted :
    {A : Type 0} (P : A → Type 0) (before : List A) (x : A) (after : List A) → P x → Each P (before ++ after)
    → Each P (before ++ x ∷ after)
each_inserted P [] x after here h = (here, h)
each_inserted P (y ∷ before) x after here h = (h.0, each_inserted P before x after here h.1)

-- two lists, one after the other
pub each_append : {A : Type 0} (P : A → Type 0) (xs ys : List A) → Each P xs → Each P ys → Each P (xs ++ ys)
each_append P [] ys h k = k
each_append P (x ∷ xs) ys h k = (h.0, each_append P xs ys h.1 k)
