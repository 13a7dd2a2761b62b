-- Asks, answers and the UA among what is under way, when a frame goes or comes.
use Rattle.link_world.proofs.Common.{◌≡◌, ℕ, ◌+◌, ◌≤◌, List, [], ◌∷◌, ◌++◌, Option, Some, None, ◌⊎◌, inl, inr, refl, ap}
use Rattle.link_world.proofs.Common.{◌∙◌, sym, arith, subst}
use Rattle.link_world.proofs.law.reduced.Core.{Standing, Tagged, Kind}
use Rattle.link_world.proofs.law.reduced.Core.Kind.{Sabm, Disc, Ua, Dm, IsNumbered}
use Rattle.link_world.proofs.law.reduced.Core.Standing.{Idle, Calling, Up, Releasing}
use Rattle.link_world.proofs.law.reduced.CoreMoves.{asks, answers, sabms, ask_of, answer_of, sabm_of}
use Rattle.link_world.proofs.law.invariant.Views.{ua_by, ua_tag, view_by}

pub asks_append : (before after : List Tagged) → asks (before ++ after) ≡ asks before + asks after
asks_append [] after = omega arith
asks_append (f ∷ before) after = omega (arith, asks_append before after)

pub answers_append : (before after : List Tagged) → answers (before ++ after) ≡ answers before + answers after
answers_append [] after = omega arith
answers_append (f ∷ before) after = omega (arith, answers_append before after)

pub asks_pushed : (fs : List Tagged) (f : Tagged) → asks (fs ++ f ∷ []) ≡ asks fs + ask_of f.kind
asks_pushed fs f = asks_append fs (f ∷ []) ∙ omega arith

pub answers_pushed : (fs : List Tagged) (f : Tagged) → answers (fs ++ f ∷ []) ≡ answers fs + answer_of f.kind
answers_pushed fs f = answers_append fs (f ∷ []) ∙ omega arith

pub asks_removed :
    (before : List Tagged) (f : Tagged) (after : List Tagged)
    → asks (before ++ f ∷ after) ≡ ask_of f.kind + asks (before ++ after)
asks_removed before f after = omega (arith, asks_append before (f ∷ after), asks_append before after)

pub answers_removed :
    (before : List Tagged) (f : Tagged) (after : List Tagged)
    → answers (before ++ f ∷ after) ≡ answer_of f.kind + answers (before ++ after)
answers_removed before f after = omega (arith, answers_append before (f ∷ after), answers_append before after)

sabm_is_ask : (k : Kind) → sabm_of k ≤ ask_of k
sabm_is_ask (Sabm modulus) = omega arith
sabm_is_ask Disc = omega arith
sabm_is_ask Ua = omega arith
sabm_is_ask (Dm answers) = omega arith
sabm_is_ask (IsNumbered modulus n) = omega arith

-- a SABM asks
pub sabms_are_asks : (fs : List Tagged) → sabms fs ≤ asks fs
sabms_are_asks [] = omega arith
sabms_are_asks (f ∷ fs) = omega (arith, sabm_is_ask f.kind, sabms_are_asks fs)

-- one frame more that is no UA
pub ua_pushed : (fs : List Tagged) (f : Tagged) → ua_by f.kind f.tag None ≡ None → ua_tag (fs ++ f ∷ []) ≡ ua_tag fs
ua_pushed [] f h = h
ua_pushed (g ∷ fs) f h = ap (λ t. ua_by g.kind g.tag t) (ua_pushed fs f h)

ua_none : (k : Kind) (tag : ℕ) (rest : Option ℕ) → answer_of k ≡ 0 → ua_by k tag rest ≡ rest
ua_none (Sabm modulus) tag rest h = refl
ua_none Disc tag rest h = refl
ua_none Ua tag rest h = absurd (omega arith)
ua_none (Dm answers) tag rest h = refl
ua_none (IsNumbered modulus n) tag rest h = refl

-- no answer, and so no UA
pub no_ua : (fs : List Tagged) → answers fs ≡ 0 → ua_tag fs ≡ None
no_ua [] h = refl
no_ua (f ∷ fs) h = ua_none f.kind f.tag (ua_tag fs) (omega arith) ∙ no_ua fs (omega arith)

-- a UA after frames that are no answers
pub ua_pushed_ua :
    (fs : List Tagged) (tag : ℕ) → answers fs ≡ 0 → ua_tag (fs ++ record { tag = tag; kind = Ua } ∷ []) ≡ Some tag
ua_pushed_ua [] tag h = refl
ua_pushed_ua (f ∷ fs) tag h = ua_none f.kind f.tag (ua_tag (fs ++ record { tag = tag; kind = Ua } ∷ [])) (omega arith)
    ∙ ua_pushed_ua fs tag (omega arith)

-- there is none now, or it is as it was
abbrev pub Fades : {A : Type 0} → Option A → Option A → Type 0
Fades new old = (new ≡ None) ⊎ (new ≡ old)

fades_by : (k : Kind) (tag : ℕ) (new old : Option ℕ) → Fades new old → Fades (ua_by k tag new) (ua_by k tag old)
fades_by (Sabm modulus) tag new old h = h
fades_by Disc tag new old h = h
fades_by Ua tag new old h = inr refl
fades_by (Dm answers) tag new old h = h
fades_by (IsNumbered modulus n) tag new old h = h

removed_first :
    (k : Kind) (tag : ℕ) (after : List Tagged) → answer_of k + answers after ≤ 1
    → Fades (ua_tag after) (ua_by k tag (ua_tag after))
removed_first (Sabm modulus) tag after h = inr refl
removed_first Disc tag after h = inr refl
removed_first Ua tag after h = inl (no_ua after (omega arith))
removed_first (Dm answers) tag after h = inr refl
removed_first (IsNumbered modulus n) tag after h = inr refl

-- a frame goes: there is no UA then, or it is the same
pub ua_removed :
    (before : List Tagged) (f : Tagged) (after : List Tagged) → answers (before ++ f ∷ after) ≤ 1
    → Fades (ua_tag (before ++ after)) (ua_tag (before ++ f ∷ after))
ua_removed [] f after h = removed_first f.kind f.tag after h
ua_removed (g ∷ before) f after h = fades_by g.kind g.tag (ua_tag (before ++ after)) (ua_tag (before ++ f ∷ after))
    (ua_removed before f after (omega arith))

-- so with what an end sees
pub view_fades :
    (modulus : ℕ) (s : Standing) (new old : Option ℕ) → Fades new old
    → Fades (view_by modulus s new) (view_by modulus s old)
view_fades modulus Idle new old h = inr refl
view_fades modulus (Calling waiting) new old (inl none) = inl (ap (view_by modulus (Calling waiting)) none)
view_fades modulus (Calling waiting) new old (inr same) = inr (ap (view_by modulus (Calling waiting)) same)
view_fades modulus (Up r) new old h = inr refl
view_fades modulus Releasing new old h = inr refl

-- what holds with none and held before holds
pub by_fading : {A : Type 0} (P : Option A → Type 0) (new old : Option A) → Fades new old → P None → P old → P new
by_fading P new old (inl none) n o = subst P (sym none) n
by_fading P new old (inr same) n o = subst P (sym same) o
