-- The moduli of what is under way and of set-ups, when one thing changes.
use Rattle.link_world.proofs.Common.{◌≡◌, ℕ, ◌<◌, List, [], ◌∷◌, ◌++◌, Option, Some, None, length, arith, sym, ap, ◌∙◌}
use Rattle.link_world.proofs.Common.{subst}
use Rattle.std.specs.List.{AllByRecursion as Each}
use Rattle.link_world.proofs.law.reduced.Core.{End, Running, SetUp, Standing, Tagged, Kind, set_ups, count, modulus_in}
use Rattle.link_world.proofs.law.reduced.Core.Kind.{Sabm, Disc, Ua, Dm, IsNumbered}
use Rattle.link_world.proofs.law.reduced.Core.Standing.{Up}
use Rattle.link_world.proofs.law.reduced.CoreMoves.{now, asks, ask_of}
use Rattle.link_world.proofs.law.Each.{each_both, each_of_all, each_removed, each_pushed, each_before}
use Rattle.link_world.proofs.law.invariant.SetUps.{SetUpsGrow}
use Rattle.link_world.proofs.law.invariant.Views.{View, view_up}
use Rattle.link_world.proofs.law.invariant.Options.{if_all, if_both}
use Rattle.link_world.proofs.law.reduced.CoreLaw.{OriginAlike}
use Rattle.link_world.proofs.law.invariant.Invariant.{OfSetUp, OriginUnder, HasModulus, CallsBy, CallsIn, Moduli}

-- a frame is lost
pub moduli_lost :
    {v u : Option View} {x y : End} (before : List Tagged) (f : Tagged) (after : List Tagged)
    → Moduli v u x y (before ++ f ∷ after) → Moduli v u x y (before ++ after)
moduli_lost before f after h = record {
  window = h.window;
  own = h.own;
  frames = each_removed _ before f after h.frames;
  calls = each_removed _ before f after h.calls;
  same = h.same;
  mate = h.mate;
  origins = h.origins;
}

-- one frame more
pub moduli_sent :
    {v u : Option View} {x y : End} {fs : List Tagged} (f : Tagged) → HasModulus (set_ups y) f.tag f.kind
    → CallsIn y.standing y.modulus f.kind → Moduli v u x y fs → Moduli v u x y (fs ++ f ∷ [])
moduli_sent {fs} f has call h = record {
  window = h.window;
  own = h.own;
  frames = each_pushed _ fs f h.frames has;
  calls = each_pushed _ fs f h.calls call;
  same = h.same;
  mate = h.mate;
  origins = h.origins;
}

-- x sees nothing now
pub moduli_blind : {v u : Option View} {x y : End} {fs : List Tagged} → Moduli v u x y fs → Moduli None u x y fs
moduli_blind h = record {
  window = h.window;
  own = h.own;
  frames = h.frames;
  calls = h.calls;
  same = tt;
  mate = tt;
  origins = h.origins;
}

-- y sees nothing now
pub moduli_unseen : {v u : Option View} {x y : End} {fs : List Tagged} → Moduli v u x y fs → Moduli v None x y fs
moduli_unseen {v} h = record {
  window = h.window;
  own = h.own;
  frames = h.frames;
  calls = h.calls;
  same = if_all v _ (λ a. tt);
  mate = h.mate;
  origins = h.origins;
}

-- the running set-up of x changes, and neither its modulus nor its mate
pub moduli_up :
    {u : Option View} (x : End) {y : End} {r s : Running} {fs : List Tagged} → s.set_up.modulus ≡ r.set_up.modulus
    → s.set_up.mate ≡ r.set_up.mate → OriginAlike (set_ups y) s.set_up
    → Moduli (Some (view_up x.modulus r)) u (now (Up r) x) y fs
    → Moduli (Some (view_up x.modulus s)) u (now (Up s) x) y fs
moduli_up x {y} {r} {s} modulus mate alike h = record {
  window = h.window;
  own = modulus ∙ h.own;
  frames = h.frames;
  calls = h.calls;
  same = h.same;
  mate = λ within. ap (modulus_in (set_ups y)) mate ∙ h.mate (subst (λ n. n < count y) mate within);
  origins = each_pushed _ x.ended s.set_up (each_before _ x.ended r.set_up h.origins) alike;
}

has_modulus_grown :
    {ys zs : List SetUp} → SetUpsGrow ys zs → (tag : ℕ) (k : Kind) → OfSetUp (length ys) tag k → HasModulus ys tag k
    → HasModulus zs tag k
has_modulus_grown g tag (Sabm modulus) of h = tt
has_modulus_grown g tag Disc of h = tt
has_modulus_grown g tag Ua of h = tt
has_modulus_grown g tag (Dm answers) of h = tt
has_modulus_grown g tag (IsNumbered modulus n) of h = h ∙ sym (g.modulus tag of)

-- more is given, or another set-up opens
pub frames_grown :
    {ys zs : List SetUp} → SetUpsGrow ys zs → (fs : List Tagged)
    → Each (λ f. OfSetUp (length ys) f.tag f.kind) fs → Each (λ f. HasModulus ys f.tag f.kind) fs
    → Each (λ f. HasModulus zs f.tag f.kind) fs
frames_grown g fs of h = each_both _ _
    _ (λ f o m. has_modulus_grown g f.tag f.kind o m) fs of h

pub origins_grown :
    {ys zs : List SetUp} → SetUpsGrow ys zs → (xs : List SetUp) → Each (OriginUnder (length ys)) xs
    → Each (OriginAlike ys) xs → Each (OriginAlike zs) xs
origins_grown g xs under h = each_both _ _ _
    (λ q o a. if_both q.origin _ _ _ (λ n lt is. g.modulus n lt ∙ is) o a) xs under h

calls_by : (s : Standing) (own : ℕ) (k : Kind) → ask_of k ≡ 0 → CallsIn s own k
calls_by s own (Sabm modulus) none = absurd (omega arith)
calls_by s own Disc none = tt
calls_by s own Ua none = tt
calls_by s own (Dm answers) none = tt
calls_by s own (IsNumbered modulus n) none = tt

-- an end that asks nothing may call in any modulus
pub no_calls_yet : (s : Standing) (own : ℕ) (fs : List Tagged) → asks fs ≡ 0 → Each (λ f. CallsIn s own f.kind) fs
no_calls_yet s own [] none = tt
no_calls_yet s own (f ∷ fs) none = (calls_by s own f.kind (omega arith), no_calls_yet s own fs (omega arith))

caller_by : (s : Standing) (own : ℕ) (k : Kind) → ((modulus : ℕ) → CallsBy s own modulus) → CallsIn s own k
caller_by s own (Sabm modulus) any = any modulus
caller_by s own Disc any = tt
caller_by s own Ua any = tt
caller_by s own (Dm answers) any = tt
caller_by s own (IsNumbered modulus n) any = tt

-- of an end that does not call, calls in any modulus may be under way
pub no_caller :
    (s : Standing) (own : ℕ) (fs : List Tagged) → ((modulus : ℕ) → CallsBy s own modulus)
    → Each (λ f. CallsIn s own f.kind) fs
no_caller s own fs any = each_of_all _ (λ f. caller_by s own f.kind any) fs
