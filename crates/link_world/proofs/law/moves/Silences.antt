-- What is under way says nothing yet of a set-up that was not opened.
use Rattle.link_world.proofs.Common.{◌≡◌, ℕ, ◌+◌, ◌<◌, ◌≤◌, List, [], ◌∷◌, Option, Some, None, IfSome, length, arith}
use Rattle.link_world.proofs.Common.{refl, ap, le_trans, Packet}
use Rattle.std.specs.List.{AllByRecursion as Each}
use Rattle.link_world.proofs.law.reduced.Core.{End, Standing, SetUp, Tagged, Kind, with_running, set_ups, era, count}
use Rattle.link_world.proofs.law.reduced.Core.Kind.{Sabm, Disc, Ua, Dm, IsNumbered}
use Rattle.link_world.proofs.law.reduced.Core.Standing.{Idle, Calling, Up, Releasing}
use Rattle.link_world.proofs.law.reduced.CoreMoves.{sabms, sabm_of}
use Rattle.link_world.proofs.law.invariant.Mates.{IsSilent, of_mate_other, of_mate_none}
use Rattle.link_world.proofs.law.Each.{each_weaker, each_before}
use Rattle.link_world.proofs.law.numbers.InfoChain.{info_below_silent}
use Rattle.link_world.proofs.law.invariant.SetUps.{length_last}
use Rattle.link_world.proofs.law.invariant.Views.{View, ua_by, ua_tag, view_by, view_fresh}
use Rattle.link_world.proofs.law.reduced.CoreLaw.{GotBy, GotOf}
use Rattle.link_world.proofs.law.invariant.Invariant.{OfSetUp, IsCurrentCall, OriginUnder, WasSent}

silent_by :
    (count mate tag : ℕ) (k : Kind) → count ≤ mate → OfSetUp count tag k
    → IsSilent mate (record { tag = tag; kind = k })
silent_by count mate tag (Sabm modulus) le h = of_mate_none mate (record { tag = tag; kind = (Sabm modulus) }) refl
silent_by count mate tag Disc le h = of_mate_none mate (record { tag = tag; kind = Disc }) refl
silent_by count mate tag Ua le h = of_mate_none mate (record { tag = tag; kind = Ua }) refl
silent_by count mate tag (Dm answers) le h = of_mate_none mate (record { tag = tag; kind = Dm answers }) refl
silent_by count mate tag (IsNumbered modulus n) le h =
    of_mate_other mate (record { tag = tag; kind = IsNumbered modulus n }) (λ e. omega arith)

-- no I or S frame is of a set-up that its sender has not opened
pub silent_of_unopened :
    (count mate : ℕ) (fs : List Tagged) → count ≤ mate → Each (λ f. OfSetUp count f.tag f.kind) fs
    → Each (IsSilent mate) fs
silent_of_unopened count mate fs le h = each_weaker _ _ (λ f o. silent_by count mate f.tag f.kind le o) fs h

-- nothing is stored, and nothing under way has a number
pub sent_of_silent :
    (modulus mate : ℕ) {top : ℕ} {fs : List Tagged} → Each (IsSilent mate) fs → WasSent (view_fresh modulus mate) fs top
sent_of_silent modulus mate {top} {fs} silent = record {
  stored = tt;
  under_way = each_weaker _ _ (λ f is. info_below_silent top is) fs silent;
}

under_by : (ys : List SetUp) (got : List Packet) (o : Option ℕ) → GotBy ys got o → IfSome o (λ a. a < length ys)
under_by ys got None h = tt
under_by ys got (Some a) h = h.0

-- origins are set-ups that were opened
pub origins_opened : (ys xs : List SetUp) → Each (GotOf ys) xs → Each (OriginUnder (length ys)) xs
origins_opened ys xs h = each_weaker _ _ (λ q g. under_by ys q.got q.origin g) xs h

-- what holds of each tag holds of that of the UA
pub ua_tag_of_each : (P : ℕ → Type 0) (fs : List Tagged) → Each (λ f. P f.tag) fs → IfSome (ua_tag fs) P
ua_tag_of_each P [] h = tt
ua_tag_of_each P (f ∷ fs) h = go f.kind h.0 (ua_tag_of_each P fs h.1)
  where
    go : (k : Kind) → P f.tag → IfSome (ua_tag fs) P → IfSome (ua_by k f.tag (ua_tag fs)) P
    go (Sabm modulus) here rest = rest
    go Disc here rest = rest
    go Ua here rest = here
    go (Dm answers) here rest = rest
    go (IsNumbered modulus n) here rest = rest

no_call_by : (count other tag : ℕ) (k : Kind) → sabm_of k ≡ 0 → IsCurrentCall count tag k → IsCurrentCall other tag k
no_call_by count other tag (Sabm modulus) h c = absurd (omega arith)
no_call_by count other tag Disc h c = tt
no_call_by count other tag Ua h c = tt
no_call_by count other tag (Dm answers) h c = tt
no_call_by count other tag (IsNumbered modulus n) h c = tt

-- without a SABM any set-up may come next
pub no_calls :
    (count other : ℕ) (fs : List Tagged) → sabms fs ≡ 0 → Each (λ f. IsCurrentCall count f.tag f.kind) fs
    → Each (λ f. IsCurrentCall other f.tag f.kind) fs
no_calls count other [] h c = tt
no_calls count other (f ∷ fs) h c =
    (no_call_by count other f.tag f.kind (omega arith) c.0, no_calls count other fs (omega arith) c.1)

of_set_up_by : (count more tag : ℕ) (k : Kind) → count ≤ more → OfSetUp count tag k → OfSetUp more tag k
of_set_up_by count more tag (Sabm modulus) le h = tt
of_set_up_by count more tag Disc le h = tt
of_set_up_by count more tag Ua le h = tt
of_set_up_by count more tag (Dm answers) le h = tt
of_set_up_by count more tag (IsNumbered modulus n) le h = le_trans h le

-- another set-up is opened
pub of_more_set_ups :
    (count more : ℕ) (fs : List Tagged) → count ≤ more → Each (λ f. OfSetUp count f.tag f.kind) fs
    → Each (λ f. OfSetUp more f.tag f.kind) fs
of_more_set_ups count more fs le h = each_weaker _ _
    (λ f o. of_set_up_by count more f.tag f.kind le o) fs h

call_of_last : (count tag era : ℕ) (k : Kind) → IsCurrentCall count tag k → tag ≤ era → era < count → sabm_of k ≡ 0
call_of_last count tag era (Sabm modulus) c le lt = absurd (omega arith)
call_of_last count tag era Disc c le lt = refl
call_of_last count tag era Ua c le lt = refl
call_of_last count tag era (Dm answers) c le lt = refl
call_of_last count tag era (IsNumbered modulus n) c le lt = refl

-- no SABM of an end that is up is under way
pub no_calls_of_up :
    (count era : ℕ) (fs : List Tagged) → Each (λ f. IsCurrentCall count f.tag f.kind) fs → Each (λ f. f.tag ≤ era) fs
    → era < count → sabms fs ≡ 0
no_calls_of_up count era [] c le lt = refl
no_calls_of_up count era (f ∷ fs) c le lt =
    let here = call_of_last count f.tag era f.kind c.0 le.0 lt in
    let rest = no_calls_of_up count era fs c.1 le.1 lt in
    omega arith

-- the era is the last set-up of an end that is up, and else the next
pub era_le_count : (e : End) → era e ≤ count e
era_le_count e = go e.standing e.ended
  where
    go : (s : Standing) (ended : List SetUp) → length ended ≤ length (with_running s ended)
    go Idle ended = omega arith
    go (Calling waiting) ended = omega arith
    go (Up r) ended = omega (arith, length_last ended r.set_up)
    go Releasing ended = omega arith

pub count_le_era : (e : End) → count e ≤ era e + 1
count_le_era e = go e.standing e.ended
  where
    go : (s : Standing) (ended : List SetUp) → length (with_running s ended) ≤ length ended + 1
    go Idle ended = omega arith
    go (Calling waiting) ended = omega arith
    go (Up r) ended = omega (arith, length_last ended r.set_up)
    go Releasing ended = omega arith

-- what holds of each set-up holds of those that ended
pub ended_of_all : (P : SetUp → Type 0) (e : End) → Each P (set_ups e) → Each P e.ended
ended_of_all P e h = go e.standing e.ended h
  where
    go : (s : Standing) (ended : List SetUp) → Each P (with_running s ended) → Each P ended
    go Idle ended h = h
    go (Calling waiting) ended h = h
    go (Up r) ended h = each_before P ended r.set_up h
    go Releasing ended h = h

-- an end whose last set-up is over, and which waits for no UA, sees nothing
pub blind_of_down :
    (modulus : ℕ) (s : Standing) (ended : List SetUp) {ua : Option ℕ}
    → length (with_running s ended) ≤ length ended → ua ≡ None → view_by modulus s ua ≡ None
blind_of_down modulus Idle ended le none = refl
blind_of_down modulus (Calling waiting) ended le none = ap (view_by modulus (Calling waiting)) none
blind_of_down modulus (Up r) ended le none = absurd (omega (arith, length_last ended r.set_up))
blind_of_down modulus Releasing ended le none = refl

-- what holds of the set-up that a UA names is what a calling end sees
pub if_calling :
    (P : View → Type 0) (modulus : ℕ) (waiting : List Packet) (o : Option ℕ)
    → IfSome o (λ tag. P (view_fresh modulus tag)) → IfSome (view_by modulus (Calling waiting) o) P
if_calling P modulus waiting None h = tt
if_calling P modulus waiting (Some tag) h = h
