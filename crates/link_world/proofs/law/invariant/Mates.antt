-- The I and S frames of one set-up among what is under way.
use Rattle.link_world.proofs.Common.{◌≡◌, ℕ, Bool, true, false, if◌then◌else◌, Option, Some, None, refl, cond-true}
use Rattle.link_world.proofs.Common.{cond-false, ne_eqb}
use Rattle.std.proofs.Common.{nat_eq}
use Rattle.std.proofs.lemmas.Bool.{eq-eqb}
use Rattle.link_world.proofs.law.reduced.Core.{Tagged, Kind, Numbered}
use Rattle.link_world.proofs.law.reduced.Core.Kind.{Sabm, Disc, Ua, Dm, IsNumbered}

abbrev pub numbered : Kind → Option Numbered
numbered (Sabm modulus) = None
numbered Disc = None
numbered Ua = None
numbered (Dm answers) = None
numbered (IsNumbered modulus n) = Some n

-- an I or S frame of one set-up
abbrev pub of_mate : ℕ → Tagged → Option Numbered
of_mate mate f = if nat_eq f.tag mate then numbered f.kind else None

-- a frame of another set-up, or with no numbers
abbrev pub IsSilent : ℕ → Tagged → Type 0
IsSilent mate f = of_mate mate f ≡ None

-- a frame of the set-up
pub of_mate_same : {mate : ℕ} (f : Tagged) → f.tag ≡ mate → of_mate mate f ≡ numbered f.kind
of_mate_same {mate} f is = cond-true _ _ _ (eq-eqb f.tag mate is)

-- a frame of another set-up
pub of_mate_other : (mate : ℕ) (f : Tagged) → (f.tag ≡ mate → ⊥) → of_mate mate f ≡ None
of_mate_other mate f is = cond-false _ _ _ (ne_eqb f.tag mate is)

same_both_ways : (b : Bool) (o : Option Numbered) → (if b then o else o) ≡ o
same_both_ways true o = refl
same_both_ways false o = refl

-- a frame without numbers
pub of_mate_none : (mate : ℕ) (f : Tagged) → numbered f.kind ≡ None → of_mate mate f ≡ None
of_mate_none mate f is = rw is (same_both_ways (nat_eq f.tag mate) None)
