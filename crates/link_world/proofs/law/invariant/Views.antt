-- What an end that is up sees of its partner, and what one that is calling will see once it has heard the UA under way
-- to it.
use Rattle.link_world.proofs.Common.{ℕ, List, [], ◌∷◌, Option, Some, None}
use Rattle.link_world.proofs.law.reduced.Core.{End, Running, Standing, Stored, Tagged, Kind}
use Rattle.link_world.proofs.law.reduced.Core.Kind.{Sabm, Disc, Ua, Dm, IsNumbered}
use Rattle.link_world.proofs.law.reduced.Core.Standing.{Idle, Calling, Up, Releasing}
use Rattle.link_world.proofs.law.reduced.CoreMoves.{answers}

pub record View : Type 0 where
  pub mate : ℕ
  pub modulus : ℕ
  pub va : ℕ
  pub top : ℕ
  pub vr : ℕ
  pub stored : List Stored

abbrev pub view_up : ℕ → Running → View
view_up modulus r =
    record { mate = r.set_up.mate; modulus = modulus; va = r.va; top = r.top; vr = r.vr; stored = r.stored }

abbrev pub view_fresh : (modulus tag : ℕ) → View
view_fresh modulus tag = record { mate = tag; modulus = modulus; va = 0; top = 0; vr = 0; stored = [] }

-- the tag of the first UA under way
abbrev pub ua_by : Kind → ℕ → Option ℕ → Option ℕ
ua_by (Sabm modulus) tag rest = rest
ua_by Disc tag rest = rest
ua_by Ua tag rest = Some tag
ua_by (Dm answers) tag rest = rest
ua_by (IsNumbered modulus n) tag rest = rest

abbrev pub ua_tag : List Tagged → Option ℕ
ua_tag [] = None
ua_tag (f ∷ fs) = ua_by f.kind f.tag (ua_tag fs)

abbrev pub view_by : ℕ → Standing → Option ℕ → Option View
view_by modulus Idle ua = None
view_by modulus (Calling waiting) None = None
view_by modulus (Calling waiting) (Some tag) = Some (view_fresh modulus tag)
view_by modulus (Up r) ua = Some (view_up modulus r)
view_by modulus Releasing ua = None

abbrev pub view : End → List Tagged → Option View
view e fs = view_by e.modulus e.standing (ua_tag fs)
