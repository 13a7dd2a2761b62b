-- One of two, by a test.
use Rattle.std.proofs.Common.{Bool, true, false, cond}

-- what holds of both holds of the one that is taken
pub either : {T : Type 0} (P : T → Type 0) (b : Bool) (x y : T) → P x → P y → P (cond b x y)
either P true x y h k = h
either P false x y h k = k
