-- Steps of a relation one after another, and what they keep.

pub data Run {T : Type 0} (R : T → T → Type 0) : T → T → Type 0 where
  none : {t : T} → Run R t t
  more : {t u v : T} → Run R t u → R u v → Run R t v

pub run_one : {T : Type 0} {R : T → T → Type 0} {t u : T} → R t u → Run R t u
run_one step = more none step

-- one run after another
pub run_on : {T : Type 0} {R : T → T → Type 0} {t u v : T} → Run R t u → Run R u v → Run R t v
run_on first none = first
run_on first (more second step) = more (run_on first second) step

-- a relation that holds from each state to itself, and on from one to a third
pub record GoesOn {T : Type 0} (S : T → T → Type 0) : Type 0 where
  pub same : (t : T) → S t t
  pub on : (t u v : T) → S t u → S u v → S t v

-- if it holds along each step, it holds along a run
pub along_run :
    {T : Type 0} {R S : T → T → Type 0} {t u : T} → GoesOn S → ((x y : T) → R x y → S x y) → Run R t u → S t u
along_run k each (none {t = x}) = k.same x
along_run {t = t} k each (more {u = u} {v = v} run step) = k.on t u v (along_run k each run) (each u v step)

-- runs of a relation whose steps are runs of another
pub run_each :
    {T : Type 0} {R S : T → T → Type 0} {t u : T} → ((x y : T) → R x y → Run S x y) → Run R t u → Run S t u
run_each each none = none
run_each each (more {u = u} {v = v} run step) = run_on (run_each each run) (each u v step)
