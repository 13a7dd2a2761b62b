-- What holds of the value that there may be.
use Rattle.link_world.proofs.Common.{Option, Some, None, IfSome}

pub if_weaker : {A : Type 0} (o : Option A) (P Q : A → Type 0) → ((a : A) → P a → Q a) → IfSome o P → IfSome o Q
if_weaker None P Q f h = tt
if_weaker (Some a) P Q f h = f a h

pub if_both :
    {A : Type 0} (o : Option A) (P Q R : A → Type 0) → ((a : A) → P a → Q a → R a) → IfSome o P → IfSome o Q
    → IfSome o R
if_both None P Q R f h k = tt
if_both (Some a) P Q R f h k = f a h k

pub if_all : {A : Type 0} (o : Option A) (P : A → Type 0) → ((a : A) → P a) → IfSome o P
if_all None P f = tt
if_all (Some a) P f = f a
