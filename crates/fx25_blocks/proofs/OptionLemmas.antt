-- What is said of an option, from what implies it.
use Rattle.fx25_blocks.proofs.Common.{◌≡◌}
use Rattle.std.specs.Prelude.{Option, Some, None, IfSome}
use Rattle.std.specs.Option.{IfNone}

pub none_from : {T : Type 0} (o : Option T) (P Q : Type 0) → (P → Q) → IfNone o P → IfNone o Q
none_from None P Q from h = from h
none_from (Some x) P Q from h = h

pub some_from : {T : Type 0} (o : Option T) (P Q : T → Type 0) → ((x : T) → P x → Q x) → IfSome o P → IfSome o Q
some_from None P Q from h = h
some_from (Some x) P Q from h = from x h
