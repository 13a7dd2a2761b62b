-- Answers that can't be the same.
use Rattle.host_ports.proofs.Common.{Bool, true, false, Result, Ok, Err, OnErr, OnOk, sym, ◌∙◌, ap, true≢false, false≢true}
use Rattle.std.specs.Prelude.{◌≡◌, is_ok}
use Rattle.host_ports.specs.declared.outgoing.AppendFault.{AppendFault}
use Rattle.host_ports.specs.declared.outgoing.AppendFault.TheVariants.{Full, Memory}

pub ok_or_err : {T E : Type 0} (r : Result T E) (x : T) (e : E) → r ≡ Ok x → r ≡ Err e → ⊥
ok_or_err r x e is_ok_one is_err_one = true≢false (sym (ap is_ok is_ok_one) ∙ ap is_ok is_err_one)

err_same : {T E : Type 0} (a b : E) → (let r : Result T E = Err a in r ≡ Err b) → a ≡ b
err_same a b same = cc

pub err_again : {T U E : Type 0} (r : Result T E) (a b : E) → r ≡ Err a
    → (let same : Result U E = Err a in same ≡ Err b) → r ≡ Err b
err_again r a b is same = let e : a ≡ b = err_same a b same in is ∙ ap (λ x. Err x) e

pub err_there : {T U E : Type 0} (r : Result T E) (a b : E) → r ≡ Err a → r ≡ Err b
    → (let other : Result U E = Err a in other ≡ Err b)
err_there r a b is too = let same : a ≡ b = err_same a b (sym is ∙ too) in ap (λ x. Err x) same

abbrev pub is_full : {T : Type 0} → Result T AppendFault → Bool
is_full (Ok x) = false
is_full (Err Full) = true
is_full (Err Memory) = false

pub memory_or_full : {T : Type 0} (r : Result T AppendFault) (fault : AppendFault) → r ≡ Err fault → fault ≡ Memory
    → r ≡ Err Full → ⊥
memory_or_full r fault is memory full = false≢true (sym (ap is_full (is ∙ ap (λ f. Err f) memory)) ∙ ap is_full full)

-- what follows if there is a value
pub on_ok_two : {T E P Q R : Type 0} (r : Result T E) → (P → Q → R) → OnOk r P → OnOk r Q → OnOk r R
on_ok_two (Ok x) f p q = f p q
on_ok_two (Err e) f p q = tt

-- what holds at an error holds if there is one
pub on_err : {T E : Type 0} → (r : Result T E) → (P : Type 0) → P → OnErr r P
on_err (Ok v) P p = tt
on_err (Err e) P p = p
