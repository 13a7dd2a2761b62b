-- What a growth answered, once the memory was told of it.
use Rattle.station.proofs.Common.{◌≡◌, Result, Ok, Err, IfOk, OnOk, subst, OutOfMemory}

-- what holds of a good answer holds of its value
pub if_took : {A E : Type 0} (P : A → Type 0) (answer : Result A E) (value : A) → answer ≡ Ok value → IfOk answer P
    → P value
if_took P answer value is h = subst (λ r. IfOk r P) is h

pub on_took : {A E : Type 0} (P : Type 0) (answer : Result A E) (value : A) → answer ≡ Ok value → OnOk answer P → P
on_took P answer value is h = subst (λ r. OnOk r P) is h

-- and of what the memory makes of it
pub took_if : {A E : Type 0} (P : A → Type 0) (answer : Result A E) (result : Result A OutOfMemory)
    → IfOk result (λ value. answer ≡ Ok value) → IfOk answer P → IfOk result P
took_if P answer (Ok value) is h = if_took P answer value is h
took_if P answer (Err fault) is h = tt

pub took_on : {A E : Type 0} (P : Type 0) (answer : Result A E) (result : Result A OutOfMemory)
    → IfOk result (λ value. answer ≡ Ok value) → OnOk answer P → OnOk result P
took_on P answer (Ok value) is h = on_took P answer value is h
took_on P answer (Err fault) is h = tt

pub if_ok_weaker : {A E : Type 0} (P Q : A → Type 0) (answer : Result A E) → ((x : A) → P x → Q x) → IfOk answer P
    → IfOk answer Q
if_ok_weaker P Q (Ok x) weaker h = weaker x h
if_ok_weaker P Q (Err e) weaker h = h
