-- What the ends of commands say of the program's.
use Rattle.tnc_main.proofs.Common.{◌≡◌, Result, Ok, Err, IfErr, inl, inr, refl, sym, subst, ◌∙◌, ◌⊎◌, OnOk, OnErr}
use Rattle.tnc_main.proofs.Common.{Fault, InputFault, LoopFault, BenchFault, CommandFault, Command, Loop, Bench}
use Rattle.tnc_main.proofs.Common.{BenchOptions, LoopWords, Stop, Input, Read, Write, IsStopOfRun, end_of, end_of_bench}
use Rattle.tnc_main.proofs.Common.{end_of_loop}
use Rattle.std.specs.Prelude.{List, ℕ}
use Rattle.tnc_forms.specs.declared.fault.Fault.TheVariants.{Input as OfInput, Memory as OfMemory, Read as OfRead}
use Rattle.tnc_forms.specs.declared.fault.Fault.TheVariants.{Write as OfWrite}
use Rattle.tnc_loop.specs.declared.fault.LoopFault.TheVariants.{Stray as LoopStray, Memory as LoopMemory}
use Rattle.tnc_loop.specs.declared.fault.LoopFault.TheVariants.{Write as LoopWrite}
use Rattle.tnc_loop.specs.Summary.{IsFirstStray}
use Rattle.channel_bench.specs.declared.report.BenchFault.TheVariants.{Stray as BenchStray, NotQuiet as BenchNotQuiet}
use Rattle.channel_bench.specs.declared.report.BenchFault.TheVariants.{Spent as BenchSpent, Memory as BenchMemory}
use Rattle.channel_bench.specs.BenchRun.{IsFaultOf}
use Rattle.tnc_bench.specs.declared.fault.CommandFault.TheVariants.{Run as OfRun, Write as OfBenchWrite}
use Rattle.tnc_bench.specs.Reported.{words_of}

module _ (r : Result (Unit {0}) Stop) (end : Result (Unit {0}) Fault) (is : r ≡ end_of end) where
  pub if_ok : {P Q : Type 0} → (P → Q) → OnOk end P → OnOk r Q
  if_ok {P} {Q} f h = subst (λ e. OnOk e Q) (sym is) (go end h)
    where
      go : (e : Result (Unit {0}) Fault) → OnOk e P → OnOk (end_of e) Q
      go (Ok x) p = f p
      go (Err fault) p = tt

  pub if_err : {P Q : Type 0} → (P → Q) → OnErr end P → OnErr r Q
  if_err {P} {Q} f h = subst (λ e. OnErr e Q) (sym is) (go end h)
    where
      go : (e : Result (Unit {0}) Fault) → OnErr e P → OnErr (end_of e) Q
      go (Ok x) p = tt
      go (Err fault) p = f p

  pub if_input : (fault : InputFault) → r ≡ Err (Input fault) → end ≡ Err (OfInput fault)
  if_input fault e = go end (sym is ∙ e)
    where
      go : (x : Result (Unit {0}) Fault) → end_of x ≡ Err (Input fault) → x ≡ Err (OfInput fault)
      go (Ok x) h = cc h
      go (Err (OfInput other)) h = cc h
      go (Err OfMemory) h = cc h
      go (Err OfRead) h = cc h
      go (Err OfWrite) h = cc h

  pub if_read : r ≡ Err Read → end ≡ Err OfRead
  if_read e = go end (sym is ∙ e)
    where
      go : (x : Result (Unit {0}) Fault) → end_of x ≡ Err Read → x ≡ Err OfRead
      go (Ok x) h = cc h
      go (Err (OfInput other)) h = cc h
      go (Err OfMemory) h = cc h
      go (Err OfRead) h = refl
      go (Err OfWrite) h = cc h

  -- it names nothing that was sent
  pub reader_sent : (command : Command) → IfErr r (IsStopOfRun command)
  reader_sent command = subst (λ e. IfErr e (IsStopOfRun command)) (sym is) (go end)
    where
      go : (x : Result (Unit {0}) Fault) → IfErr (end_of x) (IsStopOfRun command)
      go (Ok x) = tt
      go (Err (OfInput other)) = tt
      go (Err OfMemory) = tt
      go (Err OfRead) = tt
      go (Err OfWrite) = tt

module _ (r : Result (Unit {0}) Stop) (end : Result (Unit {0}) LoopFault) (is : r ≡ end_of_loop end) where
  pub loop_ok : {P Q : Type 0} → (P → Q) → OnOk end P → OnOk r Q
  loop_ok {P} {Q} f h = subst (λ e. OnOk e Q) (sym is) (go end h)
    where
      go : (e : Result (Unit {0}) LoopFault) → OnOk e P → OnOk (end_of_loop e) Q
      go (Ok x) p = f p
      go (Err fault) p = tt

  pub loop_err : {P Q : Type 0} → (P → Q) → OnErr end P → OnErr r Q
  loop_err {P} {Q} f h = subst (λ e. OnErr e Q) (sym is) (go end h)
    where
      go : (e : Result (Unit {0}) LoopFault) → OnErr e P → OnErr (end_of_loop e) Q
      go (Ok x) p = tt
      go (Err fault) p = f p

  -- it names a stray frame of the loop
  pub loop_sent : (command : Command) (words : LoopWords) → command ≡ Loop words
      → ((frame : List ℕ) → end ≡ Err (LoopStray frame) → IsFirstStray words frame) → IfErr r (IsStopOfRun command)
  loop_sent command words same strays =
      subst (λ c. IfErr r (IsStopOfRun c)) (sym same) (subst (λ e. IfErr e (IsStopOfRun (Loop words))) (sym is)
      (go end strays))
    where
      go : (x : Result (Unit {0}) LoopFault) → ((frame : List ℕ) → x ≡ Err (LoopStray frame) → IsFirstStray words frame)
          → IfErr (end_of_loop x) (IsStopOfRun (Loop words))
      go (Ok x) h = tt
      go (Err (LoopStray frame)) h = h frame refl
      go (Err LoopMemory) h = tt
      go (Err LoopWrite) h = tt

  pub loop_no_input : (fault : InputFault) → r ≡ Err (Input fault) → ⊥
  loop_no_input fault e = go end (sym is ∙ e)
    where
      go : (x : Result (Unit {0}) LoopFault) → end_of_loop x ≡ Err (Input fault) → ⊥
      go (Ok x) h = cc h
      go (Err (LoopStray other)) h = cc h
      go (Err LoopMemory) h = cc h
      go (Err LoopWrite) h = cc h

module _ (r : Result (Unit {0}) Stop) (end : Result (Unit {0}) CommandFault) (is : r ≡ end_of_bench end) where
  pub bench_ok : {P Q : Type 0} → (P → Q) → OnOk end P → OnOk r Q
  bench_ok {P} {Q} f h = subst (λ e. OnOk e Q) (sym is) (go end h)
    where
      go : (e : Result (Unit {0}) CommandFault) → OnOk e P → OnOk (end_of_bench e) Q
      go (Ok x) p = f p
      go (Err fault) p = tt

  -- it names what ended the run of the bench
  pub bench_sent : (command : Command) (options : BenchOptions) → command ≡ Bench options
      → ((fault : BenchFault) → end ≡ Err (OfRun fault) → IsFaultOf (words_of options) fault)
      → IfErr r (IsStopOfRun command)
  bench_sent command options same faults =
      subst (λ c. IfErr r (IsStopOfRun c)) (sym same) (subst (λ e. IfErr e (IsStopOfRun (Bench options))) (sym is)
      (go end faults))
    where
      go : (x : Result (Unit {0}) CommandFault) → ((fault : BenchFault) → x ≡ Err (OfRun fault)
          → IsFaultOf (words_of options) fault)
          → IfErr (end_of_bench x) (IsStopOfRun (Bench options))
      go (Ok x) h = tt
      go (Err (OfRun (BenchStray frame))) h = h (BenchStray frame) refl
      go (Err (OfRun (BenchNotQuiet index))) h = h (BenchNotQuiet index) refl
      go (Err (OfRun (BenchSpent ticks))) h = h (BenchSpent ticks) refl
      go (Err (OfRun BenchMemory)) h = tt
      go (Err OfBenchWrite) h = tt

  pub bench_no_input : (fault : InputFault) → r ≡ Err (Input fault) → ⊥
  bench_no_input fault e = go end (sym is ∙ e)
    where
      go : (x : Result (Unit {0}) CommandFault) → end_of_bench x ≡ Err (Input fault) → ⊥
      go (Ok x) h = cc h
      go (Err (OfRun (BenchStray frame))) h = cc h
      go (Err (OfRun (BenchNotQuiet index))) h = cc h
      go (Err (OfRun (BenchSpent ticks))) h = cc h
      go (Err (OfRun BenchMemory)) h = cc h
      go (Err OfBenchWrite) h = cc h

  pub bench_no_read : r ≡ Err Read → ⊥
  bench_no_read e = go end (sym is ∙ e)
    where
      go : (x : Result (Unit {0}) CommandFault) → end_of_bench x ≡ Err Read → ⊥
      go (Ok x) h = cc h
      go (Err (OfRun (BenchStray frame))) h = cc h
      go (Err (OfRun (BenchNotQuiet index))) h = cc h
      go (Err (OfRun (BenchSpent ticks))) h = cc h
      go (Err (OfRun BenchMemory)) h = cc h
      go (Err OfBenchWrite) h = cc h

  pub bench_write : r ≡ Err Write → end ≡ Err OfBenchWrite
  bench_write e = go end (sym is ∙ e)
    where
      go : (x : Result (Unit {0}) CommandFault) → end_of_bench x ≡ Err Write → x ≡ Err OfBenchWrite
      go (Ok x) h = cc h
      go (Err (OfRun (BenchStray frame))) h = cc h
      go (Err (OfRun (BenchNotQuiet index))) h = cc h
      go (Err (OfRun (BenchSpent ticks))) h = cc h
      go (Err (OfRun BenchMemory)) h = cc h
      go (Err OfBenchWrite) h = refl

-- a text was written, or the output failed: no input was
pub text_no_input : (r : Result (Unit {0}) Stop) → (r ≡ Ok tt) ⊎ (r ≡ Err Write) → (fault : InputFault)
    → r ≡ Err (Input fault) → ⊥
text_no_input r (inl is) fault e = let both : Ok tt ≡ Err (Input fault) = sym is ∙ e in cc both
text_no_input r (inr is) fault e = let both : Err Write ≡ Err (Input fault) = sym is ∙ e in cc both

pub text_no_read : (r : Result (Unit {0}) Stop) → (r ≡ Ok tt) ⊎ (r ≡ Err Write) → r ≡ Err Read → ⊥
text_no_read r (inl is) e = let both : Ok tt ≡ Err Read = sym is ∙ e in cc both
text_no_read r (inr is) e = let both : Err Write ≡ Err Read = sym is ∙ e in cc both

-- a text was written, or the output failed: nothing that was sent is named
pub text_sent : (command : Command) (r : Result (Unit {0}) Stop) → (r ≡ Ok tt) ⊎ (r ≡ Err Write)
    → IfErr r (IsStopOfRun command)
text_sent command r (inl is) = subst (λ e. IfErr e (IsStopOfRun command)) (sym is) tt
text_sent command r (inr is) = subst (λ e. IfErr e (IsStopOfRun command)) (sym is) tt

-- what holds however a call ended holds if it ended well
pub on_ok : {T E : Type 0} (r : Result T E) {P : Type 0} → P → OnOk r P
on_ok (Ok x) p = p
on_ok (Err e) p = tt

pub both_ok : {T E : Type 0} (r : Result T E) (P Q : Type 0) → OnOk r P → OnOk r Q → OnOk r (P × Q)
both_ok (Ok x) P Q p q = (p, q)
both_ok (Err e) P Q p q = tt

-- what holds at each fault holds at this one
pub on_fault : {T E : Type 0} (r : Result T E) {P : Type 0} {e : E} → r ≡ Err e → OnErr r P → P
on_fault r {P} is h = subst (λ q. OnErr q P) is h
