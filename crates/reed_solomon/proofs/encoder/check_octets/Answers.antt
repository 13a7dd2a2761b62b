use Rattle.reed_solomon.proofs.Common.{◌≡◌, ℕ, ◌+◌, ◌-◌, List, ◌++◌, [], ◌∷◌, length, get_or, replicate, ap, sym, ◌∙◌}
use Rattle.reed_solomon.proofs.Common.{subst, arith, fold, append_assoc, length-replicate, whole_of, ChecksOf}
use Rattle.reed_solomon.proofs.Common.{generator_of, taken, zeros_after, value_at}
use Rattle.std.proofs.lemmas.List.{replicate_more}
use Rattle.std.proofs.lemmas.List.Sums.{fold_more, fold_push}
use Rattle.reed_solomon.proofs.DistanceLemmas.{codeword_parts, octets_of_all, one_check}
use Rattle.reed_solomon.proofs.GeneratorLemmas.{length-generator_of, Octets-generator_of, generator_vanishes}
use Rattle.reed_solomon.proofs.RegisterLemmas.{length-taken, Octets-register, register_checks, value_at-with_zeros}
use Rattle.reed_solomon.proofs.ValueLemmas.{Octets, Octets-append, Octets-replicate, octets_from}
use Rattle.reed_solomon.proofs.encoder.check_octets.Goals as goal

pub take-requires-clause-size : goal.take-requires-clause-size
take-requires-clause-size c =
    let size = ap length c.generator-generator.ensures ∙ length-generator_of c.first_root.result c.check_count.result
    in omega (arith, size, c.loop-octet.invariant.count, c.check_count.ensures, ap length c.as_slice.ensures.value)

pub loop-octet-preserved : goal.loop-octet-preserved
loop-octet-preserved c =
    let code = c.args.code.now in
    let g = c.generator-generator.result.items in
    let start : List ℕ = replicate code.check_count 0 in
    let octets = c.args.octets.now in
    let i = c.loop-octet.octet-index in
    let size = ap length c.generator-generator.ensures ∙ length-generator_of c.first_root.result c.check_count.result in
    let sizes : length c.loop-octet.register.items ≡ length g =
    omega (arith, size, c.loop-octet.invariant.count, c.check_count.ensures) in
    let is = c.take.ensures ∙ ap (λ xs. taken xs c.loop-octet.register.items
    (get_or octets i 0)) c.as_slice.ensures.value in
    record {
      register = is ∙ ap (λ r. taken g r (get_or octets i 0)) c.loop-octet.invariant.register
          ∙ sym (fold_more (taken g) start octets i 0 (omega arith));
      count = ap length is ∙ length-taken g c.loop-octet.register.items (get_or octets i 0) sizes
          (omega (arith, code.least, c.loop-octet.invariant.count)) ∙ sym sizes ∙ c.loop-octet.invariant.count;
    }

pub take-requires-in-loop-clause-size : goal.take-requires-in-loop-clause-size
take-requires-in-loop-clause-size c =
    let size = ap length c.generator-generator.ensures ∙ length-generator_of c.first_root.result c.check_count.result
    in omega (arith, size, c.loop.invariant.count, c.check_count.ensures, ap length c.as_slice-in-loop.ensures.value)

pub loop-preserved : goal.loop-preserved
loop-preserved c =
    let code = c.args.code.now in
    let g = c.generator-generator.result.items in
    let start : List ℕ = replicate code.check_count 0 in
    let octets = c.args.octets.now in
    let i = c.loop.counter in
    let size = ap length c.generator-generator.ensures ∙ length-generator_of c.first_root.result c.check_count.result in
    let sizes : length c.loop.register.items ≡ length g =
    omega (arith, size, c.loop.invariant.count, c.check_count.ensures) in
    let is = c.take-in-loop.ensures ∙ ap (λ xs. taken xs c.loop.register.items 0) c.as_slice-in-loop.ensures.value in
    let longer : (octets ++ replicate i 0) ++ 0 ∷ [] ≡ octets ++ replicate (i + 1) 0 =
    append_assoc octets (replicate i 0) (0 ∷ []) ∙ ap (λ xs. octets ++ xs) (replicate_more i 0) in
    record {
      register = is ∙ ap (λ r. taken g r 0) c.loop.invariant.register
          ∙ sym (fold_push (taken g) start (octets ++ replicate i 0) 0) ∙ ap (fold (taken g) start) longer;
      count = ap length is ∙ length-taken g c.loop.register.items 0 sizes
          (omega (arith, code.least, c.loop.invariant.count)) ∙ sym sizes ∙ c.loop.invariant.count;
    }

checks : (c : goal.After-loop) → ChecksOf c.args.code.now c.args.octets.now c.loop.register.items
unfolding whole_of
checks c = λ j from below.
    let code = c.args.code.now in
    let octets = c.args.octets.now in
    let r = c.loop.register.items in
    let n = 255 - code.check_count - length octets in
    let k = c.loop.counter in
    let g = generator_of code.first_root code.check_count in
    let of_code = ap (λ m. generator_of m c.check_count.result) c.first_root.ensures
    ∙ ap (generator_of code.first_root) c.check_count.ensures in
    let size = length-generator_of code.first_root code.check_count in
    let zeros : k ≡ zeros_after code.zeros n = omega (arith, c.zeros_after-end.ensures) in
    let all = Octets-append octets (replicate k 0) (octets_from octets (λ i inside. (c.type_inv.octets i).fits))
    (Octets-replicate k) in
    let register : r ≡ fold (taken g) (replicate (length g) 0) (octets ++ replicate k 0) =
    c.loop.invariant.register
    ∙ ap (λ xs. fold (taken xs) (replicate code.check_count 0) (octets ++ replicate k 0))
    (c.generator-generator.ensures ∙ of_code)
    ∙ ap (λ m. fold (taken g) (replicate m 0) (octets ++ replicate k 0)) (sym size) in
    value_at-with_zeros j code.zeros n octets r
    ∙ ap (λ m. value_at j ((octets ++ replicate m 0) ++ r)) (sym zeros)
    ∙ ap (λ xs. value_at j ((octets ++ replicate k 0) ++ xs)) register
    ∙ register_checks j g (octets ++ replicate k 0) (omega (arith, size, code.least))
    (Octets-generator_of code.first_root code.check_count) all
    (generator_vanishes code.first_root code.check_count j from below)

pub returns-clause-codeword : goal.returns-clause-codeword
returns-clause-codeword c =
    let code = c.args.code.now in
    (codeword_parts code (ChecksOf code) c.args.octets.now c.loop.register.items c.loop.invariant.count).1 (checks c)

pub returns-clause-only : goal.returns-clause-only
returns-clause-only c = λ other all size is.
    let code = c.args.code.now in
    let octets = c.args.octets.now in
    let g = c.generator-generator.result.items in
    let data_octets = octets_from octets (λ i inside. (c.type_inv.octets i).fits) in
    let P : List ℕ → Type 0 = λ xs. Octets xs in
    let g_size : length g ≡ code.check_count =
    ap length c.generator-generator.ensures ∙ length-generator_of c.first_root.result c.check_count.result
    ∙ c.check_count.ensures in
    let g_octets = subst P (sym c.generator-generator.ensures)
    (Octets-generator_of c.first_root.result c.check_count.result) in
    let start : length (replicate {A = ℕ} code.check_count 0) ≡ length g =
    length-replicate {A = ℕ} code.check_count 0 ∙ sym g_size in
    let register = subst P (sym c.loop.invariant.register)
    (Octets-register g (replicate code.check_count 0) (octets ++ replicate c.loop.counter 0) start
    (omega (arith, g_size, code.least)) g_octets (Octets-replicate code.check_count)) in
    one_check code octets other c.loop.register.items data_octets (octets_of_all other all) register size
    c.loop.invariant.count c.requires is
    ((codeword_parts code (ChecksOf code) octets c.loop.register.items c.loop.invariant.count).1 (checks c))
