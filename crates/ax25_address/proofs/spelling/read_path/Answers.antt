use Rattle.ax25_address.proofs.Common.{◌≡◌, ◌*◌, ◌<◌, ℕ, Bool, false, List, ap, arith, ◌∙◌, subst, eqb, length}
use Rattle.ax25_address.proofs.Common.{err_from_is_err_and, nat_tests, IsField, bit, field_at, repeater_count, Path}
use Rattle.ax25_address.proofs.Common.{GoesOnFor, OneAddress}
use Rattle.ax25_address.proofs.FieldLemmas.{ShowsFault-field, GoesOnFor-field, GoesOnFor-name, HasNameUpTo-field}
use Rattle.ax25_address.proofs.FieldLemmas.{field_end}
use Rattle.ax25_address.proofs.PathLemmas.{BeginsWithPath-fields}
use Rattle.ax25_address.proofs.OneReading.{IsOneReading, IsOneReading-path, IsOneReading-fault}
use Rattle.ax25_address.proofs.spelling.read_path.Goals as goal

none_yet : (octets : List ℕ) → GoesOnFor octets (7 * 0)
none_yet octets at below = absurd (omega arith)

pub returns-then-dest : goal.returns-then-dest
returns-then-dest c =
    let dest = c.in_ok-dest.dest in
    let octets = c.args.octets.now in
    let ends = field_end dest.call dest.top dest.last octets 0 c.in_ok-dest.ensures.field ∙ ap bit c.if-dest.true in
    let one = IsOneReading-fault octets OneAddress (
      omega (arith, c.in_ok-dest.ensures.whole),
      GoesOnFor-name octets 0 6 (none_yet octets) (omega arith)
          (HasNameUpTo-field dest.call dest.top dest.last octets 0 c.in_ok-dest.ensures.field),
      ends,
    ) in
    record { path = one.path; fault = one.fault; each_path = one.each_path; each_fault = one.each_fault }

pub returns-in_err-dest : goal.returns-in_err-dest
returns-in_err-dest c =
    let p = err_from_is_err_and c.from_residual.result c.from_residual.ensures.1 in
    let one : IsOneReading c.args.octets.now c.from_residual.result =
    rw (p.1, p.2) (IsOneReading-fault c.args.octets.now _
    (ShowsFault-field _ 0 _ (omega arith) (none_yet c.args.octets.now) c.in_err-dest.ensures.refused)) in
    record { path = one.path; fault = one.fault; each_path = one.each_path; each_fault = one.each_fault }

pub returns-in_err-source : goal.returns-in_err-source
returns-in_err-source c =
    let p = err_from_is_err_and c.from_residual-in_err-source.result c.from_residual-in_err-source.ensures.1 in
    let dest = c.in_ok-dest.dest in
    let one : IsOneReading c.args.octets.now c.from_residual-in_err-source.result =
    rw (p.1, p.2) (IsOneReading-fault c.args.octets.now _
    (ShowsFault-field _ 1 _ (omega arith)
    (GoesOnFor-field dest.call dest.top c.args.octets.now 0 (none_yet c.args.octets.now)
    (subst (λ (last : Bool). IsField dest.call dest.top last (field_at c.args.octets.now 0))
    c.if-dest.false c.in_ok-dest.ensures.field))
    c.in_err-source.ensures.refused)) in
    record { path = one.path; fault = one.fault; each_path = one.each_path; each_fault = one.each_fault }

pub read_repeaters-requires-clause-goes_on : goal.read_repeaters-requires-clause-goes_on
read_repeaters-requires-clause-goes_on c =
    let dest = c.in_ok-dest.dest in
    let source = c.in_ok-source.source in
    let octets = c.args.octets.now in
    GoesOnFor-field source.call source.top octets 1
    (GoesOnFor-field dest.call dest.top octets 0 (none_yet octets)
    (subst (λ (last : Bool). IsField dest.call dest.top last (field_at octets 0))
    c.if-dest.false c.in_ok-dest.ensures.field))
    (subst (λ (last : Bool). IsField source.call source.top last (field_at octets 1))
    c.if-source.false c.in_ok-source.ensures.field)

pub returns-then-source : goal.returns-then-source
returns-then-source c =
    let dest = c.in_ok-dest.dest in
    let source = c.in_ok-source.source in
    let octets = c.args.octets.now in
    let path : Path = record {
      dest = dest.call;
      source = source.call;
      repeaters = c.new.result;
      role = c.role_of-role.result;
    } in
    let none : repeater_count path ≡ 0 = ap length c.new.ensures in
    let one = IsOneReading-path octets path 14 (BeginsWithPath-fields octets path 14 (omega arith) (omega arith)
    (omega (arith, c.in_ok-source.ensures.whole))
    (rw (c.role_of-role.ensures.dest, ← c.if-dest.false) c.in_ok-dest.ensures.field)
    (rw (c.role_of-role.ensures.source, none, ← c.if-source.true) c.in_ok-source.ensures.field)
    (λ k d below. absurd (omega arith))) in
    record { path = one.path; fault = one.fault; each_path = one.each_path; each_fault = one.each_fault }

pub returns-in_err-repeaters : goal.returns-in_err-repeaters
returns-in_err-repeaters c =
    let p = err_from_is_err_and c.from_residual-in_err-repeaters.result c.from_residual-in_err-repeaters.ensures.1 in
    let one : IsOneReading c.args.octets.now c.from_residual-in_err-repeaters.result =
    rw (p.1, p.2) (IsOneReading-fault c.args.octets.now _ c.in_err-repeaters.ensures.fault) in
    record { path = one.path; fault = one.fault; each_path = one.each_path; each_fault = one.each_fault }

pub returns : goal.returns
returns c =
    let dest = c.in_ok-dest.dest in
    let source = c.in_ok-source.source in
    let octets = c.args.octets.now in
    let r = c.in_ok-repeaters.ensures.repeaters in
    let path : Path = record {
      dest = dest.call;
      source = source.call;
      repeaters = c.in_ok-repeaters.repeaters;
      role = c.role_of-role.result;
    } in
    let some : eqb (repeater_count path) 0 ≡ false = let n : 0 < repeater_count path = r.some in
    grind (arith, nat_tests) in
    let one = IsOneReading-path octets path c.in_ok-repeaters.len
    (BeginsWithPath-fields octets path c.in_ok-repeaters.len r.count r.size r.whole
    (rw (c.role_of-role.ensures.dest, ← c.if-dest.false) c.in_ok-dest.ensures.field)
    (rw (c.role_of-role.ensures.source, some, ← c.if-source.false) c.in_ok-source.ensures.field)
    r.fields) in
    record { path = one.path; fault = one.fault; each_path = one.each_path; each_fault = one.each_fault }
