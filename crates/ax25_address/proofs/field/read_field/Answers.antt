use Rattle.ax25_address.proofs.Common.{◌*◌, ◌+◌, ◌%◌, ℕ, arith, sym, subst, get_or, leb, eqb, Callsign, IsField}
use Rattle.ax25_address.proofs.Common.{field_at}
use Rattle.ax25_address.proofs.FieldLemmas.{IsField-read, HasNameUpTo-name}
use Rattle.ax25_address.proofs.field.read_field.Goals as goal

pub returns-clause-field : goal.returns-clause-field
returns-clause-field c =
    let o : ℕ = get_or c.args.octets.now (7 * c.args.k + 6) 0 in
    subst (λ (call : Callsign). IsField call (leb 128 o) (eqb (o % 2) 1) (field_at c.args.octets.now c.args.k))
    (sym c.with_ssid.ensures)
    (IsField-read c.args.octets.now c.args.k c.in_ok-name.name c.in_ok-name.ensures.valid c.in_ok-name.ensures.name
    (omega arith) (c.type_inv.octets _).fits)

pub returns-then-at-octets-clause-refused : goal.returns-then-at-octets-clause-refused
returns-then-at-octets-clause-refused c = (
  omega (arith, c.in_ok-name.ensures.whole),
  omega arith,
  omega arith,
  HasNameUpTo-name _ _ c.in_ok-name.name.name (omega arith) c.in_ok-name.ensures.valid.name c.in_ok-name.ensures.name,
)
