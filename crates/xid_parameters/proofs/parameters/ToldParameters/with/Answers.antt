-- One more value is told.
use Rattle.std.proofs.Common.{ap, ◌∙◌}
use Rattle.std.proofs.lemmas.Bool.{ne_eqb}
use Rattle.xid_parameters.specs.Values.{mode_in}
use Rattle.xid_parameters.proofs.ToldMore.{told_then, untold_then}
use Rattle.xid_parameters.proofs.parameters.ToldParameters.with.Goals as goal

pub returns-then-identifier-eq-CLASSES_OF_PROCEDURES : goal.returns-then-identifier-eq-CLASSES_OF_PROCEDURES
returns-then-identifier-eq-CLASSES_OF_PROCEDURES c before said =
    ap (λ v. record c.args.self { duplex = v }) c.duplex_in.ensures
    ∙ told_then before c.args.self c.args.identifier 2 c.args.value.now c.if-identifier-eq-CLASSES_OF_PROCEDURES.true said

pub returns-then-identifier-eq-OPTIONAL_FUNCTIONS : goal.returns-then-identifier-eq-OPTIONAL_FUNCTIONS
returns-then-identifier-eq-OPTIONAL_FUNCTIONS c before said =
    ap (λ v. record c.args.self { mode = v; modulus = c.modulus_in.result }) c.mode_in.ensures
    ∙ ap (λ v. record c.args.self { mode = mode_in c.args.value.now; modulus = v }) c.modulus_in.ensures
    ∙ told_then before c.args.self c.args.identifier 3 c.args.value.now c.if-identifier-eq-OPTIONAL_FUNCTIONS.true said

pub returns-then-identifier-eq-INFO_LENGTH : goal.returns-then-identifier-eq-INFO_LENGTH
returns-then-identifier-eq-INFO_LENGTH c before said =
    ap (λ v. record c.args.self { info_octets = v }) c.info_octets_in.ensures
    ∙ told_then before c.args.self c.args.identifier 6 c.args.value.now c.if-identifier-eq-INFO_LENGTH.true said

pub returns-then-identifier-eq-WINDOW : goal.returns-then-identifier-eq-WINDOW
returns-then-identifier-eq-WINDOW c before said =
    ap (λ v. record c.args.self { window = v }) c.window_in.ensures
    ∙ told_then before c.args.self c.args.identifier 8 c.args.value.now c.if-identifier-eq-WINDOW.true said

pub returns-then-identifier-eq-ACKNOWLEDGE_TIMER : goal.returns-then-identifier-eq-ACKNOWLEDGE_TIMER
returns-then-identifier-eq-ACKNOWLEDGE_TIMER c before said =
    ap (λ v. record c.args.self { t1 = v }) c.number_in.ensures
    ∙ told_then before c.args.self c.args.identifier 9 c.args.value.now c.if-identifier-eq-ACKNOWLEDGE_TIMER.true said

pub returns-then-identifier-eq-RETRIES : goal.returns-then-identifier-eq-RETRIES
returns-then-identifier-eq-RETRIES c before said =
    ap (λ v. record c.args.self { retries = v }) c.octet_in.ensures
    ∙ told_then before c.args.self c.args.identifier 10 c.args.value.now c.if-identifier-eq-RETRIES.true said

pub returns-else-identifier-eq-RETRIES : goal.returns-else-identifier-eq-RETRIES
returns-else-identifier-eq-RETRIES c before said =
    untold_then before c.args.self c.args.identifier c.args.value.now
    (ne_eqb c.args.identifier 2 c.if-identifier-eq-CLASSES_OF_PROCEDURES.false)
    (ne_eqb c.args.identifier 3 c.if-identifier-eq-OPTIONAL_FUNCTIONS.false)
    (ne_eqb c.args.identifier 6 c.if-identifier-eq-INFO_LENGTH.false)
    (ne_eqb c.args.identifier 8 c.if-identifier-eq-WINDOW.false)
    (ne_eqb c.args.identifier 9 c.if-identifier-eq-ACKNOWLEDGE_TIMER.false)
    (ne_eqb c.args.identifier 10 c.if-identifier-eq-RETRIES.false) said
