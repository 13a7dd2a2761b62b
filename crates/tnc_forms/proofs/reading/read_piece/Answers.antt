use Rattle.tnc_forms.proofs.Common.{◌≡◌, ◌<◌, ◌++◌, Some, drop, length, sym, ap, ◌∙◌, arith, take-append-drop}
use Rattle.tnc_forms.proofs.Common.{take-append-le, common_steps}
use Rattle.tnc_forms.proofs.reading.read_piece.Goals as goal

pub returns-in-Ok-clause-too_long : goal.returns-in-Ok-clause-too_long
returns-in-Ok-clause-too_long g c = λ octets left is.
    let gives = c.in-Ok.ensures.gives octets left in
    let few = c.requires.few in
    let a = c.min.ensures in
    let b = c.max-room.ensures in
    let d = c.in-Ok.ensures.bound in
    let e = c.read.auto.buffer in
    let over = c.if-total-count-gt-INPUT_LIMIT.true in
    let one : c.in-Ok.count ≡ 1 = grind (arith, common_steps) in
    let enough = gives.enough in
    (grind (arith, common_steps), omega (arith, one, enough), gives.rest ∙ ap (λ n. Some (drop n octets)) one)

pub returns-in-Ok-2-clause-piece : goal.returns-in-Ok-2-clause-piece
returns-in-Ok-2-clause-piece g c = λ octets left.
    let gives = c.in-Ok.ensures.gives octets left in
    let a = c.min.ensures in
    let b = c.max-room.ensures in
    let d = c.in-Ok.ensures.bound in
    let e = c.read.auto.buffer in
    let some : 0 < length c.read.new.buffer = grind (arith, common_steps) in
    let piece = take-append-le c.in-Ok.count c.read.new.buffer (drop c.max-room.result c.args.buffer.now) d
    ∙ gives.front in (
      drop c.in-Ok.count octets,
      sym (take-append-drop c.in-Ok.count octets) ∙ ap (λ xs. xs ++ drop c.in-Ok.count octets) (sym piece),
      gives.rest,
      λ none. ap (λ n. drop n octets) none ∙ gives.end none some,
    )
