use Rattle.std.proofs.Common.{◌≡◌, None, slice_get, sym, rules}
use Rattle.selective_reject.proofs.PlaceLemmas.{is_full-none}
use Rattle.selective_reject.proofs.place.Places.is_full.Goals as goal

pub returns-in-None : goal.returns-in-None
returns-in-None c =
    let none : slice_get c.args.self.now c.args.place ≡ None = search rules in
    sym (is_full-none c.args.self.now c.args.place none)
