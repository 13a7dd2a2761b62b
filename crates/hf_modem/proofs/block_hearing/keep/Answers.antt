use Rattle.hf_modem.proofs.Common.{◌≡◌, ◌++◌, sym, subst, option_to_list}
use Rattle.hf_modem.proofs.block_hearing.keep.Goals as goal

pub returns : goal.returns
returns c =
    subst (λ heard. c.push.new.self.items ≡ c.args.found.now.items ++ option_to_list heard) (sym c.in-Some.is)
    c.in_ok-push.ensures.items
