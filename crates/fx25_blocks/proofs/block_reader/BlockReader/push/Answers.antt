use Rattle.fx25_blocks.proofs.Common.{[], ◌∷◌, ◌++◌, subst, sym}
use Rattle.fx25_blocks.specs.Held.{ComesFor}
use Rattle.fx25_blocks.proofs.ComingLemmas.{comes_push}
use Rattle.fx25_blocks.proofs.ReaderLemmas.{kept_push}
use Rattle.fx25_blocks.proofs.block_reader.BlockReader.push.Goals as goal

pub returns-clause-stands_for : goal.returns-clause-stands_for
returns-clause-stands_for c = λ b stands.
    let kept = kept_push c.args.self.now.bits c.args.self.now.tags c.args.self.now.due c.args.self.now.register
    c.args.self.now.next c.args.self.now.taken b stands.kept c.args.bit c.shifted-self.result c.near_tag-tag.result
    c.one_more-self.result c.expect.new.due c.shifted-self.ensures c.near_tag-tag.ensures.near
    c.one_more-self.ensures.value c.expect.ensures.none c.expect.ensures.some in
    record {
      kept = kept;
      comes = subst (λ n. ComesFor n (b ++ c.args.bit ∷ [])) (sym c.longest-self.ensures.value)
          (comes_push b c.args.bit _ _ _ _ kept.register_is kept.taken_is c.coming_from-begun.ensures.count stands.comes);
    }
