use Rattle.fx25_blocks.proofs.Common.{◌≡◌, Bool, true, false, refl, false≢true}
use Rattle.std.specs.Prelude.{not}
use Rattle.fx25_blocks.proofs.ReaderLemmas.{ends_told, idle_told}
use Rattle.fx25_blocks.proofs.UnsureLaws.{unsure_told}
use Rattle.fx25_blocks.proofs.block_reader.BlockReader.is_idle.Goals as goal

is_false : (test : Bool) → not test ≡ true → test ≡ false
is_false false is = refl
is_false true is = absurd (false≢true is)

pub returns-clause-block : goal.returns-clause-block
returns-clause-block c = λ b stands idle tag frame over ends.
    let r = c.args.self.now in
    idle_told r.bits r.tags r.due r.register r.next r.taken b stands.kept tag ends.is_tag (is_false _ idle)
    (ends_told tag ends.is_tag b frame over ends).0

pub returns-clause-unsure : goal.returns-clause-unsure
returns-clause-unsure c = λ b numbers stands idle tag frame over ends.
    let r = c.args.self.now in
    idle_told r.bits r.tags r.due r.register r.next r.taken b stands.kept tag ends.is_tag (is_false _ idle)
    (unsure_told tag b numbers frame over ends).0
