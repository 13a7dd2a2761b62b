use Rattle.fx25_blocks.proofs.Common.{ℕ, ◌<◌}
use Rattle.std.proofs.lemmas.Bool.{lt-ltb, ltb-true}
use Rattle.fx25_blocks.proofs.block_reader.BlockReader.is_block_coming.Goals as goal

pub returns : goal.returns
returns c = λ b stands.
    let told = stands.comes 0 in (
      λ e. told.0 (ltb-true 0 c.args.self.now.coming e),
      λ h. lt-ltb 0 c.args.self.now.coming (told.1 h),
    )
