-- The octets so far.
use Rattle.tnc_decode.proofs.Common.{length, ◌-◌, ◌≤◌}
use Rattle.tnc_decode.proofs.Common.{File}
use Rattle.tnc_decode.proofs.AudioLemmas.{TakesOn}
use Rattle.tnc_decode.proofs.audio.take_file.Given as goal

abbrev pub invariant-taking : goal.invariant-taking
invariant-taking l = (l.count ≤ length l.octets)
    × TakesOn (File l.fn.file) (File l.file) l.octets l.count l.samples.items

abbrev pub decreases-taking : goal.decreases-taking
decreases-taking l = length l.octets - l.count
