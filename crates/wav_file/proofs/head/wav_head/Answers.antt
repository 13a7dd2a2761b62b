use Rattle.std.proofs.Common.{◌*◌, ◌++◌, ap, arith, ◌∙◌}
use Rattle.wav_file.specs.Reading.{Reading, samples_in, fault_in, verdict_of}
use Rattle.wav_file.proofs.HeadLemmas.{head_reads, head_whole}
use Rattle.wav_file.proofs.head.wav_head.Goals as goal

pub returns-clause-samples : goal.returns-clause-samples
returns-clause-samples c =
    λ rates octets few. ap (λ head. samples_in rates (head ++ octets)) c.head_for.ensures
    ∙ ap (λ (r : Reading). r.heard) (head_reads rates (2 * c.args.count) octets (omega arith) few)

pub returns-clause-no_fault : goal.returns-clause-no_fault
returns-clause-no_fault c =
    λ rates octets few. ap (λ head. fault_in rates (head ++ octets)) c.head_for.ensures
    ∙ ap (λ (r : Reading). r.fault) (head_reads rates (2 * c.args.count) octets (omega arith) few)

pub returns-clause-whole : goal.returns-clause-whole
returns-clause-whole c =
    λ rates octets all. ap (λ head. verdict_of rates (head ++ octets)) c.head_for.ensures
    ∙ head_whole rates (2 * c.args.count) octets (omega arith) all
