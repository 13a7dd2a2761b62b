use Rattle.tnc_decode.proofs.AudioLemmas.{file_takes}
use Rattle.tnc_decode.proofs.audio.take_one.Goals as goal

pub returns-in-Ok-None-clause-takes : goal.returns-in-Ok-None-clause-takes
returns-in-Ok-None-clause-takes c = λ rates form before h.
    let told = c.push.ensures in
    (file_takes rates form before c.args.octet c.args.file.now c.push.new.self c.push.result (told.stands_for rates)
    (told.sample rates) (told.fault rates)
    c.in-Ok-None.field-0 c.in-Ok-None.is h).0

pub returns-in_ok-append-in-Ok-Some-clause-takes : goal.returns-in_ok-append-in-Ok-Some-clause-takes
returns-in_ok-append-in-Ok-Some-clause-takes c = λ rates form before h.
    let told = c.push.ensures in
    (file_takes rates form before c.args.octet c.args.file.now c.push.new.self c.push.result (told.stands_for rates)
    (told.sample rates) (told.fault rates)
    c.in-Ok-Some.field-0 c.in-Ok-Some.is h).0
