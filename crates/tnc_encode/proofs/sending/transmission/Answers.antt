use Rattle.tnc_encode.proofs.sending.transmission.Goals as goal

pub returns-in-ShortWave-clause-bad_length : goal.returns-in-ShortWave-clause-bad_length
returns-in-ShortWave-clause-bad_length c = λ index is. ((c.hf_transmission.ensures.bad_length index).0 is).1

pub returns-in-Fx25-clause-bad_length : goal.returns-in-Fx25-clause-bad_length
returns-in-Fx25-clause-bad_length c = λ index is. ((c.fx25_transmission.ensures.bad_length index).0 is).1
