use Rattle.tnc_main.proofs.RoundTrip.{heard, taken}
use Rattle.tnc_main.proofs.laws.decode_of_encode.Goals as goal

pub returns-clause-heard : goal.returns-clause-heard
returns-clause-heard c = λ encode decode octets text each opening closing level none same narrow no_stray. heard encode
    decode octets none same narrow each opening closing level no_stray text

pub returns-clause-taken : goal.returns-clause-taken
returns-clause-taken c = taken
