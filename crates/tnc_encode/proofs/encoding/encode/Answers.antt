use Rattle.tnc_encode.proofs.Common.{◌∙◌, subst, true≢false}
use Rattle.tnc_forms.specs.Reading.{piece_limit}
use Rattle.tnc_engine.specs.Ended.{IsEnded}
use Rattle.tnc_encode.specs.Making.{encode_making}
use Rattle.tnc_encode.proofs.EndedLemmas.{are_apart}
use Rattle.tnc_encode.proofs.MakingLemmas.{encodes_apart}
use Rattle.tnc_encode.proofs.encoding.encode.Goals as goal

pub returns-then-keeps_frames-clause-ended : goal.returns-then-keeps_frames-clause-ended
returns-then-keeps_frames-clause-ended g c = λ octets sent. absurd (true≢false (c.if-keeps_frames.ensures ∙ sent))

pub returns-then-keeps_frames-clause-whole : goal.returns-then-keeps_frames-clause-whole
returns-then-keeps_frames-clause-whole g c = λ octets kept left. c.encode_whole.ensures.whole octets left

pub make-requires-clause-new : goal.make-requires-clause-new
make-requires-clause-new g c = (c.args.words, c.new-sender.ensures)

pub make-requires-clause-laws : goal.make-requires-clause-laws
make-requires-clause-laws g c = encodes_apart

pub returns-clause-ended : goal.returns-clause-ended
returns-clause-ended g c = λ octets sent left.
    subst (λ words. IsEnded (encode_making words) piece_limit octets (g.I.Source.told c.make.new.input).left
    (g.O.Sink.told c.args.output.now).written (g.O.Sink.told c.make.new.output).written c.make.result)
    (are_apart c.args.words sent) (c.make.ensures.ended c.args.words octets c.new-sender.ensures left)
