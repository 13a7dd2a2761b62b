use Rattle.station.proofs.TakenLemmas.{kiss_reads, kiss_says}
use Rattle.station.proofs.connection.Reader.read.Goals as goal

pub returns-in_ok-items-in-KissReader-clause-stands_for :
    goal.returns-in_ok-items-in-KissReader-clause-stands_for
returns-in_ok-items-in-KissReader-clause-stands_for c = λ kind stream reads.
    kiss_reads c.args.self.now c.in-KissReader.reader c.read_items.new.reader kind stream c.args.octets.now
    c.in-KissReader.is reads c.in_ok-items-in-KissReader.ensures.stands_for

pub returns-in_ok-items-in-KissReader-clause-says : goal.returns-in_ok-items-in-KissReader-clause-says
returns-in_ok-items-in-KissReader-clause-says c = λ kind stream reads.
    kiss_says c.args.self.now c.in-KissReader.reader c.read_items.new.reader kind stream c.args.octets.now
    c.in_ok-items-in-KissReader.items.items c.is_web_request-web.result c.in-KissReader.is reads
    c.in_ok-items-in-KissReader.ensures.stands_for c.in_ok-items-in-KissReader.ensures.items
    c.is_web_request-web.ensures.web
