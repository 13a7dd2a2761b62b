use Rattle.tnc_record.proofs.Common.{refl, ap, ◌∙◌, take, [], readers_wanted}
use Rattle.std.proofs.Common.{replicate}
use Rattle.std.proofs.lemmas.List.{length-replicate}
use Rattle.tnc_record.proofs.TurnLemmas.{at_most_nine}
use Rattle.tnc_record.proofs.listening.Listening.new.Goals as goal

pub returns-clause-stands : goal.returns-clause-stands
returns-clause-stands c = λ len.
    let wanted = readers_wanted c.args.words.now.sensitive in
    record {
      answered = record {
        lanes = ap (take 9) (c.in_ok-new.ensures.nothing len)
            ∙ at_most_nine c.args.words.now.sensitive (replicate wanted []) (length-replicate wanted []);
        recorded = c.in_ok-new-2.ensures.nothing len;
        stands = c.in_ok-new-2.ensures.stands len;
      };
      all_lanes = c.in_ok-new.ensures.nothing len;
      over = refl;
      hears = λ e. c.in_ok-new.ensures.hears len;
      sensitive = c.in_ok-new.ensures.sensitive;
      keep = c.in_ok-new-2.ensures.keep;
    }
