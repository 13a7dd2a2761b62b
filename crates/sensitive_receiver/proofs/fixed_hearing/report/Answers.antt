use Rattle.sensitive_receiver.proofs.Common.{◌∷◌, ◌++◌, [], ◌∙◌, ap, sym, refl, inl, inr, true≢false, arith, Candidate, List}
use Rattle.sensitive_receiver.proofs.FoundLemmas.{bounds_more}
use Rattle.sensitive_receiver.proofs.fixed_hearing.report.Goals as goal

pub returns-then-not-has_path-clause-reports : goal.returns-then-not-has_path-clause-reports
returns-then-not-has_path-clause-reports c
    = inr ((λ path. true≢false (sym (c.has_path.ensures.lacks path) ∙ c.if-not-has_path.true)), refl)

pub returns-clause-reports : goal.returns-clause-reports
returns-clause-reports c =
    let found : List Candidate = c.args.found.now.items in
    inl (
      c.has_path.ensures.has c.if-not-has_path.false,
      c.in_ok-push.ensures.items ∙ ap (λ (o : List _). found ++ (record {
        end = c.args.end;
        offset = c.args.number;
        octets = o;
      }) ∷ []) c.in_ok-octets.ensures,
    )

pub returns-clause-bounds : goal.returns-clause-bounds
returns-clause-bounds c = λ low under all.
    bounds_more low c.args.found.now.items c.push.new.self.items _ c.in_ok-push.ensures.items
    (record {
      room = record { lane = (let m = c.requires.number.1 in omega arith); end = c.requires.room };
      from = record { lane = c.requires.number.0; end = under };
    }) all
