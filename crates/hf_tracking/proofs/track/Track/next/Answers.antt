use Rattle.hf_tracking.proofs.Common.{◌≡◌, ◌≤◌, ℤ, unsigned_abs, FitsSigned, to_z, of_z, w32, w64, ap, subst, sym, ◌∙◌}
use Rattle.hf_tracking.proofs.Common.{arith, ints, rules, to_z-of_z, Tone, Mark, Space, Correlations, Phasor, Track, plus}
use Rattle.hf_tracking.proofs.Common.{next_track}
use Rattle.tone_tracking.specs.Correlation.{of_tone}
use Rattle.hf_tracking.specs.Tracks.{cross, drift_after, expected, five_eighths, moved, next_drift, renewed, turned}
use Rattle.hf_tracking.proofs.track.Track.next.Goals as goal

-- a drift as it is passed
drift_is : (d : ℤ) → unsigned_abs d ≤ 80 → to_z w32 (of_z w32 d) ≡ d
drift_is d small =
    let fits : FitsSigned w32 d = omega (arith, ints) in
    to_z-of_z w32 d fits

-- the drift one window on, as it was made
drift_made : (tone : Tone) (now : Correlations) (track : Track) (was heard : Phasor) (ahead drift : ℤ)
    → FitsSigned w64 ahead → unsigned_abs track.drift ≤ 80 → was ≡ expected tone track → heard ≡ of_tone tone now
    → ahead ≡ cross was heard
    → drift ≡ drift_after (to_z w32 (of_z w32 track.drift)) (to_z w64 (of_z w64 ahead)) → drift ≡ next_drift tone now track
drift_made tone now track was heard ahead drift fits small was_is heard_is ahead_is is =
    let own = drift_is track.drift small in
    let passed = to_z-of_z w64 ahead fits ∙ ahead_is ∙ (λ i. cross (was_is i) (heard_is i)) in
    is ∙ (λ i. drift_after (own i) (passed i))

pub returns-in-Mark-clause-next : goal.returns-in-Mark-clause-next
returns-in-Mark-clause-next c =
    let track : Track = c.args.self.now in
    let now : Correlations = c.args.now.now in
    let fits : FitsSigned w64 c.cross.result = search rules in
    let was = c.expected-was.ensures.expected ∙ ap (λ t. expected t track) c.in-Mark.is in
    let heard = c.heard_as-heard.ensures.heard ∙ ap (λ t. of_tone t now) c.in-Mark.is in
    let drift = drift_made Mark now track c.expected-was.result c.heard_as-heard.result c.cross.result
    c.drift_after-drift.result fits c.requires.track.drift was heard c.cross.ensures c.drift_after-drift.ensures.drift in
    let given = drift_is c.drift_after-drift.result c.drift_after-drift.ensures.bound ∙ drift in
    let again : c.renewed-again.result ≡ renewed Mark now track
    = c.renewed-again.ensures.sum ∙ (λ i. plus (heard i) (five_eighths (was i))) in
    let mark = c.turned.ensures.turned ∙ ap (turned Mark) (c.moved.ensures.moved ∙ (λ i. moved (given i) (again i))) in
    let space = c.turned-in-Mark.ensures.turned
    ∙ ap (turned Mark) (c.moved-in-Mark.ensures.moved ∙ ap (λ d. moved d track.space) given) in
    let made : Track = record {
      mark = c.turned.result;
      space = c.turned-in-Mark.result;
      drift = to_z w32 (of_z w32 c.drift_after-drift.result);
    } in
    subst (λ t. made ≡ next_track t now track) (sym c.in-Mark.is)
    (λ i. record { mark = mark i; space = space i; drift = given i })

pub returns-in-Space-clause-next : goal.returns-in-Space-clause-next
returns-in-Space-clause-next c =
    let track : Track = c.args.self.now in
    let now : Correlations = c.args.now.now in
    let fits : FitsSigned w64 c.cross.result = search rules in
    let was = c.expected-was.ensures.expected ∙ ap (λ t. expected t track) c.in-Space.is in
    let heard = c.heard_as-heard.ensures.heard ∙ ap (λ t. of_tone t now) c.in-Space.is in
    let drift = drift_made Space now track c.expected-was.result c.heard_as-heard.result c.cross.result
    c.drift_after-drift.result fits c.requires.track.drift was heard c.cross.ensures c.drift_after-drift.ensures.drift in
    let given = drift_is c.drift_after-drift.result c.drift_after-drift.ensures.bound ∙ drift in
    let again : c.renewed-again.result ≡ renewed Space now track
    = c.renewed-again.ensures.sum ∙ (λ i. plus (heard i) (five_eighths (was i))) in
    let mark = c.turned-in-Space.ensures.turned
    ∙ ap (turned Space) (c.moved-in-Space.ensures.moved ∙ ap (λ d. moved d track.mark) given) in
    let space = c.turned-in-Space-2.ensures.turned
    ∙ ap (turned Space) (c.moved-in-Space-2.ensures.moved ∙ (λ i. moved (given i) (again i))) in
    let made : Track = record {
      mark = c.turned-in-Space.result;
      space = c.turned-in-Space-2.result;
      drift = to_z w32 (of_z w32 c.drift_after-drift.result);
    } in
    subst (λ t. made ≡ next_track t now track) (sym c.in-Space.is)
    (λ i. record { mark = mark i; space = space i; drift = given i })
