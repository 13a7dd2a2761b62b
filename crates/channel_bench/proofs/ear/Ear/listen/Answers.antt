-- The samples are heard by the kind of ear that it is.
use Rattle.channel_bench.proofs.Common.{◌++◌, sym, subst, AreReady, EarStandsFor, Plain, Blocks, Ear}
use Rattle.std.specs.Prelude.{IfOk}
use Rattle.std.proofs.lemmas.Result.{IfOk-weaker}
use Rattle.channel_bench.proofs.EarLemmas.{block_ear, plain_ear}
use Rattle.channel_bench.proofs.SoundLemmas.{ready_with}
use Rattle.channel_bench.proofs.ear.Ear.listen.Goals as goal

pub listen-requires-clause-stands : goal.listen-requires-clause-stands
listen-requires-clause-stands c =
    let h = c.requires.stands in
    let kind = plain_ear c.args.self.now c.in-Plain.ear h.0 h.1 c.in-Plain.is h.2 in
    (h.1, kind.1)

pub returns-in-Plain-clause-heard : goal.returns-in-Plain-clause-heard
returns-in-Plain-clause-heard c = λ blocks x h.
    let y = c.args.samples.now in
    let kind = plain_ear c.args.self.now c.in-Plain.ear blocks x c.in-Plain.is h in
    let new : Ear = Plain c.listen.new.self in
    subst (λ b. IfOk c.listen.result (λ items. EarStandsFor new b (x ++ y) × AreReady b (x ++ y) items.items))
    (sym kind.0)
    (IfOk-weaker c.listen.result _ _
    (λ items made. (made.0, ready_with x y items.items c.requires.samples made.1)) (c.listen.ensures.heard x kind.1))

pub returns-in-Blocks-clause-heard : goal.returns-in-Blocks-clause-heard
returns-in-Blocks-clause-heard c = λ blocks x h.
    let y = c.args.samples.now in
    let kind = block_ear c.args.self.now c.in-Blocks.ear blocks x c.in-Blocks.is h in
    let new : Ear = Blocks c.listen-in-Blocks.new.self in
    subst (λ b. IfOk c.listen-in-Blocks.result
    (λ items. EarStandsFor new b (x ++ y) × AreReady b (x ++ y) items.items)) (sym kind.0)
    (c.listen-in-Blocks.ensures.heard x kind.1)
