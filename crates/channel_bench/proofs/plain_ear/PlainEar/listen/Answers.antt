-- The samples are heard, and the marks move on.
use Rattle.channel_bench.proofs.Common.{◌≡◌, ◌^◌, ◌<◌, ◌≤◌, ◌++◌, length, replicate, refl, sym, ap, ◌∙◌, subst, arith}
use Rattle.channel_bench.proofs.Common.{length-append, ℕ, List, get_or, Candidate, All, All-replicate, mark_of, if_took}
use Rattle.std.proofs.lemmas.List.{get_or-replicate}
use Rattle.slicer_bank.specs.Merging.{CanBePut}
use Rattle.channel_bench.proofs.PlainEarLemmas.{ear_more, ready_lengths}
use Rattle.channel_bench.proofs.plain_ear.PlainEar.listen.Goals as goal

pub put_all-requires-clause-in_time : goal.put_all-requires-clause-in_time
put_all-requires-clause-in_time c = λ k d l.
    let item : Candidate = get_or c.in_ok-found.found.items k d in
    let h = c.requires.stands.1 in
    let past = if_took _ c.feed.result c.in_ok-found.found c.in_ok-found.ensures.value c.feed.ensures.past k d l in
    let can : CanBePut item =
    if_took _ c.feed.result c.in_ok-found.found c.in_ok-found.ensures.value c.feed.ensures.bounds k d l in
    let lane = can.lane in
    let mark : get_or c.args.self.now.merger.marks item.offset 0 ≡ mark_of c.requires.stands.0 =
    ap (λ (m : List ℕ). get_or m item.offset 0) h.marks
    ∙ get_or-replicate 8 item.offset (mark_of c.requires.stands.0) 0 lane in
    omega (arith, h.bank.count)

pub mark_all-requires : goal.mark_all-requires
mark_all-requires c =
    let x = c.requires.stands.0 in
    let h = c.requires.stands.1 in
    let mark = c.mark_after-mark.result in
    let past : mark_of x ≤ mark = omega (arith, h.count, c.mark_after-mark.ensures, c.requires.samples) in
    record {
      position = subst (All (λ m. m ≤ mark)) (sym (c.put_all.ensures.marks ∙ h.marks))
          (All-replicate (λ m. m ≤ mark) 8 (mark_of x) past);
    }

pub returns-clause-heard : goal.returns-clause-heard
returns-clause-heard c = λ x h.
    let y = c.args.samples.now in
    let size = length-append x y in
    let room : length (x ++ y) < 2 ^ 48 = omega
    (arith, size, h.count, c.requires.few, c.requires.samples) in
    let mark : c.mark_after-mark.result ≡ mark_of (x ++ y) = omega (arith, size, h.count, c.mark_after-mark.ensures) in
    let eight = ap length (c.put_all.ensures.marks ∙ h.marks) in
    ear_more x y c.args.self.now _ c.put_all.new.merger c.mark_all.new.self c.in_ok-found.found.items
    c.in_ok-ready.ready.items room
    (if_took _ c.feed.result c.in_ok-found.found c.in_ok-found.ensures.value c.feed.ensures.found x) c.feed.ensures.flags refl c.in_ok-put_all.ensures.stands_for
    c.mark_all.ensures.stands_for
    (c.mark_all.ensures.marks ∙ ap (λ n. replicate n c.mark_after-mark.result) eight ∙ ap (replicate 8) mark)
    (if_took _ c.take_ready.result c.in_ok-ready.ready c.in_ok-ready.ensures.value c.take_ready.ensures.ready)
    c.take_ready.ensures.marks h

pub returns-clause-lengths : goal.returns-clause-lengths
returns-clause-lengths c =
    let x = c.requires.stands.0 in
    let y = c.args.samples.now in
    let made = returns-clause-heard c x c.requires.stands.1 in
    ready_lengths (mark_of x) (mark_of (x ++ y)) (x ++ y) c.in_ok-ready.ready.items made.1
