use Rattle.tnc_decode.proofs.Common.{◌≡◌, ℕ, ◌-◌, ◌≤◌, List, [], ◌∷◌, ◌++◌, length, take, drop, get_or, arith}
use Rattle.tnc_decode.proofs.Common.{length-drop, common_steps, sample_of}
use Rattle.std.proofs.lemmas.List.{take_all}
use Rattle.tnc_decode.proofs.AudioLemmas.{even_given, odd_given}
use Rattle.tnc_decode.proofs.audio.take_pcm.Goals as goal

pub returns-in_ok-take_pairs-in-None-default-clause-takes : goal.returns-in_ok-take_pairs-in-None-default-clause-takes
returns-in_ok-take_pairs-in-None-default-clause-takes c =
    even_given c.args.octets.now c.args.low.now c.in_ok-take_pairs-in-None-default.field-0 c.args.samples.now.items
    c.take_pairs.new.samples.items
    c.in-None-default.is-0 c.in_ok-take_pairs-in-None-default.ensures.odd
    c.in_ok-take_pairs-in-None-default.ensures.samples c.requires

pub returns-in_ok-low-in-Some-len1-up-clause-takes : goal.returns-in_ok-low-in-Some-len1-up-clause-takes
unfolding sample_of
returns-in_ok-low-in-Some-len1-up-clause-takes c =
    let octets : List ℕ = c.args.octets.now in
    let some : 1 ≤ length octets = c.in-Some-len1-up.len_at_least in
    let size = length-drop 1 octets in
    let rest : take (length octets - 1) (drop 1 octets) ≡ drop 1 octets =
    take_all (length octets - 1) (drop 1 octets) (omega arith) in
    let pushed = c.in_ok-append-in-Some-len1-up.ensures.appended in
    let value = c.sample_of.ensures in
    let first : c.append.new.samples.items ≡ c.args.samples.now.items
    ++ sample_of c.in-Some-len1-up.first (get_or octets 0 0) ∷ [] = grind (arith, common_steps) in
    odd_given octets (take (length octets - 1) (drop 1 octets))
    c.args.low.now c.in-Some-len1-up.first c.in_ok-low-in-Some-len1-up.field-0 c.args.samples.now.items
    c.append.new.samples.items c.take_pairs-in-Some-len1-up.new.samples.items
    some rest c.in-Some-len1-up.is-0 c.in_ok-low-in-Some-len1-up.ensures.odd c.in_ok-low-in-Some-len1-up.ensures.samples
    first c.requires
