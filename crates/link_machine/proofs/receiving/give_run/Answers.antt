use Rattle.link_machine.proofs.Common.{◌≡◌, ◌+◌, ◌≤◌, length, true, [], ◌∷◌, ◌++◌, drop, map, refl, sym, ◌∙◌, ap, arith}
use Rattle.link_machine.proofs.Common.{Some, Given, run, append_assoc, packet_at, is_full, empty_place, is_some}
use Rattle.link_machine.proofs.RunLemmas.{places_taken, moved_none, moved_one_more, run-push, length-run, run_of_full}
use Rattle.link_machine.proofs.receiving.give_run.Goals as goal

pub loop-packet-init : goal.loop-packet-init
loop-packet-init c =
    let short : length (run c.args.incoming.now.places) ≤ length c.args.incoming.now.places =
    length-run c.args.incoming.now.places in
    let places : length c.args.incoming.now.places ≡ c.args.incoming.now.window = c.requires.formed.places in
    let room = c.requires.room in
    record {
      formed = c.requires.formed;
      told = refl;
      frames = refl;
      stands = λ store h. moved_none c.args.incoming.now store h;
      room = omega arith;
      used = omega arith;
      frames_same = omega arith;
    }

pub loop-packet-preserved : goal.loop-packet-preserved
loop-packet-preserved c =
    let i = c.loop-packet.invariant in
    let before = c.loop-packet.incoming in
    let following = c.take.new.self in
    let packet = c.in-Some.packet in
    let there : packet_at before.places 0 ≡ Some packet = sym c.in-Some.ensures.packet in
    let full : is_full before.places 0 ≡ true = ap is_some there in
    let places : following.places ≡ drop 1 before.places ++ empty_place ∷ [] =
    places_taken before following full c.take.ensures.store in
    let one : run before.places ≡ packet ∷ run (drop 1 before.places) = run_of_full before.places packet there in
    let same : run following.places ≡ run (drop 1 before.places) = ap run places ∙ run-push (drop 1 before.places) in
    let less : length (run before.places) ≡ length (run following.places) + 1 = ap length one
    ∙ omega (arith, ap length same) in
    let uses = c.tell.ensures.uses in
    let room = i.room in
    let used = i.used in
    let frames_same = i.frames_same in
    record {
      formed = c.take.ensures.formed;
      told =
          ap (λ xs. xs ++ map Given (run following.places)) c.tell.ensures.told
          ∙ append_assoc c.loop-packet.room.told.items (Given packet ∷ []) (map Given (run following.places))
          ∙ ap (λ xs. c.loop-packet.room.told.items ++ map Given xs) (ap (λ xs. packet ∷ xs) same ∙ sym one)
          ∙ i.told;
      frames = c.tell.ensures.frames ∙ i.frames;
      stands = λ store h. moved_one_more before following store packet (i.stands store h)
          (λ s k. (c.take.ensures.stands_for s k).1) places there;
      room = omega (arith, uses.of_told);
      used = omega (arith, uses.of_told);
      frames_same = omega (arith, uses.of_frames);
    }

pub loop-packet-smaller : goal.loop-packet-smaller
loop-packet-smaller c =
    let before = c.loop-packet.incoming in
    let following = c.take.new.self in
    let packet = c.in-Some.packet in
    let there : packet_at before.places 0 ≡ Some packet = sym c.in-Some.ensures.packet in
    let full : is_full before.places 0 ≡ true = ap is_some there in
    let places : following.places ≡ drop 1 before.places ++ empty_place ∷ [] =
    places_taken before following full c.take.ensures.store in
    let one : run before.places ≡ packet ∷ run (drop 1 before.places) = run_of_full before.places packet there in
    let same : run following.places ≡ run (drop 1 before.places) = ap run places ∙ run-push (drop 1 before.places) in
    omega (arith, ap length one, ap length same)

pub returns-clause-uses : goal.returns-clause-uses
returns-clause-uses c =
    let short : length (run c.args.incoming.now.places) ≤ length c.args.incoming.now.places =
    length-run c.args.incoming.now.places in
    let places : length c.args.incoming.now.places ≡ c.args.incoming.now.window = c.requires.formed.places in
    let used = c.loop-packet.invariant.used in
    let frames = c.loop-packet.invariant.frames_same in
    record { of_frames = omega arith; of_told = omega arith }
