use Rattle.tnc_decode.proofs.Common.{◌++◌, ◌∙◌, ℕ, List, ap, append_assoc, arith, sym, take}
use Rattle.wav_file.specs.Samples.{samples}
use Rattle.std.proofs.lemmas.List.{length-take}
use Rattle.tnc_decode.proofs.AudioLemmas.{data_takes}
use Rattle.tnc_decode.proofs.audio.take_data.Goals as goal

pub returns : goal.returns
returns c =
    let octets : List ℕ = c.args.octets.now in
    let count : ℕ = c.take_pairs-count.result in
    let taken : List ℕ = take count octets in
    let told = c.take_pairs-count.ensures in
    let pairs = c.in_ok-take_pairs.ensures in
    let some = pairs.count in
    record {
      count = told.count;
      takes = λ rates form before h.
          (data_takes rates form before taken c.args.file.now c.take_pairs-count.new.self
          (told.stands_for rates) (told.samples rates) (told.fault rates) h).0;
      samples = λ rates form before front h e.
          (data_takes rates form before taken c.args.file.now c.take_pairs-count.new.self
          (told.stands_for rates) (told.samples rates) (told.fault rates) h).1
          ∙ ap (λ xs. xs ++ samples taken) e
          ∙ append_assoc front c.args.samples.now.items (samples taken)
          ∙ ap (λ xs. front ++ xs) (sym pairs.samples);
      few = omega (arith, some, length-take count octets);
    }
