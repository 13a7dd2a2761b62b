use Rattle.std.proofs.Common.{◌≡◌, ◌++◌, take}
use Rattle.std.specs.Prelude.{codes, string_bytes}
use Rattle.std.specs.List.{flat_map}
use Rattle.ax25_address.specs.CallText.{text_of_call}
use Rattle.ax25_frames.specs.FrameText.{hop_text}
use Rattle.ax25_frames.proofs.text.path_line.Given as goal

abbrev pub invariant-loop-hop : goal.invariant-loop-hop
invariant-loop-hop l =
    string_bytes l.line ≡ text_of_call l.path.source ++ codes ">" ++ text_of_call l.path.dest
    ++ flat_map hop_text (take l.hop-index l.hop-items)
