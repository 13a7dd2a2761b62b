use Rattle.std.proofs.Common.{◌≡◌, ◌≤◌, ◌++◌, ℕ, List, length, ap, ◌∙◌}
use Rattle.std.proofs.lemmas.Result.{IfOk-weaker}
use Rattle.ax25_frames.specs.ControlField.{control_octets}
use Rattle.ax25_frames.specs.FrameOctets.{IsFrame, IsWrittenFrame, body_octets, control_of, contents_of}
use Rattle.ax25_frames.specs.declared.control.Control.{Control}
use Rattle.ax25_frames.proofs.FrameLemmas.{IsFrame-written, length-written, three_parts}
use Rattle.ax25_frames.proofs.writing.write_frame.Goals as goal

pub returns : goal.returns
returns c =
    let frame = c.args.frame.now in
    let modulus = c.args.modulus in
    let address = c.write_path.result.items in
    let spelling : c.as_slice-2.result.now ≡ address ++ body_octets modulus frame.kind =
    c.as_slice-2.ensures.value
    ∙ three_parts c.new-octets.result.items c.extend_from_slice.new.self.items c.push_control.new.octets.items
    c.push_contents.new.octets.items
    address (control_octets modulus (control_of frame.kind)) (contents_of frame.kind)
    c.new-octets.ensures.items
    (c.in_ok-extend_from_slice.ensures.items ∙ ap (λ (xs : List ℕ). c.new-octets.result.items ++ xs)
    c.as_slice.ensures.value)
    (c.in_ok-push_control.ensures ∙ ap (λ (control : Control). c.extend_from_slice.new.self.items
    ++ control_octets modulus control) c.control_field.ensures)
    c.in_ok-push_contents.ensures in
    let written : (list : List ℕ) → list ≡ c.as_slice-2.result.now
    → IsWrittenFrame frame modulus list = λ list e. record {
      address = address;
      path = c.write_path.ensures.written;
      spelling = e ∙ spelling;
    } in
    record {
      written = IfOk-weaker c.from_slice.result (λ list. list ≡ c.as_slice-2.result.now) (IsWrittenFrame frame modulus)
          written c.from_slice.ensures;
      read_again = IfOk-weaker c.from_slice.result (λ list. list ≡ c.as_slice-2.result.now) (IsFrame frame modulus)
          (λ list e. IsFrame-written frame modulus list c.requires.kind (written list e)) c.from_slice.ensures;
      size = IfOk-weaker c.from_slice.result (λ list. list ≡ c.as_slice-2.result.now) (λ list. (15 ≤ length list)
          × (length list ≤ 1010)) (λ list e. length-written frame modulus list c.requires (written list e))
          c.from_slice.ensures;
    }
