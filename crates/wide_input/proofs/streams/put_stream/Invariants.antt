use Rattle.wide_input.proofs.Common.{map, HasPut, in_stream}
use Rattle.wide_input.proofs.streams.put_stream.Given as goal

abbrev pub invariant-loop-heard : goal.invariant-loop-heard
invariant-loop-heard l =
    HasPut l.initial.merger l.merger (map (in_stream l.number) l.fn.found.items) (map (in_stream l.number) l.yielded)
    (map (in_stream l.number) l.heard-iterator.rest.items) l.heard-iterator.rest.len
