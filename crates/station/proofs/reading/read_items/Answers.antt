use Rattle.station.proofs.Common.{◌++◌, ℕ, List, take, sym, ◌∙◌, ap, subst, append_assoc}
use Rattle.station.proofs.Common.{KissItem, host_items}
use Rattle.std.specs.Option.{option_to_list}
use Rattle.kiss_port.specs.HeldHost.{HostStandsFor}
use Rattle.agwpe_port.proofs.StreamLemmas.{one_more}
use Rattle.station.proofs.reading.read_items.Goals as goal

pub loop-octet-preserved : goal.loop-octet-preserved
loop-octet-preserved c =
    let octets = c.args.octets.now in
    let i = c.loop-octet.octet-index in
    record {
      stands_for = λ stream h.
          subst (λ (read : List ℕ). HostStandsFor c.next_item.new.reader read)
          (one_more stream octets i c.loop-octet-test.true)
          (c.in_ok-item.ensures.stands_for (stream ++ take i octets) (c.loop-octet.invariant.stands_for stream h));
      items = λ stream h.
          ap host_items (sym (one_more stream octets i c.loop-octet-test.true))
          ∙ c.in_ok-item.ensures.item (stream ++ take i octets) (c.loop-octet.invariant.stands_for stream h)
          ∙ ap (λ (xs : List KissItem). xs ++ option_to_list c.in_ok-item.item) (c.loop-octet.invariant.items stream h)
          ∙ append_assoc (host_items stream) c.loop-octet.items.items (option_to_list c.in_ok-item.item)
          ∙ ap (λ (xs : List KissItem). host_items stream ++ xs) (sym c.in_ok-keep.ensures.kept);
    }
