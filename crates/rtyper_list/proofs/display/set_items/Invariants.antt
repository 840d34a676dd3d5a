use Rattle.std.proofs.Common.{◌≡◌, drop}
use Rattle.rtyper_list.specs.Displays.{set_items}
use Rattle.rtyper_list.proofs.display.set_items.Given as goal

abbrev pub invariant-loop-item : goal.invariant-loop-item
invariant-loop-item l = record {
  counted : l.i ≡ l.item-index;
  rest : set_items l.array l.into l.item-index (drop l.item-index l.items) l.body ≡ set_items l.array l.into 0 l.items l.initial.body;
}
