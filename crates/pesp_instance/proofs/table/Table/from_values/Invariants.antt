use Rattle.std.proofs.Common.{◌≡◌, ◌++◌, map}
use Rattle.std.specs.Map.{keys_of}
use Rattle.pesp_instance.proofs.Made.{IsMade}
use Rattle.pesp_instance.proofs.table.Table.from_values.Given as goal

-- each value so far has a slot and a pair
abbrev pub invariant-loop-value : goal.invariant-loop-value
invariant-loop-value g l =
    IsMade g.V.Numbered.number l.yielded l.slots l.pairs.items
    × (keys_of l.pairs.items ≡ map g.V.Numbered.number l.yielded)
    × (l.yielded ++ l.value-iterator.rest.items ≡ l.fn.values.items)
