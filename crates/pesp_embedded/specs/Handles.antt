-- What a handle owns.
use Rattle.std.specs.Prelude.{Option, Some, None}
use base.Fml.{Fml, ftrue}
use base.Stored.{Coded}
use denote.RawPtr.{Ptr}
use Rattle.std_heap.specs.declared.Global.{Global}
use Rattle.std_heap.specs.contracts.GlobalAllocator.TheImpl.{ghosts}
use Rattle.std.specs.Box.Ownership.{box_owns}
use Rattle.std.specs.Coded.{coded_option}
use Rattle.pesp_embedded.specs.contracts.kept.Kept.{the_row}

-- what there is is owned
abbrev pub owned : {X : Type 0} → (X → Fml) → Option X → Fml
owned own (Some x) = own x
owned own None = ftrue

-- a handle owns the block of what is kept
abbrev pub kept_owned : Global → Ptr → Option the_row.Denot → Fml
kept_owned alloc at = owned (box_owns (ghosts.dealloc_token alloc) the_row at)

abbrev pub kept_coded : Coded (Option the_row.Denot)
kept_coded = coded_option the_row.coded
