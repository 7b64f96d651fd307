-- What the writing of a reply comes to.
use Rattle.std.specs.Prelude.{ℕ}
use Rattle.lnfs_outside.specs.Causes.{Rose}
use Rattle.lnfs_incoming.specs.declared.ending.Ending.{Ending}
use Rattle.lnfs_incoming.specs.declared.ending.Ending.TheVariants.{Closed, Cut, ReadFault, WriteFault, TooLong, Budget, Memory}

-- the endings of a reply that wasn't written whole, by the count of writes that failed before and after
abbrev pub IsOfWriting : (before now : ℕ) → Ending → Type 0
IsOfWriting before now Closed = ⊥
IsOfWriting before now Cut = ⊥
IsOfWriting before now ReadFault = ⊥
IsOfWriting before now WriteFault = Rose before now
IsOfWriting before now TooLong = ⊥
IsOfWriting before now Budget = ⊥
IsOfWriting before now Memory = ⊥
