-- What a slot keeps was accepted, so a request that comes again with the same arguments is too.
use Rattle.std.specs.Prelude.{◌≡◌, ◌≤◌, ℕ, [], ◌∷◌, Ok, Some, IfSome}
use Rattle.std.specs.List.{AllByRecursion}
use Rattle.lnfs_xdr.specs.Message.{parse}
use Rattle.lnfs_arguments.specs.Further.{Further}
use Rattle.lnfs_arguments.specs.Whole.{compound}
use Rattle.lnfs_arguments.specs.Numbered.{number_of}
use Rattle.lnfs_arguments.specs.declared.statuses.TheConstants.{NFS4ERR_TOO_MANY_OPS}
use Rattle.lnfs_arguments.specs.declared.types.Compound.{Compound}
use Rattle.lnfs_arguments.specs.declared.types.Op.TheVariants as ops
use Rattle.lnfs_arguments.specs.declared.types.Sequence.{Sequence}
use Rattle.lnfs_world.specs.World.{Kept, Slot, Session, World}
use Rattle.lnfs_operations.specs.declared.Gate.TheVariants as gates
use Rattle.lnfs_operations.specs.Results.{failed}
use Rattle.lnfs_operations.specs.Sequence.{Sent}
use Rattle.lnfs_operations.specs.SlotRule.{Answer, new_result}

-- A COMPOUND is what its arguments are read as, and it was sent with its own count.
pub record IsSent (g : Further) (sent : Sent) (c : Compound) : Type 0 where
  pub read : parse (compound g) sent.arguments ≡ Ok c
  pub count : sent.count ≡ c.count

-- The arguments that are kept are read as a COMPOUND that counts at most so many operations.
pub record WasAccepted (g : Further) (most : ℕ) (kept : Kept) : Type 0 where
  pub asked : Compound
  pub read : parse (compound g) kept.arguments ≡ Ok asked
  pub few : asked.count ≤ most

-- What a slot of a session keeps was accepted: it counts at most the operations that the session grants.
abbrev pub SlotAccepted : Further → (most : ℕ) → Slot → Type 0
SlotAccepted g most slot = IfSome slot.kept (WasAccepted g most)

abbrev pub SessionAccepted : Further → Session → Type 0
SessionAccepted g x = AllByRecursion (SlotAccepted g x.channel.max_operations) x.slots

-- so was what the slots of all sessions keep
abbrev pub AllAccepted : Further → World → Type 0
AllAccepted g w = AllByRecursion (SessionAccepted g) w.sessions

-- what a COMPOUND is answered that counts more
abbrev pub too_many : Compound → Sequence → Answer
too_many c args = record {
  result = new_result c (failed (ops.Sequence args) NFS4ERR_TOO_MANY_OPS ∷ []);
  denial = Some (record { place = 1; number = number_of (ops.Sequence args); gate = gates.Session; status = NFS4ERR_TOO_MANY_OPS });
}
