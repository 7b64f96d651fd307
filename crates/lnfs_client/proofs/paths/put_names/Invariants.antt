use Rattle.std.proofs.Common.{◌≡◌, ◌++◌, map, drop}
use Rattle.lnfs_arguments.specs.declared.types.Op.TheVariants as ops
use Rattle.lnfs_client.proofs.paths.put_names.Given as goal

-- the look-ups so far, and of the names that are left
abbrev pub invariant-loop-name : goal.invariant-loop-name
invariant-loop-name l = l.ops.items ++ map ops.Lookup (drop l.name-index l.names) ≡ l.initial.ops.items ++ map ops.Lookup l.names
