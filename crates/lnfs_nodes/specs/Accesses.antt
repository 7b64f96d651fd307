-- What ACCESS tells, by the code's value.
use Rattle.lnfs_operations.specs.Access.{Granted}
use Rattle.lnfs_nodes.specs.declared.rights.AccessBits.{AccessBits}

abbrev pub granted_of : AccessBits → Granted
granted_of a = record { supported = a.supported; granted = a.granted }
