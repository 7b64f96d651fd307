use Rattle.lnfs_audit.proofs.Compared.{AreSame}
use Rattle.lnfs_audit.proofs.comparing.compare.Given as goal

abbrev pub invariant-loop-index : goal.invariant-loop-index
invariant-loop-index l = AreSame l.due l.records l.index l.at
