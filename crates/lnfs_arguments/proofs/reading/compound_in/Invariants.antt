use Rattle.std.proofs.Common.{◌≡◌, ◌-◌}
use Rattle.lnfs_xdr.specs.Message.{parse}
use Rattle.lnfs_arguments.specs.Whole.{compound, operations}
use Rattle.lnfs_arguments.proofs.reading.compound_in.Given as goal

abbrev pub invariant-loop : goal.invariant-loop
invariant-loop g l = parse (operations g.E.ExtraGrammar.grammar l.is_cut (l.served - l.counter) (record { tag = l.tag; minor = l.minor; count = l.count; ops = l.ops.items })) l.reader.rest ≡ parse (compound g.E.ExtraGrammar.grammar) l.fn.reader.rest
