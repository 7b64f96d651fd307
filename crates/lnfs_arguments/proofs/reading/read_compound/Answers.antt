use Rattle.std.proofs.Common.{arith}
use Rattle.lnfs_arguments.proofs.Exact.{is_found, is_garbage, only_found, only_garbage}
use Rattle.lnfs_arguments.proofs.reading.read_compound.Goals as goal

pub returns-clause-found : goal.returns-clause-found
returns-clause-found g c = is_found g.E.ExtraGrammar.grammar c.args.bytes.now c.compound_of.result (λ i. omega (arith, c.type_inv.bytes i)) c.compound_of.ensures

pub returns-clause-only : goal.returns-clause-only
returns-clause-only g c = only_found g.E.ExtraGrammar.grammar c.args.bytes.now c.compound_of.result (λ i. omega (arith, c.type_inv.bytes i)) c.compound_of.ensures

pub returns-clause-garbage : goal.returns-clause-garbage
returns-clause-garbage g c = is_garbage g.E.ExtraGrammar.grammar c.args.bytes.now c.compound_of.result (λ i. omega (arith, c.type_inv.bytes i)) c.compound_of.ensures

pub returns-clause-refused : goal.returns-clause-refused
returns-clause-refused g c = only_garbage g.E.ExtraGrammar.grammar c.args.bytes.now c.compound_of.result (λ i. omega (arith, c.type_inv.bytes i)) c.compound_of.ensures
