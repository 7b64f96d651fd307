use Rattle.std.proofs.Common.{arith}
use Rattle.lnfs_layout.proofs.Exact.{is_found, is_policy, is_damaged, only_found, only_other, only_damaged}
use Rattle.lnfs_layout.proofs.reading.read_layout.Goals as goal

pub returns-clause-found : goal.returns-clause-found
returns-clause-found c = is_found c.args.levels c.args.digest.now c.args.bytes.now c.laid_of.result (λ i. omega (arith, c.type_inv.bytes i)) c.laid_of.ensures.reads

pub returns-clause-only : goal.returns-clause-only
returns-clause-only c = only_found c.args.levels c.args.digest.now c.args.bytes.now c.laid_of.result (λ i. omega (arith, c.type_inv.bytes i)) c.laid_of.ensures.reads

pub returns-clause-policy : goal.returns-clause-policy
returns-clause-policy c = is_policy c.args.levels c.args.digest.now c.args.bytes.now c.laid_of.result (λ i. omega (arith, c.type_inv.bytes i)) c.laid_of.ensures.reads

pub returns-clause-other : goal.returns-clause-other
returns-clause-other c = only_other c.args.levels c.args.digest.now c.args.bytes.now c.laid_of.result (λ i. omega (arith, c.type_inv.bytes i)) c.laid_of.ensures.reads

pub returns-clause-damaged : goal.returns-clause-damaged
returns-clause-damaged c = is_damaged c.args.levels c.args.digest.now c.args.bytes.now c.laid_of.result (λ i. omega (arith, c.type_inv.bytes i)) c.laid_of.ensures.reads

pub returns-clause-refused : goal.returns-clause-refused
returns-clause-refused c = only_damaged c.args.levels c.args.digest.now c.args.bytes.now c.laid_of.result (λ i. omega (arith, c.type_inv.bytes i)) c.laid_of.ensures.reads
