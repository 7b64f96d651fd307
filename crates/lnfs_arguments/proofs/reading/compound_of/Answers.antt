use Rattle.std.proofs.Common.{sym, ap, ◌∙◌, arith}
use Rattle.lnfs_xdr.specs.Cursor.{Cursor}
use Rattle.lnfs_xdr.specs.Message.{parse}
use Rattle.lnfs_arguments.specs.Whole.{compound}
use Rattle.lnfs_arguments.proofs.Exact.{left_short}
use Rattle.lnfs_arguments.proofs.reading.compound_of.Goals as goal

pub overflow_sub-result : goal.overflow_sub-result
overflow_sub-result g c =
    let x = g.E.ExtraGrammar.grammar in
    let e = rw c.in-Err-Fault.field-0-is at c.in-Err-Fault.ensures in
    let start = ap (λ (r : Cursor). parse (compound x) r.rest) c.new-reader.ensures in
    rw c.rest.ensures (left_short x c.args.bytes.now c.compound_in.new.reader.rest (λ i. omega (arith, c.type_inv.bytes i)) (sym start ∙ e))

pub returns-in-Err-Fault : goal.returns-in-Err-Fault
returns-in-Err-Fault g c =
    let x = g.E.ExtraGrammar.grammar in
    let e = rw c.in-Err-Fault.field-0-is at c.in-Err-Fault.ensures in
    let start = ap (λ (r : Cursor). parse (compound x) r.rest) c.new-reader.ensures in
    let short = left_short x c.args.bytes.now c.compound_in.new.reader.rest (λ i. omega (arith, c.type_inv.bytes i)) (sym start ∙ e) in
    (c.compound_in.new.reader.rest, sym start ∙ e, rw c.rest.ensures (omega (arith, short)))
