use Rattle.std.proofs.Common.{sym, ◌∙◌, ap}
use Rattle.lnfs_xdr.specs.Cursor.{Cursor}
use Rattle.lnfs_xdr.specs.Reading.{read}
use Rattle.lnfs_attrs.specs.Settable.{values}
use Rattle.lnfs_attrs.proofs.Judging.{left_over}
use Rattle.lnfs_attrs.proofs.setting.list_in.Goals as goal

pub returns-then-not-is_empty : goal.returns-then-not-is_empty
returns-then-not-is_empty c =
    let start = ap (λ (r : Cursor). read (values c.args.mask.now) r.rest) c.new-reader.ensures in
    let some = sym c.is_empty.ensures ∙ c.if-not-is_empty.true in
    left_over c.args.mask.now c.args.bytes.now c.in_ok-found.found c.values_of.new.reader.rest (sym start ∙ c.in_ok-found.ensures) (rw c.rest.ensures at some)
