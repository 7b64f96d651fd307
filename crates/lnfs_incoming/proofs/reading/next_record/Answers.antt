use Rattle.std.proofs.Common.{◌≡◌, drop, sym, ap, ◌∙◌}
use Rattle.lnfs_incoming.proofs.Records.{record_fits}
use Rattle.lnfs_incoming.proofs.reading.next_record.Goals as goal

pub returns-in-Ok-Some : goal.returns-in-Ok-Some
returns-in-Ok-Some c =
    let next = rw c.in-Ok-Some.field-0-is at c.in-Ok-Some.ensures in
    let front = next.0.0 in
    let all : c.as_slice-bytes.result.now ≡ c.args.incoming.now = c.as_slice-bytes.ensures ∙ c.incoming.view_is in
    rw c.new.ensures (record_fits _ front next.0.2, (front, next.0.1, next.0.2, sym all ∙ next.0.3, next.0.4 ∙ ap (drop c.in-Ok-Some.field-0-0.length) c.as_slice-bytes.ensures ∙ sym c.take_off.ensures))
