use Rattle.std.proofs.Common.{rules}
use Rattle.lnfs_outside.proofs.Parts.{puts_then, puts_first, cause_then}
use Rattle.lnfs_traffic.proofs.writing.put_event.Goals as goal

pub returns-in_err-put_all-clause-bytes : goal.returns-in_err-put_all-clause-bytes
returns-in_err-put_all-clause-bytes g c = rw (← c.head_of.ensures.text) (puts_first _ _ c.in_err-put_all.ensures.bytes (search rules))

pub returns-clause-bytes : goal.returns-clause-bytes
returns-clause-bytes g c = rw (← c.head_of.ensures.text) (puts_then _ _ c.in_ok-put_all.ensures.bytes.whole (rw c.as_slice.ensures at c.put_all-2.ensures.bytes))

pub returns-clause-cause : goal.returns-clause-cause
returns-clause-cause g c = cause_then c.in_ok-put_all.ensures.cause.later c.in_ok-put_all.ensures.cause.within c.put_all-2.ensures.cause
