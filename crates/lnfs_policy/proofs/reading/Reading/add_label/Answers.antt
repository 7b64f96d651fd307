use Rattle.std.proofs.Common.{sym}
use Rattle.lnfs_policy.proofs.Sound.{next_sound, fits_next}
use Rattle.lnfs_policy.proofs.reading.Reading.add_label.Goals as goal

pub invariant_of-self-2 : goal.invariant_of-self-2
invariant_of-self-2 c =
    rw (c.in_ok-push.ensures.items)
    (next_sound c.self.inside.labels.items c.in-Some.label c.self.invariant
    (fits_next c.self.inside.version c.self.inside.labels.items c.args.place c.in-Some.label (sym (rw c.deref.ensures.value at c.if-not-level_fits.ensures))))
