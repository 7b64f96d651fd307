use Rattle.std.proofs.Common.{drop, refl, ap, ◌∙◌}
use Rattle.lnfs_traffic.proofs.pieces.TrafficReader.next.Goals as goal

pub returns-in-Ok-Part : goal.returns-in-Ok-Part
returns-in-Ok-Part c =
    let rest = c.split_at.ensures.back ∙ ap (drop c.self.inside.start) c.deref.ensures.value in
    let s = rw (c.in-Ok-Part.field-0-is, rest) at c.in-Ok-Part.ensures.found in
    rw (← c.self.view_is) (s.0, refl, s.1, s.2)
