use Rattle.lnfs_talk.specs.Talks.{link_with}
use Rattle.lnfs_talk.proofs.Goings.{Going}
use Rattle.lnfs_talk.proofs.driver.converse.Given as goal

-- so many records have come, and a reply is awaited
abbrev pub invariant-loop-count : goal.invariant-loop-count
invariant-loop-count g l =
    Going g.M.Mechanism.signing l.fn.policy l.fn.level.0 l.fn.script (g.O.Outside.seen l.fn.outside) (g.O.Outside.seen l.outside)
    (link_with (g.L.Source.left l.fn.link) (g.L.Sink.taken l.fn.link) (g.L.Source.read_faults l.fn.link) (g.L.Sink.write_faults l.fn.link))
    (link_with (g.L.Source.left l.link) (g.L.Sink.taken l.link) (g.L.Source.read_faults l.link) (g.L.Sink.write_faults l.link))
    l.incoming l.dialogue l._count
