use Rattle.lnfs_commands.proofs.Spelling.{never_short}
use Rattle.lnfs_commands.proofs.laws.translation.Goals as goal

pub returns-clause-level : goal.returns-clause-level
returns-clause-level c = λ text p e. c.translation.ensures.level p.formats p.labels (record { labels_are = c.site.ensures.labels text p e; formats_are = c.site.ensures.formats text p e })

pub returns-clause-dominance : goal.returns-clause-dominance
returns-clause-dominance c = λ text p e. c.translation.ensures.dominance p.formats p.labels (record { labels_are = c.site.ensures.labels text p e; formats_are = c.site.ensures.formats text p e })

pub returns-clause-memory : goal.returns-clause-memory
returns-clause-memory c = never_short
