-- What is asked and what is told, as the code keeps them.
use Rattle.lnfs_open.specs.Listed.{client_id}
use Rattle.lnfs_locks.specs.Denial.{Asker, Denial}
use Rattle.lnfs_locking.specs.declared.rivals.Rival.{Rival}
use Rattle.lnfs_locking.specs.declared.search.Denied.{Denied}
use Rattle.lnfs_locking.specs.Keys.{id_of}
use Rattle.lnfs_locking.specs.Rows.{lock_of}

abbrev pub asker_of : Rival → Asker
asker_of r = record { subject = r.subject.0; client = client_id r.client; owner = r.owner.now }

abbrev pub denial_of : Denied → Denial
denial_of d = record { lock = lock_of (id_of d.id) d.row.now; range = d.range }
