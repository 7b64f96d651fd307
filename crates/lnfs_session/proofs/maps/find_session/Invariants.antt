use Rattle.std.proofs.Common.{◌≡◌, map}
use Rattle.std.specs.List.{find}
use Rattle.lnfs_world.specs.Change.{is_session_of}
use Rattle.lnfs_session.specs.Listed.{id_of, session_id_of, session_of}
use Rattle.lnfs_session.proofs.Ranges.{level_run}
use Rattle.lnfs_session.proofs.maps.find_session.Given as goal

abbrev pub invariant-loop-id : goal.invariant-loop-id
invariant-loop-id l = find (is_session_of (id_of l.client)) (map session_of (level_run session_id_of l.client.level l.id-iterator)) ≡ find (is_session_of (id_of l.client)) (map session_of l.sessions.entries)
