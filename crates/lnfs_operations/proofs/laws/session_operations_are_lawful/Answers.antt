use Rattle.lnfs_operations.proofs.SessionLaws.{destroy_session_view, destroy_session_footprint, sequence_view, sequence_footprint, destroy_clientid_view, destroy_clientid_footprint, reclaim_complete_view, reclaim_complete_footprint}
use Rattle.lnfs_operations.proofs.CreateSessionLaws.{create_session_view, create_session_footprint}
use Rattle.lnfs_operations.proofs.laws.session_operations_are_lawful.Goals as goal

pub returns : goal.returns
returns c = record {
  create_session_view = λ dom lattice args arguments. create_session_view dom lattice args arguments;
  create_session_footprint = λ dom args arguments p w stands. create_session_footprint dom p w stands args arguments;
  destroy_session_view = λ dom lattice session. destroy_session_view dom lattice session;
  destroy_session_footprint = λ dom session p w stands. destroy_session_footprint dom p w stands session;
  sequence_view = λ dom lattice args sent. sequence_view dom lattice args sent;
  sequence_footprint = λ dom args sent p w stands. sequence_footprint dom p w stands args sent;
  destroy_clientid_view = λ dom lattice client. destroy_clientid_view dom lattice client;
  destroy_clientid_footprint = λ dom client p w stands. destroy_clientid_footprint dom p w stands client;
  reclaim_complete_view = λ dom lattice one_fs. reclaim_complete_view dom lattice one_fs;
  reclaim_complete_footprint = λ dom one_fs p w stands. reclaim_complete_footprint dom p w stands one_fs;
}
