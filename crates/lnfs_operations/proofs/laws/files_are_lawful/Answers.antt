use Rattle.lnfs_operations.proofs.OpenChanges.{open_footprint}
use Rattle.lnfs_operations.proofs.OpenLaws.{open_view}
use Rattle.lnfs_operations.proofs.FileLaws.{close_view, close_footprint, read_view, read_footprint, write_view, write_footprint, commit_view, commit_footprint}
use Rattle.lnfs_operations.proofs.laws.files_are_lawful.Goals as goal

pub returns : goal.returns
returns c = record {
  open_view = λ site lattice args. open_view site lattice args;
  open_footprint = λ site lattice args p w stands. open_footprint site lattice args p w stands;
  close_view = λ site lattice id. close_view site lattice id;
  close_footprint = λ site lattice id p w stands. close_footprint site p w stands id;
  read_view = λ site lattice args. read_view site lattice args;
  read_footprint = λ site lattice args p w stands. read_footprint site p w stands args;
  write_view = λ site lattice args. write_view site lattice args;
  write_footprint = λ site lattice args p w stands. write_footprint site p w stands args;
  commit_view = λ site lattice. commit_view site lattice;
  commit_footprint = λ site lattice p w stands. commit_footprint site p w stands;
}
