use Rattle.lnfs_operations.proofs.LinkLaws.{link_view, link_footprint}
use Rattle.lnfs_operations.proofs.RemoveLaws.{remove_view, remove_footprint}
use Rattle.lnfs_operations.proofs.RenameLaws.{rename_view, rename_footprint}
use Rattle.lnfs_operations.proofs.laws.naming_is_lawful.Goals as goal

pub returns : goal.returns
returns c = record {
  link_view = λ site lattice name. link_view site lattice name;
  link_footprint = λ site lattice name. link_footprint site lattice name;
  remove_view = λ site lattice name. remove_view site lattice name;
  remove_footprint = λ site lattice name. remove_footprint site lattice name;
  rename_view = λ site lattice old new. rename_view site lattice old new;
  rename_footprint = λ site lattice old new. rename_footprint site lattice old new;
}
