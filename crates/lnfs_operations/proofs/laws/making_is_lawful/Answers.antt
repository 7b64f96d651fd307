use Rattle.lnfs_operations.proofs.CreateLaws.{create_view, create_footprint}
use Rattle.lnfs_operations.proofs.SetAttrLaws.{set_attr_view, set_attr_footprint}
use Rattle.lnfs_operations.proofs.laws.making_is_lawful.Goals as goal

pub returns : goal.returns
returns c = record {
  create_view = λ site lattice what name given. create_view site lattice what name given;
  create_footprint = λ site lattice what name given p w stands. create_footprint site lattice what name given p w stands;
  set_attr_view = λ site lattice id given. set_attr_view site lattice id given;
  set_attr_footprint = λ site lattice id given p w stands. set_attr_footprint site lattice p w stands id given;
}
