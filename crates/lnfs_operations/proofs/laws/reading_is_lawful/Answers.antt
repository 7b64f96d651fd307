use Rattle.lnfs_operations.proofs.HandleLaws.{put_fh_view, put_fh_footprint, put_root_fh_view, put_root_fh_footprint, get_fh_view, get_fh_footprint, save_fh_view, save_fh_footprint, restore_fh_view, restore_fh_footprint}
use Rattle.lnfs_operations.proofs.LookupLaws.{lookup_view, lookup_footprint, lookup_parent_view, lookup_parent_footprint}
use Rattle.lnfs_operations.proofs.AccessLaws.{access_view, access_footprint, read_link_view, read_link_footprint}
use Rattle.lnfs_operations.proofs.GetAttrLaws.{get_attr_view, get_attr_footprint, verify_view, verify_footprint, nverify_view, nverify_footprint}
use Rattle.lnfs_operations.proofs.ReadDirLaws.{read_dir_view, read_dir_footprint}
use Rattle.lnfs_operations.proofs.laws.reading_is_lawful.Goals as goal

pub returns : goal.returns
returns c = record {
  put_fh_view = λ site lattice handle. put_fh_view site lattice handle;
  put_fh_footprint = λ site lattice handle p w stands. put_fh_footprint site lattice handle p w stands;
  put_root_fh_view = λ site lattice. put_root_fh_view site lattice;
  put_root_fh_footprint = λ site lattice p w stands. put_root_fh_footprint site lattice p w stands;
  get_fh_view = λ site lattice. get_fh_view site lattice;
  get_fh_footprint = λ site lattice p w stands. get_fh_footprint site lattice p w stands;
  save_fh_view = λ site lattice. save_fh_view site lattice;
  save_fh_footprint = λ site lattice p w stands. save_fh_footprint site lattice p w stands;
  restore_fh_view = λ site lattice. restore_fh_view site lattice;
  restore_fh_footprint = λ site lattice p w stands. restore_fh_footprint site lattice p w stands;
  lookup_view = λ site lattice name. lookup_view site lattice name;
  lookup_footprint = λ site lattice name p w stands. lookup_footprint site lattice name p w stands;
  lookup_parent_view = λ site lattice. lookup_parent_view site lattice;
  lookup_parent_footprint = λ site lattice p w stands. lookup_parent_footprint site lattice p w stands;
  access_view = λ site lattice bits. access_view site bits;
  access_footprint = λ site lattice bits p w stands. access_footprint site bits p w stands;
  read_link_view = λ site lattice. read_link_view site;
  read_link_footprint = λ site lattice p w stands. read_link_footprint site p w stands;
  get_attr_view = λ site lattice asked. get_attr_view site lattice asked;
  get_attr_footprint = λ site lattice asked. get_attr_footprint site lattice asked;
  verify_view = λ site lattice given. verify_view site lattice given;
  verify_footprint = λ site lattice given. verify_footprint site lattice given;
  nverify_view = λ site lattice given. nverify_view site lattice given;
  nverify_footprint = λ site lattice given. nverify_footprint site lattice given;
  read_dir_view = λ site lattice args. read_dir_view site lattice args;
  read_dir_footprint = λ site lattice args. read_dir_footprint site lattice args;
}
