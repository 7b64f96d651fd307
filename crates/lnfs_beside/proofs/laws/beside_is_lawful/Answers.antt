use Rattle.lnfs_beside.proofs.SidesCarried.{sides_carry}
use Rattle.lnfs_beside.proofs.SidesLaws.{sides_lawful}
use Rattle.lnfs_beside.proofs.laws.beside_is_lawful.Goals as goal

pub returns : goal.returns
returns g c = record {
  laws = sides_lawful g.A.ExtraRows.extra g.B.ExtraRows.extra g.A.ExtraRows.lawful g.B.ExtraRows.lawful;
  labels = sides_carry g.A.ExtraRows.extra g.B.ExtraRows.extra;
}
