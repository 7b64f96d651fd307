use Rattle.lnfs_operations.proofs.ExchangeIdLaws.{exchange_id_view, exchange_id_footprint}
use Rattle.lnfs_operations.proofs.laws.exchange_id_is_lawful.Goals as goal

pub returns : goal.returns
returns c = record {
  view = λ dom lattice args. exchange_id_view dom lattice args;
  footprint = λ dom lattice args p w stands. exchange_id_footprint dom args p w stands;
}
