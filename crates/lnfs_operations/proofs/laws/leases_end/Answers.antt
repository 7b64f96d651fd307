use Rattle.std.proofs.Common.{◌≡◌, true, cond, Some, Option, ap, ◌∙◌, arith}
use Rattle.std.proofs.lemmas.Bool.Decides.{nat_tests}
use Rattle.lnfs_world.specs.World.{Id, Client, client_at, same_id}
use Rattle.lnfs_world.specs.Change.{apply_all}
use Rattle.lnfs_world.specs.Leases.{over_at, renewed}
use Rattle.lnfs_world.proofs.Keys.{id_itself}
use Rattle.lnfs_world.proofs.KeptClients.{client_at-inserted}
use Rattle.lnfs_world.proofs.Leases.{give_way_own}
use Rattle.lnfs_operations.specs.Open.{access_of, opener}
use Rattle.lnfs_operations.specs.Sequence.{renewing}
use Rattle.lnfs_operations.proofs.SessionLaws.{client_level}
use Rattle.lnfs_operations.proofs.laws.leases_end.Goals as goal

pub returns : goal.returns
returns c = record {
  lasts = λ seen secs within. grind (arith, nat_tests, within);
  ends = λ seen secs past. grind (arith, nat_tests, past);
  renews = λ p w x client there.
      let i : Id = record { level = p.subject; number = x.client } in
      let row : Client = renewed p.moment client in
      let same : same_id i client.id ≡ true = ap (same_id i) (client_level i w.clients client there) ∙ id_itself i in
      ap (λ (o : Option Client). client_at (apply_all (renewing p.moment o) w).clients i) there
      ∙ client_at-inserted row w.clients i
      ∙ ap (λ b. cond b (Some row) (client_at w.clients i)) same;
  own = λ args p w client n. give_way_own p.subject (opener args p client) n.id (access_of args) args.deny (over_at w.clients p.moment) w.opens;
}
