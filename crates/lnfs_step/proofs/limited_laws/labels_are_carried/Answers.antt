use Rattle.lnfs_operations.proofs.CarriedRows.{shown_own}
use Rattle.lnfs_site.specs.Site.{site_of}
use Rattle.lnfs_step.proofs.Carrying.{step_low, step_unruled, step_stays, low_after, unruled_after}
use Rattle.lnfs_step.proofs.LimitedSites.{guest_calls, lowest, carries_alone, first_low}
use Rattle.lnfs_step.proofs.limited_laws.labels_are_carried.Goals as goal

pub returns : goal.returns
returns g c = let X = g.X.ExtraRows.extra in let owed = g.X.ExtraRows.lawful in let m = g.M.Mechanism.signing in record {
  site = λ p limited. carries_alone p limited;
  guests = λ p limited event call read is. guest_calls m p limited event.class event.message call read is;
  level = λ p limited event level is. lowest m p limited event.class event.message level is;
  first = λ p limited. first_low p limited;
  low = λ p lattice limited further a event holds low. step_low X owed further m p lattice limited event a holds low;
  rules = λ p lattice limited further a event holds low. step_unruled X owed further m p lattice limited event a holds low;
  labels = λ p lattice limited further a event holds low none. step_stays X owed further m p lattice limited event a holds low none;
  shown = λ p lattice limited q w i n low found. shown_own (site_of p) lattice (carries_alone p limited) q w low i n found;
  low_after = λ p lattice limited further journal. low_after X owed further m p lattice limited journal;
  rules_after = λ p lattice limited further journal event. unruled_after X owed further m p lattice limited journal event;
}
