-- ALLOCATE, DEALLOCATE, SEEK and CLONE where labels are carried alone: labels stay, and no rule of labels refuses them.
use Rattle.std.proofs.Common.{◌≡◌, ℕ, List, Some, sym, ◌∙◌, subst, arith}
use Rattle.std.proofs.lemmas.Bool.{false≢true}
use Rattle.std.proofs.lemmas.Bool.Decides.{nat_tests}
use Rattle.lnfs_calipso.specs.Label.{IsPreorderWithBottom}
use Rattle.lnfs_world.specs.World.{World}
use Rattle.lnfs_world.specs.Outcome.{Site, Place, Outcome}
use Rattle.lnfs_operations.specs.Carried.{StandsLow, FurtherCarry, stored_at, NoRule}
use Rattle.lnfs_operations.specs.Chain.{Answer, Done, Refused}
use Rattle.lnfs_operations.proofs.Unruled.{IsFree, Free, free_done, free_refused, node_low, reads_low}
use Rattle.lnfs_sparse_ops.specs.Outcome.{answered, said, sparse}
use Rattle.lnfs_sparse_ops.proofs.SetFiles.{AllSet, all_set_low, all_set_have}
use Rattle.lnfs_sparse_ops.proofs.SparseEnds.{answered_any}
use Rattle.lnfs_sparse_ops.proofs.SparseLaws.{spot, comes}

module _ (site : Site) (lattice : IsPreorderWithBottom site.dom) (p : Place) (w : World) (low : StandsLow p w) where
  answered_free : (number : ℕ) (arguments : List ℕ) → Free (answered site number arguments p w)
  answered_free number arguments = answered_any site p w Free
      (record {
        plain = λ gate status is. free_refused p gate status is.rule;
        unread = λ n there off. absurd (false≢true (sym off ∙ reads_low site lattice p w low n.label (node_low site lattice p w low n.id n there)));
        unwritten = λ n there off.
            (let subject = low.subject in
            let label = node_low site lattice p w low n.id n there in
            absurd (grind (arith, nat_tests, subject, label, off)));
      })
      (λ bytes changes set. free_done p bytes changes) number arguments

said_free : (x : Answer (List ℕ)) → IsFree x → NoRule (said x).refusal
said_free (Done bytes) is = tt
said_free (Refused why) is = is

pub sparse_carries : FurtherCarry sparse
sparse_carries = record {
  rows = λ site lattice alone number arguments p b stands low.
      (let o : Outcome (Answer (List ℕ)) = answered site number arguments (spot p) b.world in
      let set : AllSet 0 b.world o.changes = subst (λ s. AllSet s b.world o.changes) low.subject (comes site number arguments (spot p) b.world).set in
      all_set_low site.dom o.changes b.world set low.rows);
  labels = λ site lattice alone number arguments p b stands low.
      all_set_have (λ i stored. stored_at b.world.nodes i ≡ Some stored) p.subject (answered site number arguments (spot p) b.world).changes b.world (comes site number arguments (spot p) b.world).set (λ i stored is. is);
  rule = λ site lattice alone number arguments p b stands low.
      said_free (answered site number arguments (spot p) b.world).answer (answered_free site lattice (spot p) b.world (record { subject = low.subject; rows = low.rows }) number arguments).is;
}
