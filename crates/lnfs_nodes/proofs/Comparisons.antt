-- Attributes that are compared with those of the node of a file handle.
use Rattle.std.proofs.Common.{◌≡◌, ℕ, Bool, true, false, not, cond, [], Some, None, Result, Ok, Err, refl, sym, ◌∙◌, ap}
use Rattle.std.specs.Str.{bytes_eq}
use Rattle.lnfs_attrs.specs.declared.raw.RawAttrs.{RawAttrs}
use Rattle.lnfs_attrs.specs.declared.numbers.TheConstants.{RDATTR_ERROR}
use Rattle.lnfs_attrs.specs.Bitmaps.{has_attr}
use Rattle.lnfs_attrs.specs.Attributes.{list_text}
use Rattle.lnfs_arguments.specs.declared.statuses.TheConstants.{NFS4ERR_INVAL, NFS4ERR_ATTRNOTSUPP, NFS4ERR_SAME, NFS4ERR_NOT_SAME}
use Rattle.lnfs_monitor.specs.Rules.{Read}
use Rattle.lnfs_world.specs.World.{World}
use Rattle.lnfs_world.specs.Outcome.{Site, Place, Outcome}
use Rattle.lnfs_operations.specs.declared.Gate.TheVariants.{Argument, Namespace}
use Rattle.lnfs_operations.specs.declared.Refusal.{Refusal}
use Rattle.lnfs_operations.specs.Chain.{Answer, Done, Refused, refuse, demand, done}
use Rattle.lnfs_operations.specs.Judged.{where_asked}
use Rattle.lnfs_operations.specs.Handles.{with_current}
use Rattle.lnfs_operations.specs.Shown.{shown, asks_inner}
use Rattle.lnfs_operations.specs.GetAttr.{is_supported, compared, verify, nverify}
use Rattle.lnfs_nodes.specs.Trees.{refusal_of, stays}
use Rattle.lnfs_nodes.specs.GivenValues.{argument}
use Rattle.lnfs_nodes.specs.Comparing.{given_refusal, where_compared}
use Rattle.lnfs_nodes.proofs.Refusing.{refused_as}

-- two tests of which the first that fails decides
by_tests : {R : Type 0} (p : Place) (a b : Bool) (s t : ℕ) (next : Outcome (Answer R)) (why : Refusal) → Some (refusal_of why) ≡ cond a (cond b (Some (argument t)) None) (Some (argument s))
    → demand a (refuse p Argument s) (demand (not b) (refuse p Argument t) next) ≡ refuse p why.gate why.status
by_tests p true true s t next why e = refused_as p why (argument t) cc
by_tests p true false s t next why e = cc
by_tests p false b s t next why e = refused_as p why (argument s) cc

no_tests : {R : Type 0} (p : Place) (a b : Bool) (s t : ℕ) (next : Outcome (Answer R)) → None ≡ cond a (cond b (Some (argument t)) None) (Some (argument s)) → demand a (refuse p Argument s) (demand (not b) (refuse p Argument t) next) ≡ next
no_tests p true true s t next e = cc
no_tests p true false s t next e = refl
no_tests p false b s t next e = cc

module _ (site : Site) (given : RawAttrs) (p : Place) (w : World) (same : Bool → Outcome (Answer (Unit {0}))) where
  -- what is given is refused
  pub given_refused : (why : Refusal) → Some (refusal_of why) ≡ given_refusal given → compared site given p w same ≡ refuse p why.gate why.status
  given_refused why e = by_tests p (is_supported given.mask) (has_attr given.mask RDATTR_ERROR) NFS4ERR_ATTRNOTSUPP NFS4ERR_INVAL _ why e

  -- it is taken, and then
  pub given_taken : (o : Outcome (Answer (Unit {0}))) → None ≡ given_refusal given
      → with_current p w (λ n. where_asked (asks_inner given.mask) site p (Read n.label) (same (bytes_eq given.list (list_text given.mask (shown site p w n 0) true)))) ≡ o
      → compared site given p w same ≡ o
  given_taken o e is = no_tests p (is_supported given.mask) (has_attr given.mask RDATTR_ERROR) NFS4ERR_ATTRNOTSUPP NFS4ERR_INVAL _ e ∙ is

-- what follows a comparison that was made
module _ (site : Site) (given : RawAttrs) (p : Place) (w : World) (told : Result Bool Refusal) (is : (same : Bool → Outcome (Answer (Unit {0}))) → compared site given p w same ≡ where_compared p same told) where
  abbrev if_same : Bool → Outcome (Answer (Unit {0}))
  if_same same = demand same (refuse p Namespace NFS4ERR_NOT_SAME) (done p tt [])

  abbrev if_other : Bool → Outcome (Answer (Unit {0}))
  if_other same = demand (not same) (refuse p Namespace NFS4ERR_SAME) (done p tt [])

  pub verify_refused : (why : Refusal) → told ≡ Err why → verify site given p w ≡ stays p (Refused (refusal_of why))
  verify_refused why e = is if_same ∙ ap (where_compared p if_same) e

  pub verify_other : (why : Refusal) → told ≡ Ok false → why ≡ record { gate = Namespace; status = NFS4ERR_NOT_SAME } → verify site given p w ≡ stays p (Refused (refusal_of why))
  verify_other why e is_why = is if_same ∙ ap (where_compared p if_same) e ∙ ap (λ (r : Refusal). stays p (Refused (refusal_of r))) (sym is_why)

  pub verify_same : told ≡ Ok true → verify site given p w ≡ stays p (Done tt)
  verify_same e = is if_same ∙ ap (where_compared p if_same) e

  pub nverify_refused : (why : Refusal) → told ≡ Err why → nverify site given p w ≡ stays p (Refused (refusal_of why))
  nverify_refused why e = is if_other ∙ ap (where_compared p if_other) e

  pub nverify_same : (why : Refusal) → told ≡ Ok true → why ≡ record { gate = Namespace; status = NFS4ERR_SAME } → nverify site given p w ≡ stays p (Refused (refusal_of why))
  nverify_same why e is_why = is if_other ∙ ap (where_compared p if_other) e ∙ ap (λ (r : Refusal). stays p (Refused (refusal_of r))) (sym is_why)

  pub nverify_other : told ≡ Ok false → nverify site given p w ≡ stays p (Done tt)
  nverify_other e = is if_other ∙ ap (where_compared p if_other) e
