-- LOCK, LOCKT and LOCKU where labels are carried alone: they leave the world, and no rule of labels refuses them.
use Rattle.std.proofs.Common.{◌≡◌, ℕ, Bool, true, false, cond, not, ◌||◌, List, [], Some, Ok, Err, refl, sym, subst, arith}
use Rattle.std.specs.Prelude.{◌==◌, is_some, nat_le}
use Rattle.std.proofs.lemmas.Bool.Decides.{nat_tests}
use Rattle.lnfs_calipso.specs.Label.{IsPreorderWithBottom}
use Rattle.lnfs_xdr.specs.Reading.{Read, read}
use Rattle.lnfs_arguments.specs.declared.statuses.TheConstants.{NFS4ERR_NOTSUPP}
use Rattle.lnfs_arguments.specs.declared.stateid.StateId.{StateId}
use Rattle.lnfs_world.specs.Opens.{has_any}
use Rattle.lnfs_world.specs.Outcome.{Site, Place, Outcome}
use Rattle.lnfs_world.specs.Both.{Both}
use Rattle.lnfs_world.specs.World.{Id, Node, Open, World, is_directory, node_at}
use Rattle.lnfs_operations.specs.declared.Gate.TheVariants.{Outside}
use Rattle.lnfs_operations.specs.Carried.{AllLow, StandsLow, FurtherCarry, stored_at, NoRule}
use Rattle.lnfs_operations.specs.Chain.{Answer, Done, Refused}
use Rattle.lnfs_operations.specs.Extra.{Spot, spot_of, place_at}
use Rattle.lnfs_operations.specs.Handles.{handle_named}
use Rattle.lnfs_operations.specs.Lookup.{is_link}
use Rattle.lnfs_operations.specs.StateIds.{special, open_at}
use Rattle.lnfs_operations.proofs.Chains.{demand_any, where_any}
use Rattle.lnfs_operations.proofs.Unruled.{IsFree, Free, free_done, free_refused, free_passed, node_low, reads_low}
use Rattle.lnfs_locks.specs.declared.numbers.TheConstants.{OP_LOCK, OP_LOCKT, OP_LOCKU}
use Rattle.lnfs_locks.specs.Arguments.{Asked, Locker, New, Known, LockArgs, LockTArgs, LockUArgs, lock_args, lockt_args, locku_args}
use Rattle.lnfs_locks.specs.Locks.{Lock, Locks, Row, locks_of, opening_of}
use Rattle.lnfs_locks.specs.Denial.{Asker, counts_at, is_rival, denial}
use Rattle.lnfs_locks.specs.StateIds.{lock_at, where_lock}
use Rattle.lnfs_locks.specs.Ranges.{is_kind, is_range, for_write, access_for, last_asked, where_range}
use Rattle.lnfs_locks.specs.Effects.{Came, Denied, Free as NoneDenies, Holds, locked, unlocked, has_lock_left, has_ranges_left}
use Rattle.lnfs_locks.specs.Lock.{asker, where_free, where_locker, lock}
use Rattle.lnfs_locks.specs.LockT.{lockt}
use Rattle.lnfs_locks.specs.LockU.{locku}
use Rattle.lnfs_locks.specs.Outcome.{with_arguments, concluded, answered, locking}
use Rattle.lnfs_locks.proofs.Conclusions.{world_stays}

module _ (site : Site) (lattice : IsPreorderWithBottom site.dom) (p : Place) (w : World) (low : StandsLow p w) (own : Locks) where
  range_free : (a : Asked) (next : Outcome (Answer Came)) → Free next → Free (where_range p a next)
  range_free a next is = demand_any Free (is_kind a.kind) _ _ (free_refused p _ _ refl) (λ kind. demand_any Free (is_range a) _ _ (free_refused p _ _ refl) (λ range. is))

  lock_free : (n : Node) (id : StateId) (next : Open → Lock → Outcome (Answer Came)) → ((o : Open) (l : Lock) → Free (next o l)) → Free (where_lock own p w n id next)
  lock_free n id next is =
      demand_any Free ((handle_named id.other).level == p.subject) _ _ (free_refused p _ _ refl) (λ level.
      where_any Free (lock_at p own.locks n (handle_named id.other)) _ _ (λ l there.
      where_any Free (opening_of w l) _ _ (λ o opened.
      demand_any Free (nat_le id.seqid l.sequence) _ _ (free_refused p _ _ refl) (λ known.
      demand_any Free (id.seqid == 0 || id.seqid == l.sequence) _ _ (free_refused p _ _ refl) (λ now. is o l)))
      (free_refused p _ _ refl)) (free_refused p _ _ refl))

  locker_free : (client : ℕ) (n : Node) (locker : Locker) (next : Open → Lock → Outcome (Answer Came)) → ((o : Open) (l : Lock) → Free (next o l)) → Free (where_locker own p w client n locker next)
  locker_free client n (New opening owner) next is =
      demand_any Free (not (is_some (special opening))) _ _ (free_refused p _ _ refl) (λ plain.
      demand_any Free ((handle_named opening.other).level == p.subject) _ _ (free_refused p _ _ refl) (λ level.
      where_any Free (open_at p w n (handle_named opening.other)) _ _ (λ o there.
      demand_any Free (nat_le opening.seqid o.sequence) _ _ (free_refused p _ _ refl) (λ known.
      demand_any Free (opening.seqid == 0 || opening.seqid == o.sequence) _ _ (free_refused p _ _ refl) (λ now. is o _)))
      (free_refused p _ _ refl)))
  locker_free client n (Known id) next is = lock_free n id next is

  denied_free : (n : Node) (who : Asker) (a : Asked) (next : Outcome (Answer Came)) → Free next → Free (where_free site own p w n who a next)
  denied_free n who a next is = where_any Free (denial (is_rival site.dom (counts_at w p.moment) who) n.id a.offset (last_asked a) (for_write a) own.locks) _ _ (λ d there. free_done p (Denied d) []) is

  own_label : (i : Id) (n : Node) → node_at w.nodes i ≡ Some n → (p.subject == n.label) ≡ true
  own_label i n is = let subject = low.subject in let label = node_low site lattice p w low i n is in grind (arith, nat_tests, subject, label)

  locking_free : (args : LockArgs) → Free (lock site args own p w)
  locking_free args =
      where_any Free p.client _ _ (λ client came.
      range_free args.asked _ (
      where_any Free p.current _ _ (λ i handle.
      where_any Free (node_at w.nodes i) _ _ (λ n there.
      demand_any Free (not (is_directory n.kind)) _ _ (free_refused p _ _ refl) (λ file.
      demand_any Free (not (is_link n.kind)) _ _ (free_refused p _ _ refl) (λ plain.
      demand_any Free (not args.reclaim) _ _ (free_refused p _ _ refl) (λ fresh.
      free_passed (p.subject == n.label) _ _ (own_label i n there) (
      locker_free client n args.locker _ (λ o l.
      demand_any Free (has_any o.access (access_for args.asked)) _ _ (free_refused p _ _ refl) (λ may.
      denied_free n (asker p client l.owner) args.asked _ (
      demand_any Free (has_lock_left w (locked args.asked l) own.locks) _ _ (free_refused p _ _ refl) (λ few.
      demand_any Free (has_ranges_left w (locked args.asked l) own.locks) _ _ (free_refused p _ _ refl) (λ ranges. free_done p _ []))))))))))
      (free_refused p _ _ refl)) (free_refused p _ _ refl))) (free_refused p _ _ refl)

  testing_free : (args : LockTArgs) → Free (lockt site args own p w)
  testing_free args =
      where_any Free p.client _ _ (λ client came.
      range_free args.asked _ (
      where_any Free p.current _ _ (λ i handle.
      where_any Free (node_at w.nodes i) _ _ (λ n there.
      demand_any Free (not (is_directory n.kind)) _ _ (free_refused p _ _ refl) (λ file.
      demand_any Free (not (is_link n.kind)) _ _ (free_refused p _ _ refl) (λ plain.
      free_passed (site.dom p.subject n.label) _ _ (reads_low site lattice p w low n.label (node_low site lattice p w low i n there)) (
      denied_free n (asker p client args.owner) args.asked _ (free_done p NoneDenies [])))))
      (free_refused p _ _ refl)) (free_refused p _ _ refl))) (free_refused p _ _ refl)

  unlocking_free : (args : LockUArgs) → Free (locku args own p w)
  unlocking_free args =
      range_free args.asked _ (
      where_any Free p.current _ _ (λ i handle.
      where_any Free (node_at w.nodes i) _ _ (λ n there.
      demand_any Free (not (is_directory n.kind)) _ _ (free_refused p _ _ refl) (λ file.
      demand_any Free (not (is_link n.kind)) _ _ (free_refused p _ _ refl) (λ plain.
      lock_free n args.lock _ (λ o l.
      demand_any Free (has_ranges_left w (unlocked args.asked l) own.locks) _ _ (free_refused p _ _ refl) (λ ranges. free_done p _ [])))))
      (free_refused p _ _ refl)) (free_refused p _ _ refl))

  answered_free : (number : ℕ) (arguments : List ℕ) → IsFree (answered site number arguments own p w)
  answered_free number arguments = by (number == OP_LOCK) (number == OP_LOCKT) (number == OP_LOCKU)
    where
      each : {A : Type 0} (r : Read ⊥ A) (next : A → Answer Came) → ((args : A) → IsFree (next args)) → IsFree (with_arguments r next)
      each (Ok x) next is = is x.0
      each (Err stuck) next is = refl

      by : (b c d : Bool) → IsFree (cond b (with_arguments (read lock_args arguments) (λ args. (lock site args own p w).answer)) (cond c (with_arguments (read lockt_args arguments) (λ args. (lockt site args own p w).answer)) (cond d (with_arguments (read locku_args arguments) (λ args. (locku args own p w).answer)) (Refused (record { gate = Outside; status = NFS4ERR_NOTSUPP })))))
      by true c d = each (read lock_args arguments) _ (λ args. (locking_free args).is)
      by false true d = each (read lockt_args arguments) _ (λ args. (testing_free args).is)
      by false false true = each (read locku_args arguments) _ (λ args. (unlocking_free args).is)
      by false false false = refl

concluded_free : (x : Answer Came) → IsFree x → (at : Spot) (a : Both Row) → NoRule (concluded x at a).said.refusal
concluded_free (Refused why) is at a = is
concluded_free (Done (Denied d)) is at a = refl
concluded_free (Done NoneDenies) is at a = tt
concluded_free (Done (Holds l gone)) is at a = tt

pub locks_carry : FurtherCarry locking
locks_carry = record {
  rows = λ site lattice alone number arguments p b stands low. subst AllLow (sym (world_stays (answered site number arguments (locks_of b.own) (place_at (spot_of p)) b.world) (spot_of p) b)) low.rows;
  labels = λ site lattice alone number arguments p b stands low i after.
      subst (λ (v : World). stored_at v.nodes i ≡ Some after → stored_at b.world.nodes i ≡ Some after) (sym (world_stays (answered site number arguments (locks_of b.own) (place_at (spot_of p)) b.world) (spot_of p) b)) (λ is. is);
  rule = λ site lattice alone number arguments p b stands low.
      concluded_free (answered site number arguments (locks_of b.own) (place_at (spot_of p)) b.world)
      (answered_free site lattice (place_at (spot_of p)) b.world (record { subject = low.subject; rows = low.rows }) (locks_of b.own) number arguments) (spot_of p) b;
}
