-- The open that a state id names, by what the opens find.
use Rattle.std.proofs.Common.{◌≡◌, ℕ, Bool, true, false, not, ◌&&◌, cond, List, Option, Some, None, Result, Ok, Err, refl, sym, ap, ◌∙◌}
use Rattle.std.specs.Prelude.{◌==◌, ◌||◌, nat_le, is_some, IsErrAnd, if◌then◌else◌}
use Rattle.std.specs.Option.{option_map}
use Rattle.lnfs_arguments.specs.declared.stateid.StateId.{StateId}
use Rattle.lnfs_arguments.specs.declared.statuses.TheConstants.{NFS4ERR_BAD_STATEID, NFS4ERR_OLD_STATEID}
use Rattle.lnfs_world.specs.World.{Id, Node, Open, World}
use Rattle.lnfs_world.specs.Outcome.{Place, Outcome}
use Rattle.lnfs_monitor.specs.declared.rule.Rule.TheVariants.{M9}
use Rattle.lnfs_operations.specs.declared.Gate.{Gate}
use Rattle.lnfs_operations.specs.declared.Gate.TheVariants as gates
use Rattle.lnfs_operations.specs.Chain.{Answer, Done, Refused, refuse, done, demand, where_there}
use Rattle.lnfs_operations.specs.Chain as chain
use Rattle.lnfs_operations.specs.Handles.{handle_named}
use Rattle.lnfs_operations.specs.StateIds.{open_at, where_open}
use Rattle.lnfs_operations.specs.StateIds as operation
use Rattle.lnfs_operations.specs.declared.Refusal.{Refusal}
use Rattle.lnfs_open.specs.Opening.{found_of, at_sequence, open_named}
use Rattle.lnfs_open.specs.Listed.{row_of}
use Rattle.lnfs_open.specs.declared.keys.OpenRow.{OpenRow}
use Rattle.lnfs_open.specs.declared.keys.OpenError.{OpenError}
use Rattle.lnfs_open.specs.declared.keys.OpenError.TheVariants.{Bad, Old}
use Rattle.lnfs_files.specs.Tests.{passed}
use Rattle.lnfs_files.specs.declared.state_ids.Special.{Special}
use Rattle.lnfs_files.specs.Uses.{special_of}
use Rattle.lnfs_locks.specs.Effects.{Came}
use Rattle.lnfs_byte_locks.specs.declared.openings.Opened.{Opened}
use Rattle.lnfs_byte_locks.specs.Openings.{where_opening, FindsOpen}

-- ---- a refusal whatever follows

same_reason : {R : Type 0} (why told : chain.Refusal) → (let reason : Answer R = Refused why in reason ≡ Refused told) → why ≡ told
same_reason why told is = cc

module _ {A R : Type 0} (p : Place) (gate : Gate) (status : ℕ) where
  abbrev Alike : Outcome (Answer A) → Outcome (Answer R) → Type 0
  Alike x y = x ≡ refuse p gate status → y ≡ refuse p gate status

  refused_alike : (g : Gate) (s : ℕ) → Alike (refuse p g s) (refuse p g s)
  refused_alike g s is =
      ap (λ (x : chain.Refusal). refuse p x.gate x.status)
      (same_reason (record { gate = g; status = s }) (record { gate = gate; status = status }) (ap (λ (o : Outcome (Answer A)). o.answer) is))

  demand_alike : (b : Bool) (g : Gate) (s : ℕ) (x : Outcome (Answer A)) (y : Outcome (Answer R)) → Alike x y → Alike (demand b (refuse p g s) x) (demand b (refuse p g s) y)
  demand_alike true g s x y alike = alike
  demand_alike false g s x y alike = refused_alike g s

  there_alike : {X : Type 0} (found : Option X) (x : X → Outcome (Answer A)) (y : X → Outcome (Answer R)) (g : Gate) (s : ℕ) → ((o : X) → Alike (x o) (y o)) →
      Alike (where_there found x (refuse p g s)) (where_there found y (refuse p g s))
  there_alike (Some o) x y g s alike = alike o
  there_alike None x y g s alike = refused_alike g s

done_refuses : {R : Type 0} (p : Place) (gate : Gate) (status : ℕ) (y : Outcome (Answer R)) → passed p ≡ refuse p gate status → y ≡ refuse p gate status
done_refuses {R} p gate status y is =
    let told : (passed p).answer ≡ Refused (record { gate = gate; status = status }) = ap (λ (o : Outcome (Answer (Unit {0}))). o.answer) is in
    absurd (cc)

-- what is refused where nothing follows is refused whatever follows
pub open_refused : {R : Type 0} (p : Place) (w : World) (n : Node) (id : StateId) (gate : Gate) (status : ℕ) (next : Open → Outcome (Answer R)) →
    where_open p w n id (λ o. passed p) ≡ refuse p gate status → where_open p w n id next ≡ refuse p gate status
open_refused p w n id gate status next =
    demand_alike p gate status ((handle_named id.other).level == p.subject) (gates.Monitor M9) NFS4ERR_BAD_STATEID _ _
    (there_alike p gate status (open_at p w n (handle_named id.other)) _ _ gates.Open NFS4ERR_BAD_STATEID (λ o.
    demand_alike p gate status (nat_le id.seqid o.sequence) gates.Open NFS4ERR_BAD_STATEID _ _ (
    demand_alike p gate status (id.seqid == 0 || id.seqid == o.sequence) gates.Open NFS4ERR_OLD_STATEID _ _
    (done_refuses p gate status (next o)))))

-- ---- what is found in a state is found

pub named_in_state : (sequence : ℕ) (found : Option Open) (o : Open) → Ok o ≡ at_sequence sequence found → found ≡ Some o
named_in_state sequence None o is = absurd (cc)
named_in_state sequence (Some x) o is = by (nat_le sequence x.sequence) (sequence == 0 || sequence == x.sequence) is
  where
    by : (a b : Bool) → Ok o ≡ (if a then (if b then Ok x else Err Old) else Err Bad) → Some x ≡ Some o
    by true true e = cc
    by true false e = absurd (cc)
    by false b e = absurd (cc)

-- the same open, by what the code has of its client, its node and itself
pub named_there : (opens all : List Open) (a client b node i own : Id) (row : OpenRow) → opens ≡ all → a ≡ client → b ≡ node → i ≡ own →
    open_named opens a b i ≡ Some (row_of i row) → open_named all client node own ≡ Some (row_of own row)
named_there opens all a client b node i own row same is at named found =
    let there : open_named opens a b i ≡ open_named all client node own = (λ t. open_named (same t) (is t) (at t) (named t)) in
    sym there ∙ found ∙ ap (λ (j : Id). Some (row_of j row)) named

-- ---- a state id with a meaning of its own

pub has_meaning : (m : Option Special) (x : Option operation.Special) → option_map special_of m ≡ x → is_some m ≡ true → not (is_some x) ≡ false
has_meaning m x e some = ap (λ (y : Option operation.Special). not (is_some y)) (sym e) ∙ at m some
  where
    at : (m : Option Special) → is_some m ≡ true → not (is_some (option_map special_of m)) ≡ false
    at None some = absurd (cc)
    at (Some s) some = refl

-- ---- a refusal that `?` hands on

pub err_finds : (p : Place) (w : World) (n : Node) (id : StateId) (r : Result Opened Refusal) (why : Refusal) → IsErrAnd r (λ e. e ≡ why) →
    ((next : Open → Outcome (Answer Came)) → where_opening p w n id next ≡ refuse p why.gate why.status) → FindsOpen p w n id r
err_finds p w n id (Ok x) why is refuses = absurd is
err_finds p w n id (Err e) why is refuses = λ next. refuses next ∙ ap (λ (x : Refusal). refuse p x.gate x.status) (sym is)
