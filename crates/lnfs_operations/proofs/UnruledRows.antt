-- Where labels are carried alone no rule of labels but M9 refuses an operation in a COMPOUND.
use Rattle.std.proofs.Common.{◌≡◌, ℕ, Bool, true, false, cond, List, Option, Some, None, refl}
use Rattle.std.specs.Prelude.{if◌then◌else◌}
use Rattle.lnfs_calipso.specs.Label.{IsPreorderWithBottom}
use Rattle.lnfs_arguments.specs.declared.types.Op.{Op}
use Rattle.lnfs_arguments.specs.declared.types.Op.TheVariants as ops
use Rattle.lnfs_arguments.specs.declared.types.Compound.{Compound}
use Rattle.lnfs_arguments.specs.declared.types.CreateSession.{CreateSession}
use Rattle.lnfs_arguments.specs.declared.types.Sequence.{Sequence}
use Rattle.lnfs_arguments.specs.Further.{Further}
use Rattle.lnfs_arguments.specs.declared.statuses.TheConstants.{NFS4ERR_OP_NOT_IN_SESSION, NFS4ERR_NOT_ONLY_OP, NFS4ERR_SEQUENCE_POS}
use Rattle.lnfs_results.specs.declared.types.OpResult.{OpResult}
use Rattle.lnfs_world.specs.World.{World}
use Rattle.lnfs_world.specs.Outcome.{Site, Place, Outcome, Stands}
use Rattle.lnfs_world.specs.Lawful.{Turn, Deed, deed_of}
use Rattle.lnfs_world.specs.Both.{Both, BothStand, on_world}
use Rattle.lnfs_operations.specs.declared.Gate.{Gate}
use Rattle.lnfs_operations.specs.declared.Gate.TheVariants as gates
use Rattle.lnfs_operations.specs.Admission.{is_first, is_alone, unless, place_refusal, room_refusal, or_else, admission}
use Rattle.lnfs_operations.specs.Carried.{CarriesAlone, StandsLow, FurtherCarry, is_rule, NoRule, NoRuleIn}
use Rattle.lnfs_operations.specs.Chain.{Answer, Done, Refused, Refusal}
use Rattle.lnfs_operations.specs.CreateSession.{Created, New as Made, Again as MadeBefore, create_session}
use Rattle.lnfs_operations.specs.Extra.{Extra, further_deed}
use Rattle.lnfs_operations.specs.Sequence.{Sent, Sequenced, New, Again, sequence}
use Rattle.lnfs_operations.specs.Served.{Keeper, Reply, Own, Kept, created_reply, sequence_reply, under, created_keeper, reply_of, row, further_reply, row_in, admitted, operation}
use Rattle.lnfs_operations.proofs.Unruled.{IsFree, Free, exchange_id_free, destroy_session_free, destroy_clientid_free, reclaim_complete_free, sequence_free, create_session_free, put_fh_free, get_fh_free, save_fh_free, restore_fh_free, lookup_free, lookup_parent_free, get_attr_free, verify_free, nverify_free, access_free, read_link_free, link_free, remove_free, create_free, rename_free, read_dir_free, close_free, commit_free, read_free, write_free, set_attr_free, open_free}

-- ---- what an operation answers

replied_free : {R : Type 0} (op : Op) (reply : R → Reply) → ((r : R) → NoRuleIn (reply r)) → (o : Outcome (Answer R)) → Free o → NoRuleIn (reply_of op reply o.answer)
replied_free {R} op reply done o free = at o.answer free.is
  where
    at : (a : Answer R) → IsFree a → NoRuleIn (reply_of op reply a)
    at (Done r) is = done r
    at (Refused why) is = is

created_free : (level : ℕ) (args : CreateSession) (r : Created) → NoRuleIn (created_reply level args r)
created_free level args (Made session granted) = tt
created_free level args (MadeBefore reply) = tt

sequenced_free : (args : Sequence) (r : Sequenced) → NoRuleIn (sequence_reply args r)
sequenced_free args (New x) = tt
sequenced_free args (Again reply) = tt

under_free : (keeper : Keeper) (x : Reply) → NoRuleIn x → NoRuleIn (under keeper x)
under_free keeper (Own own other) is = is
under_free keeper (Kept reply) is = tt

-- ---- place and room

unless_free : (test : Bool) (gate : Gate) (status : ℕ) → is_rule gate ≡ false → NoRule (unless test gate status)
unless_free true gate status is = tt
unless_free false gate status is = is

else_free : (a b : Option Refusal) → NoRule a → NoRule b → NoRule (or_else a b)
else_free None b x y = y
else_free (Some why) b x y = x

behind_free : (first : Bool) → NoRule (if first then Some (record { gate = gates.Session; status = NFS4ERR_OP_NOT_IN_SESSION }) else None)
behind_free true = refl
behind_free false = tt

place_free : (c : Compound) (so_far : List OpResult) (op : Op) → NoRule (place_refusal c so_far op)
place_free c so_far (ops.Sequence args) = unless_free (is_first so_far) gates.Session NFS4ERR_SEQUENCE_POS refl
place_free c so_far (ops.ExchangeId verifier owner flags implementation) = unless_free (is_alone c so_far) gates.Session NFS4ERR_NOT_ONLY_OP refl
place_free c so_far (ops.CreateSession args) = unless_free (is_alone c so_far) gates.Session NFS4ERR_NOT_ONLY_OP refl
place_free c so_far (ops.DestroySession session) = unless_free (is_alone c so_far) gates.Session NFS4ERR_NOT_ONLY_OP refl
place_free c so_far (ops.DestroyClientId client) = unless_free (is_alone c so_far) gates.Session NFS4ERR_NOT_ONLY_OP refl
place_free c so_far (ops.Outside number status) = tt
place_free c so_far op = behind_free (is_first so_far)

room_free : (x : Further) (c : Compound) (so_far : List OpResult) (op : Op) (p : Place) (w : World) → NoRule (room_refusal x c so_far op p w)
room_free x c so_far op p w = search unless_free

admission_free : (x : Further) (c : Compound) (so_far : List OpResult) (op : Op) (p : Place) (w : World) → NoRule (admission x c so_far op p w)
admission_free x c so_far op p w = else_free (place_refusal c so_far op) (room_refusal x c so_far op p w) (place_free c so_far op) (room_free x c so_far op p w)

admitted_free : {S : Type 0} (op : Op) (p : Place) (a : S) (o : Option Refusal) (t : Turn Reply S) → NoRule o → NoRuleIn t.answer → NoRuleIn (admitted op p a o t).answer
admitted_free op p a None t may is = is
admitted_free op p a (Some why) t may is = may

-- ---- an operation of the table

module _ (site : Site) (lattice : IsPreorderWithBottom site.dom) (alone : CarriesAlone site) (sent : Sent) where
  module _ (p : Place) (w : World) (stands : Stands site.dom p w) (low : StandsLow p w) where
    row_free : (op : Op) → NoRuleIn (row site sent op p w).answer
    row_free (ops.ExchangeId verifier owner flags implementation) = replied_free (ops.ExchangeId verifier owner flags implementation) _ (λ r. tt) _ (exchange_id_free site lattice alone p w stands low (record { verifier = verifier; owner = owner; flags = flags }))
    row_free (ops.CreateSession args) =
        under_free (created_keeper args p w) (reply_of (ops.CreateSession args) (created_reply p.subject args) (create_session args sent.arguments p w).answer)
        (replied_free (ops.CreateSession args) (created_reply p.subject args) (created_free p.subject args) (create_session args sent.arguments p w) (create_session_free site lattice alone p w stands low args sent.arguments))
    row_free (ops.DestroySession session) = replied_free (ops.DestroySession session) _ (λ r. tt) _ (destroy_session_free site lattice alone p w stands low session)
    row_free (ops.Sequence args) = replied_free (ops.Sequence args) (sequence_reply args) (sequenced_free args) (sequence args sent p w) (sequence_free site lattice alone p w stands low args sent)
    row_free (ops.DestroyClientId client) = replied_free (ops.DestroyClientId client) _ (λ r. tt) _ (destroy_clientid_free site lattice alone p w stands low client)
    row_free (ops.ReclaimComplete one_fs) = replied_free (ops.ReclaimComplete one_fs) _ (λ r. tt) _ (reclaim_complete_free site lattice alone p w stands low one_fs)
    row_free (ops.PutFh handle) = replied_free (ops.PutFh handle) _ (λ r. tt) _ (put_fh_free site lattice alone p w stands low handle)
    row_free ops.PutRootFh = tt
    row_free ops.GetFh = replied_free ops.GetFh _ (λ r. tt) _ (get_fh_free site lattice alone p w stands low)
    row_free ops.SaveFh = replied_free ops.SaveFh _ (λ r. tt) _ (save_fh_free site lattice alone p w stands low)
    row_free ops.RestoreFh = replied_free ops.RestoreFh _ (λ r. tt) _ (restore_fh_free site lattice alone p w stands low)
    row_free (ops.Lookup name) = replied_free (ops.Lookup name) _ (λ r. tt) _ (lookup_free site lattice alone p w stands low name)
    row_free ops.LookupP = replied_free ops.LookupP _ (λ r. tt) _ (lookup_parent_free site lattice alone p w stands low)
    row_free (ops.GetAttr asked) = replied_free (ops.GetAttr asked) _ (λ r. tt) _ (get_attr_free site lattice alone p w stands low asked)
    row_free (ops.Verify given) = replied_free (ops.Verify given) _ (λ r. tt) _ (verify_free site lattice alone p w stands low given)
    row_free (ops.NVerify given) = replied_free (ops.NVerify given) _ (λ r. tt) _ (nverify_free site lattice alone p w stands low given)
    row_free (ops.Access bits) = replied_free (ops.Access bits) _ (λ r. tt) _ (access_free site lattice alone p w stands low bits)
    row_free (ops.ReadDir cookie verifier dircount maxcount asked) = replied_free (ops.ReadDir cookie verifier dircount maxcount asked) _ (λ r. tt) _ (read_dir_free site lattice alone p w stands low (record { cookie = cookie; maxcount = maxcount; asked = asked }))
    row_free ops.ReadLink = replied_free ops.ReadLink _ (λ r. tt) _ (read_link_free site lattice alone p w stands low)
    row_free (ops.Create what name given) = replied_free (ops.Create what name given) _ (λ r. tt) _ (create_free site lattice alone p w stands low what name given)
    row_free (ops.Link name) = replied_free (ops.Link name) _ (λ r. tt) _ (link_free site lattice alone p w stands low name)
    row_free (ops.Remove name) = replied_free (ops.Remove name) _ (λ r. tt) _ (remove_free site lattice alone p w stands low name)
    row_free (ops.Rename old new) = replied_free (ops.Rename old new) _ (λ r. tt) _ (rename_free site lattice alone p w stands low old new)
    row_free (ops.SetAttr id given) = replied_free (ops.SetAttr id given) _ (λ r. tt) _ (set_attr_free site lattice alone p w stands low id given)
    row_free (ops.Open seqid access deny client owner making claim) =
        replied_free (ops.Open seqid access deny client owner making claim) _ (λ r. tt) _ (open_free site lattice alone p w stands low (record { access = access; deny = deny; owner = owner; making = making; claim = claim }))
    row_free (ops.Close seqid id) = replied_free (ops.Close seqid id) _ (λ r. tt) _ (close_free site lattice alone p w stands low id)
    row_free (ops.Read id offset count) = replied_free (ops.Read id offset count) _ (λ r. tt) _ (read_free site lattice alone p w stands low (record { id = id; offset = offset; count = count }))
    row_free (ops.Write id offset stable content) = replied_free (ops.Write id offset stable content) _ (λ r. tt) _ (write_free site lattice alone p w stands low (record { id = id; offset = offset; stable = stable; content = content }))
    row_free (ops.Commit offset count) = replied_free (ops.Commit offset count) _ (λ r. tt) _ (commit_free site lattice alone p w stands low)
    row_free (ops.Outside number status) = refl
    row_free (ops.Extra number arguments) = refl

  -- ---- an operation of a COMPOUND

  module _ (X : Extra) (further : FurtherCarry X) (c : Compound) (p : Place) (b : Both X.Row) (stands : BothStand X.Fact site.dom p b) (low : StandsLow p b.world) where
    chosen_free : (serves : Bool) (x y : Deed Reply (Both X.Row)) → NoRuleIn (x p b).answer → NoRuleIn (y p b).answer → NoRuleIn (cond serves x y p b).answer
    chosen_free true x y r t = r
    chosen_free false x y r t = t

    row_in_free : (op : Op) → NoRuleIn (row_in X site sent op p b).answer
    row_in_free (ops.Extra number arguments) =
        chosen_free (X.grammar.serves number) (further_reply number (further_deed X site number arguments)) (on_world (deed_of (row site sent (ops.Extra number arguments)))) (further.rule site lattice alone number arguments p b stands low) refl
    row_in_free op = row_free p b.world stands.world low op

    pub operation_free : (so_far : List OpResult) (op : Op) → NoRuleIn (operation X site sent c so_far op p b).answer
    operation_free so_far op = admitted_free op p b (admission X.grammar c so_far op p b.world) (row_in X site sent op p b) (admission_free X.grammar c so_far op p b.world) (row_in_free op)
