-- The line of a COMPOUND bears the status with which it ended, and names the operation that has the last result.
use Rattle.std.proofs.Common.{◌≡◌, ◌≢◌, ◌⊎◌, not, ◌&&◌, ℕ, suc, ◌+◌, Bool, true, false, cond, List, [], ◌∷◌, ◌++◌, length, Option, Some, None, refl, sym, ap, ◌∙◌, subst, arith, inl, inr, length-append}
use Rattle.std.specs.Prelude.{◌==◌, nat_le, nat_lt, slice_get, if◌then◌else◌}
use Rattle.std.specs.Option.{option_map}
use Rattle.std.specs.List.{AllByRecursion}
use Rattle.std.specs.Str.{bytes_eq}
use Rattle.std.proofs.lemmas.Bool.Decides.{nat_tests}
use Rattle.lnfs_arguments.specs.declared.types.Op.{Op}
use Rattle.lnfs_arguments.specs.declared.types.Op.TheVariants as ops
use Rattle.lnfs_arguments.specs.declared.types.Compound.{Compound}
use Rattle.lnfs_arguments.specs.declared.types.CreateSession.{CreateSession}
use Rattle.lnfs_arguments.specs.declared.types.Sequence.{Sequence}
use Rattle.lnfs_arguments.specs.declared.statuses.TheConstants.{NFS4ERR_MINOR_VERS_MISMATCH, NFS4ERR_SEQ_FALSE_RETRY, NFS4ERR_SEQ_MISORDERED, NFS4ERR_OP_NOT_IN_SESSION, NFS4ERR_SEQUENCE_POS, NFS4ERR_NOT_ONLY_OP, NFS4ERR_NOTSUPP}
use Rattle.lnfs_arguments.specs.Numbered.{number_of}
use Rattle.lnfs_results.specs.declared.types.OpResult.{OpResult}
use Rattle.lnfs_results.specs.declared.types.Results.{Results}
use Rattle.lnfs_results.specs.Numbered.{status_of, status_of_all}
use Rattle.lnfs_results.specs.Texts.{results_text}
use Rattle.lnfs_results.proofs.Numbered.{last_status}
use Rattle.lnfs_world.specs.World.{Id, Kept as Stored, Client, Slot as SlotRow, Session, World, client_at, session_at, last_of}
use Rattle.lnfs_world.specs.Change.{apply_all}
use Rattle.lnfs_world.specs.Outcome.{Site, Place, Outcome}
use Rattle.lnfs_world.specs.Lawful.{Turn, deed_of}
use Rattle.lnfs_world.specs.Both.{Both, both, BothStand, on_world}
use Rattle.lnfs_world.specs.declared.numbers.TheConstants.{LAST_NUMBER}
use Rattle.lnfs_world.proofs.Keys.{bytes_same}
use Rattle.lnfs_operations.specs.declared.Gate.{Gate}
use Rattle.lnfs_operations.specs.declared.Gate.TheVariants as gates
use Rattle.lnfs_operations.specs.declared.numbers.TheConstants.{SESSIONS_OF_A_LEVEL}
use Rattle.lnfs_operations.specs.Chain.{Answer as Answered, Refusal, Done, Refused, refuse, done, demand, where_there}
use Rattle.lnfs_operations.specs.CreateSession.{Created, New as Made, Again as MadeBefore, is_large_enough, sessions_of, made, create_session}
use Rattle.lnfs_operations.specs.Extra.{Extra, Said, AreLawful, IsRefused, further_deed}
use Rattle.lnfs_operations.specs.Identifiers.{client_named, session_named, session_under}
use Rattle.lnfs_operations.specs.InOrder.{sequence_before, in_order}
use Rattle.lnfs_operations.specs.Keeping.{next_sequence}
use Rattle.lnfs_operations.specs.Results.{Denial, failed}
use Rattle.lnfs_operations.specs.Sequence.{Sent, Sequenced, New, Again, begun_in, sequence}
use Rattle.lnfs_operations.specs.Admission.{is_first, is_alone, unless, place_refusal, room_refusal, or_else, admission}
use Rattle.lnfs_operations.specs.Served.{Keeper, Nowhere, success, plainly, told_reply, opened_reply, zeros, Slot, Record, Reply, Own, Kept, created_keeper, created_reply, sequence_reply, reply_of, under, said_reply, further_reply, row, row_in, admitted, operation}
use Rattle.lnfs_operations.specs.SlotRule.{Ran, Answer, kept_by, own_reply, followed, run_behind, run_all, result_of, kept_after, served}
use Rattle.lnfs_results.specs.declared.types.OpResult.TheVariants as results
use Rattle.lnfs_operations.specs.ExchangeId.{exchange_id}
use Rattle.lnfs_operations.specs.DestroySession.{destroy_session}
use Rattle.lnfs_operations.specs.DestroyClientId.{destroy_clientid}
use Rattle.lnfs_operations.specs.ReclaimComplete.{reclaim_complete}
use Rattle.lnfs_operations.specs.FileHandles.{put_fh, put_root_fh, get_fh, save_fh, restore_fh}
use Rattle.lnfs_operations.specs.Lookup.{lookup, lookup_parent}
use Rattle.lnfs_operations.specs.GetAttr.{get_attr, verify, nverify}
use Rattle.lnfs_operations.specs.Access.{access}
use Rattle.lnfs_operations.specs.ReadDir.{read_dir}
use Rattle.lnfs_operations.specs.ReadLink.{read_link}
use Rattle.lnfs_operations.specs.Create.{create}
use Rattle.lnfs_operations.specs.Link.{link}
use Rattle.lnfs_operations.specs.Remove.{remove}
use Rattle.lnfs_operations.specs.Rename.{rename}
use Rattle.lnfs_operations.specs.SetAttr.{set_attr}
use Rattle.lnfs_operations.specs.Open.{open_file}
use Rattle.lnfs_operations.specs.Close.{closed, close}
use Rattle.lnfs_operations.specs.Read.{read}
use Rattle.lnfs_operations.specs.Write.{write, commit}
use Rattle.lnfs_operations.specs.declared.numbers.TheConstants.{FILE_SYNC4}
use Rattle.lnfs_operations.proofs.Chains.{demand_any, where_any}
use Rattle.lnfs_operations.proofs.SessionLaws.{session_under-at}
use Rattle.lnfs_step.specs.Step.{line_of}
use Rattle.lnfs_step.specs.Lines.{is_denied_by, Tells}
use Rattle.lnfs_calipso.specs.Label.{IsPreorderWithBottom}
use Rattle.lnfs_arguments.specs.Further.{Further}
use Rattle.lnfs_operations.proofs.ServedLaws.{operation_lawful}
use Rattle.lnfs_step.proofs.Denials.{OutsideIs, is_denial, IsDenial, exchange_id_denies, destroy_session_denies, destroy_clientid_denies, reclaim_complete_denies, put_fh_denies, get_fh_denies, save_fh_denies, restore_fh_denies, lookup_denies, lookup_parent_denies, get_attr_denies, verify_denies, nverify_denies, access_denies, read_link_denies, link_denies, remove_denies, commit_denies, sequence_denies, create_session_denies, close_denies, read_denies, write_denies, create_denies, read_dir_denies, rename_denies, set_attr_denies, open_denies}

-- ---- refusals

-- One has a status other than 0, and of an operation of the table the status that its gate has.
abbrev pub IsRefusal : Extra → Op → Refusal → Type 0
IsRefusal X op why = (why.status ≢ 0) × (X.grammar.serves (number_of op) ≡ false → is_denied_by why.gate why.status ≡ true)

both_true : (a b : Bool) → (a && b) ≡ true → (a ≡ true) × (b ≡ true)
both_true true b is = (refl, is)
both_true false b is = absurd (grind arith)

refusal_of : (X : Extra) (op : Op) (why : Refusal) → is_denial why.gate why.status ≡ true → IsRefusal X op why
refusal_of X op why is =
    let parts = both_true (not (why.status == 0)) (is_denied_by why.gate why.status) is in
    (grind (arith, nat_tests, parts.0), λ served. parts.1)

abbrev MayRefuse : Option Refusal → Type 0
MayRefuse None = Unit {0}
MayRefuse (Some why) = is_denial why.gate why.status ≡ true

unless_refuses : (test : Bool) (gate : Gate) (status : ℕ) → is_denial gate status ≡ true → MayRefuse (unless test gate status)
unless_refuses true gate status is = tt
unless_refuses false gate status is = is

else_refuses : (a b : Option Refusal) → MayRefuse a → MayRefuse b → MayRefuse (or_else a b)
else_refuses None b x y = y
else_refuses (Some why) b x y = x

behind_refuses : (first : Bool) → MayRefuse (if first then Some (record { gate = gates.Session; status = NFS4ERR_OP_NOT_IN_SESSION }) else None)
behind_refuses true = refl
behind_refuses false = tt

place_refuses : (c : Compound) (so_far : List OpResult) (op : Op) → MayRefuse (place_refusal c so_far op)
place_refuses c so_far (ops.Sequence args) = unless_refuses (is_first so_far) gates.Session NFS4ERR_SEQUENCE_POS refl
place_refuses c so_far (ops.ExchangeId verifier owner flags implementation) = unless_refuses (is_alone c so_far) gates.Session NFS4ERR_NOT_ONLY_OP refl
place_refuses c so_far (ops.CreateSession args) = unless_refuses (is_alone c so_far) gates.Session NFS4ERR_NOT_ONLY_OP refl
place_refuses c so_far (ops.DestroySession session) = unless_refuses (is_alone c so_far) gates.Session NFS4ERR_NOT_ONLY_OP refl
place_refuses c so_far (ops.DestroyClientId client) = unless_refuses (is_alone c so_far) gates.Session NFS4ERR_NOT_ONLY_OP refl
place_refuses c so_far (ops.Outside number status) = tt
place_refuses c so_far op = behind_refuses (is_first so_far)

room_refuses : (x : Further) (c : Compound) (so_far : List OpResult) (op : Op) (p : Place) (w : World) → MayRefuse (room_refusal x c so_far op p w)
room_refuses x c so_far op p w = search unless_refuses

admission_refuses : (x : Further) (c : Compound) (so_far : List OpResult) (op : Op) (p : Place) (w : World) → MayRefuse (admission x c so_far op p w)
admission_refuses x c so_far op p w = else_refuses (place_refusal c so_far op) (room_refusal x c so_far op p w) (place_refuses c so_far op) (room_refuses x c so_far op p w)

-- ---- one operation

-- A success has status 0, and the result of a refusal its status.
abbrev pub StatusBy : Extra → Op → OpResult → Option Refusal → Type 0
StatusBy X op result None = status_of result ≡ 0
StatusBy X op result (Some why) = (status_of result ≡ why.status) × IsRefusal X op why

-- so of a result of its own; something else of one that was kept
abbrev pub StatusIs : Extra → Op → (K : List ℕ → Type 0) → Reply → Type 0
StatusIs X op K (Own own keeper) = StatusBy X op own.result own.refusal
StatusIs X op K (Kept reply) = K reply

failed_status : (op : Op) (status : ℕ) → status_of (failed op status) ≡ status
failed_status (ops.SetAttr id attrs) status = refl
failed_status op status = refl

replied_status : {R : Type 0} (X : Extra) (K : List ℕ → Type 0) (op : Op) (reply : R → Reply) → ((r : R) → StatusIs X op K (reply r)) → (a : Answered R) → IsDenial a → StatusIs X op K (reply_of op reply a)
replied_status X K op reply done (Done r) is = done r
replied_status X K op reply done (Refused why) is = (failed_status op why.status, refusal_of X op why is)

-- what is kept and given again, by the turn that it comes with
admitted_status : {S : Type 0} (X : Extra) (K : List ℕ → Turn Reply S → Type 0) (op : Op) (p : Place) (a : S) (o : Option Refusal) (t : Turn Reply S) → MayRefuse o → StatusIs X op (λ reply. K reply t) t.answer → StatusIs X op (λ reply. K reply (admitted op p a o t)) (admitted op p a o t).answer
admitted_status X K op p a None t may is = is
admitted_status X K op p a (Some why) t may is = (failed_status op why.status, refusal_of X op why may)

abbrev Never : List ℕ → Type 0
Never reply = ⊥

-- whether an operation may give again what was kept
abbrev is_kept : Op → Bool
is_kept (ops.Sequence args) = true
is_kept (ops.CreateSession args) = true
is_kept op = false

module _ (X : Extra) (site : Site) (sent : Sent) (p : Place) (w : World) where
  row_status : (op : Op) → OutsideIs op → is_kept op ≡ false → StatusIs X op Never (row site sent op p w).answer
  row_status (ops.ExchangeId verifier owner flags implementation) outside is = replied_status X Never (ops.ExchangeId verifier owner flags implementation) (told_reply p.subject) (λ r. refl) (exchange_id (record { verifier = verifier; owner = owner; flags = flags }) p w).answer (exchange_id_denies (record { verifier = verifier; owner = owner; flags = flags }) p w).is
  row_status (ops.DestroySession session) outside is = replied_status X Never (ops.DestroySession session) (λ _. success results.DestroySession Nowhere) (λ r. refl) (destroy_session session p w).answer (destroy_session_denies session p w).is
  row_status (ops.DestroyClientId client) outside is = replied_status X Never (ops.DestroyClientId client) (λ _. success results.DestroyClientId Nowhere) (λ r. refl) (destroy_clientid client p w).answer (destroy_clientid_denies client p w).is
  row_status (ops.ReclaimComplete one_fs) outside is = replied_status X Never (ops.ReclaimComplete one_fs) (λ _. success results.ReclaimComplete Nowhere) (λ r. refl) (reclaim_complete one_fs p w).answer (reclaim_complete_denies one_fs p w).is
  row_status (ops.PutFh handle) outside is = replied_status X Never (ops.PutFh handle) (plainly results.PutFh) (λ r. refl) (put_fh site handle p w).answer (put_fh_denies site handle p w).is
  row_status ops.PutRootFh outside is = replied_status X Never ops.PutRootFh (plainly results.PutRootFh) (λ r. refl) (put_root_fh p w).answer tt
  row_status ops.GetFh outside is = replied_status X Never ops.GetFh (λ handle. success (results.GetFh handle) Nowhere) (λ r. refl) (get_fh p w).answer (get_fh_denies p w).is
  row_status ops.SaveFh outside is = replied_status X Never ops.SaveFh (plainly results.SaveFh) (λ r. refl) (save_fh p w).answer (save_fh_denies p w).is
  row_status ops.RestoreFh outside is = replied_status X Never ops.RestoreFh (plainly results.RestoreFh) (λ r. refl) (restore_fh p w).answer (restore_fh_denies p w).is
  row_status (ops.Lookup name) outside is = replied_status X Never (ops.Lookup name) (plainly results.Lookup) (λ r. refl) (lookup site name p w).answer (lookup_denies site name p w).is
  row_status ops.LookupP outside is = replied_status X Never ops.LookupP (plainly results.LookupP) (λ r. refl) (lookup_parent site p w).answer (lookup_parent_denies site p w).is
  row_status (ops.GetAttr asked) outside is = replied_status X Never (ops.GetAttr asked) (λ given. success (results.GetAttr given) Nowhere) (λ r. refl) (get_attr site asked p w).answer (get_attr_denies site asked p w).is
  row_status (ops.Verify given) outside is = replied_status X Never (ops.Verify given) (plainly results.Verify) (λ r. refl) (verify site given p w).answer (verify_denies site given p w).is
  row_status (ops.NVerify given) outside is = replied_status X Never (ops.NVerify given) (plainly results.NVerify) (λ r. refl) (nverify site given p w).answer (nverify_denies site given p w).is
  row_status (ops.Access bits) outside is = replied_status X Never (ops.Access bits) (λ told. success (results.Access told.supported told.granted) Nowhere) (λ r. refl) (access site bits p w).answer (access_denies site bits p w).is
  row_status (ops.ReadDir cookie verifier dircount maxcount asked) outside is = replied_status X Never (ops.ReadDir cookie verifier dircount maxcount asked) (λ found. success (results.ReadDir (zeros 8) found.entries found.eof) Nowhere) (λ r. refl) (read_dir site (record { cookie = cookie; maxcount = maxcount; asked = asked }) p w).answer (read_dir_denies site (record { cookie = cookie; maxcount = maxcount; asked = asked }) p w).is
  row_status ops.ReadLink outside is = replied_status X Never ops.ReadLink (λ text. success (results.ReadLink text) Nowhere) (λ r. refl) (read_link site p w).answer (read_link_denies site p w).is
  row_status (ops.Create what name given) outside is = replied_status X Never (ops.Create what name given) (λ made. success (results.Create made.info made.set) Nowhere) (λ r. refl) (create site what name given p w).answer (create_denies site what name given p w).is
  row_status (ops.Link name) outside is = replied_status X Never (ops.Link name) (λ info. success (results.Link info) Nowhere) (λ r. refl) (link site name p w).answer (link_denies site name p w).is
  row_status (ops.Remove name) outside is = replied_status X Never (ops.Remove name) (λ info. success (results.Remove info) Nowhere) (λ r. refl) (remove site name p w).answer (remove_denies site name p w).is
  row_status (ops.Rename old new) outside is = replied_status X Never (ops.Rename old new) (λ renamed. success (results.Rename renamed.source renamed.target) Nowhere) (λ r. refl) (rename site old new p w).answer (rename_denies site old new p w).is
  row_status (ops.SetAttr id given) outside is = replied_status X Never (ops.SetAttr id given) (λ set. success (results.SetAttr 0 set) Nowhere) (λ r. refl) (set_attr site id given p w).answer (set_attr_denies site id given p w).is
  row_status (ops.Open seqid access deny client owner making claim) outside is = replied_status X Never (ops.Open seqid access deny client owner making claim) opened_reply (λ r. refl) (open_file site (record { access = access; deny = deny; owner = owner; making = making; claim = claim }) p w).answer (open_denies site (record { access = access; deny = deny; owner = owner; making = making; claim = claim }) p w).is
  row_status (ops.Close seqid id) outside is = replied_status X Never (ops.Close seqid id) (plainly (results.Close closed)) (λ r. refl) (close id p w).answer (close_denies id p w).is
  row_status (ops.Read id offset count) outside is = replied_status X Never (ops.Read id offset count) (λ found. success (results.Read found.eof found.content) Nowhere) (λ r. refl) (read site (record { id = id; offset = offset; count = count }) p w).answer (read_denies site (record { id = id; offset = offset; count = count }) p w).is
  row_status (ops.Write id offset stable content) outside is = replied_status X Never (ops.Write id offset stable content) (λ many. success (results.Write many FILE_SYNC4 (zeros 8)) Nowhere) (λ r. refl) (write site (record { id = id; offset = offset; stable = stable; content = content }) p w).answer (write_denies site (record { id = id; offset = offset; stable = stable; content = content }) p w).is
  row_status (ops.Commit offset count) outside is = replied_status X Never (ops.Commit offset count) (plainly (results.Commit (zeros 8))) (λ r. refl) (commit site p w).answer (commit_denies site p w).is
  row_status (ops.Outside number status) outside is = (refl, refusal_of X (ops.Outside number status) (record { gate = gates.Outside; status = status }) outside)
  row_status (ops.Extra number arguments) outside is = (refl, refusal_of X (ops.Extra number arguments) (record { gate = gates.Outside; status = NFS4ERR_NOTSUPP }) refl)
  row_status op outside is = absurd (grind arith)

module _ (X : Extra) (owed : AreLawful X) (site : Site) (lattice : IsPreorderWithBottom site.dom) (sent : Sent) (c : Compound) where
  said_status : (number : ℕ) (arguments : List ℕ) (p : Place) (b : Both X.Row) (said : Said) (o : Option Refusal) → said.refusal ≡ o → X.grammar.serves number ≡ true → IsRefused p b (further_deed X site number arguments p b) o → StatusIs X (ops.Extra number arguments) Never (said_reply number said)
  said_status number arguments p b said None is serves refused = rw is refl
  said_status number arguments p b said (Some why) is serves refused = rw is (refl, (refused.0, λ not. absurd (grind (arith, serves, not))))

  extra_status : (serves : Bool) (number : ℕ) (arguments : List ℕ) (p : Place) (b : Both X.Row) → BothStand X.Fact site.dom p b → X.grammar.serves number ≡ serves → StatusIs X (ops.Extra number arguments) Never (cond serves (further_reply number (further_deed X site number arguments)) (on_world (deed_of (row site sent (ops.Extra number arguments)))) p b).answer
  extra_status true number arguments p b stands is =
      let said = (further_deed X site number arguments p b).answer in
      said_status number arguments p b said said.refusal refl is (owed.tame site lattice number arguments p b stands).refused
  extra_status false number arguments p b stands is = row_status X site sent p b.world (ops.Extra number arguments) tt refl

  row_in_status : (op : Op) (p : Place) (b : Both X.Row) → BothStand X.Fact site.dom p b → OutsideIs op → is_kept op ≡ false → StatusIs X op Never (row_in X site sent op p b).answer
  row_in_status (ops.Extra number arguments) p b stands outside is = extra_status (X.grammar.serves number) number arguments p b stands refl
  row_in_status op p b stands outside is = row_status X site sent p b.world op outside is

  -- behind another one nothing is given again
  behind_status : (r : OpResult) (rs : List OpResult) (op : Op) (p : Place) (b : Both X.Row) → BothStand X.Fact site.dom p b → OutsideIs op → StatusIs X op Never (operation X site sent c (r ∷ rs) op p b).answer
  behind_status r rs (ops.Sequence args) p b stands outside = (refl, refusal_of X (ops.Sequence args) (record { gate = gates.Session; status = NFS4ERR_SEQUENCE_POS }) refl)
  behind_status r rs (ops.CreateSession args) p b stands outside = (refl, refusal_of X (ops.CreateSession args) (record { gate = gates.Session; status = NFS4ERR_NOT_ONLY_OP }) refl)
  behind_status r rs op p b stands outside =
      admitted_status X (λ reply t. ⊥) op p b (admission X.grammar c (r ∷ rs) op p b.world) (row_in X site sent op p b) (admission_refuses X.grammar c (r ∷ rs) op p b.world) (row_in_status op p b stands outside refl)

-- ---- the run

-- What is denied of these operations, behind so many results.
abbrev pub Denied : Extra → List Op → ℕ → List OpResult → Option Denial → Type 0
Denied X os n results None = status_of_all results ≡ 0
Denied X os n results (Some d) =
    (d.status ≡ status_of_all results) × (d.place ≡ length results) × ((k : ℕ) × (op : Op) × (d.place ≡ n + k + 1) × (slice_get os k ≡ Some op) × (d.number ≡ number_of op))
    × (d.status ≢ 0) × (X.grammar.serves d.number ≡ false → is_denied_by d.gate d.status ≡ true)

-- a run that gives nothing again
pub record Walked {S : Type 0} (X : Extra) (os : List Op) (n : ℕ) (r : Ran S) : Type 0 where
  pub again : r.again ≡ None
  pub told : Denied X os n r.results r.denial

kept_walked : {S : Type 0} (X : Extra) (os : List Op) (n : ℕ) (keeper : Keeper) (r : Ran S) → Walked X os n r → Walked X os n (kept_by keeper r)
kept_walked X os n Nowhere r w = w
kept_walked X os n (Slot slot sequence) r w = record { again = w.again; told = w.told }
kept_walked X os n (Record client) r w = record { again = w.again; told = w.told }

denied_behind : (X : Extra) (op : Op) (os : List Op) (n : ℕ) (results : List OpResult) (o : Option Denial) → Denied X os (n + 1) results o → Denied X (op ∷ os) n results o
denied_behind X op os n results None t = t
denied_behind X op os n results (Some d) t = (t.0, t.1, (suc t.2.0, t.2.1, omega (arith, t.2.2), t.2.3, t.2.4), t.3, t.4)

own_walked : {S : Type 0} (X : Extra) (so_far : List OpResult) (op : Op) (os : List Op) (p : Place) (a : S) (result : OpResult) (o : Option Refusal) (keeper : Keeper) (f : List OpResult → Ran S) → StatusBy X op result o → (status_of result ≡ 0 → Walked X os (length so_far + 1) (f (so_far ++ result ∷ []))) → Walked X (op ∷ os) (length so_far) (own_reply so_far op p a result o keeper f)
own_walked X so_far op os p a result None keeper f is rest =
    let r = f (so_far ++ result ∷ []) in
    let w = rest is in
    kept_walked X (op ∷ os) (length so_far) keeper r (record { again = w.again; told = denied_behind X op os (length so_far) r.results r.denial w.told })
own_walked X so_far op os p a result (Some why) keeper f is rest = record {
  again = refl;
  told = (sym is.0 ∙ sym (last_status so_far result), omega (arith, length-append so_far (result ∷ [])), (0, op, omega arith, refl, refl), is.1.0, is.1.1);
}

followed_walked : {S : Type 0} (X : Extra) (so_far : List OpResult) (op : Op) (os : List Op) (p : Place) (a : S) (x : Reply) (f : List OpResult → Ran S) → StatusIs X op Never x → ((result : OpResult) → status_of result ≡ 0 → Walked X os (length so_far + 1) (f (so_far ++ result ∷ []))) → Walked X (op ∷ os) (length so_far) (followed so_far op p a x f)
followed_walked X so_far op os p a (Own own keeper) f is rest = own_walked X so_far op os p a own.result own.refusal keeper f is (rest own.result)
followed_walked X so_far op os p a (Kept reply) f is rest = absurd is

module _ (X : Extra) (owed : AreLawful X) (site : Site) (lattice : IsPreorderWithBottom site.dom) (sent : Sent) (c : Compound) where
  walked : (os : List Op) (r : OpResult) (rs : List OpResult) (p : Place) (b : Both X.Row) → BothStand X.Fact site.dom p b → AllByRecursion OutsideIs os → status_of_all (r ∷ rs) ≡ 0 → Walked X os (length (r ∷ rs)) (run_behind (operation X site sent c) (r ∷ rs) os p b)
  unfolding run_behind
  walked [] r rs p b stands outside none = record { again = refl; told = none }
  walked (op ∷ os) r rs p b stands outside none =
      let t = operation X site sent c (r ∷ rs) op p b in
      let stand = (operation_lawful X owed site lattice sent c (r ∷ rs) op).stands p b stands in
      followed_walked X (r ∷ rs) op os t.place t.state t.answer (λ results. run_behind (operation X site sent c) results os t.place t.state) (behind_status X owed site lattice sent c r rs op p b stands outside.0)
      (λ result is.
      let more : length (r ∷ rs ++ result ∷ []) ≡ length (r ∷ rs) + 1 = omega (arith, length-append rs (result ∷ [])) in
      subst (λ n. Walked X os n (run_behind (operation X site sent c) (r ∷ rs ++ result ∷ []) os t.place t.state)) more (walked os r (rs ++ result ∷ []) t.place t.state stand outside.1 (last_status (r ∷ rs) result ∙ is)))

-- ---- what was kept and is given again

refused_done : {R : Type 0} (why : Refusal) (r : R) {Y : Type 0} → Refused why ≡ Done r → Y
refused_done why r e = absurd cc

in_order_told : {R : Type 0} (P : Outcome (Answered R) → Type 0) (p : Place) (last next : ℕ) (kept : Option Stored) (sequence : ℕ) (arguments : List ℕ) (again : List ℕ → Outcome (Answered R)) (new : Outcome (Answered R)) →
    ((status : ℕ) → P (refuse p gates.Session status)) → ((k : Stored) → kept ≡ Some k → k.arguments ≡ arguments → P (again k.reply)) → P new → P (in_order p last next kept sequence arguments again new)
in_order_told {R} P p last next kept sequence arguments again new refused told is = at (sequence == last) kept refl
  where
    other : P (demand (sequence == next) (refuse p gates.Session NFS4ERR_SEQ_MISORDERED) new)
    other = demand_any P (sequence == next) (refuse p gates.Session NFS4ERR_SEQ_MISORDERED) new (refused NFS4ERR_SEQ_MISORDERED) (λ test. is)

    at : (b : Bool) (o : Option Stored) → kept ≡ o → P (where_there (cond b o None) (λ k. demand (bytes_eq k.arguments arguments) (refuse p gates.Session NFS4ERR_SEQ_FALSE_RETRY) (again k.reply)) (demand (sequence == next) (refuse p gates.Session NFS4ERR_SEQ_MISORDERED) new))
    at true None there = other
    at true (Some k) there = demand_any P (bytes_eq k.arguments arguments) (refuse p gates.Session NFS4ERR_SEQ_FALSE_RETRY) (again k.reply) (refused NFS4ERR_SEQ_FALSE_RETRY) (λ same. told k there (bytes_same k.arguments arguments same))
    at false o there = other

-- where the results that are kept at a level of a world have a property
pub record KeptHave (Q : Stored → Type 0) (level : ℕ) (w : World) : Type 0 where
  pub slots : (i : Id) (x : Session) (n : ℕ) (slot : SlotRow) (kept : Stored) → i.level ≡ level → session_at w.sessions i ≡ Some x → slice_get x.slots n ≡ Some slot → slot.kept ≡ Some kept → Q kept
  pub clients : (i : Id) (client : Client) (kept : Stored) → i.level ≡ level → client_at w.clients i ≡ Some client → client.kept ≡ Some kept → Q kept

module _ (Q : Stored → Type 0) (sent : Sent) (p : Place) where
  -- what is given again has it, and nothing changes
  abbrev Back : {R : Type 0} → (List ℕ → R) → Outcome (Answered R) → Type 0
  Back again o = (reply : List ℕ) → o.answer ≡ Done (again reply) → Q (record { arguments = sent.arguments; reply = reply }) × (o.place ≡ p) × (o.changes ≡ [])

  back_refused : {R : Type 0} (again : List ℕ → R) (gate : Gate) (status : ℕ) → Back again (refuse p gate status)
  back_refused again gate status reply e = refused_done (record { gate = gate; status = status }) (again reply) e

  module _ (w : World) (have : KeptHave Q p.subject w) where
    sequence_back : (args : Sequence) → Back Again (sequence args sent p w)
    sequence_back args =
        demand_any (Back Again) ((session_named args.session).level == p.subject) _ _ (back_refused Again _ _) (λ own.
        where_any (Back Again) (session_under args.session w.sessions) _ _ (λ x found.
        demand_any (Back Again) (nat_le sent.size x.channel.max_request) _ _ (back_refused Again _ _) (λ short.
        demand_any (Back Again) (nat_le sent.count x.channel.max_operations) _ _ (back_refused Again _ _) (λ few.
        where_any (Back Again) (slice_get x.slots args.slot) _ _ (λ slot there.
        in_order_told (Back Again) p slot.sequence (next_sequence slot.sequence) slot.kept args.sequence sent.arguments (λ reply. done p (Again reply) []) (begun_in p w x) (λ status. back_refused Again _ _)
        (λ k kept same reply e. (let told : k.reply ≡ reply = cc in subst Q (λ i. record { arguments = same i; reply = told i }) (have.slots (session_named args.session) x args.slot slot k (grind (arith, nat_tests, own)) (session_under-at args.session w.sessions x found) there kept), refl, refl))
        (λ reply e. absurd (let f = e in cc))) (back_refused Again _ _)))) (back_refused Again _ _))

    create_session_back : (args : CreateSession) → Back MadeBefore (create_session args sent.arguments p w)
    create_session_back args =
        demand_any (Back MadeBefore) ((client_named args.client).level == p.subject) _ _ (back_refused MadeBefore _ _) (λ own.
        where_any (Back MadeBefore) (client_at w.clients (client_named args.client)) _ _ (λ c found.
        in_order_told (Back MadeBefore) p (sequence_before c.sequence) c.sequence c.kept args.sequence sent.arguments (λ reply. done p (MadeBefore reply) []) (made args p w c) (λ status. back_refused MadeBefore _ _)
        (λ k kept same reply e. (let told : k.reply ≡ reply = cc in subst Q (λ i. record { arguments = same i; reply = told i }) (have.clients (client_named args.client) c k (grind (arith, nat_tests, own)) found kept), refl, refl))
        (demand_any (Back MadeBefore) (is_large_enough args.fore) _ _ (back_refused MadeBefore _ _) (λ large.
        demand_any (Back MadeBefore) (nat_lt (sessions_of p.subject w.sessions) SESSIONS_OF_A_LEVEL) _ _ (back_refused MadeBefore _ _) (λ few.
        demand_any (Back MadeBefore) (nat_lt (last_of p.subject w.lasts.sessions) LAST_NUMBER) _ _ (back_refused MadeBefore _ _) (λ left reply e. absurd (let f = e in cc)))))) (back_refused MadeBefore _ _))

module _ (X : Extra) (owed : AreLawful X) (site : Site) (lattice : IsPreorderWithBottom site.dom) (sent : Sent) (c : Compound) (Q : Stored → Type 0) (p : Place) (b : Both X.Row) (stands : BothStand X.Fact site.dom p b) (have : KeptHave Q p.subject b.world) where
  abbrev GivesAgain : List ℕ → Turn Reply (Both X.Row) → Type 0
  GivesAgain reply t = Q (record { arguments = sent.arguments; reply = reply }) × (t.place ≡ p) × (t.state ≡ b)

  abbrev turned : {R : Type 0} → Op → (R → Reply) → Outcome (Answered R) → Turn Reply (Both X.Row)
  turned op reply o = record { answer = reply_of op reply o.answer; place = o.place; state = both (apply_all o.changes b.world) b.own }

  never_any : (op : Op) (K : List ℕ → Type 0) (x : Reply) → StatusIs X op Never x → StatusIs X op K x
  never_any op K (Own own keeper) is = is
  never_any op K (Kept reply) is = absurd is

  sequence_status : (args : Sequence) (o : Outcome (Answered Sequenced)) → Back Q sent p Again o → (a : Answered Sequenced) → o.answer ≡ a → IsDenial a → StatusIs X (ops.Sequence args) (λ reply. Q (record { arguments = sent.arguments; reply = reply }) × (o.place ≡ p) × (both (apply_all o.changes b.world) b.own ≡ b)) (reply_of (ops.Sequence args) (sequence_reply args) a)
  sequence_status args o back (Done (New x)) is denies = refl
  sequence_status args o back (Done (Again reply)) is denies = let g = back reply is in (g.0, g.1, ap (λ cs. both (apply_all cs b.world) b.own) g.2)
  sequence_status args o back (Refused why) is denies = (refl, refusal_of X (ops.Sequence args) why denies)

  created_status : (args : CreateSession) (keeper : Keeper) (o : Outcome (Answered Created)) → Back Q sent p MadeBefore o → (a : Answered Created) → o.answer ≡ a → IsDenial a → StatusIs X (ops.CreateSession args) (λ reply. Q (record { arguments = sent.arguments; reply = reply }) × (o.place ≡ p) × (both (apply_all o.changes b.world) b.own ≡ b)) (under keeper (reply_of (ops.CreateSession args) (created_reply p.subject args) a))
  created_status args keeper o back (Done (Made session granted)) is denies = refl
  created_status args keeper o back (Done (MadeBefore reply)) is denies = let g = back reply is in (g.0, g.1, ap (λ cs. both (apply_all cs b.world) b.own) g.2)
  created_status args keeper o back (Refused why) is denies = (refl, refusal_of X (ops.CreateSession args) why denies)

  first_status : (op : Op) → OutsideIs op → StatusIs X op (λ reply. GivesAgain reply (operation X site sent c [] op p b)) (operation X site sent c [] op p b).answer
  first_status (ops.Sequence args) outside =
      admitted_status X GivesAgain (ops.Sequence args) p b (admission X.grammar c [] (ops.Sequence args) p b.world) (row_in X site sent (ops.Sequence args) p b) (admission_refuses X.grammar c [] (ops.Sequence args) p b.world)
      (sequence_status args (sequence args sent p b.world) (sequence_back Q sent p b.world have args) (sequence args sent p b.world).answer refl (sequence_denies args sent p b.world).is)
  first_status (ops.CreateSession args) outside =
      admitted_status X GivesAgain (ops.CreateSession args) p b (admission X.grammar c [] (ops.CreateSession args) p b.world) (row_in X site sent (ops.CreateSession args) p b) (admission_refuses X.grammar c [] (ops.CreateSession args) p b.world)
      (created_status args (created_keeper args p b.world) (create_session args sent.arguments p b.world) (create_session_back Q sent p b.world have args) (create_session args sent.arguments p b.world).answer refl (create_session_denies args sent.arguments p b.world).is)
  first_status op outside =
      admitted_status X GivesAgain op p b (admission X.grammar c [] op p b.world) (row_in X site sent op p b) (admission_refuses X.grammar c [] op p b.world)
      (never_any op (λ reply. GivesAgain reply (row_in X site sent op p b)) (row_in X site sent op p b).answer (row_in_status X owed site lattice sent c op p b stands outside refl))

  -- the run gives again what was kept and does nothing, or it tells of each operation
  abbrev RunTells : List Op → Ran (Both X.Row) → Type 0
  RunTells os r =
      Walked X os 0 r
      ⊎ ((reply : List ℕ) × Q (record { arguments = sent.arguments; reply = reply }) × (r ≡ record { place = p; state = b; results = []; denial = None; again = Some reply; keeper = Nowhere }))

  run_tells : (os : List Op) → AllByRecursion OutsideIs os → RunTells os (run_behind (operation X site sent c) [] os p b)
  unfolding run_behind
  run_tells [] outside = inl (record { again = refl; told = refl })
  run_tells (op ∷ os) outside = at (operation X site sent c [] op p b).answer (first_status op outside.0)
    where
      at : (x : Reply) → StatusIs X op (λ reply. GivesAgain reply (operation X site sent c [] op p b)) x → RunTells (op ∷ os) (followed [] op (operation X site sent c [] op p b).place (operation X site sent c [] op p b).state x (λ results. run_behind (operation X site sent c) results os (operation X site sent c [] op p b).place (operation X site sent c [] op p b).state))
      at (Own own keeper) is = let t = operation X site sent c [] op p b in let stand = (operation_lawful X owed site lattice sent c [] op).stands p b stands in inl (own_walked X [] op os t.place t.state own.result own.refusal keeper (λ results. run_behind (operation X site sent c) results os t.place t.state) is (λ none. walked X owed site lattice sent c os own.result [] t.place t.state stand outside.1 none))
      at (Kept reply) is = inr (reply, is.0, (λ i. record { place = is.1 i; state = is.2 i; results = []; denial = None; again = Some reply; keeper = Nowhere }))

  -- ---- the whole COMPOUND

  abbrev pub ServedTells : Turn Answer (Both X.Row) → Type 0
  ServedTells t =
      ((r : Results) × (t.answer.result ≡ results_text r) × Tells X c r (option_map line_of t.answer.denial))
      ⊎ (Q (record { arguments = sent.arguments; reply = t.answer.result }) × (t ≡ record { answer = record { result = t.answer.result; denial = None }; place = p; state = b }))

  denial_tells : (results : List OpResult) (status : ℕ) → status ≡ status_of_all results → (o : Option Denial) → Denied X c.ops 0 results o → Tells X c (record { status = status; tag = c.tag; results = results }) (option_map line_of o)
  denial_tells results status same None told = same ∙ told
  denial_tells results status same (Some d) told = record {
    failed = λ none. told.3 (told.0 ∙ sym same ∙ none);
    status = told.0 ∙ sym same;
    place = told.1;
    named = inr (told.2.0, told.2.1, omega (arith, told.2.2), told.2.3, told.2.4);
    by = d.gate;
    gate = refl;
    rule = told.4;
  }

  run_all_tells : (r : Ran (Both X.Row)) → (c.minor == 2) ≡ true → RunTells c.ops r → ServedTells (kept_after sent c r)
  run_all_tells r is (inl walked) =
      let status = if c.minor == 2 then status_of_all r.results else NFS4ERR_MINOR_VERS_MISMATCH in
      inl (record { status = status; tag = c.tag; results = r.results }, ap (result_of c r.results) walked.again, denial_tells r.results status (ap (λ same. if same then status_of_all r.results else NFS4ERR_MINOR_VERS_MISMATCH) is) r.denial walked.told)
  run_all_tells r is (inr (reply, has, same)) = subst (λ r. ServedTells (kept_after sent c r)) (sym same) (inr (has, refl))

  pub served_tells : AllByRecursion OutsideIs c.ops → ServedTells (served X site sent c p b)
  unfolding served run_all
  served_tells outside = at (c.minor == 2) refl
    where
      at : (same : Bool) → (c.minor == 2) ≡ same → ServedTells (kept_after sent c (cond same (run_behind (operation X site sent c) [] c.ops p b) (record { place = p; state = b; results = []; denial = Some (record { place = 0; number = 0; gate = gates.Outside; status = NFS4ERR_MINOR_VERS_MISMATCH }); again = None; keeper = Nowhere })))
      at true is = run_all_tells (run_behind (operation X site sent c) [] c.ops p b) is (run_tells c.ops outside)
      at false is =
          let status = if c.minor == 2 then status_of_all [] else NFS4ERR_MINOR_VERS_MISMATCH in
          let mismatch : status ≡ NFS4ERR_MINOR_VERS_MISMATCH = ap (λ same. if same then status_of_all [] else NFS4ERR_MINOR_VERS_MISMATCH) is in
          inl (
            record { status = status; tag = c.tag; results = [] },
            refl,
            record {
              failed = λ none. (let e : NFS4ERR_MINOR_VERS_MISMATCH ≡ 0 = sym mismatch ∙ none in grind (arith, e));
              status = sym mismatch;
              place = refl;
              named = inl (grind (arith, nat_tests, is), refl, refl);
              by = gates.Outside;
              gate = refl;
              rule = λ served. refl;
            },
          )
