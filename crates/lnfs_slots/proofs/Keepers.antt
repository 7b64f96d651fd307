-- Behind the first operation of a COMPOUND none says where its result is kept.
use Rattle.std.proofs.Common.{◌≡◌, ℕ, Bool, true, false, cond, List, [], ◌∷◌, ◌++◌, Option, Some, None, refl, ◌∙◌}
use Rattle.lnfs_arguments.specs.declared.types.Op.{Op}
use Rattle.lnfs_arguments.specs.declared.types.Op.TheVariants as ops
use Rattle.lnfs_arguments.specs.declared.types.Compound.{Compound}
use Rattle.lnfs_results.specs.declared.types.OpResult.{OpResult}
use Rattle.lnfs_world.specs.Outcome.{Site, Place}
use Rattle.lnfs_world.specs.Lawful.{Turn, deed_of}
use Rattle.lnfs_world.specs.Both.{Both, on_world}
use Rattle.lnfs_results.specs.declared.types.OpResult.TheVariants as results
use Rattle.lnfs_operations.specs.ReclaimComplete.{reclaim_complete}
use Rattle.lnfs_operations.specs.FileHandles.{put_fh, put_root_fh, get_fh, save_fh, restore_fh}
use Rattle.lnfs_operations.specs.Lookup.{lookup, lookup_parent}
use Rattle.lnfs_operations.specs.GetAttr.{get_attr, verify, nverify}
use Rattle.lnfs_operations.specs.Access.{access}
use Rattle.lnfs_operations.specs.ReadDir.{read_dir}
use Rattle.lnfs_operations.specs.ReadLink.{read_link}
use Rattle.lnfs_operations.specs.Create.{create}
use Rattle.lnfs_operations.specs.Link.{link}
use Rattle.lnfs_operations.specs.Remove.{remove}
use Rattle.lnfs_operations.specs.Rename.{rename}
use Rattle.lnfs_operations.specs.SetAttr.{set_attr}
use Rattle.lnfs_operations.specs.Open.{open_file}
use Rattle.lnfs_operations.specs.Close.{closed, close}
use Rattle.lnfs_operations.specs.Read.{read}
use Rattle.lnfs_operations.specs.Write.{write, commit}
use Rattle.lnfs_operations.specs.declared.numbers.TheConstants.{FILE_SYNC4}
use Rattle.lnfs_operations.specs.Admission.{admission}
use Rattle.lnfs_operations.specs.Chain.{Answer, Done, Refused, Refusal}
use Rattle.lnfs_operations.specs.Extra.{Extra, further_deed}
use Rattle.lnfs_operations.specs.Sequence.{Sent, sequence}
use Rattle.lnfs_operations.specs.Served.{Keeper, Nowhere, Slot, Record, Reply, Own, Kept, reply_of, further_reply, row, row_in, admitted, operation, success, plainly, zeros, opened_reply}
use Rattle.lnfs_operations.specs.SlotRule.{Ran, kept_by, own_reply, followed, run_behind}

abbrev pub keeper_of : Reply → Keeper
keeper_of (Own own keeper) = keeper
keeper_of (Kept reply) = Nowhere

pub replied_keeper : {R : Type 0} (op : Op) (reply : R → Reply) → ((r : R) → keeper_of (reply r) ≡ Nowhere) → (a : Answer R) → keeper_of (reply_of op reply a) ≡ Nowhere
replied_keeper op reply each (Done r) = each r
replied_keeper op reply each (Refused why) = refl

pub admitted_keeper : {S : Type 0} (op : Op) (p : Place) (a : S) (o : Option Refusal) (t : Turn Reply S) → keeper_of t.answer ≡ Nowhere → keeper_of (admitted op p a o t).answer ≡ Nowhere
admitted_keeper op p a None t is = is
admitted_keeper op p a (Some why) t is = refl

kept_keeper : {S : Type 0} (keeper : Keeper) (r : Ran S) → r.keeper ≡ Nowhere → (kept_by keeper r).keeper ≡ keeper
kept_keeper Nowhere r is = is
kept_keeper (Slot slot sequence) r is = refl
kept_keeper (Record client) r is = refl

own_keeper : {S : Type 0} (so_far : List OpResult) (op : Op) (p : Place) (a : S) (result : OpResult) (refusal : Option Refusal) (keeper : Keeper) (f : List OpResult → Ran S) → ((last : OpResult) → (f (so_far ++ last ∷ [])).keeper ≡ Nowhere) → (own_reply so_far op p a result refusal keeper f).keeper ≡ keeper
own_keeper so_far op p a result None keeper f later = kept_keeper keeper (f (so_far ++ result ∷ [])) (later result)
own_keeper so_far op p a result (Some why) keeper f later = refl

-- the first operation says it
pub followed_keeper : {S : Type 0} (so_far : List OpResult) (op : Op) (p : Place) (a : S) (x : Reply) (f : List OpResult → Ran S) → ((last : OpResult) → (f (so_far ++ last ∷ [])).keeper ≡ Nowhere) → (followed so_far op p a x f).keeper ≡ keeper_of x
followed_keeper so_far op p a (Own own keeper) f later = own_keeper so_far op p a own.result own.refusal keeper f later
followed_keeper so_far op p a (Kept reply) f later = refl

module _ (X : Extra) (site : Site) (sent : Sent) (c : Compound) where
  extra_keeper : (serves : Bool) (number : ℕ) (arguments : List ℕ) (p : Place) (b : Both X.Row) → keeper_of (cond serves (further_reply number (further_deed X site number arguments)) (on_world (deed_of (row site sent (ops.Extra number arguments)))) p b).answer ≡ Nowhere
  extra_keeper true number arguments p b = refl
  extra_keeper false number arguments p b = refl

  if_admitted : (r : OpResult) (rs : List OpResult) (op : Op) (p : Place) (b : Both X.Row) → keeper_of (row_in X site sent op p b).answer ≡ Nowhere → keeper_of (operation X site sent c (r ∷ rs) op p b).answer ≡ Nowhere
  if_admitted r rs op p b is = admitted_keeper op p b (admission X.grammar c (r ∷ rs) op p b.world) (row_in X site sent op p b) is

  operation_keeper : (r : OpResult) (rs : List OpResult) (op : Op) (p : Place) (b : Both X.Row) → keeper_of (operation X site sent c (r ∷ rs) op p b).answer ≡ Nowhere
  operation_keeper r rs (ops.ExchangeId verifier owner flags implementation) p b = refl
  operation_keeper r rs (ops.CreateSession args) p b = refl
  operation_keeper r rs (ops.DestroySession session) p b = refl
  operation_keeper r rs (ops.Sequence args) p b = refl
  operation_keeper r rs (ops.DestroyClientId client) p b = refl
  operation_keeper r rs (ops.ReclaimComplete one_fs) p b = if_admitted r rs (ops.ReclaimComplete one_fs) p b (replied_keeper (ops.ReclaimComplete one_fs) (λ _. success results.ReclaimComplete Nowhere) (λ x. refl) (reclaim_complete one_fs p b.world).answer)
  operation_keeper r rs (ops.PutFh handle) p b = if_admitted r rs (ops.PutFh handle) p b (replied_keeper (ops.PutFh handle) (plainly results.PutFh) (λ x. refl) (put_fh site handle p b.world).answer)
  operation_keeper r rs ops.PutRootFh p b = if_admitted r rs ops.PutRootFh p b (replied_keeper ops.PutRootFh (plainly results.PutRootFh) (λ x. refl) (put_root_fh p b.world).answer)
  operation_keeper r rs ops.GetFh p b = if_admitted r rs ops.GetFh p b (replied_keeper ops.GetFh (λ handle. success (results.GetFh handle) Nowhere) (λ x. refl) (get_fh p b.world).answer)
  operation_keeper r rs ops.SaveFh p b = if_admitted r rs ops.SaveFh p b (replied_keeper ops.SaveFh (plainly results.SaveFh) (λ x. refl) (save_fh p b.world).answer)
  operation_keeper r rs ops.RestoreFh p b = if_admitted r rs ops.RestoreFh p b (replied_keeper ops.RestoreFh (plainly results.RestoreFh) (λ x. refl) (restore_fh p b.world).answer)
  operation_keeper r rs (ops.Lookup name) p b = if_admitted r rs (ops.Lookup name) p b (replied_keeper (ops.Lookup name) (plainly results.Lookup) (λ x. refl) (lookup site name p b.world).answer)
  operation_keeper r rs ops.LookupP p b = if_admitted r rs ops.LookupP p b (replied_keeper ops.LookupP (plainly results.LookupP) (λ x. refl) (lookup_parent site p b.world).answer)
  operation_keeper r rs (ops.GetAttr asked) p b = if_admitted r rs (ops.GetAttr asked) p b (replied_keeper (ops.GetAttr asked) (λ given. success (results.GetAttr given) Nowhere) (λ x. refl) (get_attr site asked p b.world).answer)
  operation_keeper r rs (ops.Verify given) p b = if_admitted r rs (ops.Verify given) p b (replied_keeper (ops.Verify given) (plainly results.Verify) (λ x. refl) (verify site given p b.world).answer)
  operation_keeper r rs (ops.NVerify given) p b = if_admitted r rs (ops.NVerify given) p b (replied_keeper (ops.NVerify given) (plainly results.NVerify) (λ x. refl) (nverify site given p b.world).answer)
  operation_keeper r rs (ops.Access bits) p b = if_admitted r rs (ops.Access bits) p b (replied_keeper (ops.Access bits) (λ told. success (results.Access told.supported told.granted) Nowhere) (λ x. refl) (access site bits p b.world).answer)
  operation_keeper r rs (ops.ReadDir cookie verifier dircount maxcount asked) p b = if_admitted r rs (ops.ReadDir cookie verifier dircount maxcount asked) p b (replied_keeper (ops.ReadDir cookie verifier dircount maxcount asked) (λ found. success (results.ReadDir (zeros 8) found.entries found.eof) Nowhere) (λ x. refl) (read_dir site (record { cookie = cookie; maxcount = maxcount; asked = asked }) p b.world).answer)
  operation_keeper r rs ops.ReadLink p b = if_admitted r rs ops.ReadLink p b (replied_keeper ops.ReadLink (λ text. success (results.ReadLink text) Nowhere) (λ x. refl) (read_link site p b.world).answer)
  operation_keeper r rs (ops.Create what name given) p b = if_admitted r rs (ops.Create what name given) p b (replied_keeper (ops.Create what name given) (λ made. success (results.Create made.info made.set) Nowhere) (λ x. refl) (create site what name given p b.world).answer)
  operation_keeper r rs (ops.Link name) p b = if_admitted r rs (ops.Link name) p b (replied_keeper (ops.Link name) (λ info. success (results.Link info) Nowhere) (λ x. refl) (link site name p b.world).answer)
  operation_keeper r rs (ops.Remove name) p b = if_admitted r rs (ops.Remove name) p b (replied_keeper (ops.Remove name) (λ info. success (results.Remove info) Nowhere) (λ x. refl) (remove site name p b.world).answer)
  operation_keeper r rs (ops.Rename old new) p b = if_admitted r rs (ops.Rename old new) p b (replied_keeper (ops.Rename old new) (λ renamed. success (results.Rename renamed.source renamed.target) Nowhere) (λ x. refl) (rename site old new p b.world).answer)
  operation_keeper r rs (ops.SetAttr id given) p b = if_admitted r rs (ops.SetAttr id given) p b (replied_keeper (ops.SetAttr id given) (λ set. success (results.SetAttr 0 set) Nowhere) (λ x. refl) (set_attr site id given p b.world).answer)
  operation_keeper r rs (ops.Open seqid access deny client owner making claim) p b = if_admitted r rs (ops.Open seqid access deny client owner making claim) p b (replied_keeper (ops.Open seqid access deny client owner making claim) opened_reply (λ x. refl) (open_file site (record { access = access; deny = deny; owner = owner; making = making; claim = claim }) p b.world).answer)
  operation_keeper r rs (ops.Close seqid id) p b = if_admitted r rs (ops.Close seqid id) p b (replied_keeper (ops.Close seqid id) (plainly (results.Close closed)) (λ x. refl) (close id p b.world).answer)
  operation_keeper r rs (ops.Read id offset count) p b = if_admitted r rs (ops.Read id offset count) p b (replied_keeper (ops.Read id offset count) (λ found. success (results.Read found.eof found.content) Nowhere) (λ x. refl) (read site (record { id = id; offset = offset; count = count }) p b.world).answer)
  operation_keeper r rs (ops.Write id offset stable content) p b = if_admitted r rs (ops.Write id offset stable content) p b (replied_keeper (ops.Write id offset stable content) (λ many. success (results.Write many FILE_SYNC4 (zeros 8)) Nowhere) (λ x. refl) (write site (record { id = id; offset = offset; stable = stable; content = content }) p b.world).answer)
  operation_keeper r rs (ops.Commit offset count) p b = if_admitted r rs (ops.Commit offset count) p b (replied_keeper (ops.Commit offset count) (plainly (results.Commit (zeros 8))) (λ x. refl) (commit site p b.world).answer)
  operation_keeper r rs (ops.Outside number status) p b = if_admitted r rs (ops.Outside number status) p b refl
  operation_keeper r rs (ops.Extra number arguments) p b = if_admitted r rs (ops.Extra number arguments) p b (extra_keeper (X.grammar.serves number) number arguments p b)

  pub behind_keeper : (os : List Op) (r : OpResult) (rs : List OpResult) (p : Place) (b : Both X.Row) → (run_behind (operation X site sent c) (r ∷ rs) os p b).keeper ≡ Nowhere
  unfolding run_behind
  behind_keeper [] r rs p b = refl
  behind_keeper (op ∷ os) r rs p b =
      let t = operation X site sent c (r ∷ rs) op p b in
      followed_keeper (r ∷ rs) op t.place t.state t.answer (λ results. run_behind (operation X site sent c) results os t.place t.state) (λ last. behind_keeper os r (rs ++ last ∷ []) t.place t.state) ∙ operation_keeper r rs op p b
