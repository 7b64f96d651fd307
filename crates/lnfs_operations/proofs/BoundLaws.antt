-- Each operation keeps the bounds of all rows, and so does a COMPOUND up to the keeping of its result.
use Rattle.std.proofs.Common.{◌≡◌, ◌≤◌, ◌++◌, ℕ, Bool, true, false, cond, List, [], ◌∷◌, Option, Some, None, sym, ap, subst, ◌∙◌, arith}
use Rattle.std.specs.Prelude.{◌==◌, nat_le, slice_get}
use Rattle.std.specs.List.{AllByRecursion}
use Rattle.std.proofs.lemmas.Bool.Decides.{nat_tests}
use Rattle.lnfs_calipso.specs.Label.{IsPreorderWithBottom}
use Rattle.lnfs_arguments.specs.declared.types.Op.{Op}
use Rattle.lnfs_arguments.specs.declared.types.Op.TheVariants as ops
use Rattle.lnfs_arguments.specs.declared.types.Compound.{Compound}
use Rattle.lnfs_results.specs.declared.types.OpResult.{OpResult}
use Rattle.lnfs_results.specs.declared.types.OpResult.TheVariants as results
use Rattle.lnfs_arguments.specs.declared.types.Sequence.{Sequence}
use Rattle.lnfs_world.specs.declared.numbers.TheConstants.{LAST_SEQUENCE}
use Rattle.lnfs_world.specs.World.{Kept, World, same_id}
use Rattle.lnfs_world.specs.Outcome.{Site, Place, Outcome, Stands, done_to}
use Rattle.lnfs_world.specs.Lawful.{Turn, Deed, deed_of}
use Rattle.lnfs_world.specs.Both.{Both, both_seen, BothStand, on_world}
use Rattle.lnfs_world.proofs.Rows.{all_find}
use Rattle.lnfs_world.proofs.Within.{within_all}
use Rattle.lnfs_operations.specs.Admission.{admission}
use Rattle.lnfs_operations.specs.Bounds.{SessionBounds, RowBounds, Bounds}
use Rattle.lnfs_operations.specs.Chain.{Refusal, Answer, Done, Refused, done}
use Rattle.lnfs_operations.specs.CreateSession.{create_session, is_next_created}
use Rattle.lnfs_operations.specs.ExchangeId.{exchange_id}
use Rattle.lnfs_operations.specs.DestroySession.{destroy_session}
use Rattle.lnfs_operations.specs.DestroyClientId.{destroy_clientid}
use Rattle.lnfs_operations.specs.ReclaimComplete.{reclaim_complete}
use Rattle.lnfs_operations.specs.FileHandles.{put_fh, put_root_fh, get_fh, save_fh, restore_fh}
use Rattle.lnfs_operations.specs.Lookup.{lookup, lookup_parent}
use Rattle.lnfs_operations.specs.GetAttr.{get_attr, verify, nverify}
use Rattle.lnfs_operations.specs.Access.{access}
use Rattle.lnfs_operations.specs.ReadDir.{read_dir}
use Rattle.lnfs_operations.specs.ReadLink.{read_link}
use Rattle.lnfs_operations.specs.Create.{create}
use Rattle.lnfs_operations.specs.Link.{link}
use Rattle.lnfs_operations.specs.Remove.{remove}
use Rattle.lnfs_operations.specs.Rename.{rename}
use Rattle.lnfs_operations.specs.SetAttr.{set_attr}
use Rattle.lnfs_operations.specs.Open.{open_file}
use Rattle.lnfs_operations.specs.Close.{closed, close}
use Rattle.lnfs_operations.specs.Read.{read}
use Rattle.lnfs_operations.specs.Write.{write, commit}
use Rattle.lnfs_operations.specs.declared.numbers.TheConstants.{FILE_SYNC4, OPEN4_RESULT_LOCKTYPE_POSIX}
use Rattle.lnfs_operations.specs.Results.{told_result}
use Rattle.lnfs_operations.specs.Extra.{Extra, AreLawful, further_deed}
use Rattle.lnfs_operations.specs.Identifiers.{client_named, session_named, session_under}
use Rattle.lnfs_operations.specs.Keeping.{next_sequence}
use Rattle.lnfs_operations.specs.Sequence.{Sent, Sequenced, Again, begun_in, sequence}
use Rattle.lnfs_operations.specs.Served.{Keeper, Nowhere, Slot, Record, Reply, Own, Kept as KeptReply, success, zeros, reply_of, under, created_reply, created_keeper, sequence_reply, row, row_in, admitted, further_reply, operation}
use Rattle.lnfs_operations.specs.Sizes.{LabelsFit, is_level, IsOpRead}
use Rattle.lnfs_operations.specs.SlotRule.{Ran, kept_by, own_reply, followed, run_behind, run_all, keep_in}
use Rattle.lnfs_operations.proofs.BoundChanges.{Within, all_keep}
use Rattle.lnfs_operations.proofs.BoundRows.{IsKeeper, next_bound, row_brings, keep_brings}
use Rattle.lnfs_operations.proofs.Chains.{demand_any, where_any, in_order_any}
use Rattle.lnfs_operations.proofs.Once.{admitted_any}
use Rattle.lnfs_operations.proofs.ServedLaws.{row_footprint, operation_lawful}
use Rattle.lnfs_operations.proofs.SessionLaws.{session_under-at}
use Rattle.lnfs_operations.proofs.SizeChanges.{row_sizes}
use Rattle.lnfs_operations.proofs.SlotRules.{followed_any, keep_footprint}
use Rattle.lnfs_operations.proofs.Walks.{slot_of_all}

-- ---- an operation of the table

module _ (site : Site) (lattice : IsPreorderWithBottom site.dom) (labels : LabelsFit site) (sent : Sent) (p : Place) (w : World) (stands : Stands site.dom p w) (level : is_level site p.subject ≡ true) (bounds : Bounds site w) where
  row_within : (op : Op) → IsOpRead op → Within site (done_to w (row site sent op p w))
  row_within op read =
      all_keep site lattice p.subject (row site sent op p w).changes w stands.facts
      (within_all site.dom p.subject (row site sent op p w).changes w (row_footprint site lattice sent op p w stands).within)
      (row_brings site labels p w bounds.rows level stands.facts sent op read)
      (record { rows = bounds.rows; counts = bounds.counts })

  pub row_bounds : (op : Op) → IsOpRead op → Bounds site (done_to w (row site sent op p w))
  row_bounds op read =
      let kept = row_within op read in
      record { sizes = row_sizes site labels sent p w bounds.sizes op; rows = kept.rows; counts = kept.counts }

-- ---- where a result is kept

-- under a sequence, if in a slot
abbrev KeepsAt : Reply → Type 0
KeepsAt (Own own keeper) = IsKeeper keeper
KeepsAt (KeptReply reply) = Unit {0}

replied_at : {R : Type 0} (op : Op) (reply : R → Reply) (answer : Answer R) → ((r : R) → KeepsAt (reply r)) → KeepsAt (reply_of op reply answer)
replied_at op reply (Done r) each = each r
replied_at op reply (Refused why) each = tt

under_at : (keeper : Keeper) (x : Reply) → IsKeeper keeper → KeepsAt (under keeper x)
under_at keeper (Own own other) is = is
under_at keeper (KeptReply reply) is = tt

record_at : (b : Bool) (number : ℕ) → IsKeeper (cond b (Record number) Nowhere)
record_at true number = tt
record_at false number = tt

module _ (site : Site) (sent : Sent) (p : Place) (w : World) (rows : RowBounds site w) where
  -- a new request brings the next sequence of its slot
  sequence_at : (args : Sequence) → KeepsAt (reply_of (ops.Sequence args) (sequence_reply args) (sequence args sent p w).answer)
  sequence_at args =
      let P = λ (o : Outcome (Answer Sequenced)). KeepsAt (reply_of (ops.Sequence args) (sequence_reply args) o.answer) in
      demand_any P ((session_named args.session).level == p.subject) _ _ tt (λ own.
      where_any P (session_under args.session w.sessions) _ _ (λ x found.
      demand_any P (nat_le sent.size x.channel.max_request) _ _ tt (λ short.
      demand_any P (nat_le sent.count x.channel.max_operations) _ _ tt (λ few.
      where_any P (slice_get x.slots args.slot) _ _ (λ slot there.
      in_order_any P p slot.sequence (next_sequence slot.sequence) slot.kept args.sequence sent.arguments (λ reply. done p (Again reply) []) (begun_in p w x) (λ status. tt) (λ k kept. tt) (λ next.
      let i = session_named args.session in
      let known = (all_find (SessionBounds site) (λ x. same_id i x.id) w.sessions x rows.sessions (session_under-at args.session w.sessions x found)).0 in
      let last = slot_of_all (λ slot. slot.sequence ≤ LAST_SEQUENCE) args.slot x.slots slot known.sequences there in
      let same : args.sequence ≡ next_sequence slot.sequence = grind (arith, nat_tests, next) in
      subst (λ (n : ℕ). n ≤ LAST_SEQUENCE) (sym same) (next_bound slot.sequence last))) tt))) tt)

  -- what nothing keeps
  told_at : {R : Type 0} (op : Op) (result : R → OpResult) (answer : Answer R) → KeepsAt (reply_of op (λ r. success (result r) Nowhere) answer)
  told_at op result answer = replied_at op (λ r. success (result r) Nowhere) answer (λ r. tt)

  row_at : (op : Op) → KeepsAt (row site sent op p w).answer
  row_at (ops.ExchangeId verifier owner flags implementation) = told_at (ops.ExchangeId verifier owner flags implementation) (λ t. told_result p.subject t) (exchange_id (record { verifier = verifier; owner = owner; flags = flags }) p w).answer
  row_at (ops.DestroySession session) = told_at (ops.DestroySession session) (λ r. results.DestroySession) (destroy_session session p w).answer
  row_at (ops.DestroyClientId client) = told_at (ops.DestroyClientId client) (λ r. results.DestroyClientId) (destroy_clientid client p w).answer
  row_at (ops.ReclaimComplete one_fs) = told_at (ops.ReclaimComplete one_fs) (λ r. results.ReclaimComplete) (reclaim_complete one_fs p w).answer
  row_at (ops.PutFh handle) = told_at (ops.PutFh handle) (λ r. results.PutFh) (put_fh site handle p w).answer
  row_at ops.PutRootFh = told_at ops.PutRootFh (λ r. results.PutRootFh) (put_root_fh p w).answer
  row_at ops.GetFh = told_at ops.GetFh (λ handle. results.GetFh handle) (get_fh p w).answer
  row_at ops.SaveFh = told_at ops.SaveFh (λ r. results.SaveFh) (save_fh p w).answer
  row_at ops.RestoreFh = told_at ops.RestoreFh (λ r. results.RestoreFh) (restore_fh p w).answer
  row_at (ops.Lookup name) = told_at (ops.Lookup name) (λ r. results.Lookup) (lookup site name p w).answer
  row_at ops.LookupP = told_at ops.LookupP (λ r. results.LookupP) (lookup_parent site p w).answer
  row_at (ops.GetAttr asked) = told_at (ops.GetAttr asked) (λ given. results.GetAttr given) (get_attr site asked p w).answer
  row_at (ops.Verify given) = told_at (ops.Verify given) (λ r. results.Verify) (verify site given p w).answer
  row_at (ops.NVerify given) = told_at (ops.NVerify given) (λ r. results.NVerify) (nverify site given p w).answer
  row_at (ops.Access bits) = told_at (ops.Access bits) (λ told. results.Access told.supported told.granted) (access site bits p w).answer
  row_at (ops.ReadDir cookie verifier dircount maxcount asked) = told_at (ops.ReadDir cookie verifier dircount maxcount asked) (λ found. results.ReadDir (zeros 8) found.entries found.eof) (read_dir site (record { cookie = cookie; maxcount = maxcount; asked = asked }) p w).answer
  row_at ops.ReadLink = told_at ops.ReadLink (λ text. results.ReadLink text) (read_link site p w).answer
  row_at (ops.Create what name given) = told_at (ops.Create what name given) (λ made. results.Create made.info made.set) (create site what name given p w).answer
  row_at (ops.Link name) = told_at (ops.Link name) (λ info. results.Link info) (link site name p w).answer
  row_at (ops.Remove name) = told_at (ops.Remove name) (λ info. results.Remove info) (remove site name p w).answer
  row_at (ops.Rename old new) = told_at (ops.Rename old new) (λ renamed. results.Rename renamed.source renamed.target) (rename site old new p w).answer
  row_at (ops.SetAttr id given) = told_at (ops.SetAttr id given) (λ set. results.SetAttr 0 set) (set_attr site id given p w).answer
  row_at (ops.Open seqid access deny client owner making claim) = told_at (ops.Open seqid access deny client owner making claim) (λ o. results.Open o.id o.info OPEN4_RESULT_LOCKTYPE_POSIX o.set 0) (open_file site (record { access = access; deny = deny; owner = owner; making = making; claim = claim }) p w).answer
  row_at (ops.Close seqid id) = told_at (ops.Close seqid id) (λ r. results.Close closed) (close id p w).answer
  row_at (ops.Read id offset count) = told_at (ops.Read id offset count) (λ found. results.Read found.eof found.content) (read site (record { id = id; offset = offset; count = count }) p w).answer
  row_at (ops.Write id offset stable content) = told_at (ops.Write id offset stable content) (λ many. results.Write many FILE_SYNC4 (zeros 8)) (write site (record { id = id; offset = offset; stable = stable; content = content }) p w).answer
  row_at (ops.Commit offset count) = told_at (ops.Commit offset count) (λ r. results.Commit (zeros 8)) (commit site p w).answer
  row_at (ops.CreateSession args) = under_at (created_keeper args p w) (reply_of (ops.CreateSession args) (created_reply p.subject args) (create_session args sent.arguments p w).answer) (record_at (is_next_created args p w) (client_named args.client).number)
  row_at (ops.Sequence args) = sequence_at args
  row_at (ops.Outside number status) = tt
  row_at (ops.Extra number arguments) = tt

kept_at : {S : Type 0} (keeper : Keeper) (r : Ran S) → IsKeeper keeper → IsKeeper r.keeper → IsKeeper (kept_by keeper r).keeper
kept_at Nowhere r now later = later
kept_at (Slot slot sequence) r now later = now
kept_at (Record client) r now later = now

own_at : {S : Type 0} (so_far : List OpResult) (op : Op) (p : Place) (a : S) (result : OpResult) (refusal : Option Refusal) (keeper : Keeper) (f : List OpResult → Ran S) → IsKeeper keeper → ((rs : List OpResult) → IsKeeper (f rs).keeper) → IsKeeper (own_reply so_far op p a result refusal keeper f).keeper
own_at so_far op p a result None keeper f now later = kept_at keeper (f (so_far ++ result ∷ [])) now (later (so_far ++ result ∷ []))
own_at so_far op p a result (Some why) keeper f now later = now

followed_at : {S : Type 0} (so_far : List OpResult) (op : Op) (p : Place) (a : S) (x : Reply) (f : List OpResult → Ran S) → KeepsAt x → ((rs : List OpResult) → IsKeeper (f rs).keeper) → IsKeeper (followed so_far op p a x f).keeper
followed_at so_far op p a (Own own keeper) f now later = own_at so_far op p a own.result own.refusal keeper f now later
followed_at so_far op p a (KeptReply reply) f now later = tt

-- ---- in a COMPOUND

module _ (X : Extra) (owed : AreLawful X) (site : Site) (lattice : IsPreorderWithBottom site.dom) (labels : LabelsFit site) (sent : Sent) (c : Compound) where
  chosen_any : {A : Type 0} (P : A → Type 0) (b : Bool) (x y : A) → P x → P y → P (cond b x y)
  chosen_any P true x y r t = r
  chosen_any P false x y r t = t

  chosen_deed : (P : Turn Reply (Both X.Row) → Type 0) (b : Bool) (x y : Deed Reply (Both X.Row)) (p : Place) (a : Both X.Row) → P (x p a) → P (y p a) → P (cond b x y p a)
  chosen_deed P true x y p a r t = r
  chosen_deed P false x y p a r t = t

  module _ (p : Place) (b : Both X.Row) (stands : BothStand X.Fact site.dom p b) (level : is_level site p.subject ≡ true) (bounds : Bounds site b.world) where
    row_in_bounds : (op : Op) → IsOpRead op → Bounds site (row_in X site sent op p b).state.world
    row_in_bounds (ops.Extra number arguments) read =
        chosen_deed (λ t. Bounds site t.state.world) (X.grammar.serves number) (further_reply number (further_deed X site number arguments)) (on_world (deed_of (row site sent (ops.Extra number arguments)))) p b
        ((owed.tame site lattice number arguments p b stands).bounds labels level bounds) bounds
    row_in_bounds op read = row_bounds site lattice labels sent p b.world stands.world level bounds op read

    row_in_at : (op : Op) → KeepsAt (row_in X site sent op p b).answer
    row_in_at (ops.Extra number arguments) =
        chosen_deed (λ t. KeepsAt t.answer) (X.grammar.serves number) (further_reply number (further_deed X site number arguments)) (on_world (deed_of (row site sent (ops.Extra number arguments)))) p b tt tt
    row_in_at op = row_at site sent p b.world bounds.rows op

    pub operation_bounds : (so_far : List OpResult) (op : Op) → IsOpRead op → Bounds site (operation X site sent c so_far op p b).state.world
    operation_bounds so_far op read =
        admitted_any (λ q (v : Both X.Row). Bounds site v.world) op (admission X.grammar c so_far op p b.world) p b (row_in X site sent op p b) bounds (row_in_bounds op read)

    operation_at : (so_far : List OpResult) (op : Op) → KeepsAt (operation X site sent c so_far op p b).answer
    operation_at so_far op = at (admission X.grammar c so_far op p b.world)
      where
        at : (o : Option Refusal) → KeepsAt (admitted op p b o (row_in X site sent op p b)).answer
        at None = row_in_at op
        at (Some why) = tt

  -- the bounds of the world, and where the result is kept
  pub record Keeps (r : Ran (Both X.Row)) : Type 0 where
    pub bounds : Bounds site r.state.world
    pub keeper : IsKeeper r.keeper

  behind_keeps : (os : List Op) → AllByRecursion IsOpRead os → (so_far : List OpResult) (p : Place) (b : Both X.Row) → BothStand X.Fact site.dom p b → is_level site p.subject ≡ true → Bounds site b.world → Keeps (run_behind (operation X site sent c) so_far os p b)
  unfolding run_behind
  behind_keeps [] read so_far p b stands level bounds = record { bounds = bounds; keeper = tt }
  behind_keeps (op ∷ os) read so_far p b stands level bounds =
      let t = operation X site sent c so_far op p b in
      let law = operation_lawful X owed site lattice sent c so_far op in
      let now = operation_bounds p b stands level bounds so_far op read.0 in
      let there : is_level site t.place.subject ≡ true = ap (is_level site) (law.subject p b stands) ∙ level in
      let rest = λ (results : List OpResult). behind_keeps os read.1 results t.place t.state (law.stands p b stands) there now in
      record {
        bounds = followed_any site.dom (both_seen X.level_of site.dom) (BothStand X.Fact site.dom) (λ q (v : Both X.Row). Bounds site v.world) so_far op t.place t.state t.answer (λ results. run_behind (operation X site sent c) results os t.place t.state) now
            (λ last. (rest (so_far ++ last ∷ [])).bounds);
        keeper = followed_at so_far op t.place t.state t.answer (λ results. run_behind (operation X site sent c) results os t.place t.state) (operation_at p b stands level bounds so_far op) (λ results. (rest results).keeper);
      }

  pub run_keeps : AllByRecursion IsOpRead c.ops → (p : Place) (b : Both X.Row) → BothStand X.Fact site.dom p b → is_level site p.subject ≡ true → Bounds site b.world → Keeps (run_all (operation X site sent c) c p b)
  unfolding run_all
  run_keeps read p b stands level bounds = chosen_any Keeps (c.minor == 2) _ _ (behind_keeps c.ops read [] p b stands level bounds) (record { bounds = bounds; keeper = tt })

  -- ---- the whole

  -- what is kept of a result, at the end of a run
  pub kept_within : (r : Ran (Both X.Row)) (kept : Kept) → BothStand X.Fact site.dom r.place r.state → Keeps r → Within site (done_to r.state.world (keep_in r.keeper kept r.place r.state.world))
  kept_within r kept stands keeps =
      let changes = (keep_in r.keeper kept r.place r.state.world).changes in
      all_keep site lattice r.place.subject changes r.state.world stands.world.facts
      (within_all site.dom r.place.subject changes r.state.world (keep_footprint site.dom r.keeper kept r.place r.state.world stands.world).within)
      (keep_brings site labels r.place r.state.world keeps.bounds.rows r.keeper kept keeps.keeper)
      (record { rows = keeps.bounds.rows; counts = keeps.bounds.counts })
