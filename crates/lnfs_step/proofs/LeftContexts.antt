-- Whatever COMPOUND is served, contexts stay.
use Rattle.std.proofs.Common.{◌≡◌, ℕ, Bool, true, false, cond, not, List, [], ◌∷◌, ◌++◌, Option, Some, None, refl, sym, subst, ◌∙◌, inl, inr}
use Rattle.std.specs.Prelude.{◌==◌, nat_le, slice_get}
use Rattle.std.specs.List.{find, AllByRecursion}
use Rattle.lnfs_calipso.specs.Label.{IsPreorderWithBottom}
use Rattle.lnfs_words.specs.Words.{is_empty}
use Rattle.lnfs_attrs.specs.declared.raw.RawAttrs.{RawAttrs}
use Rattle.lnfs_arguments.specs.declared.stateid.StateId.{StateId}
use Rattle.lnfs_arguments.specs.declared.statuses.TheConstants.{NFS4ERR_MINOR_VERS_MISMATCH, NFS4ERR_OP_NOT_IN_SESSION}
use Rattle.lnfs_arguments.specs.declared.types.Compound.{Compound}
use Rattle.lnfs_arguments.specs.declared.types.CreateSession.{CreateSession}
use Rattle.lnfs_arguments.specs.declared.types.Op.{Op}
use Rattle.lnfs_arguments.specs.declared.types.Op.TheVariants as ops
use Rattle.lnfs_arguments.specs.declared.types.Sequence.{Sequence}
use Rattle.lnfs_arguments.specs.declared.types.What.{What}
use Rattle.lnfs_results.specs.declared.types.OpResult.{OpResult}
use Rattle.lnfs_world.specs.World.{Kept, Client, Slot as SlotRow, Session, Node, Entry, Open, World, client_at, same_id, session_at}
use Rattle.lnfs_world.specs.Change.{Change, AddClient, SetClient, DropClient, AddSession, SetSession, DropSession, AddContext, DropContext, Make, Touch, Relabel, Link, Unlink, Drop, Move, AddOpen, SetOpen, EndOpen, apply, apply_all}
use Rattle.lnfs_world.specs.Effects.{attributes_changed, names_changed, name_added, data_changed, written, taken_out, directories_changed}
use Rattle.lnfs_world.specs.Opens.{ended}
use Rattle.lnfs_world.specs.Outcome.{Site, Place, Outcome}
use Rattle.lnfs_world.specs.Tree.{has_other_name}
use Rattle.lnfs_world.specs.Lawful.{Deed, deed_of}
use Rattle.lnfs_world.specs.Both.{Both, both_seen, BothStand, on_world}
use Rattle.lnfs_operations.specs.declared.Gate.TheVariants as gates
use Rattle.lnfs_operations.specs.Admission.{admission}
use Rattle.lnfs_operations.specs.Chain.{refuse, done, where_there}
use Rattle.lnfs_operations.specs.Close.{close}
use Rattle.lnfs_operations.specs.Create.{create}
use Rattle.lnfs_operations.specs.CreateSession.{is_replaced, create_session}
use Rattle.lnfs_operations.specs.DestroyClientId.{destroy_clientid, is_busy}
use Rattle.lnfs_operations.specs.DestroySession.{destroy_session}
use Rattle.lnfs_operations.specs.ExchangeId.{Arguments, is_pending, dropped, exchange_id}
use Rattle.lnfs_operations.specs.Extra.{Extra, AreLawful, further_deed}
use Rattle.lnfs_operations.specs.Identifiers.{client_named, session_named, session_under}
use Rattle.lnfs_operations.specs.Keeping.{next_sequence, kept_in, kept_under, kept_of}
use Rattle.lnfs_operations.specs.Link.{link}
use Rattle.lnfs_operations.specs.Open.{Arguments as OpenArguments, Wanted, cut, open_file}
use Rattle.lnfs_operations.specs.ReclaimComplete.{client_under, reclaimed}
use Rattle.lnfs_operations.specs.Remove.{remove}
use Rattle.lnfs_operations.specs.Rename.{Mover, rename}
use Rattle.lnfs_operations.specs.Sequence.{Again as ToldAgain, Sent, renewing, begun_in, sequence}
use Rattle.lnfs_operations.specs.Served.{Keeper, Nowhere, Slot, Record, Reply, row, row_in, further_reply, operation}
use Rattle.lnfs_operations.specs.SetAttr.{set_attr}
use Rattle.lnfs_operations.specs.SlotRule.{run_behind, run_all, result_of, keep_in, served}
use Rattle.lnfs_operations.specs.Write.{Arguments as WriteArguments, write}
use Rattle.lnfs_operations.proofs.Chains.{demand_any, where_any, in_order_any}
use Rattle.lnfs_operations.proofs.CreateLaws.{create_any}
use Rattle.lnfs_operations.proofs.CreateSessionLaws.{created_ends}
use Rattle.lnfs_operations.proofs.ExchangeIdLaws.{exchange_id_ends}
use Rattle.lnfs_operations.proofs.FileLaws.{close_any, write_any}
use Rattle.lnfs_operations.proofs.Namings.{renamed, link_any, remove_any, rename_any}
use Rattle.lnfs_operations.proofs.Once.{admitted_any}
use Rattle.lnfs_operations.proofs.Openings.{open_any}
use Rattle.lnfs_operations.proofs.ReadingRows.{Reads, row_reads}
use Rattle.lnfs_operations.proofs.ServedLaws.{operation_lawful}
use Rattle.lnfs_operations.proofs.SetAttrLaws.{set_attr_any}
use Rattle.lnfs_operations.proofs.SlotRules.{followed_any}

-- ---- changes

-- all but those of contexts
abbrev Leaves : Change → Type 0
Leaves (AddContext row) = ⊥
Leaves (DropContext context) = ⊥
Leaves c = Unit {0}

abbrev AllLeave : List Change → Type 0
AllLeave changes = AllByRecursion Leaves changes

change_leaves : (c : Change) (w : World) → Leaves c → (apply c w).contexts ≡ w.contexts
change_leaves (AddClient row) w leaves = refl
change_leaves (SetClient row) w leaves = refl
change_leaves (DropClient client) w leaves = refl
change_leaves (AddSession row) w leaves = refl
change_leaves (SetSession row) w leaves = refl
change_leaves (DropSession session) w leaves = refl
change_leaves (AddContext row) w leaves = absurd leaves
change_leaves (DropContext context) w leaves = absurd leaves
change_leaves (Make node entry) w leaves = refl
change_leaves (Touch node inner) w leaves = refl
change_leaves (Relabel node label inner) w leaves = refl
change_leaves (Link entry) w leaves = refl
change_leaves (Unlink entry) w leaves = refl
change_leaves (Drop entry) w leaves = refl
change_leaves (Move entry other) w leaves = refl
change_leaves (AddOpen row) w leaves = refl
change_leaves (SetOpen row) w leaves = refl
change_leaves (EndOpen opening) w leaves = refl

all_left : (changes : List Change) (w : World) → AllLeave changes → (apply_all changes w).contexts ≡ w.contexts
all_left [] w leave = refl
all_left (c ∷ cs) w leave = all_left cs (apply c w) leave.1 ∙ change_leaves c w leave.0

joined : (cs ds : List Change) → AllLeave cs → AllLeave ds → AllLeave (cs ++ ds)
joined [] ds first then = then
joined (c ∷ cs) ds first then = (first.0, joined cs ds first.1 then)

either : (b : Bool) (cs ds : List Change) → AllLeave cs → AllLeave ds → AllLeave (cond b cs ds)
either true cs ds first other = first
either false cs ds first other = other

ended_leave : (ends : List Open) → AllLeave (ended ends)
ended_leave [] = tt
ended_leave (o ∷ ends) = (tt, ended_leave ends)

dropped_leave : (o : Option Client) → AllLeave (dropped o)
dropped_leave None = tt
dropped_leave (Some d) = (tt, tt)

module _ (site : Site) (p : Place) (w : World) where
  abbrev Keeps : {A : Type 0} → Outcome A → Type 0
  Keeps o = AllLeave o.changes

  reads_keep : {A : Type 0} (o : Outcome A) → Reads p w o → Keeps o
  reads_keep o reads = elim reads.changes [
    | inl none ↦ subst AllLeave (sym none) tt
    | inr some ↦ subst AllLeave (sym some.2) (either (p.subject == some.0.label) (Touch some.0.id (record some.0.inner { accessed = p.moment }) ∷ []) [] (tt, tt) tt)
  ]

  -- ---- names, attributes and data

  create_keeps : (what : What) (name : List ℕ) (given : RawAttrs) → Keeps (create site what name given p w)
  create_keeps what name given = create_any Keeps site what name given p w (λ gate status. tt) (λ values label d read as_given may. (tt, (tt, tt)))

  link_keeps : (name : List ℕ) → Keeps (link site name p w)
  link_keeps name = link_any site p w Keeps name (λ gate status. tt) (λ n d is links free. (tt, (tt, (tt, tt))))

  taken_out_leave : (e : Entry) (n : Node) → AllLeave (taken_out p.moment w.entries e n)
  taken_out_leave e n = either (has_other_name w.entries e) (Touch n.id (attributes_changed p.moment n.inner) ∷ Unlink e ∷ []) (Drop e ∷ []) (tt, (tt, tt)) (tt, tt)

  remove_keeps : (name : List ℕ) → Keeps (remove site name p w)
  remove_keeps name = remove_any site p w Keeps name (λ gate status. tt) (λ d n e is named leaves. (tt, taken_out_leave e n))

  directories_leave : (from to : Node) → AllLeave (directories_changed p.moment from to)
  directories_leave from to =
      either (same_id from.id to.id) (Touch to.id (name_added p.moment to.inner) ∷ []) (Touch from.id (names_changed p.moment from.inner) ∷ Touch to.id (name_added p.moment to.inner) ∷ []) (tt, tt) (tt, (tt, tt))

  moved_keeps : (new : List ℕ) (m : Mover) (room : List Change) → AllLeave room → Keeps (renamed p new m room)
  moved_keeps new m room leave =
      let steps : List Change = directories_changed p.moment m.from m.to in
      joined (steps ++ room) _ (joined steps room (directories_leave m.from m.to) leave) (tt, tt)

  rename_keeps : (old new : List ℕ) → Keeps (rename site old new p w)
  rename_keeps old new = rename_any site p w Keeps old new (record {
    refused = λ gate status. tt;
    stays = λ m. tt;
    free = λ m from to named moves is. moved_keeps new m [] tt;
    onto = λ m e n from to named moves onto gives. moved_keeps new m (taken_out p.moment w.entries e n) (taken_out_leave e n);
  })

  set_attr_keeps : (id : StateId) (given : RawAttrs) → Keeps (set_attr site id given p w)
  set_attr_keeps id given = set_attr_any Keeps site id given p w (λ gate status. tt) tt
      (λ values label n limited read as_given may. (tt, tt)) (λ n level may. (tt, tt)) (λ n values may. (tt, tt))

  close_keeps : (id : StateId) → Keeps (close id p w)
  close_keeps id = close_any Keeps id p w (λ gate status. tt) (λ n o found named. (tt, tt))

  write_keeps : (args : WriteArguments) → Keeps (write site args p w)
  write_keeps args = write_any Keeps site args p w (λ gate status. tt) (λ n may.
      either (is_empty args.content) [] (Touch n.id (data_changed p.moment (written args.offset args.content n.inner.content) n.inner) ∷ []) tt (tt, tt))

  cut_leave : (wanted : Wanted) (n : Node) → AllLeave (cut p wanted n)
  cut_leave wanted n = either wanted.sized (Touch n.id (data_changed p.moment [] n.inner) ∷ []) [] (tt, tt) tt

  open_keeps : (args : OpenArguments) → Keeps (open_file site args p w)
  open_keeps args = open_any Keeps site args p w (record {
    refused = λ gate status. tt;
    makes = λ client name making wanted d may. (tt, (tt, (tt, tt)));
    joins = λ client wanted info n o may found. joined (cut p wanted n) _ (cut_leave wanted n) (tt, ended_leave _);
    adds = λ client wanted info n may none left. joined (cut p wanted n) _ (cut_leave wanted n) (tt, ended_leave _);
  })

  -- ---- clients and sessions

  exchange_id_keeps : (args : Arguments) → Keeps (exchange_id args p w)
  exchange_id_keeps args = exchange_id_ends Keeps args p w (λ gate status. tt) (λ t. tt) (λ few left.
      let pending = find (is_pending p.subject args.owner) w.clients in
      joined (dropped pending) _ (dropped_leave pending) (tt, tt))

  create_session_keeps : (args : CreateSession) (arguments : List ℕ) → Keeps (create_session args arguments p w)
  create_session_keeps args arguments =
      demand_any Keeps ((client_named args.client).level == p.subject) _ _ tt (λ own.
      where_any Keeps (client_at w.clients (client_named args.client)) _ _ (λ c found.
      created_ends Keeps args arguments p w c (λ gate status. tt) (λ k kept. tt) (λ large few left.
      let replaced = find (is_replaced c) w.clients in
      joined (dropped replaced) _ (dropped_leave replaced) (tt, (tt, tt)))) tt)

  destroy_session_keeps : (session : List ℕ) → Keeps (destroy_session session p w)
  destroy_session_keeps session =
      demand_any Keeps ((session_named session).level == p.subject) _ _ tt (λ own.
      where_any Keeps (session_under session w.sessions) _ _ (λ x found. (tt, tt)) tt)

  destroy_clientid_keeps : (client : ℕ) → Keeps (destroy_clientid client p w)
  destroy_clientid_keeps client =
      demand_any Keeps ((client_named client).level == p.subject) _ _ tt (λ own.
      where_any Keeps (client_at w.clients (client_named client)) _ _ (λ c found.
      demand_any Keeps (not (is_busy c.id w)) _ _ tt (λ idle. (tt, tt))) tt)

  begun_keeps : (x : Session) → Keeps (begun_in p w x)
  begun_keeps x = at (client_at w.clients (record { level = p.subject; number = x.client }))
    where
      at : (o : Option Client) → AllLeave (renewing p.moment o)
      at None = tt
      at (Some c) = (tt, tt)

  sequence_keeps : (args : Sequence) (sent : Sent) → Keeps (sequence args sent p w)
  sequence_keeps args sent =
      demand_any Keeps ((session_named args.session).level == p.subject) _ _ tt (λ own.
      where_any Keeps (session_under args.session w.sessions) _ _ (λ x found.
      demand_any Keeps (nat_le sent.size x.channel.max_request) _ _ tt (λ short.
      demand_any Keeps (nat_le sent.count x.channel.max_operations) _ _ tt (λ few.
      where_any Keeps (slice_get x.slots args.slot) _ _ (λ slot there.
      in_order_any Keeps p slot.sequence (next_sequence slot.sequence) slot.kept args.sequence sent.arguments (λ reply. done p (ToldAgain reply) []) _ (λ status. tt) (λ k kept. tt) (λ next. begun_keeps x)) tt))) tt)

  reclaimed_keeps : (one_fs : Bool) (c : Client) → Keeps (reclaimed one_fs p c)
  reclaimed_keeps true c = tt
  reclaimed_keeps false c = demand_any Keeps (not c.reclaimed) _ _ tt (λ first. (tt, tt))

  reclaim_keeps : (one_fs : Bool) (client : Option ℕ) → Keeps (where_there (client_under p.subject client w.clients) (reclaimed one_fs p) (refuse p gates.Session NFS4ERR_OP_NOT_IN_SESSION))
  reclaim_keeps one_fs None = tt
  reclaim_keeps one_fs (Some number) = where_any Keeps (client_at w.clients (record { level = p.subject; number = number })) _ _ (λ c found. reclaimed_keeps one_fs c) tt

  -- ---- each of the table

  row_keeps : (sent : Sent) (op : Op) → AllLeave (row site sent op p w).changes
  row_keeps sent (ops.ExchangeId verifier owner flags implementation) = exchange_id_keeps (record { verifier = verifier; owner = owner; flags = flags })
  row_keeps sent (ops.CreateSession args) = create_session_keeps args sent.arguments
  row_keeps sent (ops.DestroySession session) = destroy_session_keeps session
  row_keeps sent (ops.Sequence args) = sequence_keeps args sent
  row_keeps sent (ops.DestroyClientId client) = destroy_clientid_keeps client
  row_keeps sent (ops.ReclaimComplete one_fs) = reclaim_keeps one_fs p.client
  row_keeps sent (ops.Create what name given) = create_keeps what name given
  row_keeps sent (ops.Link name) = link_keeps name
  row_keeps sent (ops.Remove name) = remove_keeps name
  row_keeps sent (ops.Rename old new) = rename_keeps old new
  row_keeps sent (ops.SetAttr id given) = set_attr_keeps id given
  row_keeps sent (ops.Open seqid access deny client owner making claim) = open_keeps (record { access = access; deny = deny; owner = owner; making = making; claim = claim })
  row_keeps sent (ops.Close seqid id) = close_keeps id
  row_keeps sent (ops.Write id offset stable content) = write_keeps (record { id = id; offset = offset; stable = stable; content = content })
  row_keeps sent (ops.Outside number status) = tt
  row_keeps sent (ops.Extra number arguments) = tt
  row_keeps sent op = reads_keep _ (row_reads site sent p w op refl)

  -- ---- the keeping of a result

  kept_in_leaves : (slot : ℕ) (row : SlotRow) (o : Option Session) → AllLeave (kept_in p slot row o)
  kept_in_leaves slot row None = tt
  kept_in_leaves slot row (Some x) = (tt, tt)

  kept_under_leaves : (slot : ℕ) (row : SlotRow) (o : Option ℕ) → AllLeave (kept_under p slot row o w.sessions)
  kept_under_leaves slot row None = tt
  kept_under_leaves slot row (Some number) = kept_in_leaves slot row (session_at w.sessions (record { level = p.subject; number = number }))

  kept_of_leaves : (kept : Kept) (o : Option Client) → AllLeave (kept_of kept o)
  kept_of_leaves kept None = tt
  kept_of_leaves kept (Some c) = (tt, tt)

  keep_keeps : (keeper : Keeper) (kept : Kept) → AllLeave (keep_in keeper kept p w).changes
  keep_keeps Nowhere kept = tt
  keep_keeps (Slot slot sequence) kept = kept_under_leaves slot (record { sequence = sequence; kept = Some kept }) p.session
  keep_keeps (Record client) kept = kept_of_leaves kept _

-- ---- a COMPOUND

module _ (X : Extra) (owed : AreLawful X) (site : Site) (lattice : IsPreorderWithBottom site.dom) (sent : Sent) (c : Compound) where
  abbrev Stay : Both X.Row → Both X.Row → Type 0
  Stay b v = v.world.contexts ≡ b.world.contexts

  chosen_stay : (b : Bool) (x y : Deed Reply (Both X.Row)) (p : Place) (a : Both X.Row) → Stay a (x p a).state → Stay a (y p a).state → Stay a (cond b x y p a).state
  chosen_stay true x y p a r t = r
  chosen_stay false x y p a r t = t

  table_stay : (op : Op) (p : Place) (b : Both X.Row) → Stay b (on_world (deed_of (row site sent op)) p b).state
  table_stay op p b = all_left (row site sent op p b.world).changes b.world (row_keeps site p b.world sent op)

  row_in_stay : (op : Op) (p : Place) (b : Both X.Row) → BothStand X.Fact site.dom p b → Stay b (row_in X site sent op p b).state
  row_in_stay (ops.Extra number arguments) p b stands =
      chosen_stay (X.grammar.serves number) (further_reply number (further_deed X site number arguments)) (on_world (deed_of (row site sent (ops.Extra number arguments)))) p b
      (owed.tame site lattice number arguments p b stands).untouched.contexts (table_stay (ops.Extra number arguments) p b)
  row_in_stay op p b stands = table_stay op p b

  operation_stay : (so_far : List OpResult) (op : Op) (p : Place) (b : Both X.Row) → BothStand X.Fact site.dom p b → Stay b (operation X site sent c so_far op p b).state
  operation_stay so_far op p b stands =
      admitted_any (λ q (v : Both X.Row). Stay b v) op (admission X.grammar c so_far op p b.world) p b (row_in X site sent op p b) refl (row_in_stay op p b stands)

  behind_stay : (os : List Op) (so_far : List OpResult) (p : Place) (b : Both X.Row) → BothStand X.Fact site.dom p b → Stay b (run_behind (operation X site sent c) so_far os p b).state
  unfolding run_behind
  behind_stay [] so_far p b stands = refl
  behind_stay (op ∷ os) so_far p b stands =
      let t = operation X site sent c so_far op p b in
      let now = operation_stay so_far op p b stands in
      followed_any site.dom (both_seen X.level_of site.dom) (BothStand X.Fact site.dom) (λ q (v : Both X.Row). Stay b v) so_far op t.place t.state t.answer (λ results. run_behind (operation X site sent c) results os t.place t.state) now
      (λ last. behind_stay os (so_far ++ last ∷ []) t.place t.state ((operation_lawful X owed site lattice sent c so_far op).stands p b stands) ∙ now)

  run_stay : (p : Place) (b : Both X.Row) → BothStand X.Fact site.dom p b → Stay b (run_all (operation X site sent c) c p b).state
  unfolding run_all
  run_stay p b stands = at (c.minor == 2)
    where
      at : (same : Bool) → Stay b (cond same (run_behind (operation X site sent c) [] c.ops p b) (record { place = p; state = b; results = []; denial = Some (record { place = 0; number = 0; gate = gates.Outside; status = NFS4ERR_MINOR_VERS_MISMATCH }); again = None; keeper = Nowhere })).state
      at true = behind_stay c.ops [] p b stands
      at false = refl

  pub served_stay : (p : Place) (b : Both X.Row) → BothStand X.Fact site.dom p b → Stay b (served X site sent c p b).state
  unfolding served
  served_stay p b stands =
      let r = run_all (operation X site sent c) c p b in
      let kept : Kept = record { arguments = sent.arguments; reply = result_of c r.results r.again } in
      all_left (keep_in r.keeper kept r.place r.state.world).changes r.state.world (keep_keeps site r.place r.state.world r.keeper kept) ∙ run_stay p b stands
