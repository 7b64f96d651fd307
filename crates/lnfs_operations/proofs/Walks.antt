-- What holds of a world by its sessions and its clients' records: each operation of the table keeps it, and so do a
-- COMPOUND and the keeping of its result.
use Rattle.std.proofs.Common.{◌≡◌, ℕ, zero, suc, Bool, true, false, cond, ◌||◌, not, List, [], ◌∷◌, ◌++◌, Option, Some, None, refl, sym, subst, arith}
use Rattle.std.specs.Prelude.{◌==◌, nat_le, slice_get, replicate}
use Rattle.std.specs.List.{find, AllByRecursion}
use Rattle.lnfs_calipso.specs.Label.{IsPreorderWithBottom}
use Rattle.lnfs_types.specs.declared.event.Moment.{Moment}
use Rattle.lnfs_arguments.specs.declared.channel.Channel.{Channel as Asked}
use Rattle.lnfs_arguments.specs.declared.types.Op.{Op}
use Rattle.lnfs_arguments.specs.declared.types.Op.TheVariants as ops
use Rattle.lnfs_arguments.specs.declared.types.Compound.{Compound}
use Rattle.lnfs_arguments.specs.declared.types.Sequence.{Sequence}
use Rattle.lnfs_arguments.specs.declared.types.CreateSession.{CreateSession}
use Rattle.lnfs_arguments.specs.declared.statuses.TheConstants.{NFS4ERR_MINOR_VERS_MISMATCH, NFS4ERR_OP_NOT_IN_SESSION}
use Rattle.lnfs_results.specs.declared.types.OpResult.{OpResult}
use Rattle.lnfs_world.specs.World.{Id, Kept, Client, Slot as SlotRow, Session, Lasts, World, client_at, session_at, same_id, client_order, session_order}
use Rattle.lnfs_world.specs.Rows.{inserted}
use Rattle.lnfs_world.specs.Change.{Change, DropClient, DropSession, apply, apply_all}
use Rattle.lnfs_world.specs.Leases.{renewed}
use Rattle.lnfs_world.specs.Outcome.{Site, Place, Outcome, done_to}
use Rattle.lnfs_world.specs.Lawful.{Deed, deed_of}
use Rattle.lnfs_world.specs.Both.{Both, both_seen, BothStand, on_world}
use Rattle.lnfs_world.proofs.Rows.{all_find, all_left}
use Rattle.lnfs_world.proofs.Sorted.{all_inserted}
use Rattle.lnfs_operations.specs.declared.Gate.TheVariants as gates
use Rattle.lnfs_operations.specs.Admission.{admission}
use Rattle.lnfs_operations.specs.Chain.{done, refuse, where_there}
use Rattle.lnfs_operations.specs.CreateSession.{create_session, is_large_enough, granted_of, new_session, is_replaced, confirmed, fresh_slot}
use Rattle.lnfs_operations.specs.DestroyClientId.{destroy_clientid, is_busy}
use Rattle.lnfs_operations.specs.DestroySession.{destroy_session}
use Rattle.lnfs_operations.specs.ExchangeId.{Arguments, new_client, exchange_id, is_pending, dropped}
use Rattle.lnfs_operations.specs.Extra.{Extra, AreLawful, further_deed}
use Rattle.lnfs_operations.specs.Identifiers.{client_named, session_named, session_under}
use Rattle.lnfs_operations.specs.Keeping.{next_sequence, with_slot, kept_in, kept_under, kept_of}
use Rattle.lnfs_operations.specs.ReclaimComplete.{client_under, reclaimed}
use Rattle.lnfs_operations.specs.Sequence.{Again, Sent, renewing, begun_in, sequence}
use Rattle.lnfs_operations.specs.Served.{Keeper, Nowhere, Slot, Record, Reply, row, row_in, further_reply, operation}
use Rattle.lnfs_operations.specs.Sizes.{NodeFits, LabelsFit}
use Rattle.lnfs_operations.specs.SlotRule.{run_behind, run_all, keep_in}
use Rattle.lnfs_operations.proofs.Chains.{demand_any, where_any, in_order_any}
use Rattle.lnfs_operations.proofs.ChangingRows.{is_changing, row_changes}
use Rattle.lnfs_operations.proofs.CreateSessionLaws.{created_any}
use Rattle.lnfs_operations.proofs.ExchangeIdLaws.{exchange_id_any}
use Rattle.lnfs_operations.proofs.Once.{admitted_any}
use Rattle.lnfs_operations.proofs.ReadingRows.{is_reading, row_reads, reads_any, all_accessed_fit}
use Rattle.lnfs_operations.proofs.ServedLaws.{operation_lawful}
use Rattle.lnfs_operations.proofs.SessionLaws.{client_level}
use Rattle.lnfs_operations.proofs.SlotRules.{followed_any}

-- ---- slots

pub all_fresh : (P : SlotRow → Type 0) → P fresh_slot → (n : ℕ) → AllByRecursion P (replicate n fresh_slot)
all_fresh P fresh zero = tt
all_fresh P fresh (suc n) = (fresh, all_fresh P fresh n)

pub all_with_slot : (P : SlotRow → Type 0) (n : ℕ) (slot : SlotRow) (slots : List SlotRow) → P slot → AllByRecursion P slots → AllByRecursion P (with_slot n slot slots)
all_with_slot P n slot [] is all = tt
all_with_slot P zero slot (x ∷ xs) is all = (is, all.1)
all_with_slot P (suc n) slot (x ∷ xs) is all = (all.0, all_with_slot P n slot xs is all.1)

pub slot_of_all : (P : SlotRow → Type 0) (n : ℕ) (slots : List SlotRow) (slot : SlotRow) → AllByRecursion P slots → slice_get slots n ≡ Some slot → P slot
slot_of_all P n [] slot all is = absurd (grind arith)
slot_of_all P zero (x ∷ xs) slot all is = let same : x ≡ slot = cc in subst P same all.0
slot_of_all P (suc n) (x ∷ xs) slot all is = slot_of_all P n xs slot all.1 is

-- ---- what holds

-- What holds of a world, and what the walk needs of it. `Spells` is what the sizes of nodes may stand on: that the site's
-- labels fit, or nothing where no node changes.
pub record Walk (Spells : Type 0) : Type 1 where
  pub Holds : World → Type 0
  -- of each session and of each client's record, of a result that a session may keep in a slot, and of a result that a
  -- client's record of a level may keep
  pub OfSession : Session → Type 0
  pub OfClient : Client → Type 0
  pub OfSlot : Session → Kept → Type 0
  pub OfRecord : (level : ℕ) → Kept → Type 0
  -- for the rows that an operation leaves, and for one that it sets from what was there
  pub sessions : (w : World) → Holds w → AllByRecursion OfSession w.sessions
  pub clients : (w : World) → Holds w → AllByRecursion OfClient w.clients
  -- for the world after an operation: its rows are given, and the sizes of its nodes by those before
  pub holds : (w v : World) → Holds w → AllByRecursion OfSession v.sessions → AllByRecursion OfClient v.clients → (Spells → AllByRecursion NodeFits w.nodes → AllByRecursion NodeFits v.nodes) → Holds v
  -- for a new record, and for one that is confirmed, whose lease begins again, that has reclaimed, or that gets a result
  pub is_new : (i : Id) (args : Arguments) → OfClient (new_client i args)
  pub when_confirmed : (p : Place) (c : Client) → OfClient c → OfClient (confirmed p c)
  pub when_renewed : (moment : Moment) (c : Client) → OfClient c → OfClient (renewed moment c)
  pub when_reclaimed : (c : Client) → OfClient c → OfClient (record c { reclaimed = true })
  pub when_kept : (c : Client) (kept : Kept) → OfClient c → OfRecord c.id.level kept → OfClient (record c { sequence = next_sequence c.sequence; kept = Some kept })
  -- for the session that CREATE_SESSION makes
  pub made : (i : Id) (c : Client) (fore : Asked) → is_large_enough fore ≡ true → OfSession (new_session i c (granted_of fore))
  -- for the session of which a slot gets a result
  pub kept : (x : Session) (slot sequence : ℕ) (kept : Kept) → OfSession x → OfSlot x kept → OfSession (record x { slots = with_slot slot (record { sequence = sequence; kept = Some kept }) x.slots })

module _ {Spells : Type 0} (W : Walk Spells) where
  -- ---- changes of clients and sessions, that leave the nodes

  -- a row that is added, or takes the place of one
  set_client : (row : Client) (w : World) (lasts : Lasts) → W.OfClient row → W.Holds w → W.Holds (record w { clients = inserted client_order row w.clients; lasts = lasts })
  set_client row w lasts is holds = W.holds w _ holds (W.sessions w holds) (all_inserted client_order W.OfClient row w.clients is (W.clients w holds)) (λ spells fit. fit)

  drop_client : (i : Id) (w : World) → W.Holds w → W.Holds (apply (DropClient i) w)
  drop_client i w holds = W.holds w _ holds (all_left W.OfSession _ w.sessions (W.sessions w holds)) (all_left W.OfClient _ w.clients (W.clients w holds)) (λ spells fit. fit)

  set_session : (row : Session) (w : World) (lasts : Lasts) → W.OfSession row → W.Holds w → W.Holds (record w { sessions = inserted session_order row w.sessions; lasts = lasts })
  set_session row w lasts is holds = W.holds w _ holds (all_inserted session_order W.OfSession row w.sessions is (W.sessions w holds)) (W.clients w holds) (λ spells fit. fit)

  drop_session : (i : Id) (w : World) → W.Holds w → W.Holds (apply (DropSession i) w)
  drop_session i w holds = W.holds w _ holds (all_left W.OfSession _ w.sessions (W.sessions w holds)) (W.clients w holds) (λ spells fit. fit)

  -- a record that goes, if there is one, before other changes
  dropped_before : (o : Option Client) (rest : List Change) (w : World) → ((v : World) → W.Holds v → W.Holds (apply_all rest v)) → W.Holds w → W.Holds (apply_all (dropped o ++ rest) w)
  dropped_before None rest w later holds = later w holds
  dropped_before (Some d) rest w later holds = later (apply (DropClient d.id) w) (drop_client d.id w holds)

  client_holds : (w : World) → W.Holds w → (i : Id) (c : Client) → client_at w.clients i ≡ Some c → W.OfClient c
  client_holds w holds i c found = (all_find W.OfClient (λ c. same_id i c.id) w.clients c (W.clients w holds) found).0

  -- clients and sessions as they were, and the sizes of nodes as far as they are kept
  beside : (w v : World) → W.Holds w → v.sessions ≡ w.sessions → v.clients ≡ w.clients → (Spells → AllByRecursion NodeFits w.nodes → AllByRecursion NodeFits v.nodes) → W.Holds v
  beside w v holds sessions clients nodes = W.holds w v holds (subst (AllByRecursion W.OfSession) (sym sessions) (W.sessions w holds)) (subst (AllByRecursion W.OfClient) (sym clients) (W.clients w holds)) nodes

  module _ (p : Place) (w : World) (holds : W.Holds w) where
    -- what is left behind an outcome
    abbrev Left : {A : Type 0} → Outcome A → Type 0
    Left o = W.Holds (done_to w o)

    -- ---- the operations on clients and sessions

    exchange_id_left : (args : Arguments) → Left (exchange_id args p w)
    exchange_id_left args = exchange_id_any Left args p w (λ gate status. holds) (λ t. holds)
        (dropped_before (find (is_pending p.subject args.owner) w.clients) _ w (λ v. set_client _ v _ (W.is_new _ args)) holds)

    create_session_left : (args : CreateSession) (arguments : List ℕ) → Left (create_session args arguments p w)
    create_session_left args arguments =
        demand_any Left ((client_named args.client).level == p.subject) _ _ holds (λ own.
        where_any Left (client_at w.clients (client_named args.client)) _ _ (λ c found.
        created_any Left args arguments p w c (λ gate status. holds) (λ k kept. holds) (λ large.
        dropped_before (find (is_replaced c) w.clients) _ w (λ v left.
        set_session _ _ _ (W.made _ c args.fore large)
        (set_client (confirmed p c) v v.lasts (W.when_confirmed p c (client_holds w holds (client_named args.client) c found)) left)) holds)) holds)

    destroy_session_left : (session : List ℕ) → Left (destroy_session session p w)
    destroy_session_left session =
        demand_any Left ((session_named session).level == p.subject) _ _ holds (λ own.
        where_any Left (session_under session w.sessions) _ _ (λ x found. drop_session x.id w holds) holds)

    begun_left : (x : Session) → Left (begun_in p w x)
    begun_left x = at (client_at w.clients (record { level = p.subject; number = x.client })) refl
      where
        at : (o : Option Client) → client_at w.clients (record { level = p.subject; number = x.client }) ≡ o → W.Holds (apply_all (renewing p.moment o) w)
        at None there = holds
        at (Some c) there = set_client (renewed p.moment c) w w.lasts (W.when_renewed p.moment c (client_holds w holds _ c there)) holds

    sequence_left : (args : Sequence) (sent : Sent) → Left (sequence args sent p w)
    sequence_left args sent =
        demand_any Left ((session_named args.session).level == p.subject) _ _ holds (λ own.
        where_any Left (session_under args.session w.sessions) _ _ (λ x found.
        demand_any Left (nat_le sent.size x.channel.max_request) _ _ holds (λ short.
        demand_any Left (nat_le sent.count x.channel.max_operations) _ _ holds (λ few.
        where_any Left (slice_get x.slots args.slot) _ _ (λ slot there.
        in_order_any Left p slot.sequence (next_sequence slot.sequence) slot.kept args.sequence sent.arguments (λ reply. done p (Again reply) []) _ (λ status. holds) (λ k kept. holds) (λ next. begun_left x)) holds))) holds)

    destroy_clientid_left : (client : ℕ) → Left (destroy_clientid client p w)
    destroy_clientid_left client =
        demand_any Left ((client_named client).level == p.subject) _ _ holds (λ own.
        where_any Left (client_at w.clients (client_named client)) _ _ (λ c found.
        demand_any Left (not (is_busy c.id w)) _ _ holds (λ idle. drop_client c.id w holds)) holds)

    reclaimed_left : (one_fs : Bool) (number : ℕ) (c : Client) → client_at w.clients (record { level = p.subject; number = number }) ≡ Some c → Left (reclaimed one_fs p c)
    reclaimed_left true number c found = holds
    reclaimed_left false number c found = demand_any Left (not c.reclaimed) _ _ holds (λ first. set_client (record c { reclaimed = true }) w w.lasts (W.when_reclaimed c (client_holds w holds _ c found)) holds)

    reclaim_under_left : (one_fs : Bool) (client : Option ℕ) → Left (where_there (client_under p.subject client w.clients) (reclaimed one_fs p) (refuse p gates.Session NFS4ERR_OP_NOT_IN_SESSION))
    reclaim_under_left one_fs None = holds
    reclaim_under_left one_fs (Some number) = where_any Left (client_at w.clients (record { level = p.subject; number = number })) _ _ (λ c found. reclaimed_left one_fs number c found) holds

  -- ---- the keeping of a result

  -- what has to hold of a result where it is kept
  abbrev pub MayKeep : Keeper → Kept → Place → World → Type 0
  MayKeep Nowhere kept p w = Unit {0}
  MayKeep (Slot slot sequence) kept p w = (number : ℕ) (x : Session) → p.session ≡ Some number → session_at w.sessions (record { level = p.subject; number = number }) ≡ Some x → W.OfSlot x kept
  MayKeep (Record client) kept p w = W.OfRecord p.subject kept

  module _ (p : Place) (w : World) (holds : W.Holds w) (kept : Kept) where
    kept_in_left : (slot sequence number : ℕ) (o : Option Session) → session_at w.sessions (record { level = p.subject; number = number }) ≡ o → ((x : Session) → o ≡ Some x → W.OfSlot x kept) → W.Holds (apply_all (kept_in p slot (record { sequence = sequence; kept = Some kept }) o) w)
    kept_in_left slot sequence number None found may = holds
    kept_in_left slot sequence number (Some x) found may =
        let before = (all_find W.OfSession (λ x. same_id (record { level = p.subject; number = number }) x.id) w.sessions x (W.sessions w holds) found).0 in
        set_session (record x { slots = with_slot slot (record { sequence = sequence; kept = Some kept }) x.slots }) w w.lasts (W.kept x slot sequence kept before (may x refl)) holds

    kept_under_left : (slot sequence : ℕ) (o : Option ℕ) → p.session ≡ o → MayKeep (Slot slot sequence) kept p w → W.Holds (apply_all (kept_under p slot (record { sequence = sequence; kept = Some kept }) o w.sessions) w)
    kept_under_left slot sequence None named may = holds
    kept_under_left slot sequence (Some number) named may = kept_in_left slot sequence number _ refl (λ x found. may number x named found)

    kept_of_left : (number : ℕ) (o : Option Client) → client_at w.clients (record { level = p.subject; number = number }) ≡ o → W.OfRecord p.subject kept → W.Holds (apply_all (kept_of kept o) w)
    kept_of_left number None found may = holds
    kept_of_left number (Some d) found may = set_client (record d { sequence = next_sequence d.sequence; kept = Some kept }) w w.lasts
        (W.when_kept d kept (client_holds w holds _ d found) (subst (λ (i : Id). W.OfRecord i.level kept) (sym (client_level (record { level = p.subject; number = number }) w.clients d found)) may)) holds

    pub keep_left : (keeper : Keeper) → MayKeep keeper kept p w → W.Holds (done_to w (keep_in keeper kept p w))
    keep_left Nowhere may = holds
    keep_left (Slot slot sequence) may = kept_under_left slot sequence p.session refl may
    keep_left (Record client) may = kept_of_left client _ refl may

-- ---- a COMPOUND

-- `Spells` is what the sizes of nodes stand on: labels of the site that fit, or what never holds, for a walk that says nothing of
-- nodes. Such a walk goes through whole COMPOUNDs, with further operations.
module _ {Spells : Type 0} (site : Site) (gives : Spells → LabelsFit site) (W : Walk Spells) (sent : Sent) where
  module _ (p : Place) (w : World) (holds : W.Holds w) where
    -- an operation that reads or changes nodes
    on_nodes : (op : Op) (reads changes : Bool) → is_reading op ≡ reads → is_changing op ≡ changes → (reads || changes) ≡ true → W.Holds (done_to w (row site sent op p w))
    on_nodes op true changes reading changing is = reads_any p w W.Holds (row site sent op p w) (row_reads site sent p w op reading) holds (λ n found. beside W w _ holds refl refl (λ spells. all_accessed_fit p w n found))
    on_nodes op false true reading changing is = let left = (row_changes site p w sent op changing).changed in beside W w _ holds left.beside.sessions left.beside.clients (λ spells. left.sizes (gives spells))
    on_nodes op false false reading changing is = absurd (grind arith)

    pub row_left : (op : Op) → W.Holds (done_to w (row site sent op p w))
    row_left (ops.ExchangeId verifier owner flags implementation) = exchange_id_left W p w holds (record { verifier = verifier; owner = owner; flags = flags })
    row_left (ops.CreateSession args) = create_session_left W p w holds args sent.arguments
    row_left (ops.DestroySession session) = destroy_session_left W p w holds session
    row_left (ops.Sequence args) = sequence_left W p w holds args sent
    row_left (ops.DestroyClientId client) = destroy_clientid_left W p w holds client
    row_left (ops.ReclaimComplete one_fs) = reclaim_under_left W p w holds one_fs p.client
    row_left (ops.Outside number status) = holds
    row_left (ops.Extra number arguments) = holds
    row_left op = on_nodes op _ _ refl refl refl

  module _ (none : Spells → ⊥) (X : Extra) (owed : AreLawful X) (lattice : IsPreorderWithBottom site.dom) (c : Compound) where
    chosen_left : (b : Bool) (x y : Deed Reply (Both X.Row)) (p : Place) (a : Both X.Row) → W.Holds (x p a).state.world → W.Holds (y p a).state.world → W.Holds (cond b x y p a).state.world
    chosen_left true x y p a r t = r
    chosen_left false x y p a r t = t

    row_in_left : (op : Op) (p : Place) (b : Both X.Row) → BothStand X.Fact site.dom p b → W.Holds b.world → W.Holds (row_in X site sent op p b).state.world
    row_in_left (ops.Extra number arguments) p b stands holds =
        let tame = owed.tame site lattice number arguments p b stands in
        chosen_left (X.grammar.serves number) (further_reply number (further_deed X site number arguments)) (on_world (deed_of (row site sent (ops.Extra number arguments)))) p b
        (beside W b.world _ holds tame.untouched.sessions tame.untouched.clients (λ spells. absurd (none spells))) holds
    row_in_left op p b stands holds = row_left p b.world holds op

    pub operation_left : (so_far : List OpResult) (op : Op) (p : Place) (b : Both X.Row) → BothStand X.Fact site.dom p b → W.Holds b.world → W.Holds (operation X site sent c so_far op p b).state.world
    operation_left so_far op p b stands holds =
        admitted_any (λ q (v : Both X.Row). W.Holds v.world) op (admission X.grammar c so_far op p b.world) p b (row_in X site sent op p b) holds (row_in_left op p b stands holds)

    behind_left : (os : List Op) (so_far : List OpResult) (p : Place) (b : Both X.Row) → BothStand X.Fact site.dom p b → W.Holds b.world → W.Holds (run_behind (operation X site sent c) so_far os p b).state.world
    unfolding run_behind
    behind_left [] so_far p b stands holds = holds
    behind_left (op ∷ os) so_far p b stands holds =
        let t = operation X site sent c so_far op p b in
        let now = operation_left so_far op p b stands holds in
        followed_any site.dom (both_seen X.level_of site.dom) (BothStand X.Fact site.dom) (λ q (v : Both X.Row). W.Holds v.world) so_far op t.place t.state t.answer (λ results. run_behind (operation X site sent c) results os t.place t.state) now
        (λ last. behind_left os (so_far ++ last ∷ []) t.place t.state ((operation_lawful X owed site lattice sent c so_far op).stands p b stands) now)

    pub run_left : (p : Place) (b : Both X.Row) → BothStand X.Fact site.dom p b → W.Holds b.world → W.Holds (run_all (operation X site sent c) c p b).state.world
    unfolding run_all
    run_left p b stands holds = at (c.minor == 2)
      where
        at : (same : Bool) → W.Holds (cond same (run_behind (operation X site sent c) [] c.ops p b) (record { place = p; state = b; results = []; denial = Some (record { place = 0; number = 0; gate = gates.Outside; status = NFS4ERR_MINOR_VERS_MISMATCH }); again = None; keeper = Nowhere })).state.world
        at true = behind_left c.ops [] p b stands holds
        at false = holds
