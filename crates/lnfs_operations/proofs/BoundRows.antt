-- What each operation of the table brings to the bounds of rows.
use Rattle.std.proofs.Common.{◌≡◌, ◌≤◌, ◌<◌, ◌+◌, ℕ, Bool, true, false, cond, not, ◌&&◌, List, [], ◌∷◌, ◌++◌, length, Option, Some, None, refl, sym, ap, subst, ◌∙◌, arith, inl, inr}
use Rattle.std.specs.Prelude.{◌==◌, bit_or, count_by, filter, nat_le, nat_lt, slice_get, IfSome}
use Rattle.std.specs.Option.{option_map}
use Rattle.std.specs.List.{find}
use Rattle.std.proofs.lemmas.Bool.{and_parts, false≢true}
use Rattle.std.proofs.lemmas.Bool.Decides.{nat_tests}
use Rattle.std.proofs.lemmas.Nat.{le_or_l, or_lt}
use Rattle.lnfs_words.specs.Words.{is_empty}
use Rattle.lnfs_attrs.specs.declared.raw.RawAttrs.{RawAttrs}
use Rattle.lnfs_attrs.specs.declared.view.LabelValue.{LabelValue}
use Rattle.lnfs_arguments.specs.declared.numbers.TheConstants.{OWNER_LIMIT}
use Rattle.lnfs_arguments.specs.declared.stateid.StateId.{StateId}
use Rattle.lnfs_arguments.specs.declared.types.What.{What}
use Rattle.lnfs_arguments.specs.declared.types.What.TheVariants.{Dir, Symlink}
use Rattle.lnfs_arguments.specs.declared.types.Making.{Making}
use Rattle.lnfs_arguments.specs.declared.types.CreateSession.{CreateSession}
use Rattle.lnfs_arguments.specs.declared.types.Sequence.{Sequence}
use Rattle.lnfs_arguments.specs.declared.types.Op.{Op}
use Rattle.lnfs_arguments.specs.declared.types.Op.TheVariants as ops
use Rattle.lnfs_world.specs.declared.numbers.TheConstants.{LAST_NUMBER, LAST_SEQUENCE, MOST_FILE, OPENS_OF_A_LEVEL}
use Rattle.lnfs_world.specs.World.{Id, Client, Session, Slot as SlotRow, Kept, Node, Entry, Open, Stored, World, same_id, client_at, session_at, node_at, is_directory, last_of, Inner}
use Rattle.lnfs_world.specs.Change.{Change, Touch, Unlink, Drop, Move, DropClient, apply, apply_all, is_session_of}
use Rattle.lnfs_world.specs.Effects.{attributes_changed, names_changed, name_added, data_changed, written, size_written, has_cookie, has_number, next_id, next_entry, taken_out, directories_changed}
use Rattle.lnfs_world.specs.Facts.{Facts, same_opening}
use Rattle.lnfs_world.specs.Opens.{sequence_after, ended}
use Rattle.lnfs_world.specs.Outcome.{Site, Place, Outcome}
use Rattle.lnfs_world.specs.Tree.{has_other_name}
use Rattle.lnfs_world.specs.Usage.{nodes_used}
use Rattle.lnfs_world.proofs.Nodes.{told-touched}
use Rattle.lnfs_world.proofs.Rows.{all_find}
use Rattle.lnfs_world.proofs.Seen.{node_at-id}
use Rattle.lnfs_operations.specs.declared.Gate.TheVariants as gates
use Rattle.lnfs_operations.specs.declared.numbers.TheConstants.{CLIENTS_OF_A_LEVEL, SESSIONS_OF_A_LEVEL, MOST_MODE, OPEN4_SHARE_ACCESS_BOTH}
use Rattle.lnfs_arguments.specs.declared.statuses.TheConstants.{NFS4ERR_OP_NOT_IN_SESSION}
use Rattle.lnfs_operations.specs.Accessed.{accessed}
use Rattle.lnfs_operations.specs.Bounds.{IsGivenBy, ClientBounds, SessionBounds, InnerBounds, NodeBounds, EntryBounds, OpenBounds, RowBounds, HoldsBy, is_well_formed}
use Rattle.lnfs_operations.specs.Sizes.{is_level, LabelsFit, IsOpRead}
use Rattle.lnfs_operations.specs.Chain.{refuse, done, where_there}
use Rattle.lnfs_operations.specs.Close.{close}
use Rattle.lnfs_operations.specs.Create.{mode_of, kind_of, text_of, new_inner, has_room, new_node, create}
use Rattle.lnfs_operations.specs.CreateSession.{sessions_of, granted_of, new_session, is_replaced, confirmed, create_session}
use Rattle.lnfs_operations.specs.DestroyClientId.{destroy_clientid, is_busy}
use Rattle.lnfs_operations.specs.DestroySession.{destroy_session}
use Rattle.lnfs_operations.specs.ExchangeId.{Arguments, is_pending, others_of, dropped, new_client, exchange_id}
use Rattle.lnfs_operations.specs.Given.{is_mode, GivenLabel, spelled_by, level_or}
use Rattle.lnfs_operations.specs.Identifiers.{client_named, session_named, session_under}
use Rattle.lnfs_operations.specs.Keeping.{next_sequence, kept_in, kept_under, kept_of}
use Rattle.lnfs_operations.specs.Link.{link}
use Rattle.lnfs_operations.specs.Open.{Arguments as OpenArguments, access_of, Wanted, verifier_of, own_open, new_open, joined, has_open_left, file_mode, new_file, cut, open_file}
use Rattle.lnfs_operations.specs.ReclaimComplete.{client_under, reclaimed}
use Rattle.lnfs_operations.specs.Remove.{remove}
use Rattle.lnfs_operations.specs.Rename.{Mover, rename}
use Rattle.lnfs_operations.specs.Sequence.{Again as ToldAgain, Sent, renewing, begun_in, sequence}
use Rattle.lnfs_operations.specs.Served.{Keeper, Nowhere, Slot, Record, row}
use Rattle.lnfs_operations.specs.SetAttr.{size_set, set_attr}
use Rattle.lnfs_operations.specs.SlotRule.{keep_in}
use Rattle.lnfs_operations.specs.Write.{Arguments as WriteArguments, write}
use Rattle.lnfs_operations.proofs.BoundChanges.{Brings, AllBring, bring_joined}
use Rattle.lnfs_operations.proofs.Chains.{demand_any, where_any, in_order_any}
use Rattle.lnfs_operations.proofs.CountLaws.{count_left, count_narrow}
use Rattle.lnfs_operations.proofs.CreateLaws.{create_any}
use Rattle.lnfs_operations.proofs.CreateSessionLaws.{created_ends}
use Rattle.lnfs_operations.proofs.ExchangeIdLaws.{exchange_id_ends}
use Rattle.lnfs_operations.proofs.FileLaws.{IsFile, close_any, write_any}
use Rattle.lnfs_operations.proofs.GivenLaws.{IsGiven}
use Rattle.lnfs_operations.proofs.Namings.{IsOwnDirectory, renamed, link_any, remove_any, rename_any}
use Rattle.lnfs_operations.proofs.NodeBounds.{length-written, cookies_from, accessed_bounds, stored_bounds, attributes_bounds, names_bounds, added_bounds, data_bounds, mode_bounds, size_bounds, kind_at, touch_brings}
use Rattle.lnfs_operations.proofs.Openings.{Shares, open_any}
use Rattle.lnfs_operations.proofs.Owners.{none_found, none_pending}
use Rattle.lnfs_operations.proofs.ReadingRows.{Reads, row_reads}
use Rattle.lnfs_operations.proofs.SetAttrLaws.{set_attr_any}
use Rattle.lnfs_operations.proofs.Walks.{all_fresh, all_with_slot}

-- ---- identifiers and sequences

pub next_given : (site : Site) (lasts : List Id) (level : ℕ) → is_level site level ≡ true → nat_lt (last_of level lasts) LAST_NUMBER ≡ true → IsGivenBy site (next_id lasts level)
next_given site lasts level is left = record { level = is; number = (omega arith, grind (arith, nat_tests, left)) }

pub next_bound : (n : ℕ) → n ≤ LAST_SEQUENCE → next_sequence n ≤ LAST_SEQUENCE
next_bound n most = at (n == LAST_SEQUENCE) refl
  where
    at : (b : Bool) → (n == LAST_SEQUENCE) ≡ b → cond b 0 (n + 1) ≤ LAST_SEQUENCE
    at true is = omega arith
    at false is = grind (arith, nat_tests, is, most)

-- ---- opens

joined_bits : (a b : ℕ) → a ≤ OPEN4_SHARE_ACCESS_BOTH → b ≤ OPEN4_SHARE_ACCESS_BOTH → bit_or a b ≤ OPEN4_SHARE_ACCESS_BOTH
joined_bits a b most more = omega (arith, or_lt 2 a b (omega (arith, most)) (omega (arith, more)))

access_some : (args : OpenArguments) → Shares args → 1 ≤ access_of args
access_some args shares = let some = shares.some in grind (arith, nat_tests, some)

access_most : (args : OpenArguments) → access_of args ≤ OPEN4_SHARE_ACCESS_BOTH
access_most args = omega arith

deny_most : (args : OpenArguments) → Shares args → args.deny ≤ OPEN4_SHARE_ACCESS_BOTH
deny_most args shares = let known = shares.known in grind (arith, nat_tests, known)

after_bound : (n : ℕ) → n ≤ LAST_SEQUENCE → (1 ≤ sequence_after n) × (sequence_after n ≤ LAST_SEQUENCE)
after_bound n most = at (n == LAST_SEQUENCE) refl
  where
    at : (b : Bool) → (n == LAST_SEQUENCE) ≡ b → (1 ≤ cond b 1 (n + 1)) × (cond b 1 (n + 1) ≤ LAST_SEQUENCE)
    at true is = (omega arith, omega arith)
    at false is = (omega arith, grind (arith, nat_tests, is, most))

joined_bounds : (site : Site) (args : OpenArguments) (o : Open) → Shares args → OpenBounds site o → OpenBounds site (joined args o)
joined_bounds site args o shares is = record {
  id = is.id;
  owner = is.owner;
  access = (omega (arith, is.access.0, le_or_l o.access (access_of args)), joined_bits o.access (access_of args) is.access.1 (access_most args));
  deny = joined_bits o.deny args.deny is.deny (deny_most args shares);
  sequence = after_bound o.sequence is.sequence.1;
}

ended_bring : (site : Site) (ends : List Open) (w : World) → AllBring site w (ended ends)
ended_bring site [] w = tt
ended_bring site (o ∷ ends) w = (tt, ended_bring site ends _)

-- ---- data

some_bytes : (bytes : List ℕ) → is_empty bytes ≡ false → 0 < length bytes
some_bytes [] is = absurd (false≢true (sym is))
some_bytes (b ∷ bytes) is = omega arith

-- ---- new nodes

mode_bound : (what : What) (mode : Option ℕ) → is_mode mode ≡ true → mode_of what mode ≤ MOST_MODE
mode_bound what (Some mode) is = grind (arith, nat_tests, is)
mode_bound Dir None is = omega arith
mode_bound (Symlink text) None is = omega arith

file_mode_bound : (mode : Option ℕ) → is_mode mode ≡ true → file_mode mode ≤ MOST_MODE
file_mode_bound None is = omega arith
file_mode_bound (Some mode) is = grind (arith, nat_tests, is)

-- a result is kept in a slot under a sequence
abbrev pub IsKeeper : Keeper → Type 0
IsKeeper Nowhere = Unit {0}
IsKeeper (Slot slot sequence) = sequence ≤ LAST_SEQUENCE
IsKeeper (Record client) = Unit {0}

module _ (site : Site) (labels : LabelsFit site) where
  -- a level that was given, or that of the directory
  given_level : (value : Option LabelValue) (label : Option GivenLabel) (level : ℕ) → is_level site level ≡ true → IsGiven site value label → is_level site (level_or level label) ≡ true
  given_level value None level is as_given = is
  given_level None (Some label) level is as_given = absurd (grind (arith, as_given))
  given_level (Some v) (Some label) level is as_given =
      let same : as_given.0 ≡ label.level = let e = as_given.2 in cc in
      subst (λ l. is_level site l ≡ true) same (labels.levels (spelled_by v) as_given.0 as_given.1)

  module _ (p : Place) (w : World) (rows : RowBounds site w) where
    abbrev Keeps : {A : Type 0} → Outcome A → Type 0
    Keeps o = AllBring site w o.changes

    -- ---- rows that are found

    found_client : (i : Id) (c : Client) → client_at w.clients i ≡ Some c → ClientBounds site c
    found_client i c found = (all_find (ClientBounds site) (λ c. same_id i c.id) w.clients c rows.clients found).0

    found_node : (i : Id) (n : Node) → node_at w.nodes i ≡ Some n → NodeBounds site n
    found_node i n found = (all_find (NodeBounds site) (λ n. same_id i n.id) w.nodes n rows.nodes found).0

    -- a node that is found, in a world with the same kinds
    touch_found : (v : World) (n : Node) (inner : Inner) → node_at w.nodes n.id ≡ Some n → kind_at v.nodes n.id ≡ kind_at w.nodes n.id → InnerBounds n.kind inner → Brings site v (Touch n.id inner)
    touch_found v n inner there kinds is = touch_brings site v n.id inner n.kind (kinds ∙ ap (option_map (λ (m : Node). m.kind)) there) is

    kinds_touched : (i : Id) (inner : Inner) (v : World) (j : Id) → kind_at v.nodes j ≡ kind_at w.nodes j → kind_at (apply (Touch i inner) v).nodes j ≡ kind_at w.nodes j
    kinds_touched i inner v j before = told-touched (λ n. n.kind) i inner (λ n. refl) j v.nodes ∙ before

    -- ---- operations that read

    accessed_keeps : (n : Node) → node_at w.nodes n.id ≡ Some n → AllBring site w (accessed p n)
    accessed_keeps n there = at (p.subject == n.label)
      where
        at : (own : Bool) → AllBring site w (cond own (Touch n.id (record n.inner { accessed = p.moment }) ∷ []) [])
        at true = (touch_found w n (record n.inner { accessed = p.moment }) there refl (accessed_bounds n.kind p.moment n.inner (found_node n.id n there).inner), tt)
        at false = tt

    reads_keep : {A : Type 0} (o : Outcome A) → Reads p w o → Keeps o
    reads_keep o reads = elim reads.changes [
      | inl none ↦ subst (AllBring site w) (sym none) tt
      | inr some ↦ subst (AllBring site w) (sym some.2) (accessed_keeps some.0 some.1)
    ]

    -- ---- names

    added : (v : World) (d : Node) → node_at w.nodes d.id ≡ Some d → kind_at v.nodes d.id ≡ kind_at w.nodes d.id → is_directory d.kind ≡ true → has_cookie d ≡ true → Brings site v (Touch d.id (name_added p.moment d.inner))
    added v d there kinds directory left = touch_found v d (name_added p.moment d.inner) there kinds (added_bounds d.kind p.moment d.inner directory (grind (arith, nat_tests, left)) (found_node d.id d there).inner)

    entry_bounds : (d : Node) (name : List ℕ) (i : Id) → node_at w.nodes d.id ≡ Some d → is_directory d.kind ≡ true → is_well_formed name ≡ true → EntryBounds (next_entry d name i)
    entry_bounds d name i there directory named = record { cookie = cookies_from d.kind d.inner directory (found_node d.id d there).inner.holds; name = named }

    -- a directory that has room for one more node has a number and a cookie for it
    room_left : (d : Node) → has_room site w d ≡ true → (has_number w.lasts.nodes d.label ≡ true) × (has_cookie d ≡ true)
    room_left d room =
        let both = and_parts (nat_lt (nodes_used w.nodes d.label) (site.nodes d.label)) (has_number w.lasts.nodes d.label && has_cookie d) room in
        and_parts (has_number w.lasts.nodes d.label) (has_cookie d) both.1

    create_keeps : (what : What) (name : List ℕ) (given : RawAttrs) → Keeps (create site what name given p w)
    create_keeps what name given = create_any Keeps site what name given p w (λ gate status. tt) (λ values label d read as_given may.
        let left = room_left d may.room in
        let home = found_node d.id d may.found in
        let n : Node = new_node site p w what values.mode label d in
        let node : NodeBounds site n = record {
          id = next_given site w.lasts.nodes d.label home.label left.0;
          label = given_level values.label label d.label home.label as_given;
          verifier = tt;
          inner = record { mode = mode_bound what values.mode may.mode_fits; change = omega arith; holds = made_holds _ _ what };
        } in
        (added w d may.found refl may.directory left.1, ((node, entry_bounds d name n.id may.found may.directory may.named), tt)))
      where
        made_holds : (stored : Option Stored) (mode : ℕ) (what : What) → HoldsBy (kind_of what) (new_inner p.moment stored mode (text_of what))
        made_holds stored mode Dir = (refl, (omega arith, omega arith))
        made_holds stored mode (Symlink text) = refl

    link_keeps : (name : List ℕ) → Keeps (link site name p w)
    link_keeps name = link_any site p w Keeps name (λ gate status. tt) (λ n d is links free.
        let few = links.few in
        let step = kinds_touched d.id (name_added p.moment d.inner) w n.id refl in (
          added w d is.there refl is.directory links.left,
          (
            touch_found (apply (Touch d.id (name_added p.moment d.inner)) w) n (attributes_changed p.moment n.inner) links.there step (attributes_bounds n.kind p.moment n.inner (found_node n.id n links.there).inner),
            ((entry_bounds d name n.id is.there is.directory links.named, grind (arith, nat_tests, few)), tt),
          ),
        ))

    by_id : (i : Id) (n : Node) → node_at w.nodes i ≡ Some n → node_at w.nodes n.id ≡ Some n
    by_id i n there = ap (node_at w.nodes) (node_at-id i w.nodes n there) ∙ there

    taken_out_keeps : (v : World) (e : Entry) (n : Node) → node_at w.nodes n.id ≡ Some n → kind_at v.nodes n.id ≡ kind_at w.nodes n.id → AllBring site v (taken_out p.moment w.entries e n)
    taken_out_keeps v e n there kinds = at (has_other_name w.entries e)
      where
        at : (b : Bool) → AllBring site v (cond b (Touch n.id (attributes_changed p.moment n.inner) ∷ Unlink e ∷ []) (Drop e ∷ []))
        at true = (touch_found v n (attributes_changed p.moment n.inner) there kinds (attributes_bounds n.kind p.moment n.inner (found_node n.id n there).inner), (tt, tt))
        at false = (tt, tt)

    remove_keeps : (name : List ℕ) → Keeps (remove site name p w)
    remove_keeps name = remove_any site p w Keeps name (λ gate status. tt) (λ d n e is named leaves. (
      touch_found w d (names_changed p.moment d.inner) is.there refl (names_bounds d.kind p.moment d.inner (found_node d.id d is.there).inner),
      taken_out_keeps (apply (Touch d.id (names_changed p.moment d.inner)) w) e n (by_id e.node n named.there) (kinds_touched d.id (names_changed p.moment d.inner) w n.id refl),
    ))

    -- the directories of a name that moves
    module _ (from to : Node) (own_from : IsOwnDirectory p w from) (own_to : IsOwnDirectory p w to) (left : has_cookie to ≡ true) where
      directories_keep : AllBring site w (directories_changed p.moment from to)
      directories_keep = at (same_id from.id to.id)
        where
          at : (b : Bool) → AllBring site w (cond b (Touch to.id (name_added p.moment to.inner) ∷ []) (Touch from.id (names_changed p.moment from.inner) ∷ Touch to.id (name_added p.moment to.inner) ∷ []))
          at true = (added w to own_to.there refl own_to.directory left, tt)
          at false = (
            touch_found w from (names_changed p.moment from.inner) own_from.there refl (names_bounds from.kind p.moment from.inner (found_node from.id from own_from.there).inner),
            (added (apply (Touch from.id (names_changed p.moment from.inner)) w) to own_to.there (kinds_touched from.id (names_changed p.moment from.inner) w to.id refl) own_to.directory left, tt),
          )

      directories_kinds : (i : Id) → kind_at (apply_all (directories_changed p.moment from to) w).nodes i ≡ kind_at w.nodes i
      directories_kinds i = at (same_id from.id to.id)
        where
          at : (b : Bool) → kind_at (apply_all (cond b (Touch to.id (name_added p.moment to.inner) ∷ []) (Touch from.id (names_changed p.moment from.inner) ∷ Touch to.id (name_added p.moment to.inner) ∷ [])) w).nodes i ≡ kind_at w.nodes i
          at true = kinds_touched to.id (name_added p.moment to.inner) w i refl
          at false = kinds_touched to.id (name_added p.moment to.inner) (apply (Touch from.id (names_changed p.moment from.inner)) w) i (kinds_touched from.id (names_changed p.moment from.inner) w i refl)

    moved_keeps : (new : List ℕ) (m : Mover) (room : List Change) → IsOwnDirectory p w m.from → IsOwnDirectory p w m.to → has_cookie m.to ≡ true → is_well_formed new ≡ true → AllBring site (apply_all (directories_changed p.moment m.from m.to) w) room → Keeps (renamed p new m room)
    moved_keeps new m room from to left named bring =
        let steps : List Change = directories_changed p.moment m.from m.to in
        let move : Change = Move m.entry (next_entry m.to new m.node.id) in
        bring_joined site (steps ++ room) (move ∷ []) w (bring_joined site steps room w (directories_keep m.from m.to from to left) bring) (entry_bounds m.to new m.node.id to.there to.directory named, tt)

    rename_keeps : (old new : List ℕ) → Keeps (rename site old new p w)
    rename_keeps old new = rename_any site p w Keeps old new (record {
      refused = λ gate status. tt;
      stays = λ m. tt;
      free = λ m from to named moves is. moved_keeps new m [] from to moves.left moves.named tt;
      onto = λ m e n from to named moves onto gives. moved_keeps new m (taken_out p.moment w.entries e n) from to moves.left moves.named
          (taken_out_keeps _ e n (by_id e.node n onto.there) (directories_kinds m.from m.to from to moves.left n.id));
    })

    -- ---- attributes and data

    set_attr_keeps : (id : StateId) (given : RawAttrs) → Keeps (set_attr site id given p w)
    set_attr_keeps id given = set_attr_any Keeps site id given p w (λ gate status. tt) tt
        (λ values label n limited read as_given may.
        let before = (found_node n.id n may.found).inner in
        (touch_found w n (attributes_changed p.moment (record n.inner { stored = Some label.spelled })) may.found refl (spelled_bounds n label before), tt))
        (λ n level may.
        let there = may.set.found in
        ((labels.levels may.read.0 level may.read.1, touch_found w n (attributes_changed p.moment n.inner) there refl (attributes_bounds n.kind p.moment n.inner (found_node n.id n there).inner)), tt))
        (λ n values may.
        let there = may.set.found in
        let sized = size_bounds p n values.size may.plain may.file may.small (found_node n.id n there).inner in
        (touch_found w n _ there refl (mode_bounds n.kind p values.mode (size_set p n values.size) may.mode sized), tt))
      where
        spelled_bounds : (n : Node) (label : GivenLabel) → InnerBounds n.kind n.inner → InnerBounds n.kind (attributes_changed p.moment (record n.inner { stored = Some label.spelled }))
        spelled_bounds n label is = attributes_bounds n.kind p.moment (record n.inner { stored = Some label.spelled }) (stored_bounds n.kind n.inner (Some label.spelled) is)

    close_keeps : (id : StateId) → Keeps (close id p w)
    close_keeps id = close_any Keeps id p w (λ gate status. tt) (λ n o found named. (tt, tt))

    write_keeps : (args : WriteArguments) → Keeps (write site args p w)
    write_keeps args = write_any Keeps site args p w (λ gate status. tt) (λ n may. either n may.file (is_empty args.content) refl may.small)
      where
        either : (n : Node) → IsFile w n → (none : Bool) → is_empty args.content ≡ none → nat_le (size_written args.offset args.content n.inner.content) MOST_FILE ≡ true →
            AllBring site w (cond none [] (Touch n.id (data_changed p.moment (written args.offset args.content n.inner.content) n.inner) ∷ []))
        either n file true is small = tt
        either n file false is small =
            let long : length (written args.offset args.content n.inner.content) ≡ size_written args.offset args.content n.inner.content = length-written args.offset args.content n.inner.content (some_bytes args.content is) in
            let short : length (written args.offset args.content n.inner.content) ≤ MOST_FILE = subst (λ (size : ℕ). size ≤ MOST_FILE) (sym long) (grind (arith, nat_tests, small)) in
            (touch_found w n _ file.found refl (data_bounds n.kind p.moment (written args.offset args.content n.inner.content) n.inner file.other file.link short (found_node n.id n file.found).inner), tt)

    -- ---- opens

    -- a file may be cut before other changes that bring what they have to, before and after
    cut_keeps : (wanted : Wanted) (n : Node) (cs : List Change) → IsFile w n → AllBring site w cs → AllBring site (apply (Touch n.id (data_changed p.moment [] n.inner)) w) cs → AllBring site w (cut p wanted n ++ cs)
    cut_keeps wanted n cs file whole after = at wanted.sized
      where
        at : (b : Bool) → AllBring site w (cond b (Touch n.id (data_changed p.moment [] n.inner) ∷ []) [] ++ cs)
        at true = (touch_found w n (data_changed p.moment [] n.inner) file.found refl (data_bounds n.kind p.moment [] n.inner file.other file.link (omega arith) (found_node n.id n file.found).inner), after)
        at false = whole

    module _ (level : is_level site p.subject ≡ true) (args : OpenArguments) (owner : length args.owner ≤ OWNER_LIMIT) where
      new_open_bounds : (client : ℕ) (node : Id) → Shares args → has_open_left p w ≡ true → OpenBounds site (new_open args p w client node) × (count_by (λ o. o.id.level == p.subject) w.opens < OPENS_OF_A_LEVEL)
      new_open_bounds client node shares left =
          let both = and_parts (nat_lt (count_by (λ o. o.id.level == p.subject) w.opens) OPENS_OF_A_LEVEL) (has_number w.lasts.opens p.subject) left in
          let few = both.0 in (
            record {
              id = next_given site w.lasts.opens p.subject level both.1;
              owner = owner;
              access = (access_some args shares, access_most args);
              deny = deny_most args shares;
              sequence = (omega arith, omega arith);
            },
            grind (arith, nat_tests, few),
          )

      own_bounds : (client : ℕ) (node : Id) (o : Open) → own_open args p w client node ≡ Some o → OpenBounds site o
      own_bounds client node o found = (all_find (OpenBounds site) (same_opening (new_open args p w client node)) w.opens o rows.opens found).0

      open_keeps : IfSome args.making (λ m. IfSome (verifier_of m) (λ bytes. length bytes ≡ 8)) → Keeps (open_file site args p w)
      open_keeps verifiers = open_any Keeps site args p w (record {
        refused = λ gate status. tt;
        makes = λ client name making wanted d may.
            let left = room_left d may.room in
            let home = found_node d.id d may.found in
            let n : Node = new_file site p w making wanted d in
            let node : NodeBounds site n = record {
              id = next_given site w.lasts.nodes d.label home.label left.0;
              label = given_level may.as_given.values.label wanted.label d.label home.label may.as_given.given;
              verifier = subst (λ (o : Option Making). IfSome o (λ m. IfSome (verifier_of m) (λ bytes. length bytes ≡ 8))) may.asked verifiers;
              inner = record { mode = file_mode_bound wanted.mode may.as_given.mode; change = omega arith; holds = (omega arith, refl) };
            } in
            (added w d may.found refl may.directory left.1, ((node, entry_bounds d name n.id may.found may.directory may.named), (new_open_bounds client n.id may.shares may.left, tt)));
        joins = λ client wanted info n o may found.
            let row = joined_bounds site args o may.shares (own_bounds client n.id o found) in
            cut_keeps wanted n _ may.file (row, ended_bring site _ _) (row, ended_bring site _ _);
        adds = λ client wanted info n may none left.
            let row = new_open_bounds client n.id may.shares left in
            cut_keeps wanted n _ may.file (row, ended_bring site _ _) (row, ended_bring site _ _);
      })

    -- ---- clients and sessions

    -- a record that goes, if there is one, before other changes
    dropped_before : (o : Option Client) (rest : List Change) → (o ≡ None → AllBring site w rest) → ((d : Client) → o ≡ Some d → AllBring site (apply (DropClient d.id) w) rest) → AllBring site w (dropped o ++ rest)
    dropped_before None rest none some = none refl
    dropped_before (Some d) rest none some = (tt, some d refl)

    exchange_id_keeps : is_level site p.subject ≡ true → Facts site.dom w → (args : Arguments) → length args.verifier ≡ 8 → length args.owner ≤ OWNER_LIMIT → Keeps (exchange_id args p w)
    exchange_id_keeps level facts args verifier owner = exchange_id_ends Keeps args p w (λ gate status. tt) (λ t. tt) (λ few left.
        let row : ClientBounds site (new_client (next_id w.lasts.clients p.subject) args) = record { id = next_given site w.lasts.clients p.subject level left; owner = owner; verifier = verifier; sequence = omega arith } in
        let room : others_of p.subject args.owner w.clients < CLIENTS_OF_A_LEVEL = grind (arith, nat_tests, few) in
        let own = λ (c : Client). c.id.level == p.subject in
        let pending = is_pending p.subject args.owner in
        dropped_before (find pending w.clients) _
        (λ none. ((row, omega (arith, room, count_narrow own pending w.clients (none_found pending w.clients none))), tt))
        (λ d found.
        let left = filter (λ (c : Client). not (same_id d.id c.id)) w.clients in
        ((row, omega (arith, room, count_narrow own pending left (none_pending p.subject args.owner w.clients d facts.clients.rivals found), count_left (λ c. own c && not (pending c)) (λ c. not (same_id d.id c.id)) w.clients)), tt)))

    create_session_keeps : is_level site p.subject ≡ true → (args : CreateSession) (arguments : List ℕ) → Keeps (create_session args arguments p w)
    create_session_keeps level args arguments =
        demand_any Keeps ((client_named args.client).level == p.subject) _ _ tt (λ own.
        where_any Keeps (client_at w.clients (client_named args.client)) _ _ (λ c found.
        created_ends Keeps args arguments p w c (λ gate status. tt) (λ k kept. tt) (λ large few left.
        let was = found_client (client_named args.client) c found in
        let row : ClientBounds site (confirmed p c) = record { id = was.id; owner = was.owner; verifier = was.verifier; sequence = was.sequence } in
        let session : SessionBounds site (new_session (next_id w.lasts.sessions p.subject) c (granted_of args.fore)) = record {
          id = next_given site w.lasts.sessions p.subject level left;
          sequences = all_fresh (λ slot. slot.sequence ≤ LAST_SEQUENCE) (omega arith) (granted_of args.fore).max_requests;
        } in
        let room : sessions_of p.subject w.sessions < SESSIONS_OF_A_LEVEL = grind (arith, nat_tests, few) in
        dropped_before (find (is_replaced c) w.clients) _
        (λ none. (row, ((session, room), tt)))
        (λ d replaced. (row, ((session, omega (arith, room, count_left (λ (x : Session). x.id.level == p.subject) (λ x. not (is_session_of d.id x)) w.sessions)), tt))))) tt)

    destroy_session_keeps : (session : List ℕ) → Keeps (destroy_session session p w)
    destroy_session_keeps session =
        demand_any Keeps ((session_named session).level == p.subject) _ _ tt (λ own.
        where_any Keeps (session_under session w.sessions) _ _ (λ x found. (tt, tt)) tt)

    destroy_clientid_keeps : (client : ℕ) → Keeps (destroy_clientid client p w)
    destroy_clientid_keeps client =
        demand_any Keeps ((client_named client).level == p.subject) _ _ tt (λ own.
        where_any Keeps (client_at w.clients (client_named client)) _ _ (λ c found.
        demand_any Keeps (not (is_busy c.id w)) _ _ tt (λ idle. (tt, tt))) tt)

    begun_keeps : (x : Session) → Keeps (begun_in p w x)
    begun_keeps x = at (client_at w.clients (record { level = p.subject; number = x.client })) refl
      where
        at : (o : Option Client) → client_at w.clients (record { level = p.subject; number = x.client }) ≡ o → AllBring site w (renewing p.moment o)
        at None there = tt
        at (Some c) there = let was = found_client (record { level = p.subject; number = x.client }) c there in (record { id = was.id; owner = was.owner; verifier = was.verifier; sequence = was.sequence }, tt)

    sequence_keeps : (args : Sequence) (sent : Sent) → Keeps (sequence args sent p w)
    sequence_keeps args sent =
        demand_any Keeps ((session_named args.session).level == p.subject) _ _ tt (λ own.
        where_any Keeps (session_under args.session w.sessions) _ _ (λ x found.
        demand_any Keeps (nat_le sent.size x.channel.max_request) _ _ tt (λ short.
        demand_any Keeps (nat_le sent.count x.channel.max_operations) _ _ tt (λ few.
        where_any Keeps (slice_get x.slots args.slot) _ _ (λ slot there.
        in_order_any Keeps p slot.sequence (next_sequence slot.sequence) slot.kept args.sequence sent.arguments (λ reply. done p (ToldAgain reply) []) _ (λ status. tt) (λ k kept. tt) (λ next. begun_keeps x)) tt))) tt)

    reclaimed_keeps : (one_fs : Bool) (number : ℕ) (c : Client) → client_at w.clients (record { level = p.subject; number = number }) ≡ Some c → Keeps (reclaimed one_fs p c)
    reclaimed_keeps true number c found = tt
    reclaimed_keeps false number c found = demand_any Keeps (not c.reclaimed) _ _ tt (λ first. let was = found_client (record { level = p.subject; number = number }) c found in (record { id = was.id; owner = was.owner; verifier = was.verifier; sequence = was.sequence }, tt))

    reclaim_keeps : (one_fs : Bool) (client : Option ℕ) → Keeps (where_there (client_under p.subject client w.clients) (reclaimed one_fs p) (refuse p gates.Session NFS4ERR_OP_NOT_IN_SESSION))
    reclaim_keeps one_fs None = tt
    reclaim_keeps one_fs (Some number) = where_any Keeps (client_at w.clients (record { level = p.subject; number = number })) _ _ (λ c found. reclaimed_keeps one_fs number c found) tt

    -- ---- each of the table

    pub row_brings : is_level site p.subject ≡ true → Facts site.dom w → (sent : Sent) (op : Op) → IsOpRead op → AllBring site w (row site sent op p w).changes
    row_brings level facts sent (ops.ExchangeId verifier owner flags implementation) read = exchange_id_keeps level facts (record { verifier = verifier; owner = owner; flags = flags }) read.0 read.1
    row_brings level facts sent (ops.CreateSession args) read = create_session_keeps level args sent.arguments
    row_brings level facts sent (ops.DestroySession session) read = destroy_session_keeps session
    row_brings level facts sent (ops.Sequence args) read = sequence_keeps args sent
    row_brings level facts sent (ops.DestroyClientId client) read = destroy_clientid_keeps client
    row_brings level facts sent (ops.ReclaimComplete one_fs) read = reclaim_keeps one_fs p.client
    row_brings level facts sent (ops.Create what name given) read = create_keeps what name given
    row_brings level facts sent (ops.Link name) read = link_keeps name
    row_brings level facts sent (ops.Remove name) read = remove_keeps name
    row_brings level facts sent (ops.Rename old new) read = rename_keeps old new
    row_brings level facts sent (ops.SetAttr id given) read = set_attr_keeps id given
    row_brings level facts sent (ops.Open seqid access deny client owner making claim) read = open_keeps level (record { access = access; deny = deny; owner = owner; making = making; claim = claim }) read.0 read.1
    row_brings level facts sent (ops.Close seqid id) read = close_keeps id
    row_brings level facts sent (ops.Write id offset stable content) read = write_keeps (record { id = id; offset = offset; stable = stable; content = content })
    row_brings level facts sent (ops.Outside number status) read = tt
    row_brings level facts sent (ops.Extra number arguments) read = tt
    row_brings level facts sent op read = reads_keep _ (row_reads site sent p w op refl)

    -- ---- the keeping of a result

    kept_in_keeps : (slot : ℕ) (row : SlotRow) (number : ℕ) (o : Option Session) → row.sequence ≤ LAST_SEQUENCE → session_at w.sessions (record { level = p.subject; number = number }) ≡ o → AllBring site w (kept_in p slot row o)
    kept_in_keeps slot row number None is found = tt
    kept_in_keeps slot row number (Some x) is found =
        let was = (all_find (SessionBounds site) (λ x. same_id (record { level = p.subject; number = number }) x.id) w.sessions x rows.sessions found).0 in
        (record { id = was.id; sequences = all_with_slot (λ slot. slot.sequence ≤ LAST_SEQUENCE) slot row x.slots is was.sequences }, tt)

    kept_under_keeps : (slot : ℕ) (row : SlotRow) (o : Option ℕ) → row.sequence ≤ LAST_SEQUENCE → AllBring site w (kept_under p slot row o w.sessions)
    kept_under_keeps slot row None is = tt
    kept_under_keeps slot row (Some number) is = kept_in_keeps slot row number _ is refl

    kept_of_keeps : (kept : Kept) (number : ℕ) (o : Option Client) → client_at w.clients (record { level = p.subject; number = number }) ≡ o → AllBring site w (kept_of kept o)
    kept_of_keeps kept number None found = tt
    kept_of_keeps kept number (Some c) found = let was = found_client (record { level = p.subject; number = number }) c found in (record { id = was.id; owner = was.owner; verifier = was.verifier; sequence = next_bound c.sequence was.sequence }, tt)

    pub keep_brings : (keeper : Keeper) (kept : Kept) → IsKeeper keeper → AllBring site w (keep_in keeper kept p w).changes
    keep_brings Nowhere kept is = tt
    keep_brings (Slot slot sequence) kept is = kept_under_keeps slot (record { sequence = sequence; kept = Some kept }) p.session is
    keep_brings (Record client) kept is = kept_of_keeps kept client _ refl
