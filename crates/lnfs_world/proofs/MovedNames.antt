-- The changes of a name that moves, in order: its directories are touched, room is made, and the name moves.
use Rattle.std.proofs.Common.{◌≡◌, ℕ, ◌+◌, Bool, true, false, not, cond, List, [], ◌∷◌, Some, None, refl, sym, ap, ◌∙◌, arith}
use Rattle.std.specs.Prelude.{◌++◌}
use Rattle.std.specs.List.{list_any}
use Rattle.std.proofs.lemmas.Bool.{false≢true}
use Rattle.std.proofs.lemmas.Bool.Decides.{nat_tests}
use Rattle.lnfs_calipso.specs.Label.{IsPreorderWithBottom}
use Rattle.lnfs_types.specs.declared.event.Moment.{Moment}
use Rattle.lnfs_world.specs.World.{Id, Inner, Node, Entry, World, same_id, node_at, label_at, directory_at, is_directory}
use Rattle.lnfs_world.specs.Names.{entry_at}
use Rattle.lnfs_world.specs.Tree.{same_entry, holds_names, parent_of, is_above, goes_under}
use Rattle.lnfs_world.specs.Erased.{sees}
use Rattle.lnfs_world.specs.Change.{Change, Touch, Move, apply, apply_all, without_entry}
use Rattle.lnfs_world.specs.Facts.{Facts, fits_under, cookies_at}
use Rattle.lnfs_world.specs.Within.{is_free, is_within, all_within}
use Rattle.lnfs_world.specs.Effects.{name_added, names_changed, next_entry, taken_out, may_give_way, directories_changed}
use Rattle.lnfs_world.proofs.Rows.{all_anyway, all_find, any_filter, any_found}
use Rattle.lnfs_world.proofs.Keys.{id_same, id_itself, id_turned}
use Rattle.lnfs_world.proofs.Ways.{differs, walk_found}
use Rattle.lnfs_world.proofs.Walks.{sees_own, under_found, under_left}
use Rattle.lnfs_world.proofs.NewNames.{holds_none, next_free}
use Rattle.lnfs_world.proofs.Seen.{node_at-id}
use Rattle.lnfs_world.proofs.ChangedNames.{within_joined, applied_joined, Beside, beside_both, Touched, untouched, touched_too, touch_within, own_kind, own_cookies, cookies_own, cookies_other, Without, taken_out-without, found_in, is_there, taken_out_within}
use Rattle.lnfs_world.proofs.FreeNames.{free_left, adds_within}

-- a name of a node that a subject may move from one directory to another: both are of the subject's label
pub record MayMove (dom : ℕ → ℕ → Bool) (s : ℕ) (w : World) (from : Node) (old : List ℕ) (to : Node) (entry : Entry) (node : Node) : Type 0 where
  pub from_there : node_at w.nodes from.id ≡ Some from
  pub from_own : label_at w.nodes from.id ≡ Some s
  pub to_there : node_at w.nodes to.id ≡ Some to
  pub to_own : label_at w.nodes to.id ≡ Some s
  pub directory : is_directory to.kind ≡ true
  pub named : entry_at w.entries from.id old ≡ Some entry
  pub there : node_at w.nodes entry.node ≡ Some node
  pub clear : goes_under dom s w node.id to.id ≡ false

-- another node of that label, which gives way to it
pub record MayGiveWay (s : ℕ) (w : World) (to : Node) (new : List ℕ) (mover : Node) (entry : Entry) (node : Node) : Type 0 where
  pub named : entry_at w.entries to.id new ≡ Some entry
  pub there : node_at w.nodes entry.node ≡ Some node
  pub own : label_at w.nodes entry.node ≡ Some s
  pub differs : same_id mover.id entry.node ≡ false
  pub gives : may_give_way w.entries mover node ≡ true

-- what is so of changes that a subject may make to nodes and names
pub record AreWithin (dom : ℕ → ℕ → Bool) (s : ℕ) (w : World) (changes : List Change) : Type 0 where
  pub within : all_within dom s w changes ≡ true
  pub beside : Beside w (apply_all changes w)

module _ (dom : ℕ → ℕ → Bool) (lattice : IsPreorderWithBottom dom) (s : ℕ) (w : World) (facts : Facts dom w) (moment : Moment) (from : Node) (old : List ℕ) (to : Node) (new : List ℕ) (entry : Entry) (node : Node) (may : MayMove dom s w from old to entry node) where
  to_kind : directory_at w.nodes to.id ≡ Some true
  to_kind = own_kind w.nodes to.id to true may.to_there may.directory

  node_id : node.id ≡ entry.node
  node_id = node_at-id entry.node w.nodes node may.there

  in_from : entry.directory ≡ from.id
  in_from = (found_in w.entries from.id old entry may.named).0

  -- ---- the directories

  abbrev directories : List Change
  directories = directories_changed moment from to

  -- what their touching leaves
  record Stepped (v : World) : Type 0 where
    touched : Touched w v
    cookies : cookies_at v.nodes to.id ≡ Some (to.inner.cookies + 1)
    others : (i : Id) → same_id i from.id ≡ false → same_id i to.id ≡ false → cookies_at v.nodes i ≡ cookies_at w.nodes i

  directories_within : (all_within dom s w directories ≡ true) × Stepped (apply_all directories w)
  directories_within = at (same_id from.id to.id) refl
    where
      at : (b : Bool) → same_id from.id to.id ≡ b →
          (all_within dom s w (cond b (Touch to.id (name_added moment to.inner) ∷ []) (Touch from.id (names_changed moment from.inner) ∷ Touch to.id (name_added moment to.inner) ∷ [])) ≡ true)
          × Stepped (apply_all (cond b (Touch to.id (name_added moment to.inner) ∷ []) (Touch from.id (names_changed moment from.inner) ∷ Touch to.id (name_added moment to.inner) ∷ [])) w)
      at true same =
          let inner : Inner = name_added moment to.inner in
          let cookies = own_cookies w.nodes to.id to may.to_there in
          let first = touch_within dom s w to.id inner to.inner.cookies may.to_own cookies (grind (arith, nat_tests)) in (
            grind (arith, first),
            record {
              touched = touched_too w w to.id inner (untouched w);
              cookies = cookies_own to.id inner w.nodes to.inner.cookies cookies;
              others = λ i apart differs. cookies_other to.id inner w.nodes i differs;
            },
          )
      at false differ =
          let from_inner : Inner = names_changed moment from.inner in
          let inner : Inner = name_added moment to.inner in
          let v : World = apply (Touch from.id from_inner) w in
          let once = touched_too w w from.id from_inner (untouched w) in
          let first = touch_within dom s w from.id from_inner from.inner.cookies may.from_own (own_cookies w.nodes from.id from may.from_there) (grind (arith, nat_tests)) in
          let cookies = cookies_other from.id from_inner w.nodes to.id (id_turned to.id from.id ∙ differ) ∙ own_cookies w.nodes to.id to may.to_there in
          let then = touch_within dom s v to.id inner to.inner.cookies (once.labels to.id ∙ may.to_own) cookies (grind (arith, nat_tests)) in (
            grind (arith, first, then),
            record {
              touched = touched_too w v to.id inner once;
              cookies = cookies_own to.id inner v.nodes to.inner.cookies cookies;
              others = λ i apart differs. cookies_other to.id inner v.nodes i differs ∙ cookies_other from.id from_inner w.nodes i apart;
            },
          )

  abbrev stepped_world : World
  stepped_world = apply_all directories w

  steps : Stepped stepped_world
  steps = directories_within.1

  -- ---- the move

  -- a world in which there is room
  record Ready (u : World) : Type 0 where
    to_own : label_at u.nodes to.id ≡ Some s
    to_directory : directory_at u.nodes to.id ≡ Some true
    cookies : cookies_at u.nodes to.id ≡ Some (to.inner.cookies + 1)
    from_own : label_at u.nodes from.id ≡ Some s
    node_label : label_at u.nodes entry.node ≡ label_at w.nodes entry.node
    free : is_free u.entries (next_entry to new node.id) ≡ true
    there : list_any (λ x. same_entry entry x) u.entries ≡ true
    clear : (fuel : ℕ) → is_above fuel (parent_of u.entries) entry.node to.id ≡ false

  move_within : (u : World) → Ready u → is_within dom s u (Move entry (next_entry to new node.id)) ≡ true
  move_within u ready =
      let adds = adds_within s u to new node.id ready.to_own ready.to_directory ready.cookies ready.free in
      let own = ap (label_at u.nodes) in_from ∙ ready.from_own in
      let same : same_id entry.node node.id ≡ true = ap (same_id entry.node) node_id ∙ id_itself entry.node in
      let good = (all_find _ _ w.entries entry facts.nodes.fit may.named).0 in
      let was = ap (label_at w.nodes) in_from ∙ may.from_own in
      let fits : fits_under dom entry.node.level (Some s) (label_at u.nodes entry.node) ≡ true = ap (fits_under dom entry.node.level (Some s)) ready.node_label ∙ ap (λ o. fits_under dom entry.node.level o (label_at w.nodes entry.node)) (sym was) ∙ good in
      let clear : goes_under dom s u entry.node to.id ≡ false = ready.clear _ in
      grind (arith, nat_tests, adds, own, same, ready.there, fits, clear)

  -- all of them, where room is made between
  abbrev moved : (room : List Change) → List Change
  moved room = directories ++ room ++ Move entry (next_entry to new node.id) ∷ []

  moved_within : (room : List Change) → all_within dom s stepped_world room ≡ true → Beside stepped_world (apply_all room stepped_world) → Ready (apply_all room stepped_world) → AreWithin dom s w (moved room)
  moved_within room within beside ready =
      let move : Change = Move entry (next_entry to new node.id) in
      let u : World = apply_all room stepped_world in
      let both : apply_all (directories ++ room) w ≡ u = applied_joined directories room w in
      let joined : apply_all (directories ++ room ++ move ∷ []) w ≡ apply move u = applied_joined (directories ++ room) (move ∷ []) w ∙ ap (apply move) both in
      let last : all_within dom s u (move ∷ []) ≡ true = grind (arith, move_within u ready) in
      let left = beside_both w stepped_world u steps.touched.beside beside in
      record {
        within = within_joined dom s (directories ++ room) (move ∷ []) w (within_joined dom s directories room w directories_within.0 within) (ap (λ x. all_within dom s x (move ∷ [])) both ∙ last);
        beside = record { clients = ap (λ (x : World). x.clients) joined ∙ left.clients; sessions = ap (λ (x : World). x.sessions) joined ∙ left.sessions };
      }

  -- ---- a name that is new

  to_seen : sees dom s w.nodes to.id ≡ true
  to_seen = sees_own dom lattice s w facts to.id may.to_own

  clear_now : goes_under dom s w entry.node to.id ≡ false
  clear_now = ap (λ i. goes_under dom s w i to.id) (sym node_id) ∙ may.clear

  clear_still : (fuel : ℕ) → is_above fuel (parent_of w.entries) entry.node to.id ≡ false
  clear_still fuel = differs _ _ refl (λ found. false≢true (sym clear_now ∙ under_found dom lattice s w facts entry.node to.id to_kind to_seen (walk_found (parent_of w.entries) fuel entry.node to.id found)))

  entry_there : list_any (λ x. same_entry entry x) w.entries ≡ true
  entry_there = is_there w.entries from.id old entry may.named

  pub moved_free : entry_at w.entries to.id new ≡ None → AreWithin dom s w (moved [])
  moved_free free =
      let same = steps.touched.entries in
      moved_within [] refl (record { clients = refl; sessions = refl }) (record {
        to_own = steps.touched.labels to.id ∙ may.to_own;
        to_directory = steps.touched.kinds to.id ∙ to_kind;
        cookies = steps.cookies;
        from_own = steps.touched.labels from.id ∙ may.from_own;
        node_label = steps.touched.labels entry.node;
        free = ap (λ entries. is_free entries (next_entry to new node.id)) same ∙ next_free dom s w facts to may.to_there new node.id free;
        there = ap (λ entries. list_any (λ x. same_entry entry x) entries) same ∙ entry_there;
        clear = λ fuel. ap (λ entries. is_above fuel (parent_of entries) entry.node to.id) same ∙ clear_still fuel;
      })

  -- ---- a name of another node

  module _ (e : Entry) (n : Node) (onto : MayGiveWay s w to new node e n) where
    other_id : n.id ≡ e.node
    other_id = node_at-id e.node w.nodes n onto.there

    -- what gives way holds no names: it is an empty directory, or none
    empty : holds_names w.entries e.node ≡ false
    empty = ap (holds_names w.entries) (sym other_id) ∙ at (is_directory n.kind) refl
      where
        at : (b : Bool) → is_directory n.kind ≡ b → holds_names w.entries n.id ≡ false
        at true directory = let way = onto.gives in grind (arith, directory)
        at false other = holds_none dom s w facts n (ap (node_at w.nodes) other_id ∙ onto.there) other

    -- so it is none of the two directories
    holder_apart : (d : Id) (name : List ℕ) (x : Entry) → entry_at w.entries d name ≡ Some x → same_id d e.node ≡ false
    holder_apart d name x found =
        let in_d = (found_in w.entries d name x found).0 in
        let holds : holds_names w.entries d ≡ true = any_found _ (λ y. same_id d y.directory) w.entries x found (ap (same_id d) in_d ∙ id_itself d) in
        differs _ _ refl (λ same. false≢true (sym empty ∙ ap (holds_names w.entries) (sym (id_same d e.node same)) ∙ holds))

    to_apart : same_id to.id e.node ≡ false
    to_apart = holder_apart to.id new e onto.named

    from_apart : same_id from.id e.node ≡ false
    from_apart = holder_apart from.id old entry may.named

    node_apart : same_id entry.node e.node ≡ false
    node_apart = ap (λ i. same_id i e.node) (sym node_id) ∙ onto.differs

    abbrev room_made : List Change
    room_made = taken_out moment w.entries e n

    left : Without e stepped_world (apply_all room_made stepped_world)
    left = taken_out-without moment w.entries e n stepped_world other_id

    room_within : all_within dom s stepped_world room_made ≡ true
    room_within =
        taken_out_within dom w facts s moment stepped_world to.id new e n steps.touched may.to_own onto.named onto.there other_id
        onto.own empty
        (λ other. steps.others e.node (id_turned e.node from.id ∙ from_apart) (id_turned e.node to.id ∙ to_apart))

    still_there : list_any (λ x. same_entry entry x) (without_entry e w.entries) ≡ true
    still_there = any_filter (λ x. same_entry entry x) (λ x. not (same_entry e x)) w.entries (all_anyway _ (λ x. let apart = node_apart in grind (arith, nat_tests, id_same entry.node x.node)) w.entries) entry_there

    pub moved_onto : AreWithin dom s w (moved room_made)
    moved_onto =
        let same : (apply_all room_made stepped_world).entries ≡ without_entry e w.entries = left.entries ∙ ap (without_entry e) steps.touched.entries in
        moved_within room_made room_within left.beside (record {
          to_own = left.labels to.id to_apart ∙ steps.touched.labels to.id ∙ may.to_own;
          to_directory = left.kinds to.id to_apart ∙ steps.touched.kinds to.id ∙ to_kind;
          cookies = left.cookies to.id to_apart ∙ steps.cookies;
          from_own = left.labels from.id from_apart ∙ steps.touched.labels from.id ∙ may.from_own;
          node_label = left.labels entry.node node_apart ∙ steps.touched.labels entry.node;
          free = ap (λ entries. is_free entries (next_entry to new node.id)) same ∙ free_left dom w facts to may.to_there new node.id e onto.named;
          there = ap (λ entries. list_any (λ x. same_entry entry x) entries) same ∙ still_there;
          clear = λ fuel. ap (λ entries. is_above fuel (parent_of entries) entry.node to.id) same ∙ under_left dom lattice s w facts e entry.node to.id to_kind to_seen empty to_apart clear_now fuel;
        })
