-- How many nodes and bytes each level has after an operation that changes the tree.
use Rattle.std.proofs.Common.{◌≡◌, ◌==◌, ℕ, Bool, true, false, cond, not, List, [], ◌∷◌, Option, Some, None, refl, sym, ap, ◌∙◌, subst, arith}
use Rattle.std.specs.Prelude.{◌++◌, ◌&&◌, nat_lt, if◌then◌else◌}
use Rattle.std.specs.List.{AllByRecursion}
use Rattle.std.specs.Option.{option_and_then}
use Rattle.std.proofs.lemmas.Bool.{and_parts}
use Rattle.std.proofs.lemmas.Bool.Decides.{nat_tests}
use Rattle.std.proofs.lemmas.List.{append-nil}
use Rattle.lnfs_types.specs.declared.event.Moment.{Moment}
use Rattle.lnfs_attrs.specs.declared.raw.RawAttrs.{RawAttrs}
use Rattle.lnfs_attrs.specs.declared.view.LabelValue.{LabelValue}
use Rattle.lnfs_arguments.specs.declared.stateid.Cinfo.{Cinfo}
use Rattle.lnfs_arguments.specs.declared.types.What.{What}
use Rattle.lnfs_arguments.specs.declared.types.What.TheVariants.{Dir, Symlink}
use Rattle.lnfs_world.specs.World.{Id, Stored, Node, Entry, World, same_id, node_at, is_directory}
use Rattle.lnfs_world.specs.Names.{entry_at, size_of}
use Rattle.lnfs_world.specs.Tree.{has_other_name, holds_names, goes_under}
use Rattle.lnfs_world.specs.Usage.{nodes_used, bytes_of}
use Rattle.lnfs_world.specs.Change.{Change, Touch, Unlink, Drop, Move, apply, apply_all, touched}
use Rattle.lnfs_world.specs.Effects.{attributes_changed, names_changed, name_added, next_entry, has_cookie, has_number, taken_out, may_give_way, directories_changed}
use Rattle.lnfs_world.specs.Facts.{NodeFacts}
use Rattle.lnfs_world.specs.Outcome.{LevelOf, Site, Place, Outcome, done_to}
use Rattle.lnfs_world.proofs.Seen.{node_at-id}
use Rattle.lnfs_world.proofs.NewNames.{next_absent}
use Rattle.lnfs_operations.specs.declared.Gate.{Gate}
use Rattle.lnfs_operations.specs.Chain.{Answer, Done, refuse, done, demand}
use Rattle.lnfs_operations.specs.Create.{Made, kind_of, new_node, create, made as made_at}
use Rattle.lnfs_operations.specs.Given.{GivenLabel, spelled_by, level_or, set_of}
use Rattle.lnfs_operations.specs.Handles.{with_node}
use Rattle.lnfs_operations.specs.Judged.{where_allowed}
use Rattle.lnfs_operations.specs.NewNames.{where_directory, where_old, unchanged}
use Rattle.lnfs_operations.specs.Remove.{remove}
use Rattle.lnfs_operations.specs.Rename.{Renamed, Mover, moved, moved_onto, rename}
use Rattle.lnfs_operations.specs.declared.Gate.TheVariants.{Namespace}
use Rattle.lnfs_arguments.specs.declared.statuses.TheConstants.{NFS4ERR_NOTEMPTY, NFS4ERR_EXIST}
use Rattle.lnfs_monitor.specs.Rules.{Change as ChangeNames, Drop as DropNode}
use Rattle.lnfs_operations.proofs.Chains.{demand_any, where_any}
use Rattle.lnfs_operations.proofs.Ends.{allowed_any, named_any}
use Rattle.lnfs_operations.specs.Link.{link}
use Rattle.lnfs_operations.specs.Accessed.{accessed}
use Rattle.lnfs_operations.specs.ReadDir.{Arguments, read_dir}
use Rattle.lnfs_operations.specs.ReadLink.{read_link}
use Rattle.lnfs_operations.specs.Read as read
use Rattle.lnfs_operations.proofs.FileLaws.{read_any}
use Rattle.lnfs_operations.proofs.Readings.{read_link_any}
use Rattle.lnfs_operations.proofs.ReadDirLaws.{read_dir_any}
use Rattle.lnfs_operations.proofs.CreateLaws.{create_any}
use Rattle.lnfs_operations.proofs.GivenLaws.{IsGiven}
use Rattle.lnfs_operations.proofs.Namings.{removed, link_any}
use Rattle.lnfs_tree.specs.Rows.{Rows}
use Rattle.lnfs_tree.specs.Changed.{Gone, gone}
use Rattle.lnfs_nodes.specs.Trees.{with_tree}
use Rattle.lnfs_nodes.specs.Told.{bytes_in, gone_at, gone_from}
use Rattle.lnfs_nodes.specs.Renames.{gone_between, gone_past}
use Rattle.lnfs_quota.specs.Totals.{IsInBounds}
use Rattle.lnfs_quota.proofs.Bounded.{bounds_found, empty_bounds}
use Rattle.lnfs_files.specs.Charges.{IsLess, IsListed}
use Rattle.lnfs_engine.specs.Counts.{AreAsMany, IsMore, WentFrom}
use Rattle.lnfs_engine.proofs.Counting.{Touched, as_many, untouched, touch, dropped, made}

module _ (site : Site) (p : Place) (rest : World) (t : Rows) (facts : NodeFacts site.dom t.nodes t.entries t.lasts) where
  abbrev pub w : World
  w = with_tree rest t

  abbrev pub Many : {R : Type 0} → Outcome (Answer R) → Type 0
  Many o = AreAsMany t.nodes (done_to w o).nodes

  all : AreAsMany t.nodes t.nodes
  all = as_many t.nodes

  none : Touched t.nodes t.nodes
  none = untouched t.nodes facts.rise

  pub link_many : (name : List ℕ) → Many (link site name p w)
  link_many name = link_any site p w Many name (λ gate status. all) (λ n d own links free.
      (touch t.nodes (touched d.id (name_added p.moment d.inner) t.nodes) n (attributes_changed p.moment n.inner) links.there refl
      (touch t.nodes t.nodes d (name_added p.moment d.inner) own.there refl none)).many)

  -- what is read
  accessed_many : {R : Type 0} (result : R) (n : Node) → node_at t.nodes n.id ≡ Some n → Many (done p result (accessed p n))
  accessed_many result n there = at (p.subject == n.label)
    where
      at : (own : Bool) → AreAsMany t.nodes (apply_all (cond own (Touch n.id (record n.inner { accessed = p.moment }) ∷ []) []) w).nodes
      at true = (touch t.nodes t.nodes n (record n.inner { accessed = p.moment }) there refl none).many
      at false = all

  pub read_link_many : Many (read_link site p w)
  read_link_many = read_link_any Many site p w (λ gate status. all) (λ i n there link. accessed_many n.inner.content n (ap (node_at t.nodes) (node_at-id i t.nodes n there) ∙ there))

  pub read_dir_many : (args : Arguments) → Many (read_dir site args p w)
  read_dir_many args = read_dir_any Many site args p w (λ gate status. all) (λ i d found there size is. accessed_many found d (ap (node_at t.nodes) (node_at-id i t.nodes d there) ∙ there))

  pub read_many : (args : read.Arguments) → Many (read.read site args p w)
  read_many args = read_any Many site args p w (λ gate status. all) (λ n file. accessed_many (read.read_from args n) n file.found)

  -- ---- a new node

  no_file : (n : Node) (what : What) → bytes_of n (kind_of what) ≡ 0
  no_file n Dir = refl
  no_file n (Symlink text) = refl

  abbrev pub MadeOne : Outcome (Answer Made) → Type 0
  MadeOne o = (r : Made) → o.answer ≡ Done r → IsMore p.subject t.nodes (done_to w o).nodes

  abbrev pub HasRoom : Outcome (Answer Made) → Type 0
  HasRoom o = (r : Made) → o.answer ≡ Done r → nat_lt (nodes_used t.nodes p.subject) (site.nodes p.subject) ≡ true

  -- each level that is read of a label is one that a policy may list
  abbrev pub Listing : Type 0
  Listing = (spelled : Stored) (level : ℕ) → site.reading spelled ≡ LevelOf level → IsListed level

  level_listed : Listing → (value : Option LabelValue) (label : Option GivenLabel) (level : ℕ) → IsGiven site value label → IsListed level → IsListed (level_or level label)
  level_listed law None label level absent listed = subst (λ (o : Option GivenLabel). IsListed (level_or level o)) (sym absent) listed
  level_listed law (Some v) label level read listed = subst (λ (o : Option GivenLabel). IsListed (level_or level o)) (sym read.2) (law (spelled_by v) read.0 read.1)

  pub create_more : Listing → (what : What) (name : List ℕ) (given : RawAttrs) → MadeOne (create site what name given p w)
  create_more law what name given = create_any MadeOne site what name given p w (λ gate status r is. absurd cc) (λ values label d parsed as_given may r is.
      let n : Node = new_node site p w what values.mode label d in
      let own : d.label ≡ p.subject = let same = may.own in grind (arith, nat_tests, same) in
      let bounds : AllByRecursion IsInBounds t.nodes → IsInBounds n = λ all.
      let home : IsInBounds d = bounds_found d.id d t.nodes all may.found in
      empty_bounds n home.label (level_listed law values.label label d.label as_given home.label) (no_file n what) in
      let touched_one = touch t.nodes t.nodes d (name_added p.moment d.inner) may.found refl none in
      subst (λ home. IsMore home t.nodes (done_to w (made_at p d name (set_of given) n)).nodes) own
      (made t.nodes (touched d.id (name_added p.moment d.inner) t.nodes) n (next_absent site.dom t.nodes t.entries t.lasts facts d.label) (no_file n what) bounds touched_one))

  -- it has room
  pub create_room : (what : What) (name : List ℕ) (given : RawAttrs) → HasRoom (create site what name given p w)
  create_room what name given = create_any HasRoom site what name given p w (λ gate status r is. absurd cc) (λ values label d parsed as_given may r is.
      let own : d.label ≡ p.subject = let same = may.own in grind (arith, nat_tests, same) in
      subst (λ (s : ℕ). nat_lt (nodes_used t.nodes s) (site.nodes s) ≡ true) own
      (and_parts (nat_lt (nodes_used t.nodes d.label) (site.nodes d.label)) (has_number t.lasts d.label && has_cookie d) may.room).0)

  -- ---- a name that is taken out

  went : (v : World) → Touched t.nodes v.nodes → (moment : Moment) (e : Entry) (n : Node) → node_at t.nodes e.node ≡ Some n → (more : List Change) → ((x : World) → (apply_all more x).nodes ≡ x.nodes) →
      WentFrom (gone t.entries e n) t.nodes (apply_all (taken_out moment t.entries e n ++ more) v).nodes
  went v touched_v moment e n there more quiet = at (has_other_name t.entries e)
    where
      same : n.id ≡ e.node
      same = node_at-id e.node t.nodes n there

      at : (b : Bool) → WentFrom (cond b None (Some (record { node = n.id; kind = n.kind; label = n.label; size = size_of t.entries n n.kind }))) t.nodes (apply_all (cond b (Touch n.id (attributes_changed moment n.inner) ∷ Unlink e ∷ []) (Drop e ∷ []) ++ more) v).nodes
      at true = subst (AreAsMany t.nodes) (sym (quiet (apply (Unlink e) (apply (Touch n.id (attributes_changed moment n.inner)) v))))
          (touch t.nodes v.nodes n (attributes_changed moment n.inner) (ap (node_at t.nodes) same ∙ there) refl touched_v).many
      at false = subst (IsLess n.id.level n.label (bytes_in n.kind (size_of t.entries n n.kind)) t.nodes) (sym (quiet (apply (Drop e) v)))
          (subst (λ (i : Id). IsLess i.level n.label (bytes_in n.kind (size_of t.entries n n.kind)) t.nodes (apply (Drop e) v).nodes) (sym same) (dropped t.nodes v.nodes t.entries e.node n there touched_v))

  module _ (name : List ℕ) where
    abbrev pub Taken : Option Id → Outcome (Answer Cinfo) → Type 0
    Taken handle o = (r : Cinfo) → o.answer ≡ Done r → WentFrom (gone_from t handle name) t.nodes (done_to w o).nodes

    abbrev pub found : Node → Outcome (Answer Cinfo)
    found d =
        where_directory p d (
        where_allowed site p (ChangeNames d.label) (
        where_old p w d name (λ e n.
        where_allowed site p (DropNode n.label) (
        demand (not (holds_names w.entries n.id)) (refuse p Namespace NFS4ERR_NOTEMPTY) (removed p w d e n)))))

    of_handle : (handle : Option Id) → Taken handle (with_node p w handle found)
    of_handle None = λ r is. absurd cc
    of_handle (Some i) =
        where_any (Taken (Some i)) (node_at t.nodes i) found _ (λ d there.
        demand_any (Taken (Some i)) (is_directory d.kind) _ _ (λ r is. absurd cc) (λ directory.
        allowed_any (Taken (Some i)) p refused site (ChangeNames d.label) _ (λ own.
        where_any (Taken (Some i)) (entry_at t.entries d.id name) _ _ (λ e named.
        where_any (Taken (Some i)) (node_at t.nodes e.node) _ _ (λ n held.
        allowed_any (Taken (Some i)) p refused site (DropNode n.label) _ (λ own_node.
        demand_any (Taken (Some i)) (not (holds_names t.entries n.id)) _ _ (λ r is. absurd cc) (λ empty_one r is.
        let id : d.id ≡ i = node_at-id i t.nodes d there in
        let entry : entry_at t.entries i name ≡ Some e = ap (λ (j : Id). entry_at t.entries j name) (sym id) ∙ named in
        let goes : gone_from t (Some i) name ≡ gone t.entries e n = ap (gone_at t) entry ∙ ap (option_and_then (gone t.entries e)) held in
        let v : World = apply (Touch d.id (names_changed p.moment d.inner)) w in
        let touched_v = touch t.nodes t.nodes d (names_changed p.moment d.inner) (ap (node_at t.nodes) id ∙ there) refl none in
        subst (λ g. WentFrom g t.nodes (done_to w (removed p w d e n)).nodes) (sym goes)
        (subst (λ (cs : List Change). WentFrom (gone t.entries e n) t.nodes (apply_all cs v).nodes) (append-nil (taken_out p.moment t.entries e n)) (went v touched_v p.moment e n held [] (λ x. refl)))
        )))
        (λ r is. absurd cc)) (λ r is. absurd cc)))) (λ r is. absurd cc)
      where
        refused : (gate : Gate) (status : ℕ) → Taken (Some i) (refuse p gate status)
        refused gate status r is = absurd cc

    pub remove_went : Taken p.current (remove site name p w)
    remove_went = named_any (Taken p.current) p (λ gate status r is. absurd cc) name _ (of_handle p.current)

  -- ---- a name that moves

  touched_both : (Q : World → Type 0) (moment : Moment) (from to : Node) → node_at t.nodes from.id ≡ Some from → node_at t.nodes to.id ≡ Some to → (room more : List Change) → ((v : World) → Touched t.nodes v.nodes → Q (apply_all (room ++ more) v)) → Q (apply_all (directories_changed moment from to ++ room ++ more) w)
  touched_both Q moment from to there_from there_to room more next = at (same_id from.id to.id)
    where
      at : (b : Bool) → Q (apply_all (cond b (Touch to.id (name_added moment to.inner) ∷ []) (Touch from.id (names_changed moment from.inner) ∷ Touch to.id (name_added moment to.inner) ∷ []) ++ room ++ more) w)
      at true = next (apply (Touch to.id (name_added moment to.inner)) w) (touch t.nodes t.nodes to (name_added moment to.inner) there_to refl none)
      at false = next (apply (Touch to.id (name_added moment to.inner)) (apply (Touch from.id (names_changed moment from.inner)) w))
          (touch t.nodes (touched from.id (names_changed moment from.inner) t.nodes) to (name_added moment to.inner) there_to refl (touch t.nodes t.nodes from (names_changed moment from.inner) there_from refl none))

  module _ (old new : List ℕ) where
    -- what went, as it is told
    abbrev pub Went : Option Gone → Outcome (Answer Renamed) → Type 0
    Went lost o = (r : Renamed) → o.answer ≡ Done r → WentFrom lost t.nodes (done_to w o).nodes

    moved_went : (m : Mover) (room : List Change) (lost : Option Gone) → node_at t.nodes m.from.id ≡ Some m.from → node_at t.nodes m.to.id ≡ Some m.to →
        ((v : World) → Touched t.nodes v.nodes → WentFrom lost t.nodes (apply_all (room ++ Move m.entry (next_entry m.to new m.node.id) ∷ []) v).nodes) → Went lost (moved site new p w m room)
    moved_went m room lost there_from there_to next =
        demand_any (Went lost) (not (goes_under site.dom p.subject w m.node.id m.to.id)) _ _ (λ r is. absurd cc) (λ clear.
        demand_any (Went lost) (has_cookie m.to) _ _ (λ r is. absurd cc) (λ left r is.
        touched_both (λ v. WentFrom lost t.nodes v.nodes) p.moment m.from m.to there_from there_to room (Move m.entry (next_entry m.to new m.node.id) ∷ []) next))

    onto_went : (m : Mover) (i : Id) → m.node.id ≡ m.entry.node → m.to.id ≡ i → node_at t.nodes m.from.id ≡ Some m.from → node_at t.nodes m.to.id ≡ Some m.to → (o : Option Entry) → entry_at t.entries m.to.id new ≡ o →
        Went (gone_between t (Some m.entry) o) (moved_onto site new p w m o)
    onto_went m i node_is is there_from there_to None named = moved_went m [] None there_from there_to (λ v touched_v. touched_v.many)
    onto_went m i node_is is there_from there_to (Some other) named =
        subst (λ (j : Id). Went (if same_id j other.node then None else gone_at t (Some other)) (moved_onto site new p w m (Some other))) node_is (at (same_id m.node.id other.node))
      where
        at : (b : Bool) → Went (if b then None else gone_at t (Some other)) (cond b (done p (record { source = unchanged m.from; target = unchanged m.to }) []) (where_old p w m.to new (λ e n.
            where_allowed site p (DropNode n.label) (
            demand (may_give_way w.entries m.node n) (refuse p Namespace NFS4ERR_EXIST) (
            moved site new p w m (taken_out p.moment w.entries e n))))))
        at true = λ r done_is. all
        at false =
            where_any (Went (gone_at t (Some other))) (entry_at t.entries m.to.id new) _ _ (λ e found.
            where_any (Went (gone_at t (Some other))) (node_at t.nodes e.node) _ _ (λ n held.
            allowed_any (Went (gone_at t (Some other))) p refused site (DropNode n.label) _ (λ own.
            demand_any (Went (gone_at t (Some other))) (may_give_way t.entries m.node n) _ _ (λ r done_is. absurd cc) (λ gives.
            let pair : Some e ≡ Some other = sym found ∙ named in
            let same : e ≡ other = cc in
            let goes : gone_at t (Some other) ≡ gone t.entries e n = ap (λ (x : Entry). gone_at t (Some x)) (sym same) ∙ ap (option_and_then (gone t.entries e)) held in
            subst (λ g. Went g (moved site new p w m (taken_out p.moment t.entries e n))) (sym goes)
            (moved_went m (taken_out p.moment t.entries e n) (gone t.entries e n) there_from there_to (λ v touched_v.
            went v touched_v p.moment e n held (Move m.entry (next_entry m.to new m.node.id) ∷ []) (λ x. refl))))))
            (λ r done_is. absurd cc)) (λ r done_is. absurd cc)
          where
            refused : (gate : Gate) (status : ℕ) → Went (gone_at t (Some other)) (refuse p gate status)
            refused gate status r done_is = absurd cc

    abbrev pub ends : Node → Node → Outcome (Answer Renamed)
    ends from to =
        where_directory p from (
        where_directory p to (
        where_allowed site p (ChangeNames from.label) (
        where_allowed site p (ChangeNames to.label) (
        where_old p w from old (λ e n.
        moved_onto site new p w (record { entry = e; node = n; from = from; to = to }) (entry_at w.entries to.id new))))))

    of_handles : (saved current : Option Id) → Went (gone_past t saved old current new) (with_node p w saved (λ from. with_node p w current (ends from)))
    of_handles None current = λ r is. absurd cc
    of_handles (Some i) None =
        where_any (Went None) (node_at t.nodes i) _ _ (λ from there r is. absurd cc) (λ r is. absurd cc)
    of_handles (Some i) (Some j) =
        where_any Goes (node_at t.nodes i) _ _ (λ from there_from.
        where_any Goes (node_at t.nodes j) _ _ (λ to there_to.
        demand_any Goes (is_directory from.kind) _ _ (λ r is. absurd cc) (λ directory_from.
        demand_any Goes (is_directory to.kind) _ _ (λ r is. absurd cc) (λ directory_to.
        allowed_any Goes p refused site (ChangeNames from.label) _ (λ own_from.
        allowed_any Goes p refused site (ChangeNames to.label) _ (λ own_to.
        where_any Goes (entry_at t.entries from.id old) _ _ (λ e named.
        where_any Goes (node_at t.nodes e.node) _ _ (λ n held.
        let id_from : from.id ≡ i = node_at-id i t.nodes from there_from in
        let id_to : to.id ≡ j = node_at-id j t.nodes to there_to in
        let entry : entry_at t.entries i old ≡ Some e = ap (λ (k : Id). entry_at t.entries k old) (sym id_from) ∙ named in
        let m : Mover = record { entry = e; node = n; from = from; to = to } in
        let goes : gone_between t (entry_at t.entries i old) (entry_at t.entries j new) ≡ gone_between t (Some e) (entry_at t.entries to.id new) =
        ap (λ o. gone_between t o (entry_at t.entries j new)) entry ∙ ap (λ (k : Id). gone_between t (Some e) (entry_at t.entries k new)) (sym id_to) in
        subst (λ g. Went g (moved_onto site new p w m (entry_at t.entries to.id new))) (sym goes)
        (onto_went m j (node_at-id e.node t.nodes n held) id_to (ap (node_at t.nodes) id_from ∙ there_from) (ap (node_at t.nodes) id_to ∙ there_to) (entry_at t.entries to.id new) refl))
        (λ r is. absurd cc)) (λ r is. absurd cc))))))
        (λ r is. absurd cc)) (λ r is. absurd cc)
      where
        Goes : Outcome (Answer Renamed) → Type 0
        Goes = Went (gone_between t (entry_at t.entries i old) (entry_at t.entries j new))

        refused : (gate : Gate) (status : ℕ) → Goes (refuse p gate status)
        refused gate status r is = absurd cc

    pub rename_went : Went (gone_past t p.saved old p.current new) (rename site old new p w)
    rename_went = named_any (Went (gone_past t p.saved old p.current new)) p (λ gate status r is. absurd cc) old _ (named_any (Went (gone_past t p.saved old p.current new)) p (λ gate status r is. absurd cc) new _ (of_handles p.saved p.current))
