-- RENAME behind its own tests: what is left are those of the tree.
use Rattle.std.proofs.Common.{◌≡◌, refl, ap, sym, ◌∙◌, ℕ, Bool, true, false, not, cond, List, [], ◌∷◌, ◌++◌, Option, Some, None, Result, Ok, Err, option_map, arith}
use Rattle.std.specs.Prelude.{IfErr, IsErrAnd}
use Rattle.std.proofs.lemmas.Bool.Decides.{nat_tests}
use Rattle.lnfs_calipso.specs.Label.{IsPreorderWithBottom}
use Rattle.lnfs_world.specs.World.{Id, Node, Entry, World, node_at, is_directory, same_id}
use Rattle.lnfs_world.specs.Names.{entry_at}
use Rattle.lnfs_world.specs.Facts.{NodeFacts}
use Rattle.lnfs_world.specs.Tree.{goes_under}
use Rattle.lnfs_world.specs.Change.{Change, Move}
use Rattle.lnfs_world.specs.Effects.{next_entry, has_cookie, taken_out, may_give_way, directories_changed}
use Rattle.lnfs_world.specs.Outcome.{Site, Place, Outcome}
use Rattle.lnfs_world.proofs.Walks.{sees_own}
use Rattle.lnfs_world.proofs.WholeWalks.{same_walk}
use Rattle.lnfs_monitor.specs.Rules.{Change as ChangeNames, Drop}
use Rattle.lnfs_operations.specs.declared.Refusal.{Refusal}
use Rattle.lnfs_arguments.specs.declared.statuses.TheConstants.{NFS4ERR_NOENT, NFS4ERR_INVAL, NFS4ERR_EXIST, NFS4ERR_NOSPC}
use Rattle.lnfs_operations.specs.declared.Gate.TheVariants.{Namespace, Quota}
use Rattle.lnfs_operations.specs.Chain.{Answer, refuse, done, demand, where_there}
use Rattle.lnfs_operations.specs.NewNames.{where_directory, where_old}
use Rattle.lnfs_operations.specs.NewNames as ops
use Rattle.lnfs_operations.specs.Judged.{where_allowed}
use Rattle.lnfs_tree.specs.declared.node.Info.{Info}
use Rattle.lnfs_tree.specs.declared.node.TreeError.{TreeError}
use Rattle.lnfs_tree.specs.declared.node.TreeError.TheVariants.{Exist, Inval, Spent}
use Rattle.lnfs_operations.specs.Rename.{Renamed, Mover, moved, moved_onto, rename}
use Rattle.lnfs_tree.specs.Rows.{Rows, id_of}
use Rattle.lnfs_tree.specs.Places.{world_of}
use Rattle.lnfs_tree.specs.Changed.{Doing, Gone, Room, gone, changed, unchanged, on_node, test, lies_above, rename_of}
use Rattle.lnfs_tree.specs.Changed as tree
use Rattle.lnfs_tree.proofs.Kept.{whole_facts}
use Rattle.lnfs_nodes.specs.Trees.{with_tree, held_in, Holds, IsHeld, denial, refusal_of}
use Rattle.lnfs_nodes.specs.Told.{naming, no_directory, found_at, entered_at, named, follows}
use Rattle.lnfs_nodes.specs.Renames.{with_ends, AreEnds, taking, giving_way, renamed_of}
use Rattle.lnfs_nodes.specs.declared.held.Held.{Held}
use Rattle.lnfs_nodes.proofs.Tests.{allowed}
use Rattle.lnfs_nodes.proofs.Refusing.{handle_off, denied}
use Rattle.lnfs_nodes.proofs.Peeling.{named_on, named_off, about_node, is_one, directory_on, directory_off}

-- ---- the tree's walk, and the definition's

-- what may be changed is at the subject's level
at_level : (site : Site) (s l : ℕ) → None ≡ denial site s (ChangeNames l) → l ≡ s
at_level site s l e = grind (arith, nat_tests, e)

walks_alike : (dom : ℕ → ℕ → Bool) → IsPreorderWithBottom dom → (s : ℕ) (rest : World) (t : Rows) → NodeFacts dom t.nodes t.entries t.lasts → (moved : Id) (b : Node) → node_at t.nodes b.id ≡ Some b → is_directory b.kind ≡ true → b.label ≡ s →
    goes_under dom s (with_tree rest t) moved b.id ≡ lies_above t moved b.id
walks_alike dom lattice s rest t facts moved b found kind label =
    let all = whole_facts dom t facts in
    same_walk dom (world_of t) all lattice s moved b.id (ap (option_map (λ n. is_directory n.kind)) found ∙ ap Some kind)
    (sees_own dom lattice s (world_of t) all b.id (ap (option_map (λ n. n.label)) found ∙ ap Some label))

-- ---- the directories

-- what refuses one of them
pub ends_refused : {A : Type 0} (site : Site) (at : Place → Place) (t : Rows) (r : Result A Refusal) (why : Refusal) → IsErrAnd r (λ e. e ≡ why)
    → ((p : Place) (rest : World) (next : Node → Node → Outcome (Answer Renamed)) → with_ends site (at p) (with_tree rest t) next ≡ refuse (at p) why.gate why.status)
    → IfErr r (λ why. (p : Place) (rest : World) (next : Node → Node → Outcome (Answer Renamed)) → with_ends site (at p) (with_tree rest t) next ≡ refuse (at p) why.gate why.status)
ends_refused site at t (Ok a) why is off = tt
ends_refused site at t (Err e) why is off = λ p rest next. off p rest next ∙ ap (λ (r : Refusal). refuse (at p) r.gate r.status) (sym is)

module _ (site : Site) (at : Place) (rest : World) (t : Rows) (next : Node → Node → Outcome (Answer Renamed)) where
  pub source_off : (why : Refusal) → IsHeld t (held_in t.nodes at.saved) (Err why) → with_ends site at (with_tree rest t) next ≡ refuse at why.gate why.status
  source_off why held = handle_off at rest t at.saved _ why held

  module _ (from : Held) (source : IsHeld t (held_in t.nodes at.saved) (Ok from)) where
    pub target_off : (why : Refusal) → IsHeld t (held_in t.nodes at.current) (Err why) → with_ends site at (with_tree rest t) next ≡ refuse at why.gate why.status
    target_off why held = about_node (refuse at why.gate why.status) at rest t at.saved _ from source (λ a holds. handle_off at rest t at.current _ why held)

    module _ (to : Held) (target : IsHeld t (held_in t.nodes at.current) (Ok to)) where
      -- what follows where both are there
      both : (o : Outcome (Answer Renamed))
          → ((a b : Node) → Holds t a from → Holds t b to → where_directory at a (where_directory at b (where_allowed site at (ChangeNames a.label) (where_allowed site at (ChangeNames b.label) (next a b)))) ≡ o)
          → with_ends site at (with_tree rest t) next ≡ o
      both o is = about_node o at rest t at.saved _ from source (λ a holds_a. about_node o at rest t at.current _ to target (λ b holds_b. is a b holds_a holds_b))

      pub source_kind_off : (why : Refusal) → Some (refusal_of why) ≡ no_directory from.facts.kind → with_ends site at (with_tree rest t) next ≡ refuse at why.gate why.status
      source_kind_off why off = both (refuse at why.gate why.status) (λ a b holds_a holds_b. directory_off at t a from _ why holds_a off)

      module _ (source_kind : None ≡ no_directory from.facts.kind) where
        pub target_kind_off : (why : Refusal) → Some (refusal_of why) ≡ no_directory to.facts.kind → with_ends site at (with_tree rest t) next ≡ refuse at why.gate why.status
        target_kind_off why off = both (refuse at why.gate why.status) (λ a b holds_a holds_b. directory_on at a _ (is_one t a from holds_a source_kind) ∙ directory_off at t b to _ why holds_b off)

        module _ (target_kind : None ≡ no_directory to.facts.kind) where
          pub source_label_off : (why : Refusal) → Some (refusal_of why) ≡ denial site at.subject (ChangeNames from.facts.label.0) → with_ends site at (with_tree rest t) next ≡ refuse at why.gate why.status
          source_label_off why off = both (refuse at why.gate why.status) (λ a b holds_a holds_b.
              directory_on at a _ (is_one t a from holds_a source_kind) ∙ directory_on at b _ (is_one t b to holds_b target_kind)
              ∙ denied site at (ChangeNames a.label) _ why (off ∙ ap (λ (l : ℕ). denial site at.subject (ChangeNames l)) holds_a.tells.label))

          pub target_label_off : None ≡ denial site at.subject (ChangeNames from.facts.label.0) → (why : Refusal) → Some (refusal_of why) ≡ denial site at.subject (ChangeNames to.facts.label.0) → with_ends site at (with_tree rest t) next ≡ refuse at why.gate why.status
          target_label_off may why off = both (refuse at why.gate why.status) (λ a b holds_a holds_b.
              directory_on at a _ (is_one t a from holds_a source_kind) ∙ directory_on at b _ (is_one t b to holds_b target_kind)
              ∙ allowed site at (ChangeNames a.label) _ (may ∙ ap (λ (l : ℕ). denial site at.subject (ChangeNames l)) holds_a.tells.label)
              ∙ denied site at (ChangeNames b.label) _ why (off ∙ ap (λ (l : ℕ). denial site at.subject (ChangeNames l)) holds_b.tells.label))

module _ (site : Site) (at : Place) (rest : World) (t : Rows) where
  -- what follows where both may be changed
  reaches : (from to : Held) → AreEnds site at.subject t at.saved at.current from to → (next : Node → Node → Outcome (Answer Renamed)) (o : Outcome (Answer Renamed))
      → ((a b : Node) → Holds t a from → Holds t b to → is_directory a.kind ≡ true → is_directory b.kind ≡ true → next a b ≡ o) → with_ends site at (with_tree rest t) next ≡ o
  reaches from to ends next o is =
      about_node o at rest t at.saved _ from ends.source (λ a holds_a.
      about_node o at rest t at.current _ to ends.target (λ b holds_b.
      let dir_a = is_one t a from holds_a ends.source_kind in
      let dir_b = is_one t b to holds_b ends.target_kind in
      directory_on at a _ dir_a ∙ directory_on at b _ dir_b
      ∙ allowed site at (ChangeNames a.label) _ (ends.source_open ∙ ap (λ (l : ℕ). denial site at.subject (ChangeNames l)) holds_a.tells.label)
      ∙ allowed site at (ChangeNames b.label) _ (ends.target_open ∙ ap (λ (l : ℕ). denial site at.subject (ChangeNames l)) holds_b.tells.label)
      ∙ is a b holds_a holds_b dir_a dir_b))

  -- ---- the name that moves

  pub old_off : {R : Type 0} (d : Node) (name : List ℕ) (next : Entry → Node → Outcome (Answer R)) (why : Refusal) → IsHeld t (named t d.id name) (Err why) → where_old at (with_tree rest t) d name next ≡ refuse at why.gate why.status
  old_off d name next why held = grind (arith, held)

  module _ (new : List ℕ) where
    -- what has the new name may not give way
    onto_off : (m : Mover) (x : Option Entry) (why : Refusal) → entry_at t.entries m.to.id new ≡ x → Some (refusal_of why) ≡ giving_way site at.subject t.nodes m.node.id x → moved_onto site new at (with_tree rest t) m x ≡ refuse at why.gate why.status
    onto_off m None why e is = absurd (grind (arith, is))
    onto_off m (Some other) why e is = grind (arith, e, is)

    -- the tree's tests of the move
    moved_alike : (m : Mover) (room : Room) → goes_under site.dom at.subject (with_tree rest t) m.node.id m.to.id ≡ lies_above t m.node.id m.to.id
        → moved site new at (with_tree rest t) m room.changes ≡ follows (λ (x : Info × Info × Option Gone). renamed_of x.0 x.1) at (tree.moved t at.moment new m.from m.to m.entry m.node room)
    moved_alike m room walk = ap (λ (u : Bool). tests u (has_cookie m.to)) walk ∙ by_tests (lies_above t m.node.id m.to.id) (has_cookie m.to)
      where
        changes : List Change
        changes = directories_changed at.moment m.from m.to ++ room.changes ++ Move m.entry (next_entry m.to new m.node.id) ∷ []

        tests : Bool → Bool → Outcome (Answer Renamed)
        tests u c = demand (not u) (refuse at Namespace NFS4ERR_INVAL) (demand c (refuse at Quota NFS4ERR_NOSPC) (done at (record { source = ops.changed m.from; target = ops.changed m.to }) changes))

        by_tests : (u c : Bool) → tests u c ≡ follows (λ (x : Info × Info × Option Gone). renamed_of x.0 x.1) at (test (not u) Inval (test c Spent (Ok (record { answer = (changed m.from, changed m.to, room.gone); changes = changes }))))
        by_tests true c = refl
        by_tests false true = refl
        by_tests false false = refl

    onto_alike : (m : Mover) (x : Option Entry) → entry_at t.entries m.to.id new ≡ x → None ≡ giving_way site at.subject t.nodes m.node.id x → goes_under site.dom at.subject (with_tree rest t) m.node.id m.to.id ≡ lies_above t m.node.id m.to.id
        → moved_onto site new at (with_tree rest t) m x ≡ follows (λ (x : Info × Info × Option Gone). renamed_of x.0 x.1) at (tree.moved_onto t at.moment new m.from m.to m.entry m.node x)
    onto_alike m None e way walk = moved_alike m (record { changes = []; gone = None }) walk
    onto_alike m (Some other) e way walk = by_same (same_id m.node.id other.node) way
      where
        told : Result (Doing (Info × Info × Option Gone)) TreeError → Outcome (Answer Renamed)
        told x = follows (λ (x : Info × Info × Option Gone). renamed_of x.0 x.1) at x

        absent : Outcome (Answer Renamed)
        absent = refuse at Namespace NFS4ERR_NOENT

        room : Node → Room
        room k = record { changes = taken_out at.moment t.entries other k; gone = gone t.entries other k }

        next : Entry → Node → Outcome (Answer Renamed)
        next e n = where_allowed site at (Drop n.label) (demand (may_give_way t.entries m.node n) (refuse at Namespace NFS4ERR_EXIST) (moved site new at (with_tree rest t) m (taken_out at.moment t.entries e n)))

        by_give : (k : Node) (b : Bool) → demand b (refuse at Namespace NFS4ERR_EXIST) (moved site new at (with_tree rest t) m (room k).changes) ≡ told (test b Exist (tree.moved t at.moment new m.from m.to m.entry m.node (room k)))
        by_give k true = moved_alike m (room k) walk
        by_give k false = refl

        by_node : (x : Option Node) → None ≡ taking site at.subject x → where_there x (next other) absent ≡ told (on_node x (λ k. test (may_give_way t.entries m.node k) Exist (tree.moved t at.moment new m.from m.to m.entry m.node (room k))))
        by_node None way = cc
        by_node (Some k) way = allowed site at (Drop k.label) _ way ∙ by_give k (may_give_way t.entries m.node k)

        by_same : (s : Bool) → None ≡ cond s None (taking site at.subject (node_at t.nodes other.node))
            → cond s (done at (record { source = ops.unchanged m.from; target = ops.unchanged m.to }) []) (where_old at (with_tree rest t) m.to new next)
            ≡ told (cond s (Ok (record { answer = (unchanged m.from, unchanged m.to, None); changes = [] })) (on_node (node_at t.nodes other.node) (λ k. test (may_give_way t.entries m.node k) Exist (tree.moved t at.moment new m.from m.to m.entry m.node (room k)))))
        by_same true way = refl
        by_same false way = ap (λ (x : Option Entry). where_there x (λ e. where_there (node_at t.nodes e.node) (next e) absent) absent) e ∙ by_node (node_at t.nodes other.node) way

  pub old_on : {R : Type 0} (d : Node) (name : List ℕ) (next : Entry → Node → Outcome (Answer R)) (o : Outcome (Answer R)) (h : Held) → IsHeld t (named t d.id name) (Ok h)
      → ((e : Entry) (n : Node) → entry_at t.entries d.id name ≡ Some e → node_at t.nodes e.node ≡ Some n → Holds t n h → next e n ≡ o) → where_old at (with_tree rest t) d name next ≡ o
  old_on {R} d name next o h held is = by_entry (entry_at t.entries d.id name) refl held
    where
      absent : Outcome (Answer R)
      absent = refuse at Namespace NFS4ERR_NOENT

      by_node : (e : Entry) → entry_at t.entries d.id name ≡ Some e → (x : Option Node) → node_at t.nodes e.node ≡ x → IsHeld t (found_at x) (Ok h) → where_there x (next e) absent ≡ o
      by_node e is_e None is_x held = absurd held
      by_node e is_e (Some n) is_x held = is e n is_e is_x held

      by_entry : (x : Option Entry) → entry_at t.entries d.id name ≡ x → IsHeld t (entered_at t.nodes x) (Ok h) → where_there x (λ e. where_there (node_at t.nodes e.node) (next e) absent) absent ≡ o
      by_entry None is_x held = absurd held
      by_entry (Some e) is_x held = by_node e is_x (node_at t.nodes e.node) refl held

  -- ---- the operation

  pub new_off : (old new : List ℕ) → None ≡ naming old → (why : Refusal) → Some (refusal_of why) ≡ naming new → rename site old new at (with_tree rest t) ≡ refuse at why.gate why.status
  new_off old new well_old why off = named_on at old _ well_old ∙ named_off at new _ why off

  module _ (old new : List ℕ) (well_old : None ≡ naming old) (well_new : None ≡ naming new) where
    pub ends_off : (why : Refusal) → ((next : Node → Node → Outcome (Answer Renamed)) → with_ends site at (with_tree rest t) next ≡ refuse at why.gate why.status) → rename site old new at (with_tree rest t) ≡ refuse at why.gate why.status
    ends_off why off = named_on at old _ well_old ∙ named_on at new _ well_new ∙ off _

    module _ (from to : Held) (ends : AreEnds site at.subject t at.saved at.current from to) where
      pub mover_off : (why : Refusal) → ((d : Node) → Holds t d from → is_directory d.kind ≡ true → IsHeld t (named t d.id old) (Err why)) → rename site old new at (with_tree rest t) ≡ refuse at why.gate why.status
      mover_off why off =
          named_on at old _ well_old ∙ named_on at new _ well_new
          ∙ reaches from to ends _ (refuse at why.gate why.status) (λ a b holds_a holds_b dir_a dir_b. old_off a old _ why (off a holds_a dir_a))

      module _ (mover : Held) (is_mover : (d : Node) → Holds t d from → is_directory d.kind ≡ true → IsHeld t (named t d.id old) (Ok mover)) where
        pub other_off : (why : Refusal) → ((d : Node) → Holds t d to → is_directory d.kind ≡ true → Some (refusal_of why) ≡ giving_way site at.subject t.nodes (id_of mover.id) (entry_at t.entries d.id new)) → rename site old new at (with_tree rest t) ≡ refuse at why.gate why.status
        other_off why off =
            named_on at old _ well_old ∙ named_on at new _ well_new
            ∙ reaches from to ends _ (refuse at why.gate why.status) (λ a b holds_a holds_b dir_a dir_b.
            old_on a old _ (refuse at why.gate why.status) mover (is_mover a holds_a dir_a) (λ e n is_e is_n holds_n.
            onto_off new (record { entry = e; node = n; from = a; to = b }) (entry_at t.entries b.id new) why refl
            (off b holds_b dir_b ∙ ap (λ (i : Id). giving_way site at.subject t.nodes i (entry_at t.entries b.id new)) holds_n.id)))

        tree_side : (a b : Node) (e : Entry) (n : Node) → Holds t a from → Holds t b to → is_directory a.kind ≡ true → is_directory b.kind ≡ true → entry_at t.entries a.id old ≡ Some e → node_at t.nodes e.node ≡ Some n
            → rename_of t (id_of from.id) old (id_of to.id) new at.moment ≡ tree.moved_onto t at.moment new a b e n (entry_at t.entries b.id new)
        tree_side a b e n holds_a holds_b dir_a dir_b is_e is_n = grind (arith, holds_a.id, holds_a.node_is, holds_b.id, holds_b.node_is, dir_a, dir_b, is_e, is_n)

        pub rename_checked : IsPreorderWithBottom site.dom → NodeFacts site.dom t.nodes t.entries t.lasts
            → ((d : Node) → Holds t d to → is_directory d.kind ≡ true → None ≡ giving_way site at.subject t.nodes (id_of mover.id) (entry_at t.entries d.id new))
            → rename site old new at (with_tree rest t) ≡ follows (λ (x : Info × Info × Option Gone). renamed_of x.0 x.1) at (rename_of t (id_of from.id) old (id_of to.id) new at.moment)
        rename_checked lattice facts way =
            let told = follows (λ (x : Info × Info × Option Gone). renamed_of x.0 x.1) at (rename_of t (id_of from.id) old (id_of to.id) new at.moment) in
            named_on at old _ well_old ∙ named_on at new _ well_new
            ∙ reaches from to ends _ told (λ a b holds_a holds_b dir_a dir_b.
            old_on a old _ told mover (is_mover a holds_a dir_a) (λ e n is_e is_n holds_n.
            let label = at_level site at.subject b.label (ends.target_open ∙ ap (λ (l : ℕ). denial site at.subject (ChangeNames l)) holds_b.tells.label) in
            onto_alike new (record { entry = e; node = n; from = a; to = b }) (entry_at t.entries b.id new) refl
            (way b holds_b dir_b ∙ ap (λ (i : Id). giving_way site at.subject t.nodes i (entry_at t.entries b.id new)) holds_n.id)
            (walks_alike site.dom lattice at.subject rest t facts n.id b holds_b.node_is dir_b label)
            ∙ ap (λ (x : Result (Doing (Info × Info × Option Gone)) TreeError). follows (λ (x : Info × Info × Option Gone). renamed_of x.0 x.1) at x) (sym (tree_side a b e n holds_a holds_b dir_a dir_b is_e is_n))))
