-- A node that a tree made, as CREATE makes it.
use Rattle.std.proofs.Common.{◌≡◌, refl, ap, sym, subst, ◌∙◌, ℕ, Bool, true, false, not, List, [], ◌∷◌, Option, Some, Result, Ok, Err, arith}
use Rattle.std.specs.Prelude.{◌&&◌, ◌==◌, is_some, nat_lt}
use Rattle.std.proofs.lemmas.Bool.Decides.{nat_tests}
use Rattle.lnfs_types.specs.declared.event.Moment.{Moment}
use Rattle.lnfs_attrs.specs.declared.bitmap.Bitmap.{Bitmap}
use Rattle.lnfs_world.specs.World.{Id, Node, World, node_at, is_directory}
use Rattle.lnfs_world.specs.Names.{entry_at}
use Rattle.lnfs_world.specs.Usage.{nodes_used}
use Rattle.lnfs_world.specs.Change.{Change, Touch, Make, apply_all}
use Rattle.lnfs_world.specs.Effects.{name_added, next_entry, has_cookie, has_number, next_id}
use Rattle.lnfs_world.specs.Outcome.{Site, Place}
use Rattle.lnfs_operations.specs.Chain.{Done}
use Rattle.lnfs_operations.specs.Create.{Made, has_room, made}
use Rattle.lnfs_tree.specs.Rows.{Rows, id_of, in_directory}
use Rattle.lnfs_tree.specs.Changed as tree
use Rattle.lnfs_tree.specs.Changed.{Doing, Does, test, insert_of, ran}
use Rattle.lnfs_tree.specs.declared.node.NodeId.{NodeId}
use Rattle.lnfs_tree.specs.declared.node.Info.{Info}
use Rattle.lnfs_tree.specs.declared.node.Fresh.{Fresh}
use Rattle.lnfs_tree.specs.declared.node.TreeError.{TreeError}
use Rattle.lnfs_tree.specs.declared.node.TreeError.TheVariants.{NotDir, Exist, Spent, Memory}
use Rattle.lnfs_nodes.specs.Trees.{with_tree}
use Rattle.lnfs_nodes.specs.Acts.{Succeeds}
use Rattle.lnfs_nodes.specs.Told.{cinfo_of}
use Rattle.lnfs_nodes.specs.Creating.{created_of}
use Rattle.lnfs_nodes.specs.declared.creating.Created.{Created}

-- what a call answers of a new node
abbrev pub seen : NodeId × Info → Id × Info
seen r = (id_of r.0, r.1)

abbrev answers : Rows → Rows → Result (Doing (Id × Info)) TreeError → Result (NodeId × Info) TreeError → Type 0
answers t u told r = Does {A = NodeId × Info} {B = Id × Info} seen told t u r

-- ---- the tree's tests

module _ (t u : Rows) (dir : Id) (d : Node) (name : List ℕ) (fresh : Fresh) (moment : Moment) (at : node_at t.nodes dir ≡ Some d) (directory : is_directory d.kind ≡ true) (absent : is_some (entry_at t.entries d.id name) ≡ false) where
  abbrev room : Bool
  room = has_number t.lasts fresh.home.0 && has_cookie d

  abbrev doing : Doing (Id × Info)
  doing = tree.made moment name fresh d (next_id t.lasts fresh.home.0)

  behind : (r : Result (NodeId × Info) TreeError) → answers t u (insert_of t dir name fresh moment) r → answers t u (test room Spent (Ok doing)) r
  behind r does =
      let there = subst (λ (x : Option Node). answers t u (in_directory x (λ d. test (not (is_some (entry_at t.entries d.id name))) Exist (test (has_number t.lasts fresh.home.0 && has_cookie d) Spent (Ok (tree.made moment name fresh d (next_id t.lasts fresh.home.0)))))) r) at does in
      let of_directory = subst (λ (b : Bool). answers t u (test b NotDir (test (not (is_some (entry_at t.entries d.id name))) Exist (test room Spent (Ok doing)))) r) directory there in
      subst (λ (b : Bool). answers t u (test (not b) Exist (test room Spent (Ok doing))) r) absent of_directory

  pub inserted : (r : NodeId × Info) → answers t u (insert_of t dir name fresh moment) (Ok r) → (room ≡ true) × (seen r ≡ (next_id t.lasts fresh.home.0, tree.changed d)) × (u ≡ ran doing.changes t)
  inserted r does = by room (behind (Ok r) does)
    where
      by : (b : Bool) → answers t u (test b Spent (Ok doing)) (Ok r) → (b ≡ true) × (seen r ≡ (next_id t.lasts fresh.home.0, tree.changed d)) × (u ≡ ran doing.changes t)
      by true does = (refl, does.0, does.1)
      by false does = absurd does

  pub spent : answers t u (insert_of t dir name fresh moment) (Err Spent) → (room ≡ false) × (u ≡ t)
  spent does = by room (behind (Err Spent) does)
    where
      by : (b : Bool) → answers t u (test b Spent (Ok doing)) (Err Spent) → (b ≡ false) × (u ≡ t)
      by true does = absurd does
      by false does = (refl, does.1)

  -- no other error is told
  pub only_spent : (e : TreeError) → (e ≡ Spent → ⊥) → (e ≡ Memory → ⊥) → answers t u (insert_of t dir name fresh moment) (Err e) → ⊥
  only_spent e not_spent not_memory does = by room (behind (Err e) does)
    where
      done : (e : TreeError) → (e ≡ Memory → ⊥) → answers t u (Ok doing) (Err e) → ⊥
      done Memory not_memory does = not_memory refl
      done e not_memory does = does

      refused : (e : TreeError) → (e ≡ Spent → ⊥) → (e ≡ Memory → ⊥) → answers t u (Err Spent) (Err e) → ⊥
      refused Memory not_spent not_memory does = not_memory refl
      refused e not_spent not_memory does = not_spent does.0

      by : (b : Bool) → answers t u (test b Spent (Ok doing)) (Err e) → ⊥
      by true does = done e not_memory does
      by false does = refused e not_spent not_memory does

module _ (t u : Rows) (dir : Id) (d : Node) (name : List ℕ) (fresh : Fresh) (moment : Moment) (at : node_at t.nodes dir ≡ Some d) (directory : is_directory d.kind ≡ true) (present : is_some (entry_at t.entries d.id name) ≡ true) where
  -- a name that is there is told
  pub exists : (r : Result (NodeId × Info) TreeError) → answers t u (insert_of t dir name fresh moment) r → answers t u (Err Exist) r
  exists r does =
      let next = test (has_number t.lasts fresh.home.0 && has_cookie d) Spent (Ok (tree.made moment name fresh d (next_id t.lasts fresh.home.0))) in
      let there = subst (λ (x : Option Node). answers t u (in_directory x (λ d. test (not (is_some (entry_at t.entries d.id name))) Exist (test (has_number t.lasts fresh.home.0 && has_cookie d) Spent (Ok (tree.made moment name fresh d (next_id t.lasts fresh.home.0)))))) r) at does in
      let of_directory = subst (λ (b : Bool). answers t u (test b NotDir (test (not (is_some (entry_at t.entries d.id name))) Exist next)) r) directory there in
      subst (λ (b : Bool). answers t u (test (not b) Exist next) r) present of_directory

  pub only_exist : (e : TreeError) → (e ≡ Exist → ⊥) → (e ≡ Memory → ⊥) → answers t u (insert_of t dir name fresh moment) (Err e) → ⊥
  only_exist e not_exist not_memory does = refused e not_exist not_memory (exists (Err e) does)
    where
      refused : (e : TreeError) → (e ≡ Exist → ⊥) → (e ≡ Memory → ⊥) → answers t u (Err Exist) (Err e) → ⊥
      refused Memory not_exist not_memory does = not_memory refl
      refused e not_exist not_memory does = not_exist does.0

-- ---- room

no_room : (a : Bool) → (a && false) ≡ false
no_room true = refl
no_room false = refl

module _ (site : Site) (p : Place) (rest : World) (t : Rows) (d : Node) where
  -- where a level has room, the rest is of numbers and cookies
  pub room_told : (has : Bool) → has ≡ nat_lt (nodes_used t.nodes p.subject) (site.nodes p.subject) → (p.subject == d.label) ≡ true → has_room site (with_tree rest t) d ≡ (has && (has_number t.lasts d.label && has_cookie d))
  room_told has e at =
      let same : p.subject ≡ d.label = grind (arith, nat_tests, at) in
      ap (λ (b : Bool). b && (has_number t.lasts d.label && has_cookie d)) (ap (λ (l : ℕ). nat_lt (nodes_used t.nodes l) (site.nodes l)) (sym same) ∙ sym e)

  pub full : (has : Bool) → has ≡ nat_lt (nodes_used t.nodes p.subject) (site.nodes p.subject) → (p.subject == d.label) ≡ true → has ≡ false → has_room site (with_tree rest t) d ≡ false
  full has e at is = room_told has e at ∙ ap (λ (b : Bool). b && (has_number t.lasts d.label && has_cookie d)) is

  pub no_number : (has : Bool) → has ≡ nat_lt (nodes_used t.nodes p.subject) (site.nodes p.subject) → (p.subject == d.label) ≡ true → (home : ℕ) → home ≡ d.label → (has_number t.lasts home && has_cookie d) ≡ false → has_room site (with_tree rest t) d ≡ false
  no_number has e at home same spent =
      room_told has e at ∙ ap (λ (l : ℕ). has && (has_number t.lasts l && has_cookie d)) (sym same) ∙ ap (λ (b : Bool). has && b) spent ∙ no_room has

  pub all_room : (has : Bool) → has ≡ nat_lt (nodes_used t.nodes p.subject) (site.nodes p.subject) → (p.subject == d.label) ≡ true → has ≡ true → (home : ℕ) → home ≡ d.label → (has_number t.lasts home && has_cookie d) ≡ true → has_room site (with_tree rest t) d ≡ true
  all_room has e at is home same room =
      room_told has e at ∙ ap (λ (b : Bool). b && (has_number t.lasts d.label && has_cookie d)) is ∙ ap (λ (l : ℕ). has_number t.lasts l && has_cookie d) (sym same) ∙ room

-- ---- what is made

module _ (site : Site) (p : Place) (rest : World) (t u : Rows) (d : Node) (name : List ℕ) (set : Bitmap) (fresh : Fresh) (n : Node) (home : fresh.home.0 ≡ d.label) (id : n.id ≡ next_id t.lasts d.label) (node : tree.new_node p.moment fresh (next_id t.lasts d.label) ≡ n) where
  -- the changes of the definition, and of the tree
  abbrev wanted : List Change
  wanted = Touch d.id (name_added p.moment d.inner) ∷ Make n (next_entry d name n.id) ∷ []

  abbrev told : List Change
  told = (tree.made p.moment name fresh d (next_id t.lasts fresh.home.0)).changes

  same_changes : told ≡ wanted
  same_changes =
      ap (λ (l : ℕ). (tree.made p.moment name fresh d (next_id t.lasts l)).changes) home
      ∙ ap (λ (m : Node). Touch d.id (name_added p.moment d.inner) ∷ Make m (next_entry d name (next_id t.lasts d.label)) ∷ []) node
      ∙ ap (λ (i : Id). Touch d.id (name_added p.moment d.inner) ∷ Make n (next_entry d name i) ∷ []) (sym id)

  pub makes : (c : Created) → c.set ≡ set → id_of c.node ≡ next_id t.lasts fresh.home.0 → c.info ≡ tree.changed d → u ≡ ran told t
      → Succeeds (created_of c) (record p { current = Some (id_of c.node) }) rest t u (made p d name set n)
  makes c is at info does = record {
    answer =
        ap (λ (i : Info). Done (let m : Made = record { info = cinfo_of i; set = set } in m)) (sym info)
        ∙ ap (λ (b : Bitmap). Done (let m : Made = record { info = cinfo_of c.info; set = b } in m)) (sym is);
    place = ap (λ (i : Id). record p { current = Some i }) (id ∙ ap (next_id t.lasts) (sym home) ∙ sym at);
    world = ap (λ (cs : List Change). apply_all cs (with_tree rest t)) (sym same_changes) ∙ ap (with_tree rest) (sym does);
  }
