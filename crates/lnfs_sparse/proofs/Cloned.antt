-- CLONE: the files that it is led to, what refuses it, and what it leaves.
use Rattle.std.proofs.Common.{◌≡◌, refl, ap, sym, ◌∙◌, ◌+◌, Bool, true, false, not, cond, List, [], ◌∷◌, ◌++◌, length, Option, Some, None, Result, Ok, Err}
use Rattle.std.specs.Prelude.{IsErrAnd, nat_le}
use Rattle.lnfs_arguments.specs.declared.statuses.TheConstants.{NFS4ERR_INVAL}
use Rattle.lnfs_world.specs.World.{Id, Inner, Node, World, node_at, same_id}
use Rattle.lnfs_world.specs.Change.{Change, Touch, apply, apply_all}
use Rattle.lnfs_world.specs.Effects.{size_written, written, data_changed}
use Rattle.lnfs_world.specs.Outcome.{Site, Place, Outcome}
use Rattle.lnfs_world.proofs.Keys.{id_same}
use Rattle.lnfs_monitor.specs.Rules.{Read, Write}
use Rattle.lnfs_operations.specs.declared.Gate.TheVariants.{Namespace}
use Rattle.lnfs_operations.specs.declared.Refusal.{Refusal}
use Rattle.lnfs_operations.specs.Chain.{Answer, refuse, done, demand, where_there}
use Rattle.lnfs_operations.specs.Chain as chain
use Rattle.lnfs_operations.specs.Judged.{where_allowed}
use Rattle.lnfs_operations.specs.Handles.{with_node, with_current}
use Rattle.lnfs_operations.specs.StateIds.{Reading, Writing, where_usable}
use Rattle.lnfs_operations.specs.Files.{where_fitting}
use Rattle.lnfs_operations.specs.Accessed.{accessed}
use Rattle.lnfs_tree.specs.Rows.{rows_of, kind_of, id_of}
use Rattle.lnfs_nodes.specs.Trees.{there, held_in, Holds, IsHeld, refusal_of, denial}
use Rattle.lnfs_nodes.specs.declared.held.Held.{Held}
use Rattle.lnfs_nodes.proofs.Tests.{allowed}
use Rattle.lnfs_nodes.proofs.Refusing.{denied}
use Rattle.lnfs_files.specs.Tests.{passed, refusal_in, tested}
use Rattle.lnfs_files.proofs.Stages.{goes_on, refuses, demand_stage}
use Rattle.lnfs_files.proofs.StateIds.{usable_tested}
use Rattle.lnfs_sparse_ops.specs.Arguments.{CloneArgs}
use Rattle.lnfs_sparse_ops.specs.Regions.{where_ordinary}
use Rattle.lnfs_sparse_ops.specs.Clone.{bytes_cloned, overlap, source_behind, cloned, clone}
use Rattle.lnfs_sparse_ops.proofs.SetFiles.{node_touched, other_node}
use Rattle.lnfs_sparse.specs.declared.clone.Files.{Files}
use Rattle.lnfs_sparse.specs.Cloning.{Next, where_files, where_open_files, where_copied, AreHeld, AreLed, LeadsTo, Clones, copied}
use Rattle.lnfs_sparse.proofs.Passing.{ordinary_tested, fitting_tested, passes_as_file}

-- a refusal that `?` hands on
pub err_files : (o : Next → Outcome (Answer (Unit {0}))) (p : Place) (w : World) (r : Result Files Refusal) (why : Refusal) → IsErrAnd r (λ e. e ≡ why)
    → ((next : Next) → o next ≡ refuse p why.gate why.status) → LeadsTo o p w r
err_files o p w (Ok f) why is off = absurd is
err_files o p w (Err e) why is off = λ next. off next ∙ ap (λ (x : Refusal). refuse p x.gate x.status) (sym is)

pub err_clones : (site : Site) (args : CloneArgs) (p : Place) (w : World) (r : Result Files Refusal) (why : Refusal) → IsErrAnd r (λ e. e ≡ why)
    → clone site args p w ≡ refuse p why.gate why.status → Clones site args p w r
err_clones site args p w (Ok f) why is off = absurd is
err_clones site args p w (Err e) why is off = off ∙ ap (λ (x : Refusal). refuse p x.gate x.status) (sym is)

-- the node of a handle
pub node_found : (p : Place) (w : World) (handle : Option Id) (h : Held) → IsHeld (rows_of w) (held_in w.nodes handle) (Ok h) →
    (n : Node) × (Holds (rows_of w) n h × ((found : Node → Outcome (Answer (Unit {0}))) → with_node p w handle found ≡ found n))
node_found p w handle h held = at handle held
  where
    at_node : (stale : Outcome (Answer (Unit {0}))) (x : Option Node) → IsHeld (rows_of w) (there x) (Ok h) → (n : Node) × (Holds (rows_of w) n h × ((found : Node → Outcome (Answer (Unit {0}))) → where_there x found stale ≡ found n))
    at_node stale (Some n) held = (n, (held, λ found. refl))
    at_node stale None held = absurd held

    at : (i : Option Id) → IsHeld (rows_of w) (held_in w.nodes i) (Ok h) → (n : Node) × (Holds (rows_of w) n h × ((found : Node → Outcome (Answer (Unit {0}))) → with_node p w i found ≡ found n))
    at (Some i) held = at_node _ (node_at w.nodes i) held
    at None held = absurd held

-- ---- two ordinary files

module _ (p : Place) (w : World) (a b : Held) (source : IsHeld (rows_of w) (held_in w.nodes p.saved) (Ok a)) (target : IsHeld (rows_of w) (held_in w.nodes p.current) (Ok b)) where
  abbrev IsKind : Held → Option chain.Refusal → Type 0
  IsKind h x = (n : Node) → kind_of h.facts.kind ≡ n.kind → x ≡ refusal_in (where_ordinary p n (passed p))

  -- the source and the target, behind their handles
  led_to : (next : Next) → where_files p w next ≡ (let s = node_found p w p.saved a source in let t = node_found p w p.current b target in where_ordinary p s.0 (where_ordinary p t.0 (next s.0 t.0)))
  led_to next =
      let s = node_found p w p.saved a source in
      let t = node_found p w p.current b target in
      s.1.1 (λ s. with_current p w (λ t. where_ordinary p s (where_ordinary p t (next s t)))) ∙ t.1.1 (λ t. where_ordinary p s.0 (where_ordinary p t (next s.0 t)))

  pub no_source : (why : Refusal) → IsKind a (Some (refusal_of why)) → (next : Next) → where_files p w next ≡ refuse p why.gate why.status
  no_source why off next =
      let s = node_found p w p.saved a source in
      let t = node_found p w p.current b target in
      led_to next ∙ refuses p _ _ _ (ordinary_tested p s.0 (where_ordinary p t.0 (next s.0 t.0))) (refusal_of why) (off s.0 s.1.0.tells.kind)

  module _ (ordinary : IsKind a None) where
    pub no_target : (why : Refusal) → IsKind b (Some (refusal_of why)) → (next : Next) → where_files p w next ≡ refuse p why.gate why.status
    no_target why off next =
        let s = node_found p w p.saved a source in
        let t = node_found p w p.current b target in
        led_to next ∙ goes_on p _ _ _ (ordinary_tested p s.0 (where_ordinary p t.0 (next s.0 t.0))) (ordinary s.0 s.1.0.tells.kind)
        ∙ refuses p _ _ _ (ordinary_tested p t.0 (next s.0 t.0)) (refusal_of why) (off t.0 t.1.0.tells.kind)

    pub both_led : IsKind b None → AreLed (where_files p w) w (record { source = a; target = b })
    both_led also =
        let s = node_found p w p.saved a source in
        let t = node_found p w p.current b target in
        let first = ordinary s.0 s.1.0.tells.kind in
        let second = also t.0 t.1.0.tells.kind in
        record {
          source = s.0;
          target = t.0;
          held = record { source = s.1.0; target = t.1.0; source_file = passes_as_file p s.0 first; target_file = passes_as_file p t.0 second };
          leads = λ next. led_to next ∙ goes_on p _ _ _ (ordinary_tested p s.0 (where_ordinary p t.0 (next s.0 t.0))) first ∙ goes_on p _ _ _ (ordinary_tested p t.0 (next s.0 t.0)) second;
        }

-- ---- labels and open state

module _ (site : Site) (args : CloneArgs) (p : Place) (w : World) (f : Files) (led : AreLed (where_files p w) w f) where
  abbrev s : Node
  s = led.source

  abbrev t : Node
  t = led.target

  abbrev by_target_state : Next → Outcome (Answer (Unit {0}))
  by_target_state next = where_usable site p w t args.target Writing (next s t)

  abbrev by_source_state : Next → Outcome (Answer (Unit {0}))
  by_source_state next = where_usable site p w s args.source Reading (by_target_state next)

  abbrev by_target_label : Next → Outcome (Answer (Unit {0}))
  by_target_label next = where_allowed site p (Write t.label) (by_source_state next)

  begun : (next : Next) → where_open_files site args p w next ≡ where_allowed site p (Read s.label) (by_target_label next)
  begun next = led.leads (λ s t. where_allowed site p (Read s.label) (where_allowed site p (Write t.label) (where_usable site p w s args.source Reading (where_usable site p w t args.target Writing (next s t)))))

  pub source_denied : (why : Refusal) → Some (refusal_of why) ≡ denial site p.subject (Read f.source.facts.label.0) → (next : Next) → where_open_files site args p w next ≡ refuse p why.gate why.status
  source_denied why e next = begun next ∙ denied site p (Read s.label) (by_target_label next) why (e ∙ ap (λ l. denial site p.subject (Read l)) led.held.source.tells.label)

  module _ (may_read : None ≡ denial site p.subject (Read f.source.facts.label.0)) where
    read : (next : Next) → where_open_files site args p w next ≡ by_target_label next
    read next = begun next ∙ allowed site p (Read s.label) (by_target_label next) (may_read ∙ ap (λ l. denial site p.subject (Read l)) led.held.source.tells.label)

    pub target_denied : (why : Refusal) → Some (refusal_of why) ≡ denial site p.subject (Write f.target.facts.label.0) → (next : Next) → where_open_files site args p w next ≡ refuse p why.gate why.status
    target_denied why e next = read next ∙ denied site p (Write t.label) (by_source_state next) why (e ∙ ap (λ l. denial site p.subject (Write l)) led.held.target.tells.label)

    module _ (may_write : None ≡ denial site p.subject (Write f.target.facts.label.0)) where
      writable : (next : Next) → where_open_files site args p w next ≡ by_source_state next
      writable next = read next ∙ allowed site p (Write t.label) (by_source_state next) (may_write ∙ ap (λ l. denial site p.subject (Write l)) led.held.target.tells.label)

      pub source_state : (why : Refusal) → Some (refusal_of why) ≡ refusal_in (where_usable site p w s args.source Reading (passed p)) → (next : Next) → where_open_files site args p w next ≡ refuse p why.gate why.status
      source_state why e next = writable next ∙ refuses p _ _ _ (usable_tested p w s args.source (by_target_state next) site Reading) (refusal_of why) e

      module _ (source_usable : None ≡ refusal_in (where_usable site p w s args.source Reading (passed p))) where
        used : (next : Next) → where_open_files site args p w next ≡ by_target_state next
        used next = writable next ∙ goes_on p _ _ _ (usable_tested p w s args.source (by_target_state next) site Reading) source_usable

        pub target_state : (why : Refusal) → Some (refusal_of why) ≡ refusal_in (where_usable site p w t args.target Writing (passed p)) → (next : Next) → where_open_files site args p w next ≡ refuse p why.gate why.status
        target_state why e next = used next ∙ refuses p _ _ _ (usable_tested p w t args.target (next s t) site Writing) (refusal_of why) e

        pub open_led : None ≡ refusal_in (where_usable site p w t args.target Writing (passed p)) → AreLed (where_open_files site args p w) w f
        open_led e = record { source = s; target = t; held = led.held; leads = λ next. used next ∙ goes_on p _ _ _ (usable_tested p w t args.target (next s t) site Writing) e }

-- ---- the ranges

module _ (site : Site) (args : CloneArgs) (p : Place) (w : World) (s t : Node) where
  abbrev fitting : Outcome (Answer (Unit {0})) → Outcome (Answer (Unit {0}))
  fitting next = where_fitting site p w t (size_written args.to (bytes_cloned args s) t.inner.content) next

  abbrev apart : Outcome (Answer (Unit {0})) → Outcome (Answer (Unit {0}))
  apart next = demand (not (overlap args s t)) (refuse p Namespace NFS4ERR_INVAL) (fitting next)

  pub copied_tested : (next : Outcome (Answer (Unit {0}))) → where_copied site args p w s t next ≡ tested p (refusal_in (where_copied site args p w s t (passed p))) next
  copied_tested next =
      demand_stage p next (nat_le (args.from + args.count) (length s.inner.content)) Namespace NFS4ERR_INVAL (apart next) (apart (passed p)) (
      demand_stage p next (not (overlap args s t)) Namespace NFS4ERR_INVAL (fitting next) (fitting (passed p)) (
      fitting_tested p site w t (size_written args.to (bytes_cloned args s) t.inner.content) next))

-- ---- what is left

module _ (args : CloneArgs) (p : Place) (w : World) (f : Files) (s t : Node) (held : AreHeld w s t f) where
  -- one file is one node
  one_file : same_id s.id t.id ≡ true → s ≡ t
  one_file is = let e : Some s ≡ Some t = sym held.source.node_is ∙ ap (node_at w.nodes) (id_same s.id t.id is) ∙ held.target.node_is in cc

  abbrev set_inner : Inner
  set_inner = data_changed p.moment (written args.to (bytes_cloned args s) t.inner.content) t.inner

  -- the target, by whether no byte is copied
  abbrev target_if : Bool → Node
  target_if none = cond none t (record t { inner = set_inner })

  abbrev world_if : Bool → World
  world_if none = apply_all (cond none [] (Touch t.id (target_if none).inner ∷ [])) w

  abbrev source_if : (none same : Bool) → Node
  source_if none same = cond same (target_if none) s

  -- the source behind the copy is there, with its identifier and its label
  pub record IsBehind (none same : Bool) : Type 0 where
    pub id : id_of f.source.id ≡ (source_if none same).id
    pub label : f.source.facts.label.0 ≡ (source_if none same).label
    pub found : node_at (world_if none).nodes (source_if none same).id ≡ Some (source_if none same)

  pub is_behind : (none same : Bool) → same_id s.id t.id ≡ same → IsBehind none same
  is_behind true true is = record { id = held.source.id ∙ id_same s.id t.id is; label = held.source.tells.label ∙ ap (λ (n : Node). n.label) (one_file is); found = held.target.node_is }
  is_behind true false is = record { id = held.source.id; label = held.source.tells.label; found = held.source.node_is }
  is_behind false true is = record { id = held.source.id ∙ id_same s.id t.id is; label = held.source.tells.label ∙ ap (λ (n : Node). n.label) (one_file is); found = node_touched t.id set_inner t w.nodes held.target.node_is }
  is_behind false false is = record { id = held.source.id; label = held.source.tells.label; found = other_node t.id set_inner s.id w.nodes is ∙ held.source.node_is }

  -- the world behind both
  pub both_done : (v : World) → v ≡ apply_all (copied p args s t) w → (x : World) → x ≡ apply_all (accessed p (source_behind p args s t)) v → x ≡ apply_all (cloned p args s t) w
  both_done v first x then = then ∙ ap (apply_all (accessed p (source_behind p args s t))) first ∙ joined (copied p args s t) (accessed p (source_behind p args s t)) w
    where
      joined : (a b : List Change) (w : World) → apply_all b (apply_all a w) ≡ apply_all (a ++ b) w
      joined [] b w = refl
      joined (c ∷ a) b w = joined a b (apply c w)
