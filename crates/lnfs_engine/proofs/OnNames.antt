-- An operation that changes the tree or the opens, by what is told of it.
use Rattle.std.proofs.Common.{◌≡◌, ℕ, List, Option, Some, None, Ok, Err, refl, sym, ap, ◌∙◌, subst}
use Rattle.std.specs.Prelude.{Result, IfOk}
use Rattle.lnfs_results.specs.declared.types.OpResult.{OpResult}
use Rattle.lnfs_world.specs.World.{Node, World}
use Rattle.lnfs_world.specs.Outcome.{Place, Outcome, done_to}
use Rattle.lnfs_operations.specs.declared.Refusal.{Refusal}
use Rattle.lnfs_operations.specs.Chain.{Answer, Done, refuse}
use Rattle.lnfs_operations.specs.Served.{Nowhere, success, reply_of}
use Rattle.lnfs_tree.specs.Rows.{Rows}
use Rattle.lnfs_nodes.specs.Trees.{with_tree, answered, stays}
use Rattle.lnfs_nodes.specs.Acts as nodes
use Rattle.lnfs_quota.specs.declared.quota.Row.{Row}
use Rattle.lnfs_quota.specs.Quota.{node_charged}
use Rattle.lnfs_quota.specs.Totals.{AreTotals}
use Rattle.lnfs_open.specs.Lists.{Lists}
use Rattle.lnfs_files.specs.Worlds.{with_opens, with_files}
use Rattle.lnfs_files.specs.Acts as files
use Rattle.lnfs_tree.specs.Changed.{Gone}
use Rattle.lnfs_engine.specs.Counts.{AreAsMany, IsMore, WentFrom, TakenFrom, charged}
use Rattle.lnfs_engine.specs.Stores.{opens_without, opens_past}
use Rattle.lnfs_engine.proofs.Counting.{more_counts}
use Rattle.lnfs_engine.specs.Places.{IsMoved}
use Rattle.lnfs_engine.specs.Nodes.{told_as}
use Rattle.lnfs_engine.specs.Names.{Serves, landed}

-- ---- what is told of an operation on a world

pub record Succeeds {R : Type 0} (told : R) (lands : Place) (old new : World) (o : Outcome (Answer R)) : Type 0 where
  pub answer : o.answer ≡ Done told
  pub place : o.place ≡ lands
  pub world : done_to old o ≡ new

pub record Refuses {R : Type 0} (why : Refusal) (at : Place) (old new : World) (o : Outcome (Answer R)) : Type 0 where
  pub outcome : o ≡ refuse at why.gate why.status
  pub world : new ≡ old

abbrev pub Tells : {A R : Type 0} → (told : A → R) → (lands : A → Place) → Place → (old new : World) → Outcome (Answer R) → Result A Refusal → Type 0
Tells told lands at old new o (Ok a) = Succeeds (told a) (lands a) old new o
Tells told lands at old new o (Err why) = Refuses why at old new o

-- of the tree
pub on_tree : {A R : Type 0} (told : A → R) (lands : A → Place) (p : Place) (rest : World) (t u : Rows) (o : Outcome (Answer R)) (found : Result A Refusal) → nodes.ActsTo told lands p rest t u o found → Tells told lands p (with_tree rest t) (with_tree rest u) o found
on_tree told lands p rest t u o (Ok a) did = record { answer = did.answer; place = did.place; world = did.world }
on_tree told lands p rest t u o (Err why) did = record { outcome = did.outcome; world = ap (with_tree rest) did.tree }

-- of the tree and of the opens of a node that may have gone
pub on_gone : {A R : Type 0} (gone : A → Option Gone) (told : A → R) (lands : A → Place) (p : Place) (rest : World) (t u : Rows) (s : Lists) (o : Outcome (Answer R)) (found : Result A Refusal) →
    nodes.ActsLeaving told lands (λ a. nodes.without_opens (gone a)) p (with_opens rest s) t u o found → Tells told lands p (with_files rest t s) (with_files rest u (opens_past gone found s)) o found
on_gone gone told lands p rest t u s o (Ok a) did = record { answer = did.answer; place = did.place; world = did.world ∙ without (gone a) }
  where
    without : (g : Option Gone) → with_tree (nodes.without_opens g (with_opens rest s)) u ≡ with_files rest u (opens_without g s)
    without None = refl
    without (Some g) = refl
on_gone gone told lands p rest t u s o (Err why) did = record { outcome = did.outcome; world = ap (λ v. with_files rest v s) did.tree }

-- of the tree and of the opens
pub on_both : {A R : Type 0} (told : A → R) (lands : A → Place) (p : Place) (rest : World) (t u : Rows) (s v : Lists) (o : Outcome (Answer R)) (found : Result A Refusal) → files.ActsTo told lands p rest t u s v o found → Tells told lands p (with_files rest t s) (with_files rest u v) o found
on_both told lands p rest t u s v o (Ok a) did = record { answer = did.answer; place = did.place; world = did.world }
on_both told lands p rest t u s v o (Err why) did = record { outcome = did.outcome; world = (λ i. with_files rest (did.tree i) (did.opens i)) }

-- ---- what an operation comes to

module _ {A R : Type 0} (result : R → OpResult) (told : A → R) (old new : World) where
  serves_at : (lands : A → Place) (p : Place) (o : Outcome (Answer R)) (found : Result A Refusal) → Tells told lands p old new o found →
      Serves result o (told_as (λ a. result (told a)) found) (landed lands p found) old new
  serves_at lands p o (Ok a) did = λ op. record { answer = ap (reply_of op (λ r. success (result r) Nowhere)) did.answer; place = did.place; world = sym did.world }
  serves_at lands p o (Err why) did = λ op. record {
    answer = ap (λ (x : Outcome (Answer R)). reply_of op (λ r. success (result r) Nowhere) x.answer) did.outcome;
    place = ap (λ (x : Outcome (Answer R)). x.place) did.outcome;
    world = did.world ∙ sym (ap (done_to old) did.outcome);
  }

  -- at a place by another name
  pub serves_to : (lands : Place → A → Place) (at p : Place) (act : Place → Outcome (Answer R)) (found : Result A Refusal) (answer : Result OpResult Refusal) (next : Place) → at ≡ p → answer ≡ told_as (λ a. result (told a)) found → next ≡ landed (lands p) p found → Tells told (lands at) at old new (act at) found →
      Serves result (act p) answer next old new
  serves_to lands at p act found answer next is same goes did =
      subst (λ q. Serves result (act p) answer q old new) (sym goes)
      (subst (λ a. Serves result (act p) a (landed (lands p) p found) old new) (sym same)
      (serves_at (lands p) p (act p) found (subst (λ q. Tells told (lands q) q old new (act q) found) is did)))

  landed_here : (p : Place) (found : Result A Refusal) → p ≡ landed (λ a. p) p found
  landed_here p (Ok a) = refl
  landed_here p (Err why) = refl

  -- one that stays
  pub serves : (at p : Place) (act : Place → Outcome (Answer R)) (found : Result A Refusal) (answer : Result OpResult Refusal) → at ≡ p → answer ≡ told_as (λ a. result (told a)) found → Tells told (λ a. at) at old new (act at) found →
      Serves result (act p) answer p old new
  serves at p act found answer is same did = serves_to (λ q a. q) at p act found answer p is same (landed_here p found) did

-- one that leaves the world
pub stays_serves : {A R : Type 0} (result : R → OpResult) (told : A → R) (w : World) (at p : Place) (act : Place → Outcome (Answer R)) (found : Result A Refusal) (answer : Result OpResult Refusal) → at ≡ p → answer ≡ told_as (λ a. result (told a)) found → act at ≡ stays at (answered told found) →
    Serves result (act p) answer p w w
stays_serves {A} {R} result told w at p act found answer is same did = serves result told w w at p act found answer is same (told_of found did)
  where
    told_of : (found : Result A Refusal) → act at ≡ stays at (answered told found) → Tells told (λ a. at) at w w (act at) found
    told_of (Ok a) did = record { answer = ap (λ (o : Outcome (Answer R)). o.answer) did; place = ap (λ (o : Outcome (Answer R)). o.place) did; world = ap (done_to w) did }
    told_of (Err why) did = record { outcome = did; world = refl }

-- ---- what is counted

module _ {A R : Type 0} (told : A → R) (lands : A → Place) (p : Place) (old new : World) (o : Outcome (Answer R)) where
  -- what holds of the nodes before, and behind each success, holds afterwards
  pub behind : (P : List Node → Type 0) (found : Result A Refusal) → Tells told lands p old new o found → P old.nodes → P (done_to old o).nodes → P new.nodes
  behind P (Ok a) did stays goes = subst (λ (w : World). P w.nodes) did.world goes
  behind P (Err why) did stays goes = subst (λ (w : World). P w.nodes) (sym did.world) stays

  -- what went from the nodes, by what is told of it
  pub taken : (gone : A → Option Gone) (is : Option Gone) (found : Result A Refusal) → Tells told lands p old new o found → IfOk found (λ a. gone a ≡ is) → AreAsMany old.nodes old.nodes → ((r : R) → o.answer ≡ Done r → WentFrom is old.nodes (done_to old o).nodes) →
      TakenFrom gone found old.nodes new.nodes
  taken gone is (Ok a) did same stays went = subst (λ (w : World). WentFrom (gone a) old.nodes w.nodes) did.world (subst (λ g. WentFrom g old.nodes (done_to old o).nodes) (sym same) (went (told a) did.answer))
  taken gone is (Err why) did same stays went = subst (λ (w : World). AreAsMany old.nodes w.nodes) (sym did.world) stays

  -- what holds behind each success
  pub succeeded : (P : Type 0) (found : Result A Refusal) → Tells told lands p old new o found → ((r : R) → o.answer ≡ Done r → P) → IfOk found (λ a. P)
  succeeded P (Ok a) did holds = holds (told a) did.answer
  succeeded P (Err why) did holds = tt

  -- a success that makes a node is charged to its home
  pub charged_counts : (rows : List Row) (home : ℕ) (found : Result A Refusal) → Tells told lands p old new o found → AreTotals rows old.nodes → ((r : R) → o.answer ≡ Done r → IsMore home old.nodes (done_to old o).nodes) → AreTotals (charged rows home found) new.nodes
  charged_counts rows home (Ok a) did counts more = subst (λ (w : World). AreTotals (node_charged rows home) w.nodes) did.world (more_counts rows old.nodes (done_to old o).nodes counts home (more (told a) did.answer))
  charged_counts rows home (Err why) did counts more = subst (λ (w : World). AreTotals rows w.nodes) (sym did.world) counts

-- a place with other file handles
pub lands_moved : {A : Type 0} (lands : A → Place) (p q : Place) (found : Result A Refusal) → ((a : A) → IsMoved p (lands a)) → q ≡ landed lands p found → IsMoved p q
lands_moved lands p q (Ok a) moved is = subst (IsMoved p) (sym is) (moved a)
lands_moved lands p q (Err why) moved is = subst (IsMoved p) (sym is) refl
