-- A file that is held: its size, and what a call that sets its data does where all tests have passed.
use Rattle.std.proofs.Common.{◌≡◌, refl, ap, sym, subst, ◌∙◌, ℕ, Bool, true, false, cond, [], length, Option, Some, Result, Ok, Err}
use Rattle.std.specs.Prelude.{nat_le}
use Rattle.lnfs_types.specs.declared.event.Moment.{Moment}
use Rattle.lnfs_world.specs.declared.numbers.TheConstants.{MOST_FILE}
use Rattle.lnfs_world.specs.Names.{size_of}
use Rattle.lnfs_world.specs.World.{Id, File, Node, World, node_at}
use Rattle.lnfs_world.specs.Change.{apply_all}
use Rattle.lnfs_world.specs.Effects.{sized}
use Rattle.lnfs_tree.specs.declared.node.TreeError.{TreeError}
use Rattle.lnfs_tree.specs.declared.node.TreeError.TheVariants.{FBig, Memory}
use Rattle.lnfs_tree.specs.Rows.{Rows, rows_of, id_of, of_file, on_file, kind_of}
use Rattle.lnfs_tree.specs.Changed.{Doing, sets_data, set_size_of, zero_of, test}
use Rattle.lnfs_content.specs.Sparse.{zeroed, has_region}
use Rattle.lnfs_nodes.specs.Trees.{held_in, Holds, IsHeld}
use Rattle.lnfs_nodes.specs.declared.held.Held.{Held}
use Rattle.lnfs_data.specs.Worlds.{Answer, DoesIn}
use Rattle.lnfs_sparse.specs.Made.{IsMade}
use Rattle.lnfs_sparse.specs.Deciding.{IsFileHeld}

pub is_file : (t : Rows) (n : Node) (h : Held) → Holds t n h → kind_of h.facts.kind ≡ File → n.kind ≡ File
is_file t n h holds kind = sym holds.tells.kind ∙ kind

-- the size that the facts tell
pub size_is : (t : Rows) (n : Node) (h : Held) → Holds t n h → n.kind ≡ File → h.facts.size ≡ length n.inner.content
size_is t n h holds kind = holds.tells.size ∙ ap (size_of t.entries n) kind

-- the node by the identifier that is held
pub found : (t : Rows) (n : Node) (h : Held) → Holds t n h → node_at t.nodes (id_of h.id) ≡ Some n
found t n h holds = ap (λ (i : Id). node_at t.nodes i) holds.id ∙ holds.node_is

-- what a call does on it
pub on_it : {A : Type 0} (t : Rows) (n : Node) (h : Held) → Holds t n h → n.kind ≡ File → (next : Node → Result A TreeError) → on_file (node_at t.nodes (id_of h.id)) next ≡ next n
on_it t n h holds kind next = ap (λ o. on_file o next) (found t n h holds) ∙ ap (λ k. of_file k (next n)) kind

-- ---- what it answers

module _ (told : Result (Doing (Unit {0})) TreeError) (doing : Doing (Unit {0})) (is : told ≡ Ok doing) (before after : World) where
  pub is_made : (r : Answer) → DoesIn told before after r → IsMade r
  is_made r does = by r (subst (λ (x : Result (Doing (Unit {0})) TreeError). DoesIn x before after r) is does)
    where
      by : (r : Answer) → DoesIn (Ok doing) before after r → IsMade r
      by (Ok a) does = tt
      by (Err Memory) does = tt
      by (Err why) does = absurd does

  pub was_made : (r : Answer) → DoesIn told before after r → r ≡ Ok tt → after ≡ apply_all doing.changes before
  was_made r does e = subst (λ (x : Result (Doing (Unit {0})) TreeError). DoesIn x before after (Ok tt)) is (subst (λ (r : Answer). DoesIn told before after r) e does)

-- ---- of each call

module _ (w : World) (n : Node) (h : Held) (holds : Holds (rows_of w) n h) (kind : n.kind ≡ File) (at : Moment) where
  pub size_set : (size : ℕ) → nat_le size MOST_FILE ≡ true → set_size_of (rows_of w) (id_of h.id) size at ≡ Ok (sets_data at n (sized size n.inner.content))
  size_set size fits =
      on_it (rows_of w) n h holds kind (λ m. test (nat_le size MOST_FILE) FBig (Ok (sets_data at m (sized size m.inner.content))))
      ∙ ap (λ (b : Bool). test b FBig (Ok (sets_data at n (sized size n.inner.content)))) fits

  abbrev zeroing : (first end : ℕ) → Doing (Unit {0})
  zeroing first end = cond (has_region first end n.inner.content) (sets_data at n (zeroed first end n.inner.content)) (record { answer = tt; changes = [] })

  pub zero_set : (first end : ℕ) → zero_of (rows_of w) (id_of h.id) first end at ≡ Ok (zeroing first end)
  zero_set first end = on_it (rows_of w) n h holds kind (λ m. Ok (cond (has_region first end m.inner.content) (sets_data at m (zeroed first end m.inner.content)) (record { answer = tt; changes = [] })))

-- the changes of either of two
pub either_changes : (b : Bool) (doing : Doing (Unit {0})) → (cond b doing (record { answer = tt; changes = [] })).changes ≡ cond b doing.changes []
either_changes true doing = refl
either_changes false doing = refl

-- a node that is held for a file is one
pub held_kind : (w : World) (h : Held) → IsFileHeld w h → (n : Node) → Holds (rows_of w) n h → n.kind ≡ File
held_kind w h is n holds = sym holds.tells.kind ∙ is.holds.tells.kind ∙ is.file

-- and that is held is told once
pub one_node : (t : Rows) (n m : Node) (h : Held) → Holds t n h → Holds t m h → n ≡ m
one_node t n m h a b = let e : Some n ≡ Some m = sym (found t n h a) ∙ found t m h b in cc

-- what is held of a tree, of the world that has its rows
pub in_world : (t : Rows) (w : World) → t ≡ rows_of w → (i : Option Id) (h : Held) → IsHeld t (held_in t.nodes i) (Ok h) → IsHeld (rows_of w) (held_in w.nodes i) (Ok h)
in_world t w is i h held = subst (λ (r : Rows). IsHeld r (held_in r.nodes i) (Ok h)) is held
