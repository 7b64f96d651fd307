-- READLINK of a symbolic link that is held.
use Rattle.std.proofs.Common.{◌≡◌, refl, ap, sym, subst, ◌∙◌, ℕ, true, List, ◌++◌, Some, None, Ok}
use Rattle.lnfs_results.specs.declared.types.OpResult.TheVariants as results
use Rattle.lnfs_results.specs.Texts.{result_text}
use Rattle.lnfs_world.specs.World.{Kind, File, Directory, SymbolicLink, Node, World, node_at}
use Rattle.lnfs_world.specs.Change.{apply_all}
use Rattle.lnfs_world.specs.Outcome.{Site, Place}
use Rattle.lnfs_monitor.specs.Rules.{Read}
use Rattle.lnfs_operations.specs.Chain.{done}
use Rattle.lnfs_operations.specs.Lookup.{is_link}
use Rattle.lnfs_operations.specs.Accessed.{accessed}
use Rattle.lnfs_operations.specs.ReadLink.{read_link}
use Rattle.lnfs_tree.specs.Rows.{Rows, id_of, text_in, text_of}
use Rattle.lnfs_nodes.specs.Trees.{with_tree, held_in, Holds, IsHeld, denial}
use Rattle.lnfs_nodes.specs.Writes.{Writes}
use Rattle.lnfs_nodes.specs.declared.held.Held.{Held}
use Rattle.lnfs_nodes.proofs.Tests.{passed, allowed}
use Rattle.lnfs_nodes.proofs.Found.{about_held}

is_text : (n : Node) (kind : Kind) (text : List ℕ) → Some text ≡ text_in n kind → (is_link kind ≡ true) × (text ≡ n.inner.content)
is_text n File text e = cc
is_text n Directory text e = cc
is_text n SymbolicLink text e = (refl, cc)

-- the text of a node that is held
held_text : (t : Rows) (n : Node) (h : Held) (text : List ℕ) → Holds t n h → Some text ≡ text_of (node_at t.nodes (id_of h.id)) → (is_link n.kind ≡ true) × (text ≡ n.inner.content)
held_text t n h text holds e = is_text n n.kind text (e ∙ ap (λ i. text_of (node_at t.nodes i)) holds.id ∙ ap text_of holds.node_is)

pub link_read : (site : Site) (at : Place) (rest : World) (t u : Rows) (h : Held) (text old new : List ℕ) → IsHeld t (held_in t.nodes at.current) (Ok h)
    → Some text ≡ text_of (node_at t.nodes (id_of h.id))
    → None ≡ denial site at.subject (Read h.facts.label.0)
    → new ≡ old ++ result_text (results.ReadLink text)
    → ((n : Node) → Holds t n h → with_tree rest u ≡ apply_all (accessed at n) (with_tree rest t))
    → Writes old new (λ text. results.ReadLink text) at (with_tree rest t) (with_tree rest u) (read_link site at (with_tree rest t)) (Ok tt)
link_read site at rest t u h text old new held is_there may written touched =
    about_held (λ o. Writes old new (λ text. results.ReadLink text) at (with_tree rest t) (with_tree rest u) o (Ok tt)) at rest t _ h held (λ n holds.
    let of_link : (is_link n.kind ≡ true) × (text ≡ n.inner.content) = held_text t n h text holds is_there in
    let goes : None ≡ denial site at.subject (Read n.label) = may ∙ ap (λ label. denial site at.subject (Read label)) holds.tells.label in
    subst (λ o. Writes old new (λ text. results.ReadLink text) at (with_tree rest t) (with_tree rest u) o (Ok tt))
    (sym (passed (is_link n.kind) _ _ of_link.0 ∙ allowed site at (Read n.label) (done at n.inner.content (accessed at n)) goes))
    (record { place = refl; world = touched n holds; wrote = written ∙ ap (λ text. old ++ result_text (results.ReadLink text)) of_link.1 }))
