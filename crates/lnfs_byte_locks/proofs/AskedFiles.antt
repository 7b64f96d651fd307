-- The current file behind the tests of the range, by what the code finds.
use Rattle.std.proofs.Common.{◌≡◌, ◌∙◌, refl, sym, ap, subst, true, Option, Some, None, Result, Ok, Err}
use Rattle.std.specs.Prelude.{IsErrAnd}
use Rattle.lnfs_world.specs.World.{Id, Node, World, node_at}
use Rattle.lnfs_world.specs.Outcome.{Place, Outcome}
use Rattle.lnfs_operations.specs.declared.Refusal.{Refusal}
use Rattle.lnfs_operations.specs.Chain.{Answer, refuse, where_there}
use Rattle.lnfs_operations.specs.Handles.{with_node, with_current}
use Rattle.lnfs_operations.specs.Files.{where_file}
use Rattle.lnfs_tree.specs.Rows.{Rows, rows_of, kind_of}
use Rattle.lnfs_nodes.specs.Trees.{with_tree, there, held_in, Holds, IsHeld, refusal_of}
use Rattle.lnfs_nodes.specs.declared.held.Held.{Held}
use Rattle.lnfs_nodes.proofs.Refusing.{handle_off}
use Rattle.lnfs_files.specs.Tests.{passed, refusal_in}
use Rattle.lnfs_files.proofs.Stages.{goes_on, refuses, file_tested}
use Rattle.lnfs_locks.specs.Arguments.{Asked}
use Rattle.lnfs_locks.specs.Ranges.{is_range, where_range}
use Rattle.lnfs_locks.specs.Effects.{Came}
use Rattle.lnfs_byte_locks.specs.Files.{where_asked_file, IsFileOf, LeadsToFile}

-- a refusal that `?` hands on
pub err_leads : (p : Place) (w : World) (a : Asked) (r : Result Held Refusal) (why : Refusal) → IsErrAnd r (λ e. e ≡ why)
    → ((next : Node → Outcome (Answer Came)) → where_asked_file p w a next ≡ refuse p why.gate why.status) → LeadsToFile p w a r
err_leads p w a (Ok h) why is leads = absurd is
err_leads p w a (Err e) why is leads = λ next. leads next ∙ ap (λ (x : Refusal). refuse p x.gate x.status) (sym is)

-- the node that is held, which is the one that an operation is led to
found_node : (p : Place) (w : World) (t : Rows) (h : Held) → IsHeld t (held_in t.nodes p.current) (Ok h) →
    (n : Node) × (Holds t n h × ((found : Node → Outcome (Answer Came)) → with_current p (with_tree w t) found ≡ found n))
found_node p w t h held = at p.current held
  where
    at_node : (stale : Outcome (Answer Came)) (x : Option Node) → IsHeld t (there x) (Ok h) → (n : Node) × (Holds t n h × ((found : Node → Outcome (Answer Came)) → where_there x found stale ≡ found n))
    at_node stale (Some n) held = (n, (held, λ found. refl))
    at_node stale None held = absurd held

    at : (i : Option Id) → IsHeld t (held_in t.nodes i) (Ok h) → (n : Node) × (Holds t n h × ((found : Node → Outcome (Answer Came)) → with_node p (with_tree w t) i found ≡ found n))
    at (Some i) held = at_node _ (node_at t.nodes i) held
    at None held = absurd held

-- behind the range
module _ (p : Place) (w : World) (a : Asked) (t : Rows) (tree : t ≡ rows_of w) (range : (next : Outcome (Answer Came)) → where_range p a next ≡ next) where
  behind : (next : Node → Outcome (Answer Came)) → where_asked_file p w a next ≡ with_current p (with_tree w t) (λ n. where_file p n (next n))
  behind next =
      range (with_current p w (λ n. where_file p n (next n)))
      ∙ ap (λ (x : Rows). with_current p (with_tree w x) (λ n. where_file p n (next n))) (sym tree)

  -- what the file handle refuses
  pub no_node : (why : Refusal) → IsHeld t (held_in t.nodes p.current) (Err why) → (next : Node → Outcome (Answer Came)) → where_asked_file p w a next ≡ refuse p why.gate why.status
  no_node why held next = behind next ∙ handle_off p w t p.current _ why held

  module _ (h : Held) (held : IsHeld t (held_in t.nodes p.current) (Ok h)) where
    -- what its kind refuses
    pub no_file : (why : Refusal) → ((n : Node) → kind_of h.facts.kind ≡ n.kind → Some (refusal_of why) ≡ refusal_in (where_file p n (passed p)))
        → (next : Node → Outcome (Answer Came)) → where_asked_file p w a next ≡ refuse p why.gate why.status
    no_file why off next =
        let x = found_node p w t h held in
        behind next ∙ x.1.1 (λ n. where_file p n (next n)) ∙ refuses p _ _ _ (file_tested p x.0 (next x.0)) (refusal_of why) (off x.0 x.1.0.tells.kind)

    pub is_file : is_range a ≡ true → ((n : Node) → kind_of h.facts.kind ≡ n.kind → None ≡ refusal_in (where_file p n (passed p))) → IsFileOf p w a h
    is_file one on =
        let x = found_node p w t h held in
        record {
          node = x.0;
          holds = subst (λ (r : Rows). Holds r x.0 h) tree x.1.0;
          range = one;
          leads = λ next. behind next ∙ x.1.1 (λ n. where_file p n (next n)) ∙ goes_on p _ _ _ (file_tested p x.0 (next x.0)) (on x.0 x.1.0.tells.kind);
        }
