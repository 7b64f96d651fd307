use Rattle.std.proofs.Common.{◌≡◌, ◌∙◌, ap, sym, subst, ℕ, [], ◌∷◌, Option, Some, None}
use Rattle.std.specs.Prelude.{is_some}
use Rattle.lnfs_world.specs.World.{Id, Node, node_at}
use Rattle.lnfs_world.specs.Change.{Touch, apply_all}
use Rattle.lnfs_world.specs.Outcome.{Place}
use Rattle.lnfs_operations.specs.SetAttr.{size_set, mode_set, values_written}
use Rattle.lnfs_tree.specs.Rows.{Rows, id_of}
use Rattle.lnfs_tree.specs.Changed.{ran}
use Rattle.lnfs_nodes.specs.Acts.{placed}
use Rattle.lnfs_files.specs.Worlds.{with_files}
use Rattle.lnfs_files.specs.Setting.{unlabelled}
use Rattle.lnfs_files.proofs.WriteOn.{is_there, found, some_place}
use Rattle.lnfs_files.proofs.Sizes.{still_there, size_then_mode, mode_told, size_told}
use Rattle.lnfs_files.proofs.values.put_values.Goals.{in-Some, in_default}
use Rattle.lnfs_files.proofs.values.put_values.Goals as goal

pub put_size-requires : goal.put_size-requires
put_size-requires c = record {
  counts = c.requires.counts;
  there = is_there c.args.tree.now _ c.args.held.now c.requires.held;
  file = rw c.in-Some.is at c.requires.file;
  fits = rw c.in-Some.is at c.requires.fits;
  resizes = rw c.in-Some.is at c.requires.resizes;
}

pub put_mode-requires : goal.put_mode-requires
put_mode-requires c =
    let t = c.args.tree.now in
    let h = c.args.held.now in
    let x = is_there t _ h c.requires.held in
    let n = x.0 in
    let at : Place = placed some_place c.args.caller.now in
    record {
      there = elim c.match-size.branch [
        | in-Some w ↦
            ap (λ (r : Rows). is_some (node_at r.nodes (id_of h.id))) w.tree-is
            ∙ ap (λ (i : Id). is_some (node_at w.put_size.new.tree.nodes i)) x.1.id
            ∙ ap (λ (o : Option Node). is_some o) (still_there t w.put_size.new.tree n (size_set at n (Some w.in-Some.size)) (w.put_size.ensures.done n x.1) x.1.node_is)
        | in_default w ↦
            ap (λ (r : Rows). is_some (node_at r.nodes (id_of h.id))) w.tree-is
            ∙ ap (λ (o : Option Node). is_some o) (found t n h x.1)
      ];
    }

pub returns-in-Some-mode-clause-done : goal.returns-in-Some-mode-clause-done
returns-in-Some-mode-clause-done c = λ n p rest opens holds.
    let at : Place = placed p c.args.caller.now in
    let t = c.args.tree.now in
    let u = c.match-size.tree in
    let v = c.put_mode.new.tree in
    let h = c.args.held.now in
    let mode = c.in-Some-mode.mode in
    let done : v ≡ ran (Touch n.id (mode_set at (Some mode) (size_set at n c.args.size)) ∷ []) t = elim c.match-size.branch [
      | in-Some w ↦
          subst (λ (size : Option ℕ). v ≡ ran (Touch n.id (mode_set at (Some mode) (size_set at n size)) ∷ []) t) (sym w.in-Some.is)
          (size_then_mode at t n u v (id_of h.id) w.in-Some.size mode holds.id holds.node_is (w.tree-is ∙ w.put_size.ensures.done n holds) (λ m e. c.put_mode.ensures.done m p e))
      | in_default w ↦
          subst (λ (size : Option ℕ). v ≡ ran (Touch n.id (mode_set at (Some mode) (size_set at n size)) ∷ []) t) (sym w.in_default.is)
          (c.put_mode.ensures.done n p (ap (λ (r : Rows). node_at r.nodes (id_of h.id)) w.tree-is ∙ found t n h holds)
          ∙ ap (ran (Touch n.id (mode_set at (Some mode) n.inner) ∷ [])) w.tree-is)
    ] in
    subst (λ (m : Option ℕ). apply_all (values_written at n (unlabelled c.args.size m)) (with_files rest t opens) ≡ with_files rest v opens) (sym c.in-Some-mode.is)
    (mode_told at t n rest v opens c.args.size mode done)

pub returns-in_default-mode-clause-done : goal.returns-in_default-mode-clause-done
returns-in_default-mode-clause-done c = λ n p rest opens holds.
    let at : Place = placed p c.args.caller.now in
    let t = c.args.tree.now in
    let u = c.match-size.tree in
    subst (λ (m : Option ℕ). apply_all (values_written at n (unlabelled c.args.size m)) (with_files rest t opens) ≡ with_files rest u opens) (sym c.in_default-mode.is)
    (elim c.match-size.branch [
      | in-Some w ↦
          subst (λ (size : Option ℕ). apply_all (values_written at n (unlabelled size None)) (with_files rest t opens) ≡ with_files rest u opens) (sym w.in-Some.is)
          (size_told at t n rest u opens w.in-Some.size (w.tree-is ∙ w.put_size.ensures.done n holds))
      | in_default w ↦
          subst (λ (size : Option ℕ). apply_all (values_written at n (unlabelled size None)) (with_files rest t opens) ≡ with_files rest u opens) (sym w.in_default.is)
          (ap (λ (r : Rows). with_files rest r opens) (sym w.tree-is))
    ])
