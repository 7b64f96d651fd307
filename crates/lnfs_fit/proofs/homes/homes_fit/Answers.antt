use Rattle.std.proofs.Common.{◌≡◌, ◌<◌, ◌||◌, ℕ, true, sym, ap, ◌∙◌, subst, arith, length}
use Rattle.std.specs.Prelude.{nat_lt, slice_index}
use Rattle.std.proofs.lemmas.List.{length-map}
use Rattle.lnfs_world.specs.World.{label_at}
use Rattle.lnfs_world.specs.Facts.{is_held}
use Rattle.lnfs_climb.specs.Firsts.{first_at}
use Rattle.lnfs_fit.specs.Places.{nth_node}
use Rattle.lnfs_fit.specs.Fits.{is_home}
use Rattle.lnfs_rows.specs.Told.{node_of, entry_of}
use Rattle.lnfs_fit.specs.RowsOf.{nodes_of, entries_of}
use Rattle.lnfs_fit.proofs.Together.{held_first}
use Rattle.lnfs_fit.proofs.homes.homes_fit.Goals as goal

pub returns : goal.returns
returns c =
    let len = length-map c.args.nodes.now node_of in
    let count = length-map c.args.entries.now entry_of in
    let H = c.in_ok-held.held.items in
    let eq : (k : ℕ) → k < length c.args.nodes.now → nat_lt (slice_index c.deref-2.result.now k) (length c.args.entries.now) ≡ is_held (label_at (nodes_of c.args.nodes.now)) (entries_of c.args.entries.now) (nth_node (nodes_of c.args.nodes.now) k).id =
    λ k k_in.
    let value : slice_index c.deref-2.result.now k ≡ first_at H k = ap (λ fs. slice_index fs k) c.deref-2.ensures.value ∙ c.in_ok-firsts.ensures.value k (omega arith) ∙ ap (λ hs. first_at hs k) c.deref.ensures.value in
    ap (λ n. nat_lt n (length c.args.entries.now)) value ∙ ap (nat_lt (first_at H k)) (sym count)
    ∙ held_first (nodes_of c.args.nodes.now) c.requires.rise (entries_of c.args.entries.now) c.args.names.now c.args.dirs.now c.requires.placed H
    (omega (arith, c.in_ok-held.ensures.len, c.requires.placed.names_len))
    (λ t t_in. c.in_ok-held.ensures.value t (omega (arith, c.requires.placed.names_len, t_in)))
    k (omega (arith, len, k_in)) in (
      λ is k k_in. subst (λ b. (is_home (nodes_of c.args.nodes.now) k || b) ≡ true) (eq k k_in) (c.are_home.ensures.0 is k k_in),
      λ all. c.are_home.ensures.1 (λ k k_in. subst (λ b. (is_home (nodes_of c.args.nodes.now) k || b) ≡ true) (sym (eq k k_in)) (all k k_in)),
    )
