use Rattle.std.proofs.Common.{◌≡◌, ◌<◌, ℕ, true, false, List, length, sym, ap, ◌∙◌, subst, arith}
use Rattle.std.specs.Prelude.{◌==◌, ◌||◌, not, cond, slice_index}
use Rattle.std.proofs.lemmas.List.{length-map}
use Rattle.std.proofs.lemmas.Bool.{false≢true}
use Rattle.lnfs_climb.specs.Climbs.{Reaches}
use Rattle.lnfs_climb.specs.Firsts.{first_at}
use Rattle.lnfs_fit.specs.Places.{nth_is_dir}
use Rattle.lnfs_rows.specs.Told.{node_of, entry_of}
use Rattle.lnfs_fit.specs.RowsOf.{nodes_of, entries_of}
use Rattle.lnfs_fit.proofs.Tail.{named_of, once_of, tree_of, ends_of, told_as}
use Rattle.lnfs_fit.proofs.tree.is_tree_by_places.Goals as goal

abbrev Named : ℕ → ℕ → List ℕ → Type 0
Named top count firsts = (slice_index firsts top ≡ count) × ((k : ℕ) → k < length firsts → (k == top) ≡ false → slice_index firsts k < count)

pub returns-then-not-are_named : goal.returns-then-not-are_named
returns-then-not-are_named c =
    let len = length-map c.args.nodes.now node_of in
    let F = c.in_ok-firsts.firsts.items in (
      λ never. absurd (false≢true never),
      λ tree.
          let named = named_of (nodes_of c.args.nodes.now) c.requires.nodes (entries_of c.args.entries.now) c.requires.entries c.args.names.now c.args.dirs.now c.requires.placed c.args.top c.requires.top
          F (omega (arith, len, c.in_ok-firsts.ensures.len)) (λ k k_in. c.in_ok-firsts.ensures.value k (omega (arith, len, k_in)))
          (length c.args.entries.now) (sym (length-map c.args.entries.now entry_of)) tree in
          sym c.if-not-are_named.true ∙ c.are_named.ensures.1 (subst (Named c.args.top (length c.args.entries.now)) (sym c.deref.ensures.value) named),
    )

pub returns-then-not-are_named_once : goal.returns-then-not-are_named_once
returns-then-not-are_named_once c =
    let len = length-map c.args.nodes.now node_of in
    let F = c.in_ok-firsts.firsts.items in (
      λ never. absurd (false≢true never),
      λ tree.
          let once = once_of (nodes_of c.args.nodes.now) c.requires.nodes (entries_of c.args.entries.now) c.requires.entries c.args.names.now c.args.dirs.now c.requires.placed c.args.top c.requires.top
          F (omega (arith, len, c.in_ok-firsts.ensures.len)) (λ k k_in. c.in_ok-firsts.ensures.value k (omega (arith, len, k_in)))
          (length c.args.entries.now) (sym (length-map c.args.entries.now entry_of)) tree in
          sym c.if-not-are_named_once.true ∙ c.are_named_once.ensures.1
          (λ t t_in is_dir. ap (λ fs. slice_index fs (slice_index c.args.names.now t)) c.deref-2.ensures.value ∙ once t t_in is_dir),
    )

pub returns : goal.returns
returns c =
    let len = length-map c.args.nodes.now node_of in
    let F = c.in_ok-firsts.firsts.items in
    let U = c.in_ok-ups.ups.items in
    let F_len : length F ≡ length (nodes_of c.args.nodes.now) = omega (arith, len, c.in_ok-firsts.ensures.len) in
    let F_are : (k : ℕ) → k < length (nodes_of c.args.nodes.now) → slice_index F k ≡ first_at c.args.names.now k = λ k k_in. c.in_ok-firsts.ensures.value k (omega (arith, len, k_in)) in
    let U_len : length U ≡ length (nodes_of c.args.nodes.now) = omega (arith, len, c.in_ok-ups.ensures.len) in
    let counts = sym (length-map c.args.entries.now entry_of) in
    let named = subst (Named c.args.top (length c.args.entries.now)) c.deref.ensures.value (c.are_named.ensures.0 c.if-not-are_named.false) in
    let once : (t : ℕ) → t < length c.args.names.now → nth_is_dir (nodes_of c.args.nodes.now) (slice_index c.args.names.now t) ≡ true → slice_index F (slice_index c.args.names.now t) ≡ t =
    λ t t_in is_dir. ap (λ fs. slice_index fs (slice_index c.args.names.now t)) (sym c.deref-2.ensures.value) ∙ c.are_named_once.ensures.0 c.if-not-are_named_once.false t t_in is_dir in
    let U_are : (k : ℕ) → k < length (nodes_of c.args.nodes.now) → slice_index U k ≡ cond (k == c.args.top || not (nth_is_dir (nodes_of c.args.nodes.now) k)) c.args.top (slice_index c.args.dirs.now (slice_index F k)) =
    λ k k_in. c.in_ok-ups.ensures.value k (omega (arith, len, k_in)) ∙ ap (λ fs. cond (k == c.args.top || not (nth_is_dir (nodes_of c.args.nodes.now) k)) c.args.top (slice_index c.args.dirs.now (slice_index fs k))) c.deref-3.ensures.value in
    told_as c.all_reach.result _ _ c.all_reach.ensures
    (λ ends. tree_of (nodes_of c.args.nodes.now) c.requires.nodes (entries_of c.args.entries.now) c.requires.entries c.args.names.now c.args.dirs.now c.requires.placed c.args.top c.requires.top
    F F_len F_are (length c.args.entries.now) counts U U_len U_are named once
    (subst (λ us. (k : ℕ) → k < length us → Reaches us c.args.top k) c.deref-4.ensures.value ends))
    (λ tree. subst (λ us. (k : ℕ) → k < length us → Reaches us c.args.top k) (sym c.deref-4.ensures.value)
    (ends_of (nodes_of c.args.nodes.now) c.requires.nodes (entries_of c.args.entries.now) c.requires.entries c.args.names.now c.args.dirs.now c.requires.placed c.args.top c.requires.top
    F F_len F_are (length c.args.entries.now) counts U U_len U_are tree))
