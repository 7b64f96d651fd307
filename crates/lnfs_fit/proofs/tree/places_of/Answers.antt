use Rattle.std.proofs.Common.{◌≡◌, ◌<◌, true, length, sym, ◌∙◌, arith}
use Rattle.std.proofs.lemmas.List.{length-map}
use Rattle.std.proofs.lemmas.Bool.{false≢true}
use Rattle.lnfs_rows.specs.Told.{id_of}
use Rattle.lnfs_fit.specs.Places.{no_node, nth_node, nth_entry, nth_is_dir}
use Rattle.lnfs_rows.specs.Told.{node_of, entry_of}
use Rattle.lnfs_fit.specs.RowsOf.{nodes_of, entries_of}
use Rattle.lnfs_fit.proofs.Indexed.{pushed}
use Rattle.lnfs_fit.proofs.Mapped.{ids_len, id_nth}
use Rattle.lnfs_fit.proofs.Missing.{no_node_missing, no_dir_missing, dir_is_dir}
use Rattle.lnfs_fit.proofs.tree.places_of.Goals as goal

pub returns-in_default-clause-missing : goal.returns-in_default-clause-missing
returns-in_default-clause-missing c = λ joined.
    no_node_missing (nodes_of c.args.nodes.now) c.requires.rise (entries_of c.args.entries.now) joined c.loop-entry.entry
    (omega (arith, length-map c.args.entries.now entry_of, c.loop-entry-test.true)) (id_of c.named_at.result) c.named_at.ensures
    (λ k k_in is. c.in_default.ensures.missing k (omega (arith, ids_len (λ n. n.id) (nodes_of c.args.nodes.now) c.args.ids.now c.requires.ids, k_in)) (id_nth (λ n. n.id) (nodes_of c.args.nodes.now) c.args.ids.now c.requires.ids no_node k k_in ∙ is))

pub returns-in_default-place_of-clause-missing : goal.returns-in_default-place_of-clause-missing
returns-in_default-place_of-clause-missing c = λ joined.
    no_dir_missing (nodes_of c.args.nodes.now) c.requires.rise (entries_of c.args.entries.now) joined c.loop-entry.entry
    (omega (arith, length-map c.args.entries.now entry_of, c.loop-entry-test.true)) (id_of c.dir_at.result) c.dir_at.ensures
    (λ k k_in is. c.in_default-place_of.ensures.missing k (omega (arith, ids_len (λ n. n.id) (nodes_of c.args.nodes.now) c.args.ids.now c.requires.ids, k_in)) (id_nth (λ n. n.id) (nodes_of c.args.nodes.now) c.args.ids.now c.requires.ids no_node k k_in ∙ is))

pub returns-then-not-is_dir_at-clause-missing : goal.returns-then-not-is_dir_at-clause-missing
returns-then-not-is_dir_at-clause-missing c = λ joined.
    let found = c.in-Some-place_of.ensures.found in
    let inside : c.in-Some-place_of.dir < length (nodes_of c.args.nodes.now) = omega (arith, ids_len (λ n. n.id) (nodes_of c.args.nodes.now) c.args.ids.now c.requires.ids, found.0) in
    let is = sym (id_nth (λ n. n.id) (nodes_of c.args.nodes.now) c.args.ids.now c.requires.ids no_node c.in-Some-place_of.dir inside) ∙ found.1 in
    let yes = dir_is_dir (nodes_of c.args.nodes.now) c.requires.rise (entries_of c.args.entries.now) joined c.loop-entry.entry
    (omega (arith, length-map c.args.entries.now entry_of, c.loop-entry-test.true)) c.in-Some-place_of.dir
    inside (is ∙ c.dir_at.ensures) in
    false≢true (sym c.if-not-is_dir_at.true ∙ c.is_dir_at.ensures ∙ yes)

pub loop-entry-preserved : goal.loop-entry-preserved
loop-entry-preserved c =
    let inv = c.loop-entry.invariant in
    let nodes = length-map c.args.nodes.now node_of in
    let many = ids_len (λ n. n.id) (nodes_of c.args.nodes.now) c.args.ids.now c.requires.ids in
    let name_in : c.in-Some.name < length (nodes_of c.args.nodes.now) = omega (arith, many, c.in-Some.ensures.found.0) in
    let dir_in : c.in-Some-place_of.dir < length (nodes_of c.args.nodes.now) = omega (arith, many, c.in-Some-place_of.ensures.found.0) in
    let name_is = sym (id_nth (λ n. n.id) (nodes_of c.args.nodes.now) c.args.ids.now c.requires.ids no_node c.in-Some.name name_in) ∙ c.in-Some.ensures.found.1 ∙ c.named_at.ensures in
    let dir_is = sym (id_nth (λ n. n.id) (nodes_of c.args.nodes.now) c.args.ids.now c.requires.ids no_node c.in-Some-place_of.dir dir_in) ∙ c.in-Some-place_of.ensures.found.1 ∙ c.dir_at.ensures in
    let names = c.in_ok-push.ensures.items in
    let dirs = c.in_ok-push-2.ensures.items in
    record {
      names_len = omega (arith, inv.names_len, c.in_ok-push.ensures.len);
      dirs_len = omega (arith, inv.dirs_len, c.in_ok-push-2.ensures.len);
      names_within = pushed (λ t n. n < length c.args.nodes.now) c.loop-entry.names.items _ c.in-Some.name c.loop-entry.entry inv.names_len names inv.names_within (omega (arith, nodes, name_in));
      dirs_within = pushed (λ t n. n < length c.args.nodes.now) c.loop-entry.dirs.items _ c.in-Some-place_of.dir c.loop-entry.entry inv.dirs_len dirs inv.dirs_within (omega (arith, nodes, dir_in));
      names_are = pushed (λ t n. (nth_node (nodes_of c.args.nodes.now) n).id ≡ (nth_entry (entries_of c.args.entries.now) t).node) c.loop-entry.names.items _ c.in-Some.name c.loop-entry.entry inv.names_len names inv.names_are name_is;
      dirs_are = pushed (λ t n. (nth_node (nodes_of c.args.nodes.now) n).id ≡ (nth_entry (entries_of c.args.entries.now) t).directory) c.loop-entry.dirs.items _ c.in-Some-place_of.dir c.loop-entry.entry inv.dirs_len dirs inv.dirs_are dir_is;
      directories = pushed (λ t n. nth_is_dir (nodes_of c.args.nodes.now) n ≡ true) c.loop-entry.dirs.items _ c.in-Some-place_of.dir c.loop-entry.entry inv.dirs_len dirs inv.directories (sym c.is_dir_at.ensures ∙ c.if-not-is_dir_at.false);
    }
