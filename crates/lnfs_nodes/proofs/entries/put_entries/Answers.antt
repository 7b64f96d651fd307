use Rattle.std.proofs.Common.{◌-◌, ◌∙◌, ap, ℕ, Option, length, nat_lt, arith}
use Rattle.std.proofs.lemmas.Bool.Decides.{nat_tests}
use Rattle.lnfs_results.specs.declared.types.DirEntry.{DirEntry}
use Rattle.lnfs_site.specs.Site.{site_of}
use Rattle.lnfs_world.specs.World.{Entry, node_at}
use Rattle.lnfs_operations.specs.ReadDir.{shown_entry}
use Rattle.lnfs_tree.specs.Rows.{id_of, row_of_entry}
use Rattle.lnfs_nodes.specs.Trees.{with_tree}
use Rattle.lnfs_nodes.proofs.Entering.{was_taken, was_left, was_denied}
use Rattle.lnfs_nodes.proofs.Extended.{longer, extends_on, grows_within}
use Rattle.lnfs_nodes.proofs.Walking.{one_more, all_shown, one_left, one_denied}
use Rattle.lnfs_nodes.proofs.entries.put_entries.Goals as goal

pub loop-entry-smaller : goal.loop-entry-smaller
loop-entry-smaller c = c.in-Some.ensures.fewer

pub loop-entry-preserved : goal.loop-entry-preserved
loop-entry-preserved c =
    let old = c.args.out.now in
    let so_long = longer c.loop-entry.out c.put_entry.new.out c.in_ok-put_entry.ensures.extends in
    let within = grows_within c.loop-entry.out c.put_entry.new.out _ c.in_ok-put_entry.field-0 c.in-Taken.is c.in_ok-put_entry.ensures.grows in
    record {
      begun = omega (arith, so_long, c.loop-entry.invariant.begun);
      within = omega (arith, within, c.loop-entry.invariant, c.mark.ensures, c.mark-begin.ensures);
      extends = extends_on c.args.out.now c.loop-entry.out c.put_entry.new.out c.loop-entry.invariant.extends c.in_ok-put_entry.ensures.extends;
      so_far = λ p rest listable.
          let show : Entry → Option DirEntry = λ e. shown_entry (site_of c.args.lister.now.site.now) (record p { subject = c.args.lister.now.viewer.subject.0 }) (with_tree rest c.args.tree.now) c.args.lister.now.asking.asked.now e (node_at c.args.tree.now.nodes e.node) in
          let e : Entry = row_of_entry (id_of c.args.dir) c.in-Some.entry.now in
          let took = was_taken c.loop-entry.out c.put_entry.new.out _ (show e) c.in_ok-put_entry.field-0 c.in-Taken.is (c.in_ok-put_entry.ensures.entered p rest (id_of c.args.dir)) in
          one_more show c.args.tree.now.entries (id_of c.args.dir) c.args.cookie c.args.room c.args.out.now c.loop-entry.cookie (c.args.room - (c.mark.result - c.mark-begin.result)) c.loop-entry.out c.put_entry.new.out e took.0
          (c.loop-entry.invariant.so_far p rest listable) listable.rise (c.in-Some.ensures.entry listable) took.1 took.2 took.3
          (ap (λ (n : ℕ). c.args.room - (n - c.mark-begin.result)) c.mark.ensures ∙ ap (λ (n : ℕ). c.args.room - (length c.loop-entry.out - n)) c.mark-begin.ensures);
    }

pub returns-in-Left-clause-walked : goal.returns-in-Left-clause-walked
returns-in-Left-clause-walked c = λ p rest listable.
    let show : Entry → Option DirEntry = λ e. shown_entry (site_of c.args.lister.now.site.now) (record p { subject = c.args.lister.now.viewer.subject.0 }) (with_tree rest c.args.tree.now) c.args.lister.now.asking.asked.now e (node_at c.args.tree.now.nodes e.node) in
    let e : Entry = row_of_entry (id_of c.args.dir) c.in-Some.entry.now in
    let left = was_left c.loop-entry.out c.put_entry.new.out _ (show e) c.in_ok-put_entry.field-0 c.in-Left.is (c.in_ok-put_entry.ensures.entered p rest (id_of c.args.dir)) in
    one_left show c.args.tree.now.entries (id_of c.args.dir) c.args.cookie c.args.room c.args.out.now c.loop-entry.cookie (c.args.room - (c.mark.result - c.mark-begin.result)) c.loop-entry.out c.put_entry.new.out _ e left.0
    (c.loop-entry.invariant.so_far p rest listable) listable.rise (c.in-Some.ensures.entry listable) left.1 left.2 left.3
    (ap (λ (n : ℕ). c.args.room - (n - c.mark-begin.result)) c.mark.ensures ∙ ap (λ (n : ℕ). c.args.room - (length c.loop-entry.out - n)) c.mark-begin.ensures)
    (grind (arith, nat_tests, c.mark.ensures, c.mark-begin.ensures, c.loop-entry.invariant.begun))

pub returns-in-Denied-clause-walked : goal.returns-in-Denied-clause-walked
returns-in-Denied-clause-walked c = λ p rest listable.
    let show : Entry → Option DirEntry = λ e. shown_entry (site_of c.args.lister.now.site.now) (record p { subject = c.args.lister.now.viewer.subject.0 }) (with_tree rest c.args.tree.now) c.args.lister.now.asking.asked.now e (node_at c.args.tree.now.nodes e.node) in
    let e : Entry = row_of_entry (id_of c.args.dir) c.in-Some.entry.now in
    one_denied show c.args.tree.now.entries (id_of c.args.dir) c.args.cookie c.args.room c.args.out.now c.loop-entry.cookie c.loop-entry.out c.put_entry.new.out e
    (c.loop-entry.invariant.so_far p rest listable) listable.rise (c.in-Some.ensures.entry listable)
    (was_denied c.loop-entry.out c.put_entry.new.out _ (show e) c.in_ok-put_entry.field-0 c.in-Denied.is (c.in_ok-put_entry.ensures.entered p rest (id_of c.args.dir)))

pub returns-clause-walked : goal.returns-clause-walked
returns-clause-walked c = λ p rest listable.
    let show : Entry → Option DirEntry = λ e. shown_entry (site_of c.args.lister.now.site.now) (record p { subject = c.args.lister.now.viewer.subject.0 }) (with_tree rest c.args.tree.now) c.args.lister.now.asking.asked.now e (node_at c.args.tree.now.nodes e.node) in
    all_shown show c.args.tree.now.entries (id_of c.args.dir) c.args.cookie c.args.room c.args.out.now c.loop-entry.cookie c.loop-entry.out _
    (c.loop-entry.invariant.so_far p rest listable) (c.in_default.ensures.entry listable)
    (ap (λ (n : ℕ). nat_lt n c.mark-2.result) c.mark-begin.ensures ∙ ap (nat_lt (length c.args.out.now)) c.mark-2.ensures)
