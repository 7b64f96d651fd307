use Rattle.std.proofs.Common.{◌-◌, ◌∙◌, ap, ℕ, take, subst, Ok, Err, rules}
use Rattle.std.specs.Option.{option_map}
use Rattle.lnfs_attrs.specs.declared.bitmap.Bitmap.{Bitmap}
use Rattle.lnfs_site.specs.Site.{site_of}
use Rattle.lnfs_world.specs.World.{Node}
use Rattle.lnfs_world.specs.Outcome.{Site, Place, Outcome}
use Rattle.lnfs_operations.specs.Chain.{Answer}
use Rattle.lnfs_operations.specs.declared.numbers.TheConstants.{EMPTY_LISTING}
use Rattle.lnfs_operations.specs.ReadDir.{Arguments, Listed, finished}
use Rattle.lnfs_tree.specs.Rows.{id_of}
use Rattle.lnfs_nodes.specs.Trees.{with_tree}
use Rattle.lnfs_nodes.specs.Walks.{listed_in, listing_result, Lists}
use Rattle.lnfs_nodes.specs.Writes.{Writes}
use Rattle.lnfs_nodes.proofs.ReadDirs.{about_directory, finished_writes, finished_refused}
use Rattle.lnfs_nodes.proofs.listing.read_dir.Goals as goal

pub returns-in-Ok-2-clause-writes : goal.returns-in-Ok-2-clause-writes
returns-in-Ok-2-clause-writes c = λ p rest rise.
    let site : Site = site_of c.args.site.now in
    let at : Place = record p { subject = c.args.viewer.subject.0; moment = c.args.moment; current = option_map id_of c.args.current } in
    let args : Arguments = record { cookie = c.args.args.now.cookie; maxcount = c.args.args.now.maxcount; asked = c.args.args.now.asked.now } in
    let lists : Bitmap → Node → Answer Listed =
    λ asked n. (finished site at n c.min.result (listed_in site at (with_tree rest c.args.tree.now) asked (id_of c.in-Ok.dir.id) args.cookie (c.min.result - EMPTY_LISTING))).answer in
    about_directory (λ (o : Outcome (Answer Listed)). Writes c.args.out.now c.put_listing.new.out listing_result at (with_tree rest c.args.tree.now) (with_tree rest c.set_accessed.new.tree) o (Ok tt))
    site at rest c.args.tree.now c.in-Ok.dir args c.min.result c.in-Ok.ensures (search rules) c.in_default.ensures rise c.min.ensures (λ n holds listable.
    finished_writes site at n c.min.result _ c.args.out.now c.put_listing.new.out (with_tree rest c.args.tree.now) (with_tree rest c.set_accessed.new.tree)
    (subst (λ (asked : Bitmap). Lists c.args.out.now c.put_listing.new.out (lists asked n) (Ok tt)) c.new-asking.ensures
    (subst (Lists c.args.out.now c.put_listing.new.out _) c.in-Ok-2.is (c.in_ok-put_listing.ensures.lists at rest n listable)))
    (c.set_accessed.ensures n at rest holds))

pub returns-in-Err-2-clause-writes : goal.returns-in-Err-2-clause-writes
returns-in-Err-2-clause-writes c = λ p rest rise.
    let site : Site = site_of c.args.site.now in
    let at : Place = record p { subject = c.args.viewer.subject.0; moment = c.args.moment; current = option_map id_of c.args.current } in
    let args : Arguments = record { cookie = c.args.args.now.cookie; maxcount = c.args.args.now.maxcount; asked = c.args.args.now.asked.now } in
    let lists : Bitmap → Node → Answer Listed =
    λ asked n. (finished site at n c.min.result (listed_in site at (with_tree rest c.args.tree.now) asked (id_of c.in-Ok.dir.id) args.cookie (c.min.result - EMPTY_LISTING))).answer in
    about_directory (λ (o : Outcome (Answer Listed)). Writes c.args.out.now c.truncate.new.self listing_result at (with_tree rest c.args.tree.now) (with_tree rest c.args.tree.now) o (Err c.in-Err-2.why))
    site at rest c.args.tree.now c.in-Ok.dir args c.min.result c.in-Ok.ensures (search rules) c.in_default.ensures rise c.min.ensures (λ n holds listable.
    finished_refused site at n c.min.result _ c.args.out.now c.put_listing.new.out c.truncate.new.self (with_tree rest c.args.tree.now) c.in-Err-2.why
    (subst (λ (asked : Bitmap). Lists c.args.out.now c.put_listing.new.out (lists asked n) (Err c.in-Err-2.why)) c.new-asking.ensures
    (subst (Lists c.args.out.now c.put_listing.new.out _) c.in-Err-2.is (c.in_ok-put_listing.ensures.lists at rest n listable)))
    (c.truncate.ensures ∙ ap (λ (n : ℕ). take n c.put_listing.new.out) c.mark-begin.ensures ∙ c.in_ok-put_listing.ensures.extends))
