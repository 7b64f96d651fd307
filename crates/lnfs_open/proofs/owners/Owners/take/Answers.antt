use Rattle.std.proofs.Common.{◌≡◌, Some, None, cond, ap, sym, ◌∙◌}
use Rattle.std.specs.Prelude.{is_some}
use Rattle.std.specs.Ordering.{is_eq}
use Rattle.std.specs.Str.{bytes_eq}
use Rattle.std.specs.BTreeMap.{get}
use Rattle.lnfs_world.specs.World.{Id}
use Rattle.lnfs_world.proofs.Keys.{bytes_same}
use Rattle.lnfs_open.specs.Listed.{id_of}
use Rattle.lnfs_open.specs.Owners.{matter_of, matter_cmp, number_in, numbers_of, number_at}
use Rattle.lnfs_open.proofs.Places.{matter_same}
use Rattle.lnfs_open.proofs.NamedNumbers.{number_updated, put_by, none_by}
use Rattle.lnfs_open.proofs.owners.Owners.take.Goals as goal

pub returns-in_default : goal.returns-in_default
returns-in_default c = λ d n o.
    let none : None ≡ numbers_of c.args.self.now c.args.name.now = c.in_default.ensures.value in
    ap (λ m. number_at (record { numbers = m }) d n o) c.get_mut.follows.holds-at-none
    ∙ none_by _ (bytes_eq c.args.name.now o) (number_at c.args.self.now d n o)
    (λ is. sym (ap (λ x. number_in x (matter_of d n)) none ∙ ap (λ x. number_at c.args.self.now d n x) (bytes_same c.args.name.now o is)))

pub returns : goal.returns
returns c =
    let new = c.remove.new.self in
    let old = c.in-Some.numbers.now in
    let there : Some old ≡ numbers_of c.args.self.now c.args.name.now = c.in-Some.ensures.value in
    let matter = c.args.matter in
    let inner : (d n : Id) → get matter_cmp new (matter_of d n) ≡ cond (is_eq (matter_cmp matter (matter_of d n))) None (get matter_cmp old (matter_of d n)) = λ d n. c.remove.ensures.updates.0 (matter_of d n) in
    λ d n o.
    number_updated c.args.self.now.numbers (c.get_mut.follows.lender new) c.args.name.now (Some new) ((c.get_mut.follows.holds new).3 (ap is_some (sym there))) o (matter_of d n)
    ∙ ap (λ x. cond (bytes_eq c.args.name.now o) x (number_at c.args.self.now d n o)) (inner d n ∙ ap (λ b. cond b None (get matter_cmp old (matter_of d n))) (matter_same (id_of matter.client) (id_of matter.node) d n))
    ∙ put_by _ (bytes_eq c.args.name.now o) None (get matter_cmp old (matter_of d n)) (number_at c.args.self.now d n o)
    (λ is. ap (λ x. number_in x (matter_of d n)) there ∙ ap (λ x. number_at c.args.self.now d n x) (bytes_same c.args.name.now o is))
