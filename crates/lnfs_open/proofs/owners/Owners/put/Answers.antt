use Rattle.std.proofs.Common.{◌≡◌, ℕ, Some, Result, Ok, Err, List, cond, ap, ◌∙◌}
use Rattle.std.specs.Prelude.{OnErr}
use Rattle.std.specs.Ordering.{is_eq}
use Rattle.std.specs.Map.{lookup}
use Rattle.std.specs.Str.{bytes_eq}
use Rattle.std.specs.BTreeMap.{is_at, get}
use Rattle.lnfs_world.specs.World.{Id}
use Rattle.lnfs_world.proofs.Keys.{bytes_same}
use Rattle.lnfs_open.specs.declared.owners.Matter.{Matter}
use Rattle.lnfs_open.specs.Listed.{id_of}
use Rattle.lnfs_open.specs.Owners.{matter_of, matter_cmp, number_in, numbers_of, number_at}
use Rattle.lnfs_open.proofs.Places.{matter_same}
use Rattle.lnfs_open.proofs.NamedNumbers.{number_updated, number_stays, put_by}
use Rattle.lnfs_open.proofs.owners.Owners.put.Goals as goal

any_err : {T E P : Type 0} (r : Result T E) → P → OnErr r P
any_err (Ok x) p = tt
any_err (Err e) p = p

pub returns-in_err-insert-clause-kept : goal.returns-in_err-insert-clause-kept
returns-in_err-insert-clause-kept c =
    let new = c.insert.new.self in
    let there : Some c.in-Some.numbers.now ≡ numbers_of c.args.self.now c.args.name.now = c.in-Some.ensures.value in
    any_err c.from_residual.result (λ d n o.
    number_stays c.args.self.now.numbers (c.get_mut.follows.lender new) c.args.name.now (Some new) ((c.get_mut.follows.holds new).3 c.requires)
    (λ k. ap (λ (es : List (Matter × ℕ)). lookup (is_at (matter_cmp k)) es) c.in_err-insert.ensures.err ∙ ap (λ x. number_in x k) there) o (matter_of d n))

pub returns-clause-put : goal.returns-clause-put
returns-clause-put c =
    let new = c.insert.new.self in
    let old = c.in-Some.numbers.now in
    let there : Some old ≡ numbers_of c.args.self.now c.args.name.now = c.in-Some.ensures.value in
    let matter = c.args.matter in
    let inner : (d n : Id) → get matter_cmp new (matter_of d n) ≡ cond (is_eq (matter_cmp matter (matter_of d n))) (Some c.args.number) (get matter_cmp old (matter_of d n)) = λ d n. c.in_ok-insert.ensures.updates.0 (matter_of d n) in
    λ d n o.
    number_updated c.args.self.now.numbers (c.get_mut.follows.lender new) c.args.name.now (Some new) ((c.get_mut.follows.holds new).3 c.requires) o (matter_of d n)
    ∙ ap (λ x. cond (bytes_eq c.args.name.now o) x (number_at c.args.self.now d n o)) (inner d n ∙ ap (λ b. cond b (Some c.args.number) (get matter_cmp old (matter_of d n))) (matter_same (id_of matter.client) (id_of matter.node) d n))
    ∙ put_by _ (bytes_eq c.args.name.now o) (Some c.args.number) (get matter_cmp old (matter_of d n)) (number_at c.args.self.now d n o)
    (λ is. ap (λ x. number_in x (matter_of d n)) there ∙ ap (λ x. number_at c.args.self.now d n x) (bytes_same c.args.name.now o is))
