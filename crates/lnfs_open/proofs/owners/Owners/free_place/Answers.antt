use Rattle.std.proofs.Common.{◌≡◌, ℕ, Some, None, List, [], ◌∷◌, length, refl, ap, sym, ◌∙◌, arith}
use Rattle.std.specs.Map.{lookup}
use Rattle.std.specs.BTreeMap.{is_at}
use Rattle.lnfs_open.specs.declared.owners.Matter.{Matter}
use Rattle.lnfs_open.specs.Owners.{matter_of, matter_cmp, number_in, numbers_of}
use Rattle.lnfs_open.proofs.NamedNumbers.{number_stays}
use Rattle.lnfs_open.proofs.owners.Owners.free_place.Goals as goal

empty : (es : List (Matter × ℕ)) → length es ≡ 0 → es ≡ []
empty [] e = refl
empty (x ∷ es) e = absurd (grind arith)

pub returns-then-is_empty : goal.returns-then-is_empty
returns-then-is_empty c = λ d n o.
    let none : c.in-Some.numbers.now.entries ≡ [] = empty c.in-Some.numbers.now.entries (c.is_empty.ensures.0 c.if-is_empty.true) in
    let there : Some c.in-Some.numbers.now ≡ numbers_of c.args.self.now c.args.name.now = c.in-Some.ensures.value in
    number_stays c.args.self.now.numbers c.remove.new.self c.args.name.now None c.remove.ensures.updates
    (λ k. sym (ap (λ (es : List (Matter × ℕ)). lookup (is_at (matter_cmp k)) es) none) ∙ ap (λ x. number_in x k) there) o (matter_of d n)
