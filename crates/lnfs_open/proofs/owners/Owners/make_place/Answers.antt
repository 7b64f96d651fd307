use Rattle.std.proofs.Common.{◌≡◌, ℕ, Some, None, List, ap, sym, ◌∙◌, arith}
use Rattle.std.specs.Map.{lookup}
use Rattle.std.specs.BTreeMap.{is_at}
use Rattle.lnfs_open.specs.declared.owners.Matter.{Matter}
use Rattle.lnfs_open.specs.Owners.{matter_of, matter_cmp, number_in, numbers_of}
use Rattle.lnfs_open.proofs.NamedNumbers.{number_stays}
use Rattle.lnfs_open.proofs.owners.Owners.make_place.Goals as goal

pub returns-clause-same : goal.returns-clause-same
returns-clause-same c = λ d n o.
    let key = c.in_ok-from_slice.field-0 in
    let none : numbers_of c.args.self.now c.args.name.now ≡ None = grind arith in
    number_stays c.args.self.now.numbers c.insert.new.self key.items (Some c.new.result) c.in_ok-insert.ensures.updates
    (λ k. ap (λ (es : List (Matter × ℕ)). lookup (is_at (matter_cmp k)) es) c.new.ensures.empty ∙ sym (ap (λ x. number_in x k) (ap (numbers_of c.args.self.now) c.in_ok-from_slice.ensures.items ∙ none))) o (matter_of d n)
