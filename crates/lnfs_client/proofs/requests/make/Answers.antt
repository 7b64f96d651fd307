use Rattle.std.proofs.Common.{◌≡◌, ◌≤◌, ℕ, List, length, sym, subst, rules, arith}
use Rattle.lnfs_client.proofs.requests.make.Goals as goal

pub returns-clause-fits : goal.returns-clause-fits
returns-clause-fits c =
    let same : c.in_ok-owner.owner ≡ c.args.owner.now = first_of (cc, search rules) in
    (omega arith, omega arith, omega arith, omega arith, subst (λ (o : List ℕ). length o ≤ 1024) (sym same) c.requires.owner, c.no_attrs-attrs.ensures.fit, omega (arith, c.requires.name))
