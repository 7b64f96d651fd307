use Rattle.std.proofs.Common.{sym, ◌∙◌, arith}
use Rattle.lnfs_xdr.proofs.Fields.{IsBytes, IsBytes-drop}
use Rattle.lnfs_traffic.proofs.Steady.{part_err}
use Rattle.lnfs_traffic.proofs.Fed.{behind_first, gives_first, all_given, broken, broken_first, first_begun, first_broken}
use Rattle.lnfs_traffic.proofs.pieces.look_first.Goals as goal

pub returns-in_default-clause-found : goal.returns-in_default-clause-found
returns-in_default-clause-found c =
    let b = c.in_default.ensures.cases in
    let f = sym c.starts_with.ensures.value ∙ c.if-starts_with.false in
    (first_broken c.args.rest.now b f, λ fed events r. broken_first fed events c.args.rest.now b f r)

pub returns-in-Whole-clause-found : goal.returns-in-Whole-clause-found
returns-in-Whole-clause-found c =
    let q = c.in-Some.ensures.cases in
    let s = rw (c.in-Whole.is, q.1) at c.in_ok-event.ensures.found in
    let l = rw q.1 at q.2 in
    (first_begun c.args.rest.now _ q.0 s.0, omega (arith, s.2, l), λ fed events r. gives_first fed events c.args.rest.now _ c.in-Whole.size _ (omega arith) q.0 r s.1 s.2 s.3)

pub returns-in-Part-clause-found : goal.returns-in-Part-clause-found
returns-in-Part-clause-found c =
    let q = c.in-Some.ensures.cases in
    let s = rw (c.in-Part.is, q.1) at c.in_ok-event.ensures.found in
    let l = rw q.1 at q.2 in
    (first_begun c.args.rest.now _ q.0 s.0, omega (arith, s.1, l), λ fed events r. all_given fed events 8 _ (behind_first fed events c.args.rest.now q.0 r) (part_err _ s.0))

pub returns-in-Damage-clause-found : goal.returns-in-Damage-clause-found
returns-in-Damage-clause-found c =
    let fits : IsBytes c.args.rest.now = λ i. omega (arith, c.type_inv.rest i) in
    let q = c.in-Some.ensures.cases in
    let s = rw (c.in-Damage.is, q.1) at c.in_ok-event.ensures.found in
    (first_begun c.args.rest.now _ q.0 s, λ fed events r. broken fed events 8 _ (behind_first fed events c.args.rest.now q.0 r) (IsBytes-drop 8 c.args.rest.now fits) s)
