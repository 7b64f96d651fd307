use Rattle.std.proofs.Common.{◌≡◌, ◌<◌, refl, ap, sym, ◌∙◌, true, false, List, arith}
use Rattle.std.specs.Prelude.{◌==◌}
use Rattle.std.specs.List.{find}
use Rattle.lnfs_world.specs.World.{Open, same_id}
use Rattle.lnfs_operations.specs.Handles.{handle_named}
use Rattle.lnfs_operations.specs.Chain.{refuse}
use Rattle.lnfs_operations.specs.Chain as chain
use Rattle.lnfs_files.proofs.NamedOpens.{other_level, no_open, no_client, no_number}
use Rattle.lnfs_files.proofs.references.refer.Goals as goal

pub returns-then-ne : goal.returns-then-ne
returns-then-ne c = λ p w n next subject client opens.
    let other : ((handle_named c.args.id.now.other).level == c.args.subject.0) ≡ false = grind (arith, c.named-number.ensures.level, c.ne.ensures, c.if-ne.true) in
    other_level p w n c.args.id.now next c.args.subject.0 subject other

pub returns-in_default : goal.returns-in_default
returns-in_default c = λ p w n next subject client opens.
    let own : ((handle_named c.args.id.now.other).level == p.subject) ≡ true = grind (arith, subject, c.named-number.ensures.level, c.ne.ensures, c.if-ne.false) in
    no_open p w n c.args.id.now next own (no_client p w n _ (client ∙ c.in_default.is))
    ∙ ap (λ (r : chain.Refusal). refuse p r.gate r.status) (sym c.refused_by.ensures)

pub returns-in_default-try_from : goal.returns-in_default-try_from
returns-in_default-try_from c = λ p w n next subject client opens.
    let level : (handle_named c.args.id.now.other).level ≡ c.args.subject.0 = grind (arith, c.named-number.ensures.level, c.ne.ensures, c.if-ne.false) in
    let own : ((handle_named c.args.id.now.other).level == p.subject) ≡ true = grind (arith, subject, level) in
    let past : c.last_number-last.result < (handle_named c.args.id.now.other).number = grind (arith, c.named-number.ensures.number, c.in_default-try_from.ensures, c.last_number-last.type_inv) in
    no_open p w n c.args.id.now next own (no_number p w n _ (
    ap (λ (l : List Open). find (λ o. same_id (handle_named c.args.id.now.other) o.id) l) opens
    ∙ c.last_number-last.ensures.most (handle_named c.args.id.now.other) level past))
    ∙ ap (λ (r : chain.Refusal). refuse p r.gate r.status) (sym c.refused_by-in_default-try_from.ensures)

pub returns : goal.returns
returns c =
    let level : (handle_named c.args.id.now.other).level ≡ c.args.subject.0 = grind (arith, c.named-number.ensures.level, c.ne.ensures, c.if-ne.false) in
    record {
      level = refl;
      number = c.in-Some.is;
      named = λ t. record { level = sym level t; number = (c.in-Ok.ensures.1 ∙ c.named-number.ensures.number) t };
      own = refl;
      sequence = refl;
    }
