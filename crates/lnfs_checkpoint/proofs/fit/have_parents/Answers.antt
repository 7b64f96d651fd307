use Rattle.std.proofs.Common.{arith}
use Rattle.std.proofs.lemmas.List.{length-map}
use Rattle.lnfs_rows.specs.Told.{context_of}
use Rattle.lnfs_step.specs.ContextBounds.{HasParent}
use Rattle.lnfs_fit.proofs.Indexed.{all_at, at_all}
use Rattle.lnfs_sound.specs.RowsOf.{no_context, contexts_of}
use Rattle.lnfs_checkpoint.proofs.fit.have_parents.Goals as goal

pub returns : goal.returns
returns c =
    let len = length-map c.args.rows.now context_of in
    let contexts = contexts_of c.args.rows.now in (
      λ all. at_all no_context (HasParent c.args.policy.now) contexts (λ k less. c.each_has_parent.ensures.0 all k (omega (arith, len, less))),
      λ all. c.each_has_parent.ensures.1 (λ k less. all_at no_context (HasParent c.args.policy.now) contexts all k (omega (arith, len, less))),
    )
