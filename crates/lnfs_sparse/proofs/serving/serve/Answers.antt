use Rattle.std.proofs.Common.{◌≡◌, false, arith}
use Rattle.std.specs.Prelude.{◌==◌}
use Rattle.std.proofs.lemmas.Bool.Decides.{nat_tests}
use Rattle.lnfs_world.specs.Outcome.{Place}
use Rattle.lnfs_operations.specs.declared.Gate.TheVariants.{Outside}
use Rattle.lnfs_operations.specs.Chain.{refuse}
use Rattle.lnfs_operations.specs.Extra.{place_at}
use Rattle.lnfs_engine.specs.Further.{spot_of}
use Rattle.lnfs_arguments.specs.declared.statuses.TheConstants.{NFS4ERR_NOTSUPP}
use Rattle.lnfs_sparse_ops.specs.declared.numbers.TheConstants.{OP_ALLOCATE, OP_DEALLOCATE, OP_SEEK, OP_CLONE}
use Rattle.lnfs_sparse.specs.Answers.{Ends}
use Rattle.lnfs_sparse.proofs.Unread.{last_of_four}
use Rattle.lnfs_sparse.proofs.serving.serve.Goals as goal

pub returns : goal.returns
returns c =
    let w = c.args.store.now in
    let p : Place = place_at (spot_of c.args.at.now) in
    let n = c.args.number in
    let a : (n == OP_ALLOCATE) ≡ false = grind (arith, nat_tests) in
    let b : (n == OP_DEALLOCATE) ≡ false = grind (arith, nat_tests) in
    let d : (n == OP_SEEK) ≡ false = grind (arith, nat_tests) in
    let e : (n == OP_CLONE) ≡ false = grind (arith, nat_tests) in
    last_of_four (λ o. Ends o c.refused.result w w) (n == OP_ALLOCATE) (n == OP_DEALLOCATE) (n == OP_SEEK) (n == OP_CLONE) _ _ _ _ (refuse p Outside NFS4ERR_NOTSUPP) a b d e (c.refused.ensures p w)
