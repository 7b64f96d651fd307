-- What is answered of arguments that can't be read, and of a number that isn't served.
use Rattle.std.proofs.Common.{◌≡◌, ◌∙◌, ap, sym, subst, ℕ, Bool, true, false, List, Result, Err}
use Rattle.std.specs.Prelude.{if◌then◌else◌}
use Rattle.lnfs_xdr.specs.declared.error.XdrError.{XdrError}
use Rattle.lnfs_xdr.specs.Reading.{Read}
use Rattle.lnfs_arguments.specs.declared.statuses.TheConstants.{NFS4ERR_BADXDR}
use Rattle.lnfs_world.specs.World.{World}
use Rattle.lnfs_world.specs.Outcome.{Place, Outcome}
use Rattle.lnfs_operations.specs.declared.Gate.TheVariants.{Argument}
use Rattle.lnfs_operations.specs.declared.Refusal.{Refusal}
use Rattle.lnfs_operations.specs.Chain.{Answer, refuse}
use Rattle.lnfs_engine.specs.declared.extra.ExtraRan.{ExtraRan}
use Rattle.lnfs_sparse_ops.specs.Outcome.{with_arguments}
use Rattle.lnfs_sparse_args.specs.Parsing.{Reads}
use Rattle.lnfs_sparse_args.proofs.Deciding.{on_read, with_read}
use Rattle.lnfs_sparse.specs.Answers.{Ends}

pub ends_unread : {X A : Type 0} (p : Place) (w : World) (view : X → A) (result : Result X XdrError) (e : XdrError) (r : Read ⊥ A) (next : A → Outcome (Answer (List ℕ))) (why : Refusal) (ran : ExtraRan)
    → Reads view result r → result ≡ Err e → why ≡ record { gate = Argument; status = NFS4ERR_BADXDR } → ((p : Place) (w : World) → Ends (refuse p why.gate why.status) ran w w) → Ends (with_arguments p r next) ran w w
ends_unread p w view result e r next why ran reads is same ends =
    subst (λ o. Ends o ran w w) (sym (with_read p view result r reads next ∙ ap (λ x. on_read p view x next) is))
    (subst (λ (y : Refusal). Ends (refuse p y.gate y.status) ran w w) same (ends p w))

-- the last of four cases
pub last_of_four : (P : Outcome (Answer (List ℕ)) → Type 0) (a b c d : Bool) (x y z u v : Outcome (Answer (List ℕ))) → a ≡ false → b ≡ false → c ≡ false → d ≡ false → P v → P (if a then x else if b then y else if c then z else if d then u else v)
last_of_four P false false false false x y z u v i j k l is = is
last_of_four P true b c d x y z u v i j k l is = absurd cc
last_of_four P false true c d x y z u v i j k l is = absurd cc
last_of_four P false false true d x y z u v i j k l is = absurd cc
last_of_four P false false false true x y z u v i j k l is = absurd cc
