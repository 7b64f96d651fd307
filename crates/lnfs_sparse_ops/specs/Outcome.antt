-- ALLOCATE, DEALLOCATE, SEEK and CLONE as further operations. They have no rows of their own.
use Rattle.std.specs.Prelude.{ℕ, ◌==◌, List, [], Some, None, Ok, Err, if◌then◌else◌}
use Rattle.lnfs_xdr.specs.Reading.{Read, read}
use Rattle.lnfs_arguments.specs.declared.statuses.TheConstants.{NFS4ERR_BADXDR, NFS4ERR_NOTSUPP}
use Rattle.lnfs_world.specs.Both.{Both, both}
use Rattle.lnfs_world.specs.Outcome.{Site, Place, Outcome, Act, done_to}
use Rattle.lnfs_operations.specs.declared.Gate.TheVariants.{Argument, Outside}
use Rattle.lnfs_operations.specs.Chain.{Answer, Done, Refused, refuse}
use Rattle.lnfs_operations.specs.Extra.{Said, Spot, After, place_at, Extra}
use Rattle.lnfs_sparse_ops.specs.declared.numbers.TheConstants.{OP_ALLOCATE, OP_DEALLOCATE, OP_SEEK, OP_CLONE}
use Rattle.lnfs_sparse_ops.specs.Arguments.{region_args, seek_args, clone_args, sparse_grammar}
use Rattle.lnfs_sparse_ops.specs.Allocate.{allocate}
use Rattle.lnfs_sparse_ops.specs.Deallocate.{deallocate}
use Rattle.lnfs_sparse_ops.specs.Seek.{seek, seek_text}
use Rattle.lnfs_sparse_ops.specs.Clone.{clone}

-- ---- what is answered, as bytes

abbrev pub bytes_of : {R : Type 0} → (R → List ℕ) → Answer R → Answer (List ℕ)
bytes_of text (Done r) = Done (text r)
bytes_of text (Refused why) = Refused why

abbrev pub told : {R : Type 0} → (R → List ℕ) → Outcome (Answer R) → Outcome (Answer (List ℕ))
told text o = record { answer = bytes_of text o.answer; place = o.place; changes = o.changes }

-- nothing behind the status
abbrev pub plain : Outcome (Answer (Unit {0})) → Outcome (Answer (List ℕ))
plain o = told (λ r. []) o

-- Arguments have been measured before they come here, so that they are there.
abbrev pub with_arguments : {A : Type 0} → Place → Read ⊥ A → (A → Outcome (Answer (List ℕ))) → Outcome (Answer (List ℕ))
with_arguments p (Ok x) next = next x.0
with_arguments p (Err stuck) next = refuse p Argument NFS4ERR_BADXDR

abbrev pub answered : Site → (number : ℕ) (arguments : List ℕ) → Act (Answer (List ℕ))
answered site number arguments p w =
    if number == OP_ALLOCATE then with_arguments p (read region_args arguments) (λ args. plain (allocate site args p w)) else
    if number == OP_DEALLOCATE then with_arguments p (read region_args arguments) (λ args. plain (deallocate site args p w)) else
    if number == OP_SEEK then with_arguments p (read seek_args arguments) (λ args. told seek_text (seek site args p w)) else
    if number == OP_CLONE then with_arguments p (read clone_args arguments) (λ args. plain (clone site args p w)) else
    refuse p Outside NFS4ERR_NOTSUPP

-- ---- as a further operation

abbrev pub said : Answer (List ℕ) → Said
said (Done bytes) = record { refusal = None; bytes = bytes }
said (Refused why) = record { refusal = Some why; bytes = [] }

-- the file handles stay
abbrev pub ended : Spot → Both ⊥ → Outcome (Answer (List ℕ)) → After (Both ⊥)
ended at a o = record { said = said o.answer; current = at.current; saved = at.saved; state = both (done_to a.world o) a.own }

abbrev pub outcome : Site → (number : ℕ) (arguments : List ℕ) → Spot → Both ⊥ → After (Both ⊥)
outcome site number arguments at a = ended at a (answered site number arguments (place_at at) a.world)

abbrev pub sparse : Extra
sparse = record {
  grammar = sparse_grammar;
  Row = ⊥;
  level_of = λ r. 0;
  outcome = outcome;
  Fact = λ w rows. Unit {0};
}
