-- From what reading gives to what the bytes are.
use Rattle.std.proofs.Common.{◌≡◌, ℕ, ◌≤◌, List, length, Result, Ok, Err, subst}
use Rattle.std.specs.Prelude.{IfOk}
use Rattle.lnfs_xdr.proofs.Fields.{IsBytes}
use Rattle.lnfs_xdr.specs.Message.{Tells, Refuses, RefusesAt, parse}
use Rattle.lnfs_xdr.proofs.Messages.{tells, told, refuses, refused, refused_short}
use Rattle.lnfs_arguments.specs.Further.{Further}
use Rattle.lnfs_arguments.specs.declared.halt.CompoundError.{CompoundError}
use Rattle.lnfs_arguments.specs.declared.halt.CompoundError.TheVariants as errors
use Rattle.lnfs_arguments.specs.declared.types.Compound.{Compound}
use Rattle.lnfs_arguments.specs.Whole.{compound, Answers, IfGarbage}

pub is_found : (x : Further) (bytes : List ℕ) (r : Result Compound CompoundError) → IsBytes bytes → Answers r bytes (parse (compound x) bytes) → IfOk r (λ c. Tells (compound x) c bytes)
is_found x bytes (Ok c) fits given = tells (compound x) bytes c fits given
is_found x bytes (Err e) fits given = tt

pub is_garbage : (x : Further) (bytes : List ℕ) (r : Result Compound CompoundError) → IsBytes bytes → Answers r bytes (parse (compound x) bytes) → IfGarbage r (λ at. RefusesAt (compound x) bytes at)
is_garbage x bytes (Ok c) fits given = tt
is_garbage x bytes (Err errors.Memory) fits given = tt
is_garbage x bytes (Err (errors.Garbage at)) fits given = (given.0, refuses (compound x) bytes given.0 fits given.1, given.2)

pub only_found : (x : Further) (bytes : List ℕ) (r : Result Compound CompoundError) → IsBytes bytes → Answers r bytes (parse (compound x) bytes) → (c : Compound) → Tells (compound x) c bytes → Answers r bytes (Ok c)
only_found x bytes r fits given c t = subst (Answers r bytes) (told (compound x) bytes c fits t) given

pub only_garbage : (x : Further) (bytes : List ℕ) (r : Result Compound CompoundError) → IsBytes bytes → Answers r bytes (parse (compound x) bytes) → (stuck : List ℕ) → Refuses (compound x) bytes stuck → Answers r bytes (Err stuck)
only_garbage x bytes r fits given stuck t = subst (Answers r bytes) (refused (compound x) bytes stuck fits t) given

-- what is left is no longer than all
pub left_short : (x : Further) (bytes stuck : List ℕ) → IsBytes bytes → parse (compound x) bytes ≡ Err stuck → length stuck ≤ length bytes
left_short x bytes stuck fits e = refused_short (compound x) bytes stuck (refuses (compound x) bytes stuck fits e)
