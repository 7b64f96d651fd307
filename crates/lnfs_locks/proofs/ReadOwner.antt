-- The owner among the arguments of LOCK is short.
use Rattle.std.proofs.Common.{◌≡◌, ◌≤◌, ℕ, Bool, true, false, cond, List, length, take, Ok, Err, ap, subst, arith}
use Rattle.std.specs.Prelude.{nat_lt, ◌+◌}
use Rattle.std.specs.Int.{w32}
use Rattle.std.proofs.lemmas.Bool.{ltb-false}
use Rattle.std.proofs.lemmas.Bool.Decides.{nat_tests}
use Rattle.std.proofs.lemmas.List.{length-take}
use Rattle.lnfs_xdr.specs.declared.error.XdrError.TheVariants.{Short, TooLong}
use Rattle.lnfs_xdr.specs.Format.{Word, Long, Boolean, Opaque, Done, Then, If, padding}
use Rattle.lnfs_xdr.specs.Reading.{number_at, count_at, padded_at, opaque_at, read}
use Rattle.lnfs_xdr.proofs.Fields.{after_ok, guard_ok, here_ok}
use Rattle.lnfs_arguments.specs.declared.numbers.TheConstants.{OWNER_LIMIT}
use Rattle.lnfs_arguments.specs.declared.stateid.StateId.{StateId}
use Rattle.lnfs_locks.specs.Arguments.{Args, Locker, New, Known, LockArgs, state_id, lock_owner, new_locker, known_locker, lock_args}

-- the value of a format that is followed by others, and what they are read of
behind : {A B : Type 0} (f : Args A) (k : A → Args B) (bytes : List ℕ) (x : B × List ℕ) → read (Then f k) bytes ≡ Ok x → (a : A × List ℕ) × (read f bytes ≡ Ok a) × (read (k a.0) a.1 ≡ Ok x)
behind f k bytes x e = after_ok (read f bytes) (λ a rest. read (k a) rest) x e

opaque_short : (max : ℕ) (bytes : List ℕ) (x : List ℕ × List ℕ) → opaque_at max bytes ≡ Ok x → length x.0 ≤ max
opaque_short max bytes x e =
    let a = after_ok (count_at max bytes) (λ n rest. padded_at n rest) x e in
    let b = after_ok (number_at w32 bytes) (λ n rest. cond (nat_lt max n) (Err TooLong) (Ok (n, rest))) a.0 a.1 in
    let c = guard_ok (nat_lt max b.0.0) TooLong b.0 a.0 b.2 in
    let few : b.0.0 ≤ max = ltb-false max b.0.0 c.0 in
    let same : b.0.0 ≡ a.0.0 = ap (λ (y : ℕ × List ℕ). y.0) c.1 in
    let d = guard_ok (nat_lt (length a.0.1) (a.0.0 + padding a.0.0)) Short _ x a.2 in
    let long = ltb-false (length a.0.1) (a.0.0 + padding a.0.0) d.0 in
    let taken : take a.0.0 a.0.1 ≡ x.0 = ap (λ (y : List ℕ × List ℕ). y.0) d.1 in
    let size = length-take a.0.0 a.0.1 in
    let whole : length (take a.0.0 a.0.1) ≡ length x.0 = ap length taken in
    grind (arith, nat_tests, few, same, long, size, whole)

owner_short : (bytes : List ℕ) (x : List ℕ × List ℕ) → read lock_owner bytes ≡ Ok x → length x.0 ≤ OWNER_LIMIT
unfolding lock_owner
owner_short bytes x e =
    let a = behind Long (λ client. Then (Opaque OWNER_LIMIT) (λ owner. Done owner)) bytes x e in
    let b = behind (Opaque OWNER_LIMIT) (λ owner. Done owner) a.0.1 x a.2 in
    let short = opaque_short OWNER_LIMIT a.0.1 b.0 (here_ok a.0.1 (opaque_at OWNER_LIMIT a.0.1) b.0 b.1) in
    let same : (b.0.0, b.0.1) ≡ x = cc in
    subst (λ (y : List ℕ × List ℕ). length y.0 ≤ OWNER_LIMIT) same short

abbrev pub IsShort : Locker → Type 0
IsShort (New opening owner) = length owner ≤ OWNER_LIMIT
IsShort (Known lock) = Unit {0}

-- what follows each field
abbrev new_owner : StateId → Args Locker
new_owner opening = Then lock_owner (λ owner. Done (New opening owner))

abbrev new_seqid : StateId → Args Locker
new_seqid opening = Then Word (λ seqid. new_owner opening)

abbrev known_seqid : StateId → Args Locker
known_seqid lock = Then Word (λ seqid. Done (Known lock))

abbrev told : (kind : ℕ) → (reclaim : Bool) → (offset length : ℕ) → Locker → LockArgs
told kind reclaim offset length locker = record { asked = record { kind = kind; offset = offset; length = length }; reclaim = reclaim; locker = locker }

abbrev behind_is_new : (kind : ℕ) → (reclaim : Bool) → (offset length : ℕ) → Bool → Args LockArgs
behind_is_new kind reclaim offset length is_new = Then (If is_new new_locker known_locker) (λ locker. Done (told kind reclaim offset length locker))

abbrev behind_length : (kind : ℕ) → (reclaim : Bool) → (offset length : ℕ) → Args LockArgs
behind_length kind reclaim offset length = Then Boolean (behind_is_new kind reclaim offset length)

abbrev behind_offset : (kind : ℕ) → (reclaim : Bool) → (offset : ℕ) → Args LockArgs
behind_offset kind reclaim offset = Then Long (behind_length kind reclaim offset)

abbrev behind_reclaim : (kind : ℕ) → (reclaim : Bool) → Args LockArgs
behind_reclaim kind reclaim = Then Long (behind_offset kind reclaim)

abbrev behind_kind : (kind : ℕ) → Args LockArgs
behind_kind kind = Then Boolean (behind_reclaim kind)

new_short : (bytes : List ℕ) (x : Locker × List ℕ) → read new_locker bytes ≡ Ok x → IsShort x.0
unfolding new_locker
new_short bytes x e =
    let a = behind Word (λ seqid. Then state_id new_seqid) bytes x e in
    let b = behind state_id new_seqid a.0.1 x a.2 in
    let c = behind Word (λ seqid. new_owner b.0.0) b.0.1 x b.2 in
    let d = behind lock_owner (λ owner. Done (New b.0.0 owner)) c.0.1 x c.2 in
    let same : (New b.0.0 d.0.0, d.0.1) ≡ x = (let is = d.2 in cc) in
    subst (λ (y : Locker × List ℕ). IsShort y.0) same (owner_short c.0.1 d.0 d.1)

known_short : (bytes : List ℕ) (x : Locker × List ℕ) → read known_locker bytes ≡ Ok x → IsShort x.0
unfolding known_locker
known_short bytes x e =
    let a = behind state_id known_seqid bytes x e in
    let b = behind Word (λ lock_seqid. Done (Known a.0.0)) a.0.1 x a.2 in
    let same : (Known a.0.0, b.0.1) ≡ x = (let is = b.2 in cc) in
    subst (λ (y : Locker × List ℕ). IsShort y.0) same tt

either_short : (b : Bool) (bytes : List ℕ) (x : Locker × List ℕ) → read (If b new_locker known_locker) bytes ≡ Ok x → IsShort x.0
either_short true bytes x e = new_short bytes x e
either_short false bytes x e = known_short bytes x e

pub locker_short : (bytes : List ℕ) (x : LockArgs × List ℕ) → read lock_args bytes ≡ Ok x → IsShort x.0.locker
unfolding lock_args
locker_short bytes x e =
    let a = behind Word behind_kind bytes x e in
    let b = behind Boolean (behind_reclaim a.0.0) a.0.1 x a.2 in
    let c = behind Long (behind_offset a.0.0 b.0.0) b.0.1 x b.2 in
    let d = behind Long (behind_length a.0.0 b.0.0 c.0.0) c.0.1 x c.2 in
    let f = behind Boolean (behind_is_new a.0.0 b.0.0 c.0.0 d.0.0) d.0.1 x d.2 in
    let g = behind (If f.0.0 new_locker known_locker) (λ locker. Done (told a.0.0 b.0.0 c.0.0 d.0.0 locker)) f.0.1 x f.2 in
    let args : LockArgs = told a.0.0 b.0.0 c.0.0 d.0.0 g.0.0 in
    let same : (args, g.0.1) ≡ x = (let is = g.2 in cc) in
    subst (λ (y : LockArgs × List ℕ). IsShort y.0.locker) same (either_short f.0.0 f.0.1 g.0 g.1)
