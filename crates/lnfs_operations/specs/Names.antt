-- Names of nodes (RFC 8881 sections 14.4 and 18.15.3): their tests, which are of the arguments alone.
use Rattle.std.specs.Prelude.{ℕ, ◌==◌, ◌||◌, Bool, not, List, [], ◌∷◌, length, nat_le}
use Rattle.std.specs.List.{list_any}
use Rattle.std.specs.Str.{bytes_eq, is_utf8}
use Rattle.lnfs_words.specs.Words.{is_empty, slash}
use Rattle.lnfs_world.specs.Outcome.{Place, Outcome}
use Rattle.lnfs_arguments.specs.declared.statuses.TheConstants.{NFS4ERR_INVAL, NFS4ERR_NAMETOOLONG, NFS4ERR_BADCHAR, NFS4ERR_BADNAME}
use Rattle.lnfs_operations.specs.declared.Gate.TheVariants.{Argument}
use Rattle.lnfs_operations.specs.declared.numbers.TheConstants.{LONGEST_NAME}
use Rattle.lnfs_operations.specs.Chain.{Answer, refuse, demand}

-- a slash or a zero byte
abbrev pub has_bad_byte : List ℕ → Bool
has_bad_byte name = list_any (λ b. b == slash || b == 0) name

-- `.` or `..`
abbrev pub is_dots : List ℕ → Bool
is_dots name = bytes_eq name (46 ∷ []) || bytes_eq name (46 ∷ 46 ∷ [])

-- the next test where a name is well formed
abbrev pub where_named : {R : Type 0} → Place → List ℕ → Outcome (Answer R) → Outcome (Answer R)
where_named p name next =
    demand (not (is_empty name)) (refuse p Argument NFS4ERR_INVAL) (
    demand (nat_le (length name) LONGEST_NAME) (refuse p Argument NFS4ERR_NAMETOOLONG) (
    demand (is_utf8 name) (refuse p Argument NFS4ERR_INVAL) (
    demand (not (has_bad_byte name)) (refuse p Argument NFS4ERR_BADCHAR) (
    demand (not (is_dots name)) (refuse p Argument NFS4ERR_BADNAME) next))))
