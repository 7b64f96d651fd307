-- The first test that refuses a name, by its status (RFC 8881 section 14.4).
use Rattle.std.specs.Prelude.{ℕ, not, List, length, Option, Some, None, nat_le, if◌then◌else◌}
use Rattle.std.specs.Str.{is_utf8}
use Rattle.lnfs_words.specs.Words.{is_empty}
use Rattle.lnfs_arguments.specs.declared.statuses.TheConstants.{NFS4ERR_INVAL, NFS4ERR_NAMETOOLONG, NFS4ERR_BADCHAR, NFS4ERR_BADNAME}
use Rattle.lnfs_operations.specs.declared.numbers.TheConstants.{LONGEST_NAME}
use Rattle.lnfs_operations.specs.Names.{has_bad_byte, is_dots}

abbrev pub name_refusal : List ℕ → Option ℕ
name_refusal name =
    if is_empty name then Some NFS4ERR_INVAL else
    if not (nat_le (length name) LONGEST_NAME) then Some NFS4ERR_NAMETOOLONG else
    if not (is_utf8 name) then Some NFS4ERR_INVAL else
    if has_bad_byte name then Some NFS4ERR_BADCHAR else
    if is_dots name then Some NFS4ERR_BADNAME else
    None
