-- The body of an AUTH_SYS credential (RFC 5531 appendix A).
use Rattle.std.specs.Prelude.{ℕ, List}
use Rattle.lnfs_xdr.specs.Format.{Format, Word, Opaque, Done, ◌>>=◌, array}
use Rattle.lnfs_xdr.specs.declared.limits.TheConstants.{MACHINE_LIMIT, GROUP_LIMIT}

pub record AuthSys : Type 0 where
  pub stamp : ℕ
  pub machine : List ℕ
  pub uid : ℕ
  pub gid : ℕ
  pub gids : List ℕ

unfoldable pub auth_sys : {E : Type 0} → Format E AuthSys
auth_sys = do
  stamp ← Word
  machine ← Opaque MACHINE_LIMIT
  uid ← Word
  gid ← Word
  gids ← array GROUP_LIMIT Word
  Done (record { stamp = stamp; machine = machine; uid = uid; gid = gid; gids = gids })
