use Rattle.std.proofs.Common.{◌≡◌, ◌≤◌, arith}
use Rattle.lnfs_world.specs.Usage.{bytes_used}
use Rattle.lnfs_quota.specs.Quota.{row_at}
use Rattle.lnfs_quota.proofs.FewBytes.{bytes_few}
use Rattle.lnfs_quota.proofs.laws.law_fitting.Goals as goal

pub returns : goal.returns
returns c rows nodes level totals rising =
    let few : bytes_used nodes level ≤ 2305843009213693952 = bytes_few level nodes totals.bounds rising in
    let total : (row_at rows level).bytes ≡ bytes_used nodes level = totals.labels level in
    omega arith
