use Rattle.std.proofs.Common.{refl}
use Rattle.lnfs_client.specs.Machine.{started}
use Rattle.lnfs_client.specs.Runs.{run}
use Rattle.lnfs_client.proofs.Suiting.{run_guarded}
use Rattle.lnfs_client.proofs.Showing.{shown_of}
use Rattle.lnfs_client.proofs.Over.{entries_judged}
use Rattle.lnfs_client.proofs.Slots.{run_follows}
use Rattle.lnfs_client.proofs.laws.dialogues.Goals as goal

pub returns-clause-guarded : goal.returns-clause-guarded
returns-clause-guarded g c = run_guarded g.M.Mechanism.signing

pub returns-clause-shown : goal.returns-clause-shown
returns-clause-shown g c = λ p level who owner deeds bytes. shown_of g.M.Mechanism.signing p (run g.M.Mechanism.signing p (started level who owner) deeds) bytes

pub returns-clause-entries : goal.returns-clause-entries
returns-clause-entries g c = λ p level who owner deeds r e. entries_judged g.M.Mechanism.signing p (started level who owner) deeds r refl e

pub returns-clause-numbers : goal.returns-clause-numbers
returns-clause-numbers g c = run_follows g.M.Mechanism.signing
