use Rattle.std.proofs.Common.{◌∙◌, ap, List, ℕ}
use Rattle.std.specs.declared.option.Option.TheVariants.{Some}
use Rattle.lnfs_traffic.specs.Parts.{recorded}
use Rattle.lnfs_program.proofs.TwoRuns.{wrote, taken_again, goes_on}
use Rattle.lnfs_program.proofs.laws.two_runs.Goals as goal

pub returns : goal.returns
returns g c = λ p look look' policy name traffic bytes audit audit' net spelled is_traffic r policy' checkpoint more ending before after net' spelled' is_bytes r'.
    goes_on c.joined.ensures.resumed p (recorded traffic) (taken_again p look _ policy name traffic bytes audit audit' net spelled is_traffic r) look' _ policy' checkpoint more ending before after net' spelled'
    (is_bytes ∙ ap (λ (l : List ℕ). Some l) (wrote p look _ policy name traffic bytes audit audit' net spelled is_traffic r c.joined.ensures.out)) r'
