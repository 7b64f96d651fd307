use Rattle.std.proofs.Common.{arith}
use Rattle.std.proofs.lemmas.List.{length-map}
use Rattle.lnfs_world.specs.declared.numbers.TheConstants.{MOST_NAMES}
use Rattle.lnfs_rows.specs.Told.{node_of}
use Rattle.lnfs_fit.specs.RowsOf.{nodes_of, entries_of}
use Rattle.lnfs_fit.proofs.Bounded.{to_few_names, of_few_names}
use Rattle.lnfs_fit.proofs.Tail.{told_as}
use Rattle.lnfs_fit.proofs.homes.names_are_few.Goals as goal

pub returns : goal.returns
returns c =
    let len = length-map c.args.nodes.now node_of in
    told_as c.stand_at_most.result _ _ c.stand_at_most.ensures
    (λ few. to_few_names (nodes_of c.args.nodes.now) c.requires.rise (entries_of c.args.entries.now) c.args.names.now c.args.dirs.now c.requires.placed MOST_NAMES (λ k k_in. few k (omega (arith, len, k_in))))
    (λ few k k_in. of_few_names (nodes_of c.args.nodes.now) c.requires.rise (entries_of c.args.entries.now) c.args.names.now c.args.dirs.now c.requires.placed MOST_NAMES few k (omega (arith, len, k_in)))
