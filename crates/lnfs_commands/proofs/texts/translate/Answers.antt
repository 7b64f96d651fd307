use Rattle.std.proofs.Common.{rules}
use Rattle.lnfs_commands.proofs.Spelling.{does_spelled, does_untranslated}
use Rattle.lnfs_commands.proofs.texts.translate.Goals as goal

pub returns-in-Ok : goal.returns-in-Ok
returns-in-Ok g c =
    let is = rw (c.new-table.ensures.formats, c.new-table.ensures.lattice, c.formats.ensures, c.lattice.ensures) at c.in-Ok.ensures in
    does_spelled _ _ is (rw c.deref.ensures.value at c.show_hex.ensures)

pub returns-in-Err : goal.returns-in-Err
returns-in-Err g c =
    let is = rw (c.new-table.ensures.formats, c.new-table.ensures.lattice, c.formats.ensures, c.lattice.ensures) at c.in-Err.ensures in
    does_untranslated _ c.in-Err.error is (search rules)
