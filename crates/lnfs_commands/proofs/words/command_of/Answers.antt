use Rattle.std.proofs.Common.{rules, ◌≡◌, length}
use Rattle.std.specs.String.{string_bytes}
use Rattle.std.proofs.lemmas.List.{length-map}
use Rattle.lnfs_commands.specs.Words.{texts}
use Rattle.lnfs_commands.proofs.words.command_of.Goals as goal

-- so many words are no form
pub returns-in_default : goal.returns-in_default
returns-in_default c =
    let long : length (texts c.args.words.now) ≡ length c.args.words.now = length-map c.args.words.now string_bytes in
    search rules
