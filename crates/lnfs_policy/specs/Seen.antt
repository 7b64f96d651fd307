-- The lines that the reader's values stand for.
use Rattle.std.specs.Prelude.{Result, Ok, Err}
use Rattle.lnfs_policy.specs.Line as said
use Rattle.lnfs_policy.specs.declared.line.Line.{Line}
use Rattle.lnfs_policy.specs.declared.line.Line.TheVariants as line
use Rattle.lnfs_policy.specs.declared.cause.Cause.{Cause}

abbrev pub seen : Line → said.Line
seen (line.Version version) = said.version_line version
seen (line.Mode mode) = said.mode_line mode
seen (line.Level place doi sens comps) = said.level_line place doi sens comps.now
seen (line.Format pair kind) = said.format_line pair.lfs pair.pi kind.now
seen (line.Name pair level hex) = said.name_line pair.lfs pair.pi level hex.now
seen (line.Parent number hex level) = said.parent_line number hex.now level
seen (line.Guest class uid level) = said.guest_line class uid level
seen (line.Quota level nodes bytes) = said.quota_line level nodes bytes
seen (line.Dir path level) = said.dir_line path.now level

abbrev pub seen_line : Result Line Cause → Result said.Line Cause
seen_line (Ok line) = Ok (seen line)
seen_line (Err cause) = Err cause
