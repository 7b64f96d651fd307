use Rattle.std.proofs.Common.{sym, ◌∙◌, refl}
use Rattle.std.specs.Option.{option_map}
use Rattle.lnfs_site.specs.Site.{site_of}
use Rattle.lnfs_nodes.specs.GivenValues.{given_of}
use Rattle.lnfs_files.specs.Openings.{wanted_of}
use Rattle.lnfs_files.proofs.Listed.{held_listed, label_listed}
use Rattle.lnfs_files.proofs.Givens.{no_values, size_off, mode_off, no_label, all}
use Rattle.lnfs_files.proofs.wanted.read_given.Goals.{then-not-is_no_size-via-then-not-is_no_size, then-not-is_no_size-via-else-not-is_no_size+then-not-is_mode}
use Rattle.lnfs_files.proofs.wanted.read_given.Goals as goal

pub returns-in-Err-clause-tests : goal.returns-in-Err-clause-tests
returns-in-Err-clause-tests c = λ p next. no_values (site_of c.args.site.now) p c.args.given.now next c.in-Err.why (rw c.in-Err.is at c.in_ok-values.ensures)

pub returns-then-not-is_no_size-clause-tests : goal.returns-then-not-is_no_size-clause-tests
returns-then-not-is_no_size-clause-tests c = λ p next.
    let site = site_of c.args.site.now in
    let given = c.args.given.now in
    elim c.then-not-is_no_size.branch [
      | then-not-is_no_size-via-then-not-is_no_size w ↦ size_off site p given next c.in-Ok.values (rw c.in-Ok.is at c.in_ok-values.ensures) c.argument.result c.argument.ensures (sym c.is_no_size.ensures ∙ w.if-not-is_no_size.true)
      | then-not-is_no_size-via-else-not-is_no_size+then-not-is_mode w ↦ mode_off site p given next c.in-Ok.values (rw c.in-Ok.is at c.in_ok-values.ensures) c.argument.result c.argument.ensures (sym c.is_no_size.ensures ∙ w.if-not-is_no_size.false) (sym w.is_mode.ensures ∙ w.if-not-is_mode.true)
    ]

pub returns-in-Err-label_of-clause-tests : goal.returns-in-Err-label_of-clause-tests
returns-in-Err-label_of-clause-tests c = λ p next.
    no_label (site_of c.args.site.now) p c.args.given.now next c.in-Ok.values (rw c.in-Ok.is at c.in_ok-values.ensures) (sym c.is_no_size.ensures ∙ c.if-not-is_no_size.false) (sym c.is_mode.ensures ∙ c.if-not-is_mode.false)
    c.in-Err-label_of.why c.in-Err-label_of.ensures

pub returns-clause-listed : goal.returns-clause-listed
returns-clause-listed c =
    held_listed c.in-Ok-label_of.label (label_listed (site_of c.args.site.now) c.law_listed.ensures c.in-Ok.values.label (option_map given_of c.in-Ok-label_of.label) (sym c.in-Ok-label_of.ensures))

pub returns-clause-tests : goal.returns-clause-tests
returns-clause-tests c = λ p next.
    all (site_of c.args.site.now) p c.args.given.now next c.in-Ok.values (rw c.in-Ok.is at c.in_ok-values.ensures) (sym c.is_no_size.ensures ∙ c.if-not-is_no_size.false) (sym c.is_mode.ensures ∙ c.if-not-is_mode.false)
    (wanted_of (record { sized = c.is_some.result; mode = c.in-Ok.values.mode; label = c.in-Ok-label_of.label; set = c.set_of.result })) c.is_some.ensures refl c.in-Ok-label_of.ensures c.set_of.ensures
