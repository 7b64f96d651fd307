use Rattle.std.proofs.Common.{List, sym, ◌∙◌, ap}
use Rattle.lnfs_calipso.specs.Label.{Label}
use Rattle.lnfs_calipso.specs.Same.{level_of}
use Rattle.lnfs_calipso.proofs.Lattices.{place_found, place_missing}
use Rattle.lnfs_calipso.proofs.lattice.Lattice.find.Goals as goal

pub returns-clause-found : goal.returns-clause-found
returns-clause-found c =
    place_found c.args.self.now c.args.label.now c.in_ok-place.place
    (ap (λ (labels : List Label). level_of labels c.args.label.now) (sym (c.deref.ensures.value ∙ c.self.view_is)) ∙ sym c.place_of.ensures ∙ c.in_ok-place.was)

pub returns-in_err-place-clause-missing : goal.returns-in_err-place-clause-missing
returns-in_err-place-clause-missing c =
    rw c.from_residual.ensures (place_missing c.args.self.now c.args.label.now
    (ap (λ (labels : List Label). level_of labels c.args.label.now) (sym (c.deref.ensures.value ∙ c.self.view_is)) ∙ sym c.place_of.ensures ∙ c.in_err-place.was))
