use Rattle.std.proofs.Common.{◌≡◌, Some, None, sym, ap, ◌∙◌, refl, arith}
use Rattle.lnfs_counts.proofs.Named.{read_alike}
use Rattle.lnfs_session.specs.Levels.{no_numbers, or_none, place_of}
use Rattle.lnfs_session.proofs.levels.LevelRecords.make_place.Goals as goal

pub returns-clause-same : goal.returns-clause-same
returns-clause-same c =
    let key = c.in_ok-from_slice.field-0 in
    let none : place_of c.args.self.now c.args.owner.now ≡ None = grind arith in
    record {
      last = refl;
      records = refl;
      numbers = read_alike c.args.self.now.owners c.insert.new.self key.items (Some no_numbers) c.in_ok-insert.ensures.updates or_none (sym (ap or_none (ap (place_of c.args.self.now) c.in_ok-from_slice.ensures.items ∙ none)));
    }
