use Rattle.std.proofs.Common.{◌≡◌, ℕ, true, Option, Some, None, refl, sym, ◌∙◌}
use Rattle.std.specs.Prelude.{◌&&◌}
use Rattle.std.specs.Bool.{nat_eq}
use Rattle.std.specs.Option.{option_eq}
use Rattle.lnfs_counts.proofs.Named.{read_alike}
use Rattle.lnfs_session.specs.Levels.{no_numbers, or_none, numbers_of}
use Rattle.lnfs_session.proofs.levels.LevelRecords.free_place.Goals as goal

empty : (p q : Option ℕ) → (option_eq nat_eq p None && option_eq nat_eq q None) ≡ true → record { pending = p; confirmed = q } ≡ no_numbers
empty None None e = refl
empty None (Some q) e = absurd (cc)
empty (Some p) q e = absurd (cc)

pub returns-then-eq : goal.returns-then-eq
returns-then-eq c =
    let none : numbers_of c.args.self.now c.args.owner.now ≡ no_numbers = sym c.numbers.ensures ∙ empty c.numbers.result.pending c.numbers.result.confirmed (sym c.eq.ensures ∙ c.if-eq.true) in
    record {
      last = refl;
      records = refl;
      numbers = read_alike c.args.self.now.owners c.remove.new.self c.args.owner.now None c.remove.ensures.updates or_none (sym none);
    }
