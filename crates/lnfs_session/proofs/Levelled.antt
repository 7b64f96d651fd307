-- What is told of the levels after a change of one.
use Rattle.std.proofs.Common.{◌≡◌, ℕ, List, Option, Some, None, sym, ap, ◌∙◌}
use Rattle.std.specs.Ordering.{nat_cmp}
use Rattle.std.specs.BTreeMap.{UpdatesBy, get}
use Rattle.lnfs_counts.specs.Levels.{told_in}
use Rattle.lnfs_counts.proofs.Levels.{read_alike}
use Rattle.lnfs_session.specs.declared.levels.LevelRecords.{LevelRecords}
use Rattle.lnfs_session.specs.Levels.{Levels, TellSame, no_numbers, or_none, numbers_of, place_in, lasts_of, AllTellSame}

module _ (m n : Levels) (level : ℕ) (y : LevelRecords) (updates : UpdatesBy nat_cmp (nat_cmp level) m n (Some y)) (lasts : lasts_of n.entries ≡ lasts_of m.entries) where
  alike : {W : Type 0} (f : Option LevelRecords → W) (before : Option LevelRecords) → get nat_cmp m level ≡ before → f (Some y) ≡ f before → (l : ℕ) → f (get nat_cmp n l) ≡ f (get nat_cmp m l)
  alike f before there same l = read_alike m n level (Some y) updates f (same ∙ ap f (sym there)) l

  pub told_same : (x : LevelRecords) → get nat_cmp m level ≡ Some x → TellSame x y → AllTellSame m n
  told_same x there same = record {
    last = alike (told_in (λ z. z.last)) (Some x) there same.last;
    records = alike (told_in (λ z. z.records)) (Some x) there same.records;
    numbers = λ l owner. alike (λ o. or_none (place_in o owner)) (Some x) there (same.numbers owner) l;
    lasts = lasts;
  }

  -- a level that was not there, and that tells nothing
  pub told_nothing : get nat_cmp m level ≡ None → y.last ≡ 0 → y.records ≡ 0 → ((owner : List ℕ) → numbers_of y owner ≡ no_numbers) → AllTellSame m n
  told_nothing none last records numbers = record {
    last = alike (told_in (λ z. z.last)) None none last;
    records = alike (told_in (λ z. z.records)) None none records;
    numbers = λ l owner. alike (λ o. or_none (place_in o owner)) None none (numbers owner) l;
    lasts = lasts;
  }

-- one change after another
pub told_twice : (a b c : Levels) → AllTellSame a b → AllTellSame b c → AllTellSame a c
told_twice a b c first second = record {
  last = λ l. second.last l ∙ first.last l;
  records = λ l. second.records l ∙ first.records l;
  numbers = λ l owner. second.numbers l owner ∙ first.numbers l owner;
  lasts = second.lasts ∙ first.lasts;
}
