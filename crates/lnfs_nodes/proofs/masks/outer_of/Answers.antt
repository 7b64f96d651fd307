use Rattle.std.proofs.Common.{◌≡◌, ℕ, Bool, true, false, not, List, [], ◌∷◌, eqb, refl, ap, sym, ◌∙◌}
use Rattle.std.specs.Prelude.{◌&&◌, ◌||◌, ◌==◌}
use Rattle.std.specs.List.{list_any}
use Rattle.std.proofs.lemmas.Bool.{eqb-true}
use Rattle.lnfs_attrs.specs.declared.bitmap.Bitmap.{Bitmap}
use Rattle.lnfs_attrs.specs.Bitmaps.{has_attr}
use Rattle.lnfs_attrs.specs.Attributes.{table, inner_in, is_inner, is_listed, is_answered}
use Rattle.lnfs_operations.specs.Shown.{asks_inner, bitmap_of}
use Rattle.lnfs_nodes.specs.Masks.{answered_mask}
use Rattle.lnfs_nodes.proofs.masks.outer_of.Goals as goal

-- a number among others of which none passes a test
fails : (test : ℕ → Bool) (ns : List ℕ) (n : ℕ) → list_any test ns ≡ false → list_any (λ m. m == n) ns ≡ true → test n ≡ false
fails test [] n none is = absurd cc
fails test (m ∷ ns) n none is = at (λ rest more. fails test ns n rest more) (m == n) refl (left (test m) (list_any test ns) none) (right (test m) (list_any test ns) none) is
  where
    left : (a b : Bool) → (a || b) ≡ false → a ≡ false
    left true b e = e
    left false b e = refl

    right : (a b : Bool) → (a || b) ≡ false → b ≡ false
    right true b e = absurd cc
    right false b e = e

    at : (list_any test ns ≡ false → list_any (λ m. m == n) ns ≡ true → test n ≡ false) → (same : Bool) → (m == n) ≡ same → test m ≡ false → list_any test ns ≡ false → (same || list_any (λ m. m == n) ns) ≡ true → test n ≡ false
    at later true here first rest is = ap test (sym (eqb-true m n here)) ∙ first
    at later false there first rest is = later rest is

-- where no inner attribute is asked, each that is asked is answered
either : (asked inner : Bool) → (inner ≡ true → asked ≡ false) → (asked && true) ≡ (asked && not inner)
either true true none = absurd (no (none refl))
  where
    no : true ≡ false → ⊥
    no e = absurd cc
either true false none = refl
either false inner none = refl

each : (asked : Bitmap) → asks_inner asked ≡ false → (n : ℕ) → is_answered asked true n ≡ is_answered asked false n
unfolding is_inner
each asked none n = either (has_attr asked n) (is_inner n) (fails (λ n. has_attr asked n) (inner_in table) n none)

same : (asked : Bitmap) → asks_inner asked ≡ false → answered_mask asked true ≡ answered_mask asked false
same asked none = λ i. bitmap_of (λ n. is_listed n && each asked none n i)

pub returns-else-inner : goal.returns-else-inner
returns-else-inner c = c.requires.whole ∙ same c.args.asked.now (sym c.requires.asks ∙ c.if-inner.false)
