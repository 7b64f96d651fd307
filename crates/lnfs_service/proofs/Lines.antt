-- Lines on the audit stream, one after another.
use Rattle.std.proofs.Common.{◌≡◌, ◌<◌, ◌≤◌, ◌+◌, ℕ, List, [], ◌∷◌, ◌++◌, length, map, take, drop, get_or, sym, ap, ◌∙◌, subst}
use Rattle.std.specs.Prelude.{Result, Ok, Err}
use Rattle.std.proofs.lemmas.List.{map-append, take-append-drop, take_all, take_more}
use Rattle.lnfs_stage.specs.declared.stop.Stop.{Stop}
use Rattle.lnfs_stage.specs.declared.stop.Stop.TheVariants.{Memory}
use Rattle.lnfs_stage.specs.Seen.{Seen}
use Rattle.lnfs_stage.specs.Writes.{Write, to_audit}
use Rattle.lnfs_stage.specs.Due.{written}
use Rattle.lnfs_stage.specs.Does.{Does}
use Rattle.lnfs_stage.proofs.Doing.{does_first, does_then, does_short, as_value}

module _ {X : Type 0} (text : X → List ℕ) (items : List X) (n : ℕ) where
  abbrev lines : List X → List Write
  lines xs = map to_audit (map text xs)

  lines_join : (xs ys : List X) → lines (xs ++ ys) ≡ lines xs ++ lines ys
  lines_join xs ys = ap (map to_audit) (map-append text xs ys) ∙ map-append to_audit (map text xs) (map text ys)

  lines_cut : (k : ℕ) → lines (take k items) ++ lines (drop k items) ≡ lines items
  lines_cut k = sym (lines_join (take k items) (drop k items)) ∙ ap lines (take-append-drop k items)

  lines_more : (item : X) → n < length items → item ≡ get_or items n item → lines (take (n + 1) items) ≡ lines (take n items) ++ to_audit (text item) ∷ []
  lines_more item less is = ap lines (take_more items n item less ∙ ap (λ x. take n items ++ x ∷ []) (sym is)) ∙ lines_join (take n items) (item ∷ [])

  module _ {r s : Seen} (p : Does {T = Unit {0}} (Ok tt) r s (written (lines (take n items)))) where
    -- so many were written, and there was no memory for the next
    pub lines_short : {T : Type 0} {result : Result T Stop} → result ≡ Err Memory → Does result r s (written (lines items))
    lines_short {T} {result} is = subst (λ (ws : List Write). Does result r s (written ws)) (lines_cut n) (does_then tt (written (lines (take n items))) (written (lines (drop n items))) p (does_short s (written (lines (drop n items))) is))

    -- all of them were
    pub lines_whole : length items ≤ n → Does {T = Unit {0}} (Ok tt) r s (written (lines items))
    lines_whole all = subst (λ (xs : List X). Does {T = Unit {0}} (Ok tt) r s (written (lines xs))) (take_all n items all) p

    module _ (item : X) (less : n < length items) (is : item ≡ get_or items n item) {t : Seen} where
      -- the next one, of which a front may have been written
      with_next : {S : Type 0} {put : Result S Stop} → Does put s t (written (to_audit (text item) ∷ [])) → Does put r t (written (lines (take (n + 1) items)))
      with_next {S} {put} q = subst (λ (ws : List Write). Does put r t (written ws)) (sym (lines_more item less is)) (does_then tt (written (lines (take n items))) (written (to_audit (text item) ∷ [])) p q)

      pub lines_next : {S : Type 0} (value : S) → Does {T = S} (Ok value) s t (written (to_audit (text item) ∷ [])) → Does {T = Unit {0}} (Ok tt) r t (written (lines (take (n + 1) items)))
      lines_next value q = as_value value tt (with_next q)

      pub lines_stop : {S T : Type 0} (stop : Stop) {result : Result T Stop} → result ≡ Err stop → Does {T = S} (Err stop) s t (written (to_audit (text item) ∷ [])) → Does result r t (written (lines items))
      lines_stop stop {result} e q = subst (λ (ws : List Write). Does result r t (written ws)) (lines_cut (n + 1)) (does_first stop (written (lines (take (n + 1) items))) (written (lines (drop (n + 1) items))) (with_next q) e)
