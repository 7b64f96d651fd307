-- What is told of the layers after a change of one.
use Rattle.std.proofs.Common.{◌≡◌, ℕ, Bool, true, false, cond, ◌&&◌, Option, Some, None, refl, ap, ◌∙◌, arith}
use Rattle.std.specs.Prelude.{◌<◌, ◌==◌, IsSome}
use Rattle.std.specs.Ordering.{is_eq, nat_cmp}
use Rattle.std.specs.BTreeMap.{BTreeMap, UpdatesBy, get}
use Rattle.std.proofs.lemmas.Bool.Decides.{nat_tests}
use Rattle.lnfs_world.specs.World.{Id, id_order, same_id}
use Rattle.lnfs_world.proofs.Keys.{id_same}
use Rattle.lnfs_counts.proofs.Entries.{ids_same}
use Rattle.lnfs_open.specs.declared.tallies.Layer.{Layer}
use Rattle.lnfs_open.specs.declared.tallies.Tally.{Tally}
use Rattle.lnfs_open.specs.Listed.{id_of}
use Rattle.lnfs_open.specs.Tallies.{layer_cmp, layer_of, no_tally, tally_in}
use Rattle.lnfs_open.proofs.Places.{then_same}

levels_same : (l k : ℕ) → is_eq (nat_cmp l k) ≡ (l == k)
levels_same l k = grind (arith, nat_tests)

pub layer_same : (a b : Layer) → is_eq (layer_cmp a b) ≡ (same_id (id_of a.node) (id_of b.node) && a.level == b.level)
layer_same a b = then_same (id_order (id_of a.node) (id_of b.node)) (nat_cmp a.level b.level) ∙ (λ t. ids_same (id_of a.node) (id_of b.node) t && levels_same a.level b.level t)

pub same_layer : (a b : Layer) → (same_id (id_of a.node) (id_of b.node) && a.level == b.level) ≡ true → a ≡ b
same_layer a b is =
    let node : id_of a.node ≡ id_of b.node = id_same (id_of a.node) (id_of b.node) (grind (arith, is)) in
    let level : a.level ≡ b.level = grind (arith, nat_tests, is) in
    λ t. record { node = record { level = (node t).level; number = (node t).number }; level = level t }

-- a tally that is equal to that of no open
pub none_told : (t : Tally) → (t.opens == 0 && (t.reading == 0 && (t.writing == 0 && (t.reading_denied == 0 && t.writing_denied == 0)))) ≡ true → no_tally ≡ t
none_told t is =
    let opens : 0 ≡ t.opens = grind (arith, nat_tests, is) in
    let reading : 0 ≡ t.reading = grind (arith, nat_tests, is) in
    let writing : 0 ≡ t.writing = grind (arith, nat_tests, is) in
    let reading_denied : 0 ≡ t.reading_denied = grind (arith, nat_tests, is) in
    let writing_denied : 0 ≡ t.writing_denied = grind (arith, nat_tests, is) in
    λ i. record { opens = opens i; reading = reading i; writing = writing i; reading_denied = reading_denied i; writing_denied = writing_denied i }

-- where opens are told of, there is a row
pub told : (x : Option Tally) → 0 < (tally_in x).opens → IsSome x
told None some = absurd (omega arith)
told (Some t) some = refl

module _ (m n : BTreeMap Layer Tally) (layer : Layer) (w : Option Tally) (updates : UpdatesBy layer_cmp (layer_cmp layer) m n w) (f : Tally → Tally) (new : tally_in w ≡ f (tally_in (get layer_cmp m layer))) where
  pub tally_updated : (node : Id) (level : ℕ) → tally_in (get layer_cmp n (layer_of node level)) ≡ cond (same_id (id_of layer.node) node && layer.level == level) (f (tally_in (get layer_cmp m (layer_of node level)))) (tally_in (get layer_cmp m (layer_of node level)))
  tally_updated node level = ap tally_in (updates.0 (layer_of node level)) ∙ ap (λ b. tally_in (cond b w (get layer_cmp m (layer_of node level)))) (layer_same layer (layer_of node level)) ∙ by (same_id (id_of layer.node) node && layer.level == level) refl
    where
      by : (b : Bool) → (same_id (id_of layer.node) node && layer.level == level) ≡ b → tally_in (cond b w (get layer_cmp m (layer_of node level))) ≡ cond b (f (tally_in (get layer_cmp m (layer_of node level)))) (tally_in (get layer_cmp m (layer_of node level)))
      by true is = new ∙ ap (λ (k : Layer). f (tally_in (get layer_cmp m k))) (same_layer layer (layer_of node level) is)
      by false is = refl

cond_same : (b : Bool) (t : Tally) → cond b t t ≡ t
cond_same true t = refl
cond_same false t = refl

-- what is told alike of one layer is told alike of all
pub tally_stays : (m n : BTreeMap Layer Tally) (layer : Layer) (w : Option Tally) → UpdatesBy layer_cmp (layer_cmp layer) m n w → tally_in w ≡ tally_in (get layer_cmp m layer) → (node : Id) (level : ℕ) → tally_in (get layer_cmp n (layer_of node level)) ≡ tally_in (get layer_cmp m (layer_of node level))
tally_stays m n layer w updates same node level = tally_updated m n layer w updates (λ t. t) same node level ∙ cond_same (same_id (id_of layer.node) node && layer.level == level) (tally_in (get layer_cmp m (layer_of node level)))
