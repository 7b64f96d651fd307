-- The node of a file handle: what its subject sees of it, and the places and changes that come of it.
use Rattle.std.proofs.Common.{◌≡◌, ℕ, Bool, true, false, cond, [], ◌∷◌, Option, Some, None, refl, ap, ◌∙◌, arith}
use Rattle.std.specs.Prelude.{◌==◌}
use Rattle.std.specs.Option.{option_map}
use Rattle.std.proofs.lemmas.Bool.Decides.{nat_tests}
use Rattle.lnfs_world.specs.World.{Id, Node, World, node_at, label_at}
use Rattle.lnfs_world.specs.Erased.{shrunk, erased}
use Rattle.lnfs_world.specs.Change.{Touch, apply}
use Rattle.lnfs_world.specs.Facts.{cookies_at}
use Rattle.lnfs_world.specs.Outcome.{Place, Outcome, Stands, IsFootprint, may_hold}
use Rattle.lnfs_world.proofs.Places.{place_stays}
use Rattle.lnfs_world.proofs.Seen.{node_at-id, node_at-seen, label_of-found}
use Rattle.lnfs_arguments.specs.declared.statuses.TheConstants.{NFS4ERR_STALE}
use Rattle.lnfs_operations.specs.declared.Gate.TheVariants.{Namespace}
use Rattle.lnfs_operations.specs.Chain.{Answer, refuse, where_there}
use Rattle.lnfs_operations.specs.Handles.{with_node, with_current}
use Rattle.lnfs_operations.specs.Accessed.{accessed}
use Rattle.lnfs_operations.proofs.Chains.{where_any}

-- ---- alike

-- where what is found comes to the same as what is shown of it
pub shown_alike : {X A : Type 0} (g : X → X) (found shown : X → Outcome A) (absent : Outcome A) (o : Option X) → ((x : X) → o ≡ Some x → shown (g x) ≡ found x) → where_there (option_map g o) shown absent ≡ where_there o found absent
shown_alike g found shown absent None same = refl
shown_alike g found shown absent (Some x) same = same x refl

module _ (dom : ℕ → ℕ → Bool) (p : Place) (w : World) (stands : Stands dom p w) where
  pub current_held : may_hold dom p.subject p.current ≡ true
  current_held = let place = stands.place in grind (arith, place)

  pub saved_held : may_hold dom p.subject p.saved ≡ true
  saved_held = let place = stands.place in grind (arith, place)

  -- a node that is found by its identifier, at a home that the subject dominates
  pub record IsHeld (n : Node) : Type 0 where
    pub found : node_at w.nodes n.id ≡ Some n
    pub home : dom p.subject n.id.level ≡ true

  is_held : (i : Id) (n : Node) → dom p.subject i.level ≡ true → node_at w.nodes i ≡ Some n → IsHeld n
  is_held i n above found =
      let id : n.id ≡ i = node_at-id i w.nodes n found in
      record { found = ap (node_at w.nodes) id ∙ found; home = ap (λ (j : Id). dom p.subject j.level) id ∙ above }

  pub with_node-seen : {R : Type 0} (handle : Option Id) (shown found : Node → Outcome (Answer R)) → may_hold dom p.subject handle ≡ true → ((n : Node) → IsHeld n → shown (shrunk dom p.subject n) ≡ found n) → with_node p (erased dom p.subject w) handle shown ≡ with_node p w handle found
  with_node-seen None shown found held same = refl
  with_node-seen (Some i) shown found held same =
      ap (λ o. where_there o shown (refuse p Namespace NFS4ERR_STALE)) (node_at-seen dom p.subject w i held)
      ∙ shown_alike (shrunk dom p.subject) found shown (refuse p Namespace NFS4ERR_STALE) (node_at w.nodes i) (λ n there. same n (is_held i n held there))

  -- what is found at the current file handle comes to the same as what is shown of it
  pub with_current-seen : {R : Type 0} (shown found : Node → Outcome (Answer R)) → ((n : Node) → IsHeld n → shown (shrunk dom p.subject n) ≡ found n) → with_current p (erased dom p.subject w) shown ≡ with_current p w found
  with_current-seen shown found same = with_node-seen p.current shown found current_held same

  -- ---- footprints

  pub with_node-footprint : {R : Type 0} (handle : Option Id) (found : Node → Outcome (Answer R)) → may_hold dom p.subject handle ≡ true → ((n : Node) → IsHeld n → IsFootprint dom p w (found n)) → IsFootprint dom p w (with_node p w handle found)
  with_node-footprint None found held each = record { within = refl; place = stands.place; subject = refl }
  with_node-footprint (Some i) found held each = where_any (IsFootprint dom p w) (node_at w.nodes i) found _ (λ n there. each n (is_held i n held there)) (record { within = refl; place = stands.place; subject = refl })

  pub with_current-footprint : {R : Type 0} (found : Node → Outcome (Answer R)) → ((n : Node) → IsHeld n → IsFootprint dom p w (found n)) → IsFootprint dom p w (with_current p w found)
  with_current-footprint found each = with_node-footprint p.current found current_held each

  -- another file handle, whose home the subject dominates
  pub current_footprint : {A : Type 0} (answer : A) (i : Id) → dom p.subject i.level ≡ true → IsFootprint dom p w (record { answer = answer; place = record p { current = Some i }; changes = [] })
  current_footprint answer i above = record { within = refl; place = (let place = stands.place in grind (arith, place)); subject = refl }

  pub saved_footprint : {A : Type 0} (answer : A) (i : Id) → dom p.subject i.level ≡ true → IsFootprint dom p w (record { answer = answer; place = record p { saved = Some i }; changes = [] })
  saved_footprint answer i above = record { within = refl; place = (let place = stands.place in grind (arith, place)); subject = refl }

  -- the time of access, where it is set
  pub accessed_footprint : {A : Type 0} (answer : A) (n : Node) → node_at w.nodes n.id ≡ Some n → IsFootprint dom p w (record { answer = answer; place = p; changes = accessed p n })
  accessed_footprint answer n found = at (p.subject == n.label) refl
    where
      at : (b : Bool) → (p.subject == n.label) ≡ b → IsFootprint dom p w (record { answer = answer; place = p; changes = cond b (Touch n.id (record n.inner { accessed = p.moment }) ∷ []) [] })
      at true own =
          let label : label_at w.nodes n.id ≡ Some n.label = label_of-found n.id w.nodes n found in
          let cookies : cookies_at w.nodes n.id ≡ Some n.inner.cookies = ap (option_map (λ m. m.inner.cookies)) found in
          record {
            within = grind (arith, nat_tests, own, label, cookies);
            place = place_stays dom p.subject w (apply (Touch n.id (record n.inner { accessed = p.moment })) w) (λ number there. there) (λ client number there held. held) p.client p.session p.current p.saved stands.place;
            subject = refl;
          }
      at false other = record { within = refl; place = stands.place; subject = refl }
