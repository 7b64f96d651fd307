-- Both laws of erasure for a COMPOUND under the slot rule.
use Rattle.std.proofs.Common.{◌≡◌, ℕ, Bool, true, false, cond, List, [], ◌∷◌, ◌++◌, Option, Some, None, refl, sym, ap, ◌∙◌, subst}
use Rattle.std.specs.Prelude.{◌==◌}
use Rattle.lnfs_calipso.specs.Label.{IsPreorderWithBottom}
use Rattle.lnfs_arguments.specs.declared.types.Op.{Op}
use Rattle.lnfs_arguments.specs.declared.types.Compound.{Compound}
use Rattle.lnfs_results.specs.declared.types.OpResult.{OpResult}
use Rattle.lnfs_world.specs.World as world
use Rattle.lnfs_world.specs.Outcome.{Site, Place, View, Footprint}
use Rattle.lnfs_world.specs.Lawful.{Deed, Lawful, deed_of}
use Rattle.lnfs_world.specs.Both.{Both, both_seen, BothStand, on_world}
use Rattle.lnfs_world.proofs.Beside.{on_world_lawful}
use Rattle.lnfs_operations.specs.Chain.{Refusal}
use Rattle.lnfs_operations.specs.Sequence.{Sent}
use Rattle.lnfs_operations.specs.Extra.{Extra, AreLawful}
use Rattle.lnfs_operations.specs.Served.{Keeper, Nowhere, Slot, Record, Reply, Own, Kept, operation}
use Rattle.lnfs_operations.specs.SlotRule.{Ran, kept_by, own_reply, followed, run_behind, run_all, result_of, keep_in, kept_after, served}
use Rattle.lnfs_operations.proofs.Chains.{unchanged_footprint}
use Rattle.lnfs_operations.proofs.KeepingLaws.{keep_result_view, keep_result_footprint, keep_created_view, keep_created_footprint}
use Rattle.lnfs_operations.proofs.ServedLaws.{operation_lawful}

-- ---- the operations in order, over any of them that are lawful

module _ {S : Type 0} (dom : ℕ → ℕ → Bool) (seen_by : ℕ → S → S) (Standing : Place → S → Type 0) where
  -- what two runs have alike
  pub record Alike (level : ℕ) (a b : Ran S) : Type 0 where
    pub place : a.place ≡ b.place
    pub results : a.results ≡ b.results
    pub denial : a.denial ≡ b.denial
    pub again : a.again ≡ b.again
    pub keeper : a.keeper ≡ b.keeper
    pub seen : seen_by level a.state ≡ seen_by level b.state

  kept_alike : (level : ℕ) (keeper : Keeper) (r t : Ran S) → Alike level r t → Alike level (kept_by keeper r) (kept_by keeper t)
  kept_alike level Nowhere r t e = e
  kept_alike level (Slot slot sequence) r t e = record { place = e.place; results = e.results; denial = e.denial; again = e.again; keeper = refl; seen = e.seen }
  kept_alike level (Record client) r t e = record { place = e.place; results = e.results; denial = e.denial; again = e.again; keeper = refl; seen = e.seen }

  own_alike : (level : ℕ) (so_far : List OpResult) (op : Op) (p : Place) (a b : S) (result : OpResult) (refusal : Option Refusal) (keeper : Keeper) (f g : List OpResult → Ran S) → seen_by level a ≡ seen_by level b → ((rs : List OpResult) → Alike level (f rs) (g rs)) → Alike level (own_reply so_far op p a result refusal keeper f) (own_reply so_far op p b result refusal keeper g)
  own_alike level so_far op p a b result None keeper f g e rest = kept_alike level keeper _ _ (rest (so_far ++ result ∷ []))
  own_alike level so_far op p a b result (Some why) keeper f g e rest = record { place = refl; results = refl; denial = refl; again = refl; keeper = refl; seen = e }

  reply_alike : (level : ℕ) (so_far : List OpResult) (op : Op) (p : Place) (a b : S) (x : Reply) (f g : List OpResult → Ran S) → seen_by level a ≡ seen_by level b → ((rs : List OpResult) → Alike level (f rs) (g rs)) → Alike level (followed so_far op p a x f) (followed so_far op p b x g)
  reply_alike level so_far op p a b (Own own keeper) f g e rest = own_alike level so_far op p a b own.result own.refusal keeper f g e rest
  reply_alike level so_far op p a b (Kept reply) f g e rest = record { place = refl; results = refl; denial = refl; again = refl; keeper = refl; seen = e }

  followed_alike : (level : ℕ) (so_far : List OpResult) (op : Op) (p q : Place) (a b : S) (x y : Reply) (f g : List OpResult → Ran S) → p ≡ q → x ≡ y → seen_by level a ≡ seen_by level b → ((rs : List OpResult) → Alike level (f rs) (g rs)) → Alike level (followed so_far op p a x f) (followed so_far op q b y g)
  followed_alike level so_far op p q a b x y f g moved same e rest =
      subst (λ z. Alike level (followed so_far op p a x f) (followed so_far op q b z g)) same (subst (λ z. Alike level (followed so_far op p a x f) (followed so_far op z b x g)) moved (reply_alike level so_far op p a b x f g e rest))

  -- what holds where an operation leaves it, and where those behind it do, holds at the end
  kept_any : (P : Place → S → Type 0) (keeper : Keeper) (r : Ran S) → P r.place r.state → P (kept_by keeper r).place (kept_by keeper r).state
  kept_any P Nowhere r is = is
  kept_any P (Slot slot sequence) r is = is
  kept_any P (Record client) r is = is

  own_any : (P : Place → S → Type 0) (so_far : List OpResult) (op : Op) (p : Place) (a : S) (result : OpResult) (refusal : Option Refusal) (keeper : Keeper) (f : List OpResult → Ran S) → P p a → ((r : OpResult) → P (f (so_far ++ r ∷ [])).place (f (so_far ++ r ∷ [])).state) → P (own_reply so_far op p a result refusal keeper f).place (own_reply so_far op p a result refusal keeper f).state
  own_any P so_far op p a result None keeper f now later = kept_any P keeper (f (so_far ++ result ∷ [])) (later result)
  own_any P so_far op p a result (Some why) keeper f now later = now

  pub followed_any : (P : Place → S → Type 0) (so_far : List OpResult) (op : Op) (p : Place) (a : S) (x : Reply) (f : List OpResult → Ran S) → P p a → ((r : OpResult) → P (f (so_far ++ r ∷ [])).place (f (so_far ++ r ∷ [])).state) → P (followed so_far op p a x f).place (followed so_far op p a x f).state
  followed_any P so_far op p a (Own own keeper) f now later = own_any P so_far op p a own.result own.refusal keeper f now later
  followed_any P so_far op p a (Kept reply) f now later = now

  module _ (deeds : List OpResult → Op → Deed Reply S) (laws : (so_far : List OpResult) (op : Op) → Lawful dom seen_by Standing (deeds so_far op)) where
    behind_alike : (level : ℕ) (os : List Op) (so_far : List OpResult) (p : Place) (a b : S) → dom level p.subject ≡ true → Standing p a → Standing p b → seen_by level a ≡ seen_by level b → Alike level (run_behind deeds so_far os p a) (run_behind deeds so_far os p b)
    unfolding run_behind
    behind_alike level [] so_far p a b above sa sb e = record { place = refl; results = refl; denial = refl; again = refl; keeper = refl; seen = e }
    behind_alike level (op ∷ os) so_far p a b above sa sb e =
        let law = laws so_far op in
        let x = deeds so_far op p a in
        let y = deeds so_far op p b in
        let later = law.seen level p a b above sa sb e in
        let moved = law.place level p a b above sa sb e in
        followed_alike level so_far op x.place y.place x.state y.state x.answer y.answer _ _ moved (law.answer level p a b above sa sb e) later
        (λ rs. subst (λ q. Alike level (run_behind deeds rs os x.place x.state) (run_behind deeds rs os q y.state)) moved
        (behind_alike level os rs x.place x.state y.state (ap (dom level) (law.subject p a sa) ∙ above) (law.stands p a sa) (subst (λ q. Standing q y.state) (sym moved) (law.stands p b sb)) later))

    behind_stays : (level : ℕ) (os : List Op) (so_far : List OpResult) (p : Place) (a : S) → dom level p.subject ≡ false → Standing p a → seen_by level (run_behind deeds so_far os p a).state ≡ seen_by level a
    unfolding run_behind
    behind_stays level [] so_far p a apart stands = refl
    behind_stays level (op ∷ os) so_far p a apart stands =
        let law = laws so_far op in
        let t = deeds so_far op p a in
        let now = law.unseen level p a apart stands in
        followed_any (λ q v. seen_by level v ≡ seen_by level a) so_far op t.place t.state t.answer (λ rs. run_behind deeds rs os t.place t.state) now
        (λ r. behind_stays level os (so_far ++ r ∷ []) t.place t.state (ap (dom level) (law.subject p a stands) ∙ apart) (law.stands p a stands) ∙ now)

    -- at the end, what has to stand stands, for the same subject
    pub behind_stands : (os : List Op) (so_far : List OpResult) (p : Place) (a : S) → Standing p a → Standing (run_behind deeds so_far os p a).place (run_behind deeds so_far os p a).state × ((run_behind deeds so_far os p a).place.subject ≡ p.subject)
    unfolding run_behind
    behind_stands [] so_far p a stands = (stands, refl)
    behind_stands (op ∷ os) so_far p a stands =
        let law = laws so_far op in
        let t = deeds so_far op p a in
        followed_any (λ q v. Standing q v × (q.subject ≡ p.subject)) so_far op t.place t.state t.answer (λ rs. run_behind deeds rs os t.place t.state) (law.stands p a stands, law.subject p a stands)
        (λ r. let rest = behind_stands os (so_far ++ r ∷ []) t.place t.state (law.stands p a stands) in (rest.0, rest.1 ∙ law.subject p a stands))

    chosen_alike : (level : ℕ) (b : Bool) (r t x y : Ran S) → Alike level r t → Alike level x y → Alike level (cond b r x) (cond b t y)
    chosen_alike level true r t x y p q = p
    chosen_alike level false r t x y p q = q

    chosen_any : (P : Ran S → Type 0) (b : Bool) (r x : Ran S) → P r → P x → P (cond b r x)
    chosen_any P true r x p q = p
    chosen_any P false r x p q = q

    pub all_alike : (level : ℕ) (c : Compound) (p : Place) (a b : S) → dom level p.subject ≡ true → Standing p a → Standing p b → seen_by level a ≡ seen_by level b → Alike level (run_all deeds c p a) (run_all deeds c p b)
    unfolding run_all
    all_alike level c p a b above sa sb e = chosen_alike level (c.minor == 2) _ _ _ _ (behind_alike level c.ops [] p a b above sa sb e) (record { place = refl; results = refl; denial = refl; again = refl; keeper = refl; seen = e })

    pub all_stay : (level : ℕ) (c : Compound) (p : Place) (a : S) → dom level p.subject ≡ false → Standing p a → seen_by level (run_all deeds c p a).state ≡ seen_by level a
    unfolding run_all
    all_stay level c p a apart stands = chosen_any (λ r. seen_by level r.state ≡ seen_by level a) (c.minor == 2) _ _ (behind_stays level c.ops [] p a apart stands) refl

    pub all_stand : (c : Compound) (p : Place) (a : S) → Standing p a → Standing (run_all deeds c p a).place (run_all deeds c p a).state × ((run_all deeds c p a).place.subject ≡ p.subject)
    unfolding run_all
    all_stand c p a stands = chosen_any (λ r. Standing r.place r.state × (r.place.subject ≡ p.subject)) (c.minor == 2) _ _ (behind_stands c.ops [] p a stands) (stands, refl)

-- ---- the keeping of the result

keep_view : (dom : ℕ → ℕ → Bool) → IsPreorderWithBottom dom → (keeper : Keeper) (kept : world.Kept) → View dom (keep_in keeper kept)
keep_view dom lattice Nowhere kept p a b sa sb e = refl
keep_view dom lattice (Slot slot sequence) kept p a b sa sb e = keep_result_view dom lattice slot sequence kept p a b sa sb e
keep_view dom lattice (Record client) kept p a b sa sb e = keep_created_view dom lattice client kept p a b sa sb e

pub keep_footprint : (dom : ℕ → ℕ → Bool) (keeper : Keeper) (kept : world.Kept) → Footprint dom (keep_in keeper kept)
keep_footprint dom Nowhere kept p w stands = unchanged_footprint dom p w stands tt
keep_footprint dom (Slot slot sequence) kept p w stands = keep_result_footprint dom slot sequence kept p w stands
keep_footprint dom (Record client) kept p w stands = keep_created_footprint dom client kept p w stands

module _ (X : Extra) (owed : AreLawful X) (site : Site) (lattice : IsPreorderWithBottom site.dom) (sent : Sent) (c : Compound) where
  -- the keeping of a result, as an operation beside further rows
  abbrev keep : Keeper → List ℕ → Deed (Unit {0}) (Both X.Row)
  keep keeper result = on_world (deed_of (keep_in keeper (record { arguments = sent.arguments; reply = result })))

  keep_lawful : (keeper : Keeper) (result : List ℕ) → Lawful site.dom (both_seen X.level_of site.dom) (BothStand X.Fact site.dom) (keep keeper result)
  keep_lawful keeper result = on_world_lawful X.level_of X.Fact owed.bears site.dom lattice _ (keep_view site.dom lattice keeper _) (keep_footprint site.dom keeper _)

  abbrev ran : Place → Both X.Row → Ran (Both X.Row)
  ran p b = run_all (operation X site sent c) c p b

  alike : (level : ℕ) (p : Place) (a b : Both X.Row) → site.dom level p.subject ≡ true → BothStand X.Fact site.dom p a → BothStand X.Fact site.dom p b → both_seen X.level_of site.dom level a ≡ both_seen X.level_of site.dom level b → Alike site.dom (both_seen X.level_of site.dom) (BothStand X.Fact site.dom) level (ran p a) (ran p b)
  alike level p a b above sa sb e = all_alike site.dom (both_seen X.level_of site.dom) (BothStand X.Fact site.dom) (operation X site sent c) (operation_lawful X owed site lattice sent c) level c p a b above sa sb e

  stand : (p : Place) (a : Both X.Row) → BothStand X.Fact site.dom p a → BothStand X.Fact site.dom (ran p a).place (ran p a).state × ((ran p a).place.subject ≡ p.subject)
  stand p a stands = all_stand site.dom (both_seen X.level_of site.dom) (BothStand X.Fact site.dom) (operation X site sent c) (operation_lawful X owed site lattice sent c) c p a stands

  abbrev result : Ran (Both X.Row) → List ℕ
  result r = result_of c r.results r.again

  -- two runs that are alike keep alike
  keeps_alike : (level : ℕ) (r t : Ran (Both X.Row)) → site.dom level r.place.subject ≡ true → BothStand X.Fact site.dom r.place r.state → BothStand X.Fact site.dom t.place t.state → Alike site.dom (both_seen X.level_of site.dom) (BothStand X.Fact site.dom) level r t →
      ((keep r.keeper (result r) r.place r.state).place ≡ (keep t.keeper (result t) t.place t.state).place)
      × (both_seen X.level_of site.dom level (keep r.keeper (result r) r.place r.state).state ≡ both_seen X.level_of site.dom level (keep t.keeper (result t) t.place t.state).state)
  keeps_alike level r t above sr st e =
      let law = keep_lawful r.keeper (result r) in
      let there : BothStand X.Fact site.dom r.place t.state = subst (λ q. BothStand X.Fact site.dom q t.state) (sym e.place) st in
      let same : result r ≡ result t = (λ i. result_of c (e.results i) (e.again i)) in (
        law.place level r.place r.state t.state above sr there e.seen ∙ (λ i. (keep (e.keeper i) (same i) (e.place i) t.state).place),
        law.seen level r.place r.state t.state above sr there e.seen ∙ (λ i. both_seen X.level_of site.dom level (keep (e.keeper i) (same i) (e.place i) t.state).state),
      )

  answer_alike : (level : ℕ) (r t : Ran (Both X.Row)) → Alike site.dom (both_seen X.level_of site.dom) (BothStand X.Fact site.dom) level r t → (kept_after sent c r).answer ≡ (kept_after sent c t).answer
  answer_alike level r t e = λ i. record { result = result_of c (e.results i) (e.again i); denial = e.denial i }

  pub served_lawful : Lawful site.dom (both_seen X.level_of site.dom) (BothStand X.Fact site.dom) (served X site sent c)
  unfolding served
  served_lawful = record {
    answer = λ level p a b above sa sb e. answer_alike level (ran p a) (ran p b) (alike level p a b above sa sb e);
    place = λ level p a b above sa sb e. (keeps_alike level (ran p a) (ran p b) (ap (site.dom level) (stand p a sa).1 ∙ above) (stand p a sa).0 (stand p b sb).0 (alike level p a b above sa sb e)).0;
    seen = λ level p a b above sa sb e. (keeps_alike level (ran p a) (ran p b) (ap (site.dom level) (stand p a sa).1 ∙ above) (stand p a sa).0 (stand p b sb).0 (alike level p a b above sa sb e)).1;
    unseen = λ level p a apart stands.
        (keep_lawful (ran p a).keeper (result (ran p a))).unseen level (ran p a).place (ran p a).state (ap (site.dom level) (stand p a stands).1 ∙ apart) (stand p a stands).0
        ∙ all_stay site.dom (both_seen X.level_of site.dom) (BothStand X.Fact site.dom) (operation X site sent c) (operation_lawful X owed site lattice sent c) level c p a apart stands;
    stands = λ p a stands. (keep_lawful (ran p a).keeper (result (ran p a))).stands (ran p a).place (ran p a).state (stand p a stands).0;
    subject = λ p a stands. (keep_lawful (ran p a).keeper (result (ran p a))).subject (ran p a).place (ran p a).state (stand p a stands).0 ∙ (stand p a stands).1;
  }
