-- Operations on the world are lawful beside rows of further operations, whose fact bears what is tame.
use Rattle.std.proofs.Common.{◌≡◌, ℕ, Bool, List, refl, ap}
use Rattle.lnfs_calipso.specs.Label.{IsPreorderWithBottom}
use Rattle.lnfs_world.specs.World.{World}
use Rattle.lnfs_world.specs.Outcome.{Act, View, Footprint}
use Rattle.lnfs_world.specs.Tame.{Tame}
use Rattle.lnfs_world.specs.Lawful.{Lawful, deed_of}
use Rattle.lnfs_world.specs.Both.{Both, both_seen, BothStand, on_world}
use Rattle.lnfs_world.proofs.Lawfulness.{lawful, tame}

pub both_same : {Row : Type 0} (a b : Both Row) → a.world ≡ b.world → a.own ≡ b.own → a ≡ b
both_same a b w o = λ i. record { world = w i; own = o i }

module _ {Row : Type 0} (level_of : Row → ℕ) (Fact : World → List Row → Type 0) (bears : (a b : World) (rows : List Row) → Tame a b → Fact a rows → Fact b rows) (dom : ℕ → ℕ → Bool) (lattice : IsPreorderWithBottom dom) where
  pub on_world_lawful : {A : Type 0} (act : Act A) → View dom act → Footprint dom act → Lawful dom (both_seen level_of dom) (BothStand Fact dom) (on_world (deed_of act))
  on_world_lawful act view footprint =
      let law = lawful dom lattice act view footprint in
      record {
        answer = λ level p a b above sa sb e. law.answer level p a.world b.world above sa.world sb.world (ap (λ (x : Both Row). x.world) e);
        place = λ level p a b above sa sb e. law.place level p a.world b.world above sa.world sb.world (ap (λ (x : Both Row). x.world) e);
        seen = λ level p a b above sa sb e. both_same _ _ (law.seen level p a.world b.world above sa.world sb.world (ap (λ (x : Both Row). x.world) e)) (ap (λ (x : Both Row). x.own) e);
        unseen = λ level p a apart stands. both_same _ _ (law.unseen level p a.world apart stands.world) refl;
        stands = λ p a stands. record { world = law.stands p a.world stands.world; own = bears a.world _ a.own (tame dom lattice act view footprint p a.world stands.world) stands.own };
        subject = λ p a stands. law.subject p a.world stands.world;
      }
