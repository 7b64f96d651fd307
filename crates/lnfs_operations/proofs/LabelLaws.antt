-- A COMPOUND that is served lets labels go up alone.
use Rattle.std.proofs.Common.{◌≡◌, ℕ, Bool, true, false, cond, List, [], ◌∷◌, ◌++◌, Some, None, subst, sym}
use Rattle.std.specs.Prelude.{◌==◌}
use Rattle.lnfs_calipso.specs.Label.{IsPreorderWithBottom}
use Rattle.lnfs_arguments.specs.declared.types.Op.{Op}
use Rattle.lnfs_arguments.specs.declared.types.Op.TheVariants as ops
use Rattle.lnfs_arguments.specs.declared.types.Compound.{Compound}
use Rattle.lnfs_arguments.specs.declared.statuses.TheConstants.{NFS4ERR_MINOR_VERS_MISMATCH}
use Rattle.lnfs_results.specs.declared.types.OpResult.{OpResult}
use Rattle.lnfs_world.specs.World.{World}
use Rattle.lnfs_world.specs.Outcome.{Place, Site}
use Rattle.lnfs_world.specs.Lawful.{Deed, deed_of}
use Rattle.lnfs_world.specs.Both.{Both, both_seen, BothStand, on_world}
use Rattle.lnfs_world.specs.Tame.{Tame}
use Rattle.lnfs_world.proofs.Labels.{Raised, given_later, raised_itself, raised_through, act_raised}
use Rattle.lnfs_operations.specs.declared.Gate.TheVariants as gates
use Rattle.lnfs_operations.specs.Sequence.{Sent}
use Rattle.lnfs_operations.specs.Extra.{Untouched, Extra, AreLawful, further_deed}
use Rattle.lnfs_operations.specs.Admission.{admission}
use Rattle.lnfs_operations.specs.Served.{Reply, Nowhere, row, row_in, further_reply, operation}
use Rattle.lnfs_operations.specs.SlotRule.{run_behind, run_all, result_of, keep_in, served}
use Rattle.lnfs_operations.proofs.ServedLaws.{row_footprint, operation_lawful}
use Rattle.lnfs_operations.proofs.SlotRules.{followed_any, all_stand, keep_footprint}
use Rattle.lnfs_operations.proofs.Once.{admitted_any}

-- where each label stays, and what is new has an identifier that wasn't given
untouched_raised : (dom : ℕ → ℕ → Bool) → IsPreorderWithBottom dom → (a b : World) → Untouched a b → Tame a b → Raised dom a b
untouched_raised dom lattice a b same tame = record {
  labels = record {
    up = λ i before after was is. subst (λ l. dom l before ≡ true) (sym (same.labels i before after was is)) (lattice.reflexive before);
    new = same.new;
  };
  given = given_later a b tame;
}

module _ (X : Extra) (owed : AreLawful X) (site : Site) (lattice : IsPreorderWithBottom site.dom) (sent : Sent) (c : Compound) where
  abbrev Rise : Both X.Row → Both X.Row → Type 0
  Rise b v = Raised site.dom b.world v.world

  chosen_raised : (b : Bool) (x y : Deed Reply (Both X.Row)) (p : Place) (a : Both X.Row) → Rise a (x p a).state → Rise a (y p a).state → Rise a (cond b x y p a).state
  chosen_raised true x y p a r t = r
  chosen_raised false x y p a r t = t

  table_raised : (op : Op) (p : Place) (b : Both X.Row) → BothStand X.Fact site.dom p b → Rise b (on_world (deed_of (row site sent op)) p b).state
  table_raised op p b stands = act_raised site.dom lattice (row site sent op) (row_footprint site lattice sent op) p b.world stands.world

  row_in_raised : (op : Op) (p : Place) (b : Both X.Row) → BothStand X.Fact site.dom p b → Rise b (row_in X site sent op p b).state
  row_in_raised (ops.Extra number arguments) p b stands =
      let tame = owed.tame site lattice number arguments p b stands in
      chosen_raised (X.grammar.serves number) (further_reply number (further_deed X site number arguments)) (on_world (deed_of (row site sent (ops.Extra number arguments)))) p b
      (untouched_raised site.dom lattice b.world _ tame.untouched tame.tame) (table_raised (ops.Extra number arguments) p b stands)
  row_in_raised op p b stands = table_raised op p b stands

  pub operation_raised : (so_far : List OpResult) (op : Op) (p : Place) (b : Both X.Row) → BothStand X.Fact site.dom p b → Rise b (operation X site sent c so_far op p b).state
  operation_raised so_far op p b stands =
      admitted_any (λ q (v : Both X.Row). Rise b v) op (admission X.grammar c so_far op p b.world) p b (row_in X site sent op p b) (raised_itself site.dom lattice b.world) (row_in_raised op p b stands)

  pub behind_raised : (os : List Op) (so_far : List OpResult) (p : Place) (b : Both X.Row) → BothStand X.Fact site.dom p b → Rise b (run_behind (operation X site sent c) so_far os p b).state
  unfolding run_behind
  behind_raised [] so_far p b stands = raised_itself site.dom lattice b.world
  behind_raised (op ∷ os) so_far p b stands =
      let t = operation X site sent c so_far op p b in
      let now = operation_raised so_far op p b stands in
      followed_any site.dom (both_seen X.level_of site.dom) (BothStand X.Fact site.dom) (λ q (v : Both X.Row). Rise b v) so_far op t.place t.state t.answer (λ results. run_behind (operation X site sent c) results os t.place t.state) now
      (λ last. raised_through site.dom lattice b.world t.state.world _ stands.world.facts now (behind_raised os (so_far ++ last ∷ []) t.place t.state ((operation_lawful X owed site lattice sent c so_far op).stands p b stands)))

  pub run_raised : (p : Place) (b : Both X.Row) → BothStand X.Fact site.dom p b → Rise b (run_all (operation X site sent c) c p b).state
  unfolding run_all
  run_raised p b stands = at (c.minor == 2)
    where
      at : (same : Bool) → Rise b (cond same (run_behind (operation X site sent c) [] c.ops p b) (record { place = p; state = b; results = []; denial = Some (record { place = 0; number = 0; gate = gates.Outside; status = NFS4ERR_MINOR_VERS_MISMATCH }); again = None; keeper = Nowhere })).state
      at true = behind_raised c.ops [] p b stands
      at false = raised_itself site.dom lattice b.world

  pub served_raised : (p : Place) (b : Both X.Row) → BothStand X.Fact site.dom p b → Rise b (served X site sent c p b).state
  unfolding served
  served_raised p b stands =
      let r = run_all (operation X site sent c) c p b in
      let there = (all_stand site.dom (both_seen X.level_of site.dom) (BothStand X.Fact site.dom) (operation X site sent c) (operation_lawful X owed site lattice sent c) c p b stands).0 in
      raised_through site.dom lattice b.world r.state.world _ stands.world.facts (run_raised p b stands)
      (act_raised site.dom lattice (keep_in r.keeper (record { arguments = sent.arguments; reply = result_of c r.results r.again })) (keep_footprint site.dom r.keeper _) r.place r.state.world there.world)
