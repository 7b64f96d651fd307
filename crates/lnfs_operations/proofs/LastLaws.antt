-- Whatever COMPOUND is served, no last number of a level falls, and opens stay what they are.
use Rattle.std.proofs.Common.{◌++◌, ℕ, Bool, true, false, cond, List, [], ◌∷◌, Some, None}
use Rattle.std.specs.Prelude.{◌==◌}
use Rattle.lnfs_calipso.specs.Label.{IsPreorderWithBottom}
use Rattle.lnfs_arguments.specs.declared.types.Op.{Op}
use Rattle.lnfs_arguments.specs.declared.types.Op.TheVariants as ops
use Rattle.lnfs_arguments.specs.declared.types.Compound.{Compound}
use Rattle.lnfs_arguments.specs.declared.statuses.TheConstants.{NFS4ERR_MINOR_VERS_MISMATCH}
use Rattle.lnfs_results.specs.declared.types.OpResult.{OpResult}
use Rattle.lnfs_world.specs.World.{World}
use Rattle.lnfs_world.specs.Outcome.{Site, Place, Outcome, IsFootprint, done_to}
use Rattle.lnfs_world.specs.Tame.{Tame}
use Rattle.lnfs_world.specs.Lawful.{Deed, deed_of}
use Rattle.lnfs_world.specs.Both.{Both, both_seen, BothStand, on_world}
use Rattle.lnfs_world.proofs.Tamed.{tame_itself, tame_through, tamed_all}
use Rattle.lnfs_world.proofs.Within.{within_all}
use Rattle.lnfs_operations.specs.declared.Gate.TheVariants as gates
use Rattle.lnfs_operations.specs.Admission.{admission}
use Rattle.lnfs_operations.specs.Extra.{Extra, AreLawful, further_deed}
use Rattle.lnfs_operations.specs.Sequence.{Sent}
use Rattle.lnfs_operations.specs.Served.{Reply, Nowhere, row, row_in, further_reply, operation}
use Rattle.lnfs_operations.specs.SlotRule.{run_behind, run_all, result_of, keep_in, served}
use Rattle.lnfs_operations.proofs.Once.{admitted_any}
use Rattle.lnfs_operations.proofs.ServedLaws.{row_footprint, operation_lawful}
use Rattle.lnfs_operations.proofs.SlotRules.{followed_any, all_stand, keep_footprint}

-- the changes that a subject may make are tame
within_tame : {A : Type 0} (dom : ℕ → ℕ → Bool) (p : Place) (w : World) (o : Outcome A) → IsFootprint dom p w o → Tame w (done_to w o)
within_tame dom p w o is = tamed_all dom p.subject o.changes w (within_all dom p.subject o.changes w is.within)

module _ (X : Extra) (owed : AreLawful X) (site : Site) (lattice : IsPreorderWithBottom site.dom) (sent : Sent) (c : Compound) where
  abbrev Tamed : Both X.Row → Both X.Row → Type 0
  Tamed b v = Tame b.world v.world

  chosen_tame : (b : Bool) (x y : Deed Reply (Both X.Row)) (p : Place) (a : Both X.Row) → Tamed a (x p a).state → Tamed a (y p a).state → Tamed a (cond b x y p a).state
  chosen_tame true x y p a r t = r
  chosen_tame false x y p a r t = t

  table_tame : (op : Op) (p : Place) (b : Both X.Row) → BothStand X.Fact site.dom p b → Tamed b (on_world (deed_of (row site sent op)) p b).state
  table_tame op p b stands = within_tame site.dom p b.world (row site sent op p b.world) (row_footprint site lattice sent op p b.world stands.world)

  row_in_tame : (op : Op) (p : Place) (b : Both X.Row) → BothStand X.Fact site.dom p b → Tamed b (row_in X site sent op p b).state
  row_in_tame (ops.Extra number arguments) p b stands =
      chosen_tame (X.grammar.serves number) (further_reply number (further_deed X site number arguments)) (on_world (deed_of (row site sent (ops.Extra number arguments)))) p b
      (owed.tame site lattice number arguments p b stands).tame (table_tame (ops.Extra number arguments) p b stands)
  row_in_tame op p b stands = table_tame op p b stands

  operation_tame : (so_far : List OpResult) (op : Op) (p : Place) (b : Both X.Row) → BothStand X.Fact site.dom p b → Tamed b (operation X site sent c so_far op p b).state
  operation_tame so_far op p b stands =
      admitted_any (λ q (v : Both X.Row). Tamed b v) op (admission X.grammar c so_far op p b.world) p b (row_in X site sent op p b) (tame_itself b.world) (row_in_tame op p b stands)

  behind_tame : (os : List Op) (so_far : List OpResult) (p : Place) (b : Both X.Row) → BothStand X.Fact site.dom p b → Tamed b (run_behind (operation X site sent c) so_far os p b).state
  unfolding run_behind
  behind_tame [] so_far p b stands = tame_itself b.world
  behind_tame (op ∷ os) so_far p b stands =
      let t = operation X site sent c so_far op p b in
      let now = operation_tame so_far op p b stands in
      followed_any site.dom (both_seen X.level_of site.dom) (BothStand X.Fact site.dom) (λ q (v : Both X.Row). Tamed b v) so_far op t.place t.state t.answer (λ results. run_behind (operation X site sent c) results os t.place t.state) now
      (λ last. tame_through b.world t.state.world _ now (behind_tame os (so_far ++ last ∷ []) t.place t.state ((operation_lawful X owed site lattice sent c so_far op).stands p b stands)))

  run_tame : (p : Place) (b : Both X.Row) → BothStand X.Fact site.dom p b → Tamed b (run_all (operation X site sent c) c p b).state
  unfolding run_all
  run_tame p b stands = at (c.minor == 2)
    where
      at : (same : Bool) → Tamed b (cond same (run_behind (operation X site sent c) [] c.ops p b) (record { place = p; state = b; results = []; denial = Some (record { place = 0; number = 0; gate = gates.Outside; status = NFS4ERR_MINOR_VERS_MISMATCH }); again = None; keeper = Nowhere })).state
      at true = behind_tame c.ops [] p b stands
      at false = tame_itself b.world

  pub served_tame : (p : Place) (b : Both X.Row) → BothStand X.Fact site.dom p b → Tamed b (served X site sent c p b).state
  unfolding served
  served_tame p b stands =
      let r = run_all (operation X site sent c) c p b in
      let there = (all_stand site.dom (both_seen X.level_of site.dom) (BothStand X.Fact site.dom) (operation X site sent c) (operation_lawful X owed site lattice sent c) c p b stands).0 in
      tame_through b.world r.state.world _ (run_tame p b stands)
      (within_tame site.dom r.place r.state.world (keep_in r.keeper (record { arguments = sent.arguments; reply = result_of c r.results r.again }) r.place r.state.world) (keep_footprint site.dom r.keeper _ r.place r.state.world there.world))
