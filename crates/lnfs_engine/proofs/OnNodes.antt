-- An operation on nodes, by what is told of it.
use Rattle.std.proofs.Common.{◌≡◌, ℕ, List, Some, None, Ok, Err, refl, sym, ◌∙◌, subst}
use Rattle.std.specs.Prelude.{Result}
use Rattle.lnfs_arguments.specs.declared.types.Op.{Op}
use Rattle.lnfs_results.specs.declared.types.OpResult.{OpResult}
use Rattle.lnfs_results.specs.Numbered.{status_of}
use Rattle.lnfs_world.specs.World.{World}
use Rattle.lnfs_world.specs.Outcome.{Place, Outcome}
use Rattle.lnfs_world.specs.Lawful.{turn_of}
use Rattle.lnfs_operations.specs.declared.Refusal.{Refusal}
use Rattle.lnfs_operations.specs.Chain as chain
use Rattle.lnfs_operations.specs.Chain.{Answer, Done, Refused}
use Rattle.lnfs_operations.specs.Results.{failed}
use Rattle.lnfs_operations.specs.Served.{Keeper, Nowhere, Reply, success, reply_of, replied, plainly}
use Rattle.lnfs_tree.specs.declared.node.NodeId.{NodeId}
use Rattle.lnfs_nodes.specs.Trees.{refusal_of, answered, stays, goes, saves}
use Rattle.lnfs_nodes.specs.Writes.{Wrote, Writes}
use Rattle.lnfs_engine.specs.declared.place.Place as code_place
use Rattle.lnfs_engine.specs.declared.place.Keeper as code
use Rattle.lnfs_engine.specs.declared.reply.Came.{Came}
use Rattle.lnfs_engine.specs.Places.{place_of, keeper_of}
use Rattle.lnfs_engine.specs.Replies.{Acts, Says, SaysOwn, SaysWritten, own_of}
use Rattle.lnfs_engine.specs.Performs.{kept_behind, Performs}
use Rattle.lnfs_engine.specs.Nodes.{told_as, goes_to, saves_as}
use Rattle.lnfs_engine.proofs.Acting.{first_nowhere}

-- ---- what an operation comes to

module _ (op : Op) (w : World) where
  pub goes_acts : (told : OpResult) (p : code_place.Place) (found : Result NodeId Refusal) (o : Outcome (Answer (Unit {0}))) → o ≡ goes (place_of p) found →
      Acts (replied op (plainly told) o) (own_of op Nowhere (told_as (λ i. told) found)) (place_of (goes_to p found)) w w
  goes_acts told p (Ok i) o is = subst (λ x. Acts (replied op (plainly told) x) (own_of op Nowhere (Ok told)) (place_of (goes_to p (Ok i))) w w) (sym is) (record { answer = refl; place = refl; world = refl })
  goes_acts told p (Err why) o is = subst (λ x. Acts (replied op (plainly told) x) (own_of op Nowhere (Err why)) (place_of p) w w) (sym is) (record { answer = refl; place = refl; world = refl })

  pub saves_acts : (told : OpResult) (p : code_place.Place) (found : Result NodeId Refusal) (o : Outcome (Answer (Unit {0}))) → o ≡ saves (place_of p) found →
      Acts (replied op (plainly told) o) (own_of op Nowhere (told_as (λ i. told) found)) (place_of (saves_as p found)) w w
  saves_acts told p (Ok i) o is = subst (λ x. Acts (replied op (plainly told) x) (own_of op Nowhere (Ok told)) (place_of (saves_as p (Ok i))) w w) (sym is) (record { answer = refl; place = refl; world = refl })
  saves_acts told p (Err why) o is = subst (λ x. Acts (replied op (plainly told) x) (own_of op Nowhere (Err why)) (place_of p) w w) (sym is) (record { answer = refl; place = refl; world = refl })

  pub stays_acts : {A R : Type 0} (result : R → OpResult) (seen : A → R) (p : Place) (found : Result A Refusal) (o : Outcome (Answer R)) → o ≡ stays p (answered seen found) →
      Acts (replied op (λ r. success (result r) Nowhere) o) (own_of op Nowhere (told_as (λ a. result (seen a)) found)) p w w
  stays_acts result seen p (Ok a) o is = subst (λ x. Acts (replied op (λ r. success (result r) Nowhere) x) (own_of op Nowhere (Ok (result (seen a)))) p w w) (sym is) (record { answer = refl; place = refl; world = refl })
  stays_acts result seen p (Err why) o is = subst (λ x. Acts (replied op (λ r. success (result r) Nowhere) x) (own_of op Nowhere (Err why)) p w w) (sym is) (record { answer = refl; place = refl; world = refl })

-- ---- an operation that wrote its result

module _ {R : Type 0} (told : R → OpResult) (ok : (r : R) → status_of (told r) ≡ 0) (op : Op) (begin : ℕ) (old mid new : List ℕ) where
  abbrev reply : R → Reply
  reply r = success (told r) Nowhere

  says_all : (a : Answer R) (answer : Result (Unit {0}) Refusal) (comes : Came) → Wrote old mid told a answer → SaysWritten mid new op answer comes → Says begin old new (reply_of op reply a) comes
  says_all (Done r) (Ok it) comes wrote more = subst (λ x. SaysOwn old new (told r) None x) (sym more.0) (refl, ok r, more.1 ∙ wrote)
  says_all (Done r) (Err e) comes wrote more = absurd wrote
  says_all (Refused why) (Ok it) comes wrote more = absurd wrote
  says_all (Refused why) (Err e) comes wrote more =
      subst (λ (x : chain.Refusal). SaysOwn old new (failed op x.status) (Some x) comes) wrote.0 (subst (λ out. SaysOwn out new (failed op e.status) (Some (refusal_of e)) comes) wrote.1 more)

  own : (k : Keeper) (a : Answer R) → kept_behind k (reply_of op reply a) ≡ k
  own k (Done r) = first_nowhere k
  own k (Refused why) = first_nowhere k

  pub wrote_performs : (keeper : code.Keeper) (q : Place) (before after : World) (o : Outcome (Answer R)) (answer : Result (Unit {0}) Refusal) (comes : Came) → Writes old mid told q before after o answer → SaysWritten mid new op answer comes →
      Performs begin old new keeper keeper q after (turn_of before (replied op reply o)) comes
  wrote_performs keeper q before after o answer comes wrote more = record {
    place_is = wrote.place;
    state = sym wrote.world;
    keeper = own (keeper_of keeper) o.answer;
    says = says_all o.answer answer comes wrote.wrote more;
  }
