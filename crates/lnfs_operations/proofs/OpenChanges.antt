-- What OPEN changes: the changes are those that its subject may make.
use Rattle.std.proofs.Common.{◌≡◌, ℕ, Bool, true, false, not, cond, ◌&&◌, List, [], ◌∷◌, ◌++◌, Some, None, refl, sym, ap, ◌∙◌, arith}
use Rattle.std.specs.Prelude.{◌==◌, is_some}
use Rattle.std.specs.List.{AllByRecursion, list_any}
use Rattle.std.specs.Str.{bytes_eq}
use Rattle.std.proofs.lemmas.Bool.Decides.{nat_tests}
use Rattle.lnfs_calipso.specs.Label.{IsPreorderWithBottom}
use Rattle.lnfs_arguments.specs.declared.stateid.Cinfo.{Cinfo}
use Rattle.lnfs_arguments.specs.declared.types.Making.{Making}
use Rattle.lnfs_world.specs.World.{Id, Node, Open, World, same_id, label_at}
use Rattle.lnfs_world.specs.Facts.{has_confirmed, same_opening, is_good_open}
use Rattle.lnfs_world.specs.Change.{Change, Touch, Make, SetOpen, AddOpen, apply, apply_all}
use Rattle.lnfs_world.specs.Effects.{name_added, next_entry, next_id, data_changed}
use Rattle.lnfs_world.specs.Leases.{over_at}
use Rattle.lnfs_world.specs.Opens.{ended}
use Rattle.lnfs_world.specs.Within.{is_new, is_same_open, is_within, all_within}
use Rattle.lnfs_world.specs.Outcome.{Site, Place, Stands, IsFootprint, Footprint, is_place, may_hold}
use Rattle.lnfs_world.proofs.Alone.{alone}
use Rattle.lnfs_world.proofs.Determined.{new_absent}
use Rattle.lnfs_world.proofs.Keys.{id_same, id_itself, bytes_itself}
use Rattle.lnfs_world.proofs.KeptOpens.{openings_turn}
use Rattle.lnfs_world.proofs.NewNames.{made_within}
use Rattle.lnfs_world.proofs.Nodes.{label_at-made, label_at-touched}
use Rattle.lnfs_world.proofs.Rows.{all_anyway, all_find, all_none, all_weaker, any_found}
use Rattle.lnfs_world.proofs.Seen.{label_of-found, sees_node, entry_at-home}
use Rattle.lnfs_operations.specs.Chain.{done}
use Rattle.lnfs_operations.specs.Open.{Arguments, Opened, access_of, opener, passed_over, Wanted, new_open, own_open, joined, new_file, made, opened_with, open_file}
use Rattle.lnfs_operations.proofs.Chains.{unchanged_footprint}
use Rattle.lnfs_operations.proofs.CurrentLaws.{current_held}
use Rattle.lnfs_world.proofs.ChangedNames.{Beside, beside_both, within_joined, place_left}
use Rattle.lnfs_world.proofs.Leases.{give_way_own, ended_within, ended_beside}
use Rattle.lnfs_operations.proofs.FileLaws.{data_within}
use Rattle.lnfs_operations.proofs.Openings.{MayMake, IsReached, Handed, Named, MayOpen, open_any}
use Rattle.lnfs_operations.proofs.Owners.{none_found}

module _ (site : Site) (lattice : IsPreorderWithBottom site.dom) (args : Arguments) (p : Place) (w : World) (stands : Stands site.dom p w) (client : ℕ) (under : p.client ≡ Some client) where
  -- the client under which the operation came is there
  client_there : has_confirmed w.clients p.subject client ≡ true
  client_there = let place = stands.place in grind (arith, place, under)

  -- whoever reaches a file dominates its home
  reached_home : (n : Node) → IsReached site p w n → site.dom p.subject n.id.level ≡ true
  reached_home n (Handed is) = sym (ap (may_hold site.dom p.subject) is) ∙ current_held site.dom p w stands
  reached_home n (Named d name e found above named same) =
      ap (λ (i : Id). site.dom p.subject i.level) (sym same)
      ∙ entry_at-home site.dom lattice p.subject w stands.facts d.id name e (sees_node site.dom lattice p.subject w stands.facts d.id d found above) named

  -- another current file handle
  handle_place : (i : Id) → site.dom p.subject i.level ≡ true → is_place site.dom w (record p { current = Some i }) ≡ true
  handle_place i home = let place = stands.place in grind (arith, home, place)

  -- ---- opens

  -- a new open of a node that is there, in a world with the same opens and clients
  add_within : (v : World) (node : Id) → v.lasts.opens ≡ w.lasts.opens → v.clients ≡ w.clients → site.dom p.subject node.level ≡ true → is_some (label_at v.nodes node) ≡ true → list_any (same_opening (new_open args p w client node)) v.opens ≡ false → is_within site.dom p.subject v (AddOpen (new_open args p w client node)) ≡ true
  add_within v node lasts clients home there none =
      let row = new_open args p w client node in
      let new : is_new p.subject v.lasts.opens row.id ≡ true = ap (λ given. is_new p.subject given row.id) lasts ∙ grind (arith, nat_tests) in
      let confirmed : has_confirmed v.clients p.subject client ≡ true = ap (λ rows. has_confirmed rows p.subject client) clients ∙ client_there in
      λ k. new k && (home k && (there k && (confirmed k && not (none k))))

  -- an open of the client and the owner that is joined
  set_within : (node : Id) (o : Open) → own_open args p w client node ≡ Some o → is_within site.dom p.subject w (SetOpen (joined args o)) ≡ true
  set_within node o found =
      let q = same_opening (new_open args p w client node) in
      let known = (all_find (λ x. Unit {0}) q w.opens o (all_anyway _ (λ x. tt) w.opens) found).1 in
      let own : (o.id.level == p.subject) ≡ true = grind (arith, nat_tests, known) in
      let itself : is_same_open (joined args o) o ≡ true = grind (arith, nat_tests, id_itself o.id, id_itself o.node, bytes_itself o.owner) in
      let there = any_found q (is_same_open (joined args o)) w.opens o found itself in
      let others = all_none _ w.opens (alone same_opening (λ x. x.id) openings_turn q w.opens o stands.facts.opens.apart found) in
      λ k. own k && (there k && not (others k))

  -- ---- a file that is there

  -- A change of opens that may be made of the world, and of one in which the file was cut, is made of either.
  -- Opens of the subject's level end behind it.
  module _ (answer : Opened) (n : Node) (c : Change) (home : site.dom p.subject n.id.level ≡ true) (beside : (v : World) → Beside v (apply c v)) (ends : List Open) (own : AllByRecursion (λ o. (o.id.level == p.subject) ≡ true) ends) where
    abbrev cutting : Change
    cutting = Touch n.id (data_changed p.moment [] n.inner)

    abbrev changes : List Change
    changes = c ∷ ended ends

    changes_within : (v : World) → is_within site.dom p.subject v c ≡ true → all_within site.dom p.subject v changes ≡ true
    changes_within v within = let rest = ended_within site.dom p.subject ends (apply c v) own in λ k. within k && rest k

    changes_beside : (v : World) → Beside v (apply_all changes v)
    changes_beside v = beside_both v (apply c v) (apply_all changes v) (beside v) (ended_beside ends (apply c v))

    cut_footprint : (sized : Bool) → is_within site.dom p.subject w c ≡ true → (sized ≡ true → is_within site.dom p.subject w cutting ≡ true) → is_within site.dom p.subject (apply cutting w) c ≡ true →
        IsFootprint site.dom p w (done (record p { current = Some n.id }) answer (cond sized (cutting ∷ []) [] ++ changes))
    cut_footprint true whole touch then =
        let left = changes_beside (apply cutting w) in
        record {
          within = (let rest = changes_within (apply cutting w) then in λ k. touch refl k && rest k);
          place = place_left site.dom (record p { current = Some n.id }) w (apply_all changes (apply cutting w)) (record { clients = left.clients; sessions = left.sessions }) (handle_place n.id home);
          subject = refl;
        }
    cut_footprint false whole touch then = record {
      within = changes_within w whole;
      place = place_left site.dom (record p { current = Some n.id }) w (apply_all changes w) (changes_beside w) (handle_place n.id home);
      subject = refl;
    }

  module _ (wanted : Wanted) (info : Cinfo) (n : Node) (may : MayOpen site args p w client wanted n) where
    touch_within : wanted.sized ≡ true → is_within site.dom p.subject w (Touch n.id (data_changed p.moment [] n.inner)) ≡ true
    touch_within sized = data_within site.dom p w n [] may.file.found (may.own sized)

    -- those that end
    passed_own : AllByRecursion (λ o. (o.id.level == p.subject) ≡ true) (passed_over args p w client n)
    passed_own = give_way_own p.subject (opener args p client) n.id (access_of args) args.deny (over_at w.clients p.moment) w.opens

    joins_footprint : (o : Open) → own_open args p w client n.id ≡ Some o → IsFootprint site.dom p w (opened_with p wanted n info (joined args o) (SetOpen (joined args o) ∷ ended (passed_over args p w client n)))
    joins_footprint o found =
        let within = set_within n.id o found in
        cut_footprint _ n (SetOpen (joined args o)) (reached_home n may.reached) (λ v. record { clients = refl; sessions = refl }) (passed_over args p w client n) passed_own wanted.sized within touch_within within

    adds_footprint : own_open args p w client n.id ≡ None → IsFootprint site.dom p w (opened_with p wanted n info (new_open args p w client n.id) (AddOpen (new_open args p w client n.id) ∷ ended (passed_over args p w client n)))
    adds_footprint none =
        let home = reached_home n may.reached in
        let label = label_of-found n.id w.nodes n may.file.found in
        let alone = none_found (same_opening (new_open args p w client n.id)) w.opens none in
        let inner = data_changed p.moment [] n.inner in
        cut_footprint _ n (AddOpen (new_open args p w client n.id)) home (λ v. record { clients = refl; sessions = refl }) (passed_over args p w client n) passed_own wanted.sized
        (add_within w n.id refl refl home (ap is_some label) alone) touch_within
        (add_within (apply (Touch n.id inner) w) n.id refl refl home (ap is_some (label_at-touched n.id inner n.id w.nodes ∙ label)) alone)

  -- ---- a new file

  -- no open is of a node that isn't there
  unopened : (i : Id) → label_at w.nodes i ≡ None → list_any (same_opening (new_open args p w client i)) w.opens ≡ false
  unopened i absent = all_none _ w.opens (all_weaker _ _ (λ o good. other o good) w.opens stands.facts.opens.nodes)
    where
      other : (o : Open) → is_good_open site.dom (label_at w.nodes) o ≡ true → same_opening (new_open args p w client i) o ≡ false
      other o good = at (same_id i o.node) refl
        where
          at : (b : Bool) → same_id i o.node ≡ b → (p.subject == o.id.level && (client == o.client && (bytes_eq args.owner o.owner && b))) ≡ false
          at true same = absurd (let gone = ap (label_at w.nodes) (sym (id_same i o.node same)) ∙ absent in grind (arith, good, gone))
          at false differs = grind arith

  makes_footprint : (name : List ℕ) (making : Making) (wanted : Wanted) (d : Node) → MayMake site args p w client name making wanted d → IsFootprint site.dom p w (made args p w client d name wanted.set (new_file site p w making wanted d))
  makes_footprint name making wanted d may =
      let own : d.label ≡ p.subject = let is = may.own in grind (arith, nat_tests, is) in
      let n : Node = new_file site p w making wanted d in
      let making_it : List Change = Touch d.id (name_added p.moment d.inner) ∷ Make n (next_entry d name n.id) ∷ [] in
      let v : World = apply_all making_it w in
      let home : site.dom p.subject n.id.level ≡ true = ap (site.dom p.subject) own ∙ lattice.reflexive p.subject in
      let absent = new_absent site.dom d.label w.nodes w.entries w.lasts.nodes stands.facts.nodes n.id (record { own = refl; above = omega arith }) in
      let there : is_some (label_at v.nodes n.id) ≡ true = ap is_some (label_at-made n n.id _ ∙ ap (λ b. cond b (Some n.label) (label_at (apply (Touch d.id (name_added p.moment d.inner)) w).nodes n.id)) (id_itself n.id)) in
      let add = add_within v n.id refl refl home there (unopened n.id absent) in
      let made_it = made_within site.dom p.subject w stands.facts d n name p.moment may.found may.directory own (ap (next_id w.lasts.nodes) own) (ap (site.dom n.label) (sym own) ∙ may.rises) may.new in
      record {
        within = within_joined site.dom p.subject making_it (AddOpen (new_open args p w client n.id) ∷ []) w made_it (λ k. add k && true);
        place = place_left site.dom (record p { current = Some n.id }) w (apply (AddOpen (new_open args p w client n.id)) v) (record { clients = refl; sessions = refl }) (handle_place n.id home);
        subject = refl;
      }

pub open_footprint : (site : Site) → IsPreorderWithBottom site.dom → (args : Arguments) → Footprint site.dom (open_file site args)
open_footprint site lattice args p w stands = open_any (IsFootprint site.dom p w) site args p w (record {
  refused = λ gate status. unchanged_footprint site.dom p w stands _;
  makes = λ client name making wanted d may. makes_footprint site lattice args p w stands client may.under name making wanted d may;
  joins = λ client wanted info n o may found. joins_footprint site lattice args p w stands client may.under wanted info n may o found;
  adds = λ client wanted info n may none left. adds_footprint site lattice args p w stands client may.under wanted info n may none;
})
