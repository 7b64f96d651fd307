-- The operations behind a SEQUENCE leave contexts, and the last numbers of clients, sessions and contexts.
use Rattle.std.proofs.Common.{◌≡◌, ℕ, Bool, true, false, cond, List, [], ◌∷◌, ◌++◌, refl, sym, ap, ◌∙◌, subst, arith}
use Rattle.lnfs_types.specs.declared.event.Moment.{Moment}
use Rattle.lnfs_attrs.specs.declared.raw.RawAttrs.{RawAttrs}
use Rattle.lnfs_arguments.specs.declared.stateid.StateId.{StateId}
use Rattle.lnfs_arguments.specs.declared.types.Op.{Op}
use Rattle.lnfs_arguments.specs.declared.types.Op.TheVariants as ops
use Rattle.lnfs_words.specs.Words.{is_empty}
use Rattle.lnfs_world.specs.World.{Node, Entry, Open, World, same_id}
use Rattle.lnfs_world.specs.Change.{Change, Touch, Unlink, Drop, Move, EndOpen, AddOpen, SetOpen, apply, apply_all}
use Rattle.lnfs_world.specs.Effects.{attributes_changed, names_changed, name_added, written, data_changed, taken_out, directories_changed, next_entry}
use Rattle.lnfs_world.specs.Opens.{ended}
use Rattle.lnfs_world.specs.Tree.{has_other_name}
use Rattle.lnfs_world.specs.Outcome.{Site, Place, Outcome, done_to}
use Rattle.lnfs_world.proofs.ChangedNames.{applied_joined}
use Rattle.lnfs_operations.specs.Remove.{remove}
use Rattle.lnfs_operations.specs.Rename.{Mover, rename}
use Rattle.lnfs_operations.specs.SetAttr.{set_attr}
use Rattle.lnfs_operations.specs.Open.{Arguments as OpenArguments, Wanted, passed_over, new_open, joined, cut, open_file}
use Rattle.lnfs_operations.specs.Write.{Arguments as WriteArguments, write}
use Rattle.lnfs_operations.specs.Sequence.{Sent}
use Rattle.lnfs_operations.specs.Served.{row}
use Rattle.lnfs_operations.proofs.CreateLaws.{create_any}
use Rattle.lnfs_operations.proofs.Namings.{renamed, link_any, remove_any, rename_any}
use Rattle.lnfs_operations.proofs.SetAttrLaws.{set_attr_any}
use Rattle.lnfs_operations.proofs.FileLaws.{close_any, write_any}
use Rattle.lnfs_operations.proofs.Openings.{open_any}
use Rattle.lnfs_operations.proofs.ChangingRows.{is_changing}
use Rattle.lnfs_operations.proofs.ReadingRows.{is_reading, row_reads, reads_any}

pub record Steady (w v : World) : Type 0 where
  pub contexts : v.contexts ≡ w.contexts
  pub last_clients : v.lasts.clients ≡ w.lasts.clients
  pub last_sessions : v.lasts.sessions ≡ w.lasts.sessions
  pub last_contexts : v.lasts.contexts ≡ w.lasts.contexts

pub steady_itself : (w : World) → Steady w w
steady_itself w = record { contexts = refl; last_clients = refl; last_sessions = refl; last_contexts = refl }

pub steady_through : (w v u : World) → Steady w v → Steady v u → Steady w u
steady_through w v u first then = record {
  contexts = then.contexts ∙ first.contexts;
  last_clients = then.last_clients ∙ first.last_clients;
  last_sessions = then.last_sessions ∙ first.last_sessions;
  last_contexts = then.last_contexts ∙ first.last_contexts;
}

-- ---- changes

chosen_steady : (b : Bool) (xs ys : List Change) (w : World) → Steady w (apply_all xs w) → Steady w (apply_all ys w) → Steady w (apply_all (cond b xs ys) w)
chosen_steady true xs ys w first other = first
chosen_steady false xs ys w first other = other

taken_out_steady : (moment : Moment) (entries : List Entry) (e : Entry) (n : Node) (w : World) → Steady w (apply_all (taken_out moment entries e n) w)
taken_out_steady moment entries e n w = chosen_steady (has_other_name entries e) (Touch n.id (attributes_changed moment n.inner) ∷ Unlink e ∷ []) (Drop e ∷ []) w
    (record { contexts = refl; last_clients = refl; last_sessions = refl; last_contexts = refl }) (record { contexts = refl; last_clients = refl; last_sessions = refl; last_contexts = refl })

directories_steady : (moment : Moment) (from to : Node) (w : World) → Steady w (apply_all (directories_changed moment from to) w)
directories_steady moment from to w = chosen_steady (same_id from.id to.id) (Touch to.id (name_added moment to.inner) ∷ []) (Touch from.id (names_changed moment from.inner) ∷ Touch to.id (name_added moment to.inner) ∷ []) w
    (record { contexts = refl; last_clients = refl; last_sessions = refl; last_contexts = refl }) (record { contexts = refl; last_clients = refl; last_sessions = refl; last_contexts = refl })

ended_steady : (opens : List Open) (w : World) → Steady w (apply_all (ended opens) w)
ended_steady [] w = steady_itself w
ended_steady (o ∷ opens) w =
    let later = ended_steady opens (apply (EndOpen o.id) w) in
    record { contexts = later.contexts; last_clients = later.last_clients; last_sessions = later.last_sessions; last_contexts = later.last_contexts }

module _ (site : Site) (p : Place) (w : World) where
  moved_steady : (new : List ℕ) (m : Mover) (room : List Change) → ((v : World) → Steady v (apply_all room v)) → Steady w (done_to w (renamed p new m room))
  moved_steady new m room makes =
      let steps : List Change = directories_changed p.moment m.from m.to in
      let move : Change = Move m.entry (next_entry m.to new m.node.id) in
      let joined : apply_all (steps ++ room ++ move ∷ []) w ≡ apply move (apply_all room (apply_all steps w)) = applied_joined (steps ++ room) (move ∷ []) w ∙ ap (apply move) (applied_joined steps room w) in
      let before = steady_through w (apply_all steps w) (apply_all room (apply_all steps w)) (directories_steady p.moment m.from m.to w) (makes (apply_all steps w)) in
      let moved : Steady w (apply move (apply_all room (apply_all steps w))) = record { contexts = before.contexts; last_clients = before.last_clients; last_sessions = before.last_sessions; last_contexts = before.last_contexts } in
      subst (Steady w) (sym joined) moved

  cut_steady : (wanted : Wanted) (n : Node) → Steady w (apply_all (cut p wanted n) w)
  cut_steady wanted n = chosen_steady wanted.sized (Touch n.id (data_changed p.moment [] n.inner) ∷ []) [] w
      (record { contexts = refl; last_clients = refl; last_sessions = refl; last_contexts = refl }) (steady_itself w)

  opened_steady : (wanted : Wanted) (n : Node) (c : Change) (ends : List Open) → ((v : World) → Steady v (apply c v)) → Steady w (apply_all (cut p wanted n ++ c ∷ ended ends) w)
  opened_steady wanted n c ends step =
      let v : World = apply_all (cut p wanted n) w in
      let behind = steady_through v (apply c v) (apply_all (ended ends) (apply c v)) (step v) (ended_steady ends (apply c v)) in
      subst (Steady w) (sym (applied_joined (cut p wanted n) (c ∷ ended ends) w)) (steady_through w v (apply_all (ended ends) (apply c v)) (cut_steady wanted n) behind)

  -- ---- the operations

  abbrev Left : {A : Type 0} → Outcome A → Type 0
  Left o = Steady w (done_to w o)

  rename_steady : (old new : List ℕ) → Left (rename site old new p w)
  rename_steady old new = rename_any site p w (λ o. Left o) old new (record {
    refused = λ gate status. steady_itself w;
    stays = λ m. steady_itself w;
    free = λ m from to named moves is. moved_steady new m [] (λ v. steady_itself v);
    onto = λ m e n from to named moves onto gives. moved_steady new m (taken_out p.moment w.entries e n) (taken_out_steady p.moment w.entries e n);
  })

  remove_steady : (name : List ℕ) → Left (remove site name p w)
  remove_steady name = remove_any site p w (λ o. Left o) name (λ gate status. steady_itself w) (λ d n e is named leaves.
      let later = taken_out_steady p.moment w.entries e n (apply (Touch d.id (names_changed p.moment d.inner)) w) in
      record { contexts = later.contexts; last_clients = later.last_clients; last_sessions = later.last_sessions; last_contexts = later.last_contexts })

  write_steady : (args : WriteArguments) → Left (write site args p w)
  write_steady args = write_any (λ o. Left o) site args p w (λ gate status. steady_itself w) (λ n may.
      chosen_steady (is_empty args.content) [] (Touch n.id (data_changed p.moment (written args.offset args.content n.inner.content) n.inner) ∷ []) w
      (steady_itself w) (record { contexts = refl; last_clients = refl; last_sessions = refl; last_contexts = refl }))

  open_steady : (args : OpenArguments) → Left (open_file site args p w)
  open_steady args = open_any (λ o. Left o) site args p w (record {
    refused = λ gate status. steady_itself w;
    makes = λ client name making wanted d may. record { contexts = refl; last_clients = refl; last_sessions = refl; last_contexts = refl };
    joins = λ client wanted info n o may found. opened_steady wanted n (SetOpen (joined args o)) (passed_over args p w client n) (λ v. record { contexts = refl; last_clients = refl; last_sessions = refl; last_contexts = refl });
    adds = λ client wanted info n may none left. opened_steady wanted n (AddOpen (new_open args p w client n.id)) (passed_over args p w client n) (λ v. record { contexts = refl; last_clients = refl; last_sessions = refl; last_contexts = refl });
  })

  set_attr_steady : (id : StateId) (given : RawAttrs) → Left (set_attr site id given p w)
  set_attr_steady id given = set_attr_any (λ o. Left o) site id given p w (λ gate status. steady_itself w)
      (steady_itself w)
      (λ values label n limited read as_given may. record { contexts = refl; last_clients = refl; last_sessions = refl; last_contexts = refl })
      (λ n level may. record { contexts = refl; last_clients = refl; last_sessions = refl; last_contexts = refl })
      (λ n values may. record { contexts = refl; last_clients = refl; last_sessions = refl; last_contexts = refl })

  -- those that change nodes, names and opens
  pub changing_steady : (sent : Sent) (op : Op) → is_changing op ≡ true → Left (row site sent op p w)
  changing_steady sent (ops.Create what name given) is = create_any (λ o. Left o) site what name given p w (λ gate status. steady_itself w) (λ values label d read as_given may. record { contexts = refl; last_clients = refl; last_sessions = refl; last_contexts = refl })
  changing_steady sent (ops.Link name) is = link_any site p w (λ o. Left o) name (λ gate status. steady_itself w) (λ n d is links free. record { contexts = refl; last_clients = refl; last_sessions = refl; last_contexts = refl })
  changing_steady sent (ops.Remove name) is = remove_steady name
  changing_steady sent (ops.Rename old new) is = rename_steady old new
  changing_steady sent (ops.SetAttr id given) is = set_attr_steady id given
  changing_steady sent (ops.Open seqid access deny client owner making claim) is = open_steady (record { access = access; deny = deny; owner = owner; making = making; claim = claim })
  changing_steady sent (ops.Close seqid id) is = close_any (λ o. Left o) id p w (λ gate status. steady_itself w) (λ n o found named. record { contexts = refl; last_clients = refl; last_sessions = refl; last_contexts = refl })
  changing_steady sent (ops.Write id offset stable content) is = write_steady (record { id = id; offset = offset; stable = stable; content = content })
  changing_steady sent op is = absurd (grind arith)

  -- those that read
  pub reading_steady : (sent : Sent) (op : Op) → is_reading op ≡ true → Left (row site sent op p w)
  reading_steady sent op is = reads_any p w (Steady w) (row site sent op p w) (row_reads site sent p w op is) (steady_itself w) (λ n found. record { contexts = refl; last_clients = refl; last_sessions = refl; last_contexts = refl })
