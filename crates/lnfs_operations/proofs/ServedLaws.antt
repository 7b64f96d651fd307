-- The operations that are served are lawful in their COMPOUND, and with them further ones that are.
use Rattle.std.proofs.Common.{◌≡◌, ◌+◌, ℕ, Bool, true, false, cond, ◌&&◌, List, Option, Some, None, refl, sym, ap, ◌∙◌}
use Rattle.std.specs.Prelude.{◌==◌}
use Rattle.lnfs_calipso.specs.Label.{IsPreorderWithBottom}
use Rattle.lnfs_arguments.specs.Further.{Further}
use Rattle.lnfs_arguments.specs.declared.types.Op.{Op}
use Rattle.lnfs_arguments.specs.declared.types.Op.TheVariants as ops
use Rattle.lnfs_arguments.specs.declared.types.Compound.{Compound}
use Rattle.lnfs_arguments.specs.declared.types.CreateSession.{CreateSession}
use Rattle.lnfs_results.specs.declared.types.OpResult.{OpResult}
use Rattle.lnfs_results.specs.declared.types.OpResult.TheVariants as results
use Rattle.lnfs_world.specs.World.{World}
use Rattle.lnfs_world.specs.Erased.{erased}
use Rattle.lnfs_world.specs.Outcome.{Site, Place, Outcome, View, Footprint, IsFootprint}
use Rattle.lnfs_world.specs.Lawful.{Turn, Deed, Lawful, deed_of}
use Rattle.lnfs_world.specs.Both.{Both, both_seen, BothStand, on_world}
use Rattle.lnfs_world.proofs.Beside.{on_world_lawful}
use Rattle.lnfs_world.proofs.Views.{client_at-seen, session_at-seen}
use Rattle.lnfs_operations.specs.declared.Gate.TheVariants as gates
use Rattle.lnfs_operations.specs.declared.numbers.TheConstants.{RESERVED_ROOM, FILE_SYNC4}
use Rattle.lnfs_arguments.specs.declared.statuses.TheConstants.{NFS4ERR_REP_TOO_BIG}
use Rattle.lnfs_results.specs.Answering.{op_bound}
use Rattle.lnfs_operations.specs.Chain.{Refusal}
use Rattle.lnfs_operations.specs.Identifiers.{client_named}
use Rattle.lnfs_operations.specs.CreateSession.{is_next_of}
use Rattle.lnfs_operations.specs.Sequence.{Sent}
use Rattle.lnfs_operations.specs.Close.{closed}
use Rattle.lnfs_operations.specs.Extra.{Said, Extra, AreLawful, further_deed}
use Rattle.lnfs_operations.specs.Admission.{unless, used, fits, session_behind, or_else, place_refusal, admission}
use Rattle.lnfs_operations.specs.Served.{Record, Nowhere, Reply, success, created_reply, sequence_reply, told_reply, replied, under, created_keeper, create_session_in, plainly, zeros, opened_reply, row, said_reply, further_reply, row_in, admitted, operation}
use Rattle.lnfs_operations.proofs.Chains.{seen_view, unchanged_footprint}
use Rattle.lnfs_operations.proofs.ExchangeIdLaws.{exchange_id_view, exchange_id_footprint}
use Rattle.lnfs_operations.proofs.SessionLaws.{own_level, destroy_session_view, destroy_session_footprint, sequence_view, sequence_footprint, destroy_clientid_view, destroy_clientid_footprint, reclaim_complete_view, reclaim_complete_footprint}
use Rattle.lnfs_operations.proofs.CreateSessionLaws.{create_session_seen, create_session_footprint}
use Rattle.lnfs_operations.proofs.HandleLaws.{put_fh_view, put_fh_footprint, put_root_fh_view, put_root_fh_footprint, get_fh_view, get_fh_footprint, save_fh_view, save_fh_footprint, restore_fh_view, restore_fh_footprint}
use Rattle.lnfs_operations.proofs.LookupLaws.{lookup_view, lookup_footprint, lookup_parent_view, lookup_parent_footprint}
use Rattle.lnfs_operations.proofs.GetAttrLaws.{get_attr_view, get_attr_footprint, verify_view, verify_footprint, nverify_view, nverify_footprint}
use Rattle.lnfs_operations.proofs.AccessLaws.{access_view, access_footprint, read_link_view, read_link_footprint}
use Rattle.lnfs_operations.proofs.ReadDirLaws.{read_dir_view, read_dir_footprint}
use Rattle.lnfs_operations.proofs.CreateLaws.{create_view, create_footprint}
use Rattle.lnfs_operations.proofs.LinkLaws.{link_view, link_footprint}
use Rattle.lnfs_operations.proofs.RemoveLaws.{remove_view, remove_footprint}
use Rattle.lnfs_operations.proofs.RenameLaws.{rename_view, rename_footprint}
use Rattle.lnfs_operations.proofs.SetAttrLaws.{set_attr_view, set_attr_footprint}
use Rattle.lnfs_operations.proofs.OpenLaws.{open_view}
use Rattle.lnfs_operations.proofs.OpenChanges.{open_footprint}
use Rattle.lnfs_operations.proofs.FileLaws.{close_view, close_footprint, read_view, read_footprint, write_view, write_footprint, commit_view, commit_footprint}

and_alike : (b x y : Bool) → (b ≡ true → x ≡ y) → (b && x) ≡ (b && y)
and_alike true x y same = same refl
and_alike false x y same = refl

-- ---- the operations of the table

-- what another answer has of a footprint
with_answer : {A B : Type 0} (dom : ℕ → ℕ → Bool) (p : Place) (w : World) (o : Outcome A) (answer : B) → IsFootprint dom p w o → IsFootprint dom p w (record { answer = answer; place = o.place; changes = o.changes })
with_answer dom p w o answer f = record { within = f.within; place = f.place; subject = f.subject }

module _ (dom : ℕ → ℕ → Bool) (lattice : IsPreorderWithBottom dom) (sent : Sent) where
  keeper_seen : (args : CreateSession) (p : Place) (w : World) → created_keeper args p (erased dom p.subject w) ≡ created_keeper args p w
  keeper_seen args p w = ap (λ b. cond b (Record (client_named args.client).number) Nowhere)
      (and_alike ((client_named args.client).level == p.subject) _ _ (λ own.
      ap (is_next_of args.sequence) (client_at-seen dom p.subject (client_named args.client) (own_level dom lattice p.subject (client_named args.client).level own) w.clients)))

  create_session_in_seen : (args : CreateSession) (p : Place) (w : World) → create_session_in sent args p (erased dom p.subject w) ≡ create_session_in sent args p w
  create_session_in_seen args p w =
      let same = ap (replied (ops.CreateSession args) (created_reply p.subject args)) (create_session_seen dom lattice args sent.arguments p w) in
      λ i. record { answer = under (keeper_seen args p w i) (same i).answer; place = (same i).place; changes = (same i).changes }

  create_session_in_view : (args : CreateSession) → View dom (create_session_in sent args)
  create_session_in_view args = seen_view dom (create_session_in sent args) (create_session_in_seen args)

module _ (site : Site) (lattice : IsPreorderWithBottom site.dom) (sent : Sent) where
  pub row_view : (op : Op) → View site.dom (row site sent op)
  row_view (ops.ExchangeId verifier owner flags implementation) p a b sa sb e = ap (replied (ops.ExchangeId verifier owner flags implementation) (told_reply p.subject)) (exchange_id_view site.dom lattice (record { verifier = verifier; owner = owner; flags = flags }) p a b sa sb e)
  row_view (ops.CreateSession args) p a b sa sb e = create_session_in_view site.dom lattice sent args p a b sa sb e
  row_view (ops.DestroySession session) p a b sa sb e = ap (replied (ops.DestroySession session) (λ _. success results.DestroySession Nowhere)) (destroy_session_view site.dom lattice session p a b sa sb e)
  row_view (ops.Sequence args) p a b sa sb e = ap (replied (ops.Sequence args) (sequence_reply args)) (sequence_view site.dom lattice args sent p a b sa sb e)
  row_view (ops.DestroyClientId client) p a b sa sb e = ap (replied (ops.DestroyClientId client) (λ _. success results.DestroyClientId Nowhere)) (destroy_clientid_view site.dom lattice client p a b sa sb e)
  row_view (ops.ReclaimComplete one_fs) p a b sa sb e = ap (replied (ops.ReclaimComplete one_fs) (λ _. success results.ReclaimComplete Nowhere)) (reclaim_complete_view site.dom lattice one_fs p a b sa sb e)
  row_view (ops.PutFh handle) p a b sa sb e = ap (replied (ops.PutFh handle) (plainly results.PutFh)) (put_fh_view site lattice handle p a b sa sb e)
  row_view ops.PutRootFh p a b sa sb e = ap (replied ops.PutRootFh (plainly results.PutRootFh)) (put_root_fh_view site lattice p a b sa sb e)
  row_view ops.GetFh p a b sa sb e = ap (replied ops.GetFh (λ handle. success (results.GetFh handle) Nowhere)) (get_fh_view site lattice p a b sa sb e)
  row_view ops.SaveFh p a b sa sb e = ap (replied ops.SaveFh (plainly results.SaveFh)) (save_fh_view site lattice p a b sa sb e)
  row_view ops.RestoreFh p a b sa sb e = ap (replied ops.RestoreFh (plainly results.RestoreFh)) (restore_fh_view site lattice p a b sa sb e)
  row_view (ops.Lookup name) p a b sa sb e = ap (replied (ops.Lookup name) (plainly results.Lookup)) (lookup_view site lattice name p a b sa sb e)
  row_view ops.LookupP p a b sa sb e = ap (replied ops.LookupP (plainly results.LookupP)) (lookup_parent_view site lattice p a b sa sb e)
  row_view (ops.GetAttr asked) p a b sa sb e = ap (replied (ops.GetAttr asked) (λ given. success (results.GetAttr given) Nowhere)) (get_attr_view site lattice asked p a b sa sb e)
  row_view (ops.Verify given) p a b sa sb e = ap (replied (ops.Verify given) (plainly results.Verify)) (verify_view site lattice given p a b sa sb e)
  row_view (ops.NVerify given) p a b sa sb e = ap (replied (ops.NVerify given) (plainly results.NVerify)) (nverify_view site lattice given p a b sa sb e)
  row_view (ops.Access bits) p a b sa sb e = ap (replied (ops.Access bits) (λ told. success (results.Access told.supported told.granted) Nowhere)) (access_view site bits p a b sa sb e)
  row_view (ops.ReadDir cookie verifier dircount maxcount asked) p a b sa sb e = ap (replied (ops.ReadDir cookie verifier dircount maxcount asked) (λ found. success (results.ReadDir (zeros 8) found.entries found.eof) Nowhere)) (read_dir_view site lattice (record { cookie = cookie; maxcount = maxcount; asked = asked }) p a b sa sb e)
  row_view ops.ReadLink p a b sa sb e = ap (replied ops.ReadLink (λ text. success (results.ReadLink text) Nowhere)) (read_link_view site p a b sa sb e)
  row_view (ops.Create what name given) p a b sa sb e = ap (replied (ops.Create what name given) (λ made. success (results.Create made.info made.set) Nowhere)) (create_view site lattice what name given p a b sa sb e)
  row_view (ops.Link name) p a b sa sb e = ap (replied (ops.Link name) (λ info. success (results.Link info) Nowhere)) (link_view site lattice name p a b sa sb e)
  row_view (ops.Remove name) p a b sa sb e = ap (replied (ops.Remove name) (λ info. success (results.Remove info) Nowhere)) (remove_view site lattice name p a b sa sb e)
  row_view (ops.Rename old new) p a b sa sb e = ap (replied (ops.Rename old new) (λ renamed. success (results.Rename renamed.source renamed.target) Nowhere)) (rename_view site lattice old new p a b sa sb e)
  row_view (ops.SetAttr id given) p a b sa sb e = ap (replied (ops.SetAttr id given) (λ set. success (results.SetAttr 0 set) Nowhere)) (set_attr_view site lattice id given p a b sa sb e)
  row_view (ops.Open seqid access deny client owner making claim) p a b sa sb e = ap (replied (ops.Open seqid access deny client owner making claim) opened_reply) (open_view site lattice (record { access = access; deny = deny; owner = owner; making = making; claim = claim }) p a b sa sb e)
  row_view (ops.Close seqid id) p a b sa sb e = ap (replied (ops.Close seqid id) (plainly (results.Close closed))) (close_view site lattice id p a b sa sb e)
  row_view (ops.Read id offset count) p a b sa sb e = ap (replied (ops.Read id offset count) (λ found. success (results.Read found.eof found.content) Nowhere)) (read_view site lattice (record { id = id; offset = offset; count = count }) p a b sa sb e)
  row_view (ops.Write id offset stable content) p a b sa sb e = ap (replied (ops.Write id offset stable content) (λ many. success (results.Write many FILE_SYNC4 (zeros 8)) Nowhere)) (write_view site lattice (record { id = id; offset = offset; stable = stable; content = content }) p a b sa sb e)
  row_view (ops.Commit offset count) p a b sa sb e = ap (replied (ops.Commit offset count) (plainly (results.Commit (zeros 8)))) (commit_view site lattice p a b sa sb e)
  row_view (ops.Outside number status) p a b sa sb e = refl
  row_view (ops.Extra number arguments) p a b sa sb e = refl

  pub row_footprint : (op : Op) → Footprint site.dom (row site sent op)
  row_footprint (ops.ExchangeId verifier owner flags implementation) p w stands = with_answer site.dom p w _ _ (exchange_id_footprint site.dom (record { verifier = verifier; owner = owner; flags = flags }) p w stands)
  row_footprint (ops.CreateSession args) p w stands = with_answer site.dom p w _ _ (create_session_footprint site.dom p w stands args sent.arguments)
  row_footprint (ops.DestroySession session) p w stands = with_answer site.dom p w _ _ (destroy_session_footprint site.dom p w stands session)
  row_footprint (ops.Sequence args) p w stands = with_answer site.dom p w _ _ (sequence_footprint site.dom p w stands args sent)
  row_footprint (ops.DestroyClientId client) p w stands = with_answer site.dom p w _ _ (destroy_clientid_footprint site.dom p w stands client)
  row_footprint (ops.ReclaimComplete one_fs) p w stands = with_answer site.dom p w _ _ (reclaim_complete_footprint site.dom p w stands one_fs)
  row_footprint (ops.PutFh handle) p w stands = with_answer site.dom p w _ _ (put_fh_footprint site lattice handle p w stands)
  row_footprint ops.PutRootFh p w stands = with_answer site.dom p w _ _ (put_root_fh_footprint site lattice p w stands)
  row_footprint ops.GetFh p w stands = with_answer site.dom p w _ _ (get_fh_footprint site lattice p w stands)
  row_footprint ops.SaveFh p w stands = with_answer site.dom p w _ _ (save_fh_footprint site lattice p w stands)
  row_footprint ops.RestoreFh p w stands = with_answer site.dom p w _ _ (restore_fh_footprint site lattice p w stands)
  row_footprint (ops.Lookup name) p w stands = with_answer site.dom p w _ _ (lookup_footprint site lattice name p w stands)
  row_footprint ops.LookupP p w stands = with_answer site.dom p w _ _ (lookup_parent_footprint site lattice p w stands)
  row_footprint (ops.GetAttr asked) p w stands = with_answer site.dom p w _ _ (get_attr_footprint site lattice asked p w stands)
  row_footprint (ops.Verify given) p w stands = with_answer site.dom p w _ _ (verify_footprint site lattice given p w stands)
  row_footprint (ops.NVerify given) p w stands = with_answer site.dom p w _ _ (nverify_footprint site lattice given p w stands)
  row_footprint (ops.Access bits) p w stands = with_answer site.dom p w _ _ (access_footprint site bits p w stands)
  row_footprint (ops.ReadDir cookie verifier dircount maxcount asked) p w stands = with_answer site.dom p w _ _ (read_dir_footprint site lattice (record { cookie = cookie; maxcount = maxcount; asked = asked }) p w stands)
  row_footprint ops.ReadLink p w stands = with_answer site.dom p w _ _ (read_link_footprint site p w stands)
  row_footprint (ops.Create what name given) p w stands = with_answer site.dom p w _ _ (create_footprint site lattice what name given p w stands)
  row_footprint (ops.Link name) p w stands = with_answer site.dom p w _ _ (link_footprint site lattice name p w stands)
  row_footprint (ops.Remove name) p w stands = with_answer site.dom p w _ _ (remove_footprint site lattice name p w stands)
  row_footprint (ops.Rename old new) p w stands = with_answer site.dom p w _ _ (rename_footprint site lattice old new p w stands)
  row_footprint (ops.SetAttr id given) p w stands = with_answer site.dom p w _ _ (set_attr_footprint site lattice p w stands id given)
  row_footprint (ops.Open seqid access deny client owner making claim) p w stands = with_answer site.dom p w _ _ (open_footprint site lattice (record { access = access; deny = deny; owner = owner; making = making; claim = claim }) p w stands)
  row_footprint (ops.Close seqid id) p w stands = with_answer site.dom p w _ _ (close_footprint site p w stands id)
  row_footprint (ops.Read id offset count) p w stands = with_answer site.dom p w _ _ (read_footprint site p w stands (record { id = id; offset = offset; count = count }))
  row_footprint (ops.Write id offset stable content) p w stands = with_answer site.dom p w _ _ (write_footprint site p w stands (record { id = id; offset = offset; stable = stable; content = content }))
  row_footprint (ops.Commit offset count) p w stands = with_answer site.dom p w _ _ (commit_footprint site p w stands)
  row_footprint (ops.Outside number status) p w stands = unchanged_footprint site.dom p w stands _
  row_footprint (ops.Extra number arguments) p w stands = unchanged_footprint site.dom p w stands _

-- ---- the tests before them

module _ (dom : ℕ → ℕ → Bool) where
  behind_seen : (level : ℕ) (p : Place) (session : Option ℕ) (w : World) → dom level p.subject ≡ true → session_behind p session (erased dom level w).sessions ≡ session_behind p session w.sessions
  behind_seen level p None w above = refl
  behind_seen level p (Some number) w above = session_at-seen dom level (record { level = p.subject; number = number }) above w.sessions

  pub admission_seen : (level : ℕ) (x : Further) (c : Compound) (so_far : List OpResult) (op : Op) (p : Place) (w : World) → dom level p.subject ≡ true → admission x c so_far op p (erased dom level w) ≡ admission x c so_far op p w
  admission_seen level x c so_far op p w above = ap (λ o. or_else (place_refusal c so_far op) (unless (fits (RESERVED_ROOM + used c so_far + op_bound x op) o) gates.Room NFS4ERR_REP_TOO_BIG)) (behind_seen level p p.session w above)

-- a test before an operation that looks at what is seen alone
module _ {S : Type 0} (dom : ℕ → ℕ → Bool) (seen_by : ℕ → S → S) (Standing : Place → S → Type 0) (op : Op) (test : Place → S → Option Refusal)
    (same : (level : ℕ) (p : Place) (a b : S) → dom level p.subject ≡ true → seen_by level a ≡ seen_by level b → test p a ≡ test p b) (deed : Deed Reply S) (law : Lawful dom seen_by Standing deed) where
  answers : (o : Option Refusal) (p : Place) (a b : S) (x y : Turn Reply S) → x.answer ≡ y.answer → (admitted op p a o x).answer ≡ (admitted op p b o y).answer
  answers None p a b x y e = e
  answers (Some why) p a b x y e = refl

  places : (o : Option Refusal) (p : Place) (a b : S) (x y : Turn Reply S) → x.place ≡ y.place → (admitted op p a o x).place ≡ (admitted op p b o y).place
  places None p a b x y e = e
  places (Some why) p a b x y e = refl

  states : (level : ℕ) (o : Option Refusal) (p : Place) (a b : S) (x y : Turn Reply S) → seen_by level a ≡ seen_by level b → seen_by level x.state ≡ seen_by level y.state → seen_by level (admitted op p a o x).state ≡ seen_by level (admitted op p b o y).state
  states level None p a b x y before e = e
  states level (Some why) p a b x y before e = before

  either : (P : Place → S → Type 0) (o : Option Refusal) (p : Place) (a : S) (x : Turn Reply S) → P p a → P x.place x.state → P (admitted op p a o x).place (admitted op p a o x).state
  either P None p a x before e = e
  either P (Some why) p a x before e = before

  pub admitted_lawful : Lawful dom seen_by Standing (λ p a. admitted op p a (test p a) (deed p a))
  admitted_lawful = record {
    answer = λ level p a b above sa sb e. ap (λ o. (admitted op p a o (deed p a)).answer) (same level p a b above e) ∙ answers (test p b) p a b (deed p a) (deed p b) (law.answer level p a b above sa sb e);
    place = λ level p a b above sa sb e. ap (λ o. (admitted op p a o (deed p a)).place) (same level p a b above e) ∙ places (test p b) p a b (deed p a) (deed p b) (law.place level p a b above sa sb e);
    seen = λ level p a b above sa sb e. ap (λ o. seen_by level (admitted op p a o (deed p a)).state) (same level p a b above e) ∙ states level (test p b) p a b (deed p a) (deed p b) e (law.seen level p a b above sa sb e);
    unseen = λ level p a apart stands. either (λ q v. seen_by level v ≡ seen_by level a) (test p a) p a (deed p a) refl (law.unseen level p a apart stands);
    stands = λ p a stands. either Standing (test p a) p a (deed p a) stands (law.stands p a stands);
    subject = λ p a stands. either (λ q v. q.subject ≡ p.subject) (test p a) p a (deed p a) refl (law.subject p a stands);
  }

-- ---- with further operations

chosen_lawful : {A S : Type 0} (dom : ℕ → ℕ → Bool) (seen_by : ℕ → S → S) (Standing : Place → S → Type 0) (b : Bool) (x y : Deed A S) → Lawful dom seen_by Standing x → Lawful dom seen_by Standing y → Lawful dom seen_by Standing (cond b x y)
chosen_lawful dom seen_by Standing true x y p q = p
chosen_lawful dom seen_by Standing false x y p q = q

further_lawful : {S : Type 0} (dom : ℕ → ℕ → Bool) (seen_by : ℕ → S → S) (Standing : Place → S → Type 0) (number : ℕ) (deed : Deed Said S) → Lawful dom seen_by Standing deed → Lawful dom seen_by Standing (further_reply number deed)
further_lawful dom seen_by Standing number deed law = record {
  answer = λ level p a b above sa sb e. ap (said_reply number) (law.answer level p a b above sa sb e);
  place = law.place;
  seen = law.seen;
  unseen = law.unseen;
  stands = law.stands;
  subject = law.subject;
}

module _ (X : Extra) (owed : AreLawful X) (site : Site) (lattice : IsPreorderWithBottom site.dom) (sent : Sent) where
  table_lawful : (op : Op) → Lawful site.dom (both_seen X.level_of site.dom) (BothStand X.Fact site.dom) (on_world (deed_of (row site sent op)))
  table_lawful op = on_world_lawful X.level_of X.Fact owed.bears site.dom lattice (row site sent op) (row_view site lattice sent op) (row_footprint site lattice sent op)

  row_in_lawful : (op : Op) → Lawful site.dom (both_seen X.level_of site.dom) (BothStand X.Fact site.dom) (row_in X site sent op)
  row_in_lawful (ops.Extra number arguments) =
      chosen_lawful site.dom (both_seen X.level_of site.dom) (BothStand X.Fact site.dom) (X.grammar.serves number) (further_reply number (further_deed X site number arguments)) (on_world (deed_of (row site sent (ops.Extra number arguments))))
      (further_lawful site.dom (both_seen X.level_of site.dom) (BothStand X.Fact site.dom) number (further_deed X site number arguments) (owed.laws site lattice number arguments))
      (table_lawful (ops.Extra number arguments))
  row_in_lawful op = table_lawful op

  pub operation_lawful : (c : Compound) (so_far : List OpResult) (op : Op) → Lawful site.dom (both_seen X.level_of site.dom) (BothStand X.Fact site.dom) (operation X site sent c so_far op)
  operation_lawful c so_far op =
      admitted_lawful site.dom (both_seen X.level_of site.dom) (BothStand X.Fact site.dom) op (λ p b. admission X.grammar c so_far op p b.world)
      (λ level p a b above e. sym (admission_seen site.dom level X.grammar c so_far op p a.world above) ∙ ap (λ (v : Both X.Row). admission X.grammar c so_far op p v.world) e ∙ admission_seen site.dom level X.grammar c so_far op p b.world above)
      (row_in X site sent op) (row_in_lawful op)
