use Rattle.std.proofs.Common.{◌≡◌, ℕ, List, Ok, Err, refl, sym, ap, ◌∙◌, subst}
use Rattle.std.specs.Prelude.{Result}
use Rattle.std.proofs.lemmas.Result.{IfOk-weaker}
use Rattle.lnfs_arguments.specs.declared.types.Op.{Op}
use Rattle.lnfs_arguments.specs.declared.types.Op.TheVariants as ops
use Rattle.lnfs_attrs.specs.declared.raw.RawAttrs.{RawAttrs}
use Rattle.lnfs_results.specs.Texts.{fields_text, result_text}
use Rattle.lnfs_results.specs.declared.types.OpResult.{OpResult}
use Rattle.lnfs_results.specs.declared.types.OpResult.TheVariants as results
use Rattle.lnfs_world.specs.World.{World}
use Rattle.lnfs_world.specs.Outcome.{Place, Outcome}
use Rattle.lnfs_operations.specs.Chain.{Answer}
use Rattle.lnfs_operations.specs.Served.{Nowhere, success, replied, plainly}
use Rattle.lnfs_operations.specs.Access.{Granted}
use Rattle.lnfs_operations.specs.GetAttr.{get_attr}
use Rattle.lnfs_operations.specs.ReadDir.{Arguments, read_dir}
use Rattle.lnfs_operations.specs.ReadLink.{read_link}
use Rattle.lnfs_operations.specs.declared.Refusal.{Refusal}
use Rattle.lnfs_tree.specs.declared.node.NodeId.{NodeId}
use Rattle.lnfs_nodes.specs.Trees.{with_tree, answered, stays, goes, saves}
use Rattle.lnfs_nodes.specs.Accesses.{granted_of}
use Rattle.lnfs_nodes.specs.Walks.{listing_result}
use Rattle.lnfs_engine.specs.declared.place.Place as code_place
use Rattle.lnfs_engine.specs.declared.place.Keeper as code
use Rattle.lnfs_engine.specs.declared.reply.Came.{Came}
use Rattle.lnfs_engine.specs.Places.{place_of}
use Rattle.lnfs_engine.specs.Replies.{Acts, IsBare, own_of, SaysWritten}
use Rattle.lnfs_engine.specs.Performs.{site_in, sent_of, turn, Performs}
use Rattle.lnfs_engine.specs.Nodes.{told_as, bare_of, goes_to, saves_as}
use Rattle.lnfs_engine.specs.Counts.{AreAsMany}
use Rattle.lnfs_engine.proofs.Acting.{some_world}
use Rattle.lnfs_engine.proofs.Counting.{many_counts}
use Rattle.lnfs_engine.proofs.NamesCounts.{read_link_many, read_dir_many}
use Rattle.lnfs_engine.proofs.Telling.{told_on, bare_said}
use Rattle.lnfs_engine.proofs.OnNodes.{goes_acts, saves_acts, stays_acts, wrote_performs}
use Rattle.lnfs_engine.proofs.nodes.on_nodes.Goals as goal

-- what is told where nothing of what was found is
bare_told : {A : Type 0} (told : OpResult) (found : Result A Refusal) → told_as (λ it. told) (bare_of found) ≡ told_as (λ a. told) found
bare_told told (Ok a) = refl
bare_told told (Err why) = refl

-- the results with nothing behind their status
bare_put_fh : (handle : List ℕ) → IsBare (ops.PutFh handle) results.PutFh
unfolding result_text fields_text
bare_put_fh handle = (refl, refl)

bare_put_root_fh : IsBare ops.PutRootFh results.PutRootFh
unfolding result_text fields_text
bare_put_root_fh = (refl, refl)

bare_save_fh : IsBare ops.SaveFh results.SaveFh
unfolding result_text fields_text
bare_save_fh = (refl, refl)

bare_restore_fh : IsBare ops.RestoreFh results.RestoreFh
unfolding result_text fields_text
bare_restore_fh = (refl, refl)

bare_lookup : (name : List ℕ) → IsBare (ops.Lookup name) results.Lookup
unfolding result_text fields_text
bare_lookup name = (refl, refl)

bare_lookupp : IsBare ops.LookupP results.LookupP
unfolding result_text fields_text
bare_lookupp = (refl, refl)

bare_verify : (given : RawAttrs) → IsBare (ops.Verify given) results.Verify
unfolding result_text fields_text
bare_verify given = (refl, refl)

bare_nverify : (given : RawAttrs) → IsBare (ops.NVerify given) results.NVerify
unfolding result_text fields_text
bare_nverify given = (refl, refl)

-- what stays at a node, and what is saved
stayed : {A R : Type 0} (op : Op) (result : R → OpResult) (seen : A → R) (p : Place) (found : Result A Refusal) (answer : Result OpResult Refusal) (o : Outcome (Answer R)) (w : World) → o ≡ stays p (answered seen found) → answer ≡ told_as (λ a. result (seen a)) found →
    Acts (replied op (λ r. success (result r) Nowhere) o) (own_of op Nowhere answer) p w w
stayed op result seen p found answer o w is same = subst (λ a. Acts (replied op (λ r. success (result r) Nowhere) o) (own_of op Nowhere a) p w w) (sym same) (stays_acts op w result seen p found o is)

saved : (op : Op) (p next : code_place.Place) (found : Result NodeId Refusal) (ended : Result (Unit {0}) Refusal) (o : Outcome (Answer (Unit {0}))) (w : World) → o ≡ saves (place_of p) found → ended ≡ bare_of found → next ≡ saves_as p found →
    Acts (replied op (plainly results.SaveFh) o) (own_of op Nowhere (told_as (λ it. results.SaveFh) ended)) (place_of next) w w
saved op p next found ended o w is same place =
    subst (λ a. Acts (replied op (plainly results.SaveFh) o) (own_of op Nowhere a) (place_of next) w w) (sym (ap (told_as (λ it. results.SaveFh)) same ∙ bare_told results.SaveFh found)) (subst (λ q. Acts (replied op (plainly results.SaveFh) o) (own_of op Nowhere (told_as (λ i. results.SaveFh) found)) (place_of q) w w) (sym place) (saves_acts op w results.SaveFh p found o is))

-- what goes to a node, by how the code ended
went : (op : Op) (told : OpResult) (p next : code_place.Place) (found : Result NodeId Refusal) (ended : Result (Unit {0}) Refusal) (o : Outcome (Answer (Unit {0}))) (w : World) → o ≡ goes (place_of p) found → ended ≡ bare_of found → next ≡ goes_to p found →
    Acts (replied op (plainly told) o) (own_of op Nowhere (told_as (λ it. told) ended)) (place_of next) w w
went op told p next found ended o w is same place =
    subst (λ a. Acts (replied op (plainly told) o) (own_of op Nowhere a) (place_of next) w w) (sym (ap (told_as (λ it. told)) same ∙ bare_told told found)) (subst (λ q. Acts (replied op (plainly told) o) (own_of op Nowhere (told_as (λ i. told) found)) (place_of q) w w) (sym place) (goes_acts op w told p found o is))

pub returns-in-PutFh-clause-performs : goal.returns-in-PutFh-clause-performs
returns-in-PutFh-clause-performs c =
    let r = c.args.request.now in
    let p = place_of c.args.place.now in
    let handle = c.as_slice.result.now in
    let op = ops.PutFh handle in
    let is : c.args.op.now ≡ op = c.in-PutFh.is ∙ ap ops.PutFh (sym c.as_slice.ensures) in
    let said = c.say_bare in
    told_on r.begin c.args.out.now said.new.out (site_in r) (sent_of r) c.args.op.now op p (place_of c.go.new.place) (told_as (λ it. results.PutFh) c.go.result) is said.result
    (bare_said c.args.out.now said.new.out c.args.op.now op results.PutFh c.go.result is said.result said.ensures (bare_put_fh handle))
    c.args.tree.now (λ rest. went op results.PutFh c.args.place.now c.go.new.place c.put_fh-found.result c.go.result _ _ (c.put_fh-found.ensures p rest) c.go.ensures.ended c.go.ensures.place)

pub returns-in-PutRootFh-clause-performs : goal.returns-in-PutRootFh-clause-performs
returns-in-PutRootFh-clause-performs c =
    let r = c.args.request.now in
    let p = place_of c.args.place.now in
    let root = c.put_root_fh-root.result in
    let said = c.say_bare-in-PutRootFh in
    let go = c.go-in-PutRootFh in
    told_on r.begin c.args.out.now said.new.out (site_in r) (sent_of r) c.args.op.now ops.PutRootFh p (place_of go.new.place) (told_as (λ it. results.PutRootFh) go.result) c.in-PutRootFh.is said.result
    (bare_said c.args.out.now said.new.out c.args.op.now ops.PutRootFh results.PutRootFh go.result c.in-PutRootFh.is said.result said.ensures bare_put_root_fh)
    c.args.tree.now (λ rest. went ops.PutRootFh results.PutRootFh c.args.place.now go.new.place (Ok root) go.result _ _ (c.put_root_fh-root.ensures p (with_tree rest c.args.tree.now)) go.ensures.ended go.ensures.place)

pub returns-in_ok-answer-in-GetFh-clause-performs : goal.returns-in_ok-answer-in-GetFh-clause-performs
returns-in_ok-answer-in-GetFh-clause-performs c =
    let r = c.args.request.now in
    let p = place_of c.args.place.now in
    let said = c.say in
    let answer = c.in_ok-answer-in-GetFh in
    told_on r.begin c.args.out.now said.new.out (site_in r) (sent_of r) c.args.op.now ops.GetFh p p answer.answer c.in-GetFh.is said.result said.ensures
    c.args.tree.now (λ rest. stayed ops.GetFh results.GetFh (λ (handle : List ℕ). handle) p c.get_fh.result answer.answer _ _ (c.get_fh.ensures p rest) answer.ensures.answer)

pub returns-in-SaveFh-clause-performs : goal.returns-in-SaveFh-clause-performs
returns-in-SaveFh-clause-performs c =
    let r = c.args.request.now in
    let p = place_of c.args.place.now in
    let said = c.say_bare-in-SaveFh in
    told_on r.begin c.args.out.now said.new.out (site_in r) (sent_of r) c.args.op.now ops.SaveFh p (place_of c.save.new.place) (told_as (λ it. results.SaveFh) c.save.result) c.in-SaveFh.is said.result
    (bare_said c.args.out.now said.new.out c.args.op.now ops.SaveFh results.SaveFh c.save.result c.in-SaveFh.is said.result said.ensures bare_save_fh)
    c.args.tree.now (λ rest. saved ops.SaveFh c.args.place.now c.save.new.place c.save_fh-found.result c.save.result _ _ (c.save_fh-found.ensures p rest) c.save.ensures.ended c.save.ensures.place)

pub returns-in-RestoreFh-clause-performs : goal.returns-in-RestoreFh-clause-performs
returns-in-RestoreFh-clause-performs c =
    let r = c.args.request.now in
    let p = place_of c.args.place.now in
    let said = c.say_bare-in-RestoreFh in
    let go = c.go-in-RestoreFh in
    told_on r.begin c.args.out.now said.new.out (site_in r) (sent_of r) c.args.op.now ops.RestoreFh p (place_of go.new.place) (told_as (λ it. results.RestoreFh) go.result) c.in-RestoreFh.is said.result
    (bare_said c.args.out.now said.new.out c.args.op.now ops.RestoreFh results.RestoreFh go.result c.in-RestoreFh.is said.result said.ensures bare_restore_fh)
    c.args.tree.now (λ rest. went ops.RestoreFh results.RestoreFh c.args.place.now go.new.place c.restore_fh-found.result go.result _ _ (c.restore_fh-found.ensures p (with_tree rest c.args.tree.now)) go.ensures.ended go.ensures.place)

pub returns-in-Lookup-clause-performs : goal.returns-in-Lookup-clause-performs
returns-in-Lookup-clause-performs c =
    let r = c.args.request.now in
    let p = place_of c.args.place.now in
    let said = c.say_bare-in-Lookup in
    let go = c.go-in-Lookup in
    let name = c.as_slice-in-Lookup in
    let op = ops.Lookup name.result.now in
    told_on r.begin c.args.out.now said.new.out (site_in r) (sent_of r) c.args.op.now op p (place_of go.new.place) (told_as (λ it. results.Lookup) go.result) (c.in-Lookup.is ∙ ap ops.Lookup (sym name.ensures)) said.result
    (bare_said c.args.out.now said.new.out c.args.op.now op results.Lookup go.result (c.in-Lookup.is ∙ ap ops.Lookup (sym name.ensures)) said.result said.ensures (bare_lookup name.result.now))
    c.args.tree.now (λ rest. went op results.Lookup c.args.place.now go.new.place c.lookup-found.result go.result _ _ (c.lookup-found.ensures p rest) go.ensures.ended go.ensures.place)

pub returns-in-LookupP-clause-performs : goal.returns-in-LookupP-clause-performs
returns-in-LookupP-clause-performs c =
    let r = c.args.request.now in
    let p = place_of c.args.place.now in
    let said = c.say_bare-in-LookupP in
    let go = c.go-in-LookupP in
    told_on r.begin c.args.out.now said.new.out (site_in r) (sent_of r) c.args.op.now ops.LookupP p (place_of go.new.place) (told_as (λ it. results.LookupP) go.result) c.in-LookupP.is said.result
    (bare_said c.args.out.now said.new.out c.args.op.now ops.LookupP results.LookupP go.result c.in-LookupP.is said.result said.ensures bare_lookupp)
    c.args.tree.now (λ rest. went ops.LookupP results.LookupP c.args.place.now go.new.place c.lookup_parent-found.result go.result _ _ (c.lookup_parent-found.ensures p rest) go.ensures.ended go.ensures.place)

pub returns-in-Access-clause-performs : goal.returns-in-Access-clause-performs
returns-in-Access-clause-performs c =
    let r = c.args.request.now in
    let p = place_of c.args.place.now in
    let said = c.say-in-Access in
    let op = ops.Access c.in-Access.bits in
    told_on r.begin c.args.out.now said.new.out (site_in r) (sent_of r) c.args.op.now op p p c.tell_access.result c.in-Access.is said.result said.ensures
    c.args.tree.now (λ rest. stayed op (λ (told : Granted). results.Access told.supported told.granted) granted_of p c.access-told.result c.tell_access.result _ _ (c.access-told.ensures p rest) c.tell_access.ensures.answer)

pub returns-in_ok-answer-in-ReadLink-clause-performs : goal.returns-in_ok-answer-in-ReadLink-clause-performs
returns-in_ok-answer-in-ReadLink-clause-performs c =
    let r = c.args.request.now in
    let p = place_of c.args.place.now in
    let answer = c.in_ok-answer-in-ReadLink in
    let before = c.args.tree.now in
    let after = c.read_link.new.tree in
    let Goal : Op → Came → Type 0 = λ op came. (keeper : code.Keeper) (rest : World) → Performs r.begin c.args.out.now c.wrote.new.out keeper keeper p (with_tree rest after) (turn (site_in r) (sent_of r) op p (with_tree rest before)) came in
    IfOk-weaker c.wrote.result _ (Goal c.args.op.now)
    (λ came more. subst (λ o. Goal o came) (sym c.in-ReadLink.is) (λ keeper rest.
    wrote_performs results.ReadLink (λ text. refl) ops.ReadLink r.begin c.args.out.now c.read_link.new.out c.wrote.new.out keeper p (with_tree rest before) (with_tree rest after) (read_link (site_in r) p (with_tree rest before)) answer.answer came (answer.ensures.writes p rest) (subst (λ o. SaysWritten c.read_link.new.out c.wrote.new.out o answer.answer came) c.in-ReadLink.is more)))
    c.wrote.ensures

pub returns-in_ok-answer-in-GetAttr-clause-performs : goal.returns-in_ok-answer-in-GetAttr-clause-performs
returns-in_ok-answer-in-GetAttr-clause-performs c =
    let r = c.args.request.now in
    let p = place_of c.args.place.now in
    let tree = c.args.tree.now in
    let asked = c.in-GetAttr.asked in
    let answer = c.in_ok-answer-in-GetAttr in
    let out = c.get_attr.new.out in
    let said = c.wrote-in-GetAttr in
    let Goal : Op → Came → Type 0 = λ op came. (keeper : code.Keeper) (rest : World) → Performs r.begin c.args.out.now said.new.out keeper keeper p (with_tree rest tree) (turn (site_in r) (sent_of r) op p (with_tree rest tree)) came in
    IfOk-weaker said.result _ (Goal c.args.op.now)
    (λ came more. subst (λ o. Goal o came) (sym c.in-GetAttr.is) (λ keeper rest.
    wrote_performs results.GetAttr (λ given. refl) (ops.GetAttr asked) r.begin c.args.out.now out said.new.out keeper p (with_tree rest tree) (with_tree rest tree) (get_attr (site_in r) asked p (with_tree rest tree)) answer.answer came (answer.ensures p rest) (subst (λ o. SaysWritten out said.new.out o answer.answer came) c.in-GetAttr.is more)))
    said.ensures

pub returns-in_ok-answer-in-ReadDir-clause-performs : goal.returns-in_ok-answer-in-ReadDir-clause-performs
returns-in_ok-answer-in-ReadDir-clause-performs c =
    let r = c.args.request.now in
    let p = place_of c.args.place.now in
    let before = c.args.tree.now in
    let after = c.read_dir.new.tree in
    let args = c.in-ReadDir in
    let asked : Arguments = record { cookie = args.cookie; maxcount = args.maxcount; asked = args.asked } in
    let op = ops.ReadDir args.cookie args.verifier args.dircount args.maxcount args.asked in
    let answer = c.in_ok-answer-in-ReadDir in
    let out = c.read_dir.new.out in
    let said = c.wrote-in-ReadDir in
    let Goal : Op → Came → Type 0 = λ o came. (keeper : code.Keeper) (rest : World) → Performs r.begin c.args.out.now said.new.out keeper keeper p (with_tree rest after) (turn (site_in r) (sent_of r) o p (with_tree rest before)) came in
    IfOk-weaker said.result _ (Goal c.args.op.now)
    (λ came more. subst (λ o. Goal o came) (sym args.is) (λ keeper rest.
    wrote_performs listing_result (λ found. refl) op r.begin c.args.out.now out said.new.out keeper p (with_tree rest before) (with_tree rest after) (read_dir (site_in r) asked p (with_tree rest before)) answer.answer came (answer.ensures.writes p rest c.requires.facts.entries_rise) (subst (λ o. SaysWritten out said.new.out o answer.answer came) args.is more)))
    said.ensures

pub returns-in_ok-answer-in-Verify-clause-performs : goal.returns-in_ok-answer-in-Verify-clause-performs
returns-in_ok-answer-in-Verify-clause-performs c =
    let r = c.args.request.now in
    let p = place_of c.args.place.now in
    let given = c.in-Verify.attrs in
    let answer = c.in_ok-answer-in-Verify in
    let said = c.say_bare-in-Verify in
    let op = ops.Verify given in
    told_on r.begin c.args.out.now said.new.out (site_in r) (sent_of r) c.args.op.now op p p (told_as (λ it. results.Verify) answer.answer) c.in-Verify.is said.result
    (bare_said c.args.out.now said.new.out c.args.op.now op results.Verify answer.answer c.in-Verify.is said.result said.ensures (bare_verify given))
    c.args.tree.now (λ rest. stayed op (λ it. results.Verify) (λ (it : Unit {0}). it) p answer.answer (told_as (λ it. results.Verify) answer.answer) _ _ (answer.ensures p rest) refl)

pub returns-in_ok-answer-in-NVerify-clause-performs : goal.returns-in_ok-answer-in-NVerify-clause-performs
returns-in_ok-answer-in-NVerify-clause-performs c =
    let r = c.args.request.now in
    let p = place_of c.args.place.now in
    let given = c.in-NVerify.attrs in
    let answer = c.in_ok-answer-in-NVerify in
    let said = c.say_bare-in-NVerify in
    let op = ops.NVerify given in
    told_on r.begin c.args.out.now said.new.out (site_in r) (sent_of r) c.args.op.now op p p (told_as (λ it. results.NVerify) answer.answer) c.in-NVerify.is said.result
    (bare_said c.args.out.now said.new.out c.args.op.now op results.NVerify answer.answer c.in-NVerify.is said.result said.ensures (bare_nverify given))
    c.args.tree.now (λ rest. stayed op (λ it. results.NVerify) (λ (it : Unit {0}). it) p answer.answer (told_as (λ it. results.NVerify) answer.answer) _ _ (answer.ensures p rest) refl)

-- ---- what is counted

pub returns-in_ok-answer-in-ReadLink-clause-counts : goal.returns-in_ok-answer-in-ReadLink-clause-counts
returns-in_ok-answer-in-ReadLink-clause-counts c =
    let p = place_of c.args.place.now in
    let t = c.args.tree.now in
    let u = c.read_link.new.tree in
    many_counts c.args.quota.now t.nodes u.nodes c.requires.counts
    (subst (λ (w : World). AreAsMany t.nodes w.nodes) (sym (c.in_ok-answer-in-ReadLink.ensures.writes p some_world).world) (read_link_many (site_in c.args.request.now) p some_world t c.requires.facts))

pub returns-in_ok-answer-in-ReadDir-clause-counts : goal.returns-in_ok-answer-in-ReadDir-clause-counts
returns-in_ok-answer-in-ReadDir-clause-counts c =
    let p = place_of c.args.place.now in
    let t = c.args.tree.now in
    let u = c.read_dir.new.tree in
    let args = c.in-ReadDir in
    let asked : Arguments = record { cookie = args.cookie; maxcount = args.maxcount; asked = args.asked } in
    many_counts c.args.quota.now t.nodes u.nodes c.requires.counts
    (subst (λ (w : World). AreAsMany t.nodes w.nodes) (sym (c.in_ok-answer-in-ReadDir.ensures.writes p some_world c.requires.facts.entries_rise).world) (read_dir_many (site_in c.args.request.now) p some_world t c.requires.facts asked))
