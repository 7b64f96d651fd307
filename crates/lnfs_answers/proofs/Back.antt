-- From what a record is to what it is told to be.
use Rattle.std.proofs.Common.{◌≡◌, ℕ, List, [], true, false, eqb, Option, Some, None, Result, Ok, Err, refl, sym, subst, inl, inr, arith}
use Rattle.std.specs.Str.{bytes_eq}
use Rattle.std.proofs.lemmas.List.{append-nil}
use Rattle.std.proofs.lemmas.Slice.Eq.{bytes_eq-Decides}
use Rattle.lnfs_types.specs.declared.limits.TheConstants.{LABEL_LIMIT, RECORD_LIMIT}
use Rattle.lnfs_xdr.specs.Format.{Boolean, Among, Opaque}
use Rattle.lnfs_xdr.specs.Message.{Closed, Unread, Tells, parse}
use Rattle.lnfs_xdr.proofs.Fields.{IsBytes, IsBytes-back}
use Rattle.lnfs_xdr.proofs.Messages.{tells, told}
use Rattle.lnfs_policy.specs.declared.rows.Parent.{Parent}
use Rattle.lnfs_rpc.specs.Calls.{auth}
use Rattle.lnfs_rpc.specs.CallGrammar.{Begins}
use Rattle.lnfs_arguments.specs.Whole.{chosen}
use Rattle.lnfs_gss3.specs.Mechanism.{Signing}
use Rattle.lnfs_answers.specs.declared.numbers.TheConstants.{SUCCESS}
use Rattle.lnfs_answers.specs.declared.request.Heard.{Heard}
use Rattle.lnfs_answers.specs.declared.request.Heard.TheVariants as heards
use Rattle.lnfs_answers.specs.Replies.{Wanted, results, context, ending, Asked, opening, denial, handle_opaque, assertion_start, is_verifier, content, inner, wrapped, behind_body, body, before_databody, denied, accepted, judged, behind_verifier, behind_handle, to_label, reply}
use Rattle.lnfs_answers.specs.Hearing.{IsContent, IsSigned, IsBody, IsAnswered, IsDenied, IsOther}
use Rattle.lnfs_answers.proofs.Items.{next_tells, such_tells, next_told, such_told, opaque_fits}

equal_is : (a : List ℕ) → bytes_eq a a ≡ true
equal_is a = grind (arith, bytes_eq-Decides)

content_told : (w : Wanted) (h : Heard) (bytes : List ℕ) → IsContent w h bytes → Tells (content w) h bytes
content_told (results awaited) h bytes t = inl (t.0, bytes, [], t.2, sym (append-nil bytes), (t.1, refl))
content_told (context lfs pi label) h bytes t =
    let hb = t.1 in
    let n = hb.4 in
    let nb = n.1 in
    let lb = nb.4 in
    let l : Tells (to_label label t.0) h nb.1 = such_told (Opaque LABEL_LIMIT) (λ same. bytes_eq same label) (λ same. Closed (heards.Granted t.0)) h nb.1 label (equal_is label) (lb.0, lb.1, lb.2, lb.3, lb.4) in
    let b : Tells (behind_handle lfs pi label t.0) h hb.1 = next_told (assertion_start lfs pi) (λ policy. to_label label t.0) (λ e. absurd e) h hb.1 n.0 (nb.0, nb.1, nb.2, nb.3, l) in
    next_told handle_opaque (λ handle. behind_handle lfs pi label handle) (λ e. absurd e) h bytes t.0 (hb.0, hb.1, hb.2, hb.3, b)
content_told ending h bytes t = t

-- ---- signed

inner_told : (xid : ℕ) (w : Wanted) (h : Heard) (databody : List ℕ) → ((sequence : ℕ) × Begins {E = ⊥} (Among (λ n. eqb n xid)) sequence databody (λ said. IsContent w h said)) → Tells (inner xid w) h databody
unfolding inner
inner_told xid w h databody t =
    let b = t.1 in
    next_told (Among (λ n. eqb n xid)) (λ sequence. content w) (λ e. absurd e) h databody t.0 (b.0, b.1, b.2, b.3, content_told w h b.1 b.4)

signed_told : (m : Signing) (parent : Parent) (base xid : ℕ) (w : Wanted) (h : Heard) (bytes : List ℕ) → IsBytes bytes → IsSigned m parent xid w h bytes → Tells (wrapped m parent base xid w) h bytes
unfolding wrapped
signed_told m parent base xid w h bytes fits t =
    let ob = t.2 in
    let c = ob.4 in
    let cb = c.2 in
    let e : parse (inner xid w) t.0 ≡ Ok h = told (inner xid w) t.0 h (opaque_fits RECORD_LIMIT t.0 ob.0 ob.1 bytes ob.2 ob.3 fits) (inner_told xid w h t.0 t.1) in
    let checked : Tells (behind_body m parent base t.0 (Ok h)) h ob.1 = such_told (Opaque RECORD_LIMIT) (λ checksum. m.good parent t.0 checksum) (λ checksum. Closed h) h ob.1 c.0 c.1 (cb.0, cb.1, cb.2, cb.3, (refl, cb.4)) in
    let behind : Tells (behind_body m parent base t.0 (parse (inner xid w) t.0)) h ob.1 = subst (λ (r : Result Heard (List ℕ)). Tells (behind_body m parent base t.0 r) h ob.1) (sym e) checked in
    next_told (Opaque RECORD_LIMIT) (λ databody. behind_body m parent base databody (parse (inner xid w) databody)) (λ e. absurd e) h bytes t.0 (ob.0, ob.1, ob.2, ob.3, behind)

body_told : (m : Signing) (signer : Option Parent) (base xid : ℕ) (w : Wanted) (h : Heard) (bytes : List ℕ) → IsBytes bytes → IsBody m signer xid w h bytes → Tells (body m signer base xid w) h bytes
body_told m None base xid w h bytes fits t = content_told w h bytes t
body_told m (Some parent) base xid ending h bytes fits t = content_told ending h bytes t
body_told m (Some parent) base xid (results awaited) h bytes fits t = signed_told m parent base xid (results awaited) h bytes fits t
body_told m (Some parent) base xid (context lfs pi label) h bytes fits t = signed_told m parent base xid (context lfs pi label) h bytes fits t

-- ---- the whole

pub answered_told : (m : Signing) (a : Asked) (h : Heard) (bytes : List ℕ) → IsBytes bytes → IsAnswered m a h bytes → Tells (reply m a) h bytes
unfolding reply accepted
answered_told m a h bytes fits t =
    let nb = t.4 in
    let v = nb.4 in
    let vb = v.2 in
    let s = vb.4 in
    let sb = s.1 in
    let f = IsBytes-back sb.0 sb.1 vb.1 sb.3 (IsBytes-back vb.0 vb.1 nb.1 vb.3 (IsBytes-back nb.0 nb.1 t.1 nb.3 (IsBytes-back t.0 t.1 bytes t.3 fits))) in
    let b : Tells (body m a.signer (before_databody v.0) a.xid a.wants) h sb.1 = body_told m a.signer (before_databody v.0) a.xid a.wants h sb.1 f sb.4 in
    let good : Tells (behind_verifier m a v.0) h vb.1 = next_told (Among (λ n. eqb n SUCCESS)) (λ stat. body m a.signer (before_databody v.0) a.xid a.wants) (λ e. absurd e) h vb.1 s.0 (sb.0, sb.1, sb.2, sb.3, b) in
    let verified : Tells (accepted m a) h nb.1 = such_told auth (is_verifier m a.signer a.header) (λ v. behind_verifier m a v) h nb.1 v.0 v.1 (vb.0, vb.1, vb.2, vb.3, good) in
    let agreed : Tells (judged m a) h t.1 = next_told Boolean (λ no. chosen no denied (accepted m a)) (λ e. absurd e) h t.1 false (nb.0, nb.1, nb.2, nb.3, verified) in
    next_told (opening a.xid) (λ own. chosen own (judged m a) (Unread heards.Other)) (λ e. absurd e) h bytes true (t.0, t.1, t.2, t.3, agreed)

pub denied_told : (m : Signing) (a : Asked) (stat : ℕ) (bytes : List ℕ) → IsDenied a stat bytes → Tells (reply m a) (heards.Denied stat) bytes
unfolding reply denied
denied_told m a stat bytes t =
    let nb = t.4 in
    let d = nb.4 in
    let ended : Tells denied (heards.Denied stat) nb.1 = next_told denial (λ stat. Closed (heards.Denied stat)) (λ e. absurd e) (heards.Denied stat) nb.1 stat (d.0, d.1, d.2, d.3, (refl, d.4)) in
    let refused : Tells (judged m a) (heards.Denied stat) t.1 = next_told Boolean (λ no. chosen no denied (accepted m a)) (λ e. absurd e) (heards.Denied stat) t.1 true (nb.0, nb.1, nb.2, nb.3, ended) in
    next_told (opening a.xid) (λ own. chosen own (judged m a) (Unread heards.Other)) (λ e. absurd e) (heards.Denied stat) bytes true (t.0, t.1, t.2, t.3, refused)

pub other_told : (m : Signing) (a : Asked) (bytes : List ℕ) → IsOther a bytes → Tells (reply m a) heards.Other bytes
unfolding reply
other_told m a bytes t = next_told (opening a.xid) (λ own. chosen own (judged m a) (Unread heards.Other)) (λ e. absurd e) heards.Other bytes false (t.0, t.1, t.2, t.3, refl)

-- ---- what an accepted reply never is

abbrev OfBody : Heard → Type 0
OfBody (heards.Said s) = Unit {0}
OfBody (heards.Granted handle) = Unit {0}
OfBody heards.Ended = Unit {0}
OfBody (heards.Bad at) = Unit {0}
OfBody heards.Other = ⊥
OfBody (heards.Denied stat) = ⊥

content_is : (w : Wanted) (h : Heard) (bytes : List ℕ) → Tells (content w) h bytes → OfBody h
content_is (results awaited) h bytes t =
    elim t [
      | inl p ↦ subst OfBody p.5.0 tt
      | inr p ↦ subst OfBody p.2 tt
    ]
content_is (context lfs pi label) h bytes t =
    let s = next_tells handle_opaque (λ handle. behind_handle lfs pi label handle) (λ e. absurd e) h bytes t in
    let n = next_tells (assertion_start lfs pi) (λ policy. to_label label s.0) (λ e. absurd e) h s.1.1 s.1.4 in
    let l = such_tells (Opaque LABEL_LIMIT) (λ same. bytes_eq same label) (λ same. Closed (heards.Granted s.0)) h n.1.1 n.1.4 in
    subst OfBody l.2.4.0 tt
content_is ending h bytes t = subst OfBody t.0 tt

inner_is : (xid : ℕ) (w : Wanted) (h : Heard) (databody : List ℕ) → Tells (inner xid w) h databody → OfBody h
unfolding inner
inner_is xid w h databody t =
    let n = next_tells (Among (λ n. eqb n xid)) (λ sequence. content w) (λ e. absurd e) h databody t in
    content_is w h n.1.1 n.1.4

behind_is : (m : Signing) (parent : Parent) (base xid : ℕ) (w : Wanted) (h : Heard) (databody signed : List ℕ) → IsBytes databody → (r : Result Heard (List ℕ)) → parse (inner xid w) databody ≡ r → Tells (behind_body m parent base databody r) h signed → OfBody h
behind_is m parent base xid w h databody signed fits (Ok x) e t =
    let c = such_tells (Opaque RECORD_LIMIT) (λ checksum. m.good parent databody checksum) (λ checksum. Closed x) h signed t in
    subst OfBody c.2.4.0 (inner_is xid w x databody (tells (inner xid w) databody x fits e))
behind_is m parent base xid w h databody signed fits (Err stuck) e t = subst OfBody t tt

wrapped_is : (m : Signing) (parent : Parent) (base xid : ℕ) (w : Wanted) (h : Heard) (bytes : List ℕ) → IsBytes bytes → Tells (wrapped m parent base xid w) h bytes → OfBody h
unfolding wrapped
wrapped_is m parent base xid w h bytes fits t =
    let o = next_tells (Opaque RECORD_LIMIT) (λ databody. behind_body m parent base databody (parse (inner xid w) databody)) (λ e. absurd e) h bytes t in
    let ob = o.1 in
    behind_is m parent base xid w h o.0 ob.1 (opaque_fits RECORD_LIMIT o.0 ob.0 ob.1 bytes ob.2 ob.3 fits) (parse (inner xid w) o.0) refl ob.4

body_is : (m : Signing) (signer : Option Parent) (base xid : ℕ) (w : Wanted) (h : Heard) (bytes : List ℕ) → IsBytes bytes → Tells (body m signer base xid w) h bytes → OfBody h
body_is m None base xid w h bytes fits t = content_is w h bytes t
body_is m (Some parent) base xid ending h bytes fits t = content_is ending h bytes t
body_is m (Some parent) base xid (results awaited) h bytes fits t = wrapped_is m parent base xid (results awaited) h bytes fits t
body_is m (Some parent) base xid (context lfs pi label) h bytes fits t = wrapped_is m parent base xid (context lfs pi label) h bytes fits t

pub accepted_is : (m : Signing) (a : Asked) (h : Heard) (bytes : List ℕ) → IsBytes bytes → Tells (accepted m a) h bytes → OfBody h
unfolding accepted
accepted_is m a h bytes fits t =
    let v = such_tells auth (is_verifier m a.signer a.header) (λ v. behind_verifier m a v) h bytes t in
    let vb = v.2 in
    let s = next_tells (Among (λ n. eqb n SUCCESS)) (λ stat. body m a.signer (before_databody v.0) a.xid a.wants) (λ e. absurd e) h vb.1 vb.4 in
    let sb = s.1 in
    body_is m a.signer (before_databody v.0) a.xid a.wants h sb.1 (IsBytes-back sb.0 sb.1 vb.1 sb.3 (IsBytes-back vb.0 vb.1 bytes vb.3 fits)) sb.4
