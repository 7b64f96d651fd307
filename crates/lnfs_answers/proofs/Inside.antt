-- A record that is wrong inside what is signed.
use Rattle.std.proofs.Common.{◌≡◌, ℕ, ◌-◌, ◌+◌, List, length, Bool, true, false, eqb, Option, Some, None, Result, Ok, Err, refl, sym, subst, ◌∙◌, ap, inl, inr, arith}
use Rattle.std.specs.Str.{bytes_eq}
use Rattle.lnfs_types.specs.declared.limits.TheConstants.{LABEL_LIMIT, RECORD_LIMIT}
use Rattle.lnfs_xdr.specs.Format.{Boolean, Among, Opaque, Spells}
use Rattle.lnfs_xdr.specs.Message.{Message, Closed, Unread, Tells, RefusesAt, parse}
use Rattle.lnfs_xdr.proofs.Fields.{IsBytes, IsBytes-back}
use Rattle.lnfs_xdr.proofs.Messages.{tells, refuses, refused, refused_short}
use Rattle.lnfs_policy.specs.declared.rows.Parent.{Parent}
use Rattle.lnfs_rpc.specs.Calls.{auth}
use Rattle.lnfs_arguments.specs.Whole.{chosen}
use Rattle.lnfs_gss3.specs.Mechanism.{Signing}
use Rattle.lnfs_answers.specs.declared.numbers.TheConstants.{SUCCESS}
use Rattle.lnfs_answers.specs.declared.request.Heard.{Heard}
use Rattle.lnfs_answers.specs.declared.request.Heard.TheVariants as heards
use Rattle.lnfs_answers.specs.Replies.{Wanted, results, context, ending, Asked, opening, denial, handle_opaque, assertion_start, is_verifier, content, inner, wrapped, behind_body, body, before_databody, denied, accepted, judged, behind_verifier, behind_handle, to_label, reply}
use Rattle.lnfs_answers.specs.Hearing.{IsWrongSigned, IsWrongBody, IsWrongInside}
use Rattle.lnfs_answers.proofs.Items.{next_tells, next_told, such_tells, such_told, opaque_fits}

abbrev pub NotBad : Heard → Type 0
NotBad (heards.Bad at) = ⊥
NotBad (heards.Said s) = Unit {0}
NotBad (heards.Granted handle) = Unit {0}
NotBad heards.Ended = Unit {0}
NotBad heards.Other = Unit {0}
NotBad (heards.Denied stat) = Unit {0}

content_fine : (w : Wanted) (h : Heard) (bytes : List ℕ) → Tells (content w) h bytes → NotBad h
content_fine (results awaited) h bytes t =
    elim t [
      | inl p ↦ subst NotBad p.5.0 tt
      | inr p ↦ subst NotBad p.2 tt
    ]
content_fine (context lfs pi label) h bytes t =
    let s = next_tells handle_opaque (λ handle. behind_handle lfs pi label handle) (λ e. absurd e) h bytes t in
    let n = next_tells (assertion_start lfs pi) (λ policy. to_label label s.0) (λ e. absurd e) h s.1.1 s.1.4 in
    let l = such_tells (Opaque LABEL_LIMIT) (λ same. bytes_eq same label) (λ same. Closed (heards.Granted s.0)) h n.1.1 n.1.4 in
    subst NotBad l.2.4.0 tt
content_fine ending h bytes t = subst NotBad t.0 tt

inner_fine : (xid : ℕ) (w : Wanted) (h : Heard) (databody : List ℕ) → Tells (inner xid w) h databody → NotBad h
unfolding inner
inner_fine xid w h databody t =
    let n = next_tells (Among (λ n. eqb n xid)) (λ sequence. content w) (λ e. absurd e) h databody t in
    content_fine w h n.1.1 n.1.4

same_at : (a b : ℕ) → heards.Bad a ≡ heards.Bad b → a ≡ b
same_at a b e = cc

abbrev Faults : (base xid : ℕ) → Wanted → (at : ℕ) → List ℕ → Type 0
Faults base xid w at databody = (k : ℕ) × RefusesAt (inner xid w) databody k × (base + k ≡ at)

by_inner : (m : Signing) (parent : Parent) (base xid : ℕ) (w : Wanted) (at : ℕ) (databody signed : List ℕ) → IsBytes databody → (r : Result Heard (List ℕ)) → parse (inner xid w) databody ≡ r
    → Tells (behind_body m parent base databody r) (heards.Bad at) signed → Faults base xid w at databody
by_inner m parent base xid w at databody signed fits (Ok x) e t =
    let c = such_tells (Opaque RECORD_LIMIT) (λ checksum. m.good parent databody checksum) (λ checksum. Closed x) (heards.Bad at) signed t in
    absurd (subst NotBad c.2.4.0 (inner_fine xid w x databody (tells (inner xid w) databody x fits e)))
by_inner m parent base xid w at databody signed fits (Err stuck) e t =
    let r = refuses (inner xid w) databody stuck fits e in
    let short = refused_short (inner xid w) databody stuck r in
    let k : ℕ = length databody - length stuck in
    (k, (stuck, r, omega (arith, short)), same_at (base + k) at t)

signed_tells : (m : Signing) (parent : Parent) (base xid : ℕ) (w : Wanted) (at : ℕ) (bytes : List ℕ) → IsBytes bytes → Tells (wrapped m parent base xid w) (heards.Bad at) bytes → IsWrongSigned base xid w at bytes
unfolding wrapped
signed_tells m parent base xid w at bytes fits t =
    let o = next_tells (Opaque RECORD_LIMIT) (λ databody. behind_body m parent base databody (parse (inner xid w) databody)) (λ e. absurd e) (heards.Bad at) bytes t in
    let ob = o.1 in
    let f = by_inner m parent base xid w at o.0 ob.1 (opaque_fits RECORD_LIMIT o.0 ob.0 ob.1 bytes ob.2 ob.3 fits) (parse (inner xid w) o.0) refl ob.4 in
    (o.0, f.0, f.1, f.2, (ob.0, ob.1, ob.2, ob.3, tt))

body_tells : (m : Signing) (signer : Option Parent) (base xid : ℕ) (w : Wanted) (at : ℕ) (bytes : List ℕ) → IsBytes bytes → Tells (body m signer base xid w) (heards.Bad at) bytes → IsWrongBody signer base xid w at bytes
body_tells m None base xid w at bytes fits t = content_fine w (heards.Bad at) bytes t
body_tells m (Some parent) base xid ending at bytes fits t = content_fine ending (heards.Bad at) bytes t
body_tells m (Some parent) base xid (results awaited) at bytes fits t = signed_tells m parent base xid (results awaited) at bytes fits t
body_tells m (Some parent) base xid (context lfs pi label) at bytes fits t = signed_tells m parent base xid (context lfs pi label) at bytes fits t

by_own : (own : Bool) (x : Message Heard) (at : ℕ) (bytes : List ℕ) → Tells (chosen own x (Unread heards.Other)) (heards.Bad at) bytes → (own ≡ true) × Tells x (heards.Bad at) bytes
by_own true x at bytes t = (refl, t)
by_own false x at bytes t = absurd cc

not_denied : (at : ℕ) (bytes : List ℕ) → Tells denied (heards.Bad at) bytes → ⊥
unfolding denied
not_denied at bytes t =
    let d = next_tells denial (λ stat. Closed (heards.Denied stat)) (λ e. absurd e) (heards.Bad at) bytes t in
    subst NotBad d.1.4.0 tt

by_denied : (no : Bool) (x : Message Heard) (at : ℕ) (bytes : List ℕ) → Tells (chosen no denied x) (heards.Bad at) bytes → (no ≡ false) × Tells x (heards.Bad at) bytes
by_denied true x at bytes t = absurd (not_denied at bytes t)
by_denied false x at bytes t = (refl, t)

pub inside_tells : (m : Signing) (a : Asked) (at : ℕ) (bytes : List ℕ) → IsBytes bytes → Tells (reply m a) (heards.Bad at) bytes → IsWrongInside m a at bytes
unfolding reply accepted
inside_tells m a at bytes fits t =
    let h : Heard = heards.Bad at in
    let o = next_tells (opening a.xid) (λ own. chosen own (judged m a) (Unread heards.Other)) (λ e. absurd e) h bytes t in
    let ob = o.1 in
    let ours = by_own o.0 (judged m a) at ob.1 ob.4 in
    let n = next_tells {A = Bool} Boolean (λ no. chosen no denied (accepted m a)) (λ e. absurd e) h ob.1 ours.1 in
    let nb = n.1 in
    let agreed = by_denied n.0 (accepted m a) at nb.1 nb.4 in
    let v = such_tells auth (is_verifier m a.signer a.header) (λ v. behind_verifier m a v) h nb.1 agreed.1 in
    let vb = v.2 in
    let s = next_tells (Among (λ n. eqb n SUCCESS)) (λ stat. body m a.signer (before_databody v.0) a.xid a.wants) (λ e. absurd e) h vb.1 vb.4 in
    let sb = s.1 in
    let f = IsBytes-back sb.0 sb.1 vb.1 sb.3 (IsBytes-back vb.0 vb.1 nb.1 vb.3 (IsBytes-back nb.0 nb.1 ob.1 nb.3 (IsBytes-back ob.0 ob.1 bytes ob.3 fits))) in
    let b = body_tells m a.signer (before_databody v.0) a.xid a.wants at sb.1 f sb.4 in
    let own : Spells (opening a.xid) true ob.0 = subst (λ (x : Bool). Spells (opening a.xid) x ob.0) ours.0 ob.2 in
    let no : Spells {E = ⊥} Boolean false nb.0 = subst (λ (x : Bool). Spells {E = ⊥} Boolean x nb.0) agreed.0 nb.2 in
    (ob.0, ob.1, own, ob.3, (nb.0, nb.1, no, nb.3, (v.0, v.1, (vb.0, vb.1, vb.2, vb.3, (s.0, (sb.0, sb.1, sb.2, sb.3, b))))))

-- ---- and back

signed_told : (m : Signing) (parent : Parent) (base xid : ℕ) (w : Wanted) (at : ℕ) (bytes : List ℕ) → IsBytes bytes → IsWrongSigned base xid w at bytes → Tells (wrapped m parent base xid w) (heards.Bad at) bytes
unfolding wrapped
signed_told m parent base xid w at bytes fits t =
    let ob = t.4 in
    let r = t.2 in
    let e : parse (inner xid w) t.0 ≡ Err r.0 = refused (inner xid w) t.0 r.0 (opaque_fits RECORD_LIMIT t.0 ob.0 ob.1 bytes ob.2 ob.3 fits) r.1 in
    let k : t.1 ≡ length t.0 - length r.0 = omega (arith, r.2) in
    let told : Tells (behind_body m parent base t.0 (Err r.0)) (heards.Bad at) ob.1 = ap (λ (n : ℕ). heards.Bad n) (sym (ap (λ (n : ℕ). base + n) k) ∙ t.3) in
    let behind : Tells (behind_body m parent base t.0 (parse (inner xid w) t.0)) (heards.Bad at) ob.1 = subst (λ (r : Result Heard (List ℕ)). Tells (behind_body m parent base t.0 r) (heards.Bad at) ob.1) (sym e) told in
    next_told (Opaque RECORD_LIMIT) (λ databody. behind_body m parent base databody (parse (inner xid w) databody)) (λ e. absurd e) (heards.Bad at) bytes t.0 (ob.0, ob.1, ob.2, ob.3, behind)

body_told : (m : Signing) (signer : Option Parent) (base xid : ℕ) (w : Wanted) (at : ℕ) (bytes : List ℕ) → IsBytes bytes → IsWrongBody signer base xid w at bytes → Tells (body m signer base xid w) (heards.Bad at) bytes
body_told m None base xid w at bytes fits t = absurd t
body_told m (Some parent) base xid ending at bytes fits t = absurd t
body_told m (Some parent) base xid (results awaited) at bytes fits t = signed_told m parent base xid (results awaited) at bytes fits t
body_told m (Some parent) base xid (context lfs pi label) at bytes fits t = signed_told m parent base xid (context lfs pi label) at bytes fits t

pub inside_told : (m : Signing) (a : Asked) (at : ℕ) (bytes : List ℕ) → IsBytes bytes → IsWrongInside m a at bytes → Tells (reply m a) (heards.Bad at) bytes
unfolding reply accepted
inside_told m a at bytes fits t =
    let h : Heard = heards.Bad at in
    let nb = t.4 in
    let v = nb.4 in
    let vb = v.2 in
    let s = vb.4 in
    let sb = s.1 in
    let f = IsBytes-back sb.0 sb.1 vb.1 sb.3 (IsBytes-back vb.0 vb.1 nb.1 vb.3 (IsBytes-back nb.0 nb.1 t.1 nb.3 (IsBytes-back t.0 t.1 bytes t.3 fits))) in
    let b : Tells (body m a.signer (before_databody v.0) a.xid a.wants) h sb.1 = body_told m a.signer (before_databody v.0) a.xid a.wants at sb.1 f sb.4 in
    let good : Tells (behind_verifier m a v.0) h vb.1 = next_told (Among (λ n. eqb n SUCCESS)) (λ stat. body m a.signer (before_databody v.0) a.xid a.wants) (λ e. absurd e) h vb.1 s.0 (sb.0, sb.1, sb.2, sb.3, b) in
    let verified : Tells (accepted m a) h nb.1 = such_told auth (is_verifier m a.signer a.header) (λ v. behind_verifier m a v) h nb.1 v.0 v.1 (vb.0, vb.1, vb.2, vb.3, good) in
    let agreed : Tells (judged m a) h t.1 = next_told Boolean (λ no. chosen no denied (accepted m a)) (λ e. absurd e) h t.1 false (nb.0, nb.1, nb.2, nb.3, verified) in
    next_told (opening a.xid) (λ own. chosen own (judged m a) (Unread heards.Other)) (λ e. absurd e) h bytes true (t.0, t.1, t.2, t.3, agreed)
