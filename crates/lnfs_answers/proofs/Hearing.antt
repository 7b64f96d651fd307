-- From what a record is told to be to what it is.
use Rattle.std.proofs.Common.{◌≡◌, ℕ, List, [], ◌++◌, Bool, true, false, eqb, Option, Some, None, Result, Ok, Err, refl, sym, subst, ◌∙◌, ap, inl, inr, arith}
use Rattle.std.specs.Str.{bytes_eq}
use Rattle.std.proofs.lemmas.List.{append-nil}
use Rattle.std.proofs.lemmas.Slice.Eq.{bytes_eq-Decides}
use Rattle.lnfs_types.specs.declared.limits.TheConstants.{LABEL_LIMIT, RECORD_LIMIT}
use Rattle.lnfs_xdr.specs.Format.{Boolean, Among, Opaque, Spells}
use Rattle.lnfs_xdr.specs.Message.{Message, Closed, Unread, Tells, parse}
use Rattle.lnfs_xdr.proofs.Fields.{IsBytes, IsBytes-back}
use Rattle.lnfs_xdr.proofs.Messages.{tells}
use Rattle.lnfs_policy.specs.declared.rows.Parent.{Parent}
use Rattle.lnfs_rpc.specs.Calls.{auth}
use Rattle.lnfs_rpc.specs.CallGrammar.{Begins}
use Rattle.lnfs_arguments.specs.Whole.{chosen}
use Rattle.lnfs_results.proofs.Stays.{is_not_left}
use Rattle.lnfs_gss3.specs.Mechanism.{Signing}
use Rattle.lnfs_answers.specs.declared.numbers.TheConstants.{SUCCESS}
use Rattle.lnfs_answers.specs.declared.request.Heard.{Heard}
use Rattle.lnfs_answers.specs.declared.request.Heard.TheVariants as heards
use Rattle.lnfs_answers.specs.Grammar.{said}
use Rattle.lnfs_answers.specs.Replies.{Wanted, results, context, ending, Asked, opening, denial, handle_opaque, assertion_start, is_verifier, content, inner, wrapped, behind_body, body, before_databody, denied, accepted, judged, behind_verifier, behind_handle, to_label, reply}
use Rattle.lnfs_answers.specs.Hearing.{WantsFit, IsResult, IsContent, IsSigned, IsBody, IsAnswered}
use Rattle.lnfs_answers.proofs.Exact.{said_stays}
use Rattle.lnfs_answers.proofs.Items.{next_tells, such_tells, opaque_fits}

is_equal : (a b : List ℕ) → bytes_eq a b ≡ true → a ≡ b
is_equal a b e = grind (arith, bytes_eq-Decides)

pub content_tells : (w : Wanted) (h : Heard) (bytes : List ℕ) → WantsFit w → Tells (content w) h bytes → IsContent w h bytes
content_tells (results awaited) h bytes fit t =
    elim t [
      | inl p ↦
          let whole : p.1 ≡ bytes = sym (p.4 ∙ ap (λ (b : List ℕ). p.1 ++ b) p.5.1 ∙ append-nil p.1) in
          (p.0, p.5.0, subst (Spells (said awaited) p.0) whole p.3)
      | inr p ↦ absurd (is_not_left (said awaited) bytes p.0 (said_stays awaited fit) p.1)
    ]
content_tells (context lfs pi label) h bytes fit t =
    let s = next_tells handle_opaque (λ handle. behind_handle lfs pi label handle) (λ e. absurd e) h bytes t in
    let hb = s.1 in
    let n = next_tells (assertion_start lfs pi) (λ policy. to_label label s.0) (λ e. absurd e) h hb.1 hb.4 in
    let nb = n.1 in
    let l = such_tells (Opaque LABEL_LIMIT) (λ same. bytes_eq same label) (λ same. Closed (heards.Granted s.0)) h nb.1 nb.4 in
    let lb = l.2 in
    let sent : Spells {E = ⊥} (Opaque LABEL_LIMIT) label lb.0 = subst (λ (v : List ℕ). Spells {E = ⊥} (Opaque LABEL_LIMIT) v lb.0) (is_equal l.0 label l.1) lb.2 in
    (s.0, (hb.0, hb.1, hb.2, hb.3, (n.0, (nb.0, nb.1, nb.2, nb.3, (lb.0, lb.1, sent, lb.3, lb.4)))))
content_tells ending h bytes fit t = t

-- ---- signed

abbrev Inside : (xid : ℕ) → Wanted → Heard → List ℕ → Type 0
Inside xid w h databody = (sequence : ℕ) × Begins {E = ⊥} (Among (λ n. eqb n xid)) sequence databody (λ said. IsContent w h said)

abbrev Checked : Signing → Parent → (databody signed : List ℕ) → Type 0
Checked m parent databody signed = (checksum : List ℕ) × (m.good parent databody checksum ≡ true) × Begins {E = ⊥} (Opaque RECORD_LIMIT) checksum signed (λ end. end ≡ [])

inner_tells : (xid : ℕ) (w : Wanted) (h : Heard) (databody : List ℕ) → WantsFit w → Tells (inner xid w) h databody → Inside xid w h databody
unfolding inner
inner_tells xid w h databody fit t =
    let n = next_tells (Among (λ n. eqb n xid)) (λ sequence. content w) (λ e. absurd e) h databody t in
    let b = n.1 in
    (n.0, (b.0, b.1, b.2, b.3, content_tells w h b.1 fit b.4))

by_inner : (m : Signing) (parent : Parent) (base xid : ℕ) (w : Wanted) (h : Heard) (databody signed : List ℕ) → WantsFit w → IsResult h → IsBytes databody → (r : Result Heard (List ℕ)) → parse (inner xid w) databody ≡ r
    → Tells (behind_body m parent base databody r) h signed → Inside xid w h databody × Checked m parent databody signed
by_inner m parent base xid w h databody signed fit good fits (Ok x) e t =
    let c = such_tells (Opaque RECORD_LIMIT) (λ checksum. m.good parent databody checksum) (λ checksum. Closed x) h signed t in
    let i = inner_tells xid w x databody fit (tells (inner xid w) databody x fits e) in
    let b = c.2 in
    (subst (λ (y : Heard). Inside xid w y databody) b.4.0 i, (c.0, c.1, (b.0, b.1, b.2, b.3, b.4.1)))
by_inner m parent base xid w h databody signed fit good fits (Err stuck) e t = absurd (subst IsResult (sym t) good)

signed_tells : (m : Signing) (parent : Parent) (base xid : ℕ) (w : Wanted) (h : Heard) (bytes : List ℕ) → IsBytes bytes → WantsFit w → IsResult h → Tells (wrapped m parent base xid w) h bytes → IsSigned m parent xid w h bytes
unfolding wrapped
signed_tells m parent base xid w h bytes fits fit good t =
    let o = next_tells (Opaque RECORD_LIMIT) (λ databody. behind_body m parent base databody (parse (inner xid w) databody)) (λ e. absurd e) h bytes t in
    let ob = o.1 in
    let b = by_inner m parent base xid w h o.0 ob.1 fit good (opaque_fits RECORD_LIMIT o.0 ob.0 ob.1 bytes ob.2 ob.3 fits) (parse (inner xid w) o.0) refl ob.4 in
    (o.0, b.0, (ob.0, ob.1, ob.2, ob.3, b.1))

pub body_tells : (m : Signing) (signer : Option Parent) (base xid : ℕ) (w : Wanted) (h : Heard) (bytes : List ℕ) → IsBytes bytes → WantsFit w → IsResult h → Tells (body m signer base xid w) h bytes → IsBody m signer xid w h bytes
body_tells m None base xid w h bytes fits fit good t = content_tells w h bytes fit t
body_tells m (Some parent) base xid ending h bytes fits fit good t = content_tells ending h bytes fit t
body_tells m (Some parent) base xid (results awaited) h bytes fits fit good t = signed_tells m parent base xid (results awaited) h bytes fits fit good t
body_tells m (Some parent) base xid (context lfs pi label) h bytes fits fit good t = signed_tells m parent base xid (context lfs pi label) h bytes fits fit good t

-- ---- the whole

by_own : (own : Bool) (x : Message Heard) (h : Heard) (bytes : List ℕ) → IsResult h → Tells (chosen own x (Unread heards.Other)) h bytes → (own ≡ true) × Tells x h bytes
by_own true x h bytes good t = (refl, t)
by_own false x h bytes good t = absurd (subst IsResult (sym t) good)

not_denied : (h : Heard) (bytes : List ℕ) → IsResult h → Tells denied h bytes → ⊥
unfolding denied
not_denied h bytes good t = let d = next_tells denial (λ stat. Closed (heards.Denied stat)) (λ e. absurd e) h bytes t in subst IsResult (sym d.1.4.0) good

by_denied : (no : Bool) (x : Message Heard) (h : Heard) (bytes : List ℕ) → IsResult h → Tells (chosen no denied x) h bytes → (no ≡ false) × Tells x h bytes
by_denied true x h bytes good t = absurd (not_denied h bytes good t)
by_denied false x h bytes good t = (refl, t)

pub answered_tells : (m : Signing) (a : Asked) (h : Heard) (bytes : List ℕ) → IsBytes bytes → WantsFit a.wants → IsResult h → Tells (reply m a) h bytes → IsAnswered m a h bytes
unfolding reply accepted
answered_tells m a h bytes fits fit good t =
    let o = next_tells (opening a.xid) (λ own. chosen own (judged m a) (Unread heards.Other)) (λ e. absurd e) h bytes t in
    let ob = o.1 in
    let ours = by_own o.0 (judged m a) h ob.1 good ob.4 in
    let n = next_tells {A = Bool} Boolean (λ no. chosen no denied (accepted m a)) (λ e. absurd e) h ob.1 ours.1 in
    let nb = n.1 in
    let agreed = by_denied n.0 (accepted m a) h nb.1 good nb.4 in
    let v = such_tells auth (is_verifier m a.signer a.header) (λ v. behind_verifier m a v) h nb.1 agreed.1 in
    let vb = v.2 in
    let s = next_tells (Among (λ n. eqb n SUCCESS)) (λ stat. body m a.signer (before_databody v.0) a.xid a.wants) (λ e. absurd e) h vb.1 vb.4 in
    let sb = s.1 in
    let f = IsBytes-back sb.0 sb.1 vb.1 sb.3 (IsBytes-back vb.0 vb.1 nb.1 vb.3 (IsBytes-back nb.0 nb.1 ob.1 nb.3 (IsBytes-back ob.0 ob.1 bytes ob.3 fits))) in
    let b = body_tells m a.signer (before_databody v.0) a.xid a.wants h sb.1 f fit good sb.4 in
    let own : Spells (opening a.xid) true ob.0 = subst (λ (x : Bool). Spells (opening a.xid) x ob.0) ours.0 ob.2 in
    let no : Spells {E = ⊥} Boolean false nb.0 = subst (λ (x : Bool). Spells {E = ⊥} Boolean x nb.0) agreed.0 nb.2 in
    (ob.0, ob.1, own, ob.3, (nb.0, nb.1, no, nb.3, (v.0, v.1, (vb.0, vb.1, vb.2, vb.3, (s.0, (sb.0, sb.1, sb.2, sb.3, b))))))
