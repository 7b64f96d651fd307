-- Where the databody of a record stands.
use Rattle.std.proofs.Common.{◌≡◌, ℕ, ◌+◌, List, ◌++◌, length, Bool, true, false, eqb, Option, Some, None, ◌∙◌, ap, append_assoc, length-append, arith}
use Rattle.std.specs.Int.{w32, to_be_bytes}
use Rattle.lnfs_xdr.specs.Format.{Among, Done, If, Then, Spells, padding}
use Rattle.lnfs_policy.specs.declared.rows.Parent.{Parent}
use Rattle.lnfs_rpc.specs.Numbers.{a_reply}
use Rattle.lnfs_rpc.specs.Calls.{OpaqueAuth, auth}
use Rattle.lnfs_gss3.specs.Mechanism.{Signing}
use Rattle.lnfs_answers.specs.Replies.{Wanted, results, context, ending, Asked, opening, inner, before_databody}
use Rattle.lnfs_answers.specs.Hearing.{IsFaultWithin, IsWrongSigned, IsWrongBody, IsWrongInside}

-- ---- the sizes of the parts

kind_size : (own : Bool) (bytes : List ℕ) → Spells {E = ⊥} (If own (Then (Among (λ n. eqb n a_reply)) (λ kind. Done true)) (Done false)) true bytes → length bytes ≡ 4
kind_size true bytes s =
    let word : length s.1 ≡ 4 = ap length s.3.2 in
    let none : length s.2 ≡ 0 = ap length s.4.1 in
    omega (arith, word, none, ap length s.5, length-append s.1 s.2)
kind_size false bytes s = absurd (let e = s.0 in cc)

opening_size : (xid : ℕ) (bytes : List ℕ) → Spells (opening xid) true bytes → length bytes ≡ 8
unfolding opening
opening_size xid bytes s =
    let word : length s.1 ≡ 4 = ap length s.3.1 in
    omega (arith, word, kind_size (eqb s.0 xid) s.2 s.4, ap length s.5, length-append s.1 s.2)

auth_size : (v : OpaqueAuth) (bytes : List ℕ) → Spells auth v bytes → length bytes ≡ 8 + (length v.body + padding (length v.body))
unfolding auth
auth_size v bytes s =
    let flavor : length s.1 ≡ 4 = ap length s.3.1 in
    let behind = s.4 in
    let body : List ℕ = behind.0 in
    let item = behind.3 in
    let pad : List ℕ = item.2 in
    let same : body ≡ v.body = ap (λ (a : OpaqueAuth). a.body) behind.4.0 in
    let text : length behind.1 ≡ 4 + (length body + padding (length body)) =
    omega (arith, ap length item.4, length-append (to_be_bytes w32 (length body)) (body ++ pad), length-append body pad, item.3) in
    let none : length behind.2 ≡ 0 = ap length behind.4.1 in
    let all : length bytes ≡ 8 + (length body + padding (length body)) = omega (arith, flavor, text, none, ap length s.5, ap length behind.5, length-append s.1 s.2, length-append behind.1 behind.2) in
    all ∙ ap (λ (b : List ℕ). 8 + (length b + padding (length b))) same

-- ---- the databody

signed_of : (signer : Option Parent) (base xid : ℕ) (w : Wanted) (at : ℕ) (bytes : List ℕ) → IsWrongBody signer base xid w at bytes → IsWrongSigned base xid w at bytes
signed_of None base xid w at bytes t = absurd t
signed_of (Some parent) base xid ending at bytes t = absurd t
signed_of (Some parent) base xid (results awaited) at bytes t = t
signed_of (Some parent) base xid (context lfs pi label) at bytes t = t

pub within : (m : Signing) (a : Asked) (at : ℕ) (bytes : List ℕ) → IsWrongInside m a at bytes → IsFaultWithin (inner a.xid a.wants) bytes at
within m a at bytes t =
    let nb = t.4 in
    let v = nb.4 in
    let vb = v.2 in
    let sb = vb.4.1 in
    let d = signed_of a.signer (before_databody v.0) a.xid a.wants at sb.1 sb.4 in
    let ob = d.4 in
    let item = ob.2 in
    let word : List ℕ = to_be_bytes w32 (length d.0) in
    let pad : List ℕ = item.2 in
    let head : List ℕ = t.0 ++ (nb.0 ++ (vb.0 ++ (sb.0 ++ word))) in
    let parts : bytes ≡ t.0 ++ (nb.0 ++ (vb.0 ++ (sb.0 ++ ((word ++ (d.0 ++ pad)) ++ ob.1)))) =
    t.3 ∙ ap (λ (l : List ℕ). t.0 ++ l) (nb.3 ∙ ap (λ (l : List ℕ). nb.0 ++ l) (vb.3 ∙ ap (λ (l : List ℕ). vb.0 ++ l) (sb.3 ∙ ap (λ (l : List ℕ). sb.0 ++ l) (ob.3 ∙ ap (λ (l : List ℕ). l ++ ob.1) item.4)))) in
    let group : t.0 ++ (nb.0 ++ (vb.0 ++ (sb.0 ++ ((word ++ (d.0 ++ pad)) ++ ob.1)))) ≡ head ++ (d.0 ++ (pad ++ ob.1)) = simp append_assoc in
    let denied : length nb.0 ≡ 4 = ap length nb.2 in
    let success : length sb.0 ≡ 4 = ap length sb.2.2 in
    let size : length head ≡ before_databody v.0 =
    omega (arith, opening_size a.xid t.0 t.2, denied, auth_size v.0 vb.0 vb.2, success, length-append t.0 (nb.0 ++ (vb.0 ++ (sb.0 ++ word))), length-append nb.0 (vb.0 ++ (sb.0 ++ word)), length-append vb.0 (sb.0 ++ word), length-append sb.0 word) in
    (head, d.0, pad ++ ob.1, parts ∙ group, (d.1, d.2, ap (λ (n : ℕ). n + d.1) size ∙ d.3))
