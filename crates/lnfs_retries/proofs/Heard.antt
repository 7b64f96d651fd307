-- What the client hears of replies that the server writes.
use Rattle.std.proofs.Common.{◌≡◌, ℕ, ◌+◌, ◌-◌, ◌≤◌, ◌<◌, ◌^◌, ◌==◌, Bool, true, false, List, [], ◌++◌, length, drop, Some, None, Ok, Err, refl, sym, ap, ◌∙◌, subst, append_assoc, arith}
use Rattle.std.specs.Prelude.{Result, if◌then◌else◌, nat_le}
use Rattle.std.specs.Int.{w32}
use Rattle.std.proofs.lemmas.Bool.Decides.{nat_tests}
use Rattle.std.proofs.lemmas.List.{append-nil, length-append}
use Rattle.lnfs_types.specs.declared.limits.TheConstants.{RECORD_LIMIT}
use Rattle.lnfs_xdr.specs.declared.error.XdrError.{XdrError}
use Rattle.lnfs_xdr.specs.declared.error.XdrError.TheVariants.{BadBool}
use Rattle.lnfs_xdr.specs.Canon.{word, opaque}
use Rattle.lnfs_xdr.specs.Format.{Format, Word, Boolean, Among, Opaque, If, Spells}
use Rattle.lnfs_xdr.specs.Reading.{Fault, Read, after, here, number_at, read}
use Rattle.lnfs_xdr.specs.Message.{Message, Closed, Unread, Next, decided, cut_at, parse}
use Rattle.lnfs_xdr.proofs.Fields.{here_ok}
use Rattle.lnfs_xdr.proofs.Laws.{again}
use Rattle.lnfs_xdr.proofs.Sizes.{length-word}
use Rattle.lnfs_xdr.proofs.Spelled.{Spelled, word_spelled, among_spelled, opaque_spelled, done_spelled, ◌▸◌, last, on_true}
use Rattle.lnfs_policy.specs.declared.rows.Parent.{Parent}
use Rattle.lnfs_rpc.specs.Numbers.{a_reply, body_limit}
use Rattle.lnfs_rpc.specs.Calls.{OpaqueAuth, auth}
use Rattle.lnfs_rpc.specs.Replies as rpc
use Rattle.lnfs_arguments.specs.Whole.{chosen}
use Rattle.lnfs_gss3.specs.Mechanism.{Signing, IsSized}
use Rattle.lnfs_gss3.specs.Grammar.{databody, signed_text}
use Rattle.lnfs_gss3.specs.Replies as gss
use Rattle.lnfs_signed_calls.specs.Laws.{Accepts}
use Rattle.lnfs_answers.specs.declared.numbers.TheConstants.{FOR_WHO_ASKS, SUCCESS}
use Rattle.lnfs_answers.specs.declared.request.Heard.{Heard}
use Rattle.lnfs_answers.specs.declared.request.Heard.TheVariants as heards
use Rattle.lnfs_answers.specs.Replies.{Wanted, results, context, ending, Asked, tested, such, opening, denial, is_verifier, before_databody, content, inner, behind_body, wrapped, body, behind_verifier, accepted, denied, judged, reply, heard_at, heard}
use Rattle.lnfs_step.specs.declared.numbers.TheConstants.{SYSTEM_ERR}
use Rattle.lnfs_step.specs.Wrapping.{Plain, Signed, verifier_in, called, answer_text, refusal_text}
use Rattle.lnfs_retries.proofs.Arguments.{parse_next}

-- ---- items

pub on_so : {E A : Type 0} {f g : Format E A} {x : A} {bytes : List ℕ} (b : Bool) → b ≡ true → Spelled f x bytes → Spelled (If b f g) x bytes
on_so true e p = on_true p
on_so false e p = absurd cc

no_spelled : Spelled {E = ⊥} Boolean false (word 0)
unfolding word
no_spelled = record { is = refl }

yes_spelled : Spelled {E = ⊥} Boolean true (word 1)
unfolding word
yes_spelled = record { is = refl }

pub own_spelled : (xid : ℕ) → xid < 2 ^ 32 → Spelled (opening xid) true (word xid ++ word a_reply)
unfolding opening
own_spelled xid lt =
    let same : (xid == xid) ≡ true = grind (arith, nat_tests) in
    word_spelled xid lt ▸ on_so (xid == xid) same (last (among_spelled (λ n. n == a_reply) a_reply refl (omega arith)) (done_spelled true))

auth_spelled : (v : OpaqueAuth) → v.flavor < 2 ^ 32 → length v.body ≤ body_limit → Spelled auth v (word v.flavor ++ opaque v.body)
unfolding auth
auth_spelled v lt le = word_spelled v.flavor lt ▸ last (opaque_spelled body_limit v.body le (omega (arith, le))) (done_spelled v)

-- no bytes are cut off
cut_none : {B : Type 0} (bytes : List ℕ) (k : List ℕ → Result B (List ℕ)) → cut_at (Ok 0) bytes (λ none back. k back) ≡ k bytes
cut_none bytes k =
    let within : nat_le 0 (length bytes) ≡ true = grind (arith, nat_tests) in
    ap (λ (b : Bool). if b then k (drop 0 bytes) else Err bytes) within

-- an item that is there and passes its test
pub parse_such : {A B : Type 0} (f : Format ⊥ A) (test : A → Bool) (k : A → Message B) (a : A) (front rest : List ℕ) → Spells f a front → test a ≡ true → parse (such f test k) (front ++ rest) ≡ parse (k a) rest
parse_such f test k a front rest s passes =
    ap (λ (r : Read ⊥ _). cut_at (tested r test) (front ++ rest) (λ none back. parse (Next f k (λ e. absurd e)) back)) (again f a front rest s)
    ∙ ap (λ (b : Bool). cut_at (if b then Ok 0 else Err BadBool) (front ++ rest) (λ none back. parse (Next f k (λ e. absurd e)) back)) passes
    ∙ cut_none (front ++ rest) (λ back. parse (Next f k (λ e. absurd e)) back)
    ∙ parse_next f k (λ e. absurd e) a front rest s

-- a word that fails its test
among_fails : (test : ℕ → Bool) (n : ℕ) (rest : List ℕ) → n < 2 ^ 32 → test n ≡ false → read {E = ⊥} (Among test) (word n ++ rest) ≡ Err (Fault BadBool (word n ++ rest))
among_fails test n rest lt fails =
    let there : number_at w32 (word n ++ rest) ≡ Ok (n, rest) = here_ok {E = ⊥} (word n ++ rest) (number_at w32 (word n ++ rest)) (n, rest) (again {E = ⊥} Word n (word n) rest (word_spelled {E = ⊥} n lt).is) in
    let tests : Result (ℕ × List ℕ) XdrError → Read ⊥ ℕ = λ r. here (word n ++ rest) (after r (λ n rest. if test n then Ok (n, rest) else Err BadBool)) in
    ap tests there ∙ ap (λ (b : Bool). here (word n ++ rest) (if b then Ok (n, rest) else Err BadBool)) fails

parse_fails : {B : Type 0} (test : ℕ → Bool) (k : ℕ → Message B) (n : ℕ) (rest : List ℕ) → n < 2 ^ 32 → test n ≡ false → parse (Next (Among test) k (λ (e : ⊥). absurd e)) (word n ++ rest) ≡ Err (word n ++ rest)
parse_fails test k n rest lt fails = ap (λ r. decided r (λ a rest. parse (k a) rest) (λ (e : ⊥). absurd e)) (among_fails test n rest lt fails)

-- ---- what is heard of what stands in a reply

-- what is told by what is read, or nothing good
abbrev pub Hears : Result Heard (List ℕ) → Heard → Type 0
Hears (Ok h) x = x ≡ h
Hears (Err stuck) x = (at : ℕ) × (x ≡ heards.Bad at)

module _ (m : Signing) where
  -- ---- the head of a reply that accepts

  head_text : (xid stat : ℕ) (v : OpaqueAuth) (rest : List ℕ) → rpc.reply_text xid (rpc.accepted v stat) rest ≡ (word xid ++ word a_reply) ++ (word 0 ++ ((word v.flavor ++ opaque v.body) ++ (word stat ++ rest)))
  unfolding rpc.reply_text rpc.head_text
  head_text xid stat v rest = simp append_assoc refl

  abbrev VerifierFits : OpaqueAuth → Type 0
  VerifierFits v = (v.flavor < 2 ^ 32) × (length v.body ≤ body_limit)

  -- behind the verifier
  verified : (a : Asked) (v : OpaqueAuth) (rest : List ℕ) → a.xid < 2 ^ 32 → VerifierFits v → is_verifier m a.signer a.header v ≡ true
      → parse (reply m a) ((word a.xid ++ word a_reply) ++ (word 0 ++ ((word v.flavor ++ opaque v.body) ++ rest))) ≡ parse (behind_verifier m a v) rest
  unfolding reply accepted
  verified a v rest lt fits good =
      parse_next (opening a.xid) (λ own. chosen own (judged m a) (Unread heards.Other)) (λ e. absurd e) true (word a.xid ++ word a_reply) (word 0 ++ ((word v.flavor ++ opaque v.body) ++ rest)) (own_spelled a.xid lt).is
      ∙ parse_next {E = ⊥} Boolean (λ no. chosen no denied (accepted m a)) (λ e. absurd e) false (word 0) ((word v.flavor ++ opaque v.body) ++ rest) no_spelled.is
      ∙ parse_such auth (is_verifier m a.signer a.header) (λ v. behind_verifier m a v) v (word v.flavor ++ opaque v.body) rest (auth_spelled v fits.0 fits.1).is good

  succeeded : (a : Asked) (v : OpaqueAuth) (rest : List ℕ) → a.xid < 2 ^ 32 → VerifierFits v → is_verifier m a.signer a.header v ≡ true
      → parse (reply m a) (rpc.reply_text a.xid (rpc.accepted v SUCCESS) rest) ≡ parse (body m a.signer (before_databody v) a.xid a.wants) rest
  succeeded a v rest lt fits good =
      ap (parse (reply m a)) (head_text a.xid SUCCESS v rest)
      ∙ verified a v (word SUCCESS ++ rest) lt fits good
      ∙ parse_next {E = ⊥} (Among (λ n. n == SUCCESS)) (λ stat. body m a.signer (before_databody v) a.xid a.wants) (λ e. absurd e) SUCCESS (word SUCCESS) rest (among_spelled {E = ⊥} (λ n. n == SUCCESS) SUCCESS refl (omega arith)).is

  heard_by : (a : Asked) (bytes : List ℕ) (r : Result Heard (List ℕ)) → parse (reply m a) bytes ≡ r → Hears r (heard m a bytes)
  unfolding heard
  heard_by a bytes (Ok h) e = ap (heard_at (length bytes)) e
  heard_by a bytes (Err stuck) e = (length bytes - length stuck, ap (heard_at (length bytes)) e)

  -- a refusal of what is called
  fails : (a : Asked) (v : OpaqueAuth) → a.xid < 2 ^ 32 → VerifierFits v → is_verifier m a.signer a.header v ≡ true
      → (at : ℕ) × (heard m a (rpc.reply_text a.xid (rpc.accepted v SYSTEM_ERR) []) ≡ heards.Bad at)
  fails a v lt fits good = heard_by a (rpc.reply_text a.xid (rpc.accepted v SYSTEM_ERR) []) (Err (word SYSTEM_ERR ++ [])) (
      ap (parse (reply m a)) (head_text a.xid SYSTEM_ERR v [])
      ∙ verified a v (word SYSTEM_ERR ++ []) lt fits good
      ∙ parse_fails (λ n. n == SUCCESS) (λ stat. body m a.signer (before_databody v) a.xid a.wants) SYSTEM_ERR [] (omega arith) refl)

  -- ---- a denial

  denied_text : (xid stat : ℕ) → rpc.reply_text xid (rpc.auth_error stat) [] ≡ (word xid ++ word a_reply) ++ (word 1 ++ ((word FOR_WHO_ASKS ++ word stat) ++ []))
  unfolding rpc.reply_text rpc.head_text
  denied_text xid stat = simp append_assoc refl

  denial_spelled : (stat : ℕ) → stat < 2 ^ 32 → Spelled denial stat (word FOR_WHO_ASKS ++ word stat)
  unfolding denial
  denial_spelled stat lt = among_spelled (λ n. n == FOR_WHO_ASKS) FOR_WHO_ASKS refl (omega arith) ▸ last (word_spelled stat lt) (done_spelled stat)

  pub denies : (a : Asked) (stat : ℕ) → a.xid < 2 ^ 32 → stat < 2 ^ 32 → heard m a (rpc.reply_text a.xid (rpc.auth_error stat) []) ≡ heards.Denied stat
  unfolding reply denied
  denies a stat lt small = heard_by a (rpc.reply_text a.xid (rpc.auth_error stat) []) (Ok (heards.Denied stat)) (
      ap (parse (reply m a)) (denied_text a.xid stat)
      ∙ parse_next (opening a.xid) (λ own. chosen own (judged m a) (Unread heards.Other)) (λ e. absurd e) true (word a.xid ++ word a_reply) (word 1 ++ ((word FOR_WHO_ASKS ++ word stat) ++ [])) (own_spelled a.xid lt).is
      ∙ parse_next {E = ⊥} Boolean (λ no. chosen no denied (accepted m a)) (λ e. absurd e) true (word 1) ((word FOR_WHO_ASKS ++ word stat) ++ []) yes_spelled.is
      ∙ parse_next denial (λ stat. Closed (heards.Denied stat)) (λ e. absurd e) stat (word FOR_WHO_ASKS ++ word stat) [] (denial_spelled stat small).is)

  -- ---- a plain reply

  abbrev pub plain : (xid : ℕ) (header : List ℕ) → Wanted → Asked
  plain xid header w = record { xid = xid; signer = None; header = header; wants = w }

  pub plain_hears : (xid : ℕ) (header : List ℕ) (w : Wanted) (said : List ℕ) (r : Result Heard (List ℕ)) → xid < 2 ^ 32 → parse (content w) said ≡ r → Hears r (heard m (plain xid header w) (answer_text m Plain xid said))
  plain_hears xid header w said r lt e =
      let none : OpaqueAuth = verifier_in m Plain in
      heard_by (plain xid header w) (answer_text m Plain xid said) r (succeeded (plain xid header w) none said lt (omega arith, omega arith) refl ∙ e)

  -- ---- a signed one

  module _ (sized : IsSized m) (accepts : Accepts m) (parent : Parent) where
    abbrev pub under : (xid : ℕ) (header : List ℕ) → Wanted → Asked
    under xid header w = record { xid = xid; signer = Some parent; header = header; wants = w }

    mic_fits : (covered : List ℕ) → length (m.mic_of parent covered) ≤ 32
    mic_fits covered = omega (arith, sized.size parent covered)

    verifier_fits : (header : List ℕ) → VerifierFits (gss.verifier_of m parent header)
    verifier_fits header = (omega arith, omega (arith, mic_fits (gss.replied header)))

    verifier_good : (header : List ℕ) → is_verifier m (Some parent) header (gss.verifier_of m parent header) ≡ true
    verifier_good header = accepts parent (gss.replied header)

    abbrev own : (xid : ℕ) (said : List ℕ) → List ℕ
    own xid said = word xid ++ said

    own_fits : (xid : ℕ) (said : List ℕ) → length said + 4 ≤ RECORD_LIMIT → Spelled {E = ⊥} (Opaque RECORD_LIMIT) (own xid said) (opaque (own xid said))
    own_fits xid said short =
        let size : length (own xid said) ≤ RECORD_LIMIT = omega (arith, length-append (word xid) said, length-word xid, short) in
        opaque_spelled RECORD_LIMIT (own xid said) size (omega (arith, size))

    mic_spelled : (covered : List ℕ) → Spelled {E = ⊥} (Opaque RECORD_LIMIT) (m.mic_of parent covered) (opaque (m.mic_of parent covered))
    mic_spelled covered = opaque_spelled RECORD_LIMIT (m.mic_of parent covered) (omega (arith, mic_fits covered)) (omega (arith, mic_fits covered))

    inside : (xid : ℕ) (w : Wanted) (said : List ℕ) → xid < 2 ^ 32 → parse (inner xid w) (own xid said) ≡ parse (content w) said
    unfolding inner
    inside xid w said lt =
        let same : (xid == xid) ≡ true = grind (arith, nat_tests) in
        parse_next {E = ⊥} (Among (λ n. n == xid)) (λ sequence. content w) (λ e. absurd e) xid (word xid) said (among_spelled {E = ⊥} (λ n. n == xid) xid same lt).is

    signed_as : (base xid : ℕ) (said : List ℕ) (r : Result Heard (List ℕ)) → (h : Heard) × (parse (behind_body m parent base (own xid said) r) (opaque (m.mic_of parent (own xid said)) ++ []) ≡ Ok h) × Hears r h
    signed_as base xid said (Ok h) = (h, parse_such (Opaque RECORD_LIMIT) (λ checksum. m.good parent (own xid said) checksum) (λ checksum. Closed h) (m.mic_of parent (own xid said)) (opaque (m.mic_of parent (own xid said))) [] (mic_spelled (own xid said)).is (accepts parent (own xid said)), refl)
    signed_as base xid said (Err stuck) = (heards.Bad (base + (length (own xid said) - length stuck)), refl, (base + (length (own xid said) - length stuck), refl))

    wrapped_text : (xid : ℕ) (said : List ℕ) → gss.wrapped m parent xid said ≡ opaque (own xid said) ++ (opaque (m.mic_of parent (own xid said)) ++ [])
    unfolding signed_text databody
    wrapped_text xid said = ap (λ (b : List ℕ). opaque (own xid said) ++ b) (sym (append-nil (opaque (m.mic_of parent (own xid said)))))

    wrapped_as : (base xid : ℕ) (w : Wanted) (said : List ℕ) → xid < 2 ^ 32 → length said + 4 ≤ RECORD_LIMIT → parse (wrapped m parent base xid w) (gss.wrapped m parent xid said) ≡ parse (behind_body m parent base (own xid said) (parse (content w) said)) (opaque (m.mic_of parent (own xid said)) ++ [])
    unfolding wrapped
    wrapped_as base xid w said lt short =
        ap (parse (wrapped m parent base xid w)) (wrapped_text xid said)
        ∙ parse_next {E = ⊥} (Opaque RECORD_LIMIT) (λ databody. behind_body m parent base databody (parse (inner xid w) databody)) (λ e. absurd e) (own xid said) (opaque (own xid said)) (opaque (m.mic_of parent (own xid said)) ++ []) (own_fits xid said short).is
        ∙ ap (λ (r : Result Heard (List ℕ)). parse (behind_body m parent base (own xid said) r) (opaque (m.mic_of parent (own xid said)) ++ [])) (inside xid w said lt)

    abbrev pub IsWrapped : Wanted → Type 0
    IsWrapped (results awaited) = Unit {0}
    IsWrapped (context lfs pi label) = Unit {0}
    IsWrapped ending = ⊥

    body_as : (base xid : ℕ) (w : Wanted) (said : List ℕ) → IsWrapped w → xid < 2 ^ 32 → length said + 4 ≤ RECORD_LIMIT → parse (body m (Some parent) base xid w) (gss.wrapped m parent xid said) ≡ parse (behind_body m parent base (own xid said) (parse (content w) said)) (opaque (m.mic_of parent (own xid said)) ++ [])
    body_as base xid (results awaited) said some lt short = wrapped_as base xid (results awaited) said lt short
    body_as base xid (context lfs pi label) said some lt short = wrapped_as base xid (context lfs pi label) said lt short
    body_as base xid ending said some lt short = absurd some

    hears_same : (r : Result Heard (List ℕ)) (h x : Heard) → x ≡ h → Hears r h → Hears r x
    hears_same r h x e hears = subst (Hears r) (sym e) hears

    pub signed_hears : (xid : ℕ) (header : List ℕ) (w : Wanted) (said : List ℕ) → IsWrapped w → xid < 2 ^ 32 → length said + 4 ≤ RECORD_LIMIT → Hears (parse (content w) said) (heard m (under xid header w) (answer_text m (Signed parent header xid) xid said))
    signed_hears xid header w said some lt short =
        let a : Asked = under xid header w in
        let v : OpaqueAuth = gss.verifier_of m parent header in
        let text : List ℕ = answer_text m (Signed parent header xid) xid said in
        let t = signed_as (before_databody v) xid said (parse (content w) said) in
        let whole : parse (reply m a) text ≡ Ok t.0 =
        succeeded a v (gss.wrapped m parent xid said) lt (verifier_fits header) (verifier_good header) ∙ body_as (before_databody v) xid w said some lt short ∙ t.1 in
        hears_same (parse (content w) said) t.0 (heard m a text) (heard_by a text (Ok t.0) whole) t.2

    pub signed_fails : (xid : ℕ) (header : List ℕ) (w : Wanted) (sequence : ℕ) → xid < 2 ^ 32 → (at : ℕ) × (heard m (under xid header w) (refusal_text m (Signed parent header sequence) xid (called SYSTEM_ERR)) ≡ heards.Bad at)
    signed_fails xid header w sequence lt = fails (under xid header w) (gss.verifier_of m parent header) lt (verifier_fits header) (verifier_good header)
