-- What the client may hear of a record, whatever its bytes are: a reply to another, a refusal, or what it asked for.
use Rattle.std.proofs.Common.{◌≡◌, ℕ, ◌+◌, ◌-◌, ◌<◌, ◌^◌, ◌==◌, Bool, true, false, List, [], ◌++◌, length, take, drop, Option, Some, None, Ok, Err, refl, sym, ap, ◌∙◌, subst, append_assoc}
use Rattle.std.specs.Prelude.{Result, if◌then◌else◌, nat_le}
use Rattle.lnfs_xdr.specs.declared.error.XdrError.{XdrError}
use Rattle.lnfs_xdr.specs.Canon.{word}
use Rattle.lnfs_xdr.specs.Reading.{Fault, Leaves, Read, read}
use Rattle.lnfs_xdr.specs.Message.{Message, Closed, Unread, Next, Measured, decided, cut_at, parse}
use Rattle.lnfs_xdr.proofs.Spelled.{Spelled, word_spelled, done_spelled, last, on_other}
use Rattle.lnfs_policy.specs.declared.rows.Parent.{Parent}
use Rattle.lnfs_rpc.specs.Numbers.{a_reply}
use Rattle.lnfs_rpc.specs.Replies as rpc
use Rattle.lnfs_arguments.specs.Whole.{chosen}
use Rattle.lnfs_gss3.specs.Mechanism.{Signing}
use Rattle.lnfs_answers.specs.declared.types.Said.{Said}
use Rattle.lnfs_answers.specs.declared.request.Heard.{Heard}
use Rattle.lnfs_answers.specs.declared.request.Heard.TheVariants as heards
use Rattle.lnfs_answers.specs.Grammar.{said}
use Rattle.lnfs_answers.specs.Replies.{Wanted, results, context, ending, Asked, opening, content, inner, behind_body, wrapped, body, before_databody, accepted, denied, judged, reply, heard_at, heard}
use Rattle.lnfs_retries.proofs.Arguments.{parse_next}
use Rattle.lnfs_retries.proofs.Heard.{own_spelled}

-- ---- what holds of all that a message may tell

-- a property of all values
abbrev pub Every : {B : Type 0} → (B → Type 0) → Message B → Type 0
Every P (Closed y) = P y
Every P (Unread y) = P y
Every P (Next {E} {A} f k g) = ((bytes : List ℕ) (x : A × List ℕ) → read f bytes ≡ Ok x → Every P (k x.0)) × ((e : E) → P (g e))
Every P (Measured measure k) = (front : List ℕ) → Every P (k front)

every_if : {B : Type 0} (P : B → Type 0) (b : Bool) (y x : B) (bytes : List ℕ) → P y → (if b then Ok y else Err bytes) ≡ Ok x → P x
every_if P true y x bytes every e = let same : y ≡ x = cc in subst P same every
every_if P false y x bytes every e = absurd cc

pub every_parsed : {B : Type 0} (P : B → Type 0) (m : Message B) (bytes : List ℕ) (x : B) → Every P m → parse m bytes ≡ Ok x → P x
every_parsed P (Closed y) bytes x every e = every_if P (length bytes == 0) y x bytes every e
every_parsed P (Unread y) bytes x every e = let same : y ≡ x = cc in subst P same every
every_parsed P (Next f k g) bytes x every e = at (read f bytes) refl (λ a is e. every_parsed P (k a.0) a.1 x (every.0 bytes a is) e) e
  where
    at : (r : Read _ _) → read f bytes ≡ r → ((a : _ × List ℕ) → read f bytes ≡ Ok a → parse (k a.0) a.1 ≡ Ok x → P x) → decided r (λ a rest. parse (k a) rest) g ≡ Ok x → P x
    at (Ok a) is go e = go a is e
    at (Err (Fault c stuck)) is go e = absurd cc
    at (Err (Leaves l)) is go e = let same : g l ≡ x = cc in subst P same (every.1 l)
every_parsed P (Measured measure k) bytes x every e = at (measure bytes) (λ n e. every_parsed P (k (take n bytes)) (drop n bytes) x (every (take n bytes)) e) e
  where
    fits : (n : ℕ) (b : Bool) → (parse (k (take n bytes)) (drop n bytes) ≡ Ok x → P x) → (if b then parse (k (take n bytes)) (drop n bytes) else Err bytes) ≡ Ok x → P x
    fits n true go e = go e
    fits n false go e = absurd cc

    at : (r : Result ℕ XdrError) → ((n : ℕ) → parse (k (take n bytes)) (drop n bytes) ≡ Ok x → P x) → cut_at r bytes (λ front back. parse (k front) back) ≡ Ok x → P x
    at (Ok n) go e = fits n (nat_le n (length bytes)) (go n) e
    at (Err c) go e = absurd cc

-- ---- what a reply may tell

-- what is awaited, or a refusal
abbrev pub IsShape : (Said → Type 0) → Wanted → Heard → Type 0
IsShape Q w heards.Other = ⊥
IsShape Q w (heards.Denied stat) = Unit {0}
IsShape Q w (heards.Bad at) = Unit {0}
IsShape Q (results awaited) (heards.Said s) = Q s
IsShape Q (context lfs pi label) (heards.Said s) = ⊥
IsShape Q ending (heards.Said s) = ⊥
IsShape Q (results awaited) (heards.Granted handle) = ⊥
IsShape Q (context lfs pi label) (heards.Granted handle) = Unit {0}
IsShape Q ending (heards.Granted handle) = ⊥
IsShape Q (results awaited) heards.Ended = ⊥
IsShape Q (context lfs pi label) heards.Ended = ⊥
IsShape Q ending heards.Ended = Unit {0}

-- a property of all answers to operations
abbrev pub OfAnswers : (Said → Type 0) → Wanted → Type 0
OfAnswers Q (results awaited) = ((bytes : List ℕ) (x : Said × List ℕ) → read (said awaited) bytes ≡ Ok x → Q x.0) × ((status : ℕ) → Q (record { status = status; results = [] }))
OfAnswers Q (context lfs pi label) = Unit {0}
OfAnswers Q ending = Unit {0}

module _ (Q : Said → Type 0) where
  content_shape : (w : Wanted) → OfAnswers Q w → Every (IsShape Q w) (content w)
  content_shape (results awaited) of = (of.0, λ e. of.1 e.1)
  content_shape (context lfs pi label) of =
      (λ bytes h read. (λ bytes policy read. (λ front. (λ bytes same read. tt, λ e. absurd e)), λ e. absurd e), λ e. absurd e)
  content_shape ending of = tt

  inner_shape : (xid : ℕ) (w : Wanted) → OfAnswers Q w → Every (IsShape Q w) (inner xid w)
  unfolding inner
  inner_shape xid w of = (λ bytes sequence read. content_shape w of, λ e. absurd e)

  module _ (m : Signing) where
    behind_shape : (parent : Parent) (base xid : ℕ) (w : Wanted) (databody : List ℕ) → OfAnswers Q w → (r : Result Heard (List ℕ)) → parse (inner xid w) databody ≡ r → Every (IsShape Q w) (behind_body m parent base databody r)
    behind_shape parent base xid w databody of (Ok h) e = λ front. (λ bytes checksum read. every_parsed (IsShape Q w) (inner xid w) databody h (inner_shape xid w of) e, λ e. absurd e)
    behind_shape parent base xid w databody of (Err stuck) e = bad w (base + (length databody - length stuck))
      where
        bad : (w : Wanted) (at : ℕ) → IsShape Q w (heards.Bad at)
        bad w at = tt

    wrapped_shape : (parent : Parent) (base xid : ℕ) (w : Wanted) → OfAnswers Q w → Every (IsShape Q w) (wrapped m parent base xid w)
    unfolding wrapped
    wrapped_shape parent base xid w of = (λ bytes databody read. behind_shape parent base xid w databody.0 of (parse (inner xid w) databody.0) refl, λ e. absurd e)

    body_shape : (signer : Option Parent) (base xid : ℕ) (w : Wanted) → OfAnswers Q w → Every (IsShape Q w) (body m signer base xid w)
    body_shape None base xid w of = content_shape w of
    body_shape (Some parent) base xid (results awaited) of = wrapped_shape parent base xid (results awaited) of
    body_shape (Some parent) base xid (context lfs pi label) of = wrapped_shape parent base xid (context lfs pi label) of
    body_shape (Some parent) base xid ending of = tt

    judged_shape : (a : Asked) → OfAnswers Q a.wants → Every (IsShape Q a.wants) (judged m a)
    unfolding denied accepted
    judged_shape a of = (λ bytes no read. at no.0, λ e. absurd e)
      where
        at : (no : Bool) → Every (IsShape Q a.wants) (chosen no denied (accepted m a))
        at true = (λ bytes stat read. tt, λ e. absurd e)
        at false = λ front. (λ bytes v read. (λ bytes stat read. body_shape a.signer (before_databody v.0) a.xid a.wants of, λ e. absurd e), λ e. absurd e)

    -- ---- a reply with the transaction of the request, and one with another

    text_is : (xid : ℕ) (head : rpc.ReplyHead) (rest : List ℕ) → rpc.reply_text xid head rest ≡ word xid ++ (word a_reply ++ (rpc.head_text head ++ rest))
    unfolding rpc.reply_text
    text_is xid head rest = simp append_assoc refl

    other_spelled : (own xid : ℕ) → xid < 2 ^ 32 → (xid == own) ≡ false → Spelled (opening own) false (word xid)
    unfolding opening
    other_spelled own xid lt other = last (word_spelled xid lt) (on_other (xid == own) other (done_spelled false))

    pub other_heard : (a : Asked) (xid : ℕ) (head : rpc.ReplyHead) (rest : List ℕ) → xid < 2 ^ 32 → (xid == a.xid) ≡ false → heard m a (rpc.reply_text xid head rest) ≡ heards.Other
    unfolding heard reply
    other_heard a xid head rest lt other =
        let bytes : List ℕ = rpc.reply_text xid head rest in
        ap (heard_at (length bytes)) (
        ap (parse (reply m a)) (text_is xid head rest)
        ∙ parse_next (opening a.xid) (λ own. chosen own (judged m a) (Unread heards.Other)) (λ e. absurd e) false (word xid) (word a_reply ++ (rpc.head_text head ++ rest)) (other_spelled a.xid xid lt other).is)

    own_text : (xid : ℕ) (head : rpc.ReplyHead) (rest : List ℕ) → rpc.reply_text xid head rest ≡ (word xid ++ word a_reply) ++ (rpc.head_text head ++ rest)
    unfolding rpc.reply_text
    own_text xid head rest = simp append_assoc refl

    heard_shape : (a : Asked) (n : ℕ) (r : Result Heard (List ℕ)) → ((h : Heard) → r ≡ Ok h → IsShape Q a.wants h) → IsShape Q a.wants (heard_at n r)
    heard_shape a n (Ok h) shape = shape h refl
    heard_shape a n (Err stuck) shape = bad a.wants
      where
        bad : (w : Wanted) → IsShape Q w (heards.Bad (n - length stuck))
        bad w = tt

    pub own_heard : (a : Asked) (head : rpc.ReplyHead) (rest : List ℕ) → a.xid < 2 ^ 32 → OfAnswers Q a.wants → IsShape Q a.wants (heard m a (rpc.reply_text a.xid head rest))
    unfolding heard reply
    own_heard a head rest lt of =
        let bytes : List ℕ = rpc.reply_text a.xid head rest in
        let opened : parse (reply m a) bytes ≡ parse (judged m a) (rpc.head_text head ++ rest) =
        ap (parse (reply m a)) (own_text a.xid head rest)
        ∙ parse_next (opening a.xid) (λ own. chosen own (judged m a) (Unread heards.Other)) (λ e. absurd e) true (word a.xid ++ word a_reply) (rpc.head_text head ++ rest) (own_spelled a.xid lt).is in
        heard_shape a (length bytes) (parse (reply m a) bytes) (λ h e. every_parsed (IsShape Q a.wants) (judged m a) (rpc.head_text head ++ rest) h (judged_shape a of) (sym opened ∙ e))
