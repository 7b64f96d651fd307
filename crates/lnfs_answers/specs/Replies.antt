-- What a whole record is to a request: a reply to it (RFC 5531 section 9), plain or signed (RFC 2203 section 5.3.3).
use Rattle.std.specs.Prelude.{ℕ, ◌+◌, ◌-◌, Bool, true, false, ◌&&◌, List, [], length, Option, Some, None, Result, Ok, Err, ◌==◌, if◌then◌else◌}
use Rattle.std.specs.Str.{bytes_eq}
use Rattle.lnfs_types.specs.declared.limits.TheConstants.{LABEL_LIMIT, RECORD_LIMIT}
use Rattle.lnfs_xdr.specs.declared.error.XdrError.{XdrError}
use Rattle.lnfs_xdr.specs.declared.error.XdrError.TheVariants.{BadBool}
use Rattle.lnfs_xdr.specs.declared.flavors.TheConstants.{AUTH_NONE, RPCSEC_GSS}
use Rattle.lnfs_xdr.specs.Format.{Format, Word, Boolean, Among, Opaque, OpaqueOf, Done, ◌>>=◌, when◌then◌else◌, padding}
use Rattle.lnfs_xdr.specs.Reading.{Read, read}
use Rattle.lnfs_xdr.specs.Message.{Message, Closed, Unread, Next, Measured, parse}
use Rattle.lnfs_policy.specs.declared.rows.Parent.{Parent}
use Rattle.lnfs_rpc.specs.Numbers.{a_reply}
use Rattle.lnfs_rpc.specs.Calls.{OpaqueAuth, auth}
use Rattle.lnfs_arguments.specs.Whole.{chosen}
use Rattle.lnfs_gss3.specs.declared.numbers.TheConstants.{LABEL}
use Rattle.lnfs_gss3.specs.Mechanism.{Signing}
use Rattle.lnfs_gss3.specs.Replies.{replied}
use Rattle.lnfs_answers.specs.Grammar.{said}
use Rattle.lnfs_answers.specs.declared.numbers.TheConstants.{HANDLE_SIZE, FOR_WHO_ASKS, SUCCESS, BEFORE_DATABODY}
use Rattle.lnfs_answers.specs.declared.types.Awaits.{Awaits}
use Rattle.lnfs_answers.specs.declared.request.Heard.{Heard}
use Rattle.lnfs_answers.specs.declared.request.Heard.TheVariants as heards

pub data Wanted : Type 0 where
  results : (awaited : List Awaits) → Wanted
  context : (lfs pi : ℕ) (label : List ℕ) → Wanted
  ending : Wanted

pub record Asked : Type 0 where
  pub xid : ℕ
  pub signer : Option Parent
  pub header : List ℕ
  pub wants : Wanted

-- ---- an item that passes a test; where it is there and doesn't, it is refused where it begins

-- no bytes, where a test of what stands there holds, or nothing stands there that could be tested
abbrev pub tested : {A : Type 0} → Read ⊥ A → (A → Bool) → Result ℕ XdrError
tested (Ok x) test = if test x.0 then Ok 0 else Err BadBool
tested (Err stop) test = Ok 0

abbrev pub such : {A B : Type 0} → Format ⊥ A → (A → Bool) → (A → Message B) → Message B
such f test k = Measured (λ bytes. tested (read f bytes) test) (λ none. Next f k (λ e. absurd e))

-- ---- what is said

-- the answer to operations
abbrev pub to_operations : List Awaits → Message Heard
to_operations awaited = Next (said awaited) (λ s. Closed (heards.Said s)) (λ e. heards.Said (record { status = e.1; results = [] }))

-- behind the handle of a new context: no second principal, no binding to a channel, one assertion, of a label (RFC 7861 section 2.7.1)
unfoldable pub assertion_start : (lfs pi : ℕ) → Format ⊥ ℕ
assertion_start lfs pi = do
  principal ← Among (λ n. n == 0)
  binding ← Among (λ n. n == 0)
  count ← Among (λ n. n == 1)
  kind ← Among (λ n. n == LABEL)
  format ← Among (λ n. n == lfs)
  policy ← Among (λ n. n == pi)
  Done policy

-- a handle, which is one item with its length word
abbrev pub handle_opaque : Format ⊥ (List ℕ)
handle_opaque = OpaqueOf (λ n. n == HANDLE_SIZE)

-- the label that was sent, which nothing follows
abbrev pub to_label : (label handle : List ℕ) → Message Heard
to_label label handle = such (Opaque LABEL_LIMIT) (λ same. bytes_eq same label) (λ same. Closed (heards.Granted handle))

abbrev pub behind_handle : (lfs pi : ℕ) → (label handle : List ℕ) → Message Heard
behind_handle lfs pi label handle = Next (assertion_start lfs pi) (λ policy. to_label label handle) (λ e. absurd e)

-- a handle, and the assertion as it was sent
abbrev pub to_assertion : (lfs pi : ℕ) → (label : List ℕ) → Message Heard
to_assertion lfs pi label = Next handle_opaque (λ handle. behind_handle lfs pi label handle) (λ e. absurd e)

abbrev pub content : Wanted → Message Heard
content (results awaited) = to_operations awaited
content (context lfs pi label) = to_assertion lfs pi label
content ending = Closed heards.Ended

-- ---- signed: the sequence number of the request, which is its xid, and what is said, and then the parent's signature of both

unfoldable pub inner : (xid : ℕ) → Wanted → Message Heard
inner xid w = Next (Among (λ n. n == xid)) (λ sequence. content w) (λ e. absurd e)

abbrev pub behind_body : Signing → Parent → (base : ℕ) → (databody : List ℕ) → Result Heard (List ℕ) → Message Heard
behind_body m parent base databody (Ok h) = such (Opaque RECORD_LIMIT) (λ checksum. m.good parent databody checksum) (λ checksum. Closed h)
-- what is no answer inside is refused there
behind_body m parent base databody (Err stuck) = Unread (heards.Bad (base + (length databody - length stuck)))

-- base is the offset of the databody's bytes
unfoldable pub wrapped : Signing → Parent → (base xid : ℕ) → Wanted → Message Heard
wrapped m parent base xid w = Next (Opaque RECORD_LIMIT) (λ databody. behind_body m parent base databody (parse (inner xid w) databody)) (λ e. absurd e)

-- the end of a context has no results, and they are not signed
abbrev pub body : Signing → Option Parent → (base xid : ℕ) → Wanted → Message Heard
body m None base xid w = content w
body m (Some parent) base xid ending = content ending
body m (Some parent) base xid (results awaited) = wrapped m parent base xid (results awaited)
body m (Some parent) base xid (context lfs pi label) = wrapped m parent base xid (context lfs pi label)

-- ---- the whole

-- a verifier that is good: of a plain reply none; of a signed one the parent's signature of the request's header, as that of a reply
abbrev pub is_verifier : Signing → Option Parent → (header : List ℕ) → OpaqueAuth → Bool
is_verifier m None header v = v.flavor == AUTH_NONE && length v.body == 0
is_verifier m (Some parent) header v = v.flavor == RPCSEC_GSS && m.good parent (replied header) v.body

-- how many bytes stand before those of a databody
abbrev pub before_databody : OpaqueAuth → ℕ
before_databody v = BEFORE_DATABODY + (length v.body + padding (length v.body))

-- whether the record is a reply to the request, and not to another
unfoldable pub opening : (xid : ℕ) → Format ⊥ Bool
opening xid = do
  own ← Word
  when own == xid then (Among (λ n. n == a_reply) >>= λ kind. Done true)
      else Done false

-- the version of RPC is no reason to deny such a request
unfoldable pub denial : Format ⊥ ℕ
denial = do
  for_who_asks ← Among (λ n. n == FOR_WHO_ASKS)
  stat ← Word
  Done stat

abbrev pub behind_verifier : Signing → Asked → OpaqueAuth → Message Heard
behind_verifier m a v = Next (Among (λ n. n == SUCCESS)) (λ stat. body m a.signer (before_databody v) a.xid a.wants) (λ e. absurd e)

unfoldable pub accepted : Signing → Asked → Message Heard
accepted m a = such auth (is_verifier m a.signer a.header) (λ v. behind_verifier m a v)

unfoldable pub denied : Message Heard
denied = Next denial (λ stat. Closed (heards.Denied stat)) (λ e. absurd e)

-- behind the transaction
abbrev pub judged : Signing → Asked → Message Heard
judged m a = Next Boolean (λ no. chosen no denied (accepted m a)) (λ e. absurd e)

unfoldable pub reply : Signing → Asked → Message Heard
reply m a = Next (opening a.xid) (λ own. chosen own (judged m a) (Unread heards.Other)) (λ e. absurd e)

abbrev pub heard_at : (total : ℕ) → Result Heard (List ℕ) → Heard
heard_at total (Ok h) = h
heard_at total (Err stuck) = heards.Bad (total - length stuck)

unfoldable pub heard : Signing → Asked → List ℕ → Heard
heard m a record_bytes = heard_at (length record_bytes) (parse (reply m a) record_bytes)
