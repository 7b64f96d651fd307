-- Which records are which, in the words of the formats.
use Rattle.std.specs.Prelude.{◌≡◌, ℕ, true, false, List, [], ◌++◌, length, Option, Some, None, All, ◌==◌, ◌+◌}
use Rattle.lnfs_types.specs.declared.limits.TheConstants.{LABEL_LIMIT, RECORD_LIMIT}
use Rattle.lnfs_xdr.specs.Format.{Boolean, Among, Opaque}
use Rattle.lnfs_xdr.specs.Message.{Message, RefusesAt}
use Rattle.lnfs_policy.specs.declared.rows.Parent.{Parent}
use Rattle.lnfs_rpc.specs.Calls.{OpaqueAuth, auth}
use Rattle.lnfs_rpc.specs.CallGrammar.{Begins}
use Rattle.lnfs_gss3.specs.Mechanism.{Signing}
use Rattle.lnfs_answers.specs.declared.numbers.TheConstants.{SUCCESS}
use Rattle.lnfs_answers.specs.declared.types.Said.{Said}
use Rattle.lnfs_answers.specs.declared.request.Heard.{Heard}
use Rattle.lnfs_answers.specs.declared.request.Heard.TheVariants as heards
use Rattle.lnfs_answers.specs.Whole.{CanSucceed, IsAnswer}
use Rattle.lnfs_answers.specs.Replies.{Wanted, results, context, ending, Asked, opening, denial, handle_opaque, assertion_start, is_verifier, inner, before_databody}

-- the operations can succeed
abbrev pub WantsFit : Wanted → Type 0
WantsFit (results awaited) = All CanSucceed awaited
WantsFit (context lfs pi label) = Unit {0}
WantsFit ending = Unit {0}

-- what a request that succeeds is answered
abbrev pub IsResult : Heard → Type 0
IsResult (heards.Said s) = Unit {0}
IsResult (heards.Granted handle) = Unit {0}
IsResult heards.Ended = Unit {0}
IsResult heards.Other = ⊥
IsResult (heards.Denied stat) = ⊥
IsResult (heards.Bad at) = ⊥

-- the bytes are what is said
abbrev pub IsContent : Wanted → Heard → List ℕ → Type 0
IsContent (results awaited) h bytes = (s : Said) × (heards.Said s ≡ h) × IsAnswer awaited s bytes
IsContent (context lfs pi label) h bytes =
    (handle : List ℕ) × Begins handle_opaque handle bytes (λ asserted.
    (policy : ℕ) × Begins (assertion_start lfs pi) policy asserted (λ labelled.
    Begins {E = ⊥} (Opaque LABEL_LIMIT) label labelled (λ end. (heards.Granted handle ≡ h) × (end ≡ []))))
IsContent ending h bytes = (heards.Ended ≡ h) × (bytes ≡ [])

-- the bytes are a databody and its signature, and the databody is the request's number and what is said
abbrev pub IsSigned : Signing → Parent → (xid : ℕ) → Wanted → Heard → List ℕ → Type 0
IsSigned m parent xid w h bytes =
    (databody : List ℕ) × ((sequence : ℕ) × Begins {E = ⊥} (Among (λ n. n == xid)) sequence databody (λ said. IsContent w h said))
    × Begins {E = ⊥} (Opaque RECORD_LIMIT) databody bytes (λ signed.
    (checksum : List ℕ) × (m.good parent databody checksum ≡ true) × Begins {E = ⊥} (Opaque RECORD_LIMIT) checksum signed (λ end. end ≡ []))

abbrev pub IsBody : Signing → Option Parent → (xid : ℕ) → Wanted → Heard → List ℕ → Type 0
IsBody m None xid w h bytes = IsContent w h bytes
IsBody m (Some parent) xid ending h bytes = IsContent ending h bytes
IsBody m (Some parent) xid (results awaited) h bytes = IsSigned m parent xid (results awaited) h bytes
IsBody m (Some parent) xid (context lfs pi label) h bytes = IsSigned m parent xid (context lfs pi label) h bytes

-- The record is a reply to the request, is accepted, has a verifier that is good and `accept_stat` 0, and says this.
abbrev pub IsAnswered : Signing → Asked → Heard → List ℕ → Type 0
IsAnswered m a h bytes =
    Begins (opening a.xid) true bytes (λ reply.
    Begins {E = ⊥} Boolean false reply (λ verified.
    (v : OpaqueAuth) × (is_verifier m a.signer a.header v ≡ true) × Begins auth v verified (λ behind.
    (success : ℕ) × Begins {E = ⊥} (Among (λ n. n == SUCCESS)) success behind (λ said. IsBody m a.signer a.xid a.wants h said))))

-- The record is a reply to the request, denies it for who asks, and ends there.
abbrev pub IsDenied : Asked → (stat : ℕ) → List ℕ → Type 0
IsDenied a stat bytes =
    Begins (opening a.xid) true bytes (λ reply.
    Begins {E = ⊥} Boolean true reply (λ denied.
    Begins denial stat denied (λ end. end ≡ [])))

-- The record has another transaction.
abbrev pub IsOther : Asked → List ℕ → Type 0
IsOther a bytes = Begins (opening a.xid) false bytes (λ rest. Unit {0})

-- The databody is there, and inside of it the first fault is at the offset that is told. Where nothing is signed, there is none.
abbrev pub IsWrongSigned : (base xid : ℕ) → Wanted → (at : ℕ) → List ℕ → Type 0
IsWrongSigned base xid w at bytes =
    (databody : List ℕ) × (k : ℕ) × RefusesAt (inner xid w) databody k × (base + k ≡ at) × Begins {E = ⊥} (Opaque RECORD_LIMIT) databody bytes (λ signed. Unit {0})

abbrev pub IsWrongBody : Option Parent → (base xid : ℕ) → Wanted → (at : ℕ) → List ℕ → Type 0
IsWrongBody None base xid w at bytes = ⊥
IsWrongBody (Some parent) base xid ending at bytes = ⊥
IsWrongBody (Some parent) base xid (results awaited) at bytes = IsWrongSigned base xid (results awaited) at bytes
IsWrongBody (Some parent) base xid (context lfs pi label) at bytes = IsWrongSigned base xid (context lfs pi label) at bytes

-- The record is a reply to the request, is accepted, has a verifier that is good and `accept_stat` 0, and is wrong inside what is signed.
abbrev pub IsWrongInside : Signing → Asked → (at : ℕ) → List ℕ → Type 0
IsWrongInside m a at bytes =
    Begins (opening a.xid) true bytes (λ reply.
    Begins {E = ⊥} Boolean false reply (λ verified.
    (v : OpaqueAuth) × (is_verifier m a.signer a.header v ≡ true) × Begins auth v verified (λ behind.
    (success : ℕ) × Begins {E = ⊥} (Among (λ n. n == SUCCESS)) success behind (λ said. IsWrongBody a.signer (before_databody v) a.xid a.wants at said))))

-- The fault of a message that stands inside of the bytes, told by its offset in all of them.
abbrev pub IsFaultWithin : {B : Type 0} → Message B → List ℕ → (at : ℕ) → Type 0
IsFaultWithin inside bytes at =
    (front : List ℕ) × (middle : List ℕ) × (behind : List ℕ) × (bytes ≡ front ++ (middle ++ behind)) × ((k : ℕ) × RefusesAt inside middle k × (length front + k ≡ at))
