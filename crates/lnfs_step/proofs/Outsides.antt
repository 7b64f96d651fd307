-- An operation that is outside of the profile has a status of its gate, as it was read.
use Rattle.std.proofs.Common.{◌≡◌, ℕ, zero, suc, Bool, true, false, cond, List, ◌∷◌, Ok, Err, refl, subst, inl, inr, length}
use Rattle.lnfs_xdr.specs.Format.{Format, Word, Long, Boolean, Count, Among, LongAmong, Byte, Opaque, OpaqueOf, Fixed, Raw, Outside, Done, If, Then, Linked, times}
use Rattle.lnfs_xdr.specs.Reading.{Item, Read, Leaves, here, after, element, linked_at, read, boolean_at}
use Rattle.lnfs_xdr.specs.AuthSys.{auth_sys}
use Rattle.lnfs_xdr.proofs.Fields.{after_err, after_ok}
use Rattle.lnfs_attrs.specs.Bitmaps.{bitmap, so_many_words}
use Rattle.lnfs_arguments.specs.declared.types.Op.{Op}
use Rattle.lnfs_arguments.specs.declared.types.Op.TheVariants as ops
use Rattle.lnfs_arguments.specs.declared.statuses.TheConstants.{NFS4ERR_NOTSUPP, NFS4ERR_OP_ILLEGAL}
use Rattle.lnfs_arguments.specs.Shared.{attrs, state_id, channel}
use Rattle.lnfs_arguments.specs.Grammar.{access, what, create, getattr, link, lookup, remove, nverify, verify, setattr, putfh, readdir, rename, close, commit, reading, writing, created, making, claim, opening, implementation, who_made, exchange_id, callback, create_session, making_session, destroy_session, sequence, sequencing, destroy_clientid, reclaim_complete, arguments}
use Rattle.lnfs_operations.specs.declared.Gate.TheVariants as gates
use Rattle.lnfs_step.proofs.Denials.{is_denial, OutsideIs}

-- what holds of each cause for which a format is left
abbrev pub LeftBy : {E A : Type 0} → (E → Type 0) → Format E A → Type 0
LeftBy P (Outside e) = P e
LeftBy P (If b f g) = LeftBy P f × LeftBy P g
LeftBy P (Then {A} f k) = LeftBy P f × ((a : A) → LeftBy P (k a))
LeftBy P (Linked f) = LeftBy P f
LeftBy P f = Unit {0}

-- and of each value that it ends with
abbrev pub EndsBy : {E A : Type 0} → (A → Type 0) → Format E A → Type 0
EndsBy Q (Done x) = Q x
EndsBy Q (Outside e) = Unit {0}
EndsBy Q (If b f g) = EndsBy Q f × EndsBy Q g
EndsBy Q (Then {A} f k) = (a : A) → EndsBy Q (k a)
EndsBy {A = A} Q f = (a : A) → Q a

here_stays : {E A : Type 0} (bytes : List ℕ) (r : Item A) (e : E) {Y : Type 0} → here bytes r ≡ Err (Leaves e) → Y
here_stays bytes (Ok x) e is = absurd (let f = is in cc)
here_stays bytes (Err c) e is = absurd (let f = is in cc)

IsGate : ℕ × ℕ → Type 0
IsGate e = is_denial gates.Outside e.1 ≡ true

times_left : {E A : Type 0} (P : E → Type 0) (n : ℕ) (f : Format E A) → LeftBy P f → LeftBy P (times n f)
times_left P zero f is = tt
times_left P (suc n) f is = (is, λ x. (times_left P n f is, λ xs. tt))

bitmap_left : LeftBy IsGate bitmap
unfolding bitmap so_many_words
bitmap_left = (tt, λ n. (times_left IsGate n Word tt, λ words. tt))

auth_left : LeftBy IsGate (auth_sys {E = ℕ × ℕ})
unfolding auth_sys
auth_left = (tt, λ stamp. (tt, λ machine. (tt, λ uid. (tt, λ gid. ((tt, λ n. times_left IsGate n Word tt), λ gids. tt)))))

unserved_left : (number : ℕ) (b : Bool) → is_denial gates.Outside (cond b NFS4ERR_NOTSUPP NFS4ERR_OP_ILLEGAL) ≡ true
unserved_left number true = refl
unserved_left number false = refl

attrs_left : LeftBy IsGate attrs
unfolding attrs
attrs_left = search bitmap_left parts 20 depth 40

state_id_left : LeftBy IsGate state_id
unfolding state_id
state_id_left = search parts 20 depth 40

channel_left : LeftBy IsGate channel
unfolding channel
channel_left = search parts 20 depth 40

access_left : LeftBy IsGate access
unfolding access IsGate
access_left = search parts 20 depth 40

what_left : LeftBy IsGate what
unfolding what IsGate
what_left = search parts 20 depth 40

create_left : LeftBy IsGate create
unfolding create IsGate
create_left = search (what_left, attrs_left) parts 20 depth 40

getattr_left : LeftBy IsGate getattr
unfolding getattr IsGate
getattr_left = search bitmap_left parts 20 depth 40

nverify_left : LeftBy IsGate nverify
unfolding nverify IsGate
nverify_left = search attrs_left parts 20 depth 40

verify_left : LeftBy IsGate verify
unfolding verify IsGate
verify_left = search attrs_left parts 20 depth 40

setattr_left : LeftBy IsGate setattr
unfolding setattr IsGate
setattr_left = search (state_id_left, attrs_left) parts 20 depth 40

readdir_left : LeftBy IsGate readdir
unfolding readdir IsGate
readdir_left = search bitmap_left parts 20 depth 40

close_left : LeftBy IsGate close
unfolding close IsGate
close_left = search state_id_left parts 20 depth 40

commit_left : LeftBy IsGate commit
unfolding commit IsGate
commit_left = search parts 20 depth 40

reading_left : LeftBy IsGate reading
unfolding reading IsGate
reading_left = search state_id_left parts 20 depth 40

writing_left : LeftBy IsGate writing
unfolding writing IsGate
writing_left = search state_id_left parts 20 depth 40

link_left : LeftBy IsGate link
unfolding link IsGate
link_left = search parts 20 depth 40

lookup_left : LeftBy IsGate lookup
unfolding lookup IsGate
lookup_left = search parts 20 depth 40

remove_left : LeftBy IsGate remove
unfolding remove IsGate
remove_left = search parts 20 depth 40

putfh_left : LeftBy IsGate putfh
unfolding putfh IsGate
putfh_left = search parts 20 depth 40

rename_left : LeftBy IsGate rename
unfolding rename IsGate
rename_left = search parts 20 depth 40

created_left : LeftBy IsGate created
unfolding created IsGate
created_left = search attrs_left parts 20 depth 40

making_left : LeftBy IsGate making
unfolding making IsGate
making_left = search created_left parts 20 depth 40

claim_left : LeftBy IsGate claim
unfolding claim IsGate
claim_left = search parts 20 depth 40

opening_left : LeftBy IsGate opening
unfolding opening IsGate
opening_left = search (making_left, claim_left) parts 20 depth 40

implementation_left : LeftBy IsGate implementation
unfolding implementation IsGate
implementation_left = search parts 20 depth 40

who_made_left : LeftBy IsGate who_made
unfolding who_made IsGate
who_made_left = search implementation_left parts 20 depth 40

exchange_id_left : LeftBy IsGate exchange_id
unfolding exchange_id IsGate
exchange_id_left = search who_made_left parts 20 depth 40

callback_left : LeftBy IsGate callback
unfolding callback IsGate
callback_left = search auth_left parts 20 depth 40

destroy_session_left : LeftBy IsGate destroy_session
unfolding destroy_session IsGate
destroy_session_left = search parts 20 depth 40

sequence_left : LeftBy IsGate sequence
unfolding sequence IsGate
sequence_left = search parts 20 depth 40

sequencing_left : LeftBy IsGate sequencing
unfolding sequencing IsGate
sequencing_left = search sequence_left parts 20 depth 40

destroy_clientid_left : LeftBy IsGate destroy_clientid
unfolding destroy_clientid IsGate
destroy_clientid_left = search parts 20 depth 40

reclaim_complete_left : LeftBy IsGate reclaim_complete
unfolding reclaim_complete IsGate
reclaim_complete_left = search parts 20 depth 40

create_session_left : LeftBy IsGate create_session
unfolding create_session
create_session_left = search (channel_left, times_left, callback_left) parts 30 depth 60

making_session_left : LeftBy IsGate making_session
unfolding making_session
making_session_left = search create_session_left parts 20 depth 40

ruleset rows_left = (access_left, create_left, getattr_left, nverify_left, verify_left, setattr_left, readdir_left, close_left, commit_left, reading_left, writing_left, link_left, lookup_left, remove_left, putfh_left, rename_left, opening_left, exchange_id_left, making_session_left, destroy_session_left, sequencing_left, destroy_clientid_left, reclaim_complete_left)

arguments_left : (number : ℕ) → LeftBy IsGate (arguments number)
unfolding arguments IsGate
arguments_left number = search (rows_left, unserved_left) parts 80 depth 60 fits 20000

arguments_end : (number : ℕ) → EndsBy OutsideIs (arguments number)
unfolding access what create getattr link lookup remove nverify verify setattr putfh readdir rename close commit reading writing created making claim opening implementation who_made exchange_id callback create_session making_session destroy_session sequence sequencing destroy_clientid reclaim_complete arguments attrs state_id channel
arguments_end number = search parts 80 depth 60 fits 20000

-- ---- what is read

done_at : {E A : Type 0} (Q : A → Type 0) (y : A) (bytes : List ℕ) (x : A × List ℕ) → Q y → read {E = E} (Done y) bytes ≡ Ok x → Q x.0
done_at Q y bytes x q is = let same : (y, bytes) ≡ x = cc in subst (λ (z : _ × List ℕ). Q z.0) same q

-- a linked list is left as one of its elements is
element_left : {E A : Type 0} (P : E → Type 0) (first : List ℕ → Read E A) → ((bytes : List ℕ) (e : E) → first bytes ≡ Err (Leaves e) → P e) → (later : List ℕ → Read E (List A)) → ((bytes : List ℕ) (e : E) → later bytes ≡ Err (Leaves e) → P e) →
    (more : Bool) (rest : List ℕ) (e : E) → element first later more rest ≡ Err (Leaves e) → P e
element_left P first leaves later behind true rest e is = elim (after_err (first rest) (λ y end. after (later end) (λ ys end. Ok (y ∷ ys, end))) (Leaves e) is) [
  | inl one ↦ leaves rest e one
  | inr (y, took, after_it) ↦ elim (after_err (later y.1) (λ ys end. Ok (y.0 ∷ ys, end)) (Leaves e) after_it) [
    | inl others ↦ behind y.1 e others
    | inr (ys, took_all, none) ↦ absurd (let f = none in cc)
  ]
]
element_left P first leaves later behind false rest e is = absurd (let f = is in cc)

linked_left : {E A : Type 0} (P : E → Type 0) (first : List ℕ → Read E A) → ((bytes : List ℕ) (e : E) → first bytes ≡ Err (Leaves e) → P e) → (n : ℕ) (bytes : List ℕ) (e : E) → linked_at n first bytes ≡ Err (Leaves e) → P e
linked_left P first leaves zero bytes e is = absurd (let f = is in cc)
linked_left P first leaves (suc n) bytes e is = elim (after_err (here bytes (boolean_at bytes)) (element first (linked_at n first)) (Leaves e) is) [
  | inl stays ↦ here_stays bytes (boolean_at bytes) e stays
  | inr (x, more, behind) ↦ element_left P first leaves (linked_at n first) (linked_left P first leaves n) x.0 x.1 e behind
]

left : {E A : Type 0} (P : E → Type 0) (f : Format E A) → LeftBy P f → (bytes : List ℕ) (e : E) → read f bytes ≡ Err (Leaves e) → P e
left P (Outside x) by bytes e is = let same : x ≡ e = cc in subst P same by
left P (Done x) by bytes e is = absurd (let f = is in cc)
left P (If true f g) by bytes e is = left P f by.0 bytes e is
left P (If false f g) by bytes e is = left P g by.1 bytes e is
left P (Then f k) by bytes e is = elim (after_err (read f bytes) (λ a rest. read (k a) rest) (Leaves e) is) [
  | inl first ↦ left P f by.0 bytes e first
  | inr (x, first, later) ↦ left P (k x.0) (by.1 x.0) x.1 e later
]
left P (Linked f) by bytes e is = linked_left P (read f) (left P f by) (length bytes) bytes e is
left P Word by bytes e is = here_stays bytes _ e is
left P Long by bytes e is = here_stays bytes _ e is
left P Boolean by bytes e is = here_stays bytes _ e is
left P (Count max) by bytes e is = here_stays bytes _ e is
left P (Among test) by bytes e is = here_stays bytes _ e is
left P (LongAmong test) by bytes e is = here_stays bytes _ e is
left P (Byte test) by bytes e is = here_stays bytes _ e is
left P (Opaque max) by bytes e is = here_stays bytes _ e is
left P (OpaqueOf test) by bytes e is = here_stays bytes _ e is
left P (Fixed n) by bytes e is = here_stays bytes _ e is
left P (Raw n) by bytes e is = here_stays bytes _ e is

pub ends : {E A : Type 0} (Q : A → Type 0) (f : Format E A) → EndsBy Q f → (bytes : List ℕ) (x : A × List ℕ) → read f bytes ≡ Ok x → Q x.0
ends Q (Outside e) by bytes x is = absurd (let f = is in cc)
ends Q (Done y) by bytes x is = done_at Q y bytes x by is
ends Q (If true f g) by bytes x is = ends Q f by.0 bytes x is
ends Q (If false f g) by bytes x is = ends Q g by.1 bytes x is
ends Q (Then f k) by bytes x is = let a = after_ok (read f bytes) (λ a rest. read (k a) rest) x is in ends Q (k a.0.0) (by a.0.0) a.0.1 x a.2
ends Q (Linked f) by bytes x is = by x.0
ends Q Word by bytes x is = by x.0
ends Q Long by bytes x is = by x.0
ends Q Boolean by bytes x is = by x.0
ends Q (Count max) by bytes x is = by x.0
ends Q (Among test) by bytes x is = by x.0
ends Q (LongAmong test) by bytes x is = by x.0
ends Q (Byte test) by bytes x is = by x.0
ends Q (Opaque max) by bytes x is = by x.0
ends Q (OpaqueOf test) by bytes x is = by x.0
ends Q (Fixed n) by bytes x is = by x.0
ends Q (Raw n) by bytes x is = by x.0

pub outside_left : (number : ℕ) (bytes : List ℕ) (e : ℕ × ℕ) → read (arguments number) bytes ≡ Err (Leaves e) → OutsideIs (ops.Outside e.0 e.1)
unfolding IsGate
outside_left number bytes e is = left IsGate (arguments number) (arguments_left number) bytes e is

pub inside_read : (number : ℕ) (bytes : List ℕ) (x : Op × List ℕ) → read (arguments number) bytes ≡ Ok x → OutsideIs x.0
inside_read number bytes x is = ends OutsideIs (arguments number) (arguments_end number) bytes x is
