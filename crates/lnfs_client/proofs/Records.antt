-- Each operation of a request has few bytes.
use Rattle.std.proofs.Common.{◌≡◌, ℕ, zero, suc, ◌+◌, ◌-◌, ◌≤◌, Bool, true, false, nat_le, List, [], ◌∷◌, ◌++◌, length, map, replicate, All, Option, Some, None, refl, arith, length-append}
use Rattle.std.specs.Prelude.{IfSome, unwrap_or, slice_get, if◌then◌else◌}
use Rattle.std.specs.List.{flat_map, AllByRecursion}
use Rattle.std.proofs.lemmas.Bool.{leb-true}
use Rattle.std.proofs.lemmas.List.Elements.{recursion_from_All, All-head, All-nil, All-cons, All-append, All-map, All-weaker}
use Rattle.lnfs_types.specs.declared.limits.TheConstants.{LABEL_LIMIT}
use Rattle.lnfs_xdr.specs.Canon.{word, padded, opaque}
use Rattle.lnfs_xdr.proofs.Sizes.{length-word, length-long, length-flag, length-padded, length-opaque, length-words}
use Rattle.lnfs_calipso.specs.Label.{label_at}
use Rattle.lnfs_format.specs.Kinds.{writes}
use Rattle.lnfs_format.specs.declared.formats.FormatEntry.{FormatEntry}
use Rattle.lnfs_policy.specs.Policy.{Policy}
use Rattle.lnfs_attrs.specs.declared.bitmap.Bitmap.{Bitmap}
use Rattle.lnfs_attrs.specs.declared.view.LabelValue.{LabelValue}
use Rattle.lnfs_attrs.specs.Bitmaps.{bitmap_text, trimmed}
use Rattle.lnfs_attrs.proofs.Words.{trimmed_short}
use Rattle.lnfs_arguments.specs.declared.numbers.TheConstants.{OWNER_LIMIT}
use Rattle.lnfs_arguments.specs.declared.stateid.StateId.{StateId}
use Rattle.lnfs_arguments.specs.declared.channel.Channel.{Channel}
use Rattle.lnfs_arguments.specs.declared.types.Sequence.{Sequence}
use Rattle.lnfs_arguments.specs.declared.types.What.TheVariants.{Dir}
use Rattle.lnfs_arguments.specs.declared.types.Making.TheVariants.{Guarded}
use Rattle.lnfs_arguments.specs.declared.types.Claim.TheVariants.{Name}
use Rattle.lnfs_arguments.specs.declared.types.Op.{Op}
use Rattle.lnfs_arguments.specs.declared.types.Op.TheVariants as ops
use Rattle.lnfs_arguments.specs.SharedTexts.{attrs_text, state_id_text, channel_text, optional_word}
use Rattle.lnfs_requests.specs.Fits.{OpFits}
use Rattle.lnfs_requests.specs.Texts.{what_text, making_text, claim_text, implementation_text, create_session_text, sequence_text, op_text}
use Rattle.lnfs_script.specs.declared.action.Action.{Action}
use Rattle.lnfs_script.specs.declared.action.Action.TheVariants as actions
use Rattle.lnfs_script.specs.Fits.{ActionFits}
use Rattle.lnfs_asking.specs.Labels.{IsShort, as_attributes, label_alone, error_and_label, spelled, spelled_in, spelled_as, unspelled}
use Rattle.lnfs_asking.specs.Sending.{IsSmall, PlanFits, PlanIsShort}
use Rattle.lnfs_client.specs.declared.stage.Stage.{Stage}
use Rattle.lnfs_client.specs.declared.stage.Stage.TheVariants.{Asserting, Exchanging, Creating, Reclaiming, Asking, Changing, Closing, EndingSession, EndingClient, EndingContext}
use Rattle.lnfs_client.specs.declared.known.Known.{Known}
use Rattle.lnfs_client.specs.declared.known.Running.{Running}
use Rattle.lnfs_client.specs.Names.{AreNames}
use Rattle.lnfs_client.specs.Fits.{RunningFits}
use Rattle.lnfs_client.specs.Requests.{channel, anonymous, no_attrs, listing_size, file_sync, access_write, in_session, walk, names_of, last_name, walked, is_on_parent, to_target, asking, change, guard, ops_of, plan_in}
use Rattle.lnfs_client.proofs.NamesFit.{names_fit}
use Rattle.lnfs_client.proofs.Walking.{front_are}

-- ---- items

opaque_short : (v : List ℕ) (most : ℕ) → length v ≤ most → length (opaque v) ≤ most + 7
opaque_short v most short = omega (arith, length-opaque v)

padded_short : (v : List ℕ) (most : ℕ) → length v ≤ most → length (padded v) ≤ most + 3
padded_short v most short = omega (arith, length-padded v)

bitmap_short : (b : Bitmap) → length b.words ≡ 8 → length (bitmap_text b) ≤ 36
unfolding bitmap_text
bitmap_short b fits =
    omega (arith, length-append (word (length (trimmed b.words))) (flat_map word (trimmed b.words)), length-word (length (trimmed b.words)), length-words (trimmed b.words), trimmed_short b.words)

label_short : (v : LabelValue) → IsShort v → length (attrs_text (as_attributes v)) ≤ 1100
unfolding attrs_text
label_short v short = simp length-append (omega (arith, bitmap_short label_alone refl, length-opaque (word v.lfs ++ word v.pi ++ opaque v.bytes), length-append (word v.lfs ++ word v.pi) (opaque v.bytes), length-append (word v.lfs) (word v.pi), length-word v.lfs, length-word v.pi, opaque_short v.bytes 1024 short))

none_short : length (attrs_text no_attrs) ≤ 50
unfolding attrs_text
none_short = simp length-append (omega (arith, bitmap_short (record { words = 0 ∷ 0 ∷ 0 ∷ 0 ∷ 0 ∷ 0 ∷ 0 ∷ 0 ∷ [] }) refl, opaque_short [] 0 (omega arith)))

id_short : (s : StateId) → length s.other ≡ 12 → length (state_id_text s) ≤ 19
unfolding state_id_text
id_short s fits = simp (length-append, length-word) (omega (arith, padded_short s.other 12 (omega (arith, fits))))

optional_short : (n : Option ℕ) → length (optional_word n) ≤ 8
optional_short None = omega (arith, length-word 0)
optional_short (Some n) = simp (length-append, length-word) (omega arith)

channel_short : (c : Channel) → length (channel_text c) ≤ 32
unfolding channel_text
channel_short c = simp (length-append, length-word) (omega (arith, optional_short c.ird))

-- ---- operations

sequence_small : (s : Sequence) → length s.session ≡ 16 → IsSmall (ops.Sequence s)
unfolding op_text sequence_text
sequence_small s is = simp (length-append, length-word, length-flag) (omega (arith, padded_short s.session 16 (omega (arith, is))))

exchange_small : (owner : List ℕ) → length owner ≤ OWNER_LIMIT → IsSmall (ops.ExchangeId (replicate 8 0) owner 0 None)
unfolding op_text implementation_text
exchange_small owner short = simp (length-append, length-word) (omega (arith, padded_short (replicate 8 0) 8 (omega arith), opaque_short owner 1024 short))

create_small : (client sequence : ℕ) → IsSmall (ops.CreateSession (record { client = client; sequence = sequence; flags = 0; fore = channel; back = channel; program = 0; callbacks = [] }))
unfolding op_text create_session_text
create_small client sequence = simp (length-append, length-word, length-long) (omega (arith, channel_short channel))

reclaim_small : IsSmall (ops.ReclaimComplete false)
unfolding op_text
reclaim_small = simp (length-append, length-word, length-flag) (omega arith)

root_small : IsSmall ops.PutRootFh
unfolding op_text
root_small = simp length-word (omega arith)

lookup_small : (name : List ℕ) → length name ≤ 255 → IsSmall (ops.Lookup name)
unfolding op_text
lookup_small name short = simp (length-append, length-word) (omega (arith, opaque_short name 255 short))

getattr_small : IsSmall (ops.GetAttr label_alone)
unfolding op_text
getattr_small = simp (length-append, length-word) (omega (arith, bitmap_short label_alone refl))

readdir_small : (cookie : ℕ) → IsSmall (ops.ReadDir cookie (replicate 8 0) listing_size listing_size error_and_label)
unfolding op_text
readdir_small cookie = simp (length-append, length-word, length-long) (omega (arith, padded_short (replicate 8 0) 8 (omega arith), bitmap_short error_and_label refl))

read_small : (offset count : ℕ) → IsSmall (ops.Read anonymous offset count)
unfolding op_text
read_small offset count = simp (length-append, length-word, length-long) (omega (arith, id_short anonymous refl))

verify_small : (v : LabelValue) → IsShort v → IsSmall (ops.Verify (as_attributes v))
unfolding op_text
verify_small v short = simp (length-append, length-word) (omega (arith, label_short v short))

write_small : (offset : ℕ) (content : List ℕ) → length content ≤ 1024 → IsSmall (ops.Write anonymous offset file_sync content)
unfolding op_text
write_small offset content short = simp (length-append, length-word, length-long) (omega (arith, id_short anonymous refl, opaque_short content 1024 short))

open_small : (client : ℕ) (owner name : List ℕ) → length owner ≤ OWNER_LIMIT → length name ≤ 255 → IsSmall (ops.Open 0 access_write 0 client owner (Some (Guarded no_attrs)) (Name name))
unfolding op_text making_text claim_text
open_small client owner name owns short = simp (length-append, length-word, length-long) (omega (arith, opaque_short owner 1024 owns, none_short, opaque_short name 255 short))

dir_small : (name : List ℕ) (v : LabelValue) → length name ≤ 255 → IsShort v → IsSmall (ops.Create Dir name (as_attributes v))
unfolding op_text what_text
dir_small name v named short = simp (length-append, length-word) (omega (arith, opaque_short name 255 named, label_short v short))

remove_small : (name : List ℕ) → length name ≤ 255 → IsSmall (ops.Remove name)
unfolding op_text
remove_small name short = simp (length-append, length-word) (omega (arith, opaque_short name 255 short))

set_small : (v : LabelValue) → IsShort v → IsSmall (ops.SetAttr anonymous (as_attributes v))
unfolding op_text
set_small v short = simp (length-append, length-word) (omega (arith, id_short anonymous refl, label_short v short))

close_small : (id : StateId) → length id.other ≡ 12 → IsSmall (ops.Close 0 id)
unfolding op_text
close_small id is = simp (length-append, length-word) (omega (arith, id_short id is))

end_session_small : (session : List ℕ) → length session ≡ 16 → IsSmall (ops.DestroySession session)
unfolding op_text
end_session_small session is = simp (length-append, length-word) (omega (arith, padded_short session 16 (omega (arith, is))))

end_client_small : (client : ℕ) → IsSmall (ops.DestroyClientId client)
unfolding op_text
end_client_small client = simp (length-append, length-word, length-long) (omega arith)

-- ---- the operations of a stage

abbrev Are : List Op → Type 0
Are xs = All IsSmall xs

one : (op : Op) → IsSmall op → Are (op ∷ [])
one op small = All-cons IsSmall op [] small (All-nil IsSmall)

walk_small : (names : List (List ℕ)) → AreNames names → Are (walk names)
walk_small names are = All-cons IsSmall ops.PutRootFh (map ops.Lookup names) root_small (All-map IsSmall ops.Lookup names (All-weaker (λ (name : List ℕ). length name ≤ 255) (λ (name : List ℕ). IsSmall (ops.Lookup name)) lookup_small names are.short))

walked_are : (b : Bool) (names : List (List ℕ)) → AreNames names → AreNames (walked b names)
walked_are true names are = front_are (length names - 1) names are
walked_are false names are = are

target_small : (action : Action) → ActionFits action → Are (to_target action)
target_small action fits = walk_small (walked (is_on_parent action) (names_of action)) (walked_are (is_on_parent action) (names_of action) (names_fit action fits))

asking_small : (action : Action) (cookie : ℕ) → Are (asking action cookie)
asking_small (actions.List path) cookie = All-cons IsSmall (ops.GetAttr label_alone) (ops.ReadDir cookie (replicate 8 0) listing_size listing_size error_and_label ∷ []) getattr_small (one _ (readdir_small cookie))
asking_small (actions.Read path offset count) cookie = All-cons IsSmall (ops.GetAttr label_alone) (ops.Read anonymous offset count ∷ []) getattr_small (one _ (read_small offset count))
asking_small action cookie = one _ getattr_small

spelled_as_short : (entry : FormatEntry) (bytes : Option (List ℕ)) → IsShort (spelled_as entry bytes)
spelled_as_short entry None = omega arith
spelled_as_short entry (Some bytes) = by (nat_le (length bytes) LABEL_LIMIT) refl
  where
    by : (b : Bool) → nat_le (length bytes) LABEL_LIMIT ≡ b → IsShort (if b then record { lfs = entry.lfs; pi = entry.pi; bytes = bytes } else unspelled)
    by true e = leb-true _ _ e
    by false e = omega arith

spelled_in_short : (p : Policy) (level : ℕ) (o : Option FormatEntry) → IsShort (spelled_in p level o)
spelled_in_short p level None = omega arith
spelled_in_short p level (Some entry) = spelled_as_short entry (writes entry.kind (label_at p.labels level))

spelled_short : (p : Policy) (level : ℕ) → IsShort (spelled p level)
unfolding spelled
spelled_short p level = spelled_in_short p level (slice_get p.formats 0)

-- one of the names, or no bytes
nth_short : (names : List (List ℕ)) (i : ℕ) → AllByRecursion (λ (name : List ℕ). length name ≤ 255) names → length (unwrap_or (slice_get names i) []) ≤ 255
nth_short [] i all = omega arith
nth_short (name ∷ names) zero all = all.0
nth_short (name ∷ names) (suc i) all = nth_short names i all.1

last_short : (names : List (List ℕ)) → AreNames names → length (unwrap_or (slice_get names (length names - 1)) []) ≤ 255
last_short names are = nth_short names (length names - 1) (recursion_from_All (λ (name : List ℕ). length name ≤ 255) names are.short)

change_small : (p : Policy) (k : Known) (action : Action) → length k.owner ≤ OWNER_LIMIT → ActionFits action → Are (change p k action)
change_small p k (actions.Write path offset content) owns fits = one _ (write_small offset content fits.2)
change_small p k (actions.Make path) owns fits = one _ (open_small k.client k.owner (last_name (actions.Make path)) owns (last_short (names_of (actions.Make path)) (names_fit (actions.Make path) fits)))
change_small p k (actions.Mkdir path level) owns fits = one _ (dir_small (last_name (actions.Mkdir path level)) (spelled p level.0) (last_short (names_of (actions.Mkdir path level)) (names_fit (actions.Mkdir path level) fits)) (spelled_short p level.0))
change_small p k (actions.Remove path) owns fits = one _ (remove_small (last_name (actions.Remove path)) (last_short (names_of (actions.Remove path)) (names_fit (actions.Remove path) fits)))
change_small p k (actions.Raise path level) owns fits = one _ (set_small (spelled p level.0) (spelled_short p level.0))
change_small p k actions.Mount owns fits = All-nil IsSmall
change_small p k (actions.List path) owns fits = All-nil IsSmall
change_small p k (actions.Read path offset count) owns fits = All-nil IsSmall
change_small p k actions.Leave owns fits = All-nil IsSmall

guard_short : (label : Option LabelValue) → IfSome label IsShort → IsShort (unwrap_or label unspelled)
guard_short None short = omega arith
guard_short (Some v) short = short

last_fits : (before : List Op) (op : Op) → AllByRecursion OpFits (before ++ op ∷ []) → OpFits op
last_fits [] op all = all.0
last_fits (first ∷ before) op all = last_fits before op all.1

session_small : (k : Known) (more : List Op) → All OpFits (in_session k ∷ more) → IsSmall (in_session k)
session_small k more fit = sequence_small (record { session = k.session; sequence = k.sequence; slot = 0; highest = 0; cachethis = true }) (All-head OpFits (in_session k) more fit).0

-- Identifiers have the sizes that the operations' bounds give them.
pub stage_short : (p : Policy) (k : Known) (r : Running) (stage : Stage) → PlanFits (plan_in p k r stage) → length k.owner ≤ OWNER_LIMIT → RunningFits r → PlanIsShort (plan_in p k r stage)
unfolding ops_of
stage_short p k r Asserting bounds owns fits = tt
stage_short p k r Exchanging bounds owns fits = one _ (exchange_small k.owner owns)
stage_short p k r Creating bounds owns fits = one _ (create_small k.client k.creating)
stage_short p k r Reclaiming bounds owns fits = All-cons IsSmall (in_session k) (ops.ReclaimComplete false ∷ []) (session_small k (ops.ReclaimComplete false ∷ []) bounds.0) (one _ reclaim_small)
stage_short p k r Asking bounds owns fits =
    let more : List Op = to_target r.action ++ asking r.action r.cookie in
    All-cons IsSmall (in_session k) more (session_small k more bounds.0) (All-append IsSmall (to_target r.action) (asking r.action r.cookie) (target_small r.action fits.0) (asking_small r.action r.cookie))
stage_short p k r Changing bounds owns fits =
    let more : List Op = to_target r.action ++ guard r ∷ change p k r.action in
    let guarded : All IsSmall (guard r ∷ change p k r.action) = All-cons IsSmall (guard r) (change p k r.action) (verify_small (unwrap_or r.label unspelled) (guard_short r.label fits.1)) (change_small p k r.action owns fits.0) in
    All-cons IsSmall (in_session k) more (session_small k more bounds.0) (All-append IsSmall (to_target r.action) (guard r ∷ change p k r.action) (target_small r.action fits.0) guarded)
stage_short p k r Closing bounds owns fits =
    let names : List Op = walk (names_of r.action) in
    let more : List Op = names ++ ops.Close 0 r.opened ∷ [] in
    let last : OpFits (ops.Close 0 r.opened) = last_fits (in_session k ∷ names) (ops.Close 0 r.opened) (recursion_from_All OpFits (in_session k ∷ more) bounds.0) in
    All-cons IsSmall (in_session k) more (session_small k more bounds.0) (All-append IsSmall names (ops.Close 0 r.opened ∷ []) (walk_small (names_of r.action) (names_fit r.action fits.0)) (one _ (close_small r.opened last.1.1)))
stage_short p k r EndingSession bounds owns fits = one _ (end_session_small k.session (All-head OpFits (ops.DestroySession k.session) [] bounds.0))
stage_short p k r EndingClient bounds owns fits = one _ (end_client_small k.client)
stage_short p k r EndingContext bounds owns fits = tt
