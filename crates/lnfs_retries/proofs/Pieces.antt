-- The operations that the client asks behind a SEQUENCE are few, short, and read again.
use Rattle.std.proofs.Common.{◌≡◌, ℕ, zero, suc, ◌+◌, ◌-◌, ◌*◌, ◌/◌, ◌%◌, ◌≤◌, ◌<◌, ◌^◌, ◌==◌, Bool, true, false, ◌&&◌, List, [], ◌∷◌, ◌++◌, length, map, replicate, Option, Some, None, refl, sym, ap, ◌∙◌, arith, lit<}
use Rattle.std.specs.Prelude.{IfSome, nat_le, if◌then◌else◌, slice_get, unwrap_or}
use Rattle.std.specs.List.{flat_map, AllByRecursion}
use Rattle.std.proofs.lemmas.Bool.{leb-true}
use Rattle.std.proofs.lemmas.Bool.Decides.{nat_tests}
use Rattle.std.proofs.lemmas.Grind.{flat_map-append}
use Rattle.std.proofs.lemmas.List.{length-append}
use Rattle.std.proofs.lemmas.List.Concat.{flat_map-cons}
use Rattle.std.proofs.lemmas.List.Elements.{recursion_from_All, All-from_recursion}
use Rattle.lnfs_types.specs.declared.limits.TheConstants.{LABEL_LIMIT}
use Rattle.lnfs_xdr.specs.Canon.{word, long, padded, opaque}
use Rattle.lnfs_xdr.specs.Message.{parse}
use Rattle.lnfs_xdr.proofs.Sizes.{length-word, length-long, length-flag, length-padded, length-opaque, length-words}
use Rattle.lnfs_attrs.specs.declared.bitmap.Bitmap.{Bitmap}
use Rattle.lnfs_attrs.specs.declared.view.LabelValue.{LabelValue}
use Rattle.lnfs_attrs.specs.Bitmaps.{IsWord, BitmapFits, bitmap_text, trimmed, no_attributes}
use Rattle.lnfs_attrs.proofs.Words.{trimmed_short}
use Rattle.lnfs_arguments.specs.declared.numbers.TheConstants.{OWNER_LIMIT}
use Rattle.lnfs_arguments.specs.declared.stateid.StateId.{StateId}
use Rattle.lnfs_arguments.specs.declared.types.What.TheVariants.{Dir}
use Rattle.lnfs_arguments.specs.declared.types.Making.TheVariants.{Guarded}
use Rattle.lnfs_arguments.specs.declared.types.Claim.TheVariants.{Name}
use Rattle.lnfs_arguments.specs.declared.types.Op.{Op}
use Rattle.lnfs_arguments.specs.declared.types.Op.TheVariants as ops
use Rattle.lnfs_arguments.specs.Further.{Further, IsLawful}
use Rattle.lnfs_arguments.specs.Identifiers.{session_id}
use Rattle.lnfs_arguments.specs.SharedTexts.{attrs_text, state_id_text, AttrsFit}
use Rattle.lnfs_arguments.specs.Whole.{compound}
use Rattle.lnfs_requests.specs.Fits.{OpFits, CompoundFits}
use Rattle.lnfs_requests.specs.Texts.{what_text, making_text, claim_text, sequence_text, op_text, compound_text}
use Rattle.lnfs_format.specs.declared.formats.FormatEntry.{FormatEntry}
use Rattle.lnfs_format.specs.Kinds.{writes}
use Rattle.lnfs_calipso.specs.Label.{label_at}
use Rattle.lnfs_policy.specs.Policy.{Policy}
use Rattle.lnfs_script.specs.declared.action.Action.{Action}
use Rattle.lnfs_script.specs.declared.action.Action.TheVariants as actions
use Rattle.lnfs_script.specs.Fits.{ActionFits}
use Rattle.lnfs_asking.specs.Labels.{IsShort, as_attributes, label_alone, error_and_label, spelled, spelled_in, spelled_as, unspelled}
use Rattle.lnfs_asking.specs.Sending.{compound_of}
use Rattle.lnfs_asking.proofs.Sizes.{attributes_fit}
use Rattle.lnfs_client.specs.declared.known.Known.{Known}
use Rattle.lnfs_client.specs.declared.known.Running.{Running}
use Rattle.lnfs_client.specs.Names.{AreNames}
use Rattle.lnfs_client.specs.Fits.{RunningFits}
use Rattle.lnfs_client.specs.Requests.{anonymous, no_attrs, listing_size, file_sync, access_write, walk, names_of, last_name, walked, is_on_parent, to_target, asking, change, guard}
use Rattle.lnfs_client.proofs.NamesFit.{names_fit}
use Rattle.lnfs_client.proofs.Walking.{front_are}
use Rattle.lnfs_operations.specs.Identifiers.{session_named}
use Rattle.lnfs_world.specs.World.{Id}
use Rattle.lnfs_slots.proofs.Naming.{session_named_is, session_whole}
use Rattle.lnfs_retries.specs.Packets.{sequence_in, is_sequence, is_asked}
use Rattle.lnfs_retries.proofs.Arguments.{compound_parsed}
use Rattle.lnfs_retries.proofs.Results.{word-mod}

pub both_true : {a b : Bool} → a ≡ true → b ≡ true → (a && b) ≡ true
both_true {a = a} {b = b} e f = ap (λ (a : Bool). a && b) e ∙ f

-- ---- a part of the operations of a request

-- At most so many, in at most so many bytes; and these bytes are those of operations within their bounds, in which numbers
-- that are no words are taken down to one.
pub record Piece (xs : List Op) (most bytes : ℕ) : Type 0 where
  pub ys : List Op
  pub text : flat_map op_text ys ≡ flat_map op_text xs
  pub count : length ys ≡ length xs
  pub fits : AllByRecursion OpFits ys
  pub few : length xs ≤ most
  pub short : length (flat_map op_text xs) ≤ bytes

pub no_piece : Piece [] 0 0
no_piece = record { ys = []; text = refl; count = refl; fits = tt; few = omega arith; short = omega arith }

all_append : (P : Op → Type 0) (xs ys : List Op) → AllByRecursion P xs → AllByRecursion P ys → AllByRecursion P (xs ++ ys)
all_append P [] ys a b = b
all_append P (x ∷ xs) ys a b = (a.0, all_append P xs ys a.1 b)

infixr 5 ◌+++◌
pub ◌+++◌ : {xs ys : List Op} {a b c d : ℕ} → Piece xs a b → Piece ys c d → Piece (xs ++ ys) (a + c) (b + d)
◌+++◌ {xs = xs} {ys = ys} p q = record {
  ys = p.ys ++ q.ys;
  text = flat_map-append op_text p.ys q.ys ∙ ap (λ (t : List ℕ). t ++ flat_map op_text q.ys) p.text ∙ ap (λ (t : List ℕ). flat_map op_text xs ++ t) q.text ∙ sym (flat_map-append op_text xs ys);
  count = omega (arith, length-append p.ys q.ys, length-append xs ys, p.count, q.count);
  fits = all_append OpFits p.ys q.ys p.fits q.fits;
  few = omega (arith, length-append xs ys, p.few, q.few);
  short = omega (arith, ap length (flat_map-append op_text xs ys), length-append (flat_map op_text xs) (flat_map op_text ys), p.short, q.short);
}

-- one operation, written as another
pub one_as : (op other : Op) (bytes : ℕ) → OpFits other → op_text other ≡ op_text op → length (op_text op) ≤ bytes → Piece (op ∷ []) 1 bytes
one_as op other bytes fits same short = record {
  ys = other ∷ [];
  text = flat_map-cons op_text other [] ∙ ap (λ (t : List ℕ). t ++ flat_map op_text []) same ∙ sym (flat_map-cons op_text op []);
  count = refl;
  fits = (fits, tt);
  few = omega arith;
  short = rw flat_map-cons (simp length-append (omega (arith, short)));
}

pub one : (op : Op) (bytes : ℕ) → OpFits op → length (op_text op) ≤ bytes → Piece (op ∷ []) 1 bytes
one op bytes fits short = one_as op op bytes fits refl short

pub widened : {xs : List Op} {a b : ℕ} (c d : ℕ) → Piece xs a b → a ≤ c → b ≤ d → Piece xs c d
widened c d p few short = record { ys = p.ys; text = p.text; count = p.count; fits = p.fits; few = omega (arith, p.few, few); short = omega (arith, p.short, short) }

-- ---- items

opaque_short : (v : List ℕ) (most : ℕ) → length v ≤ most → length (opaque v) ≤ most + 7
opaque_short v most short = omega (arith, length-opaque v)

padded_short : (v : List ℕ) (most : ℕ) → length v ≤ most → length (padded v) ≤ most + 3
padded_short v most short = omega (arith, length-padded v)

bitmap_short : (b : Bitmap) → length b.words ≡ 8 → length (bitmap_text b) ≤ 36
unfolding bitmap_text
bitmap_short b fits =
    omega (arith, length-append (word (length (trimmed b.words))) (flat_map word (trimmed b.words)), length-word (length (trimmed b.words)), length-words (trimmed b.words), trimmed_short b.words)

label_short : (v : LabelValue) → IsShort v → length (attrs_text (as_attributes v)) ≤ 1100
unfolding attrs_text
label_short v short = simp length-append (omega (arith, bitmap_short label_alone refl, length-opaque (word v.lfs ++ word v.pi ++ opaque v.bytes), length-append (word v.lfs ++ word v.pi) (opaque v.bytes), length-append (word v.lfs) (word v.pi), length-word v.lfs, length-word v.pi, opaque_short v.bytes 1024 short))

none_short : length (attrs_text no_attrs) ≤ 50
unfolding attrs_text
none_short = simp length-append (omega (arith, bitmap_short no_attributes refl, opaque_short [] 0 (omega arith)))

id_short : (s : StateId) → length s.other ≡ 12 → length (state_id_text s) ≤ 19
unfolding state_id_text
id_short s fits = simp (length-append, length-word) (omega (arith, padded_short s.other 12 (omega (arith, fits))))

alone_fits : BitmapFits label_alone
alone_fits = (refl, All-from_recursion IsWord label_alone.words (lit< tt, (lit< tt, (lit< tt, (lit< tt, (lit< tt, (lit< tt, (lit< tt, (lit< tt, tt)))))))))

error_fits : BitmapFits error_and_label
error_fits = (refl, All-from_recursion IsWord error_and_label.words (lit< tt, (lit< tt, (lit< tt, (lit< tt, (lit< tt, (lit< tt, (lit< tt, (lit< tt, tt)))))))))

none_fits : AttrsFit no_attrs
none_fits = ((refl, All-from_recursion IsWord no_attributes.words (lit< tt, (lit< tt, (lit< tt, (lit< tt, (lit< tt, (lit< tt, (lit< tt, (lit< tt, tt))))))))), omega arith)

long-mod : (n : ℕ) → long n ≡ long (n % 2 ^ 64)
unfolding long
long-mod n = λ i. (a i ∷ b i ∷ c i ∷ d i ∷ e i ∷ f i ∷ g i ∷ h i ∷ [])
  where
    a : n / 72057594037927936 % 256 ≡ n % 2 ^ 64 / 72057594037927936 % 256
    a = omega arith

    b : n / 281474976710656 % 256 ≡ n % 2 ^ 64 / 281474976710656 % 256
    b = omega arith

    c : n / 1099511627776 % 256 ≡ n % 2 ^ 64 / 1099511627776 % 256
    c = omega arith

    d : n / 4294967296 % 256 ≡ n % 2 ^ 64 / 4294967296 % 256
    d = omega arith

    e : n / 16777216 % 256 ≡ n % 2 ^ 64 / 16777216 % 256
    e = omega arith

    f : n / 65536 % 256 ≡ n % 2 ^ 64 / 65536 % 256
    f = omega arith

    g : n / 256 % 256 ≡ n % 2 ^ 64 / 256 % 256
    g = omega arith

    h : n % 256 ≡ n % 2 ^ 64 % 256
    h = omega arith

-- ---- operations

root : Piece (ops.PutRootFh ∷ []) 1 4
unfolding op_text
root = one ops.PutRootFh 4 tt (simp length-word (omega arith))

lookup : (name : List ℕ) → length name ≤ 255 → Piece (ops.Lookup name ∷ []) 1 266
unfolding op_text
lookup name short = one (ops.Lookup name) 266 (omega (arith, short)) (simp (length-append, length-word) (omega (arith, opaque_short name 255 short)))

lookups : (names : List (List ℕ)) → AllByRecursion (λ name. length name ≤ 255) names → Piece (map ops.Lookup names) (length names) (266 * length names)
lookups [] all = no_piece
lookups (name ∷ names) all = widened (length (name ∷ names)) (266 * length (name ∷ names)) (lookup name all.0 +++ lookups names all.1) (omega arith) (omega arith)

walks : (names : List (List ℕ)) → AreNames names → Piece (walk names) 17 4260
walks names are = widened 17 4260 (root +++ lookups names (recursion_from_All (λ name. length name ≤ 255) names are.short)) (omega (arith, are.few)) (omega (arith, are.few))

walked_are : (b : Bool) (names : List (List ℕ)) → AreNames names → AreNames (walked b names)
walked_are true names are = front_are (length names - 1) names are
walked_are false names are = are

target : (action : Action) → ActionFits action → Piece (to_target action) 17 4260
target action fits = walks (walked (is_on_parent action) (names_of action)) (walked_are (is_on_parent action) (names_of action) (names_fit action fits))

getattr : Piece (ops.GetAttr label_alone ∷ []) 1 40
unfolding op_text
getattr = one (ops.GetAttr label_alone) 40 alone_fits (simp (length-append, length-word) (omega (arith, bitmap_short label_alone refl)))

readdir : (cookie : ℕ) → Piece (ops.ReadDir cookie (replicate 8 0) listing_size listing_size error_and_label ∷ []) 1 80
unfolding op_text
readdir cookie =
    let whole : ℕ → Op = λ cookie. ops.ReadDir cookie (replicate 8 0) listing_size listing_size error_and_label in
    one_as (whole cookie) (whole (cookie % 2 ^ 64)) 80 (omega arith, refl, omega arith, omega arith, error_fits)
    (ap (λ (b : List ℕ). word 26 ++ b ++ padded (replicate 8 0) ++ word listing_size ++ word listing_size ++ bitmap_text error_and_label) (sym (long-mod cookie)))
    (simp (length-append, length-word, length-long) (omega (arith, padded_short (replicate 8 0) 8 (omega arith), bitmap_short error_and_label refl)))

read : (offset count : ℕ) → offset < 2 ^ 64 → count < 2 ^ 32 → Piece (ops.Read anonymous offset count ∷ []) 1 40
unfolding op_text
read offset count far many = one (ops.Read anonymous offset count) 40 ((omega arith, refl), far, many) (simp (length-append, length-word, length-long) (omega (arith, id_short anonymous refl)))

verify : (v : LabelValue) → IsShort v → Piece (ops.Verify (as_attributes v) ∷ []) 1 1104
unfolding op_text
verify v short = one (ops.Verify (as_attributes v)) 1104 (attributes_fit v short) (simp (length-append, length-word) (omega (arith, label_short v short)))

write : (offset : ℕ) (content : List ℕ) → offset < 2 ^ 64 → length content ≤ 1024 → Piece (ops.Write anonymous offset file_sync content ∷ []) 1 1100
unfolding op_text
write offset content far short = one (ops.Write anonymous offset file_sync content) 1100 ((omega arith, refl), far, omega arith, omega (arith, short)) (simp (length-append, length-word, length-long) (omega (arith, id_short anonymous refl, opaque_short content 1024 short)))

opening : (client : ℕ) (owner name : List ℕ) → client < 2 ^ 64 → length owner ≤ OWNER_LIMIT → length name ≤ 255 → Piece (ops.Open 0 access_write 0 client owner (Some (Guarded no_attrs)) (Name name) ∷ []) 1 1400
unfolding op_text making_text claim_text
opening client owner name fits owns short = one (ops.Open 0 access_write 0 client owner (Some (Guarded no_attrs)) (Name name)) 1400 (omega arith, omega arith, omega arith, fits, owns, none_fits, omega (arith, short)) (simp (length-append, length-word, length-long) (omega (arith, opaque_short owner 1024 owns, none_short, opaque_short name 255 short)))

making : (name : List ℕ) (v : LabelValue) → length name ≤ 255 → IsShort v → Piece (ops.Create Dir name (as_attributes v) ∷ []) 1 1400
unfolding op_text what_text
making name v named short = one (ops.Create Dir name (as_attributes v)) 1400 (tt, omega (arith, named), attributes_fit v short) (simp (length-append, length-word) (omega (arith, opaque_short name 255 named, label_short v short)))

removing : (name : List ℕ) → length name ≤ 255 → Piece (ops.Remove name ∷ []) 1 270
unfolding op_text
removing name short = one (ops.Remove name) 270 (omega (arith, short)) (simp (length-append, length-word) (omega (arith, opaque_short name 255 short)))

setting : (v : LabelValue) → IsShort v → Piece (ops.SetAttr anonymous (as_attributes v) ∷ []) 1 1200
unfolding op_text
setting v short = one (ops.SetAttr anonymous (as_attributes v)) 1200 ((omega arith, refl), attributes_fit v short) (simp (length-append, length-word) (omega (arith, id_short anonymous refl, label_short v short)))

reclaim : Piece (ops.ReclaimComplete false ∷ []) 1 8
unfolding op_text
reclaim = one (ops.ReclaimComplete false) 8 tt (simp (length-append, length-word, length-flag) (omega arith))

closing : (id : StateId) → length id.other ≡ 12 → Piece (ops.Close 0 id ∷ []) 1 40
unfolding op_text state_id_text
closing id sized =
    one_as (ops.Close 0 id) (ops.Close 0 (record id { seqid = id.seqid % 2 ^ 32 })) 40 (omega arith, (omega arith, sized))
    (ap (λ (b : List ℕ). word 4 ++ word 0 ++ (b ++ padded id.other)) (sym (word-mod id.seqid)))
    (simp (length-append, length-word) (omega (arith, padded_short id.other 12 (omega (arith, sized)))))

-- ---- what a stage asks behind its SEQUENCE

asked : (action : Action) (cookie : ℕ) → ActionFits action → Piece (asking action cookie) 2 120
asked (actions.List path) cookie fits = widened 2 120 (getattr +++ readdir cookie) (omega arith) (omega arith)
asked (actions.Read path offset count) cookie fits = widened 2 120 (getattr +++ read offset count (omega (arith, fits.1)) (omega (arith, fits.2))) (omega arith) (omega arith)
asked (actions.Write path offset content) cookie fits = widened 2 120 getattr (omega arith) (omega arith)
asked (actions.Make path) cookie fits = widened 2 120 getattr (omega arith) (omega arith)
asked (actions.Mkdir path level) cookie fits = widened 2 120 getattr (omega arith) (omega arith)
asked (actions.Remove path) cookie fits = widened 2 120 getattr (omega arith) (omega arith)
asked (actions.Raise path level) cookie fits = widened 2 120 getattr (omega arith) (omega arith)
asked actions.Mount cookie fits = widened 2 120 getattr (omega arith) (omega arith)
asked actions.Leave cookie fits = widened 2 120 getattr (omega arith) (omega arith)

spelled_as_short : (entry : FormatEntry) (bytes : Option (List ℕ)) → IsShort (spelled_as entry bytes)
spelled_as_short entry None = omega arith
spelled_as_short entry (Some bytes) = by (nat_le (length bytes) LABEL_LIMIT) refl
  where
    by : (b : Bool) → nat_le (length bytes) LABEL_LIMIT ≡ b → IsShort (if b then record { lfs = entry.lfs; pi = entry.pi; bytes = bytes } else unspelled)
    by true e = leb-true _ _ e
    by false e = omega arith

spelled_in_short : (p : Policy) (level : ℕ) (o : Option FormatEntry) → IsShort (spelled_in p level o)
spelled_in_short p level None = omega arith
spelled_in_short p level (Some entry) = spelled_as_short entry (writes entry.kind (label_at p.labels level))

pub spelled_short : (p : Policy) (level : ℕ) → IsShort (spelled p level)
unfolding spelled
spelled_short p level = spelled_in_short p level (slice_get p.formats 0)

nth_short : (names : List (List ℕ)) (i : ℕ) → AllByRecursion (λ (name : List ℕ). length name ≤ 255) names → length (unwrap_or (slice_get names i) []) ≤ 255
nth_short [] i all = omega arith
nth_short (name ∷ names) zero all = all.0
nth_short (name ∷ names) (suc i) all = nth_short names i all.1

last_short : (action : Action) → ActionFits action → length (last_name action) ≤ 255
last_short action fits = nth_short (names_of action) (length (names_of action) - 1) (recursion_from_All (λ (name : List ℕ). length name ≤ 255) (names_of action) (names_fit action fits).short)

changing : (p : Policy) (k : Known) (action : Action) → k.client < 2 ^ 64 → length k.owner ≤ OWNER_LIMIT → ActionFits action → Piece (change p k action) 1 1400
changing p k (actions.Write path offset content) long32 owns fits = widened 1 1400 (write offset content (omega (arith, fits.1)) fits.2) (omega arith) (omega arith)
changing p k (actions.Make path) long32 owns fits = opening k.client k.owner (last_name (actions.Make path)) long32 owns (last_short (actions.Make path) fits)
changing p k (actions.Mkdir path level) long32 owns fits = making (last_name (actions.Mkdir path level)) (spelled p level.0) (last_short (actions.Mkdir path level) fits) (spelled_short p level.0)
changing p k (actions.Remove path) long32 owns fits = widened 1 1400 (removing (last_name (actions.Remove path)) (last_short (actions.Remove path) fits)) (omega arith) (omega arith)
changing p k (actions.Raise path level) long32 owns fits = widened 1 1400 (setting (spelled p level.0) (spelled_short p level.0)) (omega arith) (omega arith)
changing p k actions.Mount long32 owns fits = widened 1 1400 no_piece (omega arith) (omega arith)
changing p k (actions.List path) long32 owns fits = widened 1 1400 no_piece (omega arith) (omega arith)
changing p k (actions.Read path offset count) long32 owns fits = widened 1 1400 no_piece (omega arith) (omega arith)
changing p k actions.Leave long32 owns fits = widened 1 1400 no_piece (omega arith) (omega arith)

guard_short : (label : Option LabelValue) → IfSome label IsShort → IsShort (unwrap_or label unspelled)
guard_short None short = omega arith
guard_short (Some v) short = short

pub reclaiming : Piece (ops.ReclaimComplete false ∷ []) 19 7000
reclaiming = widened 19 7000 reclaim (omega arith) (omega arith)

pub asking_piece : (r : Running) → RunningFits r → Piece (to_target r.action ++ asking r.action r.cookie) 19 7000
asking_piece r fits = widened 19 7000 (target r.action fits.0 +++ asked r.action r.cookie fits.0) (omega arith) (omega arith)

pub changing_piece : (p : Policy) (k : Known) (r : Running) → k.client < 2 ^ 64 → length k.owner ≤ OWNER_LIMIT → RunningFits r → Piece (to_target r.action ++ guard r ∷ change p k r.action) 19 7000
changing_piece p k r long32 owns fits =
    widened 19 7000 (target r.action fits.0 +++ (verify (unwrap_or r.label unspelled) (guard_short r.label fits.1) +++ changing p k r.action long32 owns fits.0)) (omega arith) (omega arith)

pub closing_piece : (r : Running) → RunningFits r → length r.opened.other ≡ 12 → Piece (walk (names_of r.action) ++ ops.Close 0 r.opened ∷ []) 19 7000
closing_piece r fits sized = widened 19 7000 (walks (names_of r.action) (names_fit r.action fits.0) +++ closing r.opened sized) (omega arith) (omega arith)

-- ---- a COMPOUND in a session

-- its arguments are read as such a COMPOUND, and are short
pub record Readable (g : Further) (level number sequence : ℕ) (xs : List Op) : Type 0 where
  pub asked : is_asked level number sequence (parse (compound g) (compound_text (compound_of xs))) ≡ true
  pub short : length (compound_text (compound_of xs)) ≤ 7100

module _ (g : Further) (lawful : IsLawful g) (level : ℕ) (small : level < 2 ^ 32) (number sequence : ℕ) (long64 : number < 2 ^ 64) (word32 : sequence < 2 ^ 32) where
  abbrev first : Op
  first = ops.Sequence (sequence_in level number sequence)

  session_sized : length (session_id level number) ≡ 16
  session_sized = simp (length-append, length-word, length-long) refl

  first_short : length (op_text first) ≤ 60
  unfolding op_text sequence_text
  first_short = simp (length-append, length-word, length-flag) (omega (arith, padded_short (session_id level number) 16 (omega (arith, session_sized))))

  names_it : (rest : List Op) → is_sequence level number sequence (first ∷ rest) ≡ true
  names_it rest =
      let named = session_named_is level number small long64 in
      let level_is : ((session_named (session_id level number)).level == level) ≡ true = ap (λ (i : Id). i.level == level) named ∙ grind (arith, nat_tests) in
      let number_is : ((session_named (session_id level number)).number == number) ≡ true = ap (λ (i : Id). i.number == number) named ∙ grind (arith, nat_tests) in
      let sequence_is : (sequence == sequence) ≡ true = grind (arith, nat_tests) in
      both_true level_is (both_true number_is (both_true (session_whole level number small) (both_true refl sequence_is)))

  written_as : (n : ℕ) (text : List ℕ) → List ℕ
  written_as n text = opaque [] ++ word 2 ++ word n ++ text

  text_is : (xs : List Op) → compound_text (compound_of xs) ≡ written_as (length xs) (flat_map op_text xs)
  unfolding compound_text written_as
  text_is xs = refl

  size : (more : List Op) → Piece more 19 7000 → length (compound_text (compound_of (first ∷ more))) ≤ 7100
  unfolding compound_text
  size more p = rw flat_map-cons (simp (length-append, length-word) (omega (arith, opaque_short [] 0 (omega arith), first_short, p.short)))

  pub readable : (more : List Op) → Piece more 19 7000 → Readable g level number sequence (first ∷ more)
  readable more p =
      let ys : List Op = first ∷ p.ys in
      let counts : length ys ≡ length (first ∷ more) = omega (arith, p.count) in
      let texts : flat_map op_text ys ≡ flat_map op_text (first ∷ more) = flat_map-cons op_text first p.ys ∙ ap (λ (t : List ℕ). op_text first ++ t) p.text ∙ sym (flat_map-cons op_text first more) in
      let same : compound_text (compound_of ys) ≡ compound_text (compound_of (first ∷ more)) =
      text_is ys ∙ ap (λ (n : ℕ). written_as n (flat_map op_text ys)) counts ∙ ap (written_as (length (first ∷ more))) texts ∙ sym (text_is (first ∷ more)) in
      let few : length ys ≤ 20 = omega (arith, p.count, p.few) in
      let counted : nat_le (length ys) 20 ≡ true = grind (arith, nat_tests, few) in
      let fits : CompoundFits (compound_of ys) = record { tag = omega arith; minor = refl; count = refl; few = omega (arith, few); ops = All-from_recursion OpFits ys ((session_sized, word32, omega arith, omega arith), p.fits) } in
      record {
        asked =
            ap (λ (t : List ℕ). is_asked level number sequence (parse (compound g) t)) (sym same)
            ∙ ap (is_asked level number sequence) (compound_parsed g lawful (compound_of ys) fits)
            ∙ both_true refl (both_true counted (both_true refl (names_it p.ys)));
        short = size more p;
      }
