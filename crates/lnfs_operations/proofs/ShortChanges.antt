-- What the operations answer that make nodes, change their names and set their attributes is within their bounds.
use Rattle.std.proofs.Common.{◌≡◌, ◌≤◌, ◌<◌, ◌+◌, ℕ, zero, suc, Bool, true, not, ◌&&◌, ◌||◌, length, refl, sym, ap, subst, ◌∙◌, arith, inl, inr, length-append}
use Rattle.std.specs.Prelude.{◌==◌}
use Rattle.std.specs.List.{list_all, range_with_len}
use Rattle.std.proofs.lemmas.Bool.{and_parts, cases_lt}
use Rattle.std.proofs.lemmas.Bool.Decides.{nat_tests}
use Rattle.lnfs_xdr.specs.Canon.{word, padded}
use Rattle.lnfs_xdr.proofs.Sizes.{length-word, length-long, length-padded}
use Rattle.lnfs_attrs.specs.declared.numbers.TheConstants.{SIZE}
use Rattle.lnfs_attrs.specs.declared.bitmap.Bitmap.{Bitmap}
use Rattle.lnfs_attrs.specs.declared.raw.RawAttrs.{RawAttrs}
use Rattle.lnfs_attrs.specs.Bitmaps.{has_attr, bitmap_text, BitmapFits}
use Rattle.lnfs_attrs.specs.Attributes.{AllAsked, is_settable}
use Rattle.lnfs_arguments.specs.Further.{Further}
use Rattle.lnfs_arguments.specs.SharedTexts.{state_id_text, cinfo_text}
use Rattle.lnfs_arguments.specs.declared.stateid.StateId.{StateId}
use Rattle.lnfs_arguments.specs.declared.stateid.Cinfo.{Cinfo}
use Rattle.lnfs_arguments.specs.declared.types.Op.{Op}
use Rattle.lnfs_arguments.specs.declared.types.Op.TheVariants as ops
use Rattle.lnfs_results.specs.declared.types.OpResult.TheVariants as results
use Rattle.lnfs_results.specs.Bounds.{rounded}
use Rattle.lnfs_results.specs.Texts.{fields_text, result_text}
use Rattle.lnfs_results.proofs.Bounds.{length-result, result-bound}
use Rattle.lnfs_world.specs.World.{World}
use Rattle.lnfs_world.specs.Outcome.{Site, Place}
use Rattle.lnfs_operations.specs.Names.{where_named}
use Rattle.lnfs_operations.specs.Given.{are_settable, set_of}
use Rattle.lnfs_operations.specs.Create.{Made}
use Rattle.lnfs_operations.specs.Rename.{Renamed}
use Rattle.lnfs_operations.specs.Shown.{bitmap_of}
use Rattle.lnfs_operations.specs.Open.{Arguments, attrs_of}
use Rattle.lnfs_operations.specs.Close.{closed}
use Rattle.lnfs_operations.specs.Write.{Arguments as WriteArguments}
use Rattle.lnfs_operations.specs.declared.numbers.TheConstants.{FILE_SYNC4, OPEN4_RESULT_LOCKTYPE_POSIX}
use Rattle.lnfs_operations.specs.Sequence.{Sent}
use Rattle.lnfs_operations.specs.Served.{Nowhere, success, plainly, zeros, opened_reply, row}
use Rattle.lnfs_operations.proofs.BitmapLaws.{bitmap_fits, bitmap_has, bitmap_ends}
use Rattle.lnfs_operations.proofs.Ends.{named_any}
use Rattle.lnfs_operations.proofs.GivenLaws.{settable_any}
use Rattle.lnfs_operations.proofs.CreateLaws.{create_any}
use Rattle.lnfs_operations.proofs.Namings.{link_any, remove_any, rename_any}
use Rattle.lnfs_operations.proofs.SetAttrLaws.{set_attr_any}
use Rattle.lnfs_operations.proofs.Answering.{handle_length}
use Rattle.lnfs_operations.proofs.FileLaws.{close_any, write_any}
use Rattle.lnfs_operations.proofs.Openings.{open_any}
use Rattle.lnfs_operations.proofs.ShortRows.{Short, IsShortBy, refused_short}
use Rattle.lnfs_operations.proofs.ChangingRows.{is_changing}

-- ---- the attributes that were set

in_range : (q : ℕ → Bool) (count from n : ℕ) → list_all q (range_with_len from count) ≡ true → from ≤ n → n < from + count → q n ≡ true
in_range q zero from n all le lt = absurd (omega arith)
in_range q (suc count) from n all le lt =
    let both = and_parts (q from) (list_all q (range_with_len (from + 1) count)) all in
    elim (cases_lt from n) [
      | inl above ↦ in_range q count (from + 1) n both.1 (omega arith) (omega arith)
      | inr here ↦ let same : from ≡ n = omega arith in subst (λ m. q m ≡ true) same both.0
    ]

-- what was set is what was given, and can be set
set_settable : (given : RawAttrs) → are_settable given.mask ≡ true → AllAsked (set_of given) is_settable
set_settable given all n has = elim (cases_lt n 256) [
  | inl below ↦
      let asked : has_attr given.mask n ≡ true = sym (bitmap_has (has_attr given.mask) n below) ∙ has in
      let passes = in_range (λ m. not (has_attr given.mask m) || is_settable m) 256 0 n all (omega arith) below in
      grind (arith, asked, passes)
  | inr above ↦ absurd (let none = bitmap_ends (has_attr given.mask) n above in grind (arith, has, none))
]

-- ---- each result

set_short : (given : RawAttrs) → are_settable given.mask ≡ true → length (result_text (results.SetAttr 0 (set_of given))) ≤ 24
set_short given all = result-bound (results.SetAttr 0 (set_of given)) (omega arith, bitmap_fits (has_attr given.mask)) (set_settable given all)

info_length : (info : Cinfo) → length (cinfo_text info) ≡ 20
unfolding cinfo_text
info_length info = simp (length-append, length-word, length-long) refl

made_short : (info : Cinfo) (given : RawAttrs) → are_settable given.mask ≡ true → length (result_text (results.Create info (set_of given))) ≤ 44
unfolding fields_text
made_short info given all = omega (arith, length-result (results.Create info (set_of given)), length-append (cinfo_text info) (bitmap_text (set_of given)), info_length info, length-result (results.SetAttr 0 (set_of given)), set_short given all)

linked_short : (info : Cinfo) → length (result_text (results.Link info)) ≤ 28
unfolding fields_text
linked_short info = omega (arith, length-result (results.Link info), info_length info)

removed_short : (info : Cinfo) → length (result_text (results.Remove info)) ≤ 28
unfolding fields_text
removed_short info = omega (arith, length-result (results.Remove info), info_length info)

renamed_short : (source target : Cinfo) → length (result_text (results.Rename source target)) ≤ 48
unfolding fields_text
renamed_short source target = omega (arith, length-result (results.Rename source target), length-append (cinfo_text source) (cinfo_text target), info_length source, info_length target)

state_id_short : (id : StateId) → length id.other ≡ 12 → length (state_id_text id) ≡ 16
unfolding state_id_text
state_id_short id twelve = omega (arith, length-append (word id.seqid) (padded id.other), length-word id.seqid, length-padded id.other, ap rounded twelve)

opened_short : (id : StateId) (info : Cinfo) (set : Bitmap) → length id.other ≡ 12 → BitmapFits set → AllAsked set is_settable → length (result_text (results.Open id info OPEN4_RESULT_LOCKTYPE_POSIX set 0)) ≤ 68
unfolding fields_text result_text
opened_short id info set twelve fits asked =
    let set_result = result-bound (results.SetAttr 0 set) (omega arith, fits) asked in
    simp (length-append, length-word, info_length) (omega (arith, state_id_short id twelve, length-result (results.SetAttr 0 set), set_result))

closed_short : length (result_text (results.Close closed)) ≤ 24
unfolding fields_text
closed_short = omega (arith, length-result (results.Close closed), state_id_short closed refl)

written_short : (many : ℕ) → length (result_text (results.Write many FILE_SYNC4 (zeros 8))) ≤ 24
unfolding fields_text result_text
written_short many = simp (length-append, length-word) (omega (arith, length-padded (zeros 8)))

-- at most the size is set of a file that is there
size_asked : (sized : Bool) → AllAsked (bitmap_of (λ attr. sized && attr == SIZE)) is_settable
unfolding is_settable
size_asked sized n has = elim (cases_lt n 256) [
  | inl below ↦
      let told : (sized && n == SIZE) ≡ true = sym (bitmap_has (λ attr. sized && attr == SIZE) n below) ∙ has in
      let same : n ≡ SIZE = grind (arith, nat_tests, told) in
      subst (λ m. is_settable m ≡ true) (sym same) refl
  | inr above ↦ absurd (let none = bitmap_ends (λ attr. sized && attr == SIZE) n above in grind (arith, has, none))
]

-- ---- each operation

module _ (x : Further) (site : Site) (sent : Sent) (p : Place) (w : World) where
  pub changing_short : (op : Op) → is_changing op ≡ true → Short x op (row site sent op p w).answer
  changing_short (ops.Create what name given) is =
      let op = ops.Create what name given in
      let reply = λ (made : Made). success (results.Create made.info made.set) Nowhere in
      let P = IsShortBy x op reply in
      settable_any P p (where_named p name) (λ gate status. named_any P p (refused_short x p op reply) name _ (refused_short x p op reply gate status)) given _ (λ settable.
      create_any P site what name given p w (refused_short x p op reply) (λ values label d read as_given may. made_short _ given settable))
  changing_short (ops.Link name) is =
      let op = ops.Link name in
      let reply = λ (info : Cinfo). success (results.Link info) Nowhere in
      link_any site p w (IsShortBy x op reply) name (refused_short x p op reply) (λ n d is links free. linked_short _)
  changing_short (ops.Remove name) is =
      let op = ops.Remove name in
      let reply = λ (info : Cinfo). success (results.Remove info) Nowhere in
      remove_any site p w (IsShortBy x op reply) name (refused_short x p op reply) (λ d n e is named leaves. removed_short _)
  changing_short (ops.Rename old new) is =
      let op = ops.Rename old new in
      let reply = λ (renamed : Renamed). success (results.Rename renamed.source renamed.target) Nowhere in
      rename_any site p w (IsShortBy x op reply) old new (record {
        refused = refused_short x p op reply;
        stays = λ m. renamed_short _ _;
        free = λ m from to named moves is. renamed_short _ _;
        onto = λ m e n from to named moves onto gives. renamed_short _ _;
      })
  changing_short (ops.SetAttr id given) is =
      let op = ops.SetAttr id given in
      let reply = λ (set : Bitmap). success (results.SetAttr 0 set) Nowhere in
      let P = IsShortBy x op reply in
      settable_any P p (λ o. o) (λ gate status. refused_short x p op reply gate status) given _ (λ settable.
      let short = set_short given settable in
      set_attr_any P site id given p w (refused_short x p op reply) short (λ values label n limited read as_given may. short) (λ n level may. short) (λ n values may. short))
  changing_short (ops.Open seqid access deny client owner making claim) is =
      let op = ops.Open seqid access deny client owner making claim in
      let args : Arguments = record { access = access; deny = deny; owner = owner; making = making; claim = claim } in
      open_any (IsShortBy x op opened_reply) site args p w (record {
        refused = refused_short x p op opened_reply;
        makes = λ client name making wanted d may.
            let asked = subst (λ b. AllAsked b is_settable) (sym may.as_given.set) (set_settable (attrs_of making) may.as_given.read.settable) in
            let fits = subst BitmapFits (sym may.as_given.set) (bitmap_fits (has_attr (attrs_of making).mask)) in
            opened_short _ _ wanted.set (handle_length _) fits asked;
        joins = λ client wanted info n o may found. opened_short _ info _ (handle_length _) (bitmap_fits (λ attr. wanted.sized && attr == SIZE)) (size_asked wanted.sized);
        adds = λ client wanted info n may none left. opened_short _ info _ (handle_length _) (bitmap_fits (λ attr. wanted.sized && attr == SIZE)) (size_asked wanted.sized);
      })
  changing_short (ops.Close seqid id) is =
      let op = ops.Close seqid id in
      close_any (IsShortBy x op (plainly (results.Close closed))) id p w (refused_short x p op (plainly (results.Close closed))) (λ n o found named. closed_short)
  changing_short (ops.Write id offset stable content) is =
      let op = ops.Write id offset stable content in
      let args : WriteArguments = record { id = id; offset = offset; stable = stable; content = content } in
      let reply = λ (many : ℕ). success (results.Write many FILE_SYNC4 (zeros 8)) Nowhere in
      write_any (IsShortBy x op reply) site args p w (refused_short x p op reply) (λ n may. written_short _)
  changing_short op is = absurd (grind arith)
