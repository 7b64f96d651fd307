-- The values of attributes that are given, by what reading them answers.
use Rattle.std.proofs.Common.{◌≡◌, refl, ap, sym, ℕ, Bool, true, false, List, length, Result, Ok, Err}
use Rattle.std.specs.Prelude.{if◌then◌else◌}
use Rattle.lnfs_xdr.specs.Message.{parse}
use Rattle.lnfs_xdr.proofs.Fields.{IsBytes}
use Rattle.lnfs_xdr.proofs.Messages.{told, refused}
use Rattle.lnfs_attrs.specs.declared.raw.RawAttrs.{RawAttrs}
use Rattle.lnfs_attrs.specs.declared.settable.AttrSet.{AttrSet}
use Rattle.lnfs_attrs.specs.declared.settable.AttrError.TheVariants.{AttrNotSupp, Inval, BadXdr}
use Rattle.lnfs_attrs.specs.Attributes.{is_listed, is_settable}
use Rattle.lnfs_attrs.specs.Settable.{list_values, Judged}
use Rattle.lnfs_arguments.specs.declared.statuses.TheConstants.{NFS4ERR_INVAL, NFS4ERR_ATTRNOTSUPP, NFS4ERR_BADXDR}
use Rattle.lnfs_operations.specs.Chain as chain
use Rattle.lnfs_operations.specs.GetAttr.{is_supported}
use Rattle.lnfs_operations.specs.Given.{are_settable}
use Rattle.lnfs_nodes.specs.GivenValues.{argument, parsed, values_in}
use Rattle.lnfs_nodes.proofs.Supported.{all_tested, each_tested}

abbrev tests : Bool → Bool → Result AttrSet (List ℕ) → Result AttrSet chain.Refusal
tests a b r = if a then if b then parsed r else Err (argument NFS4ERR_INVAL) else Err (argument NFS4ERR_ATTRNOTSUPP)

both : (a b : Bool) (r s : Result AttrSet (List ℕ)) → a ≡ true → b ≡ true → s ≡ r → parsed r ≡ tests a b s
both true true r s first second e = ap parsed (sym e)
both true false r s first second e = cc
both false b r s first second e = cc

not_second : (a b : Bool) (r : Result AttrSet (List ℕ)) → a ≡ true → b ≡ false → Err (argument NFS4ERR_INVAL) ≡ tests a b r
not_second true false r first second = refl
not_second true true r first second = cc
not_second false b r first second = cc

module _ (raw : RawAttrs) (whole : length raw.mask.words ≡ 8) where
  pub taken : (x : AttrSet) → IsBytes raw.list → Judged (Ok x) raw → Ok x ≡ values_in raw
  taken x fits is = both (is_supported raw.mask) (are_settable raw.mask) (Ok x) (parse (list_values raw.mask) raw.list) (all_tested raw.mask is_listed is.0) (all_tested raw.mask is_settable is.1) (told (list_values raw.mask) raw.list x fits is.2)

  pub misspelled : IsBytes raw.list → Judged (Err BadXdr) raw → Err (argument NFS4ERR_BADXDR) ≡ values_in raw
  misspelled fits is = both (is_supported raw.mask) (are_settable raw.mask) (Err is.2.0) (parse (list_values raw.mask) raw.list) (all_tested raw.mask is_listed is.0) (all_tested raw.mask is_settable is.1) (refused (list_values raw.mask) raw.list is.2.0 fits is.2.1)

  pub unlisted : Judged (Err AttrNotSupp) raw → Err (argument NFS4ERR_ATTRNOTSUPP) ≡ values_in raw
  unlisted not = at (is_supported raw.mask) refl
    where
      at : (a : Bool) → is_supported raw.mask ≡ a → Err (argument NFS4ERR_ATTRNOTSUPP) ≡ tests a (are_settable raw.mask) (parse (list_values raw.mask) raw.list)
      at true is = absurd (not (each_tested raw.mask is_listed whole is))
      at false is = refl

  pub unsettable : Judged (Err Inval) raw → Err (argument NFS4ERR_INVAL) ≡ values_in raw
  unsettable is = not_second (is_supported raw.mask) (are_settable raw.mask) (parse (list_values raw.mask) raw.list) (all_tested raw.mask is_listed is.0) (at (are_settable raw.mask) refl)
    where
      at : (b : Bool) → are_settable raw.mask ≡ b → b ≡ false
      at true all = absurd (is.1 (each_tested raw.mask is_settable whole all))
      at false all = refl
