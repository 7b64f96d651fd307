-- An operation's tests, stage by stage, as what is found of its arguments.
use Rattle.std.proofs.Common.{◌≡◌, refl, ℕ, Bool, true, false, not, List, length, Option, Some, None, Result, Ok, Err}
use Rattle.std.specs.Prelude.{if◌then◌else◌, nat_le}
use Rattle.std.specs.Str.{is_utf8}
use Rattle.lnfs_xdr.specs.Message.{parse}
use Rattle.lnfs_words.specs.Words.{is_empty}
use Rattle.lnfs_attrs.specs.declared.raw.RawAttrs.{RawAttrs}
use Rattle.lnfs_attrs.specs.declared.view.LabelValue.{LabelValue}
use Rattle.lnfs_attrs.specs.declared.settable.AttrSet.{AttrSet}
use Rattle.lnfs_attrs.specs.Settable.{list_values}
use Rattle.lnfs_arguments.specs.declared.statuses.TheConstants.{NFS4ERR_INVAL, NFS4ERR_NAMETOOLONG, NFS4ERR_BADCHAR, NFS4ERR_BADNAME, NFS4ERR_ATTRNOTSUPP}
use Rattle.lnfs_arguments.specs.declared.types.What.{What}
use Rattle.lnfs_arguments.specs.declared.types.What.TheVariants.{Dir, Symlink}
use Rattle.lnfs_world.specs.Outcome.{LabelRead, LevelOf, WrongFormat, BadLabel, Site, Place, Outcome}
use Rattle.lnfs_operations.specs.declared.Gate.TheVariants.{Argument}
use Rattle.lnfs_operations.specs.declared.numbers.TheConstants.{LONGEST_NAME, MOST_TEXT}
use Rattle.lnfs_operations.specs.Chain.{Answer, refuse, demand}
use Rattle.lnfs_operations.specs.Chain as chain
use Rattle.lnfs_operations.specs.Names.{has_bad_byte, is_dots, where_named}
use Rattle.lnfs_operations.specs.GetAttr.{is_supported}
use Rattle.lnfs_operations.specs.Given.{are_settable, where_values, where_parsed, GivenLabel, spelled_by, where_label, where_read}
use Rattle.lnfs_operations.specs.Create.{where_text}
use Rattle.lnfs_nodes.specs.Refusals.{name_refusal}
use Rattle.lnfs_nodes.specs.GivenValues.{argument, followed, parsed, values_in, read_as, label_in, and_then, tested, with_status, text_refusal}

module _ {R : Type 0} (p : Place) where
  -- what follows where no status refuses
  abbrev pub by_status : Option ℕ → Outcome (Answer R) → Outcome (Answer R)
  by_status None next = next
  by_status (Some status) next = refuse p Argument status

  -- ---- one stage

  pub named : (name : List ℕ) (next : Outcome (Answer R)) → where_named p name next ≡ by_status (name_refusal name) next
  named name next = at (is_empty name) (nat_le (length name) LONGEST_NAME) (is_utf8 name) (has_bad_byte name) (is_dots name)
    where
      at : (a b c d e : Bool) →
          demand (not a) (refuse p Argument NFS4ERR_INVAL) (
          demand b (refuse p Argument NFS4ERR_NAMETOOLONG) (
          demand c (refuse p Argument NFS4ERR_INVAL) (
          demand (not d) (refuse p Argument NFS4ERR_BADCHAR) (
          demand (not e) (refuse p Argument NFS4ERR_BADNAME) next))))
          ≡ by_status (if a then Some NFS4ERR_INVAL else if not b then Some NFS4ERR_NAMETOOLONG else if not c then Some NFS4ERR_INVAL else if d then Some NFS4ERR_BADCHAR else if e then Some NFS4ERR_BADNAME else None) next
      at true b c d e = refl
      at false false c d e = refl
      at false true false d e = refl
      at false true true true e = refl
      at false true true false true = refl
      at false true true false false = refl

  pub values : (given : RawAttrs) (next : AttrSet → Outcome (Answer R)) → where_values p given next ≡ followed p (values_in given) next
  values given next = at (is_supported given.mask) (are_settable given.mask) (parse (list_values given.mask) given.list)
    where
      at : (a b : Bool) (r : Result AttrSet (List ℕ)) →
          demand a (refuse p Argument NFS4ERR_ATTRNOTSUPP) (demand b (refuse p Argument NFS4ERR_INVAL) (where_parsed p r next))
          ≡ followed p (if a then if b then parsed r else Err (argument NFS4ERR_INVAL) else Err (argument NFS4ERR_ATTRNOTSUPP)) next
      at true true (Ok x) = refl
      at true true (Err stuck) = refl
      at true false r = refl
      at false b r = refl

  pub labelled : (site : Site) (label : Option LabelValue) (next : Option GivenLabel → Outcome (Answer R)) → where_label site p label next ≡ followed p (label_in site label) next
  labelled site None next = refl
  labelled site (Some v) next = at (site.reading (spelled_by v))
    where
      at : (read : LabelRead) → where_read p (spelled_by v) read next ≡ followed p (read_as (spelled_by v) read) next
      at (LevelOf level) = refl
      at WrongFormat = refl
      at BadLabel = refl

  pub texted : (what : What) (next : Outcome (Answer R)) → where_text p what next ≡ by_status (text_refusal what) next
  texted Dir next = refl
  texted (Symlink text) next = at (is_empty text) (nat_le (length text) MOST_TEXT)
    where
      at : (a b : Bool) → demand (not a) (refuse p Argument NFS4ERR_INVAL) (demand b (refuse p Argument NFS4ERR_NAMETOOLONG) next)
          ≡ by_status (if a then Some NFS4ERR_INVAL else if not b then Some NFS4ERR_NAMETOOLONG else None) next
      at true b = refl
      at false true = refl
      at false false = refl

  -- ---- a stage, and those behind it

  module _ {A : Type 0} (last : A → Outcome (Answer R)) where
    pub status_stage : (status : Option ℕ) (next : Outcome (Answer R)) (rest : Result A chain.Refusal) → next ≡ followed p rest last → by_status status next ≡ followed p (with_status status rest) last
    status_stage None next rest e = e
    status_stage (Some status) next rest e = refl

    pub test_stage : (passes : Bool) (status : ℕ) (next : Outcome (Answer R)) (rest : Result A chain.Refusal) → next ≡ followed p rest last → demand passes (refuse p Argument status) next ≡ followed p (tested passes status rest) last
    test_stage true status next rest e = e
    test_stage false status next rest e = refl

    pub value_stage : {B : Type 0} (r : Result B chain.Refusal) (next : B → Outcome (Answer R)) (rest : B → Result A chain.Refusal) → ((b : B) → next b ≡ followed p (rest b) last) → followed p r next ≡ followed p (and_then r rest) last
    value_stage (Ok b) next rest each = each b
    value_stage (Err why) next rest each = refl
