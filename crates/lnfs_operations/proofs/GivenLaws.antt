-- The tests of attributes that a request sets look at no world: behind them what is alike stays alike, and what holds of each
-- end holds of all.
use Rattle.std.proofs.Common.{◌≡◌, ℕ, Bool, true, false, List, Option, Some, None, refl, sym, subst}
use Rattle.std.specs.Prelude.{Result, Ok, Err}
use Rattle.lnfs_xdr.specs.Message.{parse}
use Rattle.lnfs_attrs.specs.declared.raw.RawAttrs.{RawAttrs}
use Rattle.lnfs_attrs.specs.declared.settable.AttrSet.{AttrSet}
use Rattle.lnfs_attrs.specs.declared.view.LabelValue.{LabelValue}
use Rattle.lnfs_attrs.specs.Settable.{list_values}
use Rattle.lnfs_world.specs.World.{Stored}
use Rattle.lnfs_world.specs.Outcome.{LabelRead, LevelOf, WrongFormat, BadLabel, Site, Place, Outcome}
use Rattle.lnfs_arguments.specs.declared.statuses.TheConstants.{NFS4ERR_INVAL, NFS4ERR_ATTRNOTSUPP}
use Rattle.lnfs_operations.specs.declared.Gate.{Gate}
use Rattle.lnfs_operations.specs.declared.Gate.TheVariants.{Argument}
use Rattle.lnfs_operations.specs.Chain.{Answer, refuse, demand}
use Rattle.lnfs_operations.specs.GetAttr.{is_supported}
use Rattle.lnfs_operations.specs.Given.{are_settable, where_parsed, where_values, is_mode, where_mode, GivenLabel, where_read, spelled_by, where_label}
use Rattle.lnfs_operations.proofs.Chains.{demand_alike, demand_any}

-- ---- alike

parsed_alike : {R : Type 0} (p : Place) (parsed : Result AttrSet (List ℕ)) (f g : AttrSet → Outcome (Answer R)) → ((values : AttrSet) → f values ≡ g values) → where_parsed p parsed f ≡ where_parsed p parsed g
parsed_alike p (Ok values) f g same = same values
parsed_alike p (Err stuck) f g same = refl

pub values_alike : {R : Type 0} (p : Place) (given : RawAttrs) (f g : AttrSet → Outcome (Answer R)) → ((values : AttrSet) → f values ≡ g values) → where_values p given f ≡ where_values p given g
values_alike p given f g same =
    demand_alike (is_supported given.mask) _ _ _ (λ supported.
    demand_alike (are_settable given.mask) _ _ _ (λ settable.
    parsed_alike p (parse (list_values given.mask) given.list) f g same))

read_alike : {R : Type 0} (p : Place) (spelled : Stored) (read : LabelRead) (f g : Option GivenLabel → Outcome (Answer R)) → ((label : Option GivenLabel) → f label ≡ g label) → where_read p spelled read f ≡ where_read p spelled read g
read_alike p spelled (LevelOf level) f g same = same _
read_alike p spelled WrongFormat f g same = refl
read_alike p spelled BadLabel f g same = refl

pub label_alike : {R : Type 0} (site : Site) (p : Place) (value : Option LabelValue) (f g : Option GivenLabel → Outcome (Answer R)) → ((label : Option GivenLabel) → f label ≡ g label) → where_label site p value f ≡ where_label site p value g
label_alike site p None f g same = same None
label_alike site p (Some v) f g same = read_alike p (spelled_by v) (site.reading (spelled_by v)) f g same

-- ---- any outcome

-- attributes that can be set, as they were read
pub record AreRead (given : RawAttrs) (values : AttrSet) : Type 0 where
  pub settable : are_settable given.mask ≡ true
  pub parsed : parse (list_values given.mask) given.list ≡ Ok values

-- a label as it was given and read, where one was
abbrev pub IsGiven : Site → Option LabelValue → Option GivenLabel → Type 0
IsGiven site None label = label ≡ None
IsGiven site (Some v) label = (level : ℕ) × (site.reading (spelled_by v) ≡ LevelOf level) × (label ≡ Some (record { level = level; spelled = spelled_by v }))

module _ {R : Type 0} (P : Outcome (Answer R) → Type 0) (p : Place) (refused : (gate : Gate) (status : ℕ) → P (refuse p gate status)) where
  parsed_any : (parsed : Result AttrSet (List ℕ)) (next : AttrSet → Outcome (Answer R)) → ((values : AttrSet) → parsed ≡ Ok values → P (next values)) → P (where_parsed p parsed next)
  parsed_any (Ok values) next is = is values refl
  parsed_any (Err stuck) next is = refused _ _

  pub values_any : (given : RawAttrs) (next : AttrSet → Outcome (Answer R)) → ((values : AttrSet) → AreRead given values → P (next values)) → P (where_values p given next)
  values_any given next is =
      demand_any P (is_supported given.mask) _ _ (refused _ _) (λ supported.
      demand_any P (are_settable given.mask) _ _ (refused _ _) (λ settable.
      parsed_any (parse (list_values given.mask) given.list) next (λ values parsed. is values (record { settable = settable; parsed = parsed }))))

  pub mode_any : (mode : Option ℕ) (next : Outcome (Answer R)) → (is_mode mode ≡ true → P next) → P (where_mode p mode next)
  mode_any mode next is = demand_any P (is_mode mode) _ next (refused _ _) is

  read_any : (spelled : Stored) (read : LabelRead) (next : Option GivenLabel → Outcome (Answer R)) → ((level : ℕ) → read ≡ LevelOf level → P (next (Some (record { level = level; spelled = spelled })))) → P (where_read p spelled read next)
  read_any spelled (LevelOf level) next is = is level refl
  read_any spelled WrongFormat next is = refused _ _
  read_any spelled BadLabel next is = refused _ _

  pub label_any : (site : Site) (value : Option LabelValue) (next : Option GivenLabel → Outcome (Answer R)) → ((label : Option GivenLabel) → IsGiven site value label → P (next label)) → P (where_label site p value next)
  label_any site None next is = is None refl
  label_any site (Some v) next is = read_any (spelled_by v) (site.reading (spelled_by v)) next (λ level read. is _ (level, read, refl))

-- Behind these tests the attributes of the set can be set.
pub settable_any : {R A : Type 0} (P : Outcome A → Type 0) (p : Place) (around : Outcome (Answer R) → Outcome A) → ((gate : Gate) (status : ℕ) → P (around (refuse p gate status))) → (given : RawAttrs) (next : AttrSet → Outcome (Answer R)) →
    (are_settable given.mask ≡ true → P (around (where_values p given next))) → P (around (where_values p given next))
settable_any {R} P p around refused given next told = at (are_settable given.mask) refl
  where
    parsed : Outcome (Answer R)
    parsed = where_parsed p (parse (list_values given.mask) given.list) next

    of : (supported : Bool) → P (around (demand supported (refuse p Argument NFS4ERR_ATTRNOTSUPP) (refuse p Argument NFS4ERR_INVAL)))
    of true = refused Argument NFS4ERR_INVAL
    of false = refused Argument NFS4ERR_ATTRNOTSUPP

    at : (b : Bool) → are_settable given.mask ≡ b → P (around (where_values p given next))
    at true is = told is
    at false is = subst (λ b. P (around (demand (is_supported given.mask) (refuse p Argument NFS4ERR_ATTRNOTSUPP) (demand b (refuse p Argument NFS4ERR_INVAL) parsed)))) (sym is) (of (is_supported given.mask))
