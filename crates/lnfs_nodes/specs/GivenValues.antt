-- What becomes of the attributes that a request sets, by the tests of the arguments and the site alone.
use Rattle.std.specs.Prelude.{ℕ, Bool, not, List, length, Option, Some, None, Result, Ok, Err, is_some, nat_le, if◌then◌else◌}
use Rattle.std.specs.Option.{option_map}
use Rattle.lnfs_words.specs.Words.{is_empty}
use Rattle.lnfs_xdr.specs.Message.{parse}
use Rattle.lnfs_attrs.specs.declared.raw.RawAttrs.{RawAttrs}
use Rattle.lnfs_attrs.specs.declared.view.LabelValue.{LabelValue}
use Rattle.lnfs_attrs.specs.declared.settable.AttrSet.{AttrSet}
use Rattle.lnfs_attrs.specs.Settable.{list_values}
use Rattle.lnfs_arguments.specs.declared.statuses.TheConstants.{NFS4ERR_INVAL, NFS4ERR_NAMETOOLONG, NFS4ERR_ATTRNOTSUPP, NFS4ERR_BADXDR, NFS4ERR_WRONG_LFS, NFS4ERR_BADLABEL}
use Rattle.lnfs_arguments.specs.declared.types.What.{What}
use Rattle.lnfs_arguments.specs.declared.types.What.TheVariants.{Dir, Symlink}
use Rattle.lnfs_world.specs.World.{Stored}
use Rattle.lnfs_world.specs.Outcome.{LabelRead, LevelOf, WrongFormat, BadLabel, Site, Place, Outcome}
use Rattle.lnfs_operations.specs.declared.Gate.TheVariants.{Argument}
use Rattle.lnfs_operations.specs.Chain.{Answer, refuse}
use Rattle.lnfs_operations.specs.Chain as chain
use Rattle.lnfs_operations.specs.GetAttr.{is_supported}
use Rattle.lnfs_operations.specs.Given.{are_settable, is_mode, GivenLabel, spelled_by}
use Rattle.lnfs_operations.specs.SetAttr.{is_company}
use Rattle.lnfs_operations.specs.declared.numbers.TheConstants.{MOST_TEXT}
use Rattle.lnfs_world.specs.Given.{stored_of}
use Rattle.lnfs_nodes.specs.Refusals.{name_refusal}
use Rattle.lnfs_nodes.specs.declared.given.GivenLabel as code
use Rattle.lnfs_nodes.specs.declared.given.Wanted as code_wanted
use Rattle.lnfs_nodes.specs.declared.given.Asked as code_asked

abbrev pub argument : ℕ → chain.Refusal
argument status = record { gate = Argument; status = status }

-- what follows what is found, or what refuses it
abbrev pub followed : {A R : Type 0} → Place → Result A chain.Refusal → (A → Outcome (Answer R)) → Outcome (Answer R)
followed p (Ok a) next = next a
followed p (Err why) next = refuse p why.gate why.status

-- ---- values

abbrev pub parsed : Result AttrSet (List ℕ) → Result AttrSet chain.Refusal
parsed (Ok set) = Ok set
parsed (Err stuck) = Err (argument NFS4ERR_BADXDR)

abbrev pub values_in : RawAttrs → Result AttrSet chain.Refusal
values_in given =
    if is_supported given.mask
    then if are_settable given.mask then parsed (parse (list_values given.mask) given.list) else Err (argument NFS4ERR_INVAL)
    else Err (argument NFS4ERR_ATTRNOTSUPP)

-- ---- a label

abbrev pub read_as : Stored → LabelRead → Result (Option GivenLabel) chain.Refusal
read_as spelled (LevelOf level) = Ok (Some (record { level = level; spelled = spelled }))
read_as spelled WrongFormat = Err (argument NFS4ERR_WRONG_LFS)
read_as spelled BadLabel = Err (argument NFS4ERR_BADLABEL)

abbrev pub label_in : Site → Option LabelValue → Result (Option GivenLabel) chain.Refusal
label_in site None = Ok None
label_in site (Some v) = read_as (spelled_by v) (site.reading (spelled_by v))

abbrev pub given_of : code.GivenLabel → GivenLabel
given_of g = record { level = g.level.0; spelled = stored_of g.spelled }

-- ---- stages

abbrev pub and_then : {A B : Type 0} → Result A chain.Refusal → (A → Result B chain.Refusal) → Result B chain.Refusal
and_then (Ok a) next = next a
and_then (Err why) next = Err why

-- a test of the arguments, and a status that refuses them
abbrev pub tested : {A : Type 0} → Bool → ℕ → Result A chain.Refusal → Result A chain.Refusal
tested passes status next = if passes then next else Err (argument status)

abbrev pub with_status : {A : Type 0} → Option ℕ → Result A chain.Refusal → Result A chain.Refusal
with_status None next = next
with_status (Some status) next = Err (argument status)

-- ---- what SETATTR sets

pub record Wanted : Type 0 where
  pub size : Option ℕ
  pub mode : Option ℕ
  pub label : Option GivenLabel

abbrev pub wanted_of : code_wanted.Wanted → Wanted
wanted_of x = record { size = x.size; mode = x.mode; label = option_map given_of x.label }

-- a label is set alone
abbrev pub wanted_in : Site → RawAttrs → Result Wanted chain.Refusal
wanted_in site given =
    and_then (values_in given) (λ values.
    tested (is_mode values.mode) NFS4ERR_INVAL (
    and_then (label_in site values.label) (λ label.
    tested (not (is_company values)) NFS4ERR_INVAL (
    Ok (record { size = values.size; mode = values.mode; label = label })))))

-- ---- what CREATE makes

abbrev pub text_refusal : What → Option ℕ
text_refusal Dir = None
text_refusal (Symlink text) =
    if is_empty text then Some NFS4ERR_INVAL else
    if not (nat_le (length text) MOST_TEXT) then Some NFS4ERR_NAMETOOLONG else
    None

pub record Asked : Type 0 where
  pub mode : Option ℕ
  pub label : Option GivenLabel

abbrev pub asked_of : code_asked.Asked → Asked
asked_of x = record { mode = x.mode; label = option_map given_of x.label }

abbrev pub asked_in : Site → What → (name : List ℕ) → RawAttrs → Result Asked chain.Refusal
asked_in site what name given =
    with_status (name_refusal name) (
    and_then (values_in given) (λ values.
    tested (not (is_some values.size)) NFS4ERR_INVAL (
    tested (is_mode values.mode) NFS4ERR_INVAL (
    and_then (label_in site values.label) (λ label.
    with_status (text_refusal what) (
    Ok (record { mode = values.mode; label = label })))))))
