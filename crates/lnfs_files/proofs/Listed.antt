-- The levels of labels that are read are levels that a policy may list.
use Rattle.std.proofs.Common.{◌≡◌, ◌<◌, ◌≤◌, ℕ, Bool, true, false, not, cond, List, length, Option, Some, None, Result, Ok, Err, refl, ap, subst, arith}
use Rattle.std.specs.Prelude.{IfSome, nat_le}
use Rattle.std.specs.Option.{option_map}
use Rattle.std.proofs.lemmas.List.Quantifiers.{position-Some}
use Rattle.lnfs_calipso.specs.Label.{Label, lowest}
use Rattle.lnfs_calipso.specs.Same as same
use Rattle.lnfs_calipso.specs.declared.lattice.TheConstants.{MAX_LEVELS}
use Rattle.lnfs_format.specs.Kinds.{reads}
use Rattle.lnfs_format.specs.Entries.{entry_of}
use Rattle.lnfs_format.specs.LevelRead.{or_bad, level_in, read_in, level_read}
use Rattle.lnfs_format.specs.declared.formats.FormatEntry.{FormatEntry}
use Rattle.lnfs_format.specs.declared.formats.ReadError.{ReadError}
use Rattle.lnfs_format.specs.declared.formats.ReadError.TheVariants as errors
use Rattle.lnfs_format.specs.declared.formats.TheConstants.{MAX_SPELLING}
use Rattle.lnfs_policy.specs.Policy.{Policy}
use Rattle.lnfs_attrs.specs.declared.raw.RawAttrs.{RawAttrs}
use Rattle.lnfs_attrs.specs.declared.view.LabelValue.{LabelValue}
use Rattle.lnfs_attrs.specs.declared.settable.AttrSet.{AttrSet}
use Rattle.lnfs_arguments.specs.declared.statuses.TheConstants.{NFS4ERR_INVAL}
use Rattle.lnfs_world.specs.World.{Stored}
use Rattle.lnfs_world.specs.Outcome.{LabelRead, LevelOf, WrongFormat, BadLabel, Site}
use Rattle.lnfs_site.specs.Site.{is_limited, told_by, carried, reading}
use Rattle.lnfs_operations.specs.Chain as chain
use Rattle.lnfs_operations.specs.Given.{GivenLabel, spelled_by, is_mode}
use Rattle.lnfs_operations.specs.SetAttr.{is_company}
use Rattle.lnfs_nodes.specs.GivenValues.{Wanted, and_then, tested, values_in, read_as, label_in, wanted_in, given_of}
use Rattle.lnfs_nodes.specs.declared.given.GivenLabel as code
use Rattle.lnfs_files.specs.Charges.{IsListed}

-- ---- a label that is read is one of the policy's

place_is : (labels : List Label) (level : ℕ) (o : Option ℕ) → ((i : ℕ) → o ≡ Some i → i < length labels) → or_bad o ≡ Ok level → level < length labels
place_is labels level None each e = absurd cc
place_is labels level (Some i) each e = let own : i ≡ level = cc in subst (λ (n : ℕ). n < length labels) own (each i refl)

label_is : (labels : List Label) (level : ℕ) (o : Option Label) → level_in labels o ≡ Ok level → level < length labels
label_is labels level None e = absurd cc
label_is labels level (Some label) e = place_is labels level (same.level_of labels label) (λ i is. (position-Some (λ l. same.same_label l label) labels i lowest is).0) e

entry_is : (labels : List Label) (bytes : List ℕ) (level : ℕ) (o : Option FormatEntry) → read_in o labels bytes ≡ Ok level → level < length labels
entry_is labels bytes level None e = absurd cc
entry_is labels bytes level (Some entry) e = label_is labels level (reads entry.kind bytes) e

read_is : (entries : List FormatEntry) (labels : List Label) (lfs pi : ℕ) (bytes : List ℕ) (level : ℕ) → level_read entries labels lfs pi bytes ≡ Ok level → level < length labels
unfolding level_read
read_is entries labels lfs pi bytes level e = entry_is labels bytes level (entry_of entries lfs pi) e

told_is : (labels : List Label) (level : ℕ) (r : Result ℕ ReadError) → (r ≡ Ok level → level < length labels) → told_by r ≡ LevelOf level → level < length labels
told_is labels level (Ok l) each e = let own : l ≡ level = cc in each (ap Ok own)
told_is labels level (Err errors.WrongLfs) each e = absurd cc
told_is labels level (Err errors.BadLabel) each e = absurd cc
told_is labels level (Err errors.Memory) each e = absurd cc

-- where labels are carried alone, all are of level 0
carried_is : (level : ℕ) (b : Bool) → cond b (LevelOf 0) BadLabel ≡ LevelOf level → IsListed level
carried_is level true e = let own : 0 ≡ level = cc in let lowest_level : 0 < 32 = omega arith in subst IsListed own lowest_level
carried_is level false e = absurd cc

pub reading_is : (p : Policy) (s : Stored) (level : ℕ) → length p.labels ≤ MAX_LEVELS → reading p s ≡ LevelOf level → IsListed level
reading_is p s level few e = at (is_limited p.mode) e
  where
    at : (b : Bool) → cond b (carried s) (told_by (level_read p.formats p.labels s.lfs s.pi s.bytes)) ≡ LevelOf level → IsListed level
    at true e = carried_is level (nat_le (length s.bytes) MAX_SPELLING) e
    at false e = let below : level < length p.labels = told_is p.labels level (level_read p.formats p.labels s.lfs s.pi s.bytes) (λ is. read_is p.formats p.labels s.lfs s.pi s.bytes level is) e in let listed : level < MAX_LEVELS = omega arith in listed

-- ---- labels that are given

abbrev pub IsListedLabel : Option GivenLabel → Type 0
IsListedLabel o = IfSome o (λ (g : GivenLabel). IsListed g.level)

-- what the code holds
pub held_listed : (o : Option code.GivenLabel) → IsListedLabel (option_map given_of o) → IfSome o (λ (g : code.GivenLabel). IsListed g.level.0)
held_listed None listed = tt
held_listed (Some g) listed = listed

module _ (site : Site) (law : (s : Stored) (level : ℕ) → site.reading s ≡ LevelOf level → IsListed level) where
  pub label_listed : (given : Option LabelValue) (o : Option GivenLabel) → label_in site given ≡ Ok o → IsListedLabel o
  label_listed None o e = let own : None ≡ o = cc in subst IsListedLabel own tt
  label_listed (Some v) o e = at (site.reading (spelled_by v)) refl e
    where
      at : (r : LabelRead) → site.reading (spelled_by v) ≡ r → read_as (spelled_by v) r ≡ Ok o → IsListedLabel o
      at (LevelOf level) is e = let g : GivenLabel = record { level = level; spelled = spelled_by v } in let own : Some g ≡ o = cc in subst IsListedLabel own (law (spelled_by v) level is)
      at WrongFormat is e = absurd cc
      at BadLabel is e = absurd cc

  pub wanted_listed : (given : RawAttrs) (x : Wanted) → wanted_in site given ≡ Ok x → IsListedLabel x.label
  wanted_listed given x e = by_values (values_in given) e
    where
      made : AttrSet → Option GivenLabel → Wanted
      made v l = record { size = v.size; mode = v.mode; label = l }

      alone : (y : Wanted) → IsListedLabel y.label → (b : Bool) → tested b NFS4ERR_INVAL (Ok y) ≡ Ok x → IsListedLabel x.label
      alone y listed true e = let own : y ≡ x = cc in subst (λ (z : Wanted). IsListedLabel z.label) own listed
      alone y listed false e = absurd cc

      by_label : (v : AttrSet) (r : Result (Option GivenLabel) chain.Refusal) → label_in site v.label ≡ r → and_then r (λ l. tested (not (is_company v)) NFS4ERR_INVAL (Ok (made v l))) ≡ Ok x → IsListedLabel x.label
      by_label v (Ok l) is e = alone (made v l) (label_listed v.label l is) (not (is_company v)) e
      by_label v (Err why) is e = absurd cc

      by_mode : (v : AttrSet) (b : Bool) → tested b NFS4ERR_INVAL (and_then (label_in site v.label) (λ l. tested (not (is_company v)) NFS4ERR_INVAL (Ok (made v l)))) ≡ Ok x → IsListedLabel x.label
      by_mode v true e = by_label v (label_in site v.label) refl e
      by_mode v false e = absurd cc

      by_values : (r : Result AttrSet chain.Refusal) → and_then r (λ v. tested (is_mode v.mode) NFS4ERR_INVAL (and_then (label_in site v.label) (λ l. tested (not (is_company v)) NFS4ERR_INVAL (Ok (made v l))))) ≡ Ok x → IsListedLabel x.label
      by_values (Ok v) e = by_mode v (is_mode v.mode) e
      by_values (Err why) e = absurd cc
