-- The attributes that come with a file that is to be made, test after test.
use Rattle.std.proofs.Common.{◌≡◌, ap, sym, ◌∙◌, ℕ, Bool, true, false, Option, Result, Ok, Err}
use Rattle.std.specs.Prelude.{is_some}
use Rattle.lnfs_attrs.specs.declared.bitmap.Bitmap.{Bitmap}
use Rattle.lnfs_attrs.specs.declared.raw.RawAttrs.{RawAttrs}
use Rattle.lnfs_attrs.specs.declared.settable.AttrSet.{AttrSet}
use Rattle.lnfs_arguments.specs.declared.statuses.TheConstants.{NFS4ERR_INVAL}
use Rattle.lnfs_world.specs.Outcome.{Site, Place, Outcome}
use Rattle.lnfs_operations.specs.declared.Gate.TheVariants.{Argument}
use Rattle.lnfs_operations.specs.declared.Refusal.{Refusal}
use Rattle.lnfs_operations.specs.Chain.{Answer, refuse, demand}
use Rattle.lnfs_operations.specs.Chain as chain
use Rattle.lnfs_operations.specs.Given.{GivenLabel, is_mode, where_mode, where_label, set_of}
use Rattle.lnfs_operations.specs.Open.{Opened, Wanted, is_no_size}
use Rattle.lnfs_nodes.specs.Trees.{refusal_of}
use Rattle.lnfs_nodes.specs.GivenValues.{followed, values_in, label_in}
use Rattle.lnfs_nodes.proofs.Stages.{values, labelled}
use Rattle.lnfs_files.specs.Openings.{where_given}

module _ (site : Site) (p : Place) (given : RawAttrs) (next : Wanted → Outcome (Answer Opened)) where
  abbrev pub behind_label : AttrSet → Option GivenLabel → Outcome (Answer Opened)
  behind_label v label = next (record { sized = is_some v.size; mode = v.mode; label = label; set = set_of given })

  abbrev behind_mode : AttrSet → Outcome (Answer Opened)
  behind_mode v = where_label site p v.label (behind_label v)

  abbrev behind_values : AttrSet → Outcome (Answer Opened)
  behind_values v = demand (is_no_size v.size) (refuse p Argument NFS4ERR_INVAL) (where_mode p v.mode (behind_mode v))

  pub no_values : (why : Refusal) → Err (refusal_of why) ≡ values_in given → where_given site p given next ≡ refuse p why.gate why.status
  no_values why e = values p given behind_values ∙ ap (λ (r : Result AttrSet chain.Refusal). followed p r behind_values) (sym e)

  module _ (v : AttrSet) (is : Ok v ≡ values_in given) where
    taken : where_given site p given next ≡ behind_values v
    taken = values p given behind_values ∙ ap (λ (r : Result AttrSet chain.Refusal). followed p r behind_values) (sym is)

    abbrev invalid : Outcome (Answer Opened)
    invalid = refuse p Argument NFS4ERR_INVAL

    -- a size above 0, or no mode
    module _ (why : Refusal) (same : why ≡ record { gate = Argument; status = NFS4ERR_INVAL }) where
      told : invalid ≡ refuse p why.gate why.status
      told = ap (λ (r : Refusal). refuse {R = Opened} p r.gate r.status) (sym same)

      pub size_off : is_no_size v.size ≡ false → where_given site p given next ≡ refuse p why.gate why.status
      size_off e = taken ∙ ap (λ (b : Bool). demand b invalid (where_mode p v.mode (behind_mode v))) e ∙ told

      pub mode_off : is_no_size v.size ≡ true → is_mode v.mode ≡ false → where_given site p given next ≡ refuse p why.gate why.status
      mode_off size e = taken ∙ ap (λ (b : Bool). demand b invalid (where_mode p v.mode (behind_mode v))) size ∙ ap (λ (b : Bool). demand b invalid (behind_mode v)) e ∙ told

    module _ (size : is_no_size v.size ≡ true) (mode : is_mode v.mode ≡ true) where
      fits : where_given site p given next ≡ behind_mode v
      fits = taken ∙ ap (λ (b : Bool). demand b invalid (where_mode p v.mode (behind_mode v))) size ∙ ap (λ (b : Bool). demand b invalid (behind_mode v)) mode

      by_label : where_given site p given next ≡ followed p (label_in site v.label) (behind_label v)
      by_label = fits ∙ labelled p site v.label (behind_label v)

      pub no_label : (why : Refusal) → Err (refusal_of why) ≡ label_in site v.label → where_given site p given next ≡ refuse p why.gate why.status
      no_label why e = by_label ∙ ap (λ (r : Result (Option GivenLabel) chain.Refusal). followed p r (behind_label v)) (sym e)

      pub all : (x : Wanted) → x.sized ≡ is_some v.size → x.mode ≡ v.mode → Ok x.label ≡ label_in site v.label → x.set ≡ set_of given → where_given site p given next ≡ next x
      all x sized same_mode e set =
          by_label
          ∙ ap (λ (r : Result (Option GivenLabel) chain.Refusal). followed p r (behind_label v)) (sym e)
          ∙ ap (λ (b : Bool). next (record { sized = b; mode = v.mode; label = x.label; set = set_of given })) (sym sized)
          ∙ ap (λ (m : Option ℕ). next (record { sized = x.sized; mode = m; label = x.label; set = set_of given })) (sym same_mode)
          ∙ ap (λ (b : Bitmap). next (record { sized = x.sized; mode = x.mode; label = x.label; set = b })) (sym set)
