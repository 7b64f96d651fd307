-- Labels that are carried alone: where the clients enforce, the server keeps each label as it was given, and all its rows
-- are of level 0 (RFC 7862 section 9.6.2).
use Rattle.std.specs.Prelude.{◌≡◌, ℕ, Bool, true, false, not, ◌&&◌, Option, Some, None, Result, Ok, Err, List, IfSome, is_some, option_and_then}
use Rattle.std.specs.List.{AllByRecursion}
use Rattle.std.specs.Option.{option_map}
use Rattle.lnfs_calipso.specs.Label.{IsPreorderWithBottom}
use Rattle.lnfs_xdr.specs.Message.{parse}
use Rattle.lnfs_attrs.specs.declared.raw.RawAttrs.{RawAttrs}
use Rattle.lnfs_attrs.specs.declared.view.LabelValue.{LabelValue}
use Rattle.lnfs_attrs.specs.declared.settable.AttrSet.{AttrSet}
use Rattle.lnfs_attrs.specs.Settable.{list_values}
use Rattle.lnfs_arguments.specs.declared.types.Op.{Op}
use Rattle.lnfs_arguments.specs.declared.types.Op.TheVariants as ops
use Rattle.lnfs_arguments.specs.declared.types.Making.{Making}
use Rattle.lnfs_monitor.specs.declared.rule.Rule.TheVariants.{M9}
use Rattle.lnfs_world.specs.World.{Id, Stored, Node, Lasts, World, same_id, node_at}
use Rattle.lnfs_world.specs.Outcome.{LevelOf, Site, Place}
use Rattle.lnfs_world.specs.Both.{Both, BothStand}
use Rattle.lnfs_operations.specs.declared.Gate.{Gate}
use Rattle.lnfs_operations.specs.declared.Gate.TheVariants.{Monitor}
use Rattle.lnfs_operations.specs.Chain.{Refusal}
use Rattle.lnfs_operations.specs.Extra.{Extra, further_deed}
use Rattle.lnfs_operations.specs.Given.{spelled_by}
use Rattle.lnfs_operations.specs.Open.{attrs_of}
use Rattle.lnfs_operations.specs.Results.{Denial}
use Rattle.lnfs_operations.specs.Served.{Reply, Own, Kept}
use Rattle.lnfs_operations.specs.Shown.{stored_or}

-- ---- where labels are carried alone

-- every label that such a site takes is one of level 0
pub record CarriesAlone (site : Site) : Type 0 where
  pub limited : site.limited ≡ true
  pub level : (given : Stored) (level : ℕ) → site.reading given ≡ LevelOf level → level ≡ 0

-- ---- rows

pub record LastsLow (lasts : Lasts) : Type 0 where
  pub clients : AllByRecursion (λ i. i.level ≡ 0) lasts.clients
  pub sessions : AllByRecursion (λ i. i.level ≡ 0) lasts.sessions
  pub contexts : AllByRecursion (λ i. i.level ≡ 0) lasts.contexts
  pub nodes : AllByRecursion (λ i. i.level ≡ 0) lasts.nodes
  pub opens : AllByRecursion (λ i. i.level ≡ 0) lasts.opens

-- All rows are of level 0. The directory and the node of an entry are there, and so are the node of an open and the client
-- of a session and of an open, so these are too.
pub record AllLow (w : World) : Type 0 where
  pub clients : AllByRecursion (λ c. c.id.level ≡ 0) w.clients
  pub sessions : AllByRecursion (λ x. x.id.level ≡ 0) w.sessions
  pub contexts : AllByRecursion (λ x. x.id.level ≡ 0) w.contexts
  pub nodes : AllByRecursion (λ n. (n.id.level ≡ 0) × (n.label ≡ 0)) w.nodes
  pub opens : AllByRecursion (λ o. o.id.level ≡ 0) w.opens
  pub lasts : LastsLow w.lasts

-- what stands of a place and a world there
pub record StandsLow (p : Place) (w : World) : Type 0 where
  pub subject : p.subject ≡ 0
  pub rows : AllLow w

-- ---- the label of a node

-- its own, as it was given; or, where it has none, that of its level as the site writes it
abbrev pub label_of : Site → Node → Stored
label_of site n = stored_or (site.spelling n.label) n.inner.stored

-- what is kept of it
abbrev pub stored_at : List Node → Id → Option (Option Stored)
stored_at nodes i = option_map (λ n. n.inner.stored) (node_at nodes i)

-- ---- the label that an operation gives

abbrev pub label_read : Result AttrSet (List ℕ) → Option LabelValue
label_read (Ok values) = values.label
label_read (Err stuck) = None

-- the label among attributes
abbrev pub label_in : RawAttrs → Option LabelValue
label_in given = label_read (parse (list_values given.mask) given.list)

abbrev pub label_for : Option Making → Option LabelValue
label_for None = None
label_for (Some making) = label_in (attrs_of making)

-- to a node that it makes
abbrev pub label_given : Op → Option LabelValue
label_given (ops.Create what name given) = label_in given
label_given (ops.Open seqid access deny client owner making claim) = label_for making
label_given op = None

-- to the node of the current file handle
abbrev pub label_set_by : Op → Option LabelValue
label_set_by (ops.SetAttr id given) = label_in given
label_set_by op = None

abbrev pub sets_label : Op → Bool
sets_label op = is_some (label_set_by op)

abbrev pub given_or : Stored → Option LabelValue → Stored
given_or own None = own
given_or own (Some v) = spelled_by v

-- ---- what becomes of labels

abbrev pub names : Option Id → Id → Bool
names None i = false
names (Some handle) i = same_id i handle

abbrev pub current_node : Place → World → Option Node
current_node p w = option_and_then (node_at w.nodes) p.current

-- The label of a node that is made: that which is given, or else its directory's.
pub record IsLabelled (site : Site) (op : Op) (p : Place) (w : World) (stored : Option Stored) : Type 0 where
  pub directory : Node
  pub current : current_node p w ≡ Some directory
  pub label : stored ≡ Some (given_or (label_of site directory) (label_given op))

-- What one operation does to labels that are carried.
pub record CarriesLabels (site : Site) (op : Op) (p : Place) (w v : World) : Type 0 where
  -- each node keeps its own, but one of which a SETATTR sets it
  pub stays : (i : Id) (before after : Option Stored) → (sets_label op && names p.current i) ≡ false → stored_at w.nodes i ≡ Some before → stored_at v.nodes i ≡ Some after → after ≡ before
  pub made : (i : Id) (after : Option Stored) → stored_at w.nodes i ≡ None → stored_at v.nodes i ≡ Some after → IsLabelled site op p w after

-- Of nodes that are there before and after, each keeps its own.
abbrev pub LabelsStay : World → World → Type 0
LabelsStay w v = (i : Id) (before after : Option Stored) → stored_at w.nodes i ≡ Some before → stored_at v.nodes i ≡ Some after → after ≡ before

-- ---- rules

-- The rules of labels but M9, which is about identifiers that a request names.
abbrev pub is_rule : Gate → Bool
is_rule (Monitor M9) = false
is_rule (Monitor rule) = true
is_rule gate = false

-- None of them refused.
abbrev pub NoRule : Option Refusal → Type 0
NoRule refusal = IfSome refusal (λ why. is_rule why.gate ≡ false)

abbrev pub NoRuleIn : Reply → Type 0
NoRuleIn (Own own keeper) = NoRule own.refusal
NoRuleIn (Kept reply) = Unit {0}

abbrev pub succeeds : Reply → Bool
succeeds (Own own keeper) = not (is_some own.refusal)
succeeds (Kept reply) = false

-- what was denied of a COMPOUND, if anything was
abbrev pub NoRuleDenies : Option Denial → Type 0
NoRuleDenies denial = IfSome denial (λ d. is_rule d.gate ≡ false)

-- ---- further operations

-- What they owe there: they leave all labels, make no node, add no row of another level, and are refused by no rule.
pub record FurtherCarry (X : Extra) : Type 0 where
  pub rows : (site : Site) → IsPreorderWithBottom site.dom → CarriesAlone site → (number : ℕ) (arguments : List ℕ) (p : Place) (b : Both X.Row) →
      BothStand X.Fact site.dom p b → StandsLow p b.world → AllLow (further_deed X site number arguments p b).state.world
  pub labels : (site : Site) → IsPreorderWithBottom site.dom → CarriesAlone site → (number : ℕ) (arguments : List ℕ) (p : Place) (b : Both X.Row) →
      BothStand X.Fact site.dom p b → StandsLow p b.world →
      (i : Id) (after : Option Stored) → stored_at (further_deed X site number arguments p b).state.world.nodes i ≡ Some after → stored_at b.world.nodes i ≡ Some after
  pub rule : (site : Site) → IsPreorderWithBottom site.dom → CarriesAlone site → (number : ℕ) (arguments : List ℕ) (p : Place) (b : Both X.Row) →
      BothStand X.Fact site.dom p b → StandsLow p b.world → NoRule (further_deed X site number arguments p b).answer.refusal
