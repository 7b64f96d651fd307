-- A COMPOUND where labels are carried alone: rows stay of level 0, no rule but M9 refuses, and labels stay but where a SETATTR
-- sets them.
use Rattle.std.proofs.Common.{◌≡◌, ℕ, Bool, true, false, cond, List, [], ◌∷◌, ◌++◌, Option, Some, None, refl, sym, ap, subst, ◌∙◌, arith}
use Rattle.std.specs.Prelude.{◌==◌, ◌&&◌}
use Rattle.std.specs.List.{list_any}
use Rattle.std.specs.Option.{option_map}
use Rattle.std.proofs.lemmas.Bool.{false≢true}
use Rattle.lnfs_calipso.specs.Label.{IsPreorderWithBottom}
use Rattle.lnfs_attrs.specs.declared.raw.RawAttrs.{RawAttrs}
use Rattle.lnfs_attrs.specs.declared.view.LabelValue.{LabelValue}
use Rattle.lnfs_arguments.specs.declared.stateid.StateId.{StateId}
use Rattle.lnfs_arguments.specs.declared.types.Op.{Op}
use Rattle.lnfs_arguments.specs.declared.types.Op.TheVariants as ops
use Rattle.lnfs_arguments.specs.declared.types.Compound.{Compound}
use Rattle.lnfs_arguments.specs.declared.statuses.TheConstants.{NFS4ERR_MINOR_VERS_MISMATCH}
use Rattle.lnfs_results.specs.declared.types.OpResult.{OpResult}
use Rattle.lnfs_results.specs.declared.types.OpResult.TheVariants as results
use Rattle.lnfs_world.specs.World.{Id, Client, Session, Kept as Stored, Stored as Label, Node, World, node_at, label_at}
use Rattle.lnfs_world.specs.Facts.{Facts}
use Rattle.lnfs_world.specs.Change.{apply_all}
use Rattle.lnfs_world.specs.Within.{all_within}
use Rattle.lnfs_world.specs.Outcome.{Site, Place, Stands, done_to}
use Rattle.lnfs_world.specs.Lawful.{Turn, Deed, deed_of}
use Rattle.lnfs_world.specs.Both.{Both, both_seen, BothStand, on_world}
use Rattle.lnfs_world.proofs.Labels.{Raised}
use Rattle.lnfs_world.proofs.Within.{within_all}
use Rattle.lnfs_operations.specs.declared.Gate.TheVariants as gates
use Rattle.lnfs_operations.specs.Admission.{admission}
use Rattle.lnfs_operations.specs.Carried.{CarriesAlone, AllLow, StandsLow, FurtherCarry, stored_at, label_in, sets_label, names, CarriesLabels, LabelsStay, NoRule, NoRuleIn, NoRuleDenies, succeeds}
use Rattle.lnfs_operations.specs.Chain.{Answer, Done, Refused, Refusal}
use Rattle.lnfs_operations.specs.Keeping.{kept_in, kept_under, kept_of}
use Rattle.lnfs_operations.specs.Sequence.{Sent}
use Rattle.lnfs_operations.specs.SetAttr.{set_attr}
use Rattle.lnfs_operations.specs.Extra.{Extra, AreLawful, further_deed, no_extra}
use Rattle.lnfs_operations.specs.Served.{Keeper, Nowhere, Slot, Record, Reply, Own, Kept, success, reply_of, row, row_in, further_reply, admitted, operation}
use Rattle.lnfs_operations.specs.SlotRule.{Ran, kept_by, own_reply, followed, run_behind, run_all, result_of, keep_in, served}
use Rattle.lnfs_operations.proofs.CarriedRows.{becomes_carries, Becomes, Keeps, row_carried}
use Rattle.lnfs_operations.proofs.LabelLaws.{operation_raised, behind_raised}
use Rattle.lnfs_operations.proofs.LowRows.{AllGiveLow, low_changes}
use Rattle.lnfs_operations.proofs.Once.{admitted_any}
use Rattle.lnfs_operations.proofs.ServedLaws.{row_footprint, operation_lawful}
use Rattle.lnfs_operations.proofs.SetLabels.{WhereDone, IsSet, label_is_set}
use Rattle.lnfs_operations.proofs.SlotRules.{followed_any, all_stand, keep_footprint}
use Rattle.lnfs_operations.proofs.StoredLabels.{changes_have}
use Rattle.lnfs_operations.proofs.UnruledRows.{operation_free}

-- ---- labels from world to world

-- of a world itself
carries_itself : (site : Site) (op : Op) (p : Place) (w : World) → CarriesLabels site op p w w
carries_itself site op p w = becomes_carries site op p w w (λ i stored is. Keeps is)

-- where no label changes, and no node is made
carries_same : (site : Site) (op : Op) (p : Place) (w v : World) → ((i : Id) (after : Option Label) → stored_at v.nodes i ≡ Some after → stored_at w.nodes i ≡ Some after) → CarriesLabels site op p w v
carries_same site op p w v same = becomes_carries site op p w v (λ i stored is. Keeps (same i stored is))

pub stays_itself : (w : World) → LabelsStay w w
stays_itself w i before after was is = cc

pub stays_same : (w v : World) → v.nodes ≡ w.nodes → LabelsStay w v
stays_same w v same i before after was is = let now = ap (λ nodes. stored_at nodes i) same in cc

-- what is kept of a node tells that it is there
stored_label : (nodes : List Node) (i : Id) (stored : Option Label) → stored_at nodes i ≡ Some stored → (label : ℕ) × (label_at nodes i ≡ Some label)
stored_label nodes i stored is = at (node_at nodes i) refl is
  where
    at : (o : Option Node) → node_at nodes i ≡ o → option_map (λ n. n.inner.stored) o ≡ Some stored → (label : ℕ) × (label_at nodes i ≡ Some label)
    at None found e = absurd (grind arith)
    at (Some n) found e = (n.label, ap (option_map (λ m. m.label)) found)

no_label : (nodes : List Node) (i : Id) → stored_at nodes i ≡ None → label_at nodes i ≡ None
no_label nodes i none = at (node_at nodes i) refl none
  where
    at : (o : Option Node) → node_at nodes i ≡ o → option_map (λ n. n.inner.stored) o ≡ None → label_at nodes i ≡ None
    at None found e = ap (option_map (λ m. m.label)) found
    at (Some n) found e = absurd (grind arith)

-- An identifier that was given doesn't come again.
pub stays_through : (dom : ℕ → ℕ → Bool) (a b c : World) → Facts dom a → Raised dom a b → Raised dom b c → LabelsStay a b → LabelsStay b c → LabelsStay a c
stays_through dom a b c facts first then p q i before after was is = at (stored_at b.nodes i) refl
  where
    at : (o : Option (Option Label)) → stored_at b.nodes i ≡ o → after ≡ before
    at (Some between) there = q i between after there is ∙ p i before between was there
    at None there =
        let old = stored_label a.nodes i before was in
        let new = stored_label c.nodes i after is in
        absurd (false≢true (sym (then.labels.new i new.0 (no_label b.nodes i there) new.1) ∙ first.given i (facts.nodes.given i old.0 old.1)))

-- ---- further operations that are none

pub none_carry : FurtherCarry no_extra
none_carry = record {
  rows = λ site lattice alone number arguments p b stands low. low.rows;
  labels = λ site lattice alone number arguments p b stands low i after is. is;
  rule = λ site lattice alone number arguments p b stands low. refl;
}

-- ---- what was denied

kept_free : {S : Type 0} (keeper : Keeper) (r : Ran S) → NoRuleDenies r.denial → NoRuleDenies (kept_by keeper r).denial
kept_free Nowhere r is = is
kept_free (Slot slot sequence) r is = is
kept_free (Record client) r is = is

own_free : {S : Type 0} (so_far : List OpResult) (op : Op) (p : Place) (a : S) (result : OpResult) (refusal : Option Refusal) (keeper : Keeper) (f : List OpResult → Ran S) → NoRule refusal → ((r : OpResult) → NoRuleDenies (f (so_far ++ r ∷ [])).denial) → NoRuleDenies (own_reply so_far op p a result refusal keeper f).denial
own_free so_far op p a result None keeper f now later = kept_free keeper (f (so_far ++ result ∷ [])) (later result)
own_free so_far op p a result (Some why) keeper f now later = now

followed_free : {S : Type 0} (so_far : List OpResult) (op : Op) (p : Place) (a : S) (x : Reply) (f : List OpResult → Ran S) → NoRuleIn x → ((r : OpResult) → NoRuleDenies (f (so_far ++ r ∷ [])).denial) → NoRuleDenies (followed so_far op p a x f).denial
followed_free so_far op p a (Own own keeper) f now later = own_free so_far op p a own.result own.refusal keeper f now later
followed_free so_far op p a (Kept reply) f now later = tt

-- ---- a label that is set

module _ (X : Extra) (site : Site) (lattice : IsPreorderWithBottom site.dom) (alone : CarriesAlone site) (sent : Sent) (c : Compound) (p : Place) (b : Both X.Row) (stands : BothStand X.Fact site.dom p b) (low : StandsLow p b.world) where
  admitted_set : (op : Op) (o : Option Refusal) (t : Turn Reply (Both X.Row)) (T : World → Type 0) → (succeeds t.answer ≡ true → T t.state.world) → succeeds (admitted op p b o t).answer ≡ true → T (admitted op p b o t).state.world
  admitted_set op None t T then is = then is
  admitted_set op (Some why) t T then is = absurd (grind arith)

  answered_set : {R : Type 0} (op : Op) (reply : R → Reply) (a : Answer R) (T : Type 0) → WhereDone a T → succeeds (reply_of op reply a) ≡ true → T
  answered_set op reply (Done r) T sets is = sets
  answered_set op reply (Refused why) T sets is = absurd (grind arith)

  pub operation_sets : (so_far : List OpResult) (id : StateId) (given : RawAttrs) (v : LabelValue) (i : Id) → label_in given ≡ Some v → p.current ≡ Some i →
      succeeds (operation X site sent c so_far (ops.SetAttr id given) p b).answer ≡ true → IsSet site lattice alone p b.world stands.world low v (operation X site sent c so_far (ops.SetAttr id given) p b).state.world i
  operation_sets so_far id given v i named current done =
      admitted_set (ops.SetAttr id given) (admission X.grammar c so_far (ops.SetAttr id given) p b.world) (row_in X site sent (ops.SetAttr id given) p b) (λ u. IsSet site lattice alone p b.world stands.world low v u i)
      (λ is. answered_set (ops.SetAttr id given) (λ set. success (results.SetAttr 0 set) Nowhere) (set_attr site id given p b.world).answer _ (label_is_set site lattice alone p b.world stands.world low v id given named) is i current) done

-- ---- operations

module _ (X : Extra) (owed : AreLawful X) (further : FurtherCarry X) (site : Site) (lattice : IsPreorderWithBottom site.dom) (alone : CarriesAlone site) (sent : Sent) (c : Compound) where
  module _ (p : Place) (b : Both X.Row) (stands : BothStand X.Fact site.dom p b) (low : StandsLow p b.world) where
    chosen_any : (P : World → Type 0) (serves : Bool) (x y : Deed Reply (Both X.Row)) → P (x p b).state.world → P (y p b).state.world → P (cond serves x y p b).state.world
    chosen_any P true x y r t = r
    chosen_any P false x y r t = t

    row_low : (op : Op) → AllLow (done_to b.world (row site sent op p b.world))
    row_low op =
        let o = row site sent op p b.world in
        let within = subst (λ s. all_within site.dom s b.world o.changes ≡ true) low.subject (row_footprint site lattice sent op p b.world stands.world).within in
        low_changes site.dom o.changes b.world (within_all site.dom 0 o.changes b.world within) (row_carried site lattice alone p b.world stands.world low sent op).by.1 low.rows

    row_in_low : (op : Op) → AllLow (row_in X site sent op p b).state.world
    row_in_low (ops.Extra number arguments) =
        chosen_any AllLow (X.grammar.serves number) (further_reply number (further_deed X site number arguments)) (on_world (deed_of (row site sent (ops.Extra number arguments)))) (further.rows site lattice alone number arguments p b stands low) low.rows
    row_in_low op = row_low op

    pub operation_low : (so_far : List OpResult) (op : Op) → StandsLow (operation X site sent c so_far op p b).place (operation X site sent c so_far op p b).state.world
    operation_low so_far op = record {
      subject = (operation_lawful X owed site lattice sent c so_far op).subject p b stands ∙ low.subject;
      rows = admitted_any (λ q (v : Both X.Row). AllLow v.world) op (admission X.grammar c so_far op p b.world) p b (row_in X site sent op p b) low.rows (row_in_low op);
    }

    row_carries : (op : Op) → CarriesLabels site op p b.world (done_to b.world (row site sent op p b.world))
    row_carries op =
        becomes_carries site op p b.world _
        (changes_have (Becomes site op p b.world) (row site sent op p b.world).changes b.world (row_carried site lattice alone p b.world stands.world low sent op).by.0 (λ i stored is. Keeps is))

    row_in_carries : (op : Op) → CarriesLabels site op p b.world (row_in X site sent op p b).state.world
    row_in_carries (ops.Extra number arguments) =
        let op = ops.Extra number arguments in
        chosen_any (CarriesLabels site op p b.world) (X.grammar.serves number) (further_reply number (further_deed X site number arguments)) (on_world (deed_of (row site sent op)))
        (carries_same site op p b.world _ (further.labels site lattice alone number arguments p b stands low)) (carries_itself site op p b.world)
    row_in_carries op = row_carries op

    pub operation_carries : (so_far : List OpResult) (op : Op) → CarriesLabels site op p b.world (operation X site sent c so_far op p b).state.world
    operation_carries so_far op =
        admitted_any (λ q (v : Both X.Row). CarriesLabels site op p b.world v.world) op (admission X.grammar c so_far op p b.world) p b (row_in X site sent op p b) (carries_itself site op p b.world) (row_in_carries op)

    pub operation_unruled : (so_far : List OpResult) (op : Op) → NoRuleIn (operation X site sent c so_far op p b).answer
    operation_unruled so_far op = operation_free site lattice alone sent X further c p b stands low so_far op

  -- ---- all of a COMPOUND

  behind_low : (os : List Op) (so_far : List OpResult) (p : Place) (b : Both X.Row) → BothStand X.Fact site.dom p b → StandsLow p b.world → StandsLow (run_behind (operation X site sent c) so_far os p b).place (run_behind (operation X site sent c) so_far os p b).state.world
  unfolding run_behind
  behind_low [] so_far p b stands low = low
  behind_low (op ∷ os) so_far p b stands low =
      let t = operation X site sent c so_far op p b in
      let now = operation_low p b stands low so_far op in
      followed_any site.dom (both_seen X.level_of site.dom) (BothStand X.Fact site.dom) (λ q (v : Both X.Row). StandsLow q v.world) so_far op t.place t.state t.answer (λ results. run_behind (operation X site sent c) results os t.place t.state) now
      (λ last. behind_low os (so_far ++ last ∷ []) t.place t.state ((operation_lawful X owed site lattice sent c so_far op).stands p b stands) now)

  behind_free : (os : List Op) (so_far : List OpResult) (p : Place) (b : Both X.Row) → BothStand X.Fact site.dom p b → StandsLow p b.world → NoRuleDenies (run_behind (operation X site sent c) so_far os p b).denial
  unfolding run_behind
  behind_free [] so_far p b stands low = tt
  behind_free (op ∷ os) so_far p b stands low =
      let t = operation X site sent c so_far op p b in
      followed_free so_far op t.place t.state t.answer (λ results. run_behind (operation X site sent c) results os t.place t.state) (operation_unruled p b stands low so_far op)
      (λ last. behind_free os (so_far ++ last ∷ []) t.place t.state ((operation_lawful X owed site lattice sent c so_far op).stands p b stands) (operation_low p b stands low so_far op))

  none_first : (op : Op) (os : List Op) → list_any sets_label (op ∷ os) ≡ false → (sets_label op ≡ false) × (list_any sets_label os ≡ false)
  none_first op os none = (grind (arith, none), grind (arith, none))

  one_stays : (op : Op) (p : Place) (w v : World) → sets_label op ≡ false → CarriesLabels site op p w v → LabelsStay w v
  one_stays op p w v none carries i before after was is = carries.stays i before after (ap (λ b. b && names p.current i) none) was is

  behind_stays : (os : List Op) (so_far : List OpResult) (p : Place) (b : Both X.Row) → BothStand X.Fact site.dom p b → StandsLow p b.world → list_any sets_label os ≡ false → LabelsStay b.world (run_behind (operation X site sent c) so_far os p b).state.world
  unfolding run_behind
  behind_stays [] so_far p b stands low none = stays_itself b.world
  behind_stays (op ∷ os) so_far p b stands low none =
      let t = operation X site sent c so_far op p b in
      let both = none_first op os none in
      let now = one_stays op p b.world t.state.world both.0 (operation_carries p b stands low so_far op) in
      let there = (operation_lawful X owed site lattice sent c so_far op).stands p b stands in
      followed_any site.dom (both_seen X.level_of site.dom) (BothStand X.Fact site.dom) (λ q (v : Both X.Row). LabelsStay b.world v.world) so_far op t.place t.state t.answer (λ results. run_behind (operation X site sent c) results os t.place t.state) now
      (λ last. stays_through site.dom b.world t.state.world _ stands.world.facts (operation_raised X owed site lattice sent c so_far op p b stands) (behind_raised X owed site lattice sent c os (so_far ++ last ∷ []) t.place t.state there)
      now (behind_stays os (so_far ++ last ∷ []) t.place t.state there (operation_low p b stands low so_far op) both.1))

  -- ---- the keeping of a result

  kept_in_nodes : (p : Place) (w : World) (slot sequence : ℕ) (kept : Stored) (o : Option Session) → (apply_all (kept_in p slot (record { sequence = sequence; kept = Some kept }) o) w).nodes ≡ w.nodes
  kept_in_nodes p w slot sequence kept None = refl
  kept_in_nodes p w slot sequence kept (Some x) = refl

  kept_in_low : (p : Place) (slot sequence : ℕ) (kept : Stored) (o : Option Session) → AllGiveLow (kept_in p slot (record { sequence = sequence; kept = Some kept }) o)
  kept_in_low p slot sequence kept None = tt
  kept_in_low p slot sequence kept (Some x) = (tt, tt)

  kept_of_nodes : (w : World) (kept : Stored) (o : Option Client) → (apply_all (kept_of kept o) w).nodes ≡ w.nodes
  kept_of_nodes w kept None = refl
  kept_of_nodes w kept (Some d) = refl

  kept_of_low : (kept : Stored) (o : Option Client) → AllGiveLow (kept_of kept o)
  kept_of_low kept None = tt
  kept_of_low kept (Some d) = (tt, tt)

  keep_nodes : (keeper : Keeper) (kept : Stored) (p : Place) (w : World) → (done_to w (keep_in keeper kept p w)).nodes ≡ w.nodes
  keep_nodes Nowhere kept p w = refl
  keep_nodes (Slot slot sequence) kept p w = at p.session
    where
      at : (o : Option ℕ) → (apply_all (kept_under p slot (record { sequence = sequence; kept = Some kept }) o w.sessions) w).nodes ≡ w.nodes
      at None = refl
      at (Some number) = kept_in_nodes p w slot sequence kept _
  keep_nodes (Record client) kept p w = kept_of_nodes w kept _

  keep_gives : (keeper : Keeper) (kept : Stored) (p : Place) (w : World) → AllGiveLow (keep_in keeper kept p w).changes
  keep_gives Nowhere kept p w = tt
  keep_gives (Slot slot sequence) kept p w = at p.session
    where
      at : (o : Option ℕ) → AllGiveLow (kept_under p slot (record { sequence = sequence; kept = Some kept }) o w.sessions)
      at None = tt
      at (Some number) = kept_in_low p slot sequence kept _
  keep_gives (Record client) kept p w = kept_of_low kept _

  keep_low : (keeper : Keeper) (kept : Stored) (p : Place) (w : World) → Stands site.dom p w → StandsLow p w → AllLow (done_to w (keep_in keeper kept p w))
  keep_low keeper kept p w stands low =
      let o = keep_in keeper kept p w in
      let within = subst (λ s. all_within site.dom s w o.changes ≡ true) low.subject (keep_footprint site.dom keeper kept p w stands).within in
      low_changes site.dom o.changes w (within_all site.dom 0 o.changes w within) (keep_gives keeper kept p w) low.rows

  -- ---- the whole

  module _ (p : Place) (b : Both X.Row) (stands : BothStand X.Fact site.dom p b) (low : StandsLow p b.world) where
    -- another minor version is refused as a whole
    abbrev mismatch : Ran (Both X.Row)
    mismatch = record { place = p; state = b; results = []; denial = Some (record { place = 0; number = 0; gate = gates.Outside; status = NFS4ERR_MINOR_VERS_MISMATCH }); again = None; keeper = Nowhere }

    run_any : (P : Ran (Both X.Row) → Type 0) → P (run_behind (operation X site sent c) [] c.ops p b) → P mismatch → P (run_all (operation X site sent c) c p b)
    unfolding run_all
    run_any P ran other = at (c.minor == 2)
      where
        at : (same : Bool) → P (cond same (run_behind (operation X site sent c) [] c.ops p b) mismatch)
        at true = ran
        at false = other

    pub served_low : AllLow (served X site sent c p b).state.world
    unfolding served
    served_low =
        let r = run_all (operation X site sent c) c p b in
        let there = (all_stand site.dom (both_seen X.level_of site.dom) (BothStand X.Fact site.dom) (operation X site sent c) (operation_lawful X owed site lattice sent c) c p b stands).0 in
        keep_low r.keeper (record { arguments = sent.arguments; reply = result_of c r.results r.again }) r.place r.state.world there.world
        (run_any (λ r. StandsLow r.place r.state.world) (behind_low c.ops [] p b stands low) low)

    pub served_unruled : NoRuleDenies (served X site sent c p b).answer.denial
    unfolding served
    served_unruled = run_any (λ r. NoRuleDenies r.denial) (behind_free c.ops [] p b stands low) refl

    pub served_stays : list_any sets_label c.ops ≡ false → LabelsStay b.world (served X site sent c p b).state.world
    unfolding served
    served_stays none =
        let r = run_all (operation X site sent c) c p b in
        let same = keep_nodes r.keeper (record { arguments = sent.arguments; reply = result_of c r.results r.again }) r.place r.state.world in
        λ i before after was is. run_any (λ r. LabelsStay b.world r.state.world) (behind_stays c.ops [] p b stands low none) (stays_itself b.world) i before after was (sym (ap (λ nodes. stored_at nodes i) same) ∙ is)
