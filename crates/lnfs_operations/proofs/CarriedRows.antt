-- What each operation of the table does to labels, where they are carried alone.
use Rattle.std.proofs.Common.{◌≡◌, ℕ, Bool, true, false, cond, ◌&&◌, List, [], ◌∷◌, ◌++◌, Option, Some, None, refl, sym, ap, subst, ◌∙◌, arith, inl, inr}
use Rattle.std.specs.Prelude.{◌==◌, is_some, nat_le, not, slice_get, option_and_then}
use Rattle.std.specs.Option.{option_map}
use Rattle.std.specs.List.{find}
use Rattle.std.proofs.lemmas.Bool.{false≢true}
use Rattle.lnfs_calipso.specs.Label.{IsPreorderWithBottom}
use Rattle.lnfs_words.specs.Words.{is_empty}
use Rattle.lnfs_attrs.specs.declared.raw.RawAttrs.{RawAttrs}
use Rattle.lnfs_attrs.specs.declared.view.LabelValue.{LabelValue}
use Rattle.lnfs_attrs.specs.declared.settable.AttrSet.{AttrSet}
use Rattle.lnfs_arguments.specs.declared.stateid.StateId.{StateId}
use Rattle.lnfs_arguments.specs.declared.types.Op.{Op}
use Rattle.lnfs_arguments.specs.declared.types.Op.TheVariants as ops
use Rattle.lnfs_arguments.specs.declared.types.Sequence.{Sequence}
use Rattle.lnfs_arguments.specs.declared.types.CreateSession.{CreateSession}
use Rattle.lnfs_arguments.specs.declared.types.What.{What}
use Rattle.lnfs_arguments.specs.declared.types.Making.{Making}
use Rattle.lnfs_arguments.specs.declared.types.Claim.{Claim}
use Rattle.lnfs_world.specs.World.{Id, Client, Stored, Node, Entry, Open, World, client_at, same_id, node_at}
use Rattle.lnfs_world.specs.Change.{Change, Touch, Unlink, Drop, Move, SetOpen, AddOpen}
use Rattle.lnfs_world.specs.Effects.{names_changed, name_added, attributes_changed, next_entry, next_id, written, data_changed, taken_out, directories_changed}
use Rattle.lnfs_world.specs.Opens.{ended}
use Rattle.lnfs_world.specs.Tree.{has_other_name}
use Rattle.lnfs_world.specs.Outcome.{Site, Place, Outcome, Stands}
use Rattle.lnfs_world.proofs.Determined.{new_absent}
use Rattle.lnfs_world.proofs.Keys.{id_itself}
use Rattle.lnfs_world.proofs.Nodes.{nothing_told}
use Rattle.lnfs_world.proofs.Seen.{node_at-id}
use Rattle.lnfs_operations.specs.declared.Gate.{Gate}
use Rattle.lnfs_operations.specs.Carried.{CarriesAlone, StandsLow, label_of, stored_at, label_read, label_in, label_for, label_given, sets_label, given_or, names, IsLabelled, CarriesLabels}
use Rattle.lnfs_operations.specs.Chain.{Answer, refuse, done}
use Rattle.lnfs_operations.specs.Close.{close}
use Rattle.lnfs_operations.specs.Create.{create}
use Rattle.lnfs_operations.specs.CreateSession.{create_session, is_replaced}
use Rattle.lnfs_operations.specs.DestroyClientId.{destroy_clientid, is_busy}
use Rattle.lnfs_operations.specs.DestroySession.{destroy_session}
use Rattle.lnfs_operations.specs.ExchangeId.{Arguments, exchange_id, is_pending, dropped}
use Rattle.lnfs_operations.specs.Given.{GivenLabel, level_or, spelled_by, spelled_or, kept_label}
use Rattle.lnfs_operations.specs.Identifiers.{client_named, session_named, session_under}
use Rattle.lnfs_operations.specs.Keeping.{next_sequence}
use Rattle.lnfs_operations.specs.Link.{link}
use Rattle.lnfs_operations.specs.Open.{Arguments as OpenArguments, Wanted, attrs_of, passed_over, new_open, joined, cut, open_file}
use Rattle.lnfs_operations.specs.ReclaimComplete.{reclaim_complete}
use Rattle.lnfs_operations.specs.Remove.{remove}
use Rattle.lnfs_operations.specs.Rename.{Mover, rename}
use Rattle.lnfs_operations.specs.Sequence.{Again, Sent, renewing, sequence}
use Rattle.lnfs_operations.specs.Served.{row}
use Rattle.lnfs_operations.specs.SetAttr.{size_set, mode_set, set_attr}
use Rattle.lnfs_operations.specs.Shown.{stored_or, label_shown}
use Rattle.lnfs_operations.specs.Write.{Arguments as WriteArguments, write}
use Rattle.lnfs_operations.proofs.Chains.{demand_any, where_any, in_order_any}
use Rattle.lnfs_operations.proofs.CreateLaws.{create_any}
use Rattle.lnfs_operations.proofs.CreateSessionLaws.{created_any}
use Rattle.lnfs_operations.proofs.ExchangeIdLaws.{exchange_id_any}
use Rattle.lnfs_operations.proofs.FileLaws.{close_any, write_any}
use Rattle.lnfs_operations.proofs.GivenLaws.{AreRead, IsGiven}
use Rattle.lnfs_operations.proofs.LowRows.{AllGiveLow, joined_low, ended_low}
use Rattle.lnfs_operations.proofs.Namings.{renamed, link_any, remove_any, rename_any}
use Rattle.lnfs_operations.proofs.Once.{reclaim_any}
use Rattle.lnfs_operations.proofs.Openings.{open_any}
use Rattle.lnfs_operations.proofs.ReadingRows.{Reads, row_reads}
use Rattle.lnfs_operations.proofs.SetAttrLaws.{set_attr_any}
use Rattle.lnfs_operations.proofs.StoredLabels.{AllHave, AllGive, joined_give, ended_give}
use Rattle.lnfs_operations.proofs.Unruled.{node_low, reads_low}

-- Where the label of a node comes from that stands behind an operation.
pub data Becomes (site : Site) (op : Op) (p : Place) (w : World) (i : Id) (stored : Option Stored) : Type 0 where
  Keeps : stored_at w.nodes i ≡ Some stored → Becomes site op p w i stored
  Sets : (before : Option Stored) → stored_at w.nodes i ≡ Some before → (sets_label op && names p.current i) ≡ true → Becomes site op p w i stored
  Makes : stored_at w.nodes i ≡ None → IsLabelled site op p w stored → Becomes site op p w i stored

-- what holds of all labels afterwards tells what the operation does
pub becomes_carries : (site : Site) (op : Op) (p : Place) (w v : World) → AllHave (Becomes site op p w) v → CarriesLabels site op p w v
becomes_carries site op p w v have = record { stays = λ i before after other was is. stays i before after other was (have i after is); made = λ i after absent is. made i after absent (have i after is) }
  where
    stays : (i : Id) (before after : Option Stored) → (sets_label op && names p.current i) ≡ false → stored_at w.nodes i ≡ Some before → Becomes site op p w i after → after ≡ before
    stays i before after other was (Keeps is) = cc
    stays i before after other was (Sets own there sets) = absurd (false≢true (sym other ∙ sets))
    stays i before after other was (Makes absent label) = absurd (grind (arith, was, absent))

    made : (i : Id) (after : Option Stored) → stored_at w.nodes i ≡ None → Becomes site op p w i after → IsLabelled site op p w after
    made i after absent (Keeps is) = absurd (grind (arith, is, absent))
    made i after absent (Sets own there sets) = absurd (grind (arith, there, absent))
    made i after absent (Makes none label) = label

-- ---- labels that are given

-- as it was given, or another
given_spelled : (site : Site) (own : Stored) (value : Option LabelValue) (label : Option GivenLabel) → IsGiven site value label → spelled_or own label ≡ given_or own value
given_spelled site own None label is = ap (spelled_or own) is
given_spelled site own (Some v) label is = ap (spelled_or own) is.2

-- its level is 0
given_low : (site : Site) → CarriesAlone site → (own : ℕ) → own ≡ 0 → (value : Option LabelValue) (label : Option GivenLabel) → IsGiven site value label → level_or own label ≡ 0
given_low site alone own low None label is = ap (level_or own) is ∙ low
given_low site alone own low (Some v) label is = ap (level_or own) is.2 ∙ alone.level (spelled_by v) is.0 is.1

is_given : (site : Site) (value : Option LabelValue) (label : GivenLabel) → IsGiven site value (Some label) → is_some value ≡ true
is_given site None label is = absurd (grind (arith, is))
is_given site (Some v) label is = refl

-- the label among attributes that were read
pub read_in : (given : RawAttrs) (values : AttrSet) → AreRead given values → label_in given ≡ values.label
read_in given values read = ap label_read read.parsed

-- what a node shows is what it has
pub shown_own : (site : Site) → IsPreorderWithBottom site.dom → CarriesAlone site → (p : Place) (w : World) → StandsLow p w → (i : Id) (n : Node) → node_at w.nodes i ≡ Some n → label_shown site p n ≡ label_of site n
shown_own site lattice alone p w low i n found =
    let above = reads_low site lattice p w low n.label (node_low site lattice p w low i n found) in
    ap (λ b. cond (b && site.dom p.subject n.label) (stored_or (site.spelling n.label) n.inner.stored) (site.spelling n.label)) alone.limited
    ∙ ap (λ b. cond b (stored_or (site.spelling n.label) n.inner.stored) (site.spelling n.label)) above

module _ (site : Site) (lattice : IsPreorderWithBottom site.dom) (alone : CarriesAlone site) (p : Place) (w : World) (stands : Stands site.dom p w) (low : StandsLow p w) where
  stored_found : (n : Node) → node_at w.nodes n.id ≡ Some n → stored_at w.nodes n.id ≡ Some n.inner.stored
  stored_found n found = ap (option_map (λ m. m.inner.stored)) found

  kept_own : (d : Node) (value : Option LabelValue) (label : Option GivenLabel) → node_at w.nodes d.id ≡ Some d → IsGiven site value label → kept_label site p d label ≡ Some (given_or (label_of site d) value)
  kept_own d value label found is =
      ap (λ b. cond b (Some (spelled_or (label_shown site p d) label)) None) alone.limited
      ∙ ap (λ own. Some (spelled_or own label)) (shown_own site lattice alone p w low d.id d found)
      ∙ ap Some (given_spelled site (label_of site d) value label is)

  -- a new node in a directory
  new_labelled : (op : Op) (d : Node) (value : Option LabelValue) (label : Option GivenLabel) → p.current ≡ Some d.id → node_at w.nodes d.id ≡ Some d → IsGiven site value label → label_given op ≡ value →
      Becomes site op p w (next_id w.lasts.nodes d.label) (kept_label site p d label)
  new_labelled op d value label current found is same =
      let i : Id = next_id w.lasts.nodes d.label in
      Makes (nothing_told (λ m. m.inner.stored) i w.nodes (new_absent site.dom d.label w.nodes w.entries w.lasts.nodes stands.facts.nodes i (record { own = refl; above = omega arith })))
      (record {
        directory = d;
        current = ap (option_and_then (node_at w.nodes)) current ∙ found;
        label = kept_own d value label found is ∙ ap (λ v. Some (given_or (label_of site d) v)) (sym same);
      })

  module _ (op : Op) where
    -- what an outcome's changes give to nodes
    abbrev CarriedBy : List Change → Type 0
    CarriedBy changes = AllGive (Becomes site op p w) changes × AllGiveLow changes

    pub record Carried {A : Type 0} (o : Outcome A) : Type 0 where
      pub by : CarriedBy o.changes

    refused_carried : {R : Type 0} (gate : Gate) (status : ℕ) → Carried {A = Answer R} (refuse p gate status)
    refused_carried gate status = record { by = (tt, tt) }

    joined_carried : (first then : List Change) → CarriedBy first → CarriedBy then → CarriedBy (first ++ then)
    joined_carried first then a b = (joined_give (Becomes site op p w) first then a.0 b.0, joined_low first then a.1 b.1)

    own : (n : Node) → node_at w.nodes n.id ≡ Some n → Becomes site op p w n.id n.inner.stored
    own n found = Keeps (stored_found n found)

    -- with another answer
    replied_carried : {A B : Type 0} (o : Outcome A) (answer : B) → Carried o → Carried (record { answer = answer; place = o.place; changes = o.changes })
    replied_carried o answer carried = record { by = carried.by }

    -- ---- clients and sessions

    dropped_carried : (o : Option Client) (rest : List Change) → CarriedBy rest → CarriedBy (dropped o ++ rest)
    dropped_carried None rest carried = carried
    dropped_carried (Some d) rest carried = ((tt, carried.0), (tt, carried.1))

    exchange_id_carried : (args : Arguments) → Carried (exchange_id args p w)
    exchange_id_carried args = exchange_id_any Carried args p w refused_carried (λ t. record { by = (tt, tt) }) (record { by = dropped_carried (find (is_pending p.subject args.owner) w.clients) _ ((tt, tt), (tt, tt)) })

    create_session_carried : (args : CreateSession) (arguments : List ℕ) → Carried (create_session args arguments p w)
    create_session_carried args arguments =
        demand_any Carried ((client_named args.client).level == p.subject) _ _ (refused_carried _ _) (λ own.
        where_any Carried (client_at w.clients (client_named args.client)) _ _ (λ c found.
        created_any Carried args arguments p w c refused_carried (λ k kept. record { by = (tt, tt) }) (λ large.
        record { by = dropped_carried (find (is_replaced c) w.clients) _ ((tt, (tt, tt)), (tt, (tt, tt))) })) (refused_carried _ _))

    destroy_session_carried : (session : List ℕ) → Carried (destroy_session session p w)
    destroy_session_carried session =
        demand_any Carried ((session_named session).level == p.subject) _ _ (refused_carried _ _) (λ own.
        where_any Carried (session_under session w.sessions) _ _ (λ x found. record { by = ((tt, tt), (tt, tt)) }) (refused_carried _ _))

    renewing_carried : (o : Option Client) → CarriedBy (renewing p.moment o)
    renewing_carried None = (tt, tt)
    renewing_carried (Some c) = ((tt, tt), (tt, tt))

    sequence_carried : (args : Sequence) (sent : Sent) → Carried (sequence args sent p w)
    sequence_carried args sent =
        demand_any Carried ((session_named args.session).level == p.subject) _ _ (refused_carried _ _) (λ own.
        where_any Carried (session_under args.session w.sessions) _ _ (λ x found.
        demand_any Carried (nat_le sent.size x.channel.max_request) _ _ (refused_carried _ _) (λ short.
        demand_any Carried (nat_le sent.count x.channel.max_operations) _ _ (refused_carried _ _) (λ few.
        where_any Carried (slice_get x.slots args.slot) _ _ (λ slot there.
        in_order_any Carried p slot.sequence (next_sequence slot.sequence) slot.kept args.sequence sent.arguments (λ reply. done p (Again reply) []) _ (λ status. refused_carried _ _) (λ k kept. record { by = (tt, tt) })
        (λ next. record { by = renewing_carried (client_at w.clients (record { level = p.subject; number = x.client })) })) (refused_carried _ _)))) (refused_carried _ _))

    destroy_clientid_carried : (client : ℕ) → Carried (destroy_clientid client p w)
    destroy_clientid_carried client =
        demand_any Carried ((client_named client).level == p.subject) _ _ (refused_carried _ _) (λ own.
        where_any Carried (client_at w.clients (client_named client)) _ _ (λ c found.
        demand_any Carried (not (is_busy c.id w)) _ _ (refused_carried _ _) (λ idle. record { by = ((tt, tt), (tt, tt)) })) (refused_carried _ _))

    reclaim_carried : (one_fs : Bool) → Carried (reclaim_complete one_fs p w)
    reclaim_carried one_fs = reclaim_any Carried one_fs p w (λ status. refused_carried _ _) (record { by = (tt, tt) }) (λ c. record { by = ((tt, tt), (tt, tt)) })

    -- ---- reading

    accessed_carried : (n : Node) → node_at w.nodes n.id ≡ Some n → (b : Bool) → CarriedBy (cond b (Touch n.id (record n.inner { accessed = p.moment }) ∷ []) [])
    accessed_carried n found true = ((own n found, tt), (tt, tt))
    accessed_carried n found false = (tt, tt)

    reads_carried : {A : Type 0} (o : Outcome A) → Reads p w o → Carried o
    reads_carried o reads = elim reads.changes [
      | inl none ↦ record { by = subst CarriedBy (sym none) (tt, tt) }
      | inr some ↦ record { by = subst CarriedBy (sym some.2) (accessed_carried some.0 some.1 (p.subject == some.0.label)) }
    ]

    -- ---- names

    link_carried : (name : List ℕ) → Carried (link site name p w)
    link_carried name = link_any site p w Carried name refused_carried (λ n d is links free. record { by = ((own d is.there, (own n links.there, (tt, tt))), (tt, (tt, (tt, tt)))) })

    named_there : (i : Id) (n : Node) → node_at w.nodes i ≡ Some n → node_at w.nodes n.id ≡ Some n
    named_there i n there = ap (node_at w.nodes) (node_at-id i w.nodes n there) ∙ there

    taken_out_carried : (e : Entry) (n : Node) → node_at w.nodes n.id ≡ Some n → (b : Bool) → CarriedBy (cond b (Touch n.id (attributes_changed p.moment n.inner) ∷ Unlink e ∷ []) (Drop e ∷ []))
    taken_out_carried e n found true = ((own n found, (tt, tt)), (tt, (tt, tt)))
    taken_out_carried e n found false = ((tt, tt), (tt, tt))

    remove_carried : (name : List ℕ) → Carried (remove site name p w)
    remove_carried name = remove_any site p w Carried name refused_carried (λ d n e is named leaves.
        let rest = taken_out_carried e n (named_there e.node n named.there) (has_other_name w.entries e) in
        record { by = ((own d is.there, rest.0), (tt, rest.1)) })

    directories_carried : (from to : Node) → node_at w.nodes from.id ≡ Some from → node_at w.nodes to.id ≡ Some to → (b : Bool) →
        CarriedBy (cond b (Touch to.id (name_added p.moment to.inner) ∷ []) (Touch from.id (names_changed p.moment from.inner) ∷ Touch to.id (name_added p.moment to.inner) ∷ []))
    directories_carried from to from_there to_there true = ((own to to_there, tt), (tt, tt))
    directories_carried from to from_there to_there false = ((own from from_there, (own to to_there, tt)), (tt, (tt, tt)))

    moved_carried : (new : List ℕ) (m : Mover) (room : List Change) → node_at w.nodes m.from.id ≡ Some m.from → node_at w.nodes m.to.id ≡ Some m.to → CarriedBy room → Carried (renamed p new m room)
    moved_carried new m room from to carried = record {
      by = joined_carried (directories_changed p.moment m.from m.to ++ room) (Move m.entry (next_entry m.to new m.node.id) ∷ [])
          (joined_carried (directories_changed p.moment m.from m.to) room (directories_carried m.from m.to from to (same_id m.from.id m.to.id)) carried) ((tt, tt), (tt, tt));
    }

    rename_carried : (old new : List ℕ) → Carried (rename site old new p w)
    rename_carried old new = rename_any site p w Carried old new (record {
      refused = refused_carried;
      stays = λ m. record { by = (tt, tt) };
      free = λ m from to named moves is. moved_carried new m [] from.there to.there (tt, tt);
      onto = λ m e n from to named moves onto gives. moved_carried new m (taken_out p.moment w.entries e n) from.there to.there (taken_out_carried e n (named_there e.node n onto.there) (has_other_name w.entries e));
    })

    -- ---- files

    data_carried : (n : Node) (content : List ℕ) → node_at w.nodes n.id ≡ Some n → (b : Bool) → CarriedBy (cond b (Touch n.id (data_changed p.moment content n.inner) ∷ []) [])
    data_carried n content found true = ((own n found, tt), (tt, tt))
    data_carried n content found false = (tt, tt)

    close_carried : (id : StateId) → Carried (close id p w)
    close_carried id = close_any Carried id p w refused_carried (λ n o found named. record { by = ((tt, tt), (tt, tt)) })

    written_carried : (n : Node) (content : List ℕ) → node_at w.nodes n.id ≡ Some n → (none : Bool) → CarriedBy (cond none [] (Touch n.id (data_changed p.moment content n.inner) ∷ []))
    written_carried n content found true = (tt, tt)
    written_carried n content found false = ((own n found, tt), (tt, tt))

    write_carried : (args : WriteArguments) → Carried (write site args p w)
    write_carried args = write_any Carried site args p w refused_carried (λ n may. record { by = written_carried n (written args.offset args.content n.inner.content) may.file.found (is_empty args.content) })

    opened_carried : (wanted : Wanted) (n : Node) (c : Change) (ends : List Open) → node_at w.nodes n.id ≡ Some n → CarriedBy (c ∷ []) → CarriedBy (cut p wanted n ++ c ∷ ended ends)
    opened_carried wanted n c ends found carried = joined_carried (cut p wanted n) _ (data_carried n [] found wanted.sized) ((carried.0.0, ended_give (Becomes site op p w) ends), (carried.1.0, ended_low ends))

  -- ---- labels that are given

  create_carried : (what : What) (name : List ℕ) (given : RawAttrs) → Carried (ops.Create what name given) (create site what name given p w)
  create_carried what name given =
      let op = ops.Create what name given in
      create_any (Carried op) site what name given p w (refused_carried op) (λ values label d read as_given may. record {
        by = (
          (own op d may.found, (new_labelled op d values.label label may.current may.found as_given (read_in given values read), tt)),
          (tt, (given_low site alone d.label (node_low site lattice p w low d.id d may.found) values.label label as_given, tt)),
        );
      })

  open_carried : (seqid access deny client : ℕ) (owner : List ℕ) (making : Option Making) (claim : Claim) →
      Carried (ops.Open seqid access deny client owner making claim) (open_file site (record { access = access; deny = deny; owner = owner; making = making; claim = claim }) p w)
  open_carried seqid access deny client owner making claim =
      let op = ops.Open seqid access deny client owner making claim in
      let args : OpenArguments = record { access = access; deny = deny; owner = owner; making = making; claim = claim } in
      open_any (Carried op) site args p w (record {
        refused = refused_carried op;
        makes = λ client name some wanted d may.
            let given : label_given op ≡ may.as_given.values.label = ap label_for may.asked ∙ read_in (attrs_of some) may.as_given.values may.as_given.read in
            record {
              by = (
                (own op d may.found, (new_labelled op d may.as_given.values.label wanted.label may.current may.found may.as_given.given given, (tt, tt))),
                (tt, (given_low site alone d.label (node_low site lattice p w low d.id d may.found) may.as_given.values.label wanted.label may.as_given.given, (tt, tt))),
              );
            };
        joins = λ client wanted info n o may found. record { by = opened_carried op wanted n (SetOpen (joined args o)) (passed_over args p w client n) may.file.found ((tt, tt), (tt, tt)) };
        adds = λ client wanted info n may none left. record { by = opened_carried op wanted n (AddOpen (new_open args p w client n.id)) (passed_over args p w client n) may.file.found ((tt, tt), (tt, tt)) };
      })

  values_stored : (n : Node) (size mode : Option ℕ) → (mode_set p mode (size_set p n size)).stored ≡ n.inner.stored
  values_stored n None None = refl
  values_stored n None (Some mode) = refl
  values_stored n (Some size) None = refl
  values_stored n (Some size) (Some mode) = refl

  set_attr_carried : (id : StateId) (given : RawAttrs) → Carried (ops.SetAttr id given) (set_attr site id given p w)
  set_attr_carried id given =
      let op = ops.SetAttr id given in
      set_attr_any (Carried op) site id given p w (refused_carried op) (record { by = (tt, tt) })
      (λ values label n limited read as_given may.
      let sets : sets_label op ≡ true = ap is_some (read_in given values read) ∙ is_given site values.label label as_given in
      let here : names p.current n.id ≡ true = ap (λ o. names o n.id) may.current ∙ id_itself n.id in
      record { by = ((Sets n.inner.stored (stored_found n may.found) (λ k. sets k && here k), tt), (tt, tt)) })
      (λ n level may. absurd (false≢true (sym may.enforcing ∙ alone.limited)))
      (λ n values may. record { by = ((Keeps (stored_found n may.set.found ∙ ap Some (sym (values_stored n values.size values.mode))), tt), (tt, tt)) })

  -- ---- rows

  pub row_carried : (sent : Sent) (op : Op) → Carried op (row site sent op p w)
  row_carried sent (ops.ExchangeId verifier owner flags implementation) =
      let op = ops.ExchangeId verifier owner flags implementation in
      replied_carried op _ _ (exchange_id_carried op (record { verifier = verifier; owner = owner; flags = flags }))
  row_carried sent (ops.CreateSession args) = replied_carried (ops.CreateSession args) _ _ (create_session_carried (ops.CreateSession args) args sent.arguments)
  row_carried sent (ops.DestroySession session) = replied_carried (ops.DestroySession session) _ _ (destroy_session_carried (ops.DestroySession session) session)
  row_carried sent (ops.Sequence args) = replied_carried (ops.Sequence args) _ _ (sequence_carried (ops.Sequence args) args sent)
  row_carried sent (ops.DestroyClientId client) = replied_carried (ops.DestroyClientId client) _ _ (destroy_clientid_carried (ops.DestroyClientId client) client)
  row_carried sent (ops.ReclaimComplete one_fs) = replied_carried (ops.ReclaimComplete one_fs) _ _ (reclaim_carried (ops.ReclaimComplete one_fs) one_fs)
  row_carried sent (ops.Create what name given) = replied_carried (ops.Create what name given) _ _ (create_carried what name given)
  row_carried sent (ops.Link name) = replied_carried (ops.Link name) _ _ (link_carried (ops.Link name) name)
  row_carried sent (ops.Remove name) = replied_carried (ops.Remove name) _ _ (remove_carried (ops.Remove name) name)
  row_carried sent (ops.Rename old new) = replied_carried (ops.Rename old new) _ _ (rename_carried (ops.Rename old new) old new)
  row_carried sent (ops.SetAttr id given) = replied_carried (ops.SetAttr id given) _ _ (set_attr_carried id given)
  row_carried sent (ops.Open seqid access deny client owner making claim) = replied_carried (ops.Open seqid access deny client owner making claim) _ _ (open_carried seqid access deny client owner making claim)
  row_carried sent (ops.Close seqid id) = replied_carried (ops.Close seqid id) _ _ (close_carried (ops.Close seqid id) id)
  row_carried sent (ops.Write id offset stable content) =
      let op = ops.Write id offset stable content in
      replied_carried op _ _ (write_carried op (record { id = id; offset = offset; stable = stable; content = content }))
  row_carried sent (ops.Outside number status) = record { by = (tt, tt) }
  row_carried sent (ops.Extra number arguments) = record { by = (tt, tt) }
  row_carried sent op = reads_carried op (row site sent op p w) (row_reads site sent p w op refl)
