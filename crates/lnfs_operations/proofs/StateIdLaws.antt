-- State ids: what the tests of opens look at, and what is known behind them. Opens of the subject's level are seen by it.
use Rattle.std.proofs.Common.{◌≡◌, ℕ, Bool, true, not, ◌&&◌, ◌||◌, Option, Some, None, refl, sym, ap, ◌∙◌, arith}
use Rattle.std.specs.Prelude.{◌==◌, nat_le}
use Rattle.std.proofs.lemmas.Bool.{and_parts}
use Rattle.std.proofs.lemmas.Bool.Decides.{nat_tests}
use Rattle.lnfs_calipso.specs.Label.{IsPreorderWithBottom}
use Rattle.lnfs_arguments.specs.declared.stateid.StateId.{StateId}
use Rattle.lnfs_arguments.specs.declared.statuses.TheConstants.{NFS4ERR_LOCKED, NFS4ERR_OLD_STATEID, NFS4ERR_BAD_STATEID}
use Rattle.lnfs_world.specs.World.{Id, Node, Open, World, same_id}
use Rattle.lnfs_world.specs.Erased.{erased, shrunk}
use Rattle.lnfs_world.specs.Outcome.{Site, Place, Outcome}
use Rattle.lnfs_world.proofs.Keys.{id_same}
use Rattle.lnfs_world.proofs.Rows.{all_anyway, all_find}
use Rattle.lnfs_world.proofs.Leases.{conflicts_seen}
use Rattle.lnfs_world.proofs.Views.{row_at-seen}
use Rattle.lnfs_operations.specs.declared.Gate.{Gate}
use Rattle.lnfs_operations.specs.declared.Gate.TheVariants as gates
use Rattle.lnfs_operations.specs.Chain.{Answer, refuse, demand, where_there}
use Rattle.lnfs_operations.specs.Handles.{handle_named}
use Rattle.lnfs_world.specs.Opens.{has_any}
use Rattle.lnfs_operations.specs.StateIds.{Special, Anonymous, Bypass, Current, special, is_client, open_at, where_open, Way, Reading, Writing, bit_of, is_denied, where_undenied, where_usable_by, where_usable}
use Rattle.lnfs_operations.proofs.Chains.{demand_alike, where_alike, demand_any, where_any}

-- ---- what is looked at

module _ (dom : ℕ → ℕ → Bool) (lattice : IsPreorderWithBottom dom) (p : Place) (w : World) where
  abbrev seen_world : World
  seen_world = erased dom p.subject w

  abbrev seen_node : Node → Node
  seen_node n = shrunk dom p.subject n

  -- an open of the subject's level
  open_at-seen : (n : Node) (i : Id) → (i.level == p.subject) ≡ true → open_at p seen_world (seen_node n) i ≡ open_at p w n i
  open_at-seen n i own = row_at-seen dom p.subject (λ o. o.id) (λ o. same_id i o.id && (is_client p.client o.client && same_id n.id o.node)) (λ o is. above o (and_parts _ _ is).0) w.opens
    where
      above : (o : Open) → same_id i o.id ≡ true → dom p.subject o.id.level ≡ true
      above o same = grind (arith, nat_tests, own, same, lattice.reflexive p.subject)

  pub where_open-seen : {R : Type 0} (n : Node) (id : StateId) (shown found : Open → Outcome (Answer R)) → ((o : Open) → shown o ≡ found o) → where_open p seen_world (seen_node n) id shown ≡ where_open p w n id found
  where_open-seen n id shown found same =
      demand_alike ((handle_named id.other).level == p.subject) _ _ _ (λ own.
      ap (λ o. where_there o (λ x. demand (nat_le id.seqid x.sequence) (refuse p gates.Open NFS4ERR_BAD_STATEID) (demand (id.seqid == 0 || id.seqid == x.sequence) (refuse p gates.Open NFS4ERR_OLD_STATEID) (shown x))) (refuse p gates.Open NFS4ERR_BAD_STATEID)) (open_at-seen n (handle_named id.other) own)
      ∙ where_alike (open_at p w n (handle_named id.other)) _ _ _ (λ o there.
      demand_alike (nat_le id.seqid o.sequence) _ _ _ (λ known.
      demand_alike (id.seqid == 0 || id.seqid == o.sequence) _ _ _ (λ now. same o))))

module _ (site : Site) (lattice : IsPreorderWithBottom site.dom) (p : Place) (w : World) where
  -- opens that the subject sees, as no others deny it anything
  is_denied-seen : (n : Node) (way : Way) → is_denied site p (erased site.dom p.subject w) (shrunk site.dom p.subject n) way ≡ is_denied site p w n way
  is_denied-seen n way = conflicts_seen site.dom p.subject w p.moment None n.id (bit_of way) 0

  undenied_seen : {R : Type 0} (n : Node) (way : Way) (shown found : Outcome (Answer R)) → shown ≡ found → where_undenied site p (erased site.dom p.subject w) (shrunk site.dom p.subject n) way shown ≡ where_undenied site p w n way found
  undenied_seen n way shown found same = let denied = is_denied-seen n way in λ k. demand (not (denied k)) (refuse p gates.Open NFS4ERR_LOCKED) (same k)

  usable_seen : {R : Type 0} (o : Option Special) (n : Node) (id : StateId) (way : Way) (shown found : Outcome (Answer R)) → shown ≡ found → where_usable_by o site p (erased site.dom p.subject w) (shrunk site.dom p.subject n) id way shown ≡ where_usable_by o site p w n id way found
  usable_seen (Some Anonymous) n id way shown found same = undenied_seen n way shown found same
  usable_seen (Some Bypass) n id Reading shown found same = same
  usable_seen (Some Bypass) n id Writing shown found same = undenied_seen n Writing shown found same
  usable_seen (Some Current) n id way shown found same = refl
  usable_seen None n id way shown found same = where_open-seen site.dom lattice p w n id _ _ (λ o. demand_alike (has_any o.access (bit_of way)) _ _ _ (λ opened. same))

  -- behind the tests of a state id what is alike stays alike
  pub where_usable-seen : {R : Type 0} (n : Node) (id : StateId) (way : Way) (shown found : Outcome (Answer R)) → shown ≡ found → where_usable site p (erased site.dom p.subject w) (shrunk site.dom p.subject n) id way shown ≡ where_usable site p w n id way found
  where_usable-seen n id way shown found same = usable_seen (special id) n id way shown found same

-- ---- any outcome

-- an open that a state id names: of the subject's level, and of the node
pub record IsNamedBy (p : Place) (w : World) (n : Node) (id : StateId) (o : Open) : Type 0 where
  pub found : open_at p w n (handle_named id.other) ≡ Some o
  pub own : o.id.level ≡ p.subject
  pub known : nat_le id.seqid o.sequence ≡ true

module _ {R : Type 0} (P : Outcome (Answer R) → Type 0) (p : Place) (refused : (gate : Gate) (status : ℕ) → P (refuse p gate status)) (w : World) where
  pub named_open_any : (n : Node) (id : StateId) (next : Open → Outcome (Answer R)) → ((o : Open) → IsNamedBy p w n id o → P (next o)) → P (where_open p w n id next)
  named_open_any n id next is =
      demand_any P ((handle_named id.other).level == p.subject) _ _ (refused _ _) (λ own.
      where_any P (open_at p w n (handle_named id.other)) _ _ (λ o found.
      demand_any P (nat_le id.seqid o.sequence) _ _ (refused _ _) (λ known.
      demand_any P (id.seqid == 0 || id.seqid == o.sequence) _ _ (refused _ _) (λ now.
      is o (record { found = found; own = level o found own; known = known })))) (refused _ _))
    where
      level : (o : Open) → open_at p w n (handle_named id.other) ≡ Some o → ((handle_named id.other).level == p.subject) ≡ true → o.id.level ≡ p.subject
      level o found own =
          let passes = (all_find (λ x. Unit {0}) (λ x. same_id (handle_named id.other) x.id && (is_client p.client x.client && same_id n.id x.node)) w.opens o (all_anyway _ (λ x. tt) w.opens) found).1 in
          let same : handle_named id.other ≡ o.id = id_same _ _ (and_parts _ _ passes).0 in
          ap (λ (i : Id). i.level) (sym same) ∙ grind (arith, nat_tests, own)

  usable_by_any : (site : Site) (o : Option Special) (n : Node) (id : StateId) (way : Way) (next : Outcome (Answer R)) → P next → P (where_usable_by o site p w n id way next)
  usable_by_any site (Some Anonymous) n id way next is = demand_any P (not (is_denied site p w n way)) _ _ (refused _ _) (λ free. is)
  usable_by_any site (Some Bypass) n id Reading next is = is
  usable_by_any site (Some Bypass) n id Writing next is = demand_any P (not (is_denied site p w n Writing)) _ _ (refused _ _) (λ free. is)
  usable_by_any site (Some Current) n id way next is = refused _ _
  usable_by_any site None n id way next is = named_open_any n id _ (λ o named. demand_any P (has_any o.access (bit_of way)) _ _ (refused _ _) (λ opened. is))

  pub usable_any : (site : Site) (n : Node) (id : StateId) (way : Way) (next : Outcome (Answer R)) → P next → P (where_usable site p w n id way next)
  usable_any site n id way next is = usable_by_any site (special id) n id way next is
