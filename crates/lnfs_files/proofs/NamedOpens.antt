-- The open that a state id names, by what the opens find.
use Rattle.std.proofs.Common.{◌≡◌, refl, ap, sym, ◌∙◌, ℕ, Bool, true, false, ◌&&◌, ◌||◌, cond, List, [], ◌∷◌, Option, Some, None, Result, Ok, Err, arith}
use Rattle.std.specs.Prelude.{◌==◌, nat_le, if◌then◌else◌}
use Rattle.std.specs.List.{find}
use Rattle.lnfs_arguments.specs.declared.stateid.StateId.{StateId}
use Rattle.lnfs_arguments.specs.declared.statuses.TheConstants.{NFS4ERR_BAD_STATEID, NFS4ERR_OLD_STATEID}
use Rattle.lnfs_world.specs.World.{Id, Node, Open, World, same_id}
use Rattle.lnfs_world.specs.Outcome.{Place, Outcome}
use Rattle.lnfs_monitor.specs.declared.rule.Rule.TheVariants.{M9}
use Rattle.lnfs_operations.specs.declared.Gate.TheVariants as gates
use Rattle.lnfs_operations.specs.Handles.{handle_named}
use Rattle.lnfs_operations.specs.Chain.{Answer, refuse, demand, where_there}
use Rattle.lnfs_operations.specs.StateIds.{open_at, is_client, where_open}
use Rattle.lnfs_open.specs.Opening.{found_of, at_sequence}
use Rattle.lnfs_open.specs.Listed.{client_id, open_id}
use Rattle.lnfs_open.specs.declared.keys.OpenError.{OpenError}
use Rattle.lnfs_open.specs.declared.keys.OpenError.TheVariants.{Bad, Old}
use Rattle.lnfs_operations.proofs.ShownLaws.{and_false}
use Rattle.lnfs_files.specs.declared.references.Reference.{Reference}
use Rattle.lnfs_files.specs.Uses.{Refers, refusal_by}

-- ---- searches that find nothing

find_never : (test : Open → Bool) → ((o : Open) → test o ≡ false) → (opens : List Open) → find test opens ≡ None
find_never test never [] = refl
find_never test never (o ∷ opens) = ap (λ (b : Bool). if b then Some o else find test opens) (never o) ∙ find_never test never opens

-- a further condition finds no more
find_fewer : (first also : Open → Bool) → (opens : List Open) → find first opens ≡ None → find (λ o. first o && also o) opens ≡ None
find_fewer first also [] none = refl
find_fewer first also (o ∷ opens) none = at (first o) none (find_fewer first also opens)
  where
    at : (b : Bool) → (if b then Some o else find first opens) ≡ None → (find first opens ≡ None → find (λ o. first o && also o) opens ≡ None) → (if b && also o then Some o else find (λ o. first o && also o) opens) ≡ None
    at true e tail = cc
    at false e tail = tail e

pub no_client : (p : Place) (w : World) (n : Node) (i : Id) → p.client ≡ None → open_at p w n i ≡ None
no_client p w n i e = find_never _ (λ o. ap (λ (c : Option ℕ). same_id i o.id && (is_client c o.client && same_id n.id o.node)) e ∙ and_false (same_id i o.id)) w.opens

pub no_number : (p : Place) (w : World) (n : Node) (i : Id) → find (λ o. same_id i o.id) w.opens ≡ None → open_at p w n i ≡ None
no_number p w n i e = find_fewer (λ o. same_id i o.id) (λ o. is_client p.client o.client && same_id n.id o.node) w.opens e

same_number : (n : ℕ) → (n == n) ≡ true
same_number n = grind arith

module _ {R : Type 0} (p : Place) (w : World) (n : Node) (id : StateId) (next : Open → Outcome (Answer R)) where
  abbrev in_state : Option Open → Outcome (Answer R)
  in_state found =
      where_there found
      (λ o.
      demand (nat_le id.seqid o.sequence) (refuse p gates.Open NFS4ERR_BAD_STATEID) (
      demand (id.seqid == 0 || id.seqid == o.sequence) (refuse p gates.Open NFS4ERR_OLD_STATEID) (
      next o)))
      (refuse p gates.Open NFS4ERR_BAD_STATEID)

  -- one of another level
  pub other_level : (subject : ℕ) → p.subject ≡ subject → ((handle_named id.other).level == subject) ≡ false → where_open p w n id next ≡ refuse p (gates.Monitor M9) NFS4ERR_BAD_STATEID
  other_level subject same e =
      ap (λ (b : Bool). demand b (refuse p (gates.Monitor M9) NFS4ERR_BAD_STATEID) (in_state (open_at p w n (handle_named id.other))))
      (ap (λ (s : ℕ). (handle_named id.other).level == s) same ∙ e)

  own_level : ((handle_named id.other).level == p.subject) ≡ true → where_open p w n id next ≡ in_state (open_at p w n (handle_named id.other))
  own_level e = ap (λ (b : Bool). demand b (refuse p (gates.Monitor M9) NFS4ERR_BAD_STATEID) (in_state (open_at p w n (handle_named id.other)))) e

  -- one that names no open
  pub no_open : ((handle_named id.other).level == p.subject) ≡ true → open_at p w n (handle_named id.other) ≡ None → where_open p w n id next ≡ refuse p gates.Open NFS4ERR_BAD_STATEID
  no_open e none = own_level e ∙ ap in_state none

  -- what is found
  abbrev pub found_by : Result Open OpenError → Outcome (Answer R)
  found_by (Ok o) = next o
  found_by (Err e) = refuse p (refusal_by e).gate (refusal_by e).status

  by_state : (found : Option Open) → in_state found ≡ found_by (at_sequence id.seqid found)
  by_state None = refl
  by_state (Some o) = at (nat_le id.seqid o.sequence) (id.seqid == 0 || id.seqid == o.sequence)
    where
      at : (a b : Bool) → demand a (refuse p gates.Open NFS4ERR_BAD_STATEID) (demand b (refuse p gates.Open NFS4ERR_OLD_STATEID) (next o)) ≡ found_by (if a then (if b then Ok o else Err Old) else Err Bad)
      at true true = refl
      at true false = refl
      at false b = refl

  by_client : (number : ℕ) → p.client ≡ Some number → ((handle_named id.other).level == p.subject) ≡ true → where_open p w n id next ≡ found_by (found_of w.opens (record { level = p.subject; number = number }) n.id (handle_named id.other) id.seqid)
  by_client number e level =
      own_level level ∙ by_state (open_at p w n (handle_named id.other))
      ∙ ap (λ (c : Option ℕ). found_by (at_sequence id.seqid (find (λ o. same_id (handle_named id.other) o.id && (is_client c o.client && same_id n.id o.node)) w.opens))) e
      ∙ ap (λ (b : Bool). found_by (at_sequence id.seqid (cond b (find (λ o. same_id (handle_named id.other) o.id && (number == o.client && same_id n.id o.node)) w.opens) None))) (sym level)

  pub found : (client : Option ℕ) (opens : List Open) (r : Reference) → Refers p.subject client id r → p.client ≡ client → w.opens ≡ opens → where_open p w n id next ≡ found_by (found_of opens (client_id r.client) n.id (open_id r.id) r.id.seq)
  found client opens r refers same are = by_client r.client.number (same ∙ refers.number) own ∙ renamed
    where
      level : (handle_named id.other).level ≡ p.subject
      level = sym (ap (λ (i : Id). i.level) refers.named) ∙ refers.own

      own : ((handle_named id.other).level == p.subject) ≡ true
      own = ap (λ (l : ℕ). l == p.subject) level ∙ same_number p.subject

      renamed : found_by (found_of w.opens (record { level = p.subject; number = r.client.number }) n.id (handle_named id.other) id.seqid) ≡ found_by (found_of opens (client_id r.client) n.id (open_id r.id) r.id.seq)
      renamed =
          ap (λ (l : List Open). found_by (found_of l (record { level = p.subject; number = r.client.number }) n.id (handle_named id.other) id.seqid)) are
          ∙ ap (λ (l : ℕ). found_by (found_of opens (record { level = l; number = r.client.number }) n.id (handle_named id.other) id.seqid)) (sym refers.level)
          ∙ ap (λ (i : Id). found_by (found_of opens (client_id r.client) n.id i id.seqid)) (sym refers.named)
          ∙ ap (λ (q : ℕ). found_by (found_of opens (client_id r.client) n.id (open_id r.id) q)) (sym refers.sequence)

  -- as the opens answer
  pub told : (client : Option ℕ) (opens : List Open) (r : Reference) (node : Id) (answer : Result Open OpenError) → Refers p.subject client id r → p.client ≡ client → w.opens ≡ opens → node ≡ n.id
      → answer ≡ found_of opens (client_id r.client) node (open_id r.id) r.id.seq → where_open p w n id next ≡ found_by answer
  told client opens r node answer refers same are at is =
      found client opens r refers same are ∙ ap (λ (i : Id). found_by (found_of opens (client_id r.client) i (open_id r.id) r.id.seq)) (sym at) ∙ ap found_by (sym is)
