-- What is built of a result that is within the limits of the server has a length that a word spells, and at least that of a head.
use Rattle.std.proofs.Common.{◌≡◌, true, ◌≤◌, ◌<◌, ℕ, List, [], ◌++◌, length, ap, ◌∙◌, append_assoc, arith}
use Rattle.std.specs.Prelude.{◌^◌}
use Rattle.std.proofs.lemmas.List.{length-append}
use Rattle.lnfs_calipso.specs.Label.{IsPreorderWithBottom}
use Rattle.lnfs_types.specs.declared.event.Moment.{Moment}
use Rattle.lnfs_arguments.specs.declared.types.Compound.{Compound}
use Rattle.lnfs_policy.specs.Policy.{Policy, dominance}
use Rattle.lnfs_world.specs.Outcome.{begins_at}
use Rattle.lnfs_world.specs.Both.{Both, BothStand}
use Rattle.lnfs_site.specs.Site.{site_of}
use Rattle.lnfs_operations.specs.Extra.{Extra, AreLawful}
use Rattle.lnfs_operations.specs.Sequence.{Sent}
use Rattle.lnfs_operations.specs.SlotRule.{served}
use Rattle.lnfs_operations.specs.Sizes.{IsRead, is_level}
use Rattle.lnfs_operations.specs.Bounds.{Bounds}
use Rattle.lnfs_operations.proofs.SizeLaws.{served_short}
use Rattle.lnfs_xdr.specs.Canon.{word, padded, opaque}
use Rattle.lnfs_rpc.specs.Numbers.{head_length}
use Rattle.lnfs_rpc.specs.Formats.{head_room}
use Rattle.lnfs_rpc.specs.Replies.{accepted, reply_text, head_text}
use Rattle.lnfs_rpc.proofs.Rooms.{has_room}
use Rattle.lnfs_xdr.proofs.Sizes.{length-word}
use Rattle.lnfs_step.proofs.FirstSizes.{labels_fit}
use Rattle.lnfs_step.specs.declared.numbers.TheConstants.{SUCCESS}
use Rattle.lnfs_vault.specs.Seals.{Seal, Bare, Signed, verifier_by, results_begun}

-- what was begun, with results behind it
pub has_begun : (seal : Seal) (xid : ℕ) (built results : List ℕ) → built ≡ results_begun seal xid ++ results → head_length ≤ length built
has_begun Bare xid built results is =
    let head = reply_text xid (accepted (verifier_by Bare) SUCCESS) [] in
    has_room built (head ++ results) (is ∙ append_assoc head_room head results)
has_begun (Signed parent mic sequence) xid built results is = omega (arith, ap length is, length-append (word sequence) results, length-word sequence)

head_few : (xid : ℕ) → length (reply_text xid (accepted (verifier_by Bare) SUCCESS) []) ≤ 100
unfolding reply_text head_text opaque padded
head_few xid = simp (length-append, length-word) (omega arith)

begun_few : (seal : Seal) (xid : ℕ) → length (results_begun seal xid) ≤ 104
begun_few Bare xid = omega (arith, length-append head_room (reply_text xid (accepted (verifier_by Bare) SUCCESS) []), length-word 0, head_few xid)
begun_few (Signed parent mic sequence) xid = omega (arith, length-word sequence)

pub fits : (seal : Seal) (xid : ℕ) (built results : List ℕ) → length results ≤ 65536 → built ≡ results_begun seal xid ++ results → length built < 2 ^ 32
fits seal xid built results short is = omega (arith, short, ap length is, length-append (results_begun seal xid) results, begun_few seal xid)

pub body_fits : (X : Extra) → AreLawful X → (seal : Seal) (xid : ℕ) (built : List ℕ) (p : Policy) → IsPreorderWithBottom (dominance p) → (sent : Sent) (c : Compound) (level : ℕ) (moment : Moment) (b : Both X.Row) →
    BothStand X.Fact (dominance p) (begins_at level moment) b → is_level (site_of p) level ≡ true → Bounds (site_of p) b.world → IsRead c →
    built ≡ results_begun seal xid ++ (served X (site_of p) sent c (begins_at level moment) b).answer.result → length built < 2 ^ 32
body_fits X owed seal xid built p lattice sent c level moment b stands known bounds read is =
    let result = (served X (site_of p) sent c (begins_at level moment) b).answer.result in
    fits seal xid built result (omega (arith, served_short X owed (site_of p) lattice (labels_fit p) sent c level moment b stands known bounds read)) is
