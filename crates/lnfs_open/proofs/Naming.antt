-- The open that an identifier, a client and a node name.
use Rattle.std.proofs.Common.{◌≡◌, Bool, true, false, cond, ◌&&◌, List, Option, Some, None, refl, sym, ap, ◌∙◌, arith}
use Rattle.std.specs.Prelude.{◌==◌}
use Rattle.std.proofs.lemmas.Bool.Decides.{nat_tests}
use Rattle.lnfs_world.specs.Rows.{Rising}
use Rattle.lnfs_world.specs.World.{Id, Open, open_order, same_id}
use Rattle.lnfs_world.proofs.Rows.{all_anyway}
use Rattle.lnfs_counts.proofs.Rows.{found_id, passing, one_passes}
use Rattle.lnfs_open.specs.declared.keys.OpenRow.{OpenRow}
use Rattle.lnfs_open.specs.Lists.{Lists}
use Rattle.lnfs_open.specs.Listed.{client_id, node_id, row_of}
use Rattle.lnfs_open.specs.Opening.{open_named}
use Rattle.lnfs_open.specs.Indexed.{own_id, open_at}
use Rattle.lnfs_open.proofs.Indexing.{client_of}

-- one of them that is of a client and a node
abbrev pub chosen : (client node : Id) → Option Open → Option Open
chosen client node None = None
chosen client node (Some o) = cond (same_id client (client_of o) && same_id node o.node) (Some o) None

both : (a b : Bool) (o : Open) → cond a (cond b (Some o) None) None ≡ cond (a && b) (Some o) None
both true b o = refl
both false b o = refl

none : (a : Bool) → cond {A = Option Open} a None None ≡ None
none true = refl
none false = refl

named : (opens : List Open) (client node i : Id) → Rising open_order opens → open_named opens client node i ≡ chosen client node (open_at opens i)
named opens client node i rise =
    ap (λ x. cond (i.level == client.level) x None) (one_passes own_id (λ o. same_id i o.id && (client.number == o.client && same_id node o.node)) i opens rise (all_anyway _ (λ o is. grind (arith, is)) opens))
    ∙ by (open_at opens i) refl
  where
    by : (x : Option Open) → open_at opens i ≡ x → cond (i.level == client.level) (passing (λ o. same_id i o.id && (client.number == o.client && same_id node o.node)) x) None ≡ chosen client node x
    by None at = none (i.level == client.level)
    by (Some o) at =
        let own : same_id i o.id ≡ true = found_id own_id opens i o at in
        let test : (i.level == client.level && (same_id i o.id && (client.number == o.client && same_id node o.node))) ≡ (same_id client (client_of o) && same_id node o.node) = grind (arith, nat_tests, own) in
        both (i.level == client.level) (same_id i o.id && (client.number == o.client && same_id node o.node)) o ∙ ap (λ b. cond b (Some o) None) test

-- a row that is of them or not
pub chosen_row : (client node i : Id) (r : OpenRow) (b : Bool) → r.client.level.0 ≡ i.level → (same_id client (client_id r.client) && same_id node (node_id r.node)) ≡ b
    → cond b (Some (row_of i r)) None ≡ chosen client node (Some (row_of i r))
chosen_row client node i r b level is =
    let own : client_id r.client ≡ client_of (row_of i r) = λ t. record { level = level t; number = r.client.number } in
    ap (λ (x : Bool). cond x (Some (row_of i r)) None) (sym is ∙ ap (λ (c : Id). same_id client c && same_id node (node_id r.node)) own)

pub told_named : (s v : Lists) (client node i : Id) (told : Option Open) → s ≡ v → Rising open_order s.opens → told ≡ chosen client node (open_at s.opens i) → told ≡ open_named v.opens client node i
told_named s v client node i told view rise is = is ∙ sym (named s.opens client node i rise) ∙ ap (λ (k : Lists). open_named k.opens client node i) view
