-- Opens that give way are of the subject's level, and so of a layer.
use Rattle.std.proofs.Common.{◌≡◌, Bool, true, false, not, ◌&&◌, List, [], ◌∷◌, Some, refl, sym, ap, arith}
use Rattle.std.specs.Prelude.{◌==◌, ◌||◌, ℕ, filter}
use Rattle.std.specs.List.{list_any}
use Rattle.std.proofs.lemmas.Bool.{false≢true}
use Rattle.std.proofs.lemmas.Bool.Decides.{nat_tests}
use Rattle.lnfs_world.specs.World.{Id, Open, same_id}
use Rattle.lnfs_world.specs.Opens.{is_own, clashes, client_of}
use Rattle.lnfs_world.proofs.Keys.{id_same}
use Rattle.lnfs_open.specs.declared.revoking.Asked.{Asked}
use Rattle.lnfs_open.specs.Listed.{client_id}
use Rattle.lnfs_open.specs.Tallies.{in_layer}
use Rattle.lnfs_open.specs.Stopping.{yields_to}

within : (node other : Id) (level subject : ℕ) (b : Bool) → ((same_id other node && level == subject) && (same_id node other && (level == subject && b))) ≡ (same_id node other && (level == subject && b))
within node other level subject b = grind (arith, nat_tests)

pub in_whole : (s : Asked) (node : Id) (over : Id → Bool) (opens : List Open) → list_any (λ o. in_layer node s.subject.0 o && yields_to s node over o) opens ≡ list_any (yields_to s node over) opens
in_whole s node over [] = refl
in_whole s node over (o ∷ opens) =
    let rest = not (is_own (Some (client_id s.client, s.owner.now)) o.node o) && (clashes s.access s.deny o && over (client_of o)) in
    λ i. within node o.node o.id.level s.subject.0 rest i || in_whole s node over opens i

-- a filter of a node's opens that reads the node from the open
pub left_by_node : (node : Id) (t : Id → Open → Bool) (opens : List Open) → filter (λ o. not (same_id node o.node && t o.node o)) opens ≡ filter (λ o. not (same_id node o.node && t node o)) opens
left_by_node node t opens = λ i. filter (λ o. not (here o i)) opens
  where
    at : (o : Open) (b : Bool) → same_id node o.node ≡ b → (b && t o.node o) ≡ (b && t node o)
    at o true is = ap (λ n. t n o) (sym (id_same node o.node is))
    at o false is = refl

    here : (o : Open) → (same_id node o.node && t o.node o) ≡ (same_id node o.node && t node o)
    here o = at o (same_id node o.node) refl

-- five tests, of which all but the last passed, or one didn't
pub passes_last : (a b c d e : Bool) → ((a && b) && (c && d)) ≡ true → e ≡ (a && (b && (c && (d && e))))
passes_last true true true true e is = refl
passes_last false b c d e is = absurd (false≢true is)
passes_last true false c d e is = absurd (false≢true is)
passes_last true true false d e is = absurd (false≢true is)
passes_last true true true false e is = absurd (false≢true is)

pub fails_first : (a b c d e : Bool) → ((a && b) && (c && d)) ≡ false → false ≡ (a && (b && (c && (d && e))))
fails_first true true true true e is = absurd (false≢true (sym is))
fails_first false b c d e is = refl
fails_first true false c d e is = refl
fails_first true true false d e is = refl
fails_first true true true false e is = refl

-- an open of one's own doesn't stand in the way, and another's does where it clashes
pub own_stops : (a b c : Bool) → b ≡ true → false ≡ (a && (not b && c))
own_stops true true c is = refl
own_stops true false c is = absurd (false≢true is)
own_stops false b c is = refl

pub other_clashes : (a b c : Bool) → a ≡ true → b ≡ false → c ≡ (a && (not b && c))
other_clashes true true c there is = absurd (false≢true (sym is))
other_clashes true false c there is = refl
other_clashes false b c there is = absurd (false≢true there)
