-- A request that changes something verifies, in the same COMPOUND, a label that tells the client's own level.
use Rattle.std.proofs.Common.{◌≡◌, ℕ, Bool, true, false, ◌||◌, List, [], ◌∷◌, ◌++◌, map, refl, ap, ◌∙◌, subst}
use Rattle.std.specs.Prelude.{unwrap_or}
use Rattle.std.specs.List.{list_any}
use Rattle.lnfs_policy.specs.Policy.{Policy}
use Rattle.lnfs_arguments.specs.declared.types.Op.{Op}
use Rattle.lnfs_arguments.specs.declared.types.Op.TheVariants as ops
use Rattle.lnfs_script.specs.declared.action.Action.{Action}
use Rattle.lnfs_script.specs.declared.action.Action.TheVariants as actions
use Rattle.lnfs_asking.specs.Labels.{unspelled, as_attributes}
use Rattle.lnfs_asking.specs.declared.plan.Plan.TheVariants.{Ask}
use Rattle.lnfs_client.specs.declared.stage.Stage.{Stage}
use Rattle.lnfs_client.specs.declared.stage.Stage.TheVariants.{Asserting, Exchanging, Creating, Reclaiming, Asking, Changing, Closing, EndingSession, EndingClient, EndingContext}
use Rattle.lnfs_client.specs.declared.known.Known.{Known}
use Rattle.lnfs_client.specs.declared.known.Running.{Running}
use Rattle.lnfs_client.specs.Requests.{in_session, walk, walked, is_on_parent, names_of, to_target, asking, change, ops_of, plan_in}
use Rattle.lnfs_client.specs.Promises.{is_change, IsReady, IfChanging, ReadyIn, IsGuarded, ChangesAreGuarded}

-- ---- what is no change

any-append : (xs ys : List Op) → list_any is_change xs ≡ false → list_any is_change (xs ++ ys) ≡ list_any is_change ys
any-append [] ys e = refl
any-append (x ∷ xs) ys e = by (is_change x) refl e (any-append xs ys)
  where
    by : (b : Bool) → is_change x ≡ b → (b || list_any is_change xs) ≡ false → (list_any is_change xs ≡ false → list_any is_change (xs ++ ys) ≡ list_any is_change ys) → (b || list_any is_change (xs ++ ys)) ≡ list_any is_change ys
    by true h e more = absurd cc
    by false h e more = more e

looks : (names : List (List ℕ)) → list_any is_change (map ops.Lookup names) ≡ false
looks [] = refl
looks (name ∷ names) = looks names

walks : (names : List (List ℕ)) (behind : List Op) → list_any is_change (walk names ++ behind) ≡ list_any is_change behind
walks names behind = any-append (map ops.Lookup names) behind (looks names)

asks : (action : Action) (cookie : ℕ) → list_any is_change (asking action cookie) ≡ false
asks (actions.List path) cookie = refl
asks (actions.Read path offset count) cookie = refl
asks action cookie = refl

-- ---- the table

same_ops : (xs ys : List Op) → Ask xs ≡ Ask ys → ys ≡ xs
same_ops xs ys e = cc

-- operations of which none is a change
none : {claim : Type 0} (xs asked : List Op) → Ask xs ≡ Ask asked → list_any is_change asked ≡ true → list_any is_change xs ≡ false → claim
none xs asked e any quiet = absurd (let f : asked ≡ xs = cc in let g : list_any is_change xs ≡ true = subst (λ (l : List Op). list_any is_change l ≡ true) f any in cc)

guarded_at : (p : Policy) (k : Known) (r : Running) (stage : Stage) (asked : List Op) → IfChanging stage (IsReady p k.level r) → plan_in p k r stage ≡ Ask asked → list_any is_change asked ≡ true → IsGuarded p k r asked
unfolding ops_of
guarded_at p k r Asserting asked ready e any = absurd cc
guarded_at p k r Exchanging asked ready e any = none (ops_of p k r Exchanging) asked e any refl
guarded_at p k r Creating asked ready e any = none (ops_of p k r Creating) asked e any refl
guarded_at p k r Reclaiming asked ready e any = none (ops_of p k r Reclaiming) asked e any refl
guarded_at p k r Asking asked ready e any = none (ops_of p k r Asking) asked e any (walks (walked (is_on_parent r.action) (names_of r.action)) (asking r.action r.cookie) ∙ asks r.action r.cookie)
guarded_at p k r Changing asked ready e any =
    let verified : ops.Verify (as_attributes (unwrap_or r.label unspelled)) ≡ ops.Verify (as_attributes ready.0) = rw ready.1 refl in
    record {
      label = ready.0;
      tells = ready.2;
      shape = same_ops (ops_of p k r Changing) asked e ∙ ap (λ (op : Op). in_session k ∷ to_target r.action ++ op ∷ change p k r.action) verified;
    }
guarded_at p k r Closing asked ready e any = none (ops_of p k r Closing) asked e any (walks (names_of r.action) (ops.Close 0 r.opened ∷ []))
guarded_at p k r EndingSession asked ready e any = none (ops_of p k r EndingSession) asked e any refl
guarded_at p k r EndingClient asked ready e any = none (ops_of p k r EndingClient) asked e any refl
guarded_at p k r EndingContext asked ready e any = absurd cc

pub changes_guarded : (p : Policy) (k : Known) → ReadyIn p k.level k.running → ChangesAreGuarded p k
changes_guarded p k ready = λ r asked is e any. guarded_at p k r r.stage asked (subst (ReadyIn p k.level) is ready) e any
