-- What the vault keeps is the state after its journal.
use Rattle.std.proofs.Common.{◌≡◌, ℕ, List, [], ◌++◌, false, refl, map, sym, ap, ◌∙◌, subst, append-nil, true≢false}
use Rattle.std.specs.Prelude.{Option, Some, None, option_map}
use Rattle.std.specs.Option.{is_some, option_to_list}
use Rattle.lnfs_types.specs.declared.event.Event.{Event}
use Rattle.lnfs_policy.specs.Policy.{Policy, dominance}
use Rattle.std.specs.List.{AllByRecursion}
use Rattle.lnfs_world.specs.World.{World}
use Rattle.lnfs_world.specs.Usage.{bytes_of}
use Rattle.lnfs_world.specs.Both.{Both, both}
use Rattle.lnfs_operations.specs.Extra.{Extra}
use Rattle.lnfs_gss3.specs.Mechanism.{Signing}
use Rattle.lnfs_site.specs.Site.{first_label, first_dir, first_world}
use Rattle.lnfs_step.specs.Journal.{first_state, state_after, state_from}
use Rattle.lnfs_world.proofs.FirstTrees.{IsBare, first_empty}
use Rattle.lnfs_site.proofs.FirstWorlds.{first_bare}
use Rattle.lnfs_step.specs.Step.{Line}
use Rattle.lnfs_tree.specs.Rows.{Rows, rows_of}
use Rattle.lnfs_engine.specs.Stores.{only_tree}
use Rattle.lnfs_vault.specs.Lines.{IsLineOf}
use Rattle.lnfs_vault.specs.declared.audit.AuditLine.{AuditLine}

-- a world with nothing but nodes and entries
bare_stands : (w : World) → IsBare w → only_tree (rows_of w) ≡ w
bare_stands w bare = sym (λ i. record w { clients = bare.clients i; sessions = bare.sessions i; contexts = bare.contexts i; opens = bare.opens i; lasts = record w.lasts { clients = bare.last_clients i; sessions = bare.last_sessions i; contexts = bare.last_contexts i; opens = bare.last_opens i } })

-- the state before all events
pub begins_as : (X : Extra) (p : Policy) (rows : Rows) (own : List X.Row) → rows ≡ rows_of (first_world p) → own ≡ [] → both (only_tree rows) own ≡ first_state X p
begins_as X p rows own is none = (λ i. both (only_tree (is i)) (none i)) ∙ ap (λ w. both w []) (bare_stands (first_world p) (first_bare p))

pub begins : (X : Extra) (m : Signing) (p : Policy) (rows : Rows) (own : List X.Row) → rows ≡ rows_of (first_world p) → own ≡ [] → both (only_tree rows) own ≡ state_after X m p []
unfolding state_from
begins X m p rows own is none = begins_as X p rows own is none

-- no node has bytes then
pub no_bytes : (p : Policy) (rows : Rows) → rows ≡ rows_of (first_world p) → AllByRecursion (λ n. bytes_of n n.kind ≡ 0) rows.nodes
unfolding first_world
no_bytes p rows is = subst (λ (r : Rows). AllByRecursion (λ n. bytes_of n n.kind ≡ 0) r.nodes) (sym is) (first_empty (dominance p) (first_label p 0) (map (first_dir p) p.dirs))

none_of : {A : Type 0} (o : Option A) → is_some o ≡ false → o ≡ None
none_of None e = refl
none_of (Some x) e = absurd (true≢false e)

-- what stands is the state after a journal, where nothing is pending
pub quiet : {A : Type 0} (X : Extra) (m : Signing) (p : Policy) (b : Both X.Row) (journal : List Event) (event_of : A → Event) (pending : Option A) → is_some pending ≡ false
    → b ≡ state_after X m p (journal ++ option_to_list (option_map event_of pending)) → b ≡ state_after X m p journal
quiet {A} X m p b journal event_of pending e was =
    was ∙ ap (λ (o : Option A). state_after X m p (journal ++ option_to_list (option_map event_of o))) (none_of pending e) ∙ ap (λ (es : List Event). state_after X m p es) (append-nil journal)

-- a line by the number and the text that it has
pub is_line : (n k : ℕ) (line same : Option Line) (said : Option AuditLine) → n ≡ k → line ≡ same → IsLineOf n line said → IsLineOf k same said
is_line n k line same said num is h = subst (λ (x : ℕ × Option Line). IsLineOf x.0 x.1 said) (λ i. (num i, is i)) h
