-- A limited policy: its callers, its site, and its first world.
use Rattle.std.proofs.Common.{◌≡◌, ℕ, Bool, true, false, cond, List, [], ◌∷◌, map, Option, Some, None, Ok, Err, refl, sym, ap, ◌∙◌, subst, inl, inr}
use Rattle.std.specs.Prelude.{◌==◌, Result, nat_le, length}
use Rattle.std.specs.List.{AllByRecursion}
use Rattle.lnfs_xdr.specs.declared.flavors.TheConstants.{AUTH_NONE, AUTH_SYS}
use Rattle.lnfs_rpc.specs.declared.calls.CallError.{CallError}
use Rattle.lnfs_rpc.specs.Calls.{CallMessage, call_of}
use Rattle.lnfs_rpc.specs.Sys.{sys_of}
use Rattle.lnfs_format.specs.LevelRead.{level_read}
use Rattle.lnfs_format.specs.declared.formats.TheConstants.{MAX_SPELLING}
use Rattle.lnfs_policy.specs.Policy.{Policy, dominance}
use Rattle.lnfs_policy.specs.declared.mode.Mode.TheVariants.{Limited}
use Rattle.lnfs_policy.specs.declared.rows.DirLine.{DirLine}
use Rattle.lnfs_world.specs.World.{Id, Client, Session, Context, Stored, Node, Open, World, same_id, node_at, node_order, level_order}
use Rattle.lnfs_world.specs.First.{FirstDir, made_in}
use Rattle.lnfs_world.specs.Change.{apply_all}
use Rattle.lnfs_world.specs.Outcome.{LevelOf, BadLabel}
use Rattle.lnfs_world.proofs.Rows.{all_find, all_updated}
use Rattle.lnfs_world.proofs.Sorted.{all_inserted}
use Rattle.lnfs_world.proofs.FirstTrees.{first_keeps}
use Rattle.lnfs_operations.specs.Carried.{CarriesAlone, AllLow}
use Rattle.lnfs_gss3.specs.declared.numbers.TheConstants.{PROC_NULL}
use Rattle.lnfs_gss3.specs.Mechanism.{Signing}
use Rattle.lnfs_gss3.specs.declared.caller.Caller.{Caller}
use Rattle.lnfs_gss3.specs.declared.caller.Caller.TheVariants.{Null}
use Rattle.lnfs_gss3.specs.Who.{guest_in, guest, guest_of, who}
use Rattle.lnfs_gss3.specs.Who as whose
use Rattle.lnfs_gss3.proofs.Vouching.{lowest_of_all}
use Rattle.lnfs_site.specs.Site.{is_limited, told_by, carried, site_of, first_label, first_dir, first_world}
use Rattle.lnfs_site.proofs.FirstWorlds.{first_bare}
use Rattle.lnfs_step.specs.Level.{level_by, level_of}
use Rattle.lnfs_step.specs.Limited.{IsGuestCall}

-- ---- callers

-- the first of two callers, where it is known to be taken, and the other
first_level : (b : Bool) (x y : Caller) → b ≡ true → whose.level_of x ≡ Some 0 → whose.level_of (cond b x y) ≡ Some 0
first_level b x y is level = ap (λ t. whose.level_of (cond t x y)) is ∙ level

other_level : (b : Bool) (x y : Caller) → b ≡ false → whose.level_of y ≡ Some 0 → whose.level_of (cond b x y) ≡ Some 0
other_level b x y is level = ap (λ t. whose.level_of (cond t x y)) is ∙ level

module _ (m : Signing) (p : Policy) (limited : p.mode ≡ Limited) (class : ℕ) where
  guest_level : (procedure : ℕ) (user : Option ℕ) → (procedure == PROC_NULL) ≡ false → whose.level_of (guest p class procedure user) ≡ Some 0
  guest_level procedure user other = other_level (procedure == PROC_NULL) Null (guest_in p.mode p class user) other (ap (λ mode. whose.level_of (guest_in mode p class user)) limited)

  pub call_level : (call : CallMessage) → IsGuestCall call → whose.level_of (who m p class call) ≡ Some 0
  unfolding who
  call_level call is = elim is.1 [
    | inl none ↦ first_level (call.credential.flavor == AUTH_NONE) (guest p class call.procedure None) _ (ap (λ f. f == AUTH_NONE) none) (guest_level call.procedure None is.0)
    | inr sys ↦
        other_level (call.credential.flavor == AUTH_NONE) (guest p class call.procedure None) _ (ap (λ f. f == AUTH_NONE) sys.0) (
        first_level (call.credential.flavor == AUTH_SYS) (guest_of p class call.procedure (sys_of call.credential.body)) _ (ap (λ f. f == AUTH_SYS) sys.0) (
        ap (λ r. whose.level_of (guest_of p class call.procedure r)) sys.1.1 ∙ guest_level call.procedure (Some sys.1.0.uid) is.0))
  ]

  pub guest_calls : (bytes : List ℕ) (call : CallMessage) → call_of bytes ≡ Ok call → IsGuestCall call → level_of m p class bytes ≡ Some 0
  guest_calls bytes call read is = ap (level_by m p class) read ∙ call_level call is

  lowest_by : (r : Result CallMessage CallError) (level : ℕ) → level_by m p class r ≡ Some level → level ≡ 0
  lowest_by (Err e) level is = absurd cc
  lowest_by (Ok call) level is = lowest_of_all p class level m call limited is

  pub lowest : (bytes : List ℕ) (level : ℕ) → level_of m p class bytes ≡ Some level → level ≡ 0
  lowest bytes level is = lowest_by (call_of bytes) level is

-- ---- the site

module _ (p : Policy) (limited : p.mode ≡ Limited) where
  is_limited_here : is_limited p.mode ≡ true
  is_limited_here = ap is_limited limited

  carried_low : (given : Stored) (level : ℕ) (short : Bool) → cond short (LevelOf 0) BadLabel ≡ LevelOf level → level ≡ 0
  carried_low given level true is = cc
  carried_low given level false is = absurd cc

  pub carries_alone : CarriesAlone (site_of p)
  carries_alone = record {
    limited = is_limited_here;
    level = λ given level is.
        carried_low given level (nat_le (length given.bytes) MAX_SPELLING)
        (sym (ap (λ b. cond b (carried given) (told_by (level_read p.formats p.labels given.lfs given.pi given.bytes))) is_limited_here) ∙ is);
  }

  -- ---- the first world

  abbrev IsLowNode : Node → Type 0
  IsLowNode n = (n.id.level ≡ 0) × (n.label ≡ 0)

  abbrev NodesLow : World → Type 0
  NodesLow w = AllByRecursion IsLowNode w.nodes × AllByRecursion (λ i. i.level ≡ 0) w.lasts.nodes

  made_low : (w : World) (dir : FirstDir) (name : List ℕ) (n : Node) → dir.level ≡ 0 → node_at w.nodes n.id ≡ Some n → NodesLow w → NodesLow (apply_all (made_in w dir name n) w)
  made_low w dir name n level there low =
      let own = (all_find IsLowNode (λ m. same_id n.id m.id) w.nodes n low.0 there).0.1 in (
        all_inserted node_order IsLowNode _ _ (own, level) (all_updated IsLowNode _ _ w.nodes (λ x is low. low) low.0),
        all_inserted level_order (λ i. i.level ≡ 0) _ _ own low.1,
      )

  dirs_low : (lines : List DirLine) → AllByRecursion (λ (dir : FirstDir). dir.level ≡ 0) (map (first_dir p) lines)
  dirs_low [] = tt
  dirs_low (line ∷ lines) = (ap (λ b. cond b 0 line.level.0) is_limited_here, dirs_low lines)

  first_nodes : NodesLow (first_world p)
  unfolding first_world
  first_nodes = first_keeps (dominance p) (λ dir. dir.level ≡ 0) NodesLow (λ w dir name n level there within low. made_low w dir name n level there low)
      (first_label p 0) (map (first_dir p) p.dirs) (dirs_low p.dirs) (((refl, refl), tt), (refl, tt))

  pub first_low : AllLow (first_world p)
  first_low = let bare = first_bare p in record {
    clients = subst (AllByRecursion (λ (c : Client). c.id.level ≡ 0)) (sym bare.clients) tt;
    sessions = subst (AllByRecursion (λ (x : Session). x.id.level ≡ 0)) (sym bare.sessions) tt;
    contexts = subst (AllByRecursion (λ (x : Context). x.id.level ≡ 0)) (sym bare.contexts) tt;
    nodes = first_nodes.0;
    opens = subst (AllByRecursion (λ (o : Open). o.id.level ≡ 0)) (sym bare.opens) tt;
    lasts = record {
      clients = subst (AllByRecursion (λ (i : Id). i.level ≡ 0)) (sym bare.last_clients) tt;
      sessions = subst (AllByRecursion (λ (i : Id). i.level ≡ 0)) (sym bare.last_sessions) tt;
      contexts = subst (AllByRecursion (λ (i : Id). i.level ≡ 0)) (sym bare.last_contexts) tt;
      nodes = first_nodes.1;
      opens = subst (AllByRecursion (λ (i : Id). i.level ≡ 0)) (sym bare.last_opens) tt;
    };
  }
