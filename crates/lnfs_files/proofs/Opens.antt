-- An open that is added or joined, as OPEN does it.
use Rattle.std.proofs.Common.{◌≡◌, refl, ap, sym, subst, ◌∙◌, ℕ, Bool, true, false, cond, List, [], ◌∷◌, ◌++◌, Option, Some, None, Result, Ok, Err}
use Rattle.std.specs.Prelude.{◌==◌, ◌&&◌, if◌then◌else◌}
use Rattle.lnfs_arguments.specs.declared.stateid.StateId.{StateId}
use Rattle.lnfs_arguments.specs.declared.stateid.Cinfo.{Cinfo}
use Rattle.lnfs_arguments.specs.declared.statuses.TheConstants.{NFS4ERR_NOSPC}
use Rattle.lnfs_attrs.specs.declared.bitmap.Bitmap.{Bitmap}
use Rattle.lnfs_attrs.specs.declared.numbers.TheConstants.{SIZE}
use Rattle.lnfs_world.specs.World.{Id, Node, Open, World}
use Rattle.lnfs_world.specs.Change.{Change, Touch, AddOpen, SetOpen, apply, apply_all}
use Rattle.lnfs_world.specs.Leases.{over_at}
use Rattle.lnfs_world.specs.Effects.{data_changed}
use Rattle.lnfs_world.specs.Outcome.{Place, Outcome}
use Rattle.lnfs_operations.specs.declared.Gate.TheVariants.{Quota}
use Rattle.lnfs_operations.specs.Chain.{Answer, Done, refuse, demand}
use Rattle.lnfs_operations.specs.Shown.{bitmap_of}
use Rattle.lnfs_operations.specs.StateIds.{state_of}
use Rattle.lnfs_operations.specs.Open as operation
use Rattle.lnfs_operations.specs.Open.{Arguments, Wanted, access_of, own_open, opened, opened_with, passed_over, cut}
use Rattle.lnfs_tree.specs.Rows.{Rows, id_of}
use Rattle.lnfs_tree.specs.Changed.{ran}
use Rattle.lnfs_open.specs.Lists.{Lists}
use Rattle.lnfs_open.specs.Lists as lists
use Rattle.lnfs_open.specs.Opening as opening
use Rattle.lnfs_world.specs.Opens.{joined, ended}
use Rattle.lnfs_open.specs.Opening.{Wish, Opened, Does, Names, opened_by, opened_of, new_open, has_open_left}
use Rattle.lnfs_open.specs.declared.keys.OpenRef.{OpenRef}
use Rattle.lnfs_open.specs.declared.keys.OpenError.{OpenError}
use Rattle.lnfs_open.specs.declared.keys.OpenError.TheVariants.{Full, Bad, Old, Memory}
use Rattle.lnfs_files.specs.Worlds.{with_files}
use Rattle.lnfs_files.specs.Acts.{Succeeds}
use Rattle.lnfs_files.specs.declared.opened.Opened as code_opened
use Rattle.lnfs_files.specs.Openings as files
use Rattle.lnfs_files.specs.Passing.{without, Passes}
use Rattle.lnfs_files.proofs.Passing.{ended_alone}

-- ---- what is asked of the opens

abbrev pub wished : (level number : ℕ) (args : Arguments) (node : Id) (access : ℕ) → Wish
wished level number args node access = record { client = record { level = level; number = number }; owner = args.owner; node = node; access = access; deny = args.deny }

-- a wish is the same under the level and the node that the code has
pub wished_so : (P : Wish → Type 0) (level level' number : ℕ) (args : Arguments) (node node' : Id) → level ≡ level' → node ≡ node'
    → P (wished level number args node (access_of args)) → P (wished level' number args node' (access_of args))
wished_so P level level' number args node node' a b =
    subst P (ap (λ (x : ℕ). wished x number args node (access_of args)) a ∙ ap (λ (x : Id). wished level' number args x (access_of args)) b)

-- one that is new
abbrev pub added : Lists → Wish → Opened
added s wish = record { row = new_open s wish; change = AddOpen (new_open s wish) }

-- ---- what the opens tell

-- an open that was answered: which, and by which change
pub record Answered (s v : Lists) (told : Result Opened OpenError) (id : OpenRef) : Type 0 where
  pub opened : Opened
  pub is : told ≡ Ok opened
  pub names : Names id opened.row
  pub after : v ≡ lists.ran opened.change s

pub answered : (s v : Lists) (told : Result Opened OpenError) (id : OpenRef) → Does told s v (Ok id) → Answered s v told id
answered s v (Ok opened) id does = record { opened = opened; is = refl; names = does.0; after = does.1 }
answered s v (Err why) id does = absurd does

-- an error but for want of memory
pub refused_so : (s v : Lists) (told : Result Opened OpenError) (e : OpenError) → (e ≡ Memory → ⊥) → Does told s v (Err e) → (told ≡ Err e) × (v ≡ s)
refused_so s v (Ok opened) Full calm does = absurd does
refused_so s v (Ok opened) Bad calm does = absurd does
refused_so s v (Ok opened) Old calm does = absurd does
refused_so s v (Ok opened) Memory calm does = absurd (calm refl)
refused_so s v (Err why) e calm does = (ap (λ (e : OpenError). let r : Result Opened OpenError = Err e in r) (sym does.0), does.1)

module _ (s v : Lists) (wish : Wish) (e : OpenError) (not_memory : e ≡ Memory → ⊥) (does : Does (opened_of s wish) s v (Err e)) where
  -- no other error is told
  pub only_full : (e ≡ Full → ⊥) → ⊥
  only_full not_full = at (opening.own_open s wish) (refused_so s v (opened_of s wish) e not_memory does).0
    where
      by : (b : Bool) → (if b then Ok (added s wish) else Err Full) ≡ Err e → ⊥
      by true is = cc
      by false is = not_full cc

      at : (x : Option Open) → opened_by s wish x ≡ Err e → ⊥
      at (Some x) is = cc
      at None is = by (has_open_left s wish.client.level) is

  -- nor that one where there is room
  pub only_memory : has_open_left s wish.client.level ≡ true → ⊥
  only_memory room = at (opening.own_open s wish) (refused_so s v (opened_of s wish) e not_memory does).0
    where
      by : (b : Bool) → b ≡ true → (if b then Ok (added s wish) else Err Full) ≡ Err e → ⊥
      by true left is = cc
      by false left is = cc

      at : (x : Option Open) → opened_by s wish x ≡ Err e → ⊥
      at (Some x) is = cc
      at None is = by (has_open_left s wish.client.level) room is

-- ---- the definition

-- a change of the opens alone
pub record IsOfOpens (change : Change) : Type 0 where
  pub step : (rest : World) (t : Rows) (s : Lists) → apply change (with_files rest t s) ≡ with_files rest t (lists.ran change s)

adds : (o : Open) → IsOfOpens (AddOpen o)
adds o = record { step = λ rest t s. refl }

sets : (o : Open) → IsOfOpens (SetOpen o)
sets o = record { step = λ rest t s. refl }

module _ (args : Arguments) (p : Place) (rest : World) (t : Rows) (s : Lists) (client : ℕ) (n : Node) where
  abbrev w : World
  w = with_files rest t s

  -- what the client and the owner want
  abbrev pub wish : Wish
  wish = wished p.subject client args n.id (access_of args)

  abbrev pub new : Opened
  new = added s wish

  abbrev pub with_own : Wanted → Cinfo → Outcome (Answer operation.Opened)
  with_own wanted info = opened args p w client wanted info n (own_open args p w client n.id)

  -- the changes that open one, and end those that give way
  abbrev gone : List Open
  gone = passed_over args p w client n

  abbrev changes : Change → List Change
  changes change = change ∷ ended gone

  pub is_opened : (wanted : Wanted) (info : Cinfo) (o : Opened) → opened_of s wish ≡ Ok o → (with_own wanted info ≡ opened_with p wanted n info o.row (changes o.change)) × IsOfOpens o.change
  is_opened wanted info o e = at (own_open args p w client n.id) e
    where
      same : (a : Opened) → (let r : Result Opened OpenError = Ok a in r) ≡ Ok o → IsOfOpens a.change → (opened_with p wanted n info a.row (changes a.change) ≡ opened_with p wanted n info o.row (changes o.change)) × IsOfOpens o.change
      same a e of =
          let is : a ≡ o = cc in
          (ap (λ (x : Opened). opened_with p wanted n info x.row (changes x.change)) is, subst (λ (x : Opened). IsOfOpens x.change) is of)

      by : (b : Bool) → (if b then Ok new else Err Full) ≡ Ok o → (demand b (refuse p Quota NFS4ERR_NOSPC) (opened_with p wanted n info new.row (changes new.change)) ≡ opened_with p wanted n info o.row (changes o.change)) × IsOfOpens o.change
      by true e = same new e (adds new.row)
      by false e = cc

      at : (x : Option Open) → opened_by s wish x ≡ Ok o → (opened args p w client wanted info n x ≡ opened_with p wanted n info o.row (changes o.change)) × IsOfOpens o.change
      at (Some x) e = same (record { row = joined wish.access wish.deny x; change = SetOpen (joined wish.access wish.deny x) }) e (sets (joined wish.access wish.deny x))
      at None e = by (has_open_left s p.subject) e

  -- no other error is told
  pub is_full : (wanted : Wanted) (info : Cinfo) (e : OpenError) → opened_of s wish ≡ Err e → (e ≡ Full) × (with_own wanted info ≡ refuse p Quota NFS4ERR_NOSPC)
  is_full wanted info error e = at (own_open args p w client n.id) e
    where
      by : (b : Bool) → (if b then Ok new else Err Full) ≡ Err error → (error ≡ Full) × (demand b (refuse p Quota NFS4ERR_NOSPC) (opened_with p wanted n info new.row (changes new.change)) ≡ refuse p Quota NFS4ERR_NOSPC)
      by true e = cc
      by false e = (cc, refl)

      at : (x : Option Open) → opened_by s wish x ≡ Err error → (error ≡ Full) × (opened args p w client wanted info n x ≡ refuse p Quota NFS4ERR_NOSPC)
      at (Some x) e = cc
      at None e = by (has_open_left s p.subject) e

  -- ---- a file that was opened, and cut where a size is given

  abbrev pub after_cut : Wanted → Rows
  after_cut wanted = cond wanted.sized (ran (Touch n.id (data_changed p.moment [] n.inner) ∷ []) t) t

  cut_so : (wanted : Wanted) (change : Change) → IsOfOpens change → apply_all (cut p wanted n ++ changes change) w ≡ with_files rest (after_cut wanted) (without gone (lists.ran change s))
  cut_so wanted change of = by wanted.sized
    where
      over : (u : Rows) → apply_all (changes change) (with_files rest u s) ≡ with_files rest u (without gone (lists.ran change s))
      over u = ap (λ (x : World). apply_all (ended gone) x) (of.step rest u s) ∙ ended_alone gone rest u (lists.ran change s)

      by : (b : Bool) → apply_all (cond b (Touch n.id (data_changed p.moment [] n.inner) ∷ []) [] ++ changes change) w ≡ with_files rest (cond b (ran (Touch n.id (data_changed p.moment [] n.inner) ∷ []) t) t) (without gone (lists.ran change s))
      by true = over (ran (Touch n.id (data_changed p.moment [] n.inner) ∷ []) t)
      by false = over t

  pub succeeds : (u : Rows) (v : Lists) (wanted : Wanted) (info : Cinfo) (id : OpenRef) (r : code_opened.Opened) (o : Outcome (Answer operation.Opened))
      → o ≡ with_own wanted info → Passes wish (over_at rest.clients p.moment) s v id → u ≡ after_cut wanted
      → ((x : Open) → Names id x → r.id ≡ state_of x) → id_of r.node ≡ n.id → r.info ≡ info → r.set ≡ bitmap_of (λ attr. wanted.sized && attr == SIZE)
      → Succeeds (files.opened_of r) (record p { current = Some (id_of r.node) }) rest t u s v o
  succeeds u v wanted info id r o is passes cuts state node told set =
      let mid : Lists = passes.0 in
      let a : Answered s mid (opened_of s wish) id = answered s mid (opened_of s wish) id passes.1.0 in
      let by = is_opened wanted info a.opened a.is in
      let result : operation.Opened = record { id = state_of a.opened.row; info = info; set = bitmap_of (λ attr. wanted.sized && attr == SIZE) } in
      let same : files.opened_of r ≡ result =
      ap (λ (x : StateId). let y : operation.Opened = record { id = x; info = r.info; set = r.set } in y) (state a.opened.row a.names)
      ∙ ap (λ (x : Cinfo). let y : operation.Opened = record { id = state_of a.opened.row; info = x; set = r.set } in y) told
      ∙ ap (λ (x : Bitmap). let y : operation.Opened = record { id = state_of a.opened.row; info = info; set = x } in y) set in
      subst (λ (x : Outcome (Answer operation.Opened)). Succeeds (files.opened_of r) (record p { current = Some (id_of r.node) }) rest t u s v x) (sym (is ∙ by.0)) (record {
        answer = ap (λ (x : operation.Opened). Done x) (sym same);
        place = ap (λ (i : Id). record p { current = Some i }) (sym node);
        world =
            cut_so wanted a.opened.change by.1
            ∙ ap (λ (x : Rows). with_files rest x (without gone (lists.ran a.opened.change s))) (sym cuts)
            ∙ ap (λ (x : Lists). with_files rest u (without gone x)) (sym a.after)
            ∙ ap (λ (x : Lists). with_files rest u x) (sym passes.1.1);
      })
