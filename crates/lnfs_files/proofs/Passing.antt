-- Opens that give way to one that is asked end, and no others.
use Rattle.std.proofs.Common.{◌≡◌, refl, ap, sym, ◌∙◌, Bool, true, false, cond, not, ◌&&◌, List, [], ◌∷◌, Option, Some, None, Result, Ok, Err, arith}
use Rattle.std.specs.Prelude.{◌==◌, filter, if◌then◌else◌}
use Rattle.std.specs.List.{AllByRecursion, find}
use Rattle.std.specs.declared.cmp.Ordering.TheVariants.{Less}
use Rattle.std.proofs.lemmas.Bool.{false≢true}
use Rattle.std.proofs.lemmas.Bool.Decides.{nat_tests}
use Rattle.lnfs_world.specs.Rows.{inserted, Rising}
use Rattle.lnfs_world.specs.World.{Id, Open, World, id_order, open_order, same_id}
use Rattle.lnfs_world.specs.Change.{AddOpen, EndOpen, apply_all}
use Rattle.lnfs_world.specs.Facts.{same_opening}
use Rattle.lnfs_world.specs.Effects.{next_id}
use Rattle.lnfs_world.specs.Opens.{clashes, client_of, gives_way, joined, ended}
use Rattle.lnfs_world.proofs.Keys.{id_itself, id_turned, bytes_itself}
use Rattle.lnfs_world.proofs.Rows.{all_anyway, all_find, all_weaker}
use Rattle.lnfs_world.proofs.Leases.{ended_behind}
use Rattle.lnfs_tree.specs.Rows.{Rows}
use Rattle.lnfs_open.specs.Lists.{Lists, world_of}
use Rattle.lnfs_open.specs.Lists as lists
use Rattle.lnfs_open.specs.Opening.{Wish, Opened, Does, opened_of, opened_by, own_open, new_open, has_open_left}
use Rattle.lnfs_open.specs.declared.keys.OpenRef.{OpenRef}
use Rattle.lnfs_open.specs.declared.keys.OpenError.{OpenError}
use Rattle.lnfs_open.specs.declared.keys.OpenError.TheVariants.{Full, Bad, Old, Memory}
use Rattle.lnfs_files.specs.Worlds.{with_files}
use Rattle.lnfs_files.specs.Passing.{giving_way, without}

-- ---- tests

stays_so : (a b c : Bool) → (a && (b && (not true && c))) ≡ false
stays_so true true c = refl
stays_so true false c = refl
stays_so false b c = refl

before_apart : (a b : Id) → id_order a b ≡ Less → same_id a b ≡ false
before_apart a b e = grind (arith, nat_tests, e)

-- ---- opens of an identifier

module _ (s : Lists) (wish : Wish) (over : Id → Bool) where
  abbrev asked : Open
  asked = new_open s wish

  -- whether an open gives way
  abbrev goes : Open → Bool
  goes o = same_id wish.node o.node && gives_way wish.client.level (wish.client, wish.owner) wish.node wish.access wish.deny over o

  -- one's own doesn't
  own_stays : (o : Open) → same_opening asked o ≡ true → goes o ≡ false
  own_stays o is =
      ap (λ (b : Bool). same_id wish.node o.node && (o.id.level == wish.client.level && (not b && (clashes wish.access wish.deny o && over (client_of o))))) is
      ∙ stays_so (same_id wish.node o.node) (o.id.level == wish.client.level) (clashes wish.access wish.deny o && over (client_of o))

  asked_itself : same_opening asked asked ≡ true
  asked_itself = grind (arith, nat_tests, bytes_itself wish.owner, id_itself wish.node)

  abbrev Stays : Id → Open → Type 0
  Stays i x = same_id x.id i ≡ true → goes x ≡ false

  -- of one that none has
  none_goes : (i : Id) (opens : List Open) → find (λ o. same_id i o.id) opens ≡ None → AllByRecursion (Stays i) opens
  none_goes i [] none = tt
  none_goes i (x ∷ xs) none = at (same_id i x.id) refl none (none_goes i xs)
    where
      at : (b : Bool) → same_id i x.id ≡ b → cond b (Some x) (find (λ o. same_id i o.id) xs) ≡ None → (find (λ o. same_id i o.id) xs ≡ None → AllByRecursion (Stays i) xs) → Stays i x × AllByRecursion (Stays i) xs
      at true is none rest = absurd cc
      at false is none rest = ((λ same. absurd (false≢true (sym is ∙ id_turned i x.id ∙ same))), rest none)

  -- of the one that is joined
  joined_stays : (o : Open) (opens : List Open) → Rising open_order opens → find (same_opening asked) opens ≡ Some o → AllByRecursion (Stays o.id) opens
  joined_stays o [] rise found = tt
  joined_stays o (x ∷ xs) rise found = at (same_opening asked x) refl found (joined_stays o xs rise.1)
    where
      at : (b : Bool) → same_opening asked x ≡ b → cond b (Some x) (find (same_opening asked) xs) ≡ Some o → (find (same_opening asked) xs ≡ Some o → AllByRecursion (Stays o.id) xs) → Stays o.id x × AllByRecursion (Stays o.id) xs
      at true is found rest =
          let one : x ≡ o = cc in (
            (λ same. own_stays x is),
            all_weaker (λ y. open_order x y ≡ Less) (Stays o.id) (λ y before same. absurd (false≢true (sym (before_apart x.id y.id before) ∙ id_turned x.id y.id ∙ ap (λ (z : Open). same_id y.id z.id) one ∙ same))) xs rise.0,
          )
      at false is found rest =
          let before = (all_find (λ y. open_order x y ≡ Less) (same_opening asked) xs o rise.0 found).0 in (
            (λ same. absurd (false≢true (sym (before_apart x.id o.id before) ∙ same))),
            rest found,
          )

  -- ---- what is left

  abbrev left_of : Lists → Lists
  left_of v = record v { opens = filter (λ o. not (goes o)) v.opens }

  abbrev new : Opened
  new = record { row = asked; change = AddOpen asked }

  module _ (v : Lists) (rise : Rising open_order s.opens) where
    left : (row : Open) → v.opens ≡ inserted open_order row s.opens → goes row ≡ false → AllByRecursion (Stays row.id) s.opens → left_of v ≡ without (giving_way wish over s.opens) v
    left row set stays apart = ap (λ (opens : List Open). record v { opens = opens }) (sym (ended_behind goes row s.opens (world_of v) rise set stays apart))

    pub passes : find (λ o. same_id (next_id s.lasts wish.client.level) o.id) s.opens ≡ None → (id : OpenRef) → Does (opened_of s wish) s v (Ok id) → left_of v ≡ without (giving_way wish over s.opens) v
    passes fresh id does = at (own_open s wish) refl does
      where
        by : (b : Bool) → Does (if b then Ok new else Err Full) s v (Ok id) → left_of v ≡ without (giving_way wish over s.opens) v
        by true does = left asked (ap (λ (k : Lists). k.opens) does.1) (own_stays asked asked_itself) (none_goes asked.id s.opens fresh)
        by false does = absurd does

        at : (x : Option Open) → own_open s wish ≡ x → Does (opened_by s wish x) s v (Ok id) → left_of v ≡ without (giving_way wish over s.opens) v
        at (Some o) is does =
            let own = (all_find (λ y. Unit {0}) (same_opening asked) s.opens o (all_anyway (λ y. Unit {0}) (λ y. tt) s.opens) is).1 in
            left (joined wish.access wish.deny o) (ap (λ (k : Lists). k.opens) does.1) (own_stays (joined wish.access wish.deny o) own) (joined_stays o s.opens rise is)
        at None is does = by (has_open_left s wish.client.level) does

-- ---- the definition

-- opens that end leave the rest of a world
pub ended_alone : (gone : List Open) (rest : World) (t : Rows) (s : Lists) → apply_all (ended gone) (with_files rest t s) ≡ with_files rest t (without gone s)
ended_alone [] rest t s = refl
ended_alone (o ∷ gone) rest t s = ended_alone gone rest t (lists.ran (EndOpen o.id) s)

-- an error leaves the opens
pub failed_leaves : (s v : Lists) (told : Result Opened OpenError) (e : OpenError) → Does told s v (Err e) → v ≡ s
failed_leaves s v (Ok opened) Full does = absurd does
failed_leaves s v (Ok opened) Bad does = absurd does
failed_leaves s v (Ok opened) Old does = absurd does
failed_leaves s v (Ok opened) Memory does = does.1
failed_leaves s v (Err why) e does = does.1
