-- Links that were dealt and handed back, one after another.
use Rattle.std.proofs.Common.{◌≡◌, ℕ, suc, ◌+◌, ◌≤◌, Bool, true, false, cond, nat_eq, map, List, [], ◌∷◌, ◌++◌, length, refl, sym, ap, ◌∙◌, subst, arith, append_assoc, append-nil}
use Rattle.std.proofs.lemmas.List.{length_push, map-append}
use Rattle.std.specs.declared.option.Option.{Option}
use Rattle.std.specs.declared.option.Option.TheVariants.{Some, None}
use Rattle.lnfs_outside.specs.Calls.{next}
use Rattle.lnfs_outside.specs.Nets.{Deal, Back, Grows, Fewer, after_return}
use Rattle.lnfs_service.specs.Handed.{Dealings, dealings, Adds, Deals}
use Rattle.lnfs_service.specs.Links.{Owes}
use Rattle.lnfs_service.specs.Serves.{Remains}
use Rattle.lnfs_service.specs.Session.{Nothing}

pub adds_none : {X : Type 0} (o : Option (List X)) → Adds o o []
adds_none None = refl
adds_none (Some xs) = ap Some (sym (append-nil xs))

pub adds_more : {X : Type 0} (a b c : Option (List X)) (xs : List X) (x : X) → Adds a b xs → Grows b c x → Adds a c (xs ++ x ∷ [])
adds_more None b c xs x p q = subst (λ o. Grows o c x) p q
adds_more (Some olds) b c xs x p q =
    let grown : Grows (Some (olds ++ xs)) c x = subst (λ o. Grows o c x) p q in
    grown ∙ ap Some (append_assoc olds xs (x ∷ []))

-- ---- how many can still be handed back

pub owes_fewer : (n : ℕ) (d : Option (List Deal)) (b : Option (List Back)) → Owes (suc n) d b → Fewer d b
owes_fewer n None b o = tt
owes_fewer n (Some deals) None o = tt
owes_fewer n (Some deals) (Some backs) o = omega (arith, o)

pub owes_less : (n : ℕ) (d : Option (List Deal)) (b b' : Option (List Back)) (x : Back) → Owes (suc n) d b → Grows b b' x → Owes n d b'
owes_less n None b b' x o g = tt
owes_less n (Some deals) None b' x o g = subst (λ c. Owes n (Some deals) c) (sym g) tt
owes_less n (Some deals) (Some backs) b' x o g =
    let few : length (backs ++ x ∷ []) + n ≤ length deals = omega (arith, o, length_push backs x) in
    subst (λ c. Owes n (Some deals) c) (sym g) few

-- ---- links that are handed back, one after another

stays_so : (a b : ℕ) (t : Bool) → Remains a b → Remains a (cond t b (next b))
stays_so a b true s = s
stays_so a b false s = omega (arith, s)

pub stays_returned : (a b read write : ℕ) {c : ℕ} → Remains a b → c ≡ after_return b read write → Remains a c
stays_returned a b read write {c} s is = subst (λ (n : ℕ). Remains a n) (sym is) (stays_so a b (nat_eq (read + write) 0) s)

module _ {A : Type 0} (tell : A → Back) (items : List A) (before : Option (List Back)) where
  -- those in front were handed back, and the others are left
  abbrev pub Done : (left : List A) → Option (List Back) → Type 0
  Done left now = (front : List A) × (items ≡ front ++ left) × Adds before now (map tell front)

  pub none_done : {left : List A} → left ≡ items → Done left before
  none_done is = ([], sym is, adds_none before)

  pub one_done : (now now' : Option (List Back)) {left rest : List A} {x : A} → left ≡ x ∷ rest → Done left now → Grows now now' (tell x) → Done rest now'
  one_done now now' {left} {rest} {x} cut d g = (
    d.0 ++ x ∷ [],
    d.1 ∙ ap (λ (l : List A). d.0 ++ l) cut ∙ sym (append_assoc d.0 (x ∷ []) rest),
    subst (λ (bs : List Back). Adds before now' bs) (sym (map-append tell d.0 (x ∷ []))) (adds_more before now now' (map tell d.0) (tell x) d.2 g),
  )

  pub all_done : (now : Option (List Back)) {left : List A} → left ≡ [] → Done left now → Adds before now (map tell items)
  all_done now {left} none d = subst (λ (l : List A). Adds before now (map tell l)) (sym (d.1 ∙ ap (λ (l : List A). d.0 ++ l) none ∙ append-nil d.0)) d.2

-- ---- what is said of both

pub says : {d : Dealings} {P Q : List Deal → List Back → Type 0} → ((deals : List Deal) (backs : List Back) → P deals backs → Q deals backs) → Deals d P → Deals d Q
says from is = record { deals = is.deals; backs = is.backs; dealt = is.dealt; handed = is.handed; say = from is.deals is.backs is.say }

-- a call that leaves the net alone
pub untouched : {P : List Deal → List Back → Type 0} (d : Option (List Deal)) (b : Option (List Back)) → P [] [] → Deals (dealings d d b b) P
untouched d b is = record { deals = []; backs = []; dealt = adds_none d; handed = adds_none b; say = is }

pub nothing : Nothing [] []
nothing = record { dealt = refl; handed = refl }
