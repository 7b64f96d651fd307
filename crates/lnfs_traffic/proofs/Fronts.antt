-- The events at the front of bytes, one after another.
use Rattle.std.proofs.Common.{◌≡◌, ◌⊎◌, ℕ, zero, suc, ◌+◌, ◌-◌, ◌≤◌, List, [], ◌∷◌, ◌++◌, length, drop, Result, Ok, Err, refl, sym, subst, ap, ◌∙◌, inl, inr, arith, append_assoc, append-nil}
use Rattle.std.specs.Result.{IsErr}
use Rattle.std.proofs.lemmas.Grind.{common_steps}
use Rattle.lnfs_types.specs.declared.event.Event.{Event}
use Rattle.lnfs_xdr.specs.Format.{Spells, times}
use Rattle.lnfs_xdr.specs.Reading.{read}
use Rattle.lnfs_xdr.proofs.Fields.{IsBytes}
use Rattle.lnfs_xdr.proofs.Laws.{found, again}
use Rattle.lnfs_traffic.specs.Recording.{event}
use Rattle.lnfs_traffic.specs.Parts.{Parts, where_read, parts_behind, parts_of}
use Rattle.lnfs_traffic.proofs.Cutting.{cut, left_length}

parts_skip : (n : ℕ) (bytes : List ℕ) → parts_behind n bytes ≡ parts_of (drop n bytes)
unfolding parts_behind
parts_skip zero [] = refl
parts_skip zero (b ∷ bytes) = refl
parts_skip (suc n) [] = refl
parts_skip (suc n) (b ∷ bytes) = parts_skip n bytes

-- one more event at the front
abbrev pub grown : Event → Parts → Parts
grown e p = record { events = e ∷ p.events; rest = p.rest }

tail_is : (b : ℕ) (bytes rest : List ℕ) (n : ℕ) → 24 ≤ n → n ≤ length (b ∷ bytes) → rest ≡ drop n (b ∷ bytes) → drop (length bytes - length rest) bytes ≡ rest
tail_is b bytes rest zero w l e = absurd (omega (arith, w))
tail_is b bytes rest (suc n) w l e =
    let r : length rest + n ≡ length bytes = rw e (grind (arith, common_steps, l)) in
    let m : length bytes - length rest ≡ n = omega (arith, r) in
    ap (λ k. drop k bytes) m ∙ sym e

-- an event, and those behind it
pub parts_some : (bytes : List ℕ) (e : Event) (rest : List ℕ) → read event bytes ≡ Ok (e, rest) → parts_of bytes ≡ grown e (parts_of rest)
unfolding parts_behind
parts_some [] e rest h = let c = cut [] e rest h in absurd (omega (arith, c.whole, c.left.within))
parts_some (b ∷ bytes) e rest h =
    let c = cut (b ∷ bytes) e rest h in
    ap (λ r. where_read (b ∷ bytes) r (λ rest. parts_behind (length bytes - length rest) bytes)) h
    ∙ ap (grown e) (parts_skip (length bytes - length rest) bytes ∙ ap parts_of (tail_is b bytes rest c.size c.whole c.left.within c.left.rest_is))

-- no event is at the front
stopped : {A S : Type 0} (r : Result A S) → IsErr r → (s : S) × (r ≡ Err s)
stopped (Ok x) e = absurd cc
stopped (Err s) e = (s, refl)

pub parts_none : (bytes : List ℕ) → IsErr (read event bytes) → parts_of bytes ≡ record { events = []; rest = bytes }
unfolding parts_behind
parts_none [] e = refl
parts_none (b ∷ bytes) e = ap (λ r. where_read (b ∷ bytes) r (λ rest. parts_behind (length bytes - length rest) bytes)) (stopped (read event (b ∷ bytes)) e).1

-- ---- the events at the front are spelled there

pub one_more : (e : Event) (es : List Event) (f b : List ℕ) → Spells event e f → Spells (times (length es) event) es b → Spells (times (length (e ∷ es)) event) (e ∷ es) (f ++ b)
one_more e es f b s t = (e, f, b, s, (es, b, [], t, (refl, refl), sym (append-nil b)), refl)

record First (e : Event) (es : List Event) (bytes : List ℕ) : Type 0 where
  pub front : List ℕ
  pub back : List ℕ
  pub one : Spells event e front
  pub others : Spells (times (length es) event) es back
  pub parts : bytes ≡ front ++ back

first : (e : Event) (es : List Event) (bytes : List ℕ) → Spells (times (length (e ∷ es)) event) (e ∷ es) bytes → First e es bytes
first e es bytes s =
    let t = s.4 in
    let list : s.0 ∷ t.0 ≡ e ∷ es = t.4.0 in
    let head : s.0 ≡ e = cc in
    let tail : t.0 ≡ es = cc in
    record {
      front = s.1;
      back = t.1;
      one = subst (λ x. Spells event x s.1) head s.3;
      others = subst (λ xs. Spells (times (length es) event) xs t.1) tail t.3;
      parts = s.5 ∙ ap (λ (b : List ℕ). s.1 ++ b) (t.5 ∙ ap (λ (b : List ℕ). t.1 ++ b) t.4.1 ∙ append-nil t.1);
    }

abbrev behind_all : List Event → Parts → Parts
behind_all es p = record { events = es ++ p.events; rest = p.rest }

pub all_again : (es : List Event) (front rest : List ℕ) → Spells (times (length es) event) es front → parts_of (front ++ rest) ≡ behind_all es (parts_of rest)
all_again [] front rest s = ap (λ (f : List ℕ). parts_of (f ++ rest)) s.1
all_again (e ∷ es) front rest s =
    let f = first e es front s in
    let group : front ++ rest ≡ f.front ++ (f.back ++ rest) = ap (λ (b : List ℕ). b ++ rest) f.parts ∙ append_assoc f.front f.back rest in
    ap parts_of group ∙ parts_some (f.front ++ (f.back ++ rest)) e (f.back ++ rest) (again event e f.front (f.back ++ rest) f.one) ∙ ap (grown e) (all_again es f.back rest f.others)

pub record Front (bytes : List ℕ) (p : Parts) : Type 0 where
  pub front : List ℕ
  pub spelled : Spells (times (length p.events) event) p.events front
  pub parts : bytes ≡ front ++ p.rest

pub outcome : {A S : Type 0} (r : Result A S) → ((x : A) × (r ≡ Ok x)) ⊎ IsErr r
outcome (Ok x) = inl (x, refl)
outcome (Err s) = inr refl

front_more : (bytes : List ℕ) → IsBytes bytes → (e : Event) (rest : List ℕ) → read event bytes ≡ Ok (e, rest) → Front rest (parts_of rest) → Front bytes (parts_of bytes)
front_more bytes fits e rest h more =
    let t = found event bytes (e, rest) fits h in
    subst (Front bytes) (sym (parts_some bytes e rest h)) (record {
      front = t.front ++ more.front;
      spelled = one_more e (parts_of rest).events t.front more.front t.spelled more.spelled;
      parts = t.takes.parts ∙ ap (λ (b : List ℕ). t.front ++ b) more.parts ∙ sym (append_assoc t.front more.front (parts_of rest).rest);
    })

front_none : (bytes : List ℕ) → IsErr (read event bytes) → Front bytes (parts_of bytes)
front_none bytes e = subst (Front bytes) (sym (parts_none bytes e)) (record { front = []; spelled = (refl, refl); parts = refl })

front_at : (bytes : List ℕ) → IsBytes bytes → ((e : Event) (rest : List ℕ) → read event bytes ≡ Ok (e, rest) → Front rest (parts_of rest)) → Front bytes (parts_of bytes)
front_at bytes fits next = elim (outcome (read event bytes)) [
  | inl x ↦ front_more bytes fits x.0.0 x.0.1 x.1 (next x.0.0 x.0.1 x.1)
  | inr none ↦ front_none bytes none
]

fronts : (fuel : ℕ) (bytes : List ℕ) → length bytes ≤ fuel → IsBytes bytes → Front bytes (parts_of bytes)
fronts zero bytes h fits = front_at bytes fits (λ e rest r. let c = cut bytes e rest r in absurd (omega (arith, h, c.whole, c.left.within)))
fronts (suc fuel) bytes h fits = front_at bytes fits (λ e rest r.
    let c = cut bytes e rest r in
    let t = found event bytes (e, rest) fits r in
    let l = left_length c.left in
    fronts fuel rest (omega (arith, l, h, c.whole)) t.takes.rest_fits)

-- what is read of any bytes is spelled at their front
pub front_of : (bytes : List ℕ) → IsBytes bytes → Front bytes (parts_of bytes)
front_of bytes fits = fronts (length bytes) bytes (omega arith) fits

-- one event more behind others
pub last_more : (es : List Event) (e : Event) (body text : List ℕ) → Spells (times (length es) event) es body → Spells event e text → Spells (times (length (es ++ e ∷ [])) event) (es ++ e ∷ []) (body ++ text)
last_more [] e body text s t = subst (λ (b : List ℕ). Spells (times (length (e ∷ [])) event) (e ∷ []) b) (append-nil text ∙ ap (λ (b : List ℕ). b ++ text) (sym s.1)) (one_more e [] text [] t (refl, refl))
last_more (x ∷ es) e body text s t =
    let f = first x es body s in
    subst (λ (b : List ℕ). Spells (times (length (x ∷ (es ++ e ∷ []))) event) (x ∷ (es ++ e ∷ [])) b)
    (sym (append_assoc f.front f.back text) ∙ ap (λ (b : List ℕ). b ++ text) (sym f.parts))
    (one_more x (es ++ e ∷ []) f.front (f.back ++ text) f.one (last_more es e f.back text f.others t))
