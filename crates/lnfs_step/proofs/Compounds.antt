-- What holds of every COMPOUND that is read: its tag is short, and it has no more operations than it counts.
use Rattle.std.proofs.Common.{◌≡◌, ◌≤◌, ◌+◌, ℕ, zero, suc, Bool, true, false, cond, eqb, List, [], ◌∷◌, ◌++◌, length, take, drop, Ok, Err, nat_le, refl, ap, subst, arith}
use Rattle.std.specs.Prelude.{◌==◌, Result}
use Rattle.std.specs.List.{AllByRecursion}
use Rattle.std.proofs.lemmas.Bool.Decides.{nat_tests}
use Rattle.std.proofs.lemmas.List.{length-append}
use Rattle.lnfs_xdr.specs.declared.error.XdrError.{XdrError}
use Rattle.lnfs_xdr.specs.Format.{Format, Word}
use Rattle.lnfs_xdr.specs.Reading.{Read, Fault, Leaves, read}
use Rattle.lnfs_arguments.specs.declared.types.Op.{Op}
use Rattle.lnfs_arguments.specs.declared.types.Op.TheVariants as ops
use Rattle.lnfs_arguments.specs.declared.types.Compound.{Compound}
use Rattle.lnfs_xdr.specs.Message.{Message, Closed, Unread, Next, Measured, parse, decided, cut_at}
use Rattle.lnfs_arguments.specs.Further.{Further}
use Rattle.lnfs_arguments.specs.Whole.{header, compound, operations, served, is_cut, with_op, ended, chosen}
use Rattle.lnfs_operations.specs.Sizes.{IsRead, IsOpRead}
use Rattle.lnfs_world.proofs.Rows.{all_weaker}
use Rattle.lnfs_step.proofs.Arguments.{op_read}
use Rattle.lnfs_step.proofs.Denials.{OutsideIs}
use Rattle.lnfs_step.proofs.Gives.{Gives, gives_opaque, gives_done, gives_then, gives_any, gives_if}
use Rattle.lnfs_step.proofs.Outsides.{inside_read, outside_left}

-- an operation as it was read: one that is outside is refused with a status of its gate, and arguments are as long as they may be
abbrev IsAsRead : Op → Type 0
IsAsRead op = OutsideIs op × IsOpRead op

-- the tag is short, and no operation is there yet
record Begins (c : Compound) : Type 0 where
  short : length c.tag ≤ 1024
  none : c.ops ≡ []

header_gives : Gives header Begins
unfolding header
header_gives = gives_then (λ tag. length tag ≤ 1024) (gives_opaque 1024) (λ tag short. gives_then (λ x. Unit {0}) (gives_any Word) (λ minor _.
    gives_if (eqb minor 2)
    (gives_then (λ x. Unit {0}) (gives_any Word) (λ count _. gives_done (record { tag = tag; minor = minor; count = count; ops = [] }) (record { short = short; none = refl })))
    (gives_done (record { tag = tag; minor = minor; count = 0; ops = [] }) (record { short = short; none = refl }))))

-- whatever a message tells has the property
record Tells {B : Type 0} (m : Message B) (P : B → Type 0) : Type 0 where
  is : (bytes : List ℕ) (x : B) → parse m bytes ≡ Ok x → P x

ends_as : {B : Type 0} (b : Bool) (y x : B) (bytes : List ℕ) → cond b (Ok y) (Err bytes) ≡ Ok x → y ≡ x
ends_as true y x bytes e = cc
ends_as false y x bytes e = absurd (let f = e in cc)

tells_closed : {B : Type 0} {P : B → Type 0} (y : B) → P y → Tells (Closed y) P
tells_closed {P = P} y p = record { is = λ bytes x e. subst P (ends_as (length bytes == 0) y x bytes e) p }

tells_unread : {B : Type 0} {P : B → Type 0} (y : B) → P y → Tells (Unread y) P
tells_unread {P = P} y p = record { is = λ bytes x e. let same : y ≡ x = cc in subst P same p }

decided_as : {E A B : Type 0} (P : B → Type 0) (r : Read E A) (k : A → List ℕ → Result B (List ℕ)) (g : E → B) (x : B) → ((a : A × List ℕ) → r ≡ Ok a → k a.0 a.1 ≡ Ok x → P x) → ((e : E) → r ≡ Err (Leaves e) → P (g e)) → decided r k g ≡ Ok x → P x
decided_as P (Ok a) k g x goes leaves e = goes a refl e
decided_as P (Err (Fault c stuck)) k g x goes leaves e = absurd (let f = e in cc)
decided_as P (Err (Leaves z)) k g x goes leaves e = let same : g z ≡ x = cc in subst P same (leaves z refl)

tells_next : {E A B : Type 0} {f : Format E A} {k : A → Message B} {g : E → B} {P : B → Type 0} (Q : A → Type 0) → Gives f Q → ((a : A) → Q a → Tells (k a) P) → ((bytes : List ℕ) (e : E) → read f bytes ≡ Err (Leaves e) → P (g e)) → Tells (Next f k g) P
tells_next {f = f} {k = k} {g = g} {P = P} Q first next leaves = record {
  is = λ bytes x e. decided_as P (read f bytes) (λ a rest. parse (k a) rest) g x (λ a is goes. (next a.0 (first.is bytes a is)).is a.1 x goes) (λ z is. leaves bytes z is) e;
}

cut_as : {B : Type 0} (P : B → Type 0) (m : Result ℕ XdrError) (bytes : List ℕ) (k : List ℕ → List ℕ → Result B (List ℕ)) (x : B) → ((front back : List ℕ) → k front back ≡ Ok x → P x) → cut_at m bytes k ≡ Ok x → P x
cut_as P (Ok n) bytes k x goes e = at (nat_le n (length bytes)) e
  where
    at : (b : Bool) → cond b (k (take n bytes) (drop n bytes)) (Err bytes) ≡ Ok x → P x
    at true f = goes (take n bytes) (drop n bytes) f
    at false f = absurd (let h = f in cc)
cut_as P (Err c) bytes k x goes e = absurd (let f = e in cc)

tells_measured : {B : Type 0} {measure : List ℕ → Result ℕ XdrError} {k : List ℕ → Message B} {P : B → Type 0} → ((front : List ℕ) → Tells (k front) P) → Tells (Measured measure k) P
tells_measured {measure = measure} {k = k} {P = P} next = record {
  is = λ bytes x e. cut_as P (measure bytes) bytes (λ front back. parse (k front) back) x (λ front back goes. (next front).is back x goes) e;
}

tells_ended : {P : Compound → Type 0} (cut : Bool) (c : Compound) → P c → Tells (ended cut c) P
tells_ended true c p = tells_unread c p
tells_ended false c p = tells_closed c p

tells_chosen : {B : Type 0} {P : B → Type 0} (b : Bool) (m n : Message B) → Tells m P → Tells n P → Tells (chosen b m n) P
tells_chosen true m n p q = p
tells_chosen false m n p q = q

-- the same tag and count, and at most so many operations, each as it was read
record Few (tag : List ℕ) (count most : ℕ) (c : Compound) : Type 0 where
  tag_is : c.tag ≡ tag
  count_is : c.count ≡ count
  few : length c.ops ≤ most
  each : AllByRecursion IsAsRead c.ops

few_more : (c : Compound) (op : Op) → length (with_op c op).ops ≡ length c.ops + 1
few_more c op = length-append c.ops (op ∷ [])

all_more : (os : List Op) (op : Op) → AllByRecursion IsAsRead os → IsAsRead op → AllByRecursion IsAsRead (os ++ op ∷ [])
all_more [] op all is = (is, tt)
all_more (o ∷ os) op all is = (all.0, all_more os op all.1 is)

operations_tell : (x : Further) (cut : Bool) (n : ℕ) (c : Compound) (tag : List ℕ) (count most : ℕ) → c.tag ≡ tag → c.count ≡ count → length c.ops + n ≤ most → AllByRecursion IsAsRead c.ops → Tells (operations x cut n c) (Few tag count most)
unfolding operations
operations_tell x cut zero c tag count most is counts few each = tells_ended cut c (record { tag_is = is; count_is = counts; few = omega arith; each = each })
operations_tell x cut (suc n) c tag count most is counts few each =
    tells_next (λ number. Unit {0}) (gives_any Word) (λ number _. tells_chosen (x.serves number) _ _
    (tells_measured (λ args. operations_tell x cut n (with_op c (ops.Extra number args)) tag count most is counts (omega (arith, few_more c (ops.Extra number args))) (all_more c.ops (ops.Extra number args) each (tt, tt))))
    (tells_next IsAsRead (record { is = λ bytes x e. (inside_read number bytes x e, op_read number bytes x e) }) (λ op inside. operations_tell x cut n (with_op c op) tag count most is counts (omega (arith, few_more c op)) (all_more c.ops op each inside))
    (λ bytes e left. record { tag_is = is; count_is = counts; few = omega (arith, few_more c (ops.Outside e.0 e.1)); each = all_more c.ops (ops.Outside e.0 e.1) each (outside_left number bytes e left, tt) })))
    (λ bytes e left. absurd e)

served_few : (minor count : ℕ) → served minor count ≤ count
served_few minor count = grind (arith, nat_tests)

served_most : (minor count : ℕ) → served minor count ≤ 32
served_most minor count = grind (arith, nat_tests)

compound_tells : (x : Further) → Tells (compound x) (λ c. IsRead c × (length c.ops ≤ 32) × AllByRecursion IsAsRead c.ops)
unfolding compound
compound_tells x = tells_next Begins header_gives (λ h begins. record {
  is = λ bytes c e.
      let n = served h.minor h.count in
      let f = (operations_tell x (is_cut h.minor h.count) n h h.tag h.count n refl refl (omega (arith, ap length begins.none)) (rw begins.none tt)).is bytes c e in
      (record { tag = rw f.tag_is begins.short; operations = omega (arith, f.few, f.count_is, served_few h.minor h.count); arguments = all_weaker IsAsRead IsOpRead (λ op is. is.1) c.ops f.each }, omega (arith, f.few, served_most h.minor h.count), f.each);
}) (λ bytes e left. absurd e)

pub compound_read : (x : Further) (bytes : List ℕ) (c : Compound) → parse (compound x) bytes ≡ Ok c → IsRead c
compound_read x bytes c e = ((compound_tells x).is bytes c e).0

-- and at most 32 operations, however many it counts
pub compound_few : (x : Further) (bytes : List ℕ) (c : Compound) → parse (compound x) bytes ≡ Ok c → length c.ops ≤ 32
compound_few x bytes c e = ((compound_tells x).is bytes c e).1

-- and one that is outside is refused with a status of its gate
pub compound_outside : (x : Further) (bytes : List ℕ) (c : Compound) → parse (compound x) bytes ≡ Ok c → AllByRecursion OutsideIs c.ops
compound_outside x bytes c e = all_weaker IsAsRead OutsideIs (λ op is. is.0) c.ops ((compound_tells x).is bytes c e).2
