-- Reading operations one after the other, as a loop does.
use Rattle.std.proofs.Common.{◌≡◌, ℕ, suc, ◌-◌, ◌+◌, ◌≤◌, ◌<◌, Bool, true, false, eqb, length, take, drop, List, Result, Ok, Err, refl, sym, ap, ◌∙◌, arith}
use Rattle.std.specs.Prelude.{nat_le, if◌then◌else◌}
use Rattle.std.specs.Int.{w32}
use Rattle.lnfs_xdr.specs.declared.error.XdrError.{XdrError}
use Rattle.lnfs_xdr.specs.declared.error.XdrError.TheVariants.{Short}
use Rattle.lnfs_xdr.specs.Reading.{Fault, Leaves, Read, Item, read, after, here, number_at}
use Rattle.lnfs_arguments.specs.declared.types.Compound.{Compound}
use Rattle.lnfs_arguments.specs.declared.types.Op.{Op}
use Rattle.lnfs_arguments.specs.declared.types.Op.TheVariants as ops
use Rattle.lnfs_arguments.specs.Grammar.{arguments}
use Rattle.lnfs_arguments.specs.Further.{Further}
use Rattle.lnfs_xdr.specs.Message.{Next, Measured, decided, cut_at, parse}
use Rattle.lnfs_arguments.specs.Whole.{operations, ended, chosen, with_op, operation_at, further_at}

-- what follows an operation that was read
abbrev pub Going : Type 0
Going = Op → List ℕ → Result Compound (List ℕ)

abbrev pub going : Further → Bool → ℕ → Compound → Going
going x cut n c = λ op rest. parse (operations x cut n (with_op c op)) rest

abbrev pub left_with : Compound → ℕ × ℕ → Compound
left_with c = λ e. with_op c (ops.Outside e.0 e.1)

by_length : (b : Bool) (number n : ℕ) (bytes : List ℕ) (k : Going) (g : ℕ × ℕ → Compound)
    → (if b then k (ops.Extra number (take n bytes)) (drop n bytes) else Err bytes) ≡ decided (if b then Ok (ops.Extra number (take n bytes), drop n bytes) else Err (Fault Short bytes)) k g
by_length true number n bytes k g = refl
by_length false number n bytes k g = refl

-- an operation of the further grammar
further_step : (r : Result ℕ XdrError) (number : ℕ) (bytes : List ℕ) (k : Going) (g : ℕ × ℕ → Compound) → cut_at r bytes (λ args rest. k (ops.Extra number args) rest) ≡ decided (further_at r number bytes) k g
further_step (Ok n) number bytes k g = by_length (nat_le n (length bytes)) number n bytes k g
further_step (Err c) number bytes k g = refl

chosen_step : (b : Bool) (x : Further) (cut : Bool) (n : ℕ) (c : Compound) (number : ℕ) (bytes : List ℕ)
    → parse (chosen b (Measured (x.measure number) (λ args. operations x cut n (with_op c (ops.Extra number args)))) (Next (arguments number) (λ op. operations x cut n (with_op c op)) (left_with c))) bytes
    ≡ decided (if b then further_at (x.measure number bytes) number bytes else read (arguments number) bytes) (going x cut n c) (left_with c)
chosen_step true x cut n c number bytes = further_step (x.measure number bytes) number bytes (going x cut n c) (left_with c)
chosen_step false x cut n c number bytes = refl

number_step : (i : Item ℕ) (bytes : List ℕ) (k : ℕ → List ℕ → Result Compound (List ℕ)) (f : ℕ → List ℕ → Read (ℕ × ℕ) Op) (going : Going) (g : ℕ × ℕ → Compound)
    → ((number : ℕ) (rest : List ℕ) → k number rest ≡ decided (f number rest) going g) → decided (here {E = ⊥} bytes i) k (λ e. absurd e) ≡ decided (after (here bytes i) f) going g
number_step (Ok p) bytes k f going g each = each p.0 p.1
number_step (Err c) bytes k f going g each = refl

-- the next operation, and what follows it
one_more : (x : Further) (cut : Bool) (n i : ℕ) (c : Compound) (bytes : List ℕ) → i < n → parse (operations x cut (n - i) c) bytes ≡ decided (operation_at x bytes) (going x cut (n - (i + 1)) c) (left_with c)
unfolding operations
one_more x cut n i c bytes lt =
    let k : n - i ≡ suc (n - (i + 1)) = omega arith in
    rw k (number_step (number_at w32 bytes) bytes _ _ (going x cut (n - (i + 1)) c) (left_with c) (λ number rest. chosen_step (x.serves number) x cut (n - (i + 1)) c number rest))

pub op_read : (x : Further) (cut : Bool) (n i : ℕ) (c : Compound) (bytes : List ℕ) (op : Op) (rest : List ℕ) (total : Result Compound (List ℕ)) → i < n → operation_at x bytes ≡ Ok (op, rest)
    → parse (operations x cut (n - i) c) bytes ≡ total → parse (operations x cut (n - (i + 1)) (with_op c op)) rest ≡ total
op_read x cut n i c bytes op rest total lt first so_far =
    sym (one_more x cut n i c bytes lt ∙ ap (λ r. decided r (going x cut (n - (i + 1)) c) (left_with c)) first) ∙ so_far

pub op_outside : (x : Further) (cut : Bool) (n i : ℕ) (c : Compound) (bytes : List ℕ) (number status : ℕ) (total : Result Compound (List ℕ)) → i < n → operation_at x bytes ≡ Err (Leaves (number, status))
    → parse (operations x cut (n - i) c) bytes ≡ total → total ≡ Ok (with_op c (ops.Outside number status))
op_outside x cut n i c bytes number status total lt first so_far =
    sym so_far ∙ one_more x cut n i c bytes lt ∙ ap (λ r. decided r (going x cut (n - (i + 1)) c) (left_with c)) first

pub op_fault : (x : Further) (cut : Bool) (n i : ℕ) (c : Compound) (bytes : List ℕ) (cause : XdrError) (stuck : List ℕ) (total : Result Compound (List ℕ)) → i < n → operation_at x bytes ≡ Err (Fault cause stuck)
    → parse (operations x cut (n - i) c) bytes ≡ total → total ≡ Err stuck
op_fault x cut n i c bytes cause stuck total lt first so_far =
    sym so_far ∙ one_more x cut n i c bytes lt ∙ ap (λ r. decided r (going x cut (n - (i + 1)) c) (left_with c)) first

pub ops_end : (x : Further) (cut : Bool) (n i : ℕ) (c : Compound) (bytes : List ℕ) (total : Result Compound (List ℕ)) → n ≤ i
    → parse (operations x cut (n - i) c) bytes ≡ total → total ≡ parse (ended cut c) bytes
unfolding operations
ops_end x cut n i c bytes total le so_far = let k : n - i ≡ 0 = omega arith in sym so_far ∙ ap (λ (m : ℕ). parse (operations x cut m c) bytes) k

-- nothing that was left stands in the way
pub is_cut_short : (cut : Bool) (c : Compound) (bytes : List ℕ) → cut ≡ true → parse (ended cut c) bytes ≡ Ok c
is_cut_short cut c bytes e = rw e refl

pub is_whole : (cut : Bool) (c : Compound) (bytes : List ℕ) → eqb (length bytes) 0 ≡ true → parse (ended cut c) bytes ≡ Ok c
is_whole true c bytes e = refl
is_whole false c bytes e = rw e refl
