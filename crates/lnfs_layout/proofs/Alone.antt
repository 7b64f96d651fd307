-- Bytes tell one state at most.
use Rattle.std.proofs.Common.{◌≡◌, ℕ, true, false, Bool, List, Ok, sym, ap, ◌∙◌, inl, inr}
use Rattle.std.specs.Prelude.{Result, Option, Some, None}
use Rattle.std.specs.Str.{bytes_eq}
use Rattle.lnfs_xdr.specs.Reading.{read}
use Rattle.lnfs_xdr.specs.Message.{Message, Closed, Unread, Next, Tells, decided, parse}
use Rattle.lnfs_xdr.proofs.Laws.{again}
use Rattle.lnfs_layout.specs.Grammar.{Rows}
use Rattle.lnfs_layout.specs.Whole.{Told, head, body, chosen, layout}

-- what is told of rows, and then of the rest, is parsed: rows leave nothing unread
parsed : {A B : Type 0} (f : Rows A) (k : A → Message B) (bytes : List ℕ) (x : B) → ((a : A) (back : List ℕ) → Tells (k a) x back → parse (k a) back ≡ Ok x) → Tells (Next f k (λ e. absurd e)) x bytes → parse (Next f k (λ e. absurd e)) bytes ≡ Ok x
parsed f k bytes x rest t =
    elim t [
      | inl p ↦
          let first : read f bytes ≡ Ok (p.0, p.2) = ap (read f) p.4 ∙ again f p.0 p.1 p.2 p.3 in
          ap (λ r. decided r (λ a back. parse (k a) back) (λ e. absurd e)) first ∙ rest p.0 p.2 p.5
      | inr p ↦ absurd p.0
    ]

closed : {B : Type 0} (y x : B) (bytes : List ℕ) → Tells (Closed y) x bytes → parse (Closed y) bytes ≡ Ok x
closed y x bytes t = ap (parse (Closed y)) t.1 ∙ ap (λ z. Ok z) t.0

chosen_parsed : {B : Type 0} (b : Bool) (m n : Message B) (x : B) (bytes : List ℕ) → (Tells m x bytes → parse m bytes ≡ Ok x) → (Tells n x bytes → parse n bytes ≡ Ok x) → Tells (chosen b m n) x bytes → parse (chosen b m n) bytes ≡ Ok x
chosen_parsed true m n x bytes at_true at_false t = at_true t
chosen_parsed false m n x bytes at_true at_false t = at_false t

-- a state of so many levels, and nothing behind it
abbrev Whole : (levels : ℕ) → Message (Option Told)
Whole levels = Next (body levels) (λ u. Closed (Some u)) (λ e. absurd e)

whole_parsed : (levels : ℕ) (rest : List ℕ) (t : Told) → Tells (Whole levels) (Some t) rest → parse (Whole levels) rest ≡ Ok (Some t)
whole_parsed levels rest t told = parsed (body levels) (λ u. Closed (Some u)) rest (Some t) (λ u back. closed (Some u) (Some t) back) told

unread : (o : Option Told) (x : Option Told) (rest : List ℕ) → Tells (Unread o) x rest → parse (Unread o) rest ≡ Ok x
unread o x rest told = ap (λ z. Ok z) told

told_parsed : (levels : ℕ) (digest bytes : List ℕ) (t : Told) → Tells (layout levels digest) (Some t) bytes → parse (layout levels digest) bytes ≡ Ok (Some t)
unfolding layout
told_parsed levels digest bytes t told =
    parsed head (λ given. chosen (bytes_eq given digest) (Whole levels) (Unread None)) bytes (Some t)
    (λ given rest. chosen_parsed (bytes_eq given digest) (Whole levels) (Unread None) (Some t) rest (whole_parsed levels rest t) (unread None (Some t) rest)) told

same : (t u : Told) → (r : Result (Option Told) (List ℕ)) → r ≡ Ok (Some t) → r ≡ Ok (Some u) → t ≡ u
same t u r a b = let e : Ok (Some t) ≡ Ok (Some u) = sym a ∙ b in cc

pub told_alone : (levels : ℕ) (digest bytes : List ℕ) (t u : Told) → Tells (layout levels digest) (Some t) bytes → Tells (layout levels digest) (Some u) bytes → t ≡ u
told_alone levels digest bytes t u a b = same t u (parse (layout levels digest) bytes) (told_parsed levels digest bytes t a) (told_parsed levels digest bytes u b)
