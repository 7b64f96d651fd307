-- What the client learns is true.
use Rattle.std.proofs.Common.{◌≡◌, ℕ, ◌+◌, Bool, true, false, cond, Some, None, refl, arith}
use Rattle.lnfs_once.specs.Client.{Kind, Assert, Exchange, Create, Compound, Destroy, Leave, End, Tells, Known, Made, Ran, Granted, Nothing, Client, learned, told_client, told_session, told_context}
use Rattle.lnfs_once.specs.Server.{Server}
use Rattle.lnfs_once.specs.Laws.{ClientRows, Holder, Record, Session}
use Rattle.lnfs_once.proofs.Invariant.{FitsAll}

module _ {S : Server} (N : ClientRows S) (v : S.V) where
  -- a client id that is told
  abbrev pub IsKnown : (id next : ℕ) → Type 0
  IsKnown id next = N.Given v Record id × ((x : N.Slot) → N.row v Record id ≡ Some x → next ≡ N.last x + 1)

  -- a session that is told
  abbrev pub IsOpen : (session : ℕ) → Type 0
  IsOpen session = N.Given v Session session × ((z : N.Slot) × (N.row v Session session ≡ Some z) × (N.last z ≡ 0))

  -- what number 0 names
  abbrev pub IsZero : Type 0
  IsZero = (h : Holder) → N.Given v h 0 × (N.row v h 0 ≡ None)

  at_row : (h : Holder) (b : Bool) (n : ℕ) (x : N.Slot) → cond b (N.row v h n) None ≡ Some x → N.row v h n ≡ Some x
  at_row h true n x e = e
  at_row h false n x e = absurd (grind arith)

  learn_known : (id next : ℕ) (c : Client S.A) → IsKnown id next → FitsAll N v c → FitsAll N v (told_client (Known id next) c)
  learn_known id next c told fits Assert = fits Assert
  learn_known id next c told fits Exchange = fits Exchange
  learn_known id next c told fits Create = ((told.0, (fits Create).0.1), λ x h. told.1 x (at_row Record (N.there v c.context) id x h))
  learn_known id next c told fits Compound = fits Compound
  learn_known id next c told fits Destroy = fits Destroy
  learn_known id next c told fits Leave = ((told.0, (fits Leave).0.1), λ x h. absurd (grind arith))
  learn_known id next c told fits End = fits End

  learn_made : (session : ℕ) (c : Client S.A) → IsOpen session → FitsAll N v c → FitsAll N v (told_session (Made session) c)
  learn_made session c told fits Assert = fits Assert
  learn_made session c told fits Exchange = fits Exchange
  learn_made session c told fits Create = fits Create
  learn_made session c told fits Compound = ((told.0, (fits Compound).0.1), λ x h. let is = at_row Session (N.there v c.context) session x h in grind (arith, is, told.1.1, told.1.2))
  learn_made session c told fits Destroy = ((told.0, (fits Destroy).0.1), λ x h. absurd (grind arith))
  learn_made session c told fits Leave = fits Leave
  learn_made session c told fits End = fits End

  learn_granted : (context : ℕ) (c : Client S.A) → N.GivenContext v context → IsZero → FitsAll N v (told_context (Granted context) c)
  learn_granted context c met zero Assert = (((zero Record).0, met), λ x h. absurd (grind arith))
  learn_granted context c met zero Exchange = (((zero Record).0, met), λ x h. absurd (grind arith))
  learn_granted context c met zero Create = (((zero Record).0, met), λ x h. let is = at_row Record (N.there v context) 0 x h in absurd (grind (arith, is, (zero Record).1)))
  learn_granted context c met zero Compound = (((zero Session).0, met), λ x h. let is = at_row Session (N.there v context) 0 x h in absurd (grind (arith, is, (zero Session).1)))
  learn_granted context c met zero Destroy = (((zero Session).0, met), λ x h. absurd (grind arith))
  learn_granted context c met zero Leave = (((zero Record).0, met), λ x h. absurd (grind arith))
  learn_granted context c met zero End = (((zero Record).0, met), λ x h. absurd (grind arith))

  pub record IsTrue (k : Kind) (t : Tells) : Type 0 where
    pub known : (id next : ℕ) → k ≡ Exchange → t ≡ Known id next → IsKnown id next
    pub made : (session : ℕ) → k ≡ Create → t ≡ Made session → IsOpen session
    pub granted : (new : ℕ) → k ≡ Assert → t ≡ Granted new → N.GivenContext v new

  pub learns : (k : Kind) (t : Tells) (c : Client S.A) → IsZero → IsTrue k t → FitsAll N v c → FitsAll N v (learned k t c)
  learns Assert (Known id next) c zero is fits = fits
  learns Assert (Made session) c zero is fits = fits
  learns Assert Ran c zero is fits = fits
  learns Assert (Granted new) c zero is fits = learn_granted new c (is.granted new refl refl) zero
  learns Assert Nothing c zero is fits = fits
  learns Exchange (Known id next) c zero is fits = learn_known id next c (is.known id next refl refl) fits
  learns Exchange (Made session) c zero is fits = fits
  learns Exchange Ran c zero is fits = fits
  learns Exchange (Granted new) c zero is fits = fits
  learns Exchange Nothing c zero is fits = fits
  learns Create (Known id next) c zero is fits = fits
  learns Create (Made session) c zero is fits = learn_made session c (is.made session refl refl) fits
  learns Create Ran c zero is fits = fits
  learns Create (Granted new) c zero is fits = fits
  learns Create Nothing c zero is fits = fits
  learns Compound t c zero is fits = fits
  learns Destroy t c zero is fits = fits
  learns Leave t c zero is fits = fits
  learns End t c zero is fits = fits
