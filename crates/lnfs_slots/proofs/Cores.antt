-- What the client's rows show, where each record of a client keeps all but its lease and whether it has reclaimed.
use Rattle.std.proofs.Common.{◌≡◌, ℕ, Bool, cond, List, Option, Some, None, refl, sym, ◌∙◌, ap}
use Rattle.std.specs.Prelude.{slice_get}
use Rattle.std.specs.Option.{option_map}
use Rattle.lnfs_world.specs.World.{Client as ClientRow, Session as SessionRow, World}
use Rattle.lnfs_slots.specs.OneClient.{slot_row, is_owner, is_session, record_row, session_row}
use Rattle.lnfs_slots.proofs.Behind.{core}

owner_core : (owner : List ℕ) (o : Option ClientRow) → is_owner owner (option_map core o) ≡ is_owner owner o
owner_core owner None = refl
owner_core owner (Some c) = refl

record_core : (owner : List ℕ) (o : Option ClientRow) → record_row owner (option_map core o) ≡ record_row owner o
record_core owner None = refl
record_core owner (Some c) = refl

pub owner_same : (owner : List ℕ) (a b : Option ClientRow) → option_map core a ≡ option_map core b → is_owner owner a ≡ is_owner owner b
owner_same owner a b e = sym (owner_core owner a) ∙ ap (is_owner owner) e ∙ owner_core owner b

pub record_same : (owner : List ℕ) (a b : Option ClientRow) → option_map core a ≡ option_map core b → record_row owner a ≡ record_row owner b
record_same owner a b e = sym (record_core owner a) ∙ ap (record_row owner) e ∙ record_core owner b

-- what a session shows depends on the world by its owner alone
pub session_same : (owner : List ℕ) (level : ℕ) (v w : World) → ((x : SessionRow) → is_session owner level v x ≡ is_session owner level w x) → (o : Option SessionRow) → session_row owner level v o ≡ session_row owner level w o
session_same owner level v w same None = refl
session_same owner level v w same (Some x) = ap (λ (t : Bool). cond t (option_map slot_row (slice_get x.slots 0)) None) (same x)

-- a record that is there was there
pub record WasThere (a : ClientRow) (o : Option ClientRow) : Type 0 where
  pub before : ClientRow
  pub there : o ≡ Some before
  pub same : core a ≡ core before

pub was_there : (a b : Option ClientRow) → option_map core a ≡ option_map core b → (c : ClientRow) → a ≡ Some c → WasThere c b
was_there a None e c is = let no : Some (core c) ≡ None = sym (ap (option_map core) is) ∙ e in absurd cc
was_there a (Some d) e c is = let both : Some (core c) ≡ Some (core d) = sym (ap (option_map core) is) ∙ e in record { before = d; there = refl; same = cc }

pub none_there : (a b : Option ClientRow) → option_map core a ≡ option_map core b → b ≡ None → a ≡ None
none_there None b e none = refl
none_there (Some c) b e none = let no : Some (core c) ≡ None = e ∙ ap (option_map core) none in absurd cc
