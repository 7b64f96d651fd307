-- The keys of clients and sessions lie in the order of the identifiers that they name.
use Rattle.std.proofs.Common.{◌≡◌, Option, Some, None, refl}
use Rattle.std.specs.Prelude.{option_map}
use Rattle.std.specs.Borrow.{Bor}
use Rattle.std.specs.Option.{option_copied}
use Rattle.std.specs.Ordering.{nat_cmp, ordering_then}
use Rattle.std.specs.declared.cmp.Ordering.{Ordering}
use Rattle.lnfs_counts.proofs.Entries.{AreKeys}
use Rattle.lnfs_session.specs.declared.rows.ClientRef.{ClientRef}
use Rattle.lnfs_session.specs.declared.rows.SessionRef.{SessionRef}
use Rattle.lnfs_session.specs.Listed.{id_of, session_id_of}

abbrev pub client_cmp : ClientRef → ClientRef → Ordering
client_cmp a b = ordering_then (nat_cmp a.level b.level) (nat_cmp a.number b.number)

abbrev pub session_cmp : SessionRef → SessionRef → Ordering
session_cmp a b = ordering_then (nat_cmp a.level b.level) (nat_cmp a.number b.number)

pub client_keys : AreKeys id_of client_cmp
client_keys = record { one = λ a b same t. record { level = (same t).level; number = (same t).number }; order = λ a b. refl }

pub session_keys : AreKeys session_id_of session_cmp
session_keys = record { one = λ a b same t. record { level = (same t).level; number = (same t).number }; order = λ a b. refl }

-- ---- what a look-up lends
pub at_copied : {V X : Type 0} (f : V → X) (o : Option (Bor V)) → option_map (λ x. f x.now) o ≡ option_map f (option_copied o)
at_copied f None = refl
at_copied f (Some x) = refl
