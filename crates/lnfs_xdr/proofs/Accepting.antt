-- An item is read exactly where it is spelled.
use Rattle.std.proofs.Common.{◌≡◌, ℕ, List, sym, ap, ◌∙◌}
use Rattle.lnfs_xdr.specs.Format.{Format}
use Rattle.lnfs_xdr.specs.Reading.{Item, here, read}
use Rattle.lnfs_xdr.specs.Promises.{Accepts}
use Rattle.lnfs_xdr.proofs.Fields.{IsBytes, here_ok}
use Rattle.lnfs_xdr.proofs.Laws.{found, again}

pub accepts : {A : Type 0} (f : Format ⊥ A) (item : List ℕ → Item A) (bytes : List ℕ) → IsBytes bytes → read f bytes ≡ here bytes (item bytes) → Accepts f item bytes
accepts f item bytes fits same = λ x rest. (
  λ e. let t = found f bytes (x, rest) fits (same ∙ ap (here bytes) e) in (t.front, t.spelled, t.takes.parts),
  λ s. here_ok {E = ⊥} bytes (item bytes) (x, rest) (sym same ∙ ap (read f) s.2 ∙ again f x s.0 rest s.1),
)
