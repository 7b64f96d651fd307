-- The names of an action that keeps its bounds.
use Rattle.std.proofs.Common.{◌≡◌, ◌≤◌, ℕ, Bool, true, false, not, ◌&&◌, ◌||◌, nat_le, List, [], length, refl, arith}
use Rattle.std.specs.Prelude.{codes, IsTrue}
use Rattle.std.specs.List.{list_all}
use Rattle.std.specs.Str.{bytes_eq}
use Rattle.std.proofs.lemmas.Bool.{and_parts, leb-true}
use Rattle.std.proofs.lemmas.List.Elements.{All-nil, All-weaker}
use Rattle.lnfs_words.specs.Paths.{is_component, is_name_byte, is_path}
use Rattle.lnfs_script.specs.declared.action.Action.{Action}
use Rattle.lnfs_script.specs.declared.action.Action.TheVariants as actions
use Rattle.lnfs_script.specs.Paths.{components, is_root_or_path}
use Rattle.lnfs_script.specs.Fits.{ActionFits}
use Rattle.lnfs_script.proofs.Named.{few, all}
use Rattle.lnfs_client.specs.Names.{AreNames}
use Rattle.lnfs_client.specs.Requests.{names_of}

short : (name : List ℕ) → is_component name ≡ true → length name ≤ 255
short name e =
    let a = and_parts (nat_le 1 (length name) && nat_le (length name) 255 && list_all is_name_byte name && not (bytes_eq name (codes "."))) (not (bytes_eq name (codes ".."))) e in
    let b = and_parts (nat_le 1 (length name) && nat_le (length name) 255 && list_all is_name_byte name) (not (bytes_eq name (codes "."))) a.0 in
    let c = and_parts (nat_le 1 (length name) && nat_le (length name) 255) (list_all is_name_byte name) b.0 in
    leb-true _ _ (and_parts (nat_le 1 (length name)) (nat_le (length name) 255) c.0).1

fit : (path : List ℕ) → IsTrue (is_root_or_path path) → AreNames (components path)
fit path is = record { few = few path is; short = All-weaker (λ (name : List ℕ). is_component name ≡ true) (λ (name : List ℕ). length name ≤ 255) short (components path) (all path is) }

below_root : (path : List ℕ) → IsTrue (is_path path) → IsTrue (is_root_or_path path)
below_root path is = by (bytes_eq path (codes "/")) (is_path path) is
  where
    by : (a b : Bool) → b ≡ true → (a || b) ≡ true
    by true b e = refl
    by false b e = e

none_fit : AreNames (components [])
none_fit = record { few = omega arith; short = All-nil (λ name. length name ≤ 255) }

pub names_fit : (action : Action) → ActionFits action → AreNames (names_of action)
names_fit actions.Mount fits = none_fit
names_fit (actions.List path) fits = fit path fits
names_fit (actions.Read path offset count) fits = fit path fits.0
names_fit (actions.Write path offset content) fits = fit path fits.0
names_fit (actions.Make path) fits = fit path (below_root path fits)
names_fit (actions.Mkdir path level) fits = fit path (below_root path fits)
names_fit (actions.Remove path) fits = fit path (below_root path fits)
names_fit (actions.Raise path level) fits = fit path (below_root path fits)
names_fit actions.Leave fits = none_fit
