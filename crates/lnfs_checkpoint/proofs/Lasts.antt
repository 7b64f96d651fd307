-- The last numbers of a sound world and of its locks are those of the levels of its site, and have room.
use Rattle.std.proofs.Common.{◌≡◌, ◌<◌, ◌^◌, ℕ, zero, suc, Bool, true, false, cond, List, Option, Some, None, length, refl, sym, ap, ◌∙◌, arith}
use Rattle.std.specs.Prelude.{◌==◌, nat_lt, find}
use Rattle.std.specs.List.{AllByRecursion}
use Rattle.std.proofs.lemmas.Bool.Decides.{nat_tests}
use Rattle.lnfs_world.specs.Rows.{Rising}
use Rattle.lnfs_world.specs.World as world
use Rattle.lnfs_world.specs.World.{Id, World, level_order, last_of, number_in}
use Rattle.lnfs_world.specs.Outcome.{Site}
use Rattle.lnfs_world.proofs.Rows.{all_weaker, all_find}
use Rattle.lnfs_operations.specs.Bounds.{IsGivenBy, IsSound}
use Rattle.lnfs_rows.specs.Lasts.{given_of, each_from, each_of}
use Rattle.lnfs_rows.specs.World.{AreOf}
use Rattle.lnfs_rows.specs.declared.lists.Lasts.{Lasts}
use Rattle.lnfs_layout.specs.Fits.{NumbersFit, WorldLastsFit}
use Rattle.lnfs_layout.specs.Lasts.{AreEach, AreOfLevels}
use Rattle.lnfs_locks.specs.Locks.{Locks}
use Rattle.lnfs_lock_rows.specs.Bounds.{LocksFit}
use Rattle.lnfs_decide.specs.Lasts.{IsOfLevels}
use Rattle.lnfs_decide.proofs.LastNumbers.{forth}
use Rattle.lnfs_checkpoint.specs.Telling.{AreLastsOf}

-- where labels are carried alone the level is 0
is_below : (limited : Bool) (levels level : ℕ) → 0 < levels → cond limited (level == 0) (nat_lt level levels) ≡ true → level < levels
is_below true levels level some e = grind (arith, nat_tests)
is_below false levels level some e = grind (arith, nat_tests)

of_levels : (site : Site) (lasts : List Id) → 0 < site.levels → AllByRecursion (IsGivenBy site) lasts → IsOfLevels site.levels lasts
of_levels site lasts some all = all_weaker (IsGivenBy site) (λ i. (i.level < site.levels) × (0 < i.number)) (λ i given. (is_below site.limited site.levels i.level some given.level, omega (arith, given.number.0))) lasts all

each_again : (site : Site) (lasts : List Id) → 0 < site.levels → Rising level_order lasts → AllByRecursion (IsGivenBy site) lasts → given_of (each_of site.levels lasts) ≡ lasts
each_again site lasts some rise all = forth site.levels lasts rise (of_levels site lasts some all)

pub lasts_are : (site : Site) (w : World) → 0 < site.levels → IsSound site w → AreOfLevels site.levels w.lasts
lasts_are site w some sound = record {
  clients = each_again site w.lasts.clients some sound.facts.clients.lasts_rise sound.bounds.rows.lasts.clients;
  sessions = each_again site w.lasts.sessions some sound.facts.sessions.lasts_rise sound.bounds.rows.lasts.sessions;
  contexts = each_again site w.lasts.contexts some sound.facts.contexts.lasts_rise sound.bounds.rows.lasts.contexts;
  nodes = each_again site w.lasts.nodes some sound.facts.nodes.lasts_rise sound.bounds.rows.lasts.nodes;
  opens = each_again site w.lasts.opens some sound.facts.opens.lasts_rise sound.bounds.rows.lasts.opens;
}

pub lock_lasts_are : (site : Site) (w : World) (own : Locks) → 0 < site.levels → LocksFit site w own → AreEach site.levels own.lasts
lock_lasts_are site w own some fit = each_again site own.lasts some fit.facts.lasts_rise fit.bounds.lasts

-- ---- room

number_fits : (site : Site) (o : Option Id) → ((i : Id) → o ≡ Some i → IsGivenBy site i) → number_in o < 2 ^ 64
number_fits site None given = omega arith
number_fits site (Some i) given = omega (arith, (given i refl).number.1)

last_fits : (site : Site) (lasts : List Id) → AllByRecursion (IsGivenBy site) lasts → NumbersFit lasts
last_fits site lasts all = λ level. number_fits site (find (λ i. i.level == level) lasts) (λ i found. (all_find (IsGivenBy site) (λ j. j.level == level) lasts i all found).0)

pub lasts_fit : (site : Site) (w : World) → IsSound site w → WorldLastsFit w.lasts
lasts_fit site w sound = record {
  clients = last_fits site w.lasts.clients sound.bounds.rows.lasts.clients;
  sessions = last_fits site w.lasts.sessions sound.bounds.rows.lasts.sessions;
  contexts = last_fits site w.lasts.contexts sound.bounds.rows.lasts.contexts;
  nodes = last_fits site w.lasts.nodes sound.bounds.rows.lasts.nodes;
  opens = last_fits site w.lasts.opens sound.bounds.rows.lasts.opens;
}

pub lock_lasts_fit : (site : Site) (w : World) (own : Locks) → LocksFit site w own → NumbersFit own.lasts
lock_lasts_fit site w own fit = last_fits site own.lasts fit.bounds.lasts

-- ---- told one for each level

length_each : (level levels : ℕ) (lasts : List Id) → length (each_from level levels lasts) ≡ levels
length_each level zero lasts = refl
length_each level (suc levels) lasts = ap suc (length_each (suc level) levels lasts)

pub each_length : (levels : ℕ) (ns : List ℕ) (lasts : List Id) → ns ≡ each_of levels lasts → length ns ≡ levels
each_length levels ns lasts e = ap length e ∙ length_each 0 levels lasts

pub are_of : (levels : ℕ) (w : world.Lasts) (l : Lasts) → AreLastsOf levels w l → AreOf levels l
are_of levels w l told = record {
  clients = each_length levels l.clients.items w.clients told.clients;
  sessions = each_length levels l.sessions.items w.sessions told.sessions;
  contexts = each_length levels l.contexts.items w.contexts told.contexts;
  nodes = each_length levels l.nodes.items w.nodes told.nodes;
  opens = each_length levels l.opens.items w.opens told.opens;
}
