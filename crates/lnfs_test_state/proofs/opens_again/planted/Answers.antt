use Rattle.std.proofs.Common.{◌≡◌, refl, sym, subst, arith}
use Rattle.std.proofs.lemmas.Result.{IfOk-weaker}
use Rattle.lnfs_rows.specs.Lasts.{given_of, each_of}
use Rattle.lnfs_open.specs.Lists.{Lists}
use Rattle.lnfs_open.specs.Makes.{MakesOpens}
use Rattle.lnfs_test_state.proofs.opens_again.planted.Goals as goal

-- what is kept together
abbrev Makes : Lists → Type 0
Makes lists = MakesOpens lists.opens lists.lasts

abbrev Again : Lists → Type 0
Again lists = given_of (each_of 2 lists.lasts) ≡ lists.lasts

pub from_rows-requires : goal.from_rows-requires
from_rows-requires c = record {
  makes = record {
    numbered = record {
      rise = ((refl, (refl, tt)), ((refl, tt), (tt, tt)));
      given = (refl, (refl, (refl, tt)));
      numbers = (omega arith, (omega arith, (omega arith, tt)));
      fits = (record { level = omega arith; number = omega arith }, (record { level = omega arith; number = omega arith }, tt));
    };
    apart = ((refl, (refl, tt)), ((refl, tt), (tt, tt)));
    clients = (omega arith, (omega arith, (omega arith, tt)));
    nodes = (omega arith, (omega arith, (omega arith, tt)));
  };
}

pub returns-clause-makes : goal.returns-clause-makes
returns-clause-makes c = IfOk-weaker c.from_rows.result _ Makes (λ opens is. subst Makes (sym is) (record {
  numbered = record {
    rise = ((refl, (refl, tt)), ((refl, tt), (tt, tt)));
    given = (refl, (refl, (refl, tt)));
    numbers = (omega arith, (omega arith, (omega arith, tt)));
    fits = (record { level = omega arith; number = omega arith }, (record { level = omega arith; number = omega arith }, tt));
  };
  apart = ((refl, (refl, tt)), ((refl, tt), (tt, tt)));
  clients = (omega arith, (omega arith, (omega arith, tt)));
  nodes = (omega arith, (omega arith, (omega arith, tt)));
})) c.from_rows.ensures

pub returns-clause-lasts : goal.returns-clause-lasts
returns-clause-lasts c = IfOk-weaker c.from_rows.result _ Again (λ opens is. subst Again (sym is) refl) c.from_rows.ensures
