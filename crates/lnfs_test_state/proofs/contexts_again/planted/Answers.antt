use Rattle.std.proofs.Common.{◌≡◌, refl, sym, subst, arith}
use Rattle.std.proofs.lemmas.Result.{IfOk-weaker}
use Rattle.lnfs_rows.specs.Lasts.{given_of, each_of}
use Rattle.lnfs_gss3.specs.Contexts.{Lists}
use Rattle.lnfs_gss3.specs.Makes.{MakesContexts}
use Rattle.lnfs_test_state.proofs.contexts_again.planted.Goals as goal

-- what is kept together
abbrev Makes : Lists → Type 0
Makes lists = MakesContexts lists.contexts lists.lasts

abbrev Again : Lists → Type 0
Again lists = given_of (each_of 2 lists.lasts) ≡ lists.lasts

pub from_rows-requires : goal.from_rows-requires
from_rows-requires c = record {
  makes = record {
    numbered = record {
      rise = ((refl, (refl, tt)), ((refl, tt), (tt, tt)));
      given = (refl, (refl, (refl, tt)));
      numbers = (omega arith, (omega arith, (omega arith, tt)));
      fits = (record { level = omega arith; number = omega arith }, (record { level = omega arith; number = omega arith }, tt));
    };
    parents = (omega arith, (omega arith, (omega arith, tt)));
  };
}

pub returns-clause-makes : goal.returns-clause-makes
returns-clause-makes c = IfOk-weaker c.from_rows.result _ Makes (λ contexts is. subst Makes (sym is) (record {
  numbered = record {
    rise = ((refl, (refl, tt)), ((refl, tt), (tt, tt)));
    given = (refl, (refl, (refl, tt)));
    numbers = (omega arith, (omega arith, (omega arith, tt)));
    fits = (record { level = omega arith; number = omega arith }, (record { level = omega arith; number = omega arith }, tt));
  };
  parents = (omega arith, (omega arith, (omega arith, tt)));
})) c.from_rows.ensures

pub returns-clause-lasts : goal.returns-clause-lasts
returns-clause-lasts c = IfOk-weaker c.from_rows.result _ Again (λ contexts is. subst Again (sym is) refl) c.from_rows.ensures
