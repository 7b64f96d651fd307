use Rattle.std.proofs.Common.{◌≡◌, refl, sym, subst, arith}
use Rattle.std.proofs.lemmas.Result.{IfOk-weaker}
use Rattle.lnfs_rows.specs.Lasts.{given_of, each_of}
use Rattle.lnfs_session.specs.Standing.{Lists}
use Rattle.lnfs_session.specs.Makes.{MakesClients}
use Rattle.lnfs_test_state.proofs.clients_again.planted.Goals as goal

abbrev ClientsAgain : Lists → Type 0
ClientsAgain lists = given_of (each_of 2 lists.client_lasts) ≡ lists.client_lasts

abbrev SessionsAgain : Lists → Type 0
SessionsAgain lists = given_of (each_of 2 lists.session_lasts) ≡ lists.session_lasts

pub from_rows-requires : goal.from_rows-requires
from_rows-requires c = record {
  makes = record {
    records = record {
      facts = record { rise = ((refl, tt), (tt, tt)); lasts_rise = ((refl, tt), (tt, tt)); given = (refl, (refl, tt)); rivals = ((refl, tt), (tt, tt)) };
      numbers = ((omega arith, omega arith), ((omega arith, omega arith), tt));
      fits = (record { level = omega arith; number = omega arith }, (record { level = omega arith; number = omega arith }, tt));
    };
    sessions = record {
      rise = (tt, tt);
      given = (refl, tt);
      numbers = ((omega arith, omega arith), tt);
      clients = (omega arith, tt);
      fits = (record { level = omega arith; number = omega arith }, tt);
    };
  };
}

pub returns-clause-makes : goal.returns-clause-makes
returns-clause-makes c = IfOk-weaker c.from_rows.result _ MakesClients (λ clients is. subst MakesClients (sym is) (record {
  records = record {
    facts = record { rise = ((refl, tt), (tt, tt)); lasts_rise = ((refl, tt), (tt, tt)); given = (refl, (refl, tt)); rivals = ((refl, tt), (tt, tt)) };
    numbers = ((omega arith, omega arith), ((omega arith, omega arith), tt));
    fits = (record { level = omega arith; number = omega arith }, (record { level = omega arith; number = omega arith }, tt));
  };
  sessions = record {
    rise = (tt, tt);
    given = (refl, tt);
    numbers = ((omega arith, omega arith), tt);
    clients = (omega arith, tt);
    fits = (record { level = omega arith; number = omega arith }, tt);
  };
})) c.from_rows.ensures

pub returns-clause-clients : goal.returns-clause-clients
returns-clause-clients c = IfOk-weaker c.from_rows.result _ ClientsAgain (λ clients is. subst ClientsAgain (sym is) refl) c.from_rows.ensures

pub returns-clause-sessions : goal.returns-clause-sessions
returns-clause-sessions c = IfOk-weaker c.from_rows.result _ SessionsAgain (λ clients is. subst SessionsAgain (sym is) refl) c.from_rows.ensures
