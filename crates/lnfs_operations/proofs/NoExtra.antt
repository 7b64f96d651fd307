-- No further operations meet what further operations owe.
use Rattle.std.proofs.Common.{refl, arith, inl}
use Rattle.lnfs_operations.specs.Extra.{AreLawful, no_extra}
use Rattle.lnfs_world.proofs.Tamed.{tame_itself}

pub no_extra_is_lawful : AreLawful no_extra
no_extra_is_lawful = record {
  begins = λ w. tt;
  bears = λ a b rows tame fact. tt;
  laws = λ site lattice number arguments. record {
    answer = λ level p a b above sa sb e. refl;
    place = λ level p a b above sa sb e. refl;
    seen = λ level p a b above sa sb e. e;
    unseen = λ level p a apart stands. refl;
    stands = λ p a stands. stands;
    subject = λ p a stands. refl;
  };
  tame = λ site lattice number arguments p a stands. record {
    untouched = record { clients = refl; sessions = refl; contexts = refl; last_clients = refl; last_sessions = refl; last_contexts = refl; labels = λ i l m here there. cc; new = λ i m none there. absurd cc };
    tame = tame_itself a.world;
    bounds = λ labels level bounds. bounds;
    moved = record { current = inl refl; saved = inl refl };
    refused = ((λ e. omega (arith, e)), refl, refl);
    bound = omega arith;
  };
}
