use Rattle.lnfs_data.proofs.InWorlds.{size_in, write_in, zero_in, copy_in, move_in, access_in}
use Rattle.lnfs_data.proofs.laws.law_worlds.Goals as goal

pub returns : goal.returns
returns c = record {
  set_size = λ f touches t u i size at r does. size_in f touches t u i size at r does;
  write = λ f touches t u i offset bytes at r does. write_in f touches t u i offset bytes at r does;
  zero = λ f touches t u i first end at r does. zero_in f touches t u i first end at r does;
  copy = λ f touches t u from to source target count at r does. copy_in f touches t u to from source target count at r does;
  copy_within = λ f touches t u i from to count at r does. move_in f touches t u i from to count at r does;
  touch = λ f touches t u i at is. access_in f touches t u i at is;
}
