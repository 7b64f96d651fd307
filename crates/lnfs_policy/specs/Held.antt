-- The policy that the fields of the code's `Policy` hold.
use Rattle.lnfs_policy.specs.Policy.{Policy}
use Rattle.lnfs_policy.specs.PolicyText.{IsPolicy}
use Rattle.lnfs_policy.specs.declared.policy.Policy.TheInside.{Inside}

abbrev pub held : Inside → Policy
held p = record {
  text = p.text.items;
  version = p.version;
  mode = p.mode;
  labels = p.lattice;
  formats = p.formats;
  parents = p.parents.entries;
  guests = p.guests;
  quotas = p.quotas.items;
  dirs = p.dirs.items;
}

abbrev pub IsHeld : Inside → Type 0
IsHeld p = IsPolicy (held p)
