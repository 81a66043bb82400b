-- What results can tell, whatever they are: FIDs, and names.
use Rattle.std.specs.Prelude.{◌≡◌, true, Option, Some, None}
use Rattle.std.specs.List.{AllByRecursion}
use Rattle.fid_space.specs.declared.fid.Fid.{Fid}
use Rattle.fid_space.specs.FidText.{IsFid}
use Rattle.plan_base.specs.declared.seen.NamesFact.{NamesFact}
use Rattle.plan_base.specs.Listed.{is_name}
use Rattle.plan_base.specs.Told.{Told}

-- what a name stands for, if anything, is a FID
abbrev pub IsChild : Option Fid → Type 0
IsChild None = Unit {0}
IsChild (Some child) = IsFid child

-- each entry of a part has a name
abbrev pub AreNamed : NamesFact → Type 0
AreNamed fact = AllByRecursion (λ e. is_name e.0 ≡ true) fact.entries

-- what was told was heard in results
abbrev pub IsHeard : Told → Type 0
IsHeard t = AllByRecursion (λ e. IsChild e.child) t.entries × AllByRecursion AreNamed t.names
