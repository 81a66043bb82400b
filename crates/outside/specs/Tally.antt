-- Which calls of a disk in memory fail, and what they count.
use Rattle.std.specs.Prelude.{ℕ, List, Bool, true, false, if◌then◌else◌, Option, Some, None, ◌-◌, ◌==◌, ◌||◌}
use Rattle.std.specs.List.{list_any}
use Rattle.outside.specs.Causes.{one_more}
use Rattle.outside.specs.declared.tally.Tally.{Tally}

-- What a disk in memory keeps of its calls: the listed numbers, how many calls there were, whether a fault
-- stands, the faults and the refused growths, and the fuse and the choice that it was last armed with.
pub record Account : Type 0 where
  pub failing : List ℕ
  pub calls : ℕ
  pub failed : Bool
  pub faults : ℕ
  pub refused : ℕ
  pub left : Option ℕ
  pub choice : ℕ

abbrev pub account_of : Tally → Account
account_of t = record { failing = t.failing.items; calls = t.calls; failed = t.failed; faults = t.faults; refused = t.refused; left = t.left; choice = t.choice }

-- the next call's number is listed
abbrev pub is_listed : Account → Bool
is_listed a = list_any (λ y. y == one_more a.calls) a.failing

-- the next call fails after a fault, and where its number is listed
abbrev pub strikes : Account → Bool
strikes a = a.failed || is_listed a

-- no further write or sync passes
abbrev pub has_run_down : Option ℕ → Bool
has_run_down None = false
has_run_down (Some left) = left == 0

-- the next write or sync fails where the fuse has run down, too
abbrev pub burns : Account → Bool
burns a = has_run_down a.left || strikes a

-- a call was made, and failed or not
abbrev pub called : Bool → Account → Account
called fails a = record { failing = a.failing; calls = one_more a.calls; failed = fails; faults = if fails then one_more a.faults else a.faults; refused = a.refused; left = a.left; choice = a.choice }

-- a fault
abbrev pub faulty : Account → Account
faulty a = record { failing = a.failing; calls = a.calls; failed = true; faults = one_more a.faults; refused = a.refused; left = a.left; choice = a.choice }

-- one more write or sync
abbrev pub one_fewer : Option ℕ → Option ℕ
one_fewer None = None
one_fewer (Some left) = Some (left - 1)

-- the fuse counted the call
abbrev pub burnt : Account → Account
burnt a = record { failing = a.failing; calls = a.calls; failed = a.failed; faults = a.faults; refused = a.refused; left = one_fewer a.left; choice = a.choice }

-- a growth was refused
abbrev pub refusing : Account → Account
refusing a = record { failing = a.failing; calls = a.calls; failed = a.failed; faults = a.faults; refused = one_more a.refused; left = a.left; choice = a.choice }

-- armed
abbrev pub armed : ℕ → ℕ → Account → Account
armed after choice a = record { failing = a.failing; calls = a.calls; failed = a.failed; faults = a.faults; refused = a.refused; left = Some after; choice = choice }

-- no fault stands, and no fuse
abbrev pub restarted : Account → Account
restarted a = record { failing = a.failing; calls = a.calls; failed = false; faults = a.faults; refused = a.refused; left = None; choice = a.choice }
