-- What a planner keeps of a walk, and when it may: what more is told leaves what the walk passed as it was.
use Rattle.std.specs.Prelude.{◌≡◌, Option, Some, None}
use Rattle.std.specs.FinMap.{get}
use Rattle.fid_space.specs.declared.fid.Fid.{Fid}
use Rattle.plan_base.specs.declared.seen.Seen.{Seen}
use Rattle.plan_base.specs.declared.question.Question.{Question}
use Rattle.plan_base.specs.declared.question.Question.TheVariants as question
use Rattle.plan_base.specs.Told.{Told}
use Rattle.plan_base.specs.Asks.{walk_told}
use Rattle.plan_base.specs.Planners.{Planning}
use Rattle.cross_rename.specs.declared.walks.Walked.{Walked}

-- what was told of each node is told there too
abbrev pub HasNodesOf : Told → Told → Type 0
HasNodesOf more told = (fid : Fid) (seen : Option Seen) → get told.nodes fid ≡ Some seen → get more.nodes fid ≡ Some seen

-- whatever more is told of nodes, the walk comes to what it comes to from the member that it reached
abbrev pub IsOnTheWay : Told → Walked → Type 0
IsOnTheWay told w = (more : Told) → HasNodesOf more told → walk_told more w.moved 1023 w.from ≡ walk_told more w.moved w.left w.at

abbrev pub MayKeep : Told → Option Walked → Type 0
MayKeep told None = Unit {0}
MayKeep told (Some w) = IsOnTheWay told w

-- a node that is asked for isn't known
abbrev pub IsOpen : Told → Option Question → Type 0
IsOpen told None = Unit {0}
IsOpen told (Some (question.Node fid)) = get told.nodes fid ≡ None
IsOpen told (Some (question.Entry directory layout name)) = Unit {0}
IsOpen told (Some (question.Count directory layout index)) = Unit {0}
IsOpen told (Some (question.Value fid name)) = Unit {0}
IsOpen told (Some (question.Names directory layout index)) = Unit {0}

-- a walk is kept where what is heard next changes nothing of what it passed
abbrev pub Keeps : Planning → Option Walked → Type 0
Keeps p None = Unit {0}
Keeps p (Some w) = IsOpen p.told p.asked × IsOnTheWay p.told w
