-- What is shown of a cluster.
use Rattle.std.specs.Prelude.{ℕ, ◌+◌, nat_lt, if◌then◌else◌, List, [], ◌∷◌, ◌++◌, length, Option, Some, None}
use Rattle.std.specs.List.{flat_map}
use Rattle.std.specs.Option.{option_map}
use Rattle.tree_model.specs.Tree.{Grown, bare}
use Rattle.object_store.specs.Objects.{ObjectMap}
use Rattle.share_tree.specs.Made.{with_all}
use Rattle.cluster_mail.specs.Mail.{Sent, waits}
use Rattle.scenario_text.specs.declared.line.Line.{Line}
use Rattle.target_turns.specs.Target.{Target, serves}
use Rattle.target_turns.specs.Showing.{line_of, objects_of}

-- ---- messages

abbrev pub message_lines : ℕ → Sent → List Line
message_lines k s = if waits s then line_of k s.message ∷ [] else []

-- each message that waits, where the first of the list has this number
abbrev pub list_lines : ℕ → List Sent → List Line
list_lines k [] = []
list_lines k (s ∷ ss) = message_lines k s ++ list_lines (k + 1) ss

-- ---- what is in the way of a tree, and of a clean end

-- the lowest target that doesn't serve, where the first of the list has this number
abbrev pub first_resting : ℕ → List Target → Option ℕ
first_resting i [] = None
first_resting i (t ∷ ts) = if serves t then first_resting (i + 1) ts else Some i

-- the number of the request that holds a target
abbrev pub holder_of : Target → Option ℕ
holder_of t = option_map (λ h. h.number) t.node.holder

abbrev pub lesser : ℕ → ℕ → ℕ
lesser m n = if nat_lt n m then n else m

-- the least of what there is
abbrev pub least : Option ℕ → Option ℕ → Option ℕ
least None other = other
least (Some m) None = Some m
least (Some m) (Some n) = Some (lesser m n)

-- the lowest request that holds one of these targets, or this one
abbrev pub in_flight_from : Option ℕ → List Target → Option ℕ
in_flight_from found [] = found
in_flight_from found (t ∷ ts) = in_flight_from (least found (holder_of t)) ts

-- the lowest request in flight
abbrev pub first_in_flight : List Target → Option ℕ
first_in_flight ts = in_flight_from None ts

-- ---- the tree

abbrev pub objects_in : Option ObjectMap → List ObjectMap
objects_in None = []
objects_in (Some objects) = objects ∷ []

-- what the objects of all targets make up
abbrev pub tree_of : List Target → Grown
tree_of ts = record { targets = length ts; tree = with_all bare (flat_map (λ t. objects_in (objects_of t)) ts) }
