-- What the answers of an attempt settle.
use Rattle.std.specs.Prelude.{◌≡◌, ◌≤◌, ℕ, zero, suc, List, [], ◌∷◌, ◌++◌, length, Err, if◌then◌else◌}
use Rattle.std.specs.List.{flat_map}
use Rattle.std.specs.FinMap.{len}
use Rattle.fid_space.specs.declared.fid.Fid.{Fid}
use Rattle.fid_space.specs.Places.{is_stripe}
use Rattle.tree_model.specs.declared.op.Op.{Op}
use Rattle.tree_model.specs.History.{Item}
use Rattle.tree_model.specs.Kept.{laid_of}
use Rattle.tree_model.specs.Tree.{names_of, same_fid, root_fid}
use Rattle.out_update.specs.declared.result.UpdateResult.{UpdateResult}
use Rattle.striped_dir.specs.declared.plan.Decision.{Decision}
use Rattle.striped_dir.specs.declared.plan.Step.TheVariants as steps
use Rattle.striped_dir.specs.Layouts.{laid}
use Rattle.op_laws.specs.Objects.{part_named}
use Rattle.op_laws.specs.Objects.{parts_of as objects_of}
use Rattle.update_protocol.specs.Facts.{Fact, Settles}
use Rattle.plan_base.specs.declared.question.Question.{Question}
use Rattle.plan_base.specs.declared.question.Question.TheVariants as question
use Rattle.plan_base.specs.declared.question.Stop.TheVariants as stop
use Rattle.plan_base.specs.Places.{parts_of}
use Rattle.plan_base.specs.Asks.{Asks, AskDirectory, AskNode, AskValue, AskEntry, AskEmpty, AskNames, AskWalk, Refuse, Settle, directory_told, empty_told, all_names_told, walk_told, parent_seen}
use Rattle.plan_base.specs.Told.{Told, untold, node_told, entry_told, value_told}
use Rattle.plan_base.specs.Planning.{asks}
use Rattle.plan_base.specs.Planners.{need_of, told_more, reached, step_at}
use Rattle.plan_laws.specs.Truth.{part_questions, name_questions, if_ok, if_none}

-- ---- an attempt

-- each question with its result
abbrev pub Answers : Type 0
Answers = List (Question × UpdateResult)

-- what was told after these answers
abbrev pub told_all : Told → Answers → Told
told_all t [] = t
told_all t (a ∷ more) = told_all (told_more t a.0 a.1) more

-- each question is what the planner asks after the answers before it
abbrev pub AreAsked : ℕ → ℕ → Op → Told → Answers → Type 0
AreAsked targets batch op t [] = Unit {0}
AreAsked targets batch op t (a ∷ more) = (reached targets batch op t ≡ Err (stop.Ask a.0)) × AreAsked targets batch op (told_more t a.0 a.1) more

-- what was asked of targets, and their answers
abbrev pub facts_of : ℕ → Answers → List Fact
facts_of targets [] = []
facts_of targets (a ∷ more) = ((need_of targets a.0).ask, a.1) ∷ facts_of targets more

-- ---- the objects of which a planner was told

unfoldable pub walk_heard : Told → Fid → ℕ → Fid → List Question
walk_heard t moved zero at = []
walk_heard t moved (suc left) at =
    if same_fid at root_fid then []
    else (if same_fid at moved then [] else question.Node at ∷ if_ok (node_told t at) (λ seen. walk_heard t moved left (parent_seen seen)))

-- the questions that the checks go through with these answers
abbrev pub heard : Told → Asks → List Question
heard t (AskDirectory fid next) = question.Node fid ∷ if_ok (directory_told t fid) (λ seen. heard t (next seen))
heard t (AskNode fid next) = question.Node fid ∷ if_ok (node_told t fid) (λ seen. heard t (next seen))
heard t (AskValue fid name next) = question.Value fid name ∷ if_ok (value_told t fid name) (λ value. heard t (next value))
heard t (AskEntry directory layout name next) = question.Entry directory layout name ∷ if_ok (entry_told t directory layout name) (λ child. heard t (next child))
heard t (AskEmpty directory layout next) =
    part_questions directory layout 0 (parts_of (laid layout)) ++ if_ok (empty_told t directory layout) (λ is_empty. heard t (next is_empty))
heard t (AskNames directory layout next) =
    name_questions directory layout 0 (parts_of (laid layout)) ++ if_ok (all_names_told t directory layout) (λ entries. heard t (next entries))
heard t (AskWalk moved from next) = walk_heard t moved 1023 from ++ if_none (walk_told t moved 1023 from) (heard t next)
heard t (Refuse errno) = []
heard t (Settle outcome) = []

-- The objects whose last writer is told with a question's answer. All parts of a directory stand with the first.
abbrev pub objects_with : ℕ → Question → List Fid
objects_with targets (question.Node fid) = if is_stripe targets fid then [] else fid ∷ []
objects_with targets (question.Entry directory layout name) = part_named targets directory (laid layout) name ∷ []
objects_with targets (question.Count directory layout zero) = objects_of targets directory (laid layout)
objects_with targets (question.Count directory layout (suc index)) = []
objects_with targets (question.Value fid name) = []
objects_with targets (question.Names directory layout zero) = objects_of targets directory (laid layout)
objects_with targets (question.Names directory layout (suc index)) = []

abbrev pub objects_heard : ℕ → ℕ → Op → Told → List Fid
objects_heard targets batch op t = flat_map (objects_with targets) (heard t (asks targets batch op))

-- ---- the laws

-- what a planner decides after answers is settled by them
abbrev pub AnswersSettle : Type 0
AnswersSettle =
    (targets batch : ℕ) (op : Op) (answers : Answers) (d : Decision) → 1 ≤ targets → targets ≤ 16 → AreAsked targets batch op untold answers
    → step_at targets op (reached targets batch op (told_all untold answers)) ≡ steps.Decided d
    → Settles targets (facts_of targets answers) batch op (record { reply = d.reply; parts = d.parts; saw = objects_heard targets batch op (told_all untold answers) })

-- a directory has at most one entry more with each item
abbrev pub EntriesAreFew : Type 0
EntriesAreFew = (targets : ℕ) (history : List Item) (directory : Fid) → len (names_of (laid_of targets history).tree directory) ≤ length history
