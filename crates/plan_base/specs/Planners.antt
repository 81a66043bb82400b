-- A planner as a value, and its steps.
use Rattle.std.specs.Prelude.{◌≡◌, ◌⊎◌, refl, ℕ, zero, suc, ◌==◌, ◌||◌, Bool, false, ◌++◌, List, [], ◌∷◌, length, true, ◌<◌, Option, Some, None, Result, Ok, Err, if◌then◌else◌}
use Rattle.std.specs.Int.{w32}
use Rattle.std.specs.List.{flat_map}
use Rattle.std.specs.FinMap.{insert}
use Rattle.striped_dir.specs.declared.layout.Layout.{Layout}
use Rattle.striped_dir.specs.Layouts.{laid}
use Rattle.object_store.specs.Objects.{coded_layout}
use Rattle.std.specs.Coded.{Coded, code_by, coded×, coded⊎, coded_ℕ, coded_option}
use mathlib.Core.Logic.{inl, inr}
use Rattle.tree_model.specs.Codes.{coded_op}
use Rattle.tree_model.specs.Fids.{coded_fid, coded_name}
use Rattle.fid_space.specs.declared.fid.Fid.{Fid}
use Rattle.fid_space.specs.Places.{place_of}
use Rattle.byte_grammar.specs.Values.{number_at}
use Rattle.out_update.specs.declared.update.Update.{Update}
use Rattle.out_update.specs.declared.update.Kind.TheVariants as kind
use Rattle.out_update.specs.declared.result.UpdateResult.{UpdateResult}
use Rattle.out_update.specs.Values.{fid_value, front}
use Rattle.out_update.specs.Types.{is_read}
use Rattle.out_update.specs.Spelling.{FitsUpdate}
use Rattle.update_record.specs.Spelling.{targets_from}
use Rattle.tree_model.specs.declared.op.Op.{Op}
use Rattle.tree_model.specs.declared.reply.Reply.{Reply}
use Rattle.tree_model.specs.declared.reply.Reply.TheVariants as replies
use Rattle.tree_model.specs.Participants.{home_of}
use Rattle.striped_dir.specs.declared.plan.Need.{Need}
use Rattle.striped_dir.specs.declared.plan.Step.{Step}
use Rattle.striped_dir.specs.declared.plan.Step.TheVariants as steps
use Rattle.striped_dir.specs.declared.plan.Decision.{Decision}
use Rattle.object_store.specs.declared.body.Body.{Body}
use Rattle.object_store.specs.declared.fault.ImageFault.{ImageFault}
use Rattle.object_store.specs.ImageReading.{body_at}
use Rattle.plan_base.specs.declared.question.Question.{Question}
use Rattle.plan_base.specs.declared.question.Question.TheVariants as question
use Rattle.plan_base.specs.declared.question.Stop.{Stop}
use Rattle.plan_base.specs.declared.question.Stop.TheVariants as stop
use Rattle.plan_base.specs.declared.outcome.Outcome.{Outcome}
use Rattle.plan_base.specs.declared.seen.Seen.{Seen}
use Rattle.plan_base.specs.Told.{Told, coded_told}
use Rattle.plan_base.specs.Listed.{listed_in}
use Rattle.plan_base.specs.Asks.{answer}
use Rattle.plan_base.specs.Planning.{asks}
use Rattle.plan_base.specs.Places.{node_place, entry_at, count_at}
use Rattle.plan_base.specs.Updates.{Placed}

-- the cluster, the operation and its batch, what was told so far, and the question that waits for an answer
pub record Planning : Type 0 where
  pub targets : ℕ
  pub op : Op
  pub batch : ℕ
  pub told : Told
  pub asked : Option Question

-- ---- questions as updates of a read type

abbrev pub need_of : ℕ → Question → Need
need_of targets (question.Node fid) = record { target = node_place targets fid; ask = record { kind = kind.AttrGet; batch = 0; fid = fid; params = [] } }
need_of targets (question.Value fid name) = record { target = node_place targets fid; ask = record { kind = kind.XattrGet; batch = 0; fid = fid; params = name ∷ [] } }
need_of targets (question.Entry directory layout name) =
    let at = entry_at targets directory (laid layout) name in
    record { target = at.0; ask = record { kind = kind.Lookup; batch = 0; fid = at.1; params = name ∷ [] } }
need_of targets (question.Count directory layout index) =
    let at = count_at targets directory (laid layout) index in
    record { target = at.0; ask = record { kind = kind.Count; batch = 0; fid = at.1; params = [] } }
need_of targets (question.Names directory layout index) =
    let at = count_at targets directory (laid layout) index in
    record { target = at.0; ask = record { kind = kind.Names; batch = 0; fid = at.1; params = [] } }

-- ---- results

-- a body and the count of attributes behind it
abbrev pub seen_behind : Result (Body × List ℕ) ImageFault → Option Seen
seen_behind (Err e) = None
seen_behind (Ok b) = with_count b.0 (number_at w32 b.1)
  where
    with_count : Body → Option (ℕ × List ℕ) → Option Seen
    with_count b None = None
    with_count b (Some n) = Some (record { body = b; attributes = n.0 })

unfoldable pub seen_in : List ℕ → Option Seen
seen_in bytes = seen_behind (body_at (length bytes) bytes)

abbrev pub number_or_none : Option (ℕ × List ℕ) → ℕ
number_or_none None = 0
number_or_none (Some n) = n.0

-- what a result tells of a node, a name, a part and an attribute; an error tells that nothing is there
abbrev pub node_in : UpdateResult → Option Seen
node_in r = if r.code == 0 then seen_in r.body else None

abbrev pub child_in : UpdateResult → Option Fid
child_in r = if r.code == 0 then front (fid_value r.body) else None

abbrev pub entries_in : UpdateResult → ℕ
entries_in r = if r.code == 0 then number_or_none (number_at w32 r.body) else 0

abbrev pub attribute_in : UpdateResult → Option (List ℕ)
attribute_in r = if r.code == 0 then Some r.body else None

abbrev pub told_more : Told → Question → UpdateResult → Told
told_more t (question.Node fid) r = record t { nodes = insert t.nodes fid (node_in r) }
told_more t (question.Entry directory layout name) r = record t { entries = t.entries ++ record { directory = directory; name = name; child = child_in r } ∷ [] }
told_more t (question.Count directory layout index) r = record t { counts = t.counts ++ record { directory = directory; index = index; entries = entries_in r } ∷ [] }
told_more t (question.Value fid name) r = record t { values = t.values ++ record { fid = fid; name = name; value = attribute_in r } ∷ [] }
told_more t (question.Names directory layout index) r = record t { names = t.names ++ record { directory = directory; index = index; entries = listed_in r } ∷ [] }

abbrev pub told_after : Told → Option Question → Option UpdateResult → Told
told_after t None r = t
told_after t (Some q) None = t
told_after t (Some q) (Some r) = told_more t q r

-- ---- decisions

-- the updates of a target, in their order
abbrev pub part_for : ℕ → List Placed → List Update
part_for target [] = []
part_for target (p ∷ ps) = if p.0 == target then p.1 ++ part_for target ps else part_for target ps

-- some update is for it
abbrev pub has_part : ℕ → List Placed → Bool
has_part target [] = false
has_part target (p ∷ ps) = (p.0 == target) || has_part target ps

abbrev pub is_home : Option ℕ → ℕ → Bool
is_home None target = false
is_home (Some home) target = home == target

-- of so many targets from one on, the home and those with an update, each with its updates
unfoldable pub parts_from : Option ℕ → List Placed → ℕ → ℕ → List (ℕ × List Update)
parts_from home placed target zero = []
parts_from home placed target (suc left) =
    if is_home home target || has_part target placed then (target, part_for target placed) ∷ parts_from home placed (suc target) left
    else parts_from home placed (suc target) left

abbrev pub decision_with : Reply → List (ℕ × List Update) → Decision
decision_with reply parts = record { reply = reply; parts = parts; on = targets_from 0 parts }

abbrev pub decision_of : ℕ → Op → Outcome → Decision
decision_of targets op o = decision_with o.reply (parts_from (home_of targets op) o.placed 0 targets)

abbrev pub refusal_of : Reply → Outcome
refusal_of reply = record { reply = reply; placed = [] }

-- ---- steps

abbrev pub step_at : ℕ → Op → Result Outcome Stop → Step
step_at targets op (Ok o) = steps.Decided (decision_of targets op o)
step_at targets op (Err (stop.Ask q)) = steps.Need (need_of targets q)
step_at targets op (Err (stop.Refused e)) = steps.Decided (decision_of targets op (refusal_of (replies.Err e)))
step_at targets op (Err stop.Memory) = steps.Decided (decision_of targets op (refusal_of replies.Ok))

abbrev pub asked_at : Result Outcome Stop → Option Question
asked_at (Ok o) = None
asked_at (Err (stop.Ask q)) = Some q
asked_at (Err (stop.Refused e)) = None
asked_at (Err stop.Memory) = None

-- how far a planner is
abbrev pub reached : ℕ → ℕ → Op → Told → Result Outcome Stop
reached targets batch op t = answer t (asks targets batch op)

-- the planner after an answer, and its step
abbrev pub after_fact : Planning → Option UpdateResult → Planning
after_fact p r =
    let t = told_after p.told p.asked r in
    record { targets = p.targets; op = p.op; batch = p.batch; told = t; asked = asked_at (reached p.targets p.batch p.op t) }

abbrev pub step_after : Planning → Option UpdateResult → Step
step_after p r =
    let t = told_after p.told p.asked r in
    step_at p.targets p.op (reached p.targets p.batch p.op t)

-- how they are told apart
abbrev pub Fields : Type 0
Fields = Fid ⊎ ((Fid × (Layout × List ℕ)) ⊎ ((Fid × (Layout × ℕ)) ⊎ ((Fid × List ℕ) ⊎ (Fid × (Layout × ℕ)))))

abbrev pub question_fields : Question → Fields
question_fields (question.Node f) = inl f
question_fields (question.Entry d l x) = inr (inl (d, (l, x)))
question_fields (question.Count d l i) = inr (inr (inl (d, (l, i))))
question_fields (question.Value f x) = inr (inr (inr (inl (f, x))))
question_fields (question.Names d l i) = inr (inr (inr (inr (d, (l, i)))))

abbrev pub question_of : Fields → Question
question_of (inl f) = question.Node f
question_of (inr (inl v)) = question.Entry v.0 v.1.0 v.1.1
question_of (inr (inr (inl v))) = question.Count v.0 v.1.0 v.1.1
question_of (inr (inr (inr (inl v)))) = question.Value v.0 v.1
question_of (inr (inr (inr (inr v)))) = question.Names v.0 v.1.0 v.1.1

abbrev pub question_again : (q : Question) → question_of (question_fields q) ≡ q
question_again (question.Node f) = refl
question_again (question.Entry d l x) = refl
question_again (question.Count d l i) = refl
question_again (question.Value f x) = refl
question_again (question.Names d l i) = refl

abbrev pub coded_question : Coded Question
coded_question = code_by Fields (coded⊎ coded_fid (coded⊎ (coded× coded_fid (coded× coded_layout coded_name)) (coded⊎ (coded× coded_fid (coded× coded_layout coded_ℕ)) (coded⊎ (coded× coded_fid coded_name) (coded× coded_fid (coded× coded_layout coded_ℕ)))))) question_fields question_of question_again

abbrev pub coded_planning : Coded Planning
coded_planning =
    code_by (ℕ × (Op × (ℕ × (Told × Option Question)))) (coded× coded_ℕ (coded× coded_op (coded× coded_ℕ (coded× coded_told (coded_option coded_question)))))
    (λ p. (p.targets, (p.op, (p.batch, (p.told, p.asked))))) (λ p. record { targets = p.0; op = p.1.0; batch = p.1.1.0; told = p.1.1.1.0; asked = p.1.1.1.1 }) (λ _. refl)

-- a need has a spelling, of a read type, and is for a target that there may be
pub record FitsNeed (n : Need) : Type 0 where
  pub ask : FitsUpdate n.ask
  pub read : is_read n.ask.kind ≡ true
  pub target : n.target < 16

abbrev pub IsAsked : Step → Type 0
IsAsked (steps.Need n) = FitsNeed n
IsAsked (steps.Decided d) = Unit {0}
