-- What a planner was told so far: the last answer to each question.
use Rattle.std.specs.Prelude.{ℕ, ◌+◌, ◌==◌, ◌&&◌, Bool, true, List, [], ◌∷◌, ◌++◌, Option, Some, None, Result, Ok, Err, if◌then◌else◌, refl}
use Rattle.std.specs.FinMap.{FinMap, get}
use Rattle.std.specs.FinMap as map
use Rattle.std.specs.Coded.{Coded, code_by, coded×, coded_ℕ, coded_list, coded_option}
use Rattle.fid_space.specs.declared.fid.Fid.{Fid}
use Rattle.tree_model.specs.Fids.{fid_cmp, same_fid, same_name, coded_fid, coded_name}
use Rattle.striped_dir.specs.declared.layout.Layout.{Layout}
use Rattle.object_store.specs.declared.body.Body.{Body}
use Rattle.object_store.specs.Objects.{coded_body}
use Rattle.plan_base.specs.declared.seen.Seen.{Seen}
use Rattle.plan_base.specs.declared.seen.EntryFact.{EntryFact}
use Rattle.plan_base.specs.declared.seen.CountFact.{CountFact}
use Rattle.plan_base.specs.declared.seen.ValueFact.{ValueFact}
use Rattle.plan_base.specs.declared.seen.NamesFact.{NamesFact}
use Rattle.plan_base.specs.declared.question.Question.TheVariants as question
use Rattle.plan_base.specs.declared.question.Question.{Question}
use Rattle.plan_base.specs.declared.question.Stop.{Stop}
use Rattle.plan_base.specs.declared.question.Stop.TheVariants as stop

-- nodes by their FIDs, none where there is none; what names stand for; how many entries parts have; values; the
-- entries of parts
pub record Told : Type 0 where
  pub nodes : FinMap fid_cmp (Option Seen)
  pub entries : List EntryFact
  pub counts : List CountFact
  pub values : List ValueFact
  pub names : List NamesFact

abbrev pub untold : Told
untold = record { nodes = map.empty; entries = []; counts = []; values = []; names = [] }

abbrev pub entry_in : List EntryFact → Fid → List ℕ → Option (Option Fid)
entry_in [] directory name = None
entry_in (e ∷ es) directory name = if same_fid e.directory directory && same_name e.name name then Some e.child else entry_in es directory name

abbrev pub count_in : List CountFact → Fid → ℕ → Option ℕ
count_in [] directory index = None
count_in (e ∷ es) directory index = if same_fid e.directory directory && (e.index == index) then Some e.entries else count_in es directory index

abbrev pub value_in : List ValueFact → Fid → List ℕ → Option (Option (List ℕ))
value_in [] fid name = None
value_in (e ∷ es) fid name = if same_fid e.fid fid && same_name e.name name then Some e.value else value_in es fid name

abbrev pub names_in : List NamesFact → Fid → ℕ → Option (List (List ℕ × Fid))
names_in [] directory index = None
names_in (e ∷ es) directory index = if same_fid e.directory directory && (e.index == index) then Some e.entries else names_in es directory index

-- the answer to a question, if it is known; else the question
abbrev pub known : {A : Type 0} → Question → Option A → Result A Stop
known q None = Err (stop.Ask q)
known q (Some a) = Ok a

abbrev pub node_told : Told → Fid → Result (Option Seen) Stop
node_told t fid = known (question.Node fid) (get t.nodes fid)

abbrev pub entry_told : Told → Fid → Layout → List ℕ → Result (Option Fid) Stop
entry_told t directory layout name = known (question.Entry directory layout name) (entry_in t.entries directory name)

abbrev pub count_told : Told → Fid → Layout → ℕ → Result ℕ Stop
count_told t directory layout index = known (question.Count directory layout index) (count_in t.counts directory index)

abbrev pub value_told : Told → Fid → List ℕ → Result (Option (List ℕ)) Stop
value_told t fid name = known (question.Value fid name) (value_in t.values fid name)

abbrev pub names_told : Told → Fid → Layout → ℕ → Result (List (List ℕ × Fid)) Stop
names_told t directory layout index = known (question.Names directory layout index) (names_in t.names directory index)

-- how they are told apart
abbrev pub coded_seen : Coded Seen
coded_seen = code_by (Body × ℕ) (coded× coded_body coded_ℕ) (λ s. (s.body, s.attributes)) (λ p. record { body = p.0; attributes = p.1 }) (λ _. refl)

abbrev pub coded_entry : Coded EntryFact
coded_entry = code_by (Fid × (List ℕ × Option Fid)) (coded× coded_fid (coded× coded_name (coded_option coded_fid))) (λ e. (e.directory, (e.name, e.child))) (λ p. record { directory = p.0; name = p.1.0; child = p.1.1 }) (λ _. refl)

abbrev pub coded_count : Coded CountFact
coded_count = code_by (Fid × (ℕ × ℕ)) (coded× coded_fid (coded× coded_ℕ coded_ℕ)) (λ e. (e.directory, (e.index, e.entries))) (λ p. record { directory = p.0; index = p.1.0; entries = p.1.1 }) (λ _. refl)

abbrev pub coded_value : Coded ValueFact
coded_value = code_by (Fid × (List ℕ × Option (List ℕ))) (coded× coded_fid (coded× coded_name (coded_option coded_name))) (λ e. (e.fid, (e.name, e.value))) (λ p. record { fid = p.0; name = p.1.0; value = p.1.1 }) (λ _. refl)

abbrev pub coded_names : Coded NamesFact
coded_names = code_by (Fid × (ℕ × List (List ℕ × Fid))) (coded× coded_fid (coded× coded_ℕ (coded_list (coded× coded_name coded_fid)))) (λ e. (e.directory, (e.index, e.entries))) (λ p. record { directory = p.0; index = p.1.0; entries = p.1.1 }) (λ _. refl)

abbrev pub coded_told : Coded Told
coded_told =
    code_by (FinMap fid_cmp (Option Seen) × (List EntryFact × (List CountFact × (List ValueFact × List NamesFact))))
    (coded× (map.code coded_fid (coded_option coded_seen)) (coded× (coded_list coded_entry) (coded× (coded_list coded_count) (coded× (coded_list coded_value) (coded_list coded_names)))))
    (λ t. (t.nodes, (t.entries, (t.counts, (t.values, t.names))))) (λ p. record { nodes = p.0; entries = p.1.0; counts = p.1.1.0; values = p.1.1.1.0; names = p.1.1.1.1 }) (λ _. refl)
